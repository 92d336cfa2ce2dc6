-- What is known in a pool that is made of itself is made of what is known.
use Rattle.std.specs.Prelude.{◌≡◌, ℕ, ◌<◌, ◌∷◌, true, nat_lt, length, List, []}
use Rattle.std.specs.Prelude.{slice_get, unwrap_or, option_map, All, Option, Some}
use Rattle.std.proofs.Common.{arith, refl, zero, suc}
use Rattle.std.proofs.lemmas.Bool.{lt-ltb, ltb-true}
use Rattle.typed_ids.specs.declared.version_set_id.VersionSetId.{VersionSetId}
use Rattle.providers.specs.declared.condition.Condition.{Condition}
use Rattle.providers.specs.declared.condition.Condition.TheVariants.{Binary, Requirement}
use Rattle.providers.specs.Provider.{AreSolvableNamesKnown, AreSetNamesKnown}
use Rattle.providers.specs.Provider.{AreUnionSetsKnown, AreOperandsKnown, IsMadeOfKnown}
use Rattle.package_pool.specs.declared.solvable.Solvable.{Solvable}
use Rattle.package_pool.specs.Pool.{Lists, IsOfItself, IsMadeBelow}
use Rattle.package_pool.specs.PoolIds.{universe_in}

-- a fact of each value with its place is one of what is found below the end
at_place : {X : Type 0} (Q : Option X → Type 0) (list : List X) (place : ℕ) → nat_lt place (length list) ≡ true
    → ((x : X) → slice_get list place ≡ Some x → Q (Some x)) → Q (slice_get list place)
at_place Q [] place h each = let no : place < 0 = ltb-true place 0 h in absurd (omega (arith, no))
at_place Q (x ∷ xs) zero h each = each x refl
at_place Q (x ∷ xs) (suc place) h each = at_place Q xs place (lt-ltb _ _ (omega (arith, ltb-true _ _ h))) each

module _ {N VS V : Type 0} (p : Lists N VS V) (own : IsOfItself p) where
  pub pool_solvable_names : AreSolvableNamesKnown (universe_in p)
  pool_solvable_names s h =
      at_place (λ o. nat_lt (unwrap_or (option_map (λ (x : Solvable V). x.name) o) 0) (length p.names) ≡ true)
      p.solvables s h (λ x e. lt-ltb _ _ (own.solvables s x e))

  pub pool_set_names : AreSetNamesKnown (universe_in p)
  pool_set_names v h =
      at_place (λ o. nat_lt (unwrap_or (option_map (λ (x : ℕ × VS). x.0) o) 0) (length p.names) ≡ true)
      p.version_sets v.0 h (λ x e. lt-ltb _ _ (own.version_sets v.0 x e))

  pub pool_union_sets : AreUnionSetsKnown (universe_in p)
  pool_union_sets u h =
      at_place (λ o. All (λ (v : VersionSetId). nat_lt v.0 (length p.version_sets) ≡ true) (unwrap_or o []))
      p.unions u.0 h (λ sets e k d lt. lt-ltb _ _ (own.unions u.0 sets e k d lt))

  made_of_known : (index : ℕ) (c : Condition) → index < length p.conditions → IsMadeBelow p index c
      → IsMadeOfKnown (universe_in p) index c
  made_of_known index (Binary operator left right) h m =
      (lt-ltb _ _ (omega (arith, h, m.0)), m.0, lt-ltb _ _ (omega (arith, h, m.1)), m.1)
  made_of_known index (Requirement set) h m = lt-ltb _ _ m

  pub pool_operands : AreOperandsKnown (universe_in p)
  pool_operands index h =
      at_place (λ o. IsMadeOfKnown (universe_in p) index (unwrap_or o (Requirement (record { 0 = 0 }))))
      p.conditions index h
      (λ c e. made_of_known index c (ltb-true _ _ h) (own.conditions index c e))
