-- Values of which no two are one come to the end of their list.
use Rattle.std.proofs.Common.{◌≡◌, false, cond, List, [], ◌∷◌, ◌++◌, length, refl, ap, arith}
use Rattle.package_pool.specs.Interned.{has_same, interned, interned_place}

module _ {X : Type 0} (x : X) where
  none_there : (list : List X) → has_same (λ a b. false) list x ≡ false
  none_there [] = refl
  none_there (k ∷ ks) = none_there ks

  pub place_at_end : (list : List X) → interned_place (λ a b. false) list x ≡ length list
  place_at_end [] = refl
  place_at_end (k ∷ ks) = let h = place_at_end ks in grind (arith, h)

  pub comes_to_end : (list : List X) → interned (λ a b. false) list x ≡ list ++ x ∷ []
  comes_to_end list = ap (λ b. cond b list (list ++ x ∷ [])) (none_there list)
