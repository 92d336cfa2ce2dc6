-- What `update_all` of a table leaves, one entry after another.
use Rattle.std.proofs.Common.{◌≡◌, ℕ, zero, suc, ◌+◌, Bool, true, false, cond, List, [], ◌∷◌, length, Some, refl, sym}
use Rattle.std.proofs.Common.{ap, subst, arith, rules}
use Rattle.std.specs.Prelude.{slice_get, is_some}
use Rattle.std.specs.Option.{unwrap_or}
use Rattle.std.specs.Map.{lookup, values_of}
use Rattle.indexmap.specs.IndexMap.{set_value_at}

module _ {K V : Type 0} (Becomes : V → V → Type 0) where
  -- the values of the first n entries are changed, and all else is as it was
  abbrev pub Changed : ℕ → List (K × V) → List (K × V) → Type 0
  Changed zero old new = new ≡ old
  Changed (suc n) [] [] = Unit {0}
  Changed (suc n) (o ∷ old) (e ∷ new) = (e.0 ≡ o.0) × Becomes o.1 e.1 × Changed n old new
  Changed (suc n) [] (e ∷ new) = ⊥
  Changed (suc n) (o ∷ old) [] = ⊥

  change_next : (n : ℕ) (old new : List (K × V)) (value changed : V) → Changed n old new →
      slice_get (values_of new) n ≡ Some value → Becomes value changed →
      Changed (suc n) old (set_value_at new n changed)
  change_next zero old [] value changed h at becomes = let no : ⊥ = cc in absurd no
  change_next zero old (e ∷ new) value changed h at becomes =
      let same : e.1 ≡ value = search rules in
      subst (λ entries. Changed (suc zero) entries ((e.0, changed) ∷ new)) h
      (refl, subst (λ v. Becomes v changed) (sym same) becomes, refl)
  change_next (suc n) [] [] value changed h at becomes = let no : ⊥ = cc in absurd no
  change_next (suc n) (o ∷ old) (e ∷ new) value changed h at becomes =
      (h.0, h.1, change_next n old new value changed h.2 at becomes)
  change_next (suc n) [] (e ∷ new) value changed h at becomes = absurd h
  change_next (suc n) (o ∷ old) [] value changed h at becomes = absurd h

  -- one more is changed
  pub change_one : (n : ℕ) (old new : List (K × V)) (value changed : V) → Changed n old new →
      slice_get (values_of new) n ≡ Some value → Becomes value changed →
      Changed (n + 1) old (set_value_at new n changed)
  change_one n old new value changed h at becomes =
      let next : suc n ≡ n + 1 = omega arith in
      subst (λ m. Changed m old (set_value_at new n changed)) next (change_next n old new value changed h at becomes)

  module _ (test : K → Bool) where
    -- once all are changed, so is what a key finds, where the default may stay
    pub changed_value : (default : V) → Becomes default default → (old new : List (K × V)) →
        Changed (length old) old new →
        Becomes (unwrap_or (lookup test old) default) (unwrap_or (lookup test new) default)
    changed_value default stays [] new h =
        subst (λ entries. Becomes default (unwrap_or (lookup test entries) default)) (sym h) stays
    changed_value default stays (o ∷ old) [] h = absurd h
    changed_value default stays (o ∷ old) (e ∷ new) h =
        rw h.0
        (elim (test o.0) as (λ b. Becomes (unwrap_or (cond b (Some o.1) (lookup test old)) default)
        (unwrap_or (cond b (Some e.1) (lookup test new)) default))
        [ true ↦ h.1 | false ↦ changed_value default stays old new h.2 ])

    -- and the same keys are found
    pub changed_keys : (old new : List (K × V)) → Changed (length old) old new →
        is_some (lookup test new) ≡ is_some (lookup test old)
    changed_keys [] new h = ap (λ entries. is_some (lookup test entries)) h
    changed_keys (o ∷ old) [] h = absurd h
    changed_keys (o ∷ old) (e ∷ new) h =
        rw h.0
        (elim (test o.0) as (λ b. is_some (cond b (Some e.1) (lookup test new))
        ≡ is_some (cond b (Some o.1) (lookup test old)))
        [ true ↦ refl | false ↦ changed_keys old new h.2 ])
