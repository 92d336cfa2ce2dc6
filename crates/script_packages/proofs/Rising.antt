-- Solvables whose versions rise are in the order of preference once they are turned round.
use Rattle.std.proofs.Common.{◌≡◌, ℕ, suc, zero, ◌+◌, ◌-◌, ◌<◌, Bool, true, false, ◌&&◌, List, [], ◌∷◌, length}
use Rattle.std.proofs.Common.{get_or, refl, sym}
use Rattle.std.proofs.Common.{ap, ap₂, subst, ◌∙◌, arith, true≢false, nat_cmp, is_lt, Greater, IsSorted}
use Rattle.std.proofs.lemmas.Bool.{ltb-true}
use Rattle.std.proofs.lemmas.List.{get_or-reverse, length-reverse}
use Rattle.script_packages.proofs.Words.{nat_cmp_is, ordering_then, preference, reverse, rises, Solvable, version_at}

both : (a b : Bool) → (a && b) ≡ true → (a ≡ true) × (b ≡ true)
both true b h = (refl, h)
both false b h = absurd (true≢false (sym h))

module _ (all : List (Solvable ℕ)) where
  -- a solvable isn't preferred to one of a higher version
  not_preferred : (s t : ℕ) → version_at all s < version_at all t → is_lt (preference all s t) ≡ false
  not_preferred s t up =
      ap (λ o. is_lt (ordering_then o (nat_cmp s t)))
      (sym (nat_cmp_is (version_at all t) (version_at all s) Greater up))

  rising : (list : List ℕ) → rises all list ≡ true → (i d : ℕ) → suc i < length list →
      version_at all (get_or list i d) < version_at all (get_or list (suc i) d)
  rising [] up i d below = absurd (omega (arith, below))
  rising (s ∷ []) up i d below = absurd (omega (arith, below))
  rising (s ∷ t ∷ list) up zero d below =
      ltb-true (version_at all s) (version_at all t) (both _ _ up).0
  rising (s ∷ t ∷ list) up (suc i) d below = rising (t ∷ list) (both _ _ up).1 i d (omega (arith, below))

  pub turned_is_sorted : (list : List ℕ) → rises all list ≡ true → IsSorted (preference all) (reverse list)
  turned_is_sorted list up k d low below =
      let within : k + 1 < length list = subst (λ n. k + 1 < n) (length-reverse list) below in
      let i = length list - 1 - (k + 1) in
      let next : length list - 1 - k ≡ suc i = omega (arith, within) in
      let later : get_or (reverse list) k d ≡ get_or list (suc i) d =
      get_or-reverse list k d (omega (arith, within)) ∙ ap (λ j. get_or list j d) next in
      ap₂ (λ s t. is_lt (preference all s t)) (get_or-reverse list (k + 1) d within) later
      ∙ not_preferred (get_or list i d) (get_or list (suc i) d) (rising list up i d (omega (arith, within)))
