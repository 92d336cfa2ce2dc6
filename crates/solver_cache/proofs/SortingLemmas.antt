-- What a requirement's question finds, and what it leaves.
use Rattle.std.proofs.Common.{◌≡◌, Bool, true, false, List, [], ◌∷◌, ◌++◌, is_some, ◌∙◌, ap, refl, sym}
use Rattle.solver_cache.proofs.Words.{Cache, Candidates, eq-value, hints_of, is_cached, is_queried, IsAnswer, IsLater}
use Rattle.solver_cache.proofs.Words.{IsMarked, IsMatched, IsOnce, IsQueried, lookup, matching, MayAnswer, Provider}
use Rattle.solver_cache.proofs.Words.{Requirement, same_requirement, same_set, VersionSetId}
use Rattle.solver_cache.proofs.CacheLemmas.{begins_same, begins_more, later_trans, same_is}

-- a requirement that isn't found isn't kept
pub not_kept : {V : Type 0} (r : Requirement) (es : List (Requirement × V)) →
    false ≡ is_some (lookup (eq-value.it r) es) → is_cached (same_requirement r) es ≡ false
not_kept r es h = ap (λ t. is_cached t es) (sym (same_is r)) ∙ sym h

module _ {D N S A H : Type 0} (has : H → S → Bool) where
  -- the candidates that a version set holds are found without a sorted list
  module _ (p : Provider N S) (may : MayAnswer N S A) where
    pub asked_sorted : (n : N) (c d : Cache D N S A H) → IsQueried p may has c n d → d.sorted ≡ c.sorted
    asked_sorted n c d h = by_kept (is_queried p c n) h
      where
        by_kept : (b : Bool) → IsOnce b c (λ new. (answer : Candidates S A) × IsAnswer p may n answer
            × IsMarked p may has c (hints_of answer) new.hinted ×
            (new ≡ record c { candidates = c.candidates ++ (n, answer) ∷ []; hinted = new.hinted })) d →
            d.sorted ≡ c.sorted
        by_kept true h = ap (λ (x : Cache D N S A H). x.sorted) h
        by_kept false h = ap (λ (x : Cache D N S A H). x.sorted) h.3

    pub matched_sorted : (v : VersionSetId) (c d : Cache D N S A H) → IsMatched p may has c v d → d.sorted ≡ c.sorted
    matched_sorted v c d h = by_kept (is_cached (same_set v) c.matching) h
      where
        by_kept : (b : Bool) → IsOnce b c (λ new. (mid : Cache D N S A H)
            × IsQueried p may has c (p.universe.set_name v) mid ×
            (new ≡ record mid { matching = mid.matching ++ (v, matching p.universe p.answers v) ∷ [] })) d →
            d.sorted ≡ c.sorted
        by_kept true h = ap (λ (x : Cache D N S A H). x.sorted) h
        by_kept false h = ap (λ (x : Cache D N S A H). x.sorted) h.2 ∙ asked_sorted (p.universe.set_name v) c h.0 h.1

  -- nothing is lost by a sorted list more
  pub later_sorted : (c d : Cache D N S A H) (r : Requirement) (list : List S) → IsLater has c d →
      IsLater has c (record d { sorted = d.sorted ++ (r, list) ∷ [] })
  later_sorted c d r list later = later_trans has c d _ later (record {
    provider = refl;
    candidates = begins_same d.candidates;
    matching = begins_same d.matching;
    non_matching = begins_same d.non_matching;
    sorted = begins_more d.sorted (r, list);
    dependencies = begins_same d.dependencies;
    hinted = λ s h. h;
  })
