-- What a version set's question leaves: its package was asked for, and its list is kept.
use Rattle.std.proofs.Common.{◌≡◌, Bool, true, false, List, [], ◌∷◌, ◌++◌, ap, refl, sym, subst}
use Rattle.solver_cache.proofs.Words.{Cache, Candidates, hints_of, is_queried, IsAnswer, IsGrowthRefusal, IsLater}
use Rattle.solver_cache.proofs.Words.{IsMarked, IsOnce, IsQueried, MayAnswer, OutOfMemory, Provider, StoreError}
use Rattle.solver_cache.proofs.Words.{VersionSetId}
use Rattle.solver_cache.proofs.CacheLemmas.{begins_same, begins_more, later_trans}

-- want of memory refuses any growth
pub memory_refused : (ids_out : Bool) (e : StoreError) → e ≡ OutOfMemory → IsGrowthRefusal ids_out e
memory_refused ids_out e h = subst (IsGrowthRefusal ids_out) (sym h) tt

module _ {D N S A H : Type 0} (has : H → S → Bool) where
  -- an answer for a package changes no list
  module _ (p : Provider N S) (may : MayAnswer N S A) where
    pub asked_matching : (n : N) (c d : Cache D N S A H) → IsQueried p may has c n d → d.matching ≡ c.matching
    asked_matching n c d h = by_kept (is_queried p c n) h
      where
        by_kept : (b : Bool) → IsOnce b c (λ new. (answer : Candidates S A) × IsAnswer p may n answer
            × IsMarked p may has c (hints_of answer) new.hinted ×
            (new ≡ record c { candidates = c.candidates ++ (n, answer) ∷ []; hinted = new.hinted })) d →
            d.matching ≡ c.matching
        by_kept true h = ap (λ (x : Cache D N S A H). x.matching) h
        by_kept false h = ap (λ (x : Cache D N S A H). x.matching) h.3

    pub asked_non_matching : (n : N) (c d : Cache D N S A H) → IsQueried p may has c n d →
        d.non_matching ≡ c.non_matching
    asked_non_matching n c d h = by_kept (is_queried p c n) h
      where
        by_kept : (b : Bool) → IsOnce b c (λ new. (answer : Candidates S A) × IsAnswer p may n answer
            × IsMarked p may has c (hints_of answer) new.hinted ×
            (new ≡ record c { candidates = c.candidates ++ (n, answer) ∷ []; hinted = new.hinted })) d →
            d.non_matching ≡ c.non_matching
        by_kept true h = ap (λ (x : Cache D N S A H). x.non_matching) h
        by_kept false h = ap (λ (x : Cache D N S A H). x.non_matching) h.3

  -- nor is anything lost by a list more
  pub later_matching : (c d : Cache D N S A H) (v : VersionSetId) (list : List S) → IsLater has c d →
      IsLater has c (record d { matching = d.matching ++ (v, list) ∷ [] })
  later_matching c d v list later = later_trans has c d _ later (record {
    provider = refl;
    candidates = begins_same d.candidates;
    matching = begins_more d.matching (v, list);
    non_matching = begins_same d.non_matching;
    sorted = begins_same d.sorted;
    dependencies = begins_same d.dependencies;
    hinted = λ s h. h;
  })

  pub later_non_matching : (c d : Cache D N S A H) (v : VersionSetId) (list : List S) → IsLater has c d
      → IsLater has c (record d { non_matching = d.non_matching ++ (v, list) ∷ [] })
  later_non_matching c d v list later = later_trans has c d _ later (record {
    provider = refl;
    candidates = begins_same d.candidates;
    matching = begins_same d.matching;
    non_matching = begins_more d.non_matching (v, list);
    sorted = begins_same d.sorted;
    dependencies = begins_same d.dependencies;
    hinted = λ s h. h;
  })
