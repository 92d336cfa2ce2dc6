-- A union that isn't kept: version sets that are asked for in turn keep none.
use Rattle.std.proofs.Common.{[], ◌≡◌, Bool, true, false, cond, List, ◌∷◌}
use Rattle.std.proofs.Common.{◌++◌, is_some, Option, None, Some}
use Rattle.std.proofs.Common.{◌∙◌, ap, refl}
use Rattle.solver_cache.proofs.Words.{AreSorted, Cache, Candidates, hints_of, is_cached, is_queried, IsAnswer, IsMarked}
use Rattle.solver_cache.proofs.Words.{IsMatched, IsOnce, IsQueried, IsSorted, lookup, matching, MayAnswer, Provider}
use Rattle.solver_cache.proofs.Words.{same_requirement, same_set, Single, sorted, Union, VersionSetId}
use Rattle.solver_cache.proofs.Words.{VersionSetUnionId}

pub none_of : {X : Type 0} (o : Option X) → is_some o ≡ false → o ≡ None
none_of None h = refl
none_of (Some x) h = cc

-- an entry that doesn't pass changes no look-up
skips : {K V : Type 0} (test : K → Bool) (es : List (K × V)) (e : K × V) → test e.0 ≡ false →
    is_cached test (es ++ e ∷ []) ≡ is_cached test es
skips test [] e h = ap (λ b. is_some (cond b (Some e.1) None)) h
skips test (f ∷ es) e h =
    elim (test f.0) as (λ b. is_some (cond b (Some f.1) (lookup test (es ++ e ∷ [])))
    ≡ is_some (cond b (Some f.1) (lookup test es)))
    [ true ↦ refl | false ↦ skips test es e h ]

module _ {D N S A H : Type 0} (has : H → S → Bool) (p : Provider N S) (may : MayAnswer N S A)
    (u : VersionSetUnionId) where
  abbrev kept_union : Cache D N S A H → Bool
  kept_union c = is_cached (same_requirement (Union u)) c.sorted

  asked_skips : (n : N) (c d : Cache D N S A H) → IsQueried p may has c n d → kept_union d ≡ kept_union c
  asked_skips n c d h = by_kept (is_queried p c n) h
    where
      by_kept : (b : Bool) → IsOnce b c (λ new. (answer : Candidates S A) × IsAnswer p may n answer
          × IsMarked p may has c (hints_of answer) new.hinted ×
          (new ≡ record c { candidates = c.candidates ++ (n, answer) ∷ []; hinted = new.hinted })) d →
          kept_union d ≡ kept_union c
      by_kept true h = ap kept_union h
      by_kept false h = ap kept_union h.3

  matched_skips : (v : VersionSetId) (c d : Cache D N S A H) → IsMatched p may has c v d → kept_union d ≡ kept_union c
  matched_skips v c d h = by_kept (is_cached (same_set v) c.matching) h
    where
      by_kept : (b : Bool) → IsOnce b c (λ new. (mid : Cache D N S A H)
          × IsQueried p may has c (p.universe.set_name v) mid ×
          (new ≡ record mid { matching = mid.matching ++ (v, matching p.universe p.answers v) ∷ [] })) d →
          kept_union d ≡ kept_union c
      by_kept true h = ap kept_union h
      by_kept false h = ap kept_union h.2 ∙ asked_skips (p.universe.set_name v) c h.0 h.1

  sorted_skips : (v : VersionSetId) (c d : Cache D N S A H) → IsSorted p may has c v d → kept_union d ≡ kept_union c
  sorted_skips v c d h = by_kept (is_cached (same_requirement (Single v)) c.sorted) h
    where
      by_kept : (b : Bool) → IsOnce b c (λ new. (mid : Cache D N S A H) × IsMatched p may has c v mid ×
          (new ≡ record mid {
            sorted = mid.sorted ++ (Single v, sorted p.universe p.answers p.same_solvable v)
                ∷ [];
          })) d → kept_union d ≡ kept_union c
      by_kept true h = ap kept_union h
      by_kept false h =
          ap kept_union h.2 ∙ skips (same_requirement (Union u)) h.0.sorted
          (Single v, sorted p.universe p.answers p.same_solvable v) refl ∙ matched_skips v c h.0 h.1

  -- version sets that are asked for in turn keep no union
  pub union_still_new : (vs : List VersionSetId) (c d : Cache D N S A H) → AreSorted p may has c vs d →
      kept_union c ≡ false → kept_union d ≡ false
  union_still_new [] c d h new = ap kept_union h ∙ new
  union_still_new (v ∷ vs) c d h new = union_still_new vs h.0 d h.2 (sorted_skips v c h.0 h.1 ∙ new)
