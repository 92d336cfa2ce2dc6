-- Why a smallest correction is one.
use Rattle.std.proofs.Common.{◌≡◌, ◌∙◌, ℕ, ◌+◌, ◌<◌, ◌≤◌, Bool, true, false, List, [], ◌∷◌, ◌++◌, ap}
use Rattle.std.proofs.Common.{None, Some, length, take, replicate, get_or, refl, sym, subst, true≢false, arith, inl}
use Rattle.std.proofs.Common.{inr}
use Rattle.std.proofs.lemmas.Bool.{cases_lt}
use Rattle.std.proofs.lemmas.List.{get_or-take, get_or_append_left, get_or_default, get_or_push, length-take-le}
use Rattle.std.proofs.lemmas.List.{length_push}
use Rattle.std.proofs.lemmas.List.Elements.{All-more, Contains-get_or}
use Rattle.solutions.proofs.ReasonLaws.{none_by_reasons}
use Rattle.corrections.proofs.Words.{All, AreApart, AreEnough, AreNamedMarked, AreSo, ConditionalRequirement, Contains}
use Rattle.corrections.proofs.Words.{Err, Extends, HasNone, IfFound, IfOk, is_marked, IsConflict, IsCover, IsNamed}
use Rattle.corrections.proofs.Words.{IsNamedBy, IsSmallest, IsSo, IsUnsolvable, IsWithin, kept, Level, Ok, Provider}
use Rattle.corrections.proofs.Words.{Reason, Result, size, Vec}
use Rattle.corrections.proofs.MarkLemmas.{kept_has, kept_place, size-le, unmarked}
use Rattle.solutions.specs.declared.reason.Reason.TheVariants as R
use Rattle.corrections.specs.declared.correcting.Level.TheVariants as L

module _ {N S : Type 0} (p : Provider N S) (requested : List ConditionalRequirement) where
  -- where one of these sets is left out, and none of the next ones, there is no solution
  abbrev pub AreRefuted : {A : Type 0} → List (Vec Bool A) → List (Vec Bool A) → Type 0
  AreRefuted next done = (left_out : List Bool) → HasNone left_out next
      → All (λ s. IsWithin s.items left_out → IsUnsolvable p (kept left_out requested)) done

  -- one that isn't larger than any set of a cover
  pub smallest_in : {A : Type 0} (level : List (Vec Bool A)) (left_out : List Bool) → IsCover p requested level
      → All (λ s. size left_out ≤ size s.items) level → IsSmallest p requested left_out
  smallest_in level left_out cover least fewer less =
      cover fewer (λ k d below within. omega (arith, least k d below, size-le (get_or level k d).items fewer within))

  -- so is one that is found, if it is this set
  pub smallest_found : {A E : Type 0} (level : List (Vec Bool A)) (left_out : List Bool) (solvables : Vec S A) (n : ℕ)
      (result : Result (Level S A) E) → IsCover p requested level
      → IfOk result (IfFound (λ correction. (correction.solvables ≡ solvables)
      × (correction.left_out.items ≡ left_out) × (length left_out ≡ n)))
      → IfOk result (IfFound (λ correction. All (λ s. size left_out ≤ size s.items) level))
      → IfOk result (IfFound (λ correction. IsSmallest p requested correction.left_out.items))
  smallest_found level left_out solvables n (Ok (L.Found correction)) cover found least =
      subst (IsSmallest p requested) (sym found.1) (smallest_in level left_out cover least)
  smallest_found level left_out solvables n (Ok (L.Next sets)) cover found least = tt
  smallest_found level left_out solvables n (Ok L.Unknown) cover found least = tt
  smallest_found level left_out solvables n (Err e) cover found least = tt

  -- the empty set is a cover
  pub cover_of_empty : {A : Type 0} (none : Vec Bool A) (n : ℕ) (sets : List (Vec Bool A)) → none.items ≡ replicate
      n false → sets ≡ none ∷ []
      → IsCover p requested sets
  cover_of_empty none n sets empty is left_out has =
      let all : HasNone left_out (none ∷ []) = subst (HasNone left_out) is has in
      absurd (all 0 none (omega arith) (λ place marked.
      absurd (true≢false (sym marked ∙ subst (λ marks. is_marked marks place ≡ false) (sym empty) (unmarked n place)))))

  -- all sets of a cover are refuted
  pub covered : {A : Type 0} (level next : List (Vec Bool A)) → IsCover p requested level → AreRefuted next level →
      IsCover p requested next
  covered level next cover refuted left_out none picked solution =
      cover left_out (λ k d below within. refuted left_out none k d below within picked solution) picked solution

  -- one more is refuted
  pub refuted_more : {A : Type 0} (level next new : List (Vec Bool A)) (i : ℕ) (s conflict : Vec Bool A) → i <
      length level → s ≡ get_or level i s
      → Extends next new s.items conflict.items → IsConflict p requested conflict → AreRefuted next (take i level) →
      AreRefuted new (take (i + 1) level)
  refuted_more {A} level next new i s conflict below is extends conflicting refuted left_out none =
      let P = λ (t : Vec Bool A). IsWithin t.items left_out → IsUnsolvable p (kept left_out requested) in
      let now = extends left_out none in
      All-more P level i s below (refuted left_out now.0) (subst P is (λ within. conflicting left_out (now.1 within)))

  module _ (left_out conflict other : List Bool) (reasons : List (Reason N S))
      (marked : AreNamedMarked requested left_out reasons conflict)
      (apart : AreApart conflict other) where
    still_has : (reason : Reason N S) → Contains reasons reason → (c : ConditionalRequirement) → IsNamedBy c reason
        → Contains (kept left_out requested) c → Contains (kept other requested) c
    still_has reason among c names has =
        let at = kept_place left_out requested c has.0 has.1 has.2 in
        kept_has other requested c at.0 at.1
        (apart at.0 (marked at.0 c at.1 at.2 (reason, among, subst (λ d. IsNamedBy d reason) (sym at.3) names))) at.3

    still_so : (reason : Reason N S) → Contains reasons reason → IsSo p (kept left_out requested) reason → IsSo p
        (kept other requested) reason
    still_so (R.Needs None c) among so = still_has (R.Needs None c) among c (inl refl) so
    still_so (R.Needs (Some parent) c) among so = so
    still_so (R.Lacks None c) among so = (still_has (R.Lacks None c) among c (inr refl) so.0, so.1)
    still_so (R.Lacks (Some parent) c) among so = so
    still_so (R.Limits solvable string) among so = so
    still_so (R.Unknown solvable string) among so = so
    still_so (R.Excluded solvable string) among so = so
    still_so (R.Locked solvable) among so = so
    still_so (R.OneVersion name) among so = so

    pub all_still_so : AreSo p (kept left_out requested) reasons → AreSo p (kept other requested) reasons
    all_still_so so k d below = still_so (get_or reasons k d) (Contains-get_or reasons k d below) (so k d below)

  -- the requirements that the reasons name are in conflict
  pub conflict_by_reasons : {A : Type 0} (itself : (n : N) → p.same_name n n ≡ true)
      (same_itself : (s : S) → p.same_solvable s s ≡ true)
      (equal : (s t : S) → p.same_solvable s t ≡ true → s ≡ t) (left_out : List Bool) (reasons : List (Reason N S))
      (conflict : Vec Bool A)
      → AreNamedMarked requested left_out reasons conflict.items → AreSo p (kept left_out requested) reasons →
      AreEnough p reasons
      → IsConflict p requested conflict
  conflict_by_reasons itself same_itself equal left_out reasons conflict marked so enough other apart =
      none_by_reasons p itself same_itself equal (kept other requested) reasons
      (all_still_so left_out conflict.items other reasons marked apart so) enough

-- one more requirement, and its mark
pub marked_more : {N S : Type 0} (requested : List ConditionalRequirement) (left_out : List Bool)
    (reasons : List (Reason N S)) (marks new : List Bool) (i : ℕ)
    (x : ConditionalRequirement) (m : Bool) → i < length requested → x ≡ get_or requested i x → new ≡ marks ++ m ∷ []
    → (is_marked left_out i ≡ false → IsNamed reasons x → m ≡ true)
    → (length marks ≡ i) × AreNamedMarked (take i requested) left_out reasons marks → (length new ≡ i + 1) ×
    AreNamedMarked (take (i + 1) requested) left_out reasons new
marked_more requested left_out reasons marks new i x m below is pushed names_it had =
    let marked = λ (place : ℕ). λ (l : List Bool). is_marked l place ≡ true in (
      ap length pushed ∙ length_push marks m ∙ ap (λ n. n + 1) had.0,
      λ place d within out names.
          let before_next : place < i + 1 = omega (arith, length-take-le (i + 1) requested (omega arith)) in
          let in_all = get_or-take (i + 1) requested place d before_next in
          elim (cases_lt place i) [
            | inl lt ↦
                let before = subst (IsNamed reasons) (in_all ∙ sym (get_or-take i requested place d lt)) names in
                let short : place < length (take i requested) = omega
                (arith, length-take-le i requested (omega arith)) in
                subst (marked place) (sym pushed) (get_or_append_left marks (m ∷ []) false place
                (omega (arith, had.0)) ∙ had.1 place d short out before)
            | inr ge ↦
                let same : place ≡ i = omega arith in
                let at = subst (IsNamed reasons) (in_all ∙ ap (λ k. get_or requested k d) same ∙ get_or_default
                requested i d x below ∙ sym is) names in
                subst (marked place) (sym pushed) (ap (λ k. get_or (marks ++ m ∷ []) k false) same ∙ get_or_push
                marks m false i had.0
                ∙ names_it (subst (λ k. is_marked left_out k ≡ false) same out) at)
          ],
    )
