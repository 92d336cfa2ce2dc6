-- What is so demands of each solution what the reasons demand; and if the reasons are enough, there is none.
use Rattle.std.proofs.Common.{◌≡◌, ◌∙◌, Bool, true, false, not, ◌||◌, ◌&&◌, List, [], ◌∷◌, map, Option, None, Some}
use Rattle.std.proofs.Common.{ap, refl, sym, subst, true≢false}
use Rattle.std.proofs.lemmas.List.Elements.{All-contains, All-cons, All-nil, All-weaker}
use Rattle.std.proofs.lemmas.Map.Keys.{IsDistinct-head, IsDistinct-tail}
use Rattle.solutions.proofs.Words.{All, AllByRecursion, AreEnough, AreNeedsSatisfied, AreSo, ConditionalRequirement}
use Rattle.solutions.proofs.Words.{constraints_in, Contains, IfPicked, is_allowed, is_among, is_excluded_by}
use Rattle.solutions.proofs.Words.{is_locked_out_by, is_respected, IsDistinct, IsMet, IsOneVersion, IsOnlyOne}
use Rattle.solutions.proofs.Words.{IsSatisfied, IsSo, IsSolution, IsUnsolvable, Known, list_all, list_any, Needs}
use Rattle.solutions.proofs.Words.{Provider, Reason, required_by, requirements_in, StringId, Unknown, VersionSetId}
use Rattle.solutions.proofs.EncodingLemmas.{of_picked, none_of}
use Rattle.solutions.specs.declared.reason.Reason.TheVariants as R

both_true : (a b : Bool) → (a && b) ≡ true → (a ≡ true) × (b ≡ true)
both_true true b h = (refl, h)
both_true false b h = absurd (true≢false (sym h))

not_true : (b : Bool) → not b ≡ true → b ≡ false
not_true true h = absurd (true≢false (sym h))
not_true false h = refl

not_not_true : (b : Bool) → not (not b) ≡ true → b ≡ true
not_not_true true h = refl
not_not_true false h = absurd (true≢false (sym h))

all_pass : {X : Type 0} (f : X → Bool) (xs : List X) → list_all f xs ≡ true → All (λ x. f x ≡ true) xs
all_pass f [] h = All-nil (λ x. f x ≡ true)
all_pass f (x ∷ xs) h =
    let both = both_true (f x) (list_all f xs) h in
    All-cons (λ x. f x ≡ true) x xs both.0 (all_pass f xs both.1)

module _ {N S : Type 0} (p : Provider N S) (itself : (n : N) → p.same_name n n ≡ true) (same_itself : (s : S) →
    p.same_solvable s s ≡ true)
    (equal : (s t : S) → p.same_solvable s t ≡ true → s ≡ t) where
  -- a name that differs from those of a list differs from that of a member
  differs : (n : N) (picked : List S) (t : S) →
      AllByRecursion (λ m. p.same_name n m ≡ false) (map p.universe.solvable_name picked)
      → is_among p picked t ≡ true → p.same_name n (p.universe.solvable_name t) ≡ false
  differs n [] t all among = absurd (true≢false (sym among))
  differs n (x ∷ picked) t all among =
      (elim (p.same_solvable t x) as (λ b. p.same_solvable t x ≡ b → (b || is_among p picked t) ≡ true →
      p.same_name n (p.universe.solvable_name t) ≡ false) [
        | true ↦ λ e h. ap (λ s. p.same_name n (p.universe.solvable_name s)) (equal t x e) ∙ all.0
        | false ↦ λ e h. differs n picked t all.1 h
      ]) refl among

  clash : (x s t : S) (picked : List S) →
      AllByRecursion (λ m. p.same_name (p.universe.solvable_name x) m ≡ false) (map p.universe.solvable_name picked)
      → s ≡ x → is_among p picked t ≡ true → p.universe.solvable_name s ≡ p.universe.solvable_name t → ⊥
  clash x s t picked all is among names =
      true≢false (sym (itself (p.universe.solvable_name x))
      ∙ ap (p.same_name (p.universe.solvable_name x)) (ap p.universe.solvable_name (sym is) ∙ names)
      ∙ differs (p.universe.solvable_name x) picked t all among)

  one_of_a_name : (picked : List S) (s t : S) → IsDistinct p.same_name (map p.universe.solvable_name picked) →
      is_among p picked s ≡ true
      → is_among p picked t ≡ true → p.universe.solvable_name s ≡ p.universe.solvable_name t → s ≡ t
  one_of_a_name [] s t distinct has_s has_t names = absurd (true≢false (sym has_s))
  one_of_a_name (x ∷ picked) s t distinct has_s has_t names =
      let head = IsDistinct-head p.same_name (p.universe.solvable_name x)
      (map p.universe.solvable_name picked) distinct in
      let tail = IsDistinct-tail p.same_name (p.universe.solvable_name x)
      (map p.universe.solvable_name picked) distinct in
      (elim (p.same_solvable s x) as (λ b. p.same_solvable s x ≡ b → (b || is_among p picked s) ≡ true → s ≡ t) [
        | true ↦ λ e h. (elim (p.same_solvable t x) as (λ b. p.same_solvable t x ≡ b →
            (b || is_among p picked t) ≡ true → s ≡ t) [
              | true ↦ λ f k. equal s x e ∙ sym (equal t x f)
              | false ↦ λ f k. absurd (clash x s t picked head (equal s x e) k names)
            ]) refl has_t
        | false ↦ λ e h. (elim (p.same_solvable t x) as (λ b. p.same_solvable t x ≡ b →
            (b || is_among p picked t) ≡ true → s ≡ t) [
              | true ↦ λ f k. absurd (clash x t s picked head (equal t x f) h (sym names))
              | false ↦ λ f k. one_of_a_name picked s t tail h k names
            ]) refl has_t
      ]) refl has_s

  -- a solution has what is so
  module _ (requested : List ConditionalRequirement) (picked : List S) (solution : IsSolution p requested picked) where
    satisfied_in : (needs : Needs) (c : ConditionalRequirement) → AreNeedsSatisfied p (is_among p picked) needs
        → Contains (requirements_in needs) c → IsSatisfied p (is_among p picked) c
    satisfied_in (Known requirements constrains) c both has =
        All-contains (IsSatisfied p (is_among p picked)) requirements c both.0 has
    satisfied_in (Unknown string) c both has = absurd both

    respected_in : (needs : Needs) (set : VersionSetId) → AreNeedsSatisfied p (is_among p picked) needs
        → Contains (constraints_in needs) set → is_respected p (is_among p picked) set ≡ true
    respected_in (Known requirements constrains) set both has =
        All-contains (λ v. is_respected p (is_among p picked) v ≡ true) constrains set
        (all_pass (is_respected p (is_among p picked)) constrains both.1) has
    respected_in (Unknown string) set both has = absurd both

    needs_of_picked : (s : S) → is_among p picked s ≡ true → AreNeedsSatisfied p (is_among p picked) (p.answers.needs s)
    needs_of_picked s among = of_picked p equal (λ t. AreNeedsSatisfied p (is_among p picked) (p.answers.needs t))
        picked s solution.needs_satisfied among

    allowed : (s : S) → is_among p picked s ≡ true → is_allowed p s ≡ true
    allowed s among = of_picked p equal (λ t. is_allowed p t ≡ true) picked s solution.allowed among

    required : (parent : Option S) (c : ConditionalRequirement) → Contains (required_by p requested parent) c
        → IfPicked p picked parent (IsSatisfied p (is_among p picked) c)
    required None c has = All-contains (IsSatisfied p (is_among p picked)) requested c solution.satisfied has
    required (Some s) c has = λ among. satisfied_in (p.answers.needs s) c (needs_of_picked s among) has

    unpicked : (s : S) → (is_among p picked s ≡ true → ⊥) → is_among p picked s ≡ false
    unpicked s none = (elim (is_among p picked s) as (λ b. (b ≡ true → ⊥) → b ≡ false) [
      | true ↦ λ h. absurd (h refl)
      | false ↦ λ h. refl
    ]) none

    unknown : (s : S) (string : StringId) → p.answers.needs s ≡ Unknown string → is_among p picked s ≡ false
    unknown s string is = unpicked s (λ among. subst (AreNeedsSatisfied p (is_among p picked)) is
        (needs_of_picked s among))

    parts_allowed : (s : S) → is_allowed p s ≡ true → let name = p.universe.solvable_name s in
        (is_excluded_by p (p.answers.excluded name) s ≡ false) × (is_locked_out_by p (p.answers.locked name) s ≡ false)
    parts_allowed s passes =
        let name = p.universe.solvable_name s in
        let out = is_excluded_by p (p.answers.excluded name) s in
        let shut = is_locked_out_by p (p.answers.locked name) s in
        let rest = (both_true (is_among p (p.answers.candidates name) s) (not out && not shut) passes).1 in
        let both = both_true (not out) (not shut) rest in
        (not_true out both.0, not_true shut both.1)

    excluded : (s : S) (string : StringId) → Contains (p.answers.excluded (p.universe.solvable_name s)) (s, string) →
        is_among p picked s ≡ false
    excluded s string has = unpicked s (λ among.
        let list = p.answers.excluded (p.universe.solvable_name s) in
        let test = λ (e : S × StringId). p.same_solvable s e.0 in
        let none = none_of test list (parts_allowed s (allowed s among)).0 in
        true≢false (sym (same_itself s) ∙ All-contains (λ e. test e ≡ false) list (s, string) none has))

    locked : (s : S) → p.answers.locked (p.universe.solvable_name s) ≡ Some s → IsOnlyOne p picked s
    locked s is t among named =
        let shut = (parts_allowed t (allowed t among)).1 in
        let at_s : is_locked_out_by p (Some s) t ≡ false =
        ap (λ l. is_locked_out_by p l t) (sym (ap p.answers.locked named ∙ is)) ∙ shut in
        equal t s (not_not_true (p.same_solvable t s) (ap not at_s))

    one_version : (name : N) → IsOneVersion p picked name
    one_version name s t has_s has_t named_s named_t =
        one_of_a_name picked s t solution.one_a_package has_s has_t (named_s ∙ sym named_t)

    pub meets : (reason : Reason N S) → IsSo p requested reason → IsMet p picked reason
    meets (R.Needs parent c) so = required parent c so
    meets (R.Lacks parent c) so = required parent c so.0
    meets (R.Limits s set) so = λ among. respected_in (p.answers.needs s) set (needs_of_picked s among) so
    meets (R.Unknown s string) so = unknown s string so
    meets (R.Excluded s string) so = excluded s string so
    meets (R.Locked s) so = locked s so
    meets (R.OneVersion name) so = one_version name

    pub meets_all : (reasons : List (Reason N S)) → AreSo p requested reasons → All (IsMet p picked) reasons
    meets_all reasons so = All-weaker (IsSo p requested) (IsMet p picked) meets reasons so

  -- if the reasons are so, and are enough, there is no solution
  pub none_by_reasons : (requested : List ConditionalRequirement) (reasons : List (Reason N S)) →
      AreSo p requested reasons → AreEnough p reasons
      → IsUnsolvable p requested
  none_by_reasons requested reasons so enough =
      λ picked solution. enough picked (meets_all requested picked solution reasons so)
