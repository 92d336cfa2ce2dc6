-- What reasons demand, as clauses.
use Rattle.std.proofs.Common.{◌≡◌, ◌∙◌, ℕ, ◌+◌, ◌<◌, Bool, true, false, not, ◌||◌, ◌&&◌, List, [], ◌∷◌, length, take}
use Rattle.std.proofs.Common.{get_or, ap, refl, sym, subst, true≢false}
use Rattle.std.proofs.lemmas.List.Elements.{All-cons, All-get_or, All-nil, All-take, All-weaker}
use Rattle.std.proofs.lemmas.List.Folds.{list_any_none}
use Rattle.solutions.proofs.Words.{All, AreSatisfiedUnless, AreStillSatisfied, ConditionalRequirement, Fact, First}
use Rattle.solutions.proofs.Words.{has_true, is_allowed, is_among, is_respected, is_true, IsMet, IsOneVersion}
use Rattle.solutions.proofs.Words.{IsOnlyOne, IsSatisfied, list_any, Literal, non_matching, NonePickedUnless, Picked}
use Rattle.solutions.proofs.Words.{Provider, Reason, truth, Vec, VersionSetId}
use Rattle.solutions.proofs.EncodingLemmas.{any_more, none_of, none_where_respected, not_is_true, of_picked}
use Rattle.solutions.proofs.EncodingLemmas.{picked_where_false}
use Rattle.solutions.proofs.SolutionLemmas.{All-both}

-- what holds of all holds of one
pub one_of_all : {X : Type 0} (P : X → Type 0) (xs : List X) (i : ℕ) (x : X) → i < length xs → x ≡ get_or xs i x →
    All P xs → P x
one_of_all P xs i x below is all = subst P (sym is) (All-get_or P xs i x below all)

pub or_true : (b : Bool) → (b || true) ≡ true
or_true true = refl
or_true false = refl

module _ {N S : Type 0} (p : Provider N S) where
  -- a reason of a kind
  pub still_as : {A : Type 0} (reason kind : Reason N S) (old new : List (Vec (Literal N S) A)) → reason ≡ kind
      → AreStillSatisfied p (λ q. IsMet p q kind) old new → AreStillSatisfied p (λ q. IsMet p q reason) old new
  still_as reason kind old new is still = subst (λ r. AreStillSatisfied p (λ q. IsMet p q r) old new) (sym is) still

  one_satisfied : (c : ConditionalRequirement) (picked : List S) → IsSatisfied p (is_among p picked) c →
      All (IsSatisfied p (is_among p picked)) (c ∷ [])
  one_satisfied c picked holds = All-cons (IsSatisfied p (is_among p picked)) c [] holds
      (All-nil (IsSatisfied p (is_among p picked)))

  pub satisfied_unless_nothing : (c : ConditionalRequirement) (picked : List S) → IsSatisfied p (is_among p picked) c
      → AreSatisfiedUnless p [] picked (c ∷ [])
  satisfied_unless_nothing c picked holds = λ none. one_satisfied c picked holds

  -- a literal that a solvable isn't picked
  module _ (l : Literal N S) (s : S) (fact : l.fact ≡ Picked s) (value : l.value ≡ false) (picked : List S) where
    pub satisfied_unless : (c : ConditionalRequirement) → (is_among p picked s ≡ true →
        IsSatisfied p (is_among p picked) c)
        → AreSatisfiedUnless p (l ∷ []) picked (c ∷ [])
    satisfied_unless c holds = λ none. one_satisfied c picked (holds (picked_where_false p l s fact value picked none))

    pub respected_unless : (set : VersionSetId) → (is_among p picked s ≡ true →
        is_respected p (is_among p picked) set ≡ true)
        → NonePickedUnless p (l ∷ []) picked (non_matching p.universe p.answers set)
    respected_unless set kept = λ none. none_where_respected p set picked
        (kept (picked_where_false p l s fact value picked none))

  unpicked : (picked : List S) (s : S) → (is_among p picked s ≡ true → ⊥) → is_among p picked s ≡ false
  unpicked picked s none = (elim (is_among p picked s) as (λ b. (b ≡ true → ⊥) → b ≡ false) [
    | true ↦ λ h. absurd (h refl)
    | false ↦ λ h. refl
  ]) none

  -- another one isn't picked
  pub other_unpicked : (itself : (s : S) → p.same_solvable s s ≡ true) (locked s : S) (picked : List S) →
      p.same_solvable s locked ≡ false
      → p.universe.solvable_name s ≡ p.universe.solvable_name locked → IsOnlyOne p picked locked →
      is_among p picked s ≡ false
  other_unpicked itself locked s picked differs named only = unpicked picked s (λ among.
      true≢false (sym (itself locked) ∙ ap (λ t. p.same_solvable t locked) (sym (only s among named)) ∙ differs))

  -- one that isn't allowed isn't picked
  pub unpicked_where_not_allowed : (equal : (s t : S) → p.same_solvable s t ≡ true →
      s ≡ t) (s : S) (picked : List S) → is_allowed p s ≡ false
      → All (λ t. is_allowed p t ≡ true) picked → is_among p picked s ≡ false
  unpicked_where_not_allowed equal s picked refused all = unpicked picked s (λ among.
      true≢false (sym (of_picked p equal (λ t. is_allowed p t ≡ true) picked s all among) ∙ refused))

  -- clauses of two literals: that one is so if the other is, and that not both are
  so_cases : (a b : Bool) → (b ≡ true → a ≡ true) → (a || (not b || false)) ≡ true
  so_cases true b h = refl
  so_cases false true h = h refl
  so_cases false false h = refl

  pub so_where : (so not_so : Literal N S) (picked : List S) (a b : Bool) → is_true (truth p picked) so ≡ a
      → is_true (truth p picked) not_so ≡ not b → (b ≡ true → a ≡ true) →
      has_true (truth p picked) (so ∷ not_so ∷ []) ≡ true
  so_where so not_so picked a b is is_not follows =
      ap (λ x. x || (is_true (truth p picked) not_so || false)) is ∙ ap (λ y. a || (y || false)) is_not
      ∙ so_cases a b follows

  not_both_cases : (a b : Bool) → (a && b) ≡ false → (not a || (not b || false)) ≡ true
  not_both_cases true true h = absurd (true≢false h)
  not_both_cases true false h = refl
  not_both_cases false b h = refl

  pub not_both_where : (one other : Literal N S) (picked : List S) (a b : Bool) → is_true (truth p picked) one ≡ not a
      → is_true (truth p picked) other ≡ not b → (a && b) ≡ false → has_true (truth p picked) (one ∷ other ∷ []) ≡ true
  not_both_where one other picked a b is_one is_other both =
      ap (λ x. x || (is_true (truth p picked) other || false)) is_one ∙ ap (λ y. not a || (y || false)) is_other
      ∙ not_both_cases a b both

  both_cases : (a b : Bool) → (b ≡ true → a ≡ false) → (a && b) ≡ false
  both_cases true true h = h refl
  both_cases true false h = refl
  both_cases false b h = refl

  -- of a package's versions, one and those before it aren't both picked
  pub not_both_picked : (itself : (s : S) → p.same_solvable s s ≡ true) (name : N) (versions : List S) (i : ℕ)
      (v : S) (picked : List S)
      → i < length versions → v ≡ get_or versions i v → All (λ s. p.universe.solvable_name s ≡ name) versions
      → list_any (p.same_solvable v) (take i versions) ≡ false → IsOneVersion p picked name
      → (list_any (is_among p picked) (take i versions) && is_among p picked v) ≡ false
  not_both_picked itself name versions i v picked below is named new one =
      let Named = λ (s : S). p.universe.solvable_name s ≡ name in
      let Differs = λ (s : S). p.same_solvable v s ≡ false in
      let Unpicked = λ (s : S). is_among p picked s ≡ false in
      let before = take i versions in
      let named_v : Named v = subst Named (sym is) (All-get_or Named versions i v below named) in
      let all = All-both Named Differs before (All-take Named i versions named)
      (none_of (p.same_solvable v) before new) in
      both_cases (list_any (is_among p picked) before) (is_among p picked v)
      (λ among. list_any_none (is_among p picked) before (All-weaker (λ s. Named s × Differs s) Unpicked
      (λ s both. unpicked picked s (λ chosen.
      true≢false (sym (itself v) ∙ ap (p.same_solvable v) (one v s among chosen named_v both.0) ∙ both.1))) before all))

  -- one rung of the ladder of a package's versions
  module _ (name : N) (versions : List S) (all : versions ≡ p.answers.candidates name) (i : ℕ) (v : S)
      (below : i < length versions)
      (is : v ≡ get_or versions i v) (before version : Fact N S) (before_is : before ≡ First name i)
      (version_is : version ≡ Picked v) where
    first_is : (q : List S) (n : ℕ) (fact : Fact N S) → fact ≡ First name n →
        truth p q fact ≡ list_any (is_among p q) (take n versions)
    first_is q n fact is_first = ap (truth p q) is_first ∙ ap (λ xs. list_any (is_among p q) (take n xs)) (sym all)

    pub next_is : (next : Fact N S) → next ≡ First name (i + 1) → (q : List S) →
        truth p q next ≡ (truth p q before || truth p q version)
    next_is next is_next q =
        first_is q (i + 1) next is_next ∙ any_more (is_among p q) versions i v below is
        ∙ ap (λ b. b || is_among p q v) (sym (first_is q i before before_is))
        ∙ ap (λ b. truth p q before || b) (sym (ap (truth p q) version_is))

    pub not_both_so : (itself : (s : S) → p.same_solvable s s ≡ true) →
        All (λ s. p.universe.solvable_name s ≡ name) versions
        → (had is_new : Bool) → had ≡ list_any (p.same_solvable v) (take i versions) → is_new ≡ not had →
        (q : List S) → IsOneVersion p q name
        → is_new ≡ true → (truth p q before && truth p q version) ≡ false
    not_both_so itself named had is_new had_is new_is q one new =
        ap (λ b. b && truth p q version) (first_is q i before before_is)
        ∙ ap (λ b. list_any (is_among p q) (take i versions) && b) (ap (truth p q) version_is)
        ∙ not_both_picked itself name versions i v q below is named (sym had_is
        ∙ not_is_true had (sym new_is ∙ new)) one
