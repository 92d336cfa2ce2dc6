-- Lists of literals, settled one after another.
use Rattle.std.proofs.Common.{◌≡◌, ◌∙◌, ℕ, suc, ◌+◌, ◌-◌, ◌<◌, ◌≤◌, Bool, true, false, ◌||◌, List, [], ◌∷◌, length}
use Rattle.std.proofs.Common.{take, drop, drop-cons, get_or, slice_range, ap, refl, sym, subst, arith}
use Rattle.std.specs.Prelude.{slice_index}
use Rattle.std.proofs.lemmas.Bool.{cases_lt}
use mathlib.Core.Logic.{⊎_elim}
use Rattle.std.proofs.lemmas.List.{get_or-map}
use Rattle.std.proofs.lemmas.List.Elements.{All-nil, All-cons, All-append}
use Rattle.std.proofs.lemmas.Option.{slice_get_cases}
use Rattle.solutions.proofs.Words.{AreSatisfied, AreTrue, Fact, first_true, first_trues, Follows, has_true, is_true}
use Rattle.solutions.proofs.Words.{IsAtLeast, IsClauseAdded, IsUnbeaten, Literal, Replayed, Settled, StaysTrue, Vec}
use Rattle.solutions.proofs.RankLemmas.{before_at, before_more}

-- what isn't true is false
false_from : (b : Bool) → (b ≡ true → ⊥) → b ≡ false
false_from true fails = absurd (fails refl)
false_from false fails = refl

-- one item
range_one : {X : Type 0} (xs : List X) (i : ℕ) (x : X) → i < length xs → get_or xs i x ≡ x →
    slice_range xs i (i + 1) ≡ x ∷ []
range_one xs i x below is =
    let one : i + 1 - i ≡ 1 = omega arith in
    ap (λ n. take n (drop i xs)) one ∙ ap (take 1) (drop-cons xs i x below ∙ ap (λ y. y ∷ drop (suc i) xs) is)

module _ {N S A : Type 0} where
  pub stays_none : (IsSuch : (Fact N S → Bool) → Type 0) (clauses : List (Vec (Literal N S) A))
      (known : List (Literal N S))
      → StaysTrue IsSuch clauses known clauses known
  stays_none IsSuch clauses known = record {
    are_satisfied = λ holds such met true_ones. met;
    are_true = λ holds such met true_ones. true_ones;
  }

  pub stays_then : (IsSuch Asks : (Fact N S → Bool) → Type 0) (cs : List (Vec (Literal N S) A))
      (ks : List (Literal N S)) (ds : List (Vec (Literal N S) A))
      (ls : List (Literal N S)) (es : List (Vec (Literal N S) A)) (ms : List (Literal N S)) →
      ((holds : Fact N S → Bool) → Asks holds → IsSuch holds)
      → StaysTrue Asks cs ks ds ls → StaysTrue IsSuch ds ls es ms → StaysTrue Asks cs ks es ms
  stays_then IsSuch Asks cs ks ds ls es ms such f g = record {
    are_satisfied = λ holds asked met true_ones.
        g.are_satisfied holds (such holds asked) (f.are_satisfied holds asked met true_ones)
        (f.are_true holds asked met true_ones);
    are_true = λ holds asked met true_ones.
        g.are_true holds (such holds asked) (f.are_satisfied holds asked met true_ones)
        (f.are_true holds asked met true_ones);
  }

  pub stays_where : (IsSuch Asks : (Fact N S → Bool) → Type 0) (cs : List (Vec (Literal N S) A))
      (ks : List (Literal N S)) (ds : List (Vec (Literal N S) A))
      (ls : List (Literal N S)) → ((holds : Fact N S → Bool) → Asks holds → IsSuch holds) →
      StaysTrue IsSuch cs ks ds ls → StaysTrue Asks cs ks ds ls
  stays_where IsSuch Asks cs ks ds ls such f =
      stays_then IsSuch Asks cs ks cs ks ds ls such (stays_none Asks cs ks) f

  -- what a replay says of all assignments
  pub stays_replayed : (IsSuch : (Fact N S → Bool) → Type 0) (cs : List (Vec (Literal N S) A))
      (ks : List (Literal N S)) (ds : List (Vec (Literal N S) A))
      (ls : List (Literal N S)) (answer : Bool) → Replayed cs ks ds ls answer → StaysTrue IsSuch cs ks ds ls
  stays_replayed IsSuch cs ks ds ls answer replayed = record {
    are_satisfied = λ holds such met true_ones. replayed.are_satisfied holds met true_ones;
    are_true = λ holds such met true_ones. replayed.are_true holds met true_ones;
  }

  -- a literal as a clause, and what follows
  pub stays_assumed : (l : Literal N S) (clauses now given : List (Vec (Literal N S) A))
      (known known_now : List (Literal N S)) (answer : Bool)
      → IsClauseAdded clauses (l ∷ []) now → given ≡ now
      → Follows (λ holds. AreSatisfied holds given) known known_now answer
      → StaysTrue (λ holds. is_true holds l ≡ true) clauses known now known_now
  stays_assumed l clauses now given known known_now answer stated same follows =
      let satisfied : (holds : Fact N S → Bool) → is_true holds l ≡ true → AreSatisfied holds clauses →
      AreSatisfied holds now = λ holds such met.
      let P = λ (c : Vec (Literal N S) A). has_true holds c.items ≡ true in
      let has : has_true holds stated.clause.items ≡ true = ap (has_true holds) stated.is ∙ ap (λ b. b || false) such in
      subst (AreSatisfied holds) (sym stated.added) (All-append P clauses (stated.clause ∷ []) met
      (All-cons P stated.clause [] has (All-nil P))) in
      record {
        are_satisfied = λ holds such met true_ones. satisfied holds such met;
        are_true = λ holds such met true_ones.
            follows.are_true holds (subst (AreSatisfied holds) (sym same) (satisfied holds such met)) true_ones;
      }

  -- no literal comes before the first
  pub at_least_none : (clauses : List (Vec (Literal N S) A)) (known literals : List (Literal N S)) →
      IsAtLeast clauses known literals 0
  at_least_none clauses known literals = λ holds met true_ones. omega arith

  -- one more literal is refuted
  pub at_least_more : (cs : List (Vec (Literal N S) A)) (ks : List (Literal N S))
      (ds es : List (Vec (Literal N S) A)) (ls ms literals assumed : List (Literal N S))
      (i : ℕ) (l : Literal N S) → i < length literals → l ≡ get_or literals i l → assumed ≡ l ∷ [] →
      Replayed cs ks ds ls false
      → Replayed ds ls es ms false
      → ((holds : Fact N S → Bool) → AreSatisfied holds es → AreTrue holds ms → AreTrue holds assumed → ⊥)
      → IsAtLeast cs ks literals i → IsAtLeast cs ks literals (i + 1)
  at_least_more cs ks ds es ls ms literals assumed i l below is alone replayed next refuted so_far =
      λ holds met true_ones.
      let met_then = replayed.are_satisfied holds met true_ones in
      let true_then = replayed.are_true holds met true_ones in
      let fails : is_true holds l ≡ false = false_from (is_true holds l) (λ e.
      refuted holds (next.are_satisfied holds met_then true_then) (next.are_true holds met_then true_then)
      (subst (AreTrue holds) (sym alone) (All-cons (λ k. is_true holds k ≡ true) l [] e
      (All-nil (λ k. is_true holds k ≡ true))))) in
      before_more (is_true holds) literals i l below is fails (so_far holds met true_ones)

  -- the same, of a part of the list
  pub at_least_range : (cs : List (Vec (Literal N S) A)) (ks : List (Literal N S))
      (ds es : List (Vec (Literal N S) A)) (ls ms literals assumed : List (Literal N S))
      (i : ℕ) → i + 1 ≤ length literals → assumed ≡ slice_range literals i (i + 1) → Replayed cs ks ds ls false →
      Replayed ds ls es ms false
      → ((holds : Fact N S → Bool) → AreSatisfied holds es → AreTrue holds ms → AreTrue holds assumed → ⊥)
      → IsAtLeast cs ks literals i → IsAtLeast cs ks literals (i + 1)
  at_least_range cs ks ds es ls ms literals assumed i below is replayed next refuted so_far = ⊎_elim
      (λ found. at_least_more cs ks ds es ls ms literals assumed i found.0 found.1 (sym found.3) (is
      ∙ range_one literals i found.0 found.1 found.3)
      replayed next refuted so_far)
      (λ past. let end = past.0 in absurd (omega arith))
      (slice_get_cases literals i).1

  -- the literal at a place is assumed
  pub stays_at : (cs : List (Vec (Literal N S) A)) (ks : List (Literal N S)) (ds : List (Vec (Literal N S) A))
      (ls literals : List (Literal N S)) (i : ℕ)
      (l : Literal N S) → i < length literals → l ≡ get_or literals i l →
      StaysTrue (λ holds. is_true holds l ≡ true) cs ks ds ls
      → StaysTrue (λ holds. first_true holds literals ≡ i) cs ks ds ls
  stays_at cs ks ds ls literals i l below is f =
      stays_where (λ holds. is_true holds l ≡ true) (λ holds. first_true holds literals ≡ i) cs ks ds ls
      (λ holds found. before_at (is_true holds) literals i l below is found) f

  -- settled: refuted first, then assumed
  pub settled_by : (cs : List (Vec (Literal N S) A)) (ks : List (Literal N S)) (ds : List (Vec (Literal N S) A))
      (ls : List (Literal N S))
      (es : List (Vec (Literal N S) A)) (ms literals : List (Literal N S)) (rank : ℕ) →
      IsAtLeast cs ks literals rank → Replayed cs ks ds ls false
      → StaysTrue (λ holds. first_true holds literals ≡ rank) ds ls es ms → Settled cs ks literals rank es ms
  settled_by cs ks ds ls es ms literals rank least replayed f = record {
    at_least = least;
    stays_true = stays_then (λ holds. first_true holds literals ≡ rank)
        (λ holds. first_true holds literals ≡ rank) cs ks ds ls es ms (λ holds e. e)
        (stays_replayed (λ holds. first_true holds literals ≡ rank) cs ks ds ls false replayed) f;
  }

-- the lists' first true literals are at their ranks, up to a place
abbrev pub AreAtRanks : {N S A : Type 0} → List (Vec (Literal N S) A) → List ℕ → ℕ → (Fact N S → Bool) → Type 0
AreAtRanks lists ranks count holds =
    (before : ℕ) → before < count → slice_index ranks before ≡ slice_index (first_trues holds lists) before

-- of no assignment the first true literals beat the ranks, up to a place, and where they are at the ranks it
-- satisfies what is known now
pub record AreSettled {N S A : Type 0} (lists : List (Vec (Literal N S) A)) (ranks : List ℕ)
    (cs : List (Vec (Literal N S) A)) (ks : List (Literal N S))
    (ds : List (Vec (Literal N S) A)) (ls : List (Literal N S)) (count : ℕ) : Type 0 where
  pub unbeaten : (holds : Fact N S → Bool) → AreSatisfied holds cs → AreTrue holds ks →
      IsUnbeaten count ranks (first_trues holds lists)
  pub stays_true : StaysTrue (AreAtRanks lists ranks count) cs ks ds ls

module _ {N S A : Type 0} (lists : List (Vec (Literal N S) A)) (ranks : List ℕ) where
  pub none_settled : (cs : List (Vec (Literal N S) A)) (ks : List (Literal N S)) → AreSettled lists ranks cs ks cs ks 0
  none_settled cs ks = record {
    unbeaten = λ holds met true_ones place below same. absurd (omega arith);
    stays_true = stays_none (AreAtRanks lists ranks 0) cs ks;
  }

  module _ (i : ℕ) (list : Vec (Literal N S) A) (rank : ℕ) (below : i < length lists) (is : list ≡ get_or lists i list)
      (has : slice_index ranks i ≡ rank) where
    first_at : (holds : Fact N S → Bool) → slice_index (first_trues holds lists) i ≡ first_true holds list.items
    first_at holds = get_or-map (λ l. first_true holds l.items) lists i list 0 below
        ∙ ap (λ l. first_true holds l.items) (sym is)

    up_to_here : (holds : Fact N S → Bool) → AreAtRanks lists ranks (i + 1) holds → AreAtRanks lists ranks i holds
    up_to_here holds at = λ before less. at before (omega arith)

    -- one more list is settled
    pub one_settled : (cs : List (Vec (Literal N S) A)) (ks : List (Literal N S)) (ds : List (Vec (Literal N S) A))
        (ls : List (Literal N S))
        (es : List (Vec (Literal N S) A)) (ms items : List (Literal N S)) → items ≡ list.items →
        AreSettled lists ranks cs ks ds ls i → Settled ds ls items rank es ms
        → AreSettled lists ranks cs ks es ms (i + 1)
    one_settled cs ks ds ls es ms items same so_far next = record {
      unbeaten = λ holds met true_ones place less at. ⊎_elim
          (λ under. so_far.unbeaten holds met true_ones place under at)
          (λ over.
          let here : i ≡ place = omega arith in
          let at_here : AreAtRanks lists ranks i holds = λ before early. at before (omega arith) in
          let least : rank ≤ first_true holds items =
          next.at_least holds (so_far.stays_true.are_satisfied holds at_here met true_ones)
          (so_far.stays_true.are_true holds at_here met true_ones) in
          let first : slice_index (first_trues holds lists) i ≡ first_true holds items = first_at holds
          ∙ ap (first_true holds) (sym same) in
          subst (λ k. slice_index ranks k ≤ slice_index (first_trues holds lists) k) here (omega arith))
          (cases_lt place i);
      stays_true = stays_then (λ holds. first_true holds items ≡ rank)
          (AreAtRanks lists ranks (i + 1)) cs ks ds ls es ms
          (λ holds at. ap (first_true holds) same ∙ sym (first_at holds) ∙ sym (at i (omega arith)) ∙ has)
          (stays_where (AreAtRanks lists ranks i) (AreAtRanks lists ranks (i + 1)) cs ks ds ls up_to_here
          so_far.stays_true) next.stays_true;
    }
