-- Learnt clauses, one after another, and what follows for each solution.
use Rattle.std.proofs.Common.{◌≡◌, ◌∙◌, Bool, true, false, not, ◌||◌, List, [], ◌∷◌, ◌++◌, map, ap, refl, sym, subst}
use Rattle.std.proofs.Common.{true≢false, if◌then◌else◌}
use Rattle.std.proofs.lemmas.List.Elements.{All-nil, All-cons, All-append}
use Rattle.solutions.proofs.Words.{AreSatisfied, AreStillSatisfied, AreTrue, Fact, Follows, has_true, is_true, Literal}
use Rattle.solutions.proofs.Words.{Provider, Replayed, truth, Vec}

module _ {N S : Type 0} where
  negated_true : (holds : Fact N S → Bool) (literals : List (Literal N S)) (opposite : Literal N S → Literal N S)
      → ((l : Literal N S) → is_true holds (opposite l) ≡ not (is_true holds l))
      → (AreTrue holds literals → ⊥) → has_true holds (map opposite literals) ≡ true
  negated_true holds [] opposite is none = absurd (none (All-nil (λ l. is_true holds l ≡ true)))
  negated_true holds (l ∷ literals) opposite is none =
      (elim (is_true holds l) as (λ b. is_true holds l ≡ b →
      (is_true holds (opposite l) || has_true holds (map opposite literals)) ≡ true) [
        | true ↦ λ e. rw (is l, e) (negated_true holds literals opposite is
            (λ all. none (All-cons (λ k. is_true holds k ≡ true) l literals e all)))
        | false ↦ λ e. rw (is l, e) refl
      ]) refl

  opposite_is : (holds : Fact N S → Bool) (l : Literal N S)
      → is_true holds (record { fact = l.fact; number = l.number; value = not l.value }) ≡ not (is_true holds l)
  opposite_is holds l = cases (holds l.fact) l.value
    where
      cases : (h v : Bool) → (if not v then h else not h) ≡ not (if v then h else not h)
      cases h true = refl
      cases true false = refl
      cases false false = refl

module _ {N S A : Type 0} where
  pub replayed_none : (clauses : List (Vec (Literal N S) A)) (known : List (Literal N S)) →
      Replayed clauses known clauses known false
  replayed_none clauses known = record {
    are_satisfied = λ holds met true_ones. met;
    are_true = λ holds met true_ones. true_ones;
    refuted = λ e holds met true_ones. true≢false (sym e);
  }

  -- what follows from the clauses
  pub replayed_follows : (clauses : List (Vec (Literal N S) A)) (known now : List (Literal N S)) (answer : Bool)
      → Follows (λ holds. AreSatisfied holds clauses) known now answer → Replayed clauses known clauses now answer
  replayed_follows clauses known now answer f = record {
    are_satisfied = λ holds met true_ones. met;
    are_true = λ holds met true_ones. f.are_true holds met true_ones;
    refuted = λ e holds met true_ones. f.refuted e holds met true_ones;
  }

  pub replayed_by : (clauses given : List (Vec (Literal N S) A)) (known now : List (Literal N S))
      (answer requested : Bool) → answer ≡ requested → given ≡ clauses
      → Follows (λ holds. AreSatisfied holds given) known now answer → Replayed clauses known clauses now requested
  replayed_by clauses given known now answer requested is same f =
      subst (Replayed clauses known clauses now) is
      (subst (λ cs. Replayed cs known cs now answer) same (replayed_follows given known now answer f))

  -- where literals are refuted
  pub refuted_still : (clauses given : List (Vec (Literal N S) A)) (known now literals others : List (Literal N S)) →
      given ≡ clauses → now ≡ known
      → others ≡ literals → ((holds : Fact N S → Bool) → AreSatisfied holds given → AreTrue holds known →
      AreTrue holds literals → ⊥)
      → (holds : Fact N S → Bool) → AreSatisfied holds clauses → AreTrue holds now → AreTrue holds others → ⊥
  refuted_still clauses given known now literals others same back alike refuted holds met true_ones all =
      refuted holds (subst (AreSatisfied holds) (sym same) met) (subst (AreTrue holds) back true_ones)
      (subst (AreTrue holds) alike all)

  pub replayed_then : (cs : List (Vec (Literal N S) A)) (ks : List (Literal N S)) (ds : List (Vec (Literal N S) A))
      (ls : List (Literal N S))
      (es : List (Vec (Literal N S) A)) (ms : List (Literal N S)) (first answer : Bool)
      → Replayed cs ks ds ls first → Replayed ds ls es ms answer → Replayed cs ks es ms answer
  replayed_then cs ks ds ls es ms first answer f g = record {
    are_satisfied = λ holds met true_ones. g.are_satisfied holds (f.are_satisfied holds met true_ones)
        (f.are_true holds met true_ones);
    are_true = λ holds met true_ones. g.are_true holds (f.are_satisfied holds met true_ones)
        (f.are_true holds met true_ones);
    refuted = λ e holds met true_ones. g.refuted e holds (f.are_satisfied holds met true_ones)
        (f.are_true holds met true_ones);
  }

  -- a clause that says that literals aren't all true, where they can't be
  pub replayed_clause : (clauses now : List (Vec (Literal N S) A)) (known literals : List (Literal N S))
      (clause : Vec (Literal N S) A)
      → now ≡ clauses ++ clause ∷ []
      → clause.items ≡ map (λ l. record { fact = l.fact; number = l.number; value = not l.value }) literals
      → ((holds : Fact N S → Bool) → AreSatisfied holds clauses → AreTrue holds known → AreTrue holds literals → ⊥)
      → Replayed clauses known now known false
  replayed_clause clauses now known literals clause is says refuted = record {
    are_satisfied = λ holds met true_ones.
        let P = λ (c : Vec (Literal N S) A). has_true holds c.items ≡ true in
        let has : has_true holds clause.items ≡ true = ap (has_true holds) says
        ∙ negated_true holds literals (λ l. record { fact = l.fact; number = l.number; value = not l.value })
        (opposite_is holds)
        (refuted holds met true_ones) in
        subst (AreSatisfied holds) (sym is) (All-append P clauses (clause ∷ []) met
        (All-cons P clause [] has (All-nil P)));
    are_true = λ holds met true_ones. true_ones;
    refuted = λ e holds met true_ones. true≢false (sym e);
  }

-- if clauses that each choice satisfies that is so are refuted, there is no such choice
pub refuted_selections : {N S A : Type 0} (p : Provider N S) (Is : List S →
    Type 0) (clauses now : List (Vec (Literal N S) A))
    (known_now : List (Literal N S)) (answer : Bool) → AreStillSatisfied p Is [] clauses →
    Replayed clauses [] now known_now answer
    → answer ≡ true → (picked : List S) → Is picked → ⊥
refuted_selections {N} {S} {A} p Is clauses now known_now answer encoded replayed e picked so =
    let holds = truth p picked in
    replayed.refuted e holds (encoded picked so (All-nil (λ (c : Vec (Literal N S) A). has_true holds c.items ≡ true)))
    (All-nil (λ l. is_true holds l ≡ true))
