use Rattle.std.proofs.Common.{◌≡◌, ◌∙◌, ℕ, Bool, true, List, length, get_or, subst, sym, ap, ltb, ltb-true}
use Rattle.std.proofs.lemmas.List.Elements.{All-get_or}
use Rattle.solutions.proofs.Words.{AreSatisfied, Fact, has_true, is_true, Literal, Vec}
use Rattle.solutions.proofs.DecisionLemmas.{answered}
use Rattle.solutions.proofs.FollowsLemmas.{follows_none, follows_refuted, follows_where}
use Rattle.solutions.proofs.clauses.Rules.visit.Goals as goal

-- the clause at a place is satisfied
satisfied_at : {N S A : Type 0} (holds : Fact N S → Bool) (clauses : List (Vec (Literal N S) A)) (place : ℕ)
    (clause : Vec (Literal N S) A)
    (literals : List (Literal N S)) → true ≡ ltb place (length clauses) → clause ≡ get_or clauses place clause →
    literals ≡ clause.items
    → AreSatisfied holds clauses → has_true holds literals ≡ true
satisfied_at {N} {S} {A} holds clauses place clause literals within is same met =
    ap (has_true holds) same
    ∙ subst (λ (c : Vec (Literal N S) A). has_true holds c.items ≡ true) (sym is)
    (All-get_or (λ (c : Vec (Literal N S) A). has_true holds c.items ≡ true) clauses place clause
    (ltb-true place (length clauses) (sym within)) met)

pub returns-in_default : goal.returns-in_default
returns-in_default g c = follows_none (λ holds. AreSatisfied holds c.args.self.now.clauses.now)
    c.args.trail.now.literals.items

pub returns-in-Open : goal.returns-in-Open
returns-in-Open g c = follows_none (λ holds. AreSatisfied holds c.args.self.now.clauses.now)
    c.args.trail.now.literals.items

pub returns-in-Falsified : goal.returns-in-Falsified
returns-in-Falsified g c =
    follows_refuted (λ holds. AreSatisfied holds c.args.self.now.clauses.now) c.args.trail.now.literals.items
    (λ holds met true_ones. c.in-Falsified.ensures holds true_ones
    (satisfied_at holds c.args.self.now.clauses.now c.args.place c.in-Some.clause.now c.deref.result.now
    c.in-Some.ensures.lookup.0 c.in-Some.ensures.lookup.1 c.deref.ensures.value met))

pub returns-in-Unit : goal.returns-in-Unit
returns-in-Unit g c =
    answered c.add.result
    (λ answer follows. follows_where (λ holds. is_true holds c.in-Unit.literal ≡ true)
    (λ holds. AreSatisfied holds c.args.self.now.clauses.now)
    c.args.trail.now.literals.items c.add.new.self.literals.items answer
    (λ holds met true_ones. c.in-Unit.ensures holds true_ones
    (satisfied_at holds c.args.self.now.clauses.now c.args.place c.in-Some.clause.now c.deref.result.now
    c.in-Some.ensures.lookup.0 c.in-Some.ensures.lookup.1 c.deref.ensures.value met)) follows)
    c.add.ensures
