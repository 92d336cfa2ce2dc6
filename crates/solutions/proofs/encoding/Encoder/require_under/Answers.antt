use Rattle.std.proofs.Common.{◌≡◌, ◌∷◌, [], not, subst, rules}
use Rattle.solutions.proofs.Words.{gathered, HasTrueOr, is_among, is_satisfied, IsSatisfiedUnless, list_all, ⊤}
use Rattle.solutions.specs.Solutions.{has_picked}
use Rattle.solutions.proofs.DecisionLemmas.{done}
use Rattle.solutions.proofs.EncodingLemmas as L
use Rattle.solutions.proofs.encoding.Encoder.require_under.Goals as goal

pub returns : goal.returns
returns g c =
    let p = gathered g.D.NameId.PartialEq.eq g.D.SolvableId.PartialEq.eq g.D.NameId.Slots.IdMap.is_too_large
    g.D.SolvableId.Slots.IdMap.is_too_large g.D.SolvableId.Set.IdSet.is_too_large g.D.NameId.SolverId.are_many
    g.D.Interner.universe g.D.DependencyProvider.answers c.args.self.now.provider.now in
    let unless = c.args.unless.now in
    let held = c.args.held.now in
    let first : c.extend_from_slice.new.self.items ≡ unless = search rules in
    done c.add.result
    (λ is. L.still_then p (λ picked. IsSatisfiedUnless p unless picked (held ∷ []) c.args.requirement)
    c.args.theory.now.clauses.items
    c.push_unheld.new.theory.clauses.items c.add.new.self.clauses.items
    (L.still_where p (λ picked. ⊤) (λ picked. IsSatisfiedUnless p unless picked (held ∷ []) c.args.requirement)
    c.args.theory.now.clauses.items
    c.push_unheld.new.theory.clauses.items (λ picked so. tt) c.in_ok-push_unheld.ensures.theory)
    (L.still_one p (λ picked. IsSatisfiedUnless p unless picked (held ∷ []) c.args.requirement)
    c.push_unheld.new.theory.clauses.items
    c.add.new.self.clauses.items c.push_satisfied.new.clause is
    (λ picked satisfied. L.requirement_satisfied p unless c.push_satisfied.new.clause.items
    c.push_unheld.new.clause.items held picked
    (is_satisfied p (is_among p picked) c.args.requirement)
    (subst (λ literals. HasTrueOr p (λ q. not (list_all (has_picked p (is_among p q)) held)) literals
    c.push_unheld.new.clause.items) first
    c.in_ok-push_unheld.ensures.clause)
    (c.in_ok-push_satisfied.ensures picked) satisfied)))
    c.add.ensures
