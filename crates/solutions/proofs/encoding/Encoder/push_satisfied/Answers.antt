use Rattle.std.proofs.Common.{◌≡◌, ◌∙◌, true, sym, rules}
use Rattle.solutions.proofs.Words.{gathered, is_among, is_satisfied, list_any}
use Rattle.solutions.specs.Solutions.{has_picked}
use Rattle.solutions.proofs.DecisionLemmas.{done}
use Rattle.solutions.proofs.EncodingLemmas as L
use Rattle.solutions.proofs.encoding.Encoder.push_satisfied.Goals as goal

pub returns : goal.returns
returns g c =
    let p = gathered g.D.NameId.PartialEq.eq g.D.SolvableId.PartialEq.eq g.D.NameId.Slots.IdMap.is_too_large
    g.D.SolvableId.Slots.IdMap.is_too_large g.D.SolvableId.Set.IdSet.is_too_large g.D.NameId.SolverId.are_many
    g.D.Interner.universe g.D.DependencyProvider.answers c.args.self.now.provider.now in
    let knows : c.knows.result ≡ true = search rules in
    let sets = c.as_slice.result.now in
    done c.push_any_held.result
    (λ has. L.or_same p (λ q. list_any (has_picked p (is_among p q)) sets)
    (λ q. is_satisfied p (is_among p q) c.args.requirement)
    c.args.clause.now.items c.push_any_held.new.clause.items
    (λ q. L.satisfied_where_known p c.args.requirement sets q (sym c.knows.ensures ∙ knows) (search rules)) has)
    c.push_any_held.ensures
