use Rattle.std.proofs.Common.{◌∙◌}
use Rattle.solutions.proofs.Words.{gathered, is_among, list_any}
use Rattle.solutions.specs.Solutions.{has_picked}
use Rattle.solutions.proofs.DecisionLemmas.{done}
use Rattle.solutions.proofs.EncodingLemmas as L
use Rattle.solutions.proofs.encoding.Encoder.push_held.Goals as goal

pub returns : goal.returns
returns g c =
    let p = gathered g.D.NameId.PartialEq.eq g.D.SolvableId.PartialEq.eq g.D.NameId.Slots.IdMap.is_too_large
    g.D.SolvableId.Slots.IdMap.is_too_large g.D.SolvableId.Set.IdSet.is_too_large g.D.NameId.SolverId.are_many
    g.D.Interner.universe g.D.DependencyProvider.answers c.args.self.now.provider.now in
    done c.push_picked.result
    (λ has. L.or_same p (λ q. list_any (is_among p q) c.deref.result.now) (λ q. has_picked p (is_among p q) c.args.set)
    c.args.clause.now.items c.push_picked.new.clause.items
    (λ q. L.held_where_known p c.args.set c.deref.result.now q c.in_ok-held.ensures.known (c.deref.ensures.value
    ∙ c.in_ok-held.ensures.found)) has)
    c.push_picked.ensures
