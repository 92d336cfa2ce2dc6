use Rattle.std.proofs.Common.{◌≡◌, ◌∙◌, false, true, sym, rules}
use Rattle.solutions.proofs.Words.{All, gathered, is_allowed, is_among}
use Rattle.solutions.proofs.DecisionLemmas.{done}
use Rattle.solutions.proofs.ReasonLemmas.{unpicked_where_not_allowed}
use Rattle.solutions.proofs.EncodingLemmas as L
use Rattle.solutions.proofs.encoding.Encoder.forbid_unlisted.Goals as goal

pub returns : goal.returns
returns g c =
    let p = gathered g.D.NameId.PartialEq.eq g.D.SolvableId.PartialEq.eq g.D.NameId.Slots.IdMap.is_too_large
    g.D.SolvableId.Slots.IdMap.is_too_large g.D.SolvableId.Set.IdSet.is_too_large g.D.NameId.SolverId.are_many
    g.D.Interner.universe g.D.DependencyProvider.answers c.args.self.now.provider.now in
    let s = c.args.solvable in
    let no : c.in_ok-is_allowed.field-0 ≡ false = search rules in
    done c.forbid.result
    (L.still_where p (λ picked. is_among p picked s ≡ false) (λ picked. All (λ t. is_allowed p t ≡ true) picked)
    c.args.theory.now.clauses.items c.forbid.new.theory.clauses.items
    (λ picked. unpicked_where_not_allowed p g.met.D.SolvableId.SameValue.same s picked
    (sym c.in_ok-is_allowed.ensures.ok ∙ no)))
    c.forbid.ensures
