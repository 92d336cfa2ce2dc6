use Rattle.std.proofs.Common.{◌≡◌, ◌∙◌, false, true, sym, rules}
use Rattle.solutions.proofs.Words.{gathered, is_among, IsOnlyOne}
use Rattle.solutions.proofs.DecisionLemmas.{done}
use Rattle.solutions.proofs.ReasonLemmas.{other_unpicked}
use Rattle.solutions.proofs.EncodingLemmas as L
use Rattle.solutions.proofs.encoding.Encoder.forbid_other.Goals as goal

pub returns : goal.returns
returns g c =
    let p = gathered g.D.NameId.PartialEq.eq g.D.SolvableId.PartialEq.eq g.D.NameId.Slots.IdMap.is_too_large
    g.D.SolvableId.Slots.IdMap.is_too_large g.D.SolvableId.Set.IdSet.is_too_large g.D.NameId.SolverId.are_many
    g.D.Interner.universe g.D.DependencyProvider.answers c.args.self.now.provider.now in
    let s = c.args.solvable in
    let differs : g.D.SolvableId.PartialEq.eq s c.args.locked ≡ false = search rules in
    let of_it : c.is_of.result ≡ true = search rules in
    done c.forbid.result
    (L.still_where p (λ picked. is_among p picked s ≡ false) (λ picked. IsOnlyOne p picked c.args.locked)
    c.args.theory.now.clauses.items c.forbid.new.theory.clauses.items
    (λ picked. other_unpicked p g.met.D.SolvableId.Eq.laws.refl c.args.locked s picked differs (c.is_of.ensures of_it
    ∙ c.solvable_name.ensures)))
    c.forbid.ensures
