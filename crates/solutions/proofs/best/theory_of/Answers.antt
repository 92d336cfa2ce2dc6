use Rattle.std.proofs.Common.{◌≡◌, [], true}
use Rattle.solutions.proofs.Words.{All, gathered, is_allowed, IsMet, IsSolution}
use Rattle.solutions.proofs.ReasonLaws.{meets_all}
use Rattle.solutions.proofs.EncodingLemmas as L
use Rattle.solutions.proofs.best.theory_of.Goals as goal

pub returns : goal.returns
returns g c =
    let p = gathered g.D.NameId.PartialEq.eq g.D.SolvableId.PartialEq.eq g.D.NameId.Slots.IdMap.is_too_large
    g.D.SolvableId.Slots.IdMap.is_too_large g.D.SolvableId.Set.IdSet.is_too_large g.D.NameId.SolverId.are_many
    g.D.Interner.universe g.D.DependencyProvider.answers c.args.encoder.now.provider.now in
    let requested = c.args.requested.now in
    let reasons = c.args.evidence.now.reasons.now in
    let first = c.in_ok-theory.theory.clauses.items in
    let second = c.forbid_all_unlisted.new.theory.clauses.items in
    L.still_then p (IsSolution p requested) [] first second
    (L.still_where p (λ picked. All (IsMet p picked) reasons) (IsSolution p requested) [] first
    (λ picked s. meets_all p g.met.D.NameId.Eq.laws.refl g.met.D.SolvableId.Eq.laws.refl
    g.met.D.SolvableId.SameValue.same requested picked s reasons c.requires)
    c.in_ok-theory.ensures)
    (L.still_where p (λ picked. All (λ s. is_allowed p s ≡ true) picked) (IsSolution p requested) first second
    (λ picked s. s.allowed) c.in_ok-forbid_all_unlisted.ensures)
