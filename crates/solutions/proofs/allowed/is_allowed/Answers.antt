use Rattle.std.proofs.Common.{◌∙◌, Some, ap, sym}
use Rattle.solutions.proofs.Words.{candidates_of, excluded_of, gathered, locked_of}
use Rattle.solutions.proofs.AllowedLemmas.{flipped, found_allows}
use Rattle.solutions.proofs.allowed.is_allowed.Goals as goal

pub returns-in-Some-clause-ok : goal.returns-in-Some-clause-ok
returns-in-Some-clause-ok g c =
    let p = gathered g.D.NameId.PartialEq.eq g.D.SolvableId.PartialEq.eq g.D.NameId.Slots.IdMap.is_too_large
    g.D.SolvableId.Slots.IdMap.is_too_large g.D.SolvableId.Set.IdSet.is_too_large g.D.NameId.SolverId.are_many
    g.D.Interner.universe g.D.DependencyProvider.answers c.args.provider.now in
    let found = c.in-Some.found in
    c.allows.ensures
    ∙ flipped p c.args.solvable g.met.D.SolvableId.Eq.laws.symm found.candidates.items found.excluded.items found.locked
    ∙ found_allows p c.args.solvable (Some found) c.solvable_name.result c.solvable_name.ensures
    (sym (ap candidates_of c.in-Some.is) ∙ c.in_ok-found.ensures.candidates) (sym (ap excluded_of c.in-Some.is)
    ∙ c.in_ok-found.ensures.excluded)
    (sym (ap locked_of c.in-Some.is) ∙ c.in_ok-found.ensures.locked)
