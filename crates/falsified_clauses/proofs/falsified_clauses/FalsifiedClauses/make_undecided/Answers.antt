use Rattle.std.proofs.Common.{sym, subst}
use Rattle.falsified_clauses.proofs.Words.{Counts, grouped_by}
use Rattle.falsified_clauses.proofs.CountLaws.{shows_undecided}
use Rattle.falsified_clauses.proofs.falsified_clauses.FalsifiedClauses.make_undecided.Goals as goal

pub returns : goal.returns
returns g c s counts =
    let f = c.self.inside in
    let at = subst (λ k. Counts k s) (sym c.self.view_is) counts in record {
      represents = shows_undecided f.keys.items _ s c.args.literal
          (c.make_undecided.ensures.represents (grouped_by f.keys.items s) at.represents);
      grouped = at.grouped;
      known = at.known;
    }
