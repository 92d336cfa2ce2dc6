use Rattle.std.proofs.lemmas.Grind.{common_steps}
use Rattle.std.proofs.Common.{◌∙◌, sym, refl, ap, arith}
use Rattle.solver_cache.proofs.Words.{is_cached, Store}
use Rattle.solver_cache.proofs.CacheLemmas.{right_fetched, once_new, value_last, handed_on, refused_unasked}
use Rattle.solver_cache.proofs.cache.SolverCache.fetch.Goals as goal

pub invariant_of-self-2 : goal.invariant_of-self-2
invariant_of-self-2 g c =
    rw c.in_ok-insert.ensures.ok (right_fetched _ _ c.self.invariant c.args.solvable c.in_ok-answer.answer
    c.in_ok-answer.ensures.ok)

pub returns-clause-answered : goal.returns-clause-answered
returns-clause-answered g c = record {
  fetched = once_new _ _ _ _ c.requires.new (rw (sym c.self.view_is, c.in_ok-insert.ensures.ok)
      (c.in_ok-answer.answer, c.in_ok-answer.ensures.ok, refl));
  answer = rw (sym c.self.view_is, c.in_ok-insert.ensures.ok, c.in_ok-insert.ensures.place) (
    c.in_ok-answer.answer,
    value_last c.self.inside.dependencies c.args.solvable c.in_ok-answer.answer,
    c.in_ok-answer.ensures.ok,
  );
}

pub returns-in_err-insert-clause-refused : goal.returns-in_err-insert-clause-refused
returns-in_err-insert-clause-refused g c =
    handed_on _ c.from_residual-in_err-insert.result (Store c.in_err-insert.field-0.0)
    c.from_residual-in_err-insert.ensures.1 (record {
      reason = rw (sym c.self.view_is) (refused_unasked _ _ c.in_err-insert.field-0.0
          (ap (λ v. is_cached (g.D.SolvableId.PartialEq.eq c.args.solvable) v.dependencies) c.self.view_is
          ∙ c.requires.new)
          c.in_err-insert.ensures.refused);
      left = grind (arith, common_steps);
    })
