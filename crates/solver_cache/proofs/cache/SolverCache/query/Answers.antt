use Rattle.std.proofs.lemmas.Grind.{common_steps}
use Rattle.std.proofs.Common.{◌∙◌, sym, refl, ap, length, inr, arith}
use Rattle.solver_cache.proofs.Words.{hints_of, is_cached, Store}
use Rattle.solver_cache.proofs.CacheLemmas.{right_asked, right_marked, later_asked, later_marked, once_new, value_last}
use Rattle.solver_cache.proofs.CacheLemmas.{found_last, kept_last, handed_on, refused_unasked, refusal_wider}
use Rattle.solver_cache.proofs.IdLemmas.{used_up_by_many, second_fails}
use Rattle.solver_cache.proofs.HintLemmas.{still_marked}
use Rattle.solver_cache.proofs.cache.SolverCache.query.Goals as goal

pub invariant_of-self-2 : goal.invariant_of-self-2
invariant_of-self-2 g c =
    rw c.in_ok-insert.ensures.ok (right_asked _ _ c.self.invariant c.args.name c.in_ok-answer.answer
    c.mark_hints.new.hinted
    c.in_ok-answer.ensures.ok (second_fails _ _ c.in_ok-insert.ensures.fits))

pub returns-clause-answered : goal.returns-clause-answered
returns-clause-answered g c =
    let has = g.D.SolvableId.Set.IdSet.has in
    let same = g.D.NameId.PartialEq.eq in
    let name = c.args.name in
    let answer = c.in_ok-answer.answer in
    record {
      queried = once_new _ _ _ _ c.requires (rw (sym c.self.view_is, c.in_ok-insert.ensures.ok)
          (answer, c.in_ok-answer.ensures.ok, c.in_ok-mark_hints.ensures.ok, refl));
      own = rw (c.in_ok-insert.ensures.ok, c.in_ok-insert.ensures.place)
          (value_last c.self.inside.candidates name answer
          ∙ sym (found_last (same name) c.self.inside.candidates name answer
          (ap (λ v. is_cached (same name) v.candidates) c.self.view_is ∙ c.requires)
          (g.met.D.NameId.Eq.laws.refl name)));
      answer = rw (sym c.self.view_is, c.in_ok-insert.ensures.ok, c.in_ok-insert.ensures.place)
          (answer, value_last c.self.inside.candidates name answer, c.in_ok-answer.ensures.ok);
      later = rw (sym c.self.view_is, c.in_ok-insert.ensures.ok) (later_asked has _ name answer c.mark_hints.new.hinted
          (λ s h. c.in_ok-mark_hints.ensures.ok s ∙
          still_marked g.D.SolvableId.PartialEq.eq g.D.SolvableId.Set.IdSet.is_too_large (has c.self.inside.hinted)
          (hints_of answer) s h));
      queried_now = rw c.in_ok-insert.ensures.ok (kept_last (same name) c.self.inside.candidates name answer
          (g.met.D.NameId.Eq.laws.refl name));
    }

-- where hints can't be marked

pub returns-in_err-mark_hints-clause-refused : goal.returns-in_err-mark_hints-clause-refused
returns-in_err-mark_hints-clause-refused g c =
    handed_on _ c.from_residual-in_err-mark_hints.result (Store c.in_err-mark_hints.field-0.0)
    c.from_residual-in_err-mark_hints.ensures.1 (record {
      reason = grind (arith, common_steps);
      left = rw (sym c.self.view_is) (inr (
        c.in_ok-answer.answer,
        c.in_ok-answer.ensures.ok,
        c.in_err-mark_hints.ensures.err.within,
        refl,
      ));
      later = grind (arith, common_steps);
    })

-- where the answer can't be kept

pub returns-in_err-insert-clause-refused : goal.returns-in_err-insert-clause-refused
returns-in_err-insert-clause-refused g c =
    let has = g.D.SolvableId.Set.IdSet.has in
    handed_on _ c.from_residual-in_err-insert.result (Store c.in_err-insert.field-0.0)
    c.from_residual-in_err-insert.ensures.1 (record {
      reason = rw (sym c.self.view_is) (refused_unasked _ _ c.in_err-insert.field-0.0
          (ap (λ v. is_cached (g.D.NameId.PartialEq.eq c.args.name) v.candidates) c.self.view_is ∙ c.requires)
          (refusal_wider _ _ c.in_err-insert.field-0.0
          (used_up_by_many g.D.NameId.SolverId.are_many (g.D.NameId.Slots.IdMap.is_too_large c.args.name)
          (length c.self.inside.candidates) c.insert.ensures.few)
          c.in_err-insert.ensures.refused));
      left = rw (sym c.self.view_is, c.in_err-insert.ensures.err)
          (inr (
            c.in_ok-answer.answer,
            c.in_ok-answer.ensures.ok,
            λ s h. sym (c.in_ok-mark_hints.ensures.ok s)
                ∙ h,
            refl,
          ));
      later = rw (sym c.self.view_is, c.in_err-insert.ensures.err) (later_marked has _ c.mark_hints.new.hinted
          (λ s h. c.in_ok-mark_hints.ensures.ok s ∙
          still_marked g.D.SolvableId.PartialEq.eq g.D.SolvableId.Set.IdSet.is_too_large (has c.self.inside.hinted)
          (hints_of c.in_ok-answer.answer) s h));
    })

pub insert-requires : goal.insert-requires
insert-requires g c = grind (arith, common_steps)

pub invariant_of-self-in_err-insert : goal.invariant_of-self-in_err-insert
invariant_of-self-in_err-insert g c =
    rw c.in_err-insert.ensures.err (right_marked _ _ c.self.invariant c.mark_hints.new.hinted)
