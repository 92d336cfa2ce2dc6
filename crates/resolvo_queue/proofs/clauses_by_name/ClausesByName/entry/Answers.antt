use Rattle.std.proofs.Common.{◌≡◌, Some, slice_get, sym, ap, refl, ◌∙◌}
use Rattle.std.proofs.lemmas.Option.{slice_get_past, slice_get_read}
use Rattle.resolvo_queue.proofs.clauses_by_name.ClausesByName.entry.Goals as goal

pub returns-in-Some-clause-behind : goal.returns-in-Some-clause-behind
returns-in-Some-clause-behind g c =
    let read = c.deref.result.now in
    let entry = c.in-Some.entry.now in
    let got = c.in-Some.ensures.lookup in
    let at : slice_get read c.args.place ≡ Some entry =
    slice_get_read read _ c.args.place entry refl got.3.0 got.1 in
    c.self.invariant.1 c.args.place entry (ap (λ l. slice_get l c.args.place) (sym c.deref.ensures.value) ∙ at)

pub returns-in-None-clause-entry : goal.returns-in-None-clause-entry
returns-in-None-clause-entry g c =
    sym (ap (λ b. slice_get b.entries c.args.place) (sym c.self.view_is)
    ∙ (ap (λ l. slice_get l c.args.place) (sym c.deref.ensures.value)
    ∙ slice_get_past c.deref.result.now c.args.place c.in-None.ensures.lookup.3))
