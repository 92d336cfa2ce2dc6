use Rattle.std.proofs.Common.{◌≡◌, rules, None, Err, inr}
use Rattle.script_text.specs.declared.fault.LineFault.TheVariants.{Memory}
use Rattle.resolvo_store.specs.Command.{Undone, Next, Done}
use Rattle.scripts.proofs.obeying.obey.Goals as goal

pub returns-in_err-push_undone-in-UndoUntil : goal.returns-in_err-push_undone-in-UndoUntil
returns-in_err-push_undone-in-UndoUntil g c =
    let fails : c.from_residual-in_err-push_undone-in-UndoUntil.result ≡ Err Memory = search rules in
    rw fails (inr (Undone None, rw c.in-UndoUntil.is c.undo_until.ensures.step, search rules))

pub returns-in_err-push_next-in-Unpropagated : goal.returns-in_err-push_next-in-Unpropagated
returns-in_err-push_next-in-Unpropagated g c =
    let fails : c.from_residual-in_err-push_next-in-Unpropagated.result ≡ Err Memory = search rules in
    rw fails
    (inr (Next c.next_unpropagated.result, rw c.in-Unpropagated.is c.next_unpropagated.ensures.step, search rules))

pub returns-in_err-push_obeyed-in-Standard : goal.returns-in_err-push_obeyed-in-Standard
returns-in_err-push_obeyed-in-Standard g c =
    let fails : c.from_residual-in_err-push_obeyed-in-Standard.result ≡ Err Memory = search rules in
    rw fails (inr (Done, rw c.in-Standard.is c.set_standard.ensures.step, search rules))

pub returns-in_ok-push_undone-in-UndoUntil : goal.returns-in_ok-push_undone-in-UndoUntil
returns-in_ok-push_undone-in-UndoUntil g c =
    (Undone None, rw c.in-UndoUntil.is c.undo_until.ensures.step, search rules)

pub returns-in_ok-push_next-in-Unpropagated : goal.returns-in_ok-push_next-in-Unpropagated
returns-in_ok-push_next-in-Unpropagated g c =
    (Next c.next_unpropagated.result, rw c.in-Unpropagated.is c.next_unpropagated.ensures.step, search rules)

pub returns-in_ok-push_obeyed-in-Standard : goal.returns-in_ok-push_obeyed-in-Standard
returns-in_ok-push_obeyed-in-Standard g c = (Done, rw c.in-Standard.is c.set_standard.ensures.step, search rules)
