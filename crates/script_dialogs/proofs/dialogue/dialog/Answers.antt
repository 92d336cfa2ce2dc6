use Rattle.script_dialogs.proofs.dialogue.dialog.Goals as goal

pub returns-clause-answers : goal.returns-clause-answers
returns-clause-answers g c = c.dialog_over.ensures.answers

pub returns-clause-calls : goal.returns-clause-calls
returns-clause-calls g c = c.dialog_over.ensures.calls
