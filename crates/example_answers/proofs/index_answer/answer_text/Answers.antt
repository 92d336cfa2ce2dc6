use Rattle.std.proofs.Common.{inl}
use Rattle.example_answers.proofs.Words.{OutOfMemory}
use Rattle.example_answers.proofs.IndexLemmas.{refused_unreadable}
use Rattle.example_answers.proofs.index_answer.answer_text.Goals as goal

pub returns-in_ok-refused_text-in-Err-clause-answers : goal.returns-in_ok-refused_text-in-Err-clause-answers
returns-in_ok-refused_text-in-Err-clause-answers c = inl (OutOfMemory, c.in_ok-refused_text-in-Err.ensures)

pub returns-in_ok-refused_text-in-Err-clause-unreadable : goal.returns-in_ok-refused_text-in-Err-clause-unreadable
returns-in_ok-refused_text-in-Err-clause-unreadable c = refused_unreadable _
