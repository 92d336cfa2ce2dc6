-- The words that lemmas and answers are said with: those of this crate, and of crates below.
pub use Rattle.corrections.specs.Proposals.{IsForbidden, named_in}
pub use Rattle.example_index.specs.Listed.{AreRead, IsIndex}
pub use Rattle.example_index.specs.declared.fault.IndexFault.{IndexFault}
pub use Rattle.example_index.specs.declared.fault.IndexFault.TheVariants.{Refused}
pub use Rattle.example_index.specs.declared.index.SmallIndex.{SmallIndex}
pub use Rattle.index_text.specs.Formats.{Numbers}
pub use Rattle.index_text.specs.Index.{IndexText}
pub use Rattle.index_text.specs.Indexes.{indexes_of, NumberedWords}
pub use Rattle.index_text.specs.PlainLines.{plain_line, plain_lines}
pub use Rattle.index_text.specs.declared.line.Line.{Line}
pub use Rattle.picking.specs.Answers.{FindsNone, GivesEnough, GivesSo, PicksBest, PicksCaused, PicksNeeded}
pub use Rattle.picking.specs.Answers.{PicksNoneSpare, PicksRanked, PicksSolution}
pub use Rattle.picking.specs.declared.finding.Answer.{Answer}
pub use Rattle.picking.specs.declared.finding.Choice.{Choice}
pub use Rattle.picking.specs.declared.finding.Refutation.{Refutation}
pub use Rattle.report_trees.specs.Trees.{IsTreeOrReport}
pub use Rattle.reports.specs.Graphs.{IsGraph}
pub use Rattle.resolvo_ids.specs.Types.StoreError.TheVariants.{OutOfMemory}
pub use Rattle.resolvo_pool.specs.Functions.{gathered, Provider}
pub use Rattle.resolvo_pool.specs.Texts.{Texts}
pub use Rattle.resolvo_pool.specs.Types.ConditionalRequirement.{ConditionalRequirement}
pub use Rattle.script_text.specs.Devices.{Calls, GoesWell, WritingEnds}
pub use Rattle.script_text.specs.Output.{TakesSome}
pub use Rattle.solutions.specs.Needed.{AreCaused}
pub use Rattle.solutions.specs.Newest.{newest}
pub use Rattle.solutions.specs.Wishes.{rank}
pub use Rattle.solutions.specs.declared.needed.Cause.{Cause}
pub use Rattle.solutions.specs.declared.reason.Reason.{Reason}
pub use Rattle.std.specs.Io.KnownBytes.{Appends, Keeps}
pub use Rattle.std.specs.List.{AllZip, fold, range_with_len}
pub use Rattle.std.specs.Prelude.{IsErrAnd}
pub use Rattle.std.specs.declared.alloc.Global.{Global}
pub use Rattle.example_answers.specs.Answers.{AnswersIndex, best_line, header, IsAnswer, IsAnswerOf, IsPicked}
pub use Rattle.example_answers.specs.Answers.{IsRefuted, lines_of, NotShown, OfIndex, SaysNoSolution, SaysSolution}
pub use Rattle.example_answers.specs.Explained.{ExplainsAnswer, ExplainsIndex, ExplainsOf, ExplainsSolution}
pub use Rattle.example_answers.specs.Explained.{lines_of_causes, ReportsNoSolution, text_of_conflict, text_of_pick}
pub use Rattle.example_answers.specs.Faults.{IsFault, SaysFault, unreadable_in}
pub use Rattle.example_answers.specs.Names.{names_of}
pub use Rattle.example_answers.specs.Printed.{Answered, AreAnswers, AreFirstAnswers, empty_line, gap, is_first_after}
pub use Rattle.example_answers.specs.Printed.{printed, PrintingEnds, Prints, worst_status}
pub use Rattle.example_answers.specs.Reasons.{text_of_name, text_of_reason, text_of_solvable}
pub use Rattle.example_answers.specs.Shown.{ShowsNoSolution}
pub use Rattle.example_answers.specs.Status.{status_of}
pub use Rattle.example_answers.specs.declared.outcome.Outcome.{Outcome}
pub use Rattle.example_answers.specs.declared.outcome.Outcome.TheVariants.{Failed, GaveUp, NoSolution, Picked}
pub use Rattle.example_answers.specs.declared.outcome.Outcome.TheVariants.{Unreadable}
pub use Rattle.example_answers.specs.declared.print_fault.PrintFault.{PrintFault}
