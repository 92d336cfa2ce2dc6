-- The words that lemmas and answers are said with: those of this crate, and of crates below.
pub use Rattle.example_answers.specs.Faults.{unreadable_in}
pub use Rattle.example_answers.specs.declared.outcome.Outcome.{Outcome}
pub use Rattle.example_answers.specs.declared.outcome.Outcome.TheVariants.{GaveUp, Unreadable}
pub use Rattle.example_index.specs.Listed.{AreRead, places_where}
pub use Rattle.example_index.specs.Notes.{is_empty_at, notes_from}
pub use Rattle.example_index.specs.declared.index.SmallIndex.{SmallIndex}
pub use Rattle.index_text.specs.Index.{IndexText}
pub use Rattle.index_text.specs.declared.diagnosis.Diagnosis.{Diagnosis}
pub use Rattle.index_text.specs.declared.line.Line.{Line}
pub use Rattle.picking.specs.declared.finding.Answer.{Answer}
pub use Rattle.picking.specs.declared.finding.Answer.TheVariants.{NotASolution, Picked, StepsUsed, Uncertified}
pub use Rattle.picking.specs.declared.finding.Answer.TheVariants.{Unsolvable}
pub use Rattle.resolvo_ids.specs.Types.VersionSetId.{VersionSetId}
pub use Rattle.resolvo_pool.specs.Functions.{Provider}
pub use Rattle.resolvo_pool.specs.Provider.{knows_requirement, sets_of, Universe}
pub use Rattle.resolvo_pool.specs.Texts.{Texts}
pub use Rattle.resolvo_pool.specs.Types.Condition.{Condition}
pub use Rattle.resolvo_pool.specs.Types.ConditionalRequirement.{ConditionalRequirement}
pub use Rattle.resolvo_pool.specs.Types.LogicalOperator.{LogicalOperator}
pub use Rattle.resolvo_pool.specs.Types.LogicalOperator.TheVariants.{And, Or}
pub use Rattle.resolvo_pool.specs.Types.Requirement.{Requirement}
pub use Rattle.serde_json.specs.Data.{array, Data, null, string}
pub use Rattle.serde_json.specs.View.{items_of, view}
pub use Rattle.serde_json.specs.Written.{compact_text, has_float}
pub use Rattle.serde_json.specs.declared.value.Value.{Null, the_lemmas}
pub use Rattle.solutions.specs.declared.reason.Reason.{Reason}
pub use Rattle.solutions.specs.declared.reason.Reason.TheVariants.{Excluded, Lacks, Limits, Locked, Needs, OneVersion}
pub use Rattle.solutions.specs.declared.reason.Reason.TheVariants.{Unknown}
pub use Rattle.std.specs.Str.Lines.{lines}
pub use Rattle.std.specs.declared.alloc.Global.{Global}
pub use Rattle.example_json.specs.Answers.{empty_sets, IndexIsShown, notes_data, place_data, ShowsAnswer, ShowsOf}
pub use Rattle.example_json.specs.Answers.{ShowsRefusal, ShowsUnreadable}
pub use Rattle.example_json.specs.Objects.{answer_data, unreadable_data}
pub use Rattle.example_json.specs.Reasons.{need_data, reason_data, reasons_data}
pub use Rattle.example_json.specs.Values.{array_of, if_data, joined, parent_data, parts_data, set_data}
unfoldable pub use Rattle.example_json.specs.Values.{condition_data}
pub use Rattle.example_json.specs.Values.{sets_data, sets_of_data, version_data, versions_data}
