-- The words that lemmas and answers are said with: those of this crate, and of crates below.
pub use Rattle.picking.specs.Answers.{GivesEnough, GivesSo}
pub use Rattle.resolvo_pool.specs.Functions.{gathered, Provider}
pub use Rattle.resolvo_pool.specs.Types.ConditionalRequirement.{ConditionalRequirement}
pub use Rattle.solutions.specs.Reasons.{AreEnough, AreSo, IsSo}
pub use Rattle.solutions.specs.Solutions.{IsUnsolvable}
pub use Rattle.solutions.specs.declared.reason.Reason.{Reason}
pub use Rattle.std.specs.List.{All, Any, cons_option, Contains}
pub use Rattle.std.specs.Prelude.{Err, IfOk, Ok, Result}
pub use Rattle.std.specs.declared.vec.Vec.{Vec}
pub use Rattle.corrections.specs.Corrections.{AreConflicts, AreNamedMarked, IsConflict, IsCover, IsNamed, IsNamedBy}
pub use Rattle.corrections.specs.Corrections.{IsSmallest}
pub use Rattle.corrections.specs.Marks.{AreApart, Extends, ExtendsAt, HasNone, is_marked, IsWithin, kept, size}
pub use Rattle.corrections.specs.Outcomes.{IfConflict, IfFound, IfNext}
pub use Rattle.corrections.specs.Proposals.{IsForbidden, named_in, requirement_in, text_of_all, text_of_each}
pub use Rattle.corrections.specs.declared.correcting.Correction.{Correction}
pub use Rattle.corrections.specs.declared.correcting.Level.{Level}
