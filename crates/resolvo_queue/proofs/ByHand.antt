-- The words of proofs by hand, for functions that the borrow checker does not cover, and what a log of names is to the
-- machine: a struct of one struct of nothing.
pub use Rattle.std.proofs.Common.{◌≡◌, ℕ, List, [], ◌∷◌, ◌++◌, refl}
pub use Rattle.std.proofs.raw_atomic.Walks.{proved}
pub use base.Fml.{ftrue, flft}
use mir.Syntax.{Args, a_type}
pub use mir.Syntax.{named}
pub use mir.MapTy.{inst_fn}
use mir.Val.{Val, vcons}
pub use mir.Val.{vstruct, vnil}
pub use types.Kit.{‵, raw, ◌⊛◌, ◌$◌, ◌∵◌, !, qed, done, move, keep, drop, split, join, fjoin, suffices}
pub use types.Run.{enter, returns, and_then, no_more}
pub use types.ByLocal.{alloc_all, pass_all, free_all, look_at, get, sets}
pub use types.Part.{agg}
use denote.RattleType.{RattleType}
use denote.Param.{layouts}
pub use denote.Param.{param}
pub use denote.Exit.{yes}
pub use denote.Ref.{ShrRef, shr_vals, shr_Tells}
pub use denote.Slice.{ShrSlice, shr_slice_vals, shr_slice_Tells}
pub use denote.Steps.{nothing, owned}
pub use denote.Struct.Owning.{shape}
pub use denote.Struct.Struct.{Struct, Struct-Makes}
pub use denote.Triple.Entry.{on_entry}
pub use denote.Triple.Walked.{Stays, walk_of, says, stay_dropped, Goes-dropped, ends_at}
pub use denote.Builtin.{RefOf, SliceRefOf}
pub use denote.Signature.{plain}

abbrev pub mark : Val
mark = vstruct vnil

abbrev pub marked : Val
marked = vstruct (vcons mark vnil)

abbrev pub names_of : RattleType → Args
names_of N = layouts (a_type ∷ []) (N, tt)
