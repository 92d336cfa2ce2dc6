-- The words of proofs by hand, for functions that the borrow checker does not cover.
pub use Rattle.std.proofs.Common.{[], ◌∷◌, ◌++◌, refl}
pub use Rattle.std.proofs.raw_atomic.Walks.{proved}
pub use base.Fml.{ftrue, flft}
pub use mir.Syntax.{named}
pub use mir.Val.{vstruct, vnil}
pub use types.Kit.{‵, raw, ◌⊛◌, ◌$◌, ◌∵◌, !, qed, done, move, keep, drop, split, join, fjoin, suffices}
pub use types.Run.{enter, returns, no_more}
pub use types.ByLocal.{alloc_all, pass_all, free_all, look_at, sets}
pub use types.Part.{agg}
pub use denote.Exit.{yes}
pub use denote.Ref.{ShrRef, shr_vals, shr_Tells}
pub use denote.Steps.{nothing, owned}
pub use denote.Struct.Owning.{shape}
pub use denote.Struct.Struct.{Struct, Struct-Makes}
pub use denote.Triple.Entry.{on_entry}
pub use denote.Triple.Walked.{Stays, walk_of, says, stay_dropped, Goes-dropped, ends_at}
pub use denote.Builtin.{RefOf}
pub use denote.Signature.{plain}
