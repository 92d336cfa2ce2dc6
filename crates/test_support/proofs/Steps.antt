-- The words of the walks of `allocate` and `deallocate`, by what they are for.
-- plain mathematics
pub use Rattle.std.proofs.Common.{◌≡◌, ℕ, ◌+◌, ◌^◌, ◌<◌, Bool, true, false, List, [], ◌∷◌, Ok, Err, refl, ap, w64, Bor}
-- the code: its types, its values, and a generic function at one choice of its parameters
pub use mir.Syntax.{Ty, Fn, a_type, dnil, dcons, named}
pub use mir.Val.{Val, vunit, vbool, vint, vptr}
pub use mir.MapTy.{inst_fn}
pub use denote.Param.{bounded, param}
-- assertions: formulas, and what says that a lifetime is alive
pub use seplogic.Ra.Ura.{Ura}
pub use base.Logic.{SProp, ent, sep, guard, id⊢, never_e}
pub use base.Fml.{Fml, Lft, Share, ftrue, ffalse, fsep, froom, flft}
pub use contract.BorrowLft.{◌⊑◌, ⊑_trans}
pub use types.Logic.{Logic, sem}
-- the machine, and what runs on it
pub use prog.Memory.{Memory, size, align, capped, up}
pub use prog.Model.{Model}
pub use prog.Routine.{Routine}
pub use prog.Wp.{WpFn}
pub use contract.Monad.{Fun, fact}
pub use contract.Running.{Running, MachineTables, tables}
-- rows: what a Rust type owns
pub use denote.Builtin.{u64, usize, bool, RawPtr, RefOf}
pub use denote.Memory.{hidden_shr}
pub use denote.Plain.{uint_vals, uint_Tells}
pub use denote.RattleType.{RattleType, owns}
pub use denote.RawPtr.{Ptr, block_ptr, null_ptr, ptr_val, rawptr_vals, rawptr_Tells}
pub use denote.Ref.{ShrRef, shr_vals}
-- contracts: a function's, what a walk has to leave, and what is left of the parameters
pub use denote.Exit.{yes}
pub use denote.Signature.{Slot, plain, types_at}
pub use denote.Triple.Clauses.{Ended, Clauses}
pub use denote.Triple.Spec.{triple_of}
pub use denote.Triple.Statement.{Contract, Triple}
pub use denote.Triple.Table.{framed}
pub use denote.Triple.Walked.{Stays, stay_dropped, walk_of, Goes-dropped}
pub use Rattle.std.proofs.raw_atomic.Walks.{proved, leaves}
-- the context of a walk, and the steps that change only it
pub use types.Kit.{Item, Sq, ‵, raw, ◌⊛◌, some, later, given, prop, at_ret, ◌$◌, ◌∵◌, !, qed}
pub use types.Kit.{by, done, move, keep, use0, use1, use2, split, split3, join, fsplit, fjoin}
pub use types.Kit.{feq_i, feq_l, pick, learn, show, check, await, updating, now as at_once}
pub use denote.Opens.{unhide}
pub use denote.Steps.{nothing, heard, only}
-- the steps that follow the code
pub use types.Part.{agg}
pub use types.Run.{enter, exec, first, branches, skips, returns, returns_within, of_opd, unit_lit, lit, addr, fld}
pub use types.Run.{stop, and_then, no_more}
pub use types.ByLocal.{alloc_all, pass_all, free_all, look_at, get, through, sets, lands_as, env}
pub use denote.Triple.Call.{calls_at}
-- an allocator under a bound, and its two methods at a call
pub use Rattle.std.proofs.alloc.Calls.{Al, α, seen, token, Answer, answer_val, Answer-typed, Answer-Ok}
pub use Rattle.std.proofs.alloc.Calls.{Answer-err, Takes, at_takes, takes_key, Takes-goes, Takes-gives}
pub use Rattle.std.proofs.alloc.Calls.{Answered, answers, Gives, at_gives, gives_key, Gives-goes, Gives-Gives}
pub use Rattle.std.proofs.VecSteps.Shapes.{after}
