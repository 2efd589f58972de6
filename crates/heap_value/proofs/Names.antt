-- The names of the logic that the walks of the handle use, in one place.
pub use Rattle.std.proofs.Common.{◌≡◌, ℕ, List, [], ◌∷◌, ◌++◌, refl, sym, ap, ◌∙◌, subst}
pub use mathlib.Core.Bool.{Bool, true, false}
pub use mir.Syntax.{Fn}
pub use mir.Val.{Val, vptr, vbool, vstruct, vcons, vnil, of_list}
pub use base.Logic.{SProp, ent, emp, id⊢, fst∗, never}
pub use base.Fml.{Fml, ftrue, fsep}
pub use prog.Wp.{WpFn}
pub use types.Logic.{sem, Logic}
pub use types.Kit.{Item, Goal, Seq, Step, step, ‵, raw, ◌⊛◌, some, later, at_ret, given, ◌$◌, ◌∵◌, !, qed, by, move, keep, drop, split, split3, join, fsplit, fjoin, fpick, fpack, pick, learn, suffices, use0, use1, use2, await, rewrite, feq_i, feq_l, done}
pub use types.Run.{stop, fld, of_opd, true_lit, false_lit, no_more, and_then, returns, enter, first, blocks, exec}
pub use types.ByLocal.{alloc_all, pass_all, free_all, look_at, get, get_in, sets, sets_last, env}
pub use types.Part.{agg, sub, whole}
pub use contract.Monad.{fact, fact_i}
pub use contract.Running.{tables}
pub use denote.Exit.{yes, no}
pub use denote.RattleType.{RattleType, Valss, owns}
pub use denote.Signature.{types_at, plain}
pub use denote.RawPtr.{Ptr, RawPtr, block_ptr, null_ptr, ptr_val, in_a_block}
pub use denote.Plain.{Boolean}
pub use denote.Steps.{nothing, heard, only}
pub use denote.Struct.Struct.{within}
pub use denote.Struct.Owning.{shape}
pub use denote.Triple.Entry.{alive}
pub use denote.Triple.Walked.{Stays, stay_dropped, walk_of, Goes-dropped}
pub use seplogic.Ra.Ura.{Ura}
pub use Rattle.core.proofs.alloc.Calls.{Goes-blank}
pub use Rattle.std.proofs.raw_atomic.Walks.{proved_at, leaves}
