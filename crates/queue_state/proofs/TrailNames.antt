-- The names of the logic that the walks of a trail use, and its value as the machine has it: it owns nothing.
pub use Rattle.std.proofs.Common.{◌≡◌, ℕ, List, [], ◌∷◌, ◌++◌, refl}
pub use mir.Syntax.{named}
pub use mir.Val.{Val, vptr, vstruct, vcons, vnil}
pub use base.Logic.{SProp, ent, emp}
pub use types.Logic.{sem, Logic}
pub use types.Kit.{‵, raw, ◌⊛◌, ◌$◌, ◌∵◌, !, qed, by, keep, split, fjoin, use0}
pub use types.Run.{no_more, and_then, returns, enter}
pub use types.ByLocal.{alloc_all, pass_all, free_all, look_at, get, sets}
pub use types.Part.{agg}
pub use contract.Running.{tables}
pub use contract.Monad.{fact, fact_i}
pub use denote.Exit.{yes}
pub use denote.RattleType.{RattleType, owns}
pub use denote.Signature.{types_at, plain}
pub use denote.Steps.{nothing}
pub use denote.Triple.Entry.{alive}
pub use denote.Triple.Walked.{Stays, walk_of, stay_dropped, Goes-dropped}
pub use denote.Builtin.{RefOf}
pub use denote.Ref.{shr_vals, shr_Tells}
pub use seplogic.Ra.Ura.{Ura}
pub use Rattle.std.proofs.raw_atomic.Walks.{proved, leaves}
use denote.Shadow.{makes_shadow}
use denote.Struct.Struct.{Struct}
use denote.Struct.Owning.{shape}
use Rattle.queue_state.specs.contracts.trail.Trail as trail

abbrev pub token_val : Val
token_val = vstruct (vcons (vstruct vnil) vnil)

abbrev pub Frame : RattleType
Frame = Struct (shape trail.the_type)

pub frame_made : {M : Type 1} {𝓤 : Ura M} (𝓛 : Logic 𝓤) → ent 𝓤 (emp 𝓤) (sem 𝓛 (Frame.own_val (tt, tt) (token_val ∷ [])))
frame_made 𝓛 = makes_shadow 𝓛 (Frame.own_val (tt, tt) (token_val ∷ [])) (λ vss. (tt, ((λ uss. (tt, tt)), tt))) ((vstruct vnil ∷ [], tt), (refl, ((tt, (refl, tt)), tt)))
