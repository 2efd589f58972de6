-- A mark that is made owns nothing.
use Rattle.atomic_table.proofs.Names.{[], ◌∷◌, refl, vstruct, vnil, ent, emp, sem, Logic, Ura, RattleType, makes_shadow}
use Rattle.atomic_table.proofs.Fields.{token_val}
use denote.Struct.Struct.{Struct}
use denote.Struct.Owning.{shape}
use Rattle.message_pool.specs.contracts.mark.Mark as mark

abbrev pub Frame : RattleType
Frame = Struct (shape mark.the_type)

pub frame_made : {M : Type 1} {𝓤 : Ura M} (𝓛 : Logic 𝓤) → ent 𝓤 (emp 𝓤) (sem 𝓛 (Frame.own_val (tt, tt) (token_val ∷ [])))
frame_made 𝓛 = makes_shadow 𝓛 (Frame.own_val (tt, tt) (token_val ∷ [])) (λ vss. (tt, ((λ uss. (tt, tt)), tt))) ((vstruct vnil ∷ [], tt), (refl, ((tt, (refl, tt)), tt)))
