-- `take` moves the value out of its block, and leaves its room.
use Rattle.std.proofs.Common.{◌≡◌, List, [], ◌∷◌, ◌++◌, refl, sym, subst}
use mir.Syntax.{a_type}
use mir.Val.{Val}
use mir.MapTy.{inst_fn}
use base.Logic.{SProp, ent, emp, id⊢}
use base.Fml.{fat, froom}
use base.Fraction.{full_share}
use prog.Wp.{WpFn, Env}
use types.Kit.{‵, raw, ◌⊛◌, given, some as exists, ◌$◌, ◌∵◌, !, qed, by, move, keep, split, fsplit, fjoin, learn, pick, use0, use1, use2, suffices, at_ret}
use types.Run.{stop, fld, of_opd, no_more, and_then, returns, enter, first, blocks, exec, load, look}
use types.ByLocal.{alloc_all, pass_all, free_all, look_at, get, get_in, through, sets, sets_last, env}
use types.Part.{agg, sub, whole}
use contract.Monad.{fact, fact_i}
use contract.Running.{tables}
use denote.Exit.{no, yes}
use denote.Param.{param, layouts}
use denote.RattleType.{RattleType, owns}
use denote.RawPtr.{Ptr, block_ptr}
use denote.Signature.{types_at, plain}
use denote.Steps.{nothing}
use denote.Struct.Tuple.{Tuple}
use denote.Triple.Entry.{alive}
use denote.Triple.Walked.{Stays, stay_dropped, walk_of, Goes-dropped}
use Rattle.core.proofs.alloc.Calls.{Goes-blank, handle_tells}
use Rattle.std.proofs.raw_atomic.Walks.{proved_at, leaves}
use Rattle.std_alloc.proofs.BoxSteps.Form.{Bx, Good, own, τ}
use Rattle.std_alloc.proofs.BoxSteps.Steps.{el_out}
use Rattle.std_alloc.proofs.OfVacant.{vacant_ty, vacant_val, vacant_typed, Vacant-made}
use Rattle.std_alloc.proofs.Pairs.{pair_val, pair_Typed, pair_of}
use Rattle.std_alloc.proofs.RawLayout.{as_raw}
use Rattle.std_alloc.proofs.RcSteps.{word-Good}
use Rattle.std_alloc.proofs.VecSteps.Shapes.{after}
use Rattle.std_alloc.specs.contracts.room.vacant.Vacant as vacant
use Rattle.std_heap.specs.contracts.Global as Heap
use Rattle.std_heap.specs.contracts.GlobalAllocator.TheImpl.{ghosts}
use Rattle.heap_value.specs.contracts.lone.Lone as lonely
use Rattle.heap_value.proofs.Lones.{Lonely, on_heap, word, lone_out}
use Rattle.heap_value.specs.contracts.lone.Lone.take.{ended, clauses}
use Rattle.heap_value.specs.contracts.lone.Lone.take.Key.{name as #self}
use Rattle.heap_value.proofs.lone.Lone.take.Statement.{statement}
use Rattle.heap_value.proofs.lone.Lone.take.Code as code

pub take_spec : {M : Type 1} → statement M
take_spec 𝓤 𝓛 𝓜 𝓡 wired T L =
    let H = 𝓛.H in let 𝓣 = tables 𝓤 H 𝓜 𝓡 𝓡.env in let R : RattleType = param 0 T in let En = ended T in let c = clauses T 𝓛 𝓜.mem 𝓡.returns in let E : Bx = on_heap T L in
    let inst = layouts (a_type ∷ []) (T, tt) in let fn = inst_fn inst code.function in let Room : RattleType = vacant.the_row R Heap.the_row ghosts in
    let hs : Stays En.signature.params En.kept = (stay_dropped (plain (λ _. Lonely R)) no, (stay_dropped (plain (λ _. Heap.the_row)) yes, tt)) in
    proved_at 𝓛 En hs c 𝓜 𝓡 (Goes-blank 𝓛 1 (plain (λ _. Lonely R)) no (λ κs x f. tt), (Goes-dropped 𝓛 1 (plain (λ _. Heap.the_row)) yes (λ κs x f. refl), tt)) (#self inst) fn (code.unfolded 𝓤 H 𝓜 𝓡 wired (T, tt)) (λ z are.
    let κs = z.0.0 in let qs = z.0.1 in let a = z.0.3 in let vss = z.0.4 in let x : T.Denot = a.0.value in let alloc = a.1.0 in
    let Post : Val → SProp 𝓤 = (walk_of 𝓛 En hs c).post z in let Run : List Val → SProp 𝓤 = λ ws. WpFn 𝓤 H 𝓣.C 𝓣.Λ fn ws Post in
    qed 𝓛 ((raw (alive 𝓛 En.signature κs qs) ⊛ ‵ (owns (types_at En.signature.params κs) a vss)) ∷ raw ((c κs a).requires z.1) ∷ []) ∵ split ! $ move ! (1 ∷ []) $ fsplit ! $
    lone_out R ! a.0 vss.0 (λ b o e es. move ! (1 ∷ []) $ fsplit ! $ handle_tells E.al ! alloc vss.1.0 (λ hv eh fa.
    -- [the handle; true; the block; the token; no clause]
    let p : Ptr = block_ptr b o in let us : List Val = word p ∷ hv ∷ [] in let room : Room.Denot = record { ptr = p; alloc = alloc } in let u : Val = vacant_val hv b o in
    suffices ! (Run us) (subst (λ (ws : List Val). ent 𝓤 (Run us) (Run ws)) (sym (λ k. es k ++ (eh k ++ []))) (id⊢ 𝓤 (Run us))) $
    enter ! 𝓣.C 𝓣.Λ fn us Post $ alloc_all ! (λ l. pass_all ! refl (word-Good (lonely.the_type R).name p, (fa, tt)) $ let Fr : Env 𝓤 H = env fn.locals l in
    sets ! (of_opd ! (get_in ! (fld ! refl (stop !)) (sub ! 0 refl (whole !)))) refl (tt, tt) $
    move ! (2 ∷ []) $ fsplit ! $ use1 𝓛 (exists (λ (v : Val). given (Good E v) (‵ (fat full_share (τ E) b o v) ⊛ ‵ (own E x (v ∷ []))))) (el_out E 𝓛 x b o) $ pick ! (λ v. learn ! (λ t. split ! $
    -- [the cell; the value; the token of the block; the handle; true; the token; no clause]
    first ! $ blocks ! $ sets_last ! (of_opd ! (load ! (through ! refl (stop !)) (look ! 0 refl))) refl t $
    exec ! 𝓣.C 𝓣.Λ Fr (after 2 fn.body) (at_ret Fr Post) $
    sets ! (of_opd ! (get ! refl)) refl t $ sets ! (of_opd ! (get ! refl)) refl t $
    sets ! (agg ! (and_then ! (get ! refl) (and_then ! (get ! refl) (no_more !)))) refl (vacant_typed E.al R hv b o fa) $
    sets ! (agg ! (and_then ! (get ! refl) (and_then ! (get ! refl) (no_more !)))) refl (pair_Typed (τ E) (vacant_ty E.al R) v u t (vacant_typed E.al R hv b o fa)) $
    returns ! (look_at ! 0 refl) $ free_all ! refl $
    use1 𝓛 (‵ (froom (τ E) b o)) (𝓛.laws.at_room (τ E) b o v) $ as_raw ! (τ E) b o $ move ! (0 ∷ 2 ∷ 3 ∷ []) $ Vacant-made E.al R ! alloc b o $ use1 𝓛 (‵ (Room.own_val room (u ∷ []))) (id⊢ 𝓤 _) $ move ! (1 ∷ []) $
    use2 𝓛 (‵ ((Tuple (R ∷ Room ∷ [])).own_val (x, room) (pair_val v u ∷ []))) (pair_of 𝓛 R Room x room v u) $
    -- [the pair; true; the token; no clause]
    let Told : Type 0 = x ≡ x in
    use0 𝓛 (raw (fact 𝓤 Told)) (fact_i 𝓤 Told (emp 𝓤) refl) $ nothing ! $ nothing ! $ fjoin ! $ nothing ! $ fjoin ! $
    keep ! (4 ∷ 0 ∷ 2 ∷ 1 ∷ []) $ by ! (leaves 𝓛 En hs c z (pair_val v u) (x, room) (tt, (tt, tt)) (tt, (tt, tt)))))))))
