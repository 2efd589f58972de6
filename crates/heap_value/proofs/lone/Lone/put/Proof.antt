-- `put` writes the value into the room, and takes in both.
use Rattle.std.proofs.Common.{◌≡◌, List, [], ◌∷◌, ◌++◌, refl, sym, subst}
use mir.Syntax.{a_type}
use mir.Val.{Val}
use mir.MapTy.{inst_fn}
use base.Logic.{SProp, ent, emp, id⊢}
use base.Fraction.{full_share}
use prog.Wp.{WpFn, Env}
use types.Kit.{‵, raw, ◌⊛◌, ◌$◌, ◌∵◌, !, qed, by, move, keep, split, fsplit, fjoin, use0, use1, use2, suffices, at_ret}
use types.Run.{stop, fld, of_opd, no_more, and_then, returns, enter, first, blocks, exec, init, assigns_last}
use types.ByLocal.{alloc_all, pass_all, free_all, look_at, get, get_in, through, sets, env}
use types.Part.{agg, sub, whole}
use contract.Monad.{fact, fact_i}
use contract.Running.{tables}
use denote.Exit.{no}
use denote.Memory.{part_at}
use denote.Param.{param, layouts}
use denote.RattleType.{RattleType, owns}
use denote.RawPtr.{Ptr, block_ptr}
use denote.Signature.{types_at, plain}
use denote.Steps.{nothing}
use denote.Triple.Entry.{alive}
use denote.Triple.Walked.{Stays, stay_dropped, walk_of, Goes-dropped}
use Rattle.core.proofs.alloc.Calls.{Goes-blank}
use Rattle.std.proofs.raw_atomic.Walks.{proved_at, leaves}
use Rattle.std_alloc.proofs.BoxSteps.Form.{Bx, τ}
use Rattle.std_alloc.proofs.BoxSteps.Steps.{el_in, el_tells}
use Rattle.std_alloc.proofs.OfVacant.{Vacant, vacant_val, vacant_typed, Vacant-had}
use Rattle.std_alloc.proofs.RawLayout.{as_written}
use Rattle.std_alloc.proofs.VecSteps.Shapes.{after}
use Rattle.std_alloc.specs.contracts.room.vacant.Vacant as vacant
use Rattle.std_heap.specs.contracts.Global as Heap
use Rattle.std_heap.specs.contracts.GlobalAllocator.TheImpl.{ghosts}
use Rattle.heap_value.specs.Held.{held}
use Rattle.heap_value.proofs.Lones.{Lonely, on_heap, word, lone_in}
use Rattle.heap_value.specs.contracts.lone.Lone.put.{ended, clauses}
use Rattle.heap_value.specs.contracts.lone.Lone.put.Key.{name as #self}
use Rattle.heap_value.proofs.lone.Lone.put.Statement.{statement}
use Rattle.heap_value.proofs.lone.Lone.put.Code as code

pub put_spec : {M : Type 1} → statement M
put_spec 𝓤 𝓛 𝓜 𝓡 wired T L =
    let H = 𝓛.H in let 𝓣 = tables 𝓤 H 𝓜 𝓡 𝓡.env in let R : RattleType = param 0 T in let En = ended T in let c = clauses T 𝓛 𝓜.mem 𝓡.returns in let E : Bx = on_heap T L in
    let inst = layouts (a_type ∷ []) (T, tt) in let fn = inst_fn inst code.function in let Room : RattleType = vacant.the_row R Heap.the_row ghosts in
    let hs : Stays En.signature.params En.kept = (stay_dropped (plain (λ _. Room)) no, (stay_dropped (plain (λ _. R)) no, tt)) in
    proved_at 𝓛 En hs c 𝓜 𝓡 (Goes-blank 𝓛 1 (plain (λ _. Room)) no (λ κs x f. tt), (Goes-dropped 𝓛 1 (plain (λ _. R)) no (λ κs x f. refl), tt)) (#self inst) fn (code.unfolded 𝓤 H 𝓜 𝓡 wired (T, tt)) (λ z are.
    let κs = z.0.0 in let qs = z.0.1 in let a = z.0.3 in let vss = z.0.4 in let d : Room.Denot = a.0 in let x : T.Denot = a.1.0 in
    let Post : Val → SProp 𝓤 = (walk_of 𝓛 En hs c).post z in let Run : List Val → SProp 𝓤 = λ ws. WpFn 𝓤 H 𝓣.C 𝓣.Λ fn ws Post in
    qed 𝓛 ((raw (alive 𝓛 En.signature κs qs) ⊛ ‵ (owns (types_at En.signature.params κs) a vss)) ∷ raw ((c κs a).requires z.1) ∷ []) ∵ split ! $ move ! (1 ∷ []) $ fsplit ! $ move ! (1 ∷ []) $ fsplit ! $
    -- [the value; true; the room; the token; no clause]
    el_tells E ! x vss.1.0 (λ v ev t. move ! (2 ∷ []) $ use1 𝓛 (‵ ((Vacant E.al R).own_val d vss.0)) (id⊢ 𝓤 _) $ Vacant-had E.al R ! d vss.0 (λ b o hv e er fa.
    -- [the room; its token; the handle; the value; true; the token; no clause]
    let p : Ptr = block_ptr b o in let us : List Val = vacant_val hv b o ∷ v ∷ [] in let r : (Lonely R).Denot = record { at = p; value = x } in
    as_written ! (τ E) b o $
    suffices ! (Run us) (subst (λ (ws : List Val). ent 𝓤 (Run us) (Run ws)) (sym (λ k. er k ++ (ev k ++ []))) (id⊢ 𝓤 (Run us))) $
    enter ! 𝓣.C 𝓣.Λ fn us Post $ alloc_all ! (λ l. pass_all ! refl (vacant_typed E.al R hv b o fa, (t, tt)) $ let Fr : Env 𝓤 H = env fn.locals l in
    sets ! (of_opd ! (get_in ! (fld ! refl (stop !)) (sub ! 0 refl (whole !)))) refl (tt, tt) $
    first ! $ blocks ! $ sets ! (of_opd ! (get ! refl)) refl t $ assigns_last ! (of_opd ! (get ! refl)) (through ! refl (stop !)) (init ! 0 refl t) $
    exec ! 𝓣.C 𝓣.Λ Fr (after 2 fn.body) (at_ret Fr Post) $
    sets ! (agg ! (and_then ! (get ! refl) (no_more !))) refl (tt, (tt, tt)) $
    -- [the cell; the value; the token of the block; the handle; true; the token; no clause]
    move ! (0 ∷ 3 ∷ []) $ use2 𝓛 (‵ (part_at R full_share x b o)) (el_in E 𝓛 x b o v) $ fjoin ! $ use1 𝓛 (‵ (held R p x)) (id⊢ 𝓤 _) $ lone_in R ! p x $
    let Told : Type 0 = r.value ≡ x in
    use0 𝓛 (raw (fact 𝓤 Told)) (fact_i 𝓤 Told (emp 𝓤) refl) $ nothing ! $ nothing ! $ fjoin ! $ nothing ! $ fjoin ! $
    returns ! (look_at ! 0 refl) $ free_all ! refl $ keep ! (5 ∷ 0 ∷ 2 ∷ 1 ∷ []) $ by ! (leaves 𝓛 En hs c z (word p) r (tt, (tt, tt)) (tt, (tt, tt)))))))
