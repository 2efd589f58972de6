-- `get_mut` lends the value, and its owner follows it.
use Rattle.std.proofs.Common.{◌≡◌, ℕ, List, [], ◌∷◌, ◌++◌, refl, sym, subst, ap, ◌∙◌}
use mir.Syntax.{a_type, named}
use mir.Raw.{raw as bare}
use mir.Val.{Val, vptr, vstruct, of_list}
use mir.MapTy.{inst_fn}
use seplogic.Ra.Ura.{Ura}
use base.Logic.{SProp, ent, sep, emp, id⊢, fst∗, never}
use base.Fml.{Fml, fsep, ftrue, flft, Lft, Share, GName}
use base.Fraction.{full_share}
use prog.Wp.{WpFn}
use types.Logic.{Logic, sem}
use types.Kit.{‵, raw, ◌⊛◌, some, later, at_ret, ◌$◌, ◌∵◌, !, qed, by, move, keep, drop, split, split3, join, fsplit, fsplit3, fjoin, fpick, fpack, feq_l, pick, await, group, rewrite, suffices, use0, use1, done}
use types.Run.{stop, fld, hop, of_opd, addr, first, blocks, exec, returns, enter}
use types.ByLocal.{alloc_all, pass_all, free_all, look_at, get, through, sets, sets_last, env}
use types.Part.{sub, whole, look_in}
use contract.Monad.{fact, fact_i}
use contract.Running.{tables}
use denote.Builtin.{RefMutOf}
use denote.Exit.{no}
use denote.Follow.{Part, lends_Part}
use denote.Memory.{lone, cell_at, part_at, part_of, mem}
use denote.Param.{param, layouts}
use denote.RattleType.{RattleType, owns}
use denote.RawPtr.{Ptr, block_ptr, null_ptr, in_a_block}
use denote.Ref.{MutRef}
use denote.Signature.{types_at, plain}
use denote.Steps.{nothing, opens}
use denote.Follow.{follows}
use denote.Triple.Walked.{Stays, stay_dropped, walk_of, Goes-spent_ref}
use Rattle.core.proofs.atomic.Steps.{tail}
use Rattle.std.proofs.raw_atomic.Walks.{proved_at, leaves}
use Rattle.heap_value.specs.Held.{held, chunk}
use Rattle.heap_value.specs.Lent.{with_value}
use Rattle.heap_value.proofs.Lones.{Lonely, word, lone_in}
use Rattle.heap_value.specs.contracts.lone.Lone.get_mut.{ended, clauses}
use Rattle.heap_value.specs.contracts.lone.Lone.get_mut.Key.{name as #self}
use Rattle.heap_value.proofs.lone.Lone.get_mut.Statement.{statement}
use Rattle.heap_value.proofs.lone.Lone.get_mut.Code as code

module _ (R : RattleType) (h : (Lonely R).Denot) (b o b' o' : ℕ) where
  -- all but the value
  abbrev Rest : Fml
  Rest = fsep (chunk (bare (lone R.mir)) (block_ptr b' o')) (cell_at full_share (Lonely R).mir (word (block_ptr b' o') ∷ []) b o)

  mends : {M : Type 1} {𝓤 : Ura M} (𝓛 : Logic 𝓤) → h.at ≡ block_ptr b' o'
      → (w : R.Denot) → ent 𝓤 (sep 𝓤 (sem 𝓛 ((mem R).own_at w b' o')) (sem 𝓛 Rest)) (sem 𝓛 ((mem (Lonely R)).own_at (with_value h w) b o))
  unfolding part_of
  mends {𝓤 = 𝓤} 𝓛 e w = qed 𝓛 (‵ (part_at R full_share w b' o') ∷ ‵ Rest ∷ []) ∵ move ! (1 ∷ []) $ fsplit ! $ move ! (2 ∷ 0 ∷ []) $ fjoin ! $
      use1 𝓛 (‵ (held R (block_ptr b' o') w)) (id⊢ 𝓤 _) $ lone_in R ! (block_ptr b' o') w $
      rewrite ! 0 (λ (p : Ptr). ‵ ((Lonely R).own_val (record { at = p; value = w }) (word (block_ptr b' o') ∷ []))) (sym e) refl $ move ! (1 ∷ 0 ∷ []) $ fjoin ! $
      fpack ! (List Val) (λ vs. fsep (cell_at full_share (Lonely R).mir vs b o) ((Lonely R).own_val (with_value h w) vs)) (word (block_ptr b' o') ∷ []) $ done !

pub get_mut_spec : {M : Type 1} → statement M
get_mut_spec 𝓤 𝓛 𝓜 𝓡 wired T L =
    let H = 𝓛.H in let 𝓣 = tables 𝓤 H 𝓜 𝓡 𝓡.env in let R : RattleType = param 0 T in let En = ended T in let c = clauses T 𝓛 𝓜.mem 𝓡.returns in
    let inst = layouts (a_type ∷ []) (T, tt) in let fn = inst_fn inst code.function in let St : RattleType = Lonely R in
    let hs : Stays En.signature.params En.kept = (stay_dropped (RefMutOf (0 ∷ []) tt (plain (λ _. St)) (λ _. tt)) no, tt) in
    proved_at 𝓛 En hs c 𝓜 𝓡 (Goes-spent_ref 𝓛 2 (0 ∷ []) tt (plain (λ _. St)), tt) (#self inst) fn (code.unfolded 𝓤 H 𝓜 𝓡 wired (T, tt)) (λ z are.
    let κs = z.0.0 in let qs = z.0.1 in let a = z.0.3 in let vss = z.0.4 in let κ : Lft = κs.0 in let q : Share = qs.0 in let b : ℕ = a.0.ref_ptr.0 in let o : ℕ = a.0.ref_ptr.1 in let γ : GName = a.0.ghost_name in let h : St.Denot = a.0.now in
    let x : T.Denot = h.value in
    let Post : Val → SProp 𝓤 = (walk_of 𝓛 En hs c).post z in let Run : List Val → SProp 𝓤 = λ ws. WpFn 𝓤 H 𝓣.C 𝓣.Λ fn ws Post in
    qed 𝓛 (((‵ (flft κ q) ⊛ (‵ (flft κs.1.0 qs.1.0) ⊛ ‵ ftrue)) ⊛ ‵ (owns (types_at En.signature.params κs) a vss)) ∷ raw ((c κs a).requires z.1) ∷ []) ∵
    split ! $ split ! $ move ! (2 ∷ []) $ fsplit ! $ fsplit3 ! $ feq_l ! (λ e0. keep ! (0 ∷ 1 ∷ 3 ∷ 4 ∷ []) $
    -- [obs; bor; the token of κ; the other token]
    let us : List Val = vptr b o ∷ [] in
    suffices ! (Run us) (subst (λ (ws : List Val). ent 𝓤 (Run us) (Run ws)) (sym (λ k. e0 k ++ [])) (id⊢ 𝓤 (Run us))) $
    enter ! 𝓣.C 𝓣.Λ fn us Post $ alloc_all ! (λ l. pass_all ! refl ((tt, tt), tt) $ let Ev = env fn.locals l in
    opens ! tt St b o (λ ts. move ! (1 ∷ []) $ fsplit ! $ fpick ! (λ vs. fsplit ! $ feq_l ! (λ ev. fsplit ! $ feq_l ! (λ ep. drop ! $
    in_a_block ! h.at (λ p. held R p x) (fst∗ 𝓤 (never 𝓤) (sem 𝓛 (chunk (bare (lone R.mir)) null_ptr))) (λ b' o' e. fsplit ! $
    -- [the value; the token of the block; the cell; the open borrow; obs; auth; the other token]
    let r : Val = vptr b' o' in let F : T.Denot → St.Denot = with_value h in let Others : SProp 𝓤 = sem 𝓛 (Rest R h b o b' o') in let Told : Type 0 = x ≡ h.value in
    rewrite ! 2 (λ (ws : List Val). ‵ (cell_at full_share St.mir ws b o)) (ev ∙ (λ i. vstruct (of_list (ep i ++ [])) ∷ []) ∙ ap (λ (p : Ptr). word p ∷ []) e) refl $
    first ! $ blocks ! $ sets_last ! (addr ! (through ! refl (fld ! refl (hop ! (look_in ! 2 (sub ! 0 refl (whole !))) (stop !))))) refl (tt, tt) $
    exec ! 𝓣.C 𝓣.Λ Ev (tail fn.body) (at_ret Ev Post) $ sets ! (of_opd ! (get ! refl)) refl (tt, tt) $
    move ! (1 ∷ 2 ∷ []) $ fjoin ! $ move ! (2 ∷ 3 ∷ 4 ∷ 1 ∷ 0 ∷ []) $ group ! 5 $
    use1 𝓛 (later (some (λ (δ : GName). raw (Part 𝓛 St R F (named 0) κ q b o b' o' γ Others (mends R h b o b' o' 𝓛 e) x δ))))
    (lends_Part 𝓛 St R F (named 0) κ q b o b' o' γ Others (mends R h b o b' o' 𝓛 e) (St.coded.code h) (St.coded.code h) x) $ await ! tt $ pick ! (λ δ.
    use1 𝓛 (‵ ((MutRef (named 0) κ R).own_val (record { ref_ptr = (b', o'); ghost_name = δ; now = x }) (r ∷ [])) ⊛ ‵ (flft κ q) ⊛ ‵ (follows St R γ δ F)) (id⊢ 𝓤 _) $ split3 ! $
    -- [the `&mut`; the token of κ; how its owner follows; the other token]
    use0 𝓛 (raw (fact 𝓤 Told)) (fact_i 𝓤 Told (emp 𝓤) refl) $ move ! (3 ∷ 0 ∷ []) $ join ! $ move ! (2 ∷ 3 ∷ []) $ join ! $
    nothing ! $ nothing ! $ fjoin ! $
    returns ! (look_at ! 0 refl) $ free_all ! refl $ keep ! (1 ∷ 0 ∷ 3 ∷ 2 ∷ []) $ by ! (leaves 𝓛 En hs c z r (record { ref_ptr = (b', o'); ghost_name = δ; now = x }) (tt, tt) (tt, tt)))))))))))
