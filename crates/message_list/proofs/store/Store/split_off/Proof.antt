-- `split_off` parts with cells, and moves nothing.
use Rattle.message_list.proofs.Names.{◌≡◌, ℕ, ◌≤◌, List, [], ◌∷◌, ◌++◌, length, sym, refl, subst, a_type, Val, vint, vptr, w64, inst_fn, SProp, ent, emp, id⊢, ftrue, flft, ‵, raw, ◌⊛◌, given, ◌$◌, ◌∵◌, !, qed, by, move, keep, drop, split, join, fsplit, fsplit3, fjoin, fjoin3, learn, use0, use1, suffices, feq_i, feq_l, no_more, and_then, returns, enter, alloc_all, pass_all, free_all, look_at, get, sets, agg, tables, yes, RattleType, owns, types_at, plain, nothing, opens, closes, param, layouts, Stays, stay_dropped, stay_ref, walk_of, Goes-dropped, Goes-ref, fact, fact_i, WpFn, usize, proved_at, leaves}
use Rattle.std.proofs.Common.{take, drop as skip}
use Rattle.message_list.specs.contracts.store.Store as store
use Rattle.message_list.specs.Store.{Cell, store_owns}
use Rattle.message_list.proofs.Memory.{split_in}
use Rattle.message_list.proofs.Frames.{frame_val, Frame, frame_made}
use Rattle.message_list.specs.contracts.store.Store.split_off.{ended, clauses}
use Rattle.message_list.specs.contracts.store.Store.split_off.Key.{name as #self}
use Rattle.message_list.proofs.store.Store.split_off.Statement.{statement}
use Rattle.message_list.proofs.store.Store.split_off.Code as code

pub split_off_spec : {M : Type 1} → statement M
split_off_spec 𝓤 𝓛 𝓜 𝓡 wired T L =
    let H = 𝓛.H in let 𝓣 = tables 𝓤 H 𝓜 𝓡 𝓡.env in let R : RattleType = param 0 T in let En = ended T in let c = clauses T 𝓛 𝓜.mem 𝓡.returns in
    let inst = layouts (a_type ∷ []) (T, tt) in let fn = inst_fn inst code.function in let Sr : RattleType = store.the_row R in
    let hs : Stays En.signature.params En.kept = (stay_ref (0 ∷ []) tt (plain (λ _. Sr)), (stay_dropped (plain (λ _. usize)) yes, tt)) in
    proved_at 𝓛 En hs c 𝓜 𝓡 (Goes-ref 𝓛 2 0 tt (plain (λ _. Sr)), (Goes-dropped 𝓛 2 (plain (λ _. usize)) yes (λ κs x f. refl), tt)) (#self inst) fn (code.unfolded 𝓤 H 𝓜 𝓡 wired (T, tt)) (λ z are.
    let κs = z.0.0 in let qs = z.0.1 in let a = z.0.3 in let vss = z.0.4 in let b : ℕ = a.0.ref_ptr.0 in let o : ℕ = a.0.ref_ptr.1 in let h : Sr.Denot = a.0.now in let i : ℕ = a.1.0 in
    let cs : List (Cell T.Denot) = h.cells in
    let Post : Val → SProp 𝓤 = (walk_of 𝓛 En hs c).post z in let Run : List Val → SProp 𝓤 = λ ws. WpFn 𝓤 H 𝓣.C 𝓣.Λ fn ws Post in
    qed 𝓛 (((‵ (flft κs.0 qs.0) ⊛ (‵ (flft κs.1.0 qs.1.0) ⊛ ‵ ftrue)) ⊛ ‵ (owns (types_at En.signature.params κs) a vss)) ∷ raw (fact 𝓤 _) ∷ given (i ≤ length cs) (‵ ftrue) ∷ []) ∵
    keep ! (2 ∷ 0 ∷ []) $ learn ! (λ asked. drop ! $ split ! $ split ! $ move ! (2 ∷ []) $ fsplit3 ! $ fsplit3 ! $ feq_l ! (λ e0.
    -- [obs; bor; the number; true; the token of κ; the other token]
    move ! (2 ∷ []) $ fsplit ! $ feq_l ! (λ e1. keep ! (1 ∷ 2 ∷ 4 ∷ 5 ∷ []) $
    let us : List Val = vptr b o ∷ vint w64 i ∷ [] in
    let h' : Sr.Denot = record { marker = h.marker; cells = take i cs } in let r : Sr.Denot = record { marker = record {}; cells = skip i cs } in
    let Told : Type 0 = (h'.cells ≡ take i cs) × (r.cells ≡ skip i cs) in
    suffices ! (Run us) (subst (λ (ws : List Val). ent 𝓤 (Run us) (Run ws)) (sym (λ k. e0 k ++ (e1 k ++ []))) (id⊢ 𝓤 (Run us))) $
    enter ! 𝓣.C 𝓣.Λ fn us Post $ alloc_all ! (λ l. pass_all ! refl ((tt, tt), ((tt, record { fits = are.1.0.1 }), tt)) $
    sets ! (agg ! (no_more !)) refl (tt, tt) $ sets ! (agg ! (and_then ! (get ! refl) (no_more !))) refl (tt, (tt, tt)) $
    opens ! tt Sr b o (λ ts. move ! (1 ∷ []) $ fsplit ! $ move ! (1 ∷ []) $
    use1 𝓛 (‵ (store_owns R (take i cs)) ⊛ ‵ (store_owns R (skip i cs))) (split_in R 𝓛 i cs) $ split ! $
    -- [the cells before; those from i on; the frame; the word; three of the borrow; the other token]
    move ! (2 ∷ 0 ∷ []) $ fjoin ! $ move ! (2 ∷ 0 ∷ 3 ∷ 4 ∷ 5 ∷ []) $ closes ! tt Sr h' ts b o $
    feq_i ! (List Val) vss.0 (vptr b o ∷ []) e0 $ fjoin3 ! $ nothing ! $ nothing ! $ fjoin ! $ move ! (1 ∷ 0 ∷ []) $ fjoin ! $
    -- [the store; the token of κ; the cells from i on; the other token]
    move ! (2 ∷ []) $ use0 𝓛 (‵ ((Frame R).own_val (tt, tt) (frame_val ∷ []))) (frame_made R 𝓛) $ fjoin ! $
    use0 𝓛 (raw (fact 𝓤 Told)) (fact_i 𝓤 Told (emp 𝓤) (refl, refl)) $
    -- [the clause; the new store; the store; the token of κ; the other token]
    move ! (3 ∷ 4 ∷ []) $ join ! $
    returns ! (look_at ! 0 refl) $ free_all ! refl $ keep ! (0 ∷ 3 ∷ 2 ∷ 1 ∷ []) $ by ! (leaves 𝓛 En hs c z frame_val r (h', (tt, tt)) (tt, (tt, tt)))))))))
