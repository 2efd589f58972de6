-- A live handle as the queue that lies in memory.
use Rattle.heap_value.proofs.Names.{◌≡◌, ◌∙◌, List, [], ◌∷◌, ◌++◌, refl, sym, subst, Bool, true, Val, SProp, ent, emp, id⊢, fst∗, never, sem, ‵, raw, ◌⊛◌, ◌$◌, ◌∵◌, !, qed, by, move, keep, split, fsplit, fjoin, suffices, use0, stop, fld, of_opd, no_more, and_then, returns, enter, alloc_all, pass_all, free_all, look_at, get, get_in, sets, agg, sub, whole, fact, fact_i, tables, yes, owns, types_at, plain, Ptr, block_ptr, null_ptr, in_a_block, nothing, heard, alive, Stays, stay_dropped, walk_of, WpFn, Goes-blank, proved_at, leaves, rewrite}
use mir.Raw.{raw as bare}
use denote.Memory.{lone}
use Rattle.heap_value.proofs.Lones.{Lonely, word, lone_in}
use Rattle.frame_phases_c.proofs.Handles.{Handle, pair, handle_out, pair_fits}
use Rattle.heap_value.specs.Held.{held, chunk}
use Rattle.frame_phases_c.specs.Handle.{kept_row, owned_by}
use Rattle.frame_phases_c.specs.contracts.handle.FrameLoop.into_kept.{ended, clauses}
use Rattle.frame_phases_c.specs.contracts.handle.FrameLoop.into_kept.Key.{name as #self}
use Rattle.frame_phases_c.proofs.handle.FrameLoop.into_kept.Statement.{statement}
use Rattle.frame_phases_c.proofs.handle.FrameLoop.into_kept.Code as code

pub into_kept_spec : {M : Type 1} → statement M
into_kept_spec 𝓤 𝓛 𝓜 𝓡 wired =
    let H = 𝓛.H in let 𝓣 = tables 𝓤 H 𝓜 𝓡 𝓡.env in let c = clauses 𝓛 𝓜.mem 𝓡.returns in
    let hs : Stays ended.signature.params ended.kept = (stay_dropped (plain (λ _. Handle)) yes, tt) in
    proved_at 𝓛 ended hs c 𝓜 𝓡 (Goes-blank 𝓛 0 (plain (λ _. Handle)) yes (λ κs x f. tt), tt) #self code.function (code.unfolded 𝓤 H 𝓜 𝓡 wired) (λ z are.
    let κs = z.0.0 in let qs = z.0.1 in let a = z.0.3 in let vss = z.0.4 in let d : Handle.Denot = a.0 in let x : kept_row.Denot = d.state in
    let Post : Val → SProp 𝓤 = (walk_of 𝓛 ended hs c).post z in let Run : List Val → SProp 𝓤 = λ ws. WpFn 𝓤 H 𝓣.C 𝓣.Λ code.function ws Post in
    qed 𝓛 ((raw (alive 𝓛 ended.signature κs qs) ⊛ ‵ (owns (types_at ended.signature.params κs) a vss)) ∷ raw (fact 𝓤 (d.live ≡ true)) ∷ []) ∵ move ! (1 ∷ []) $ heard ! (d.live ≡ true) (λ lives. split ! $ move ! (1 ∷ []) $ fsplit ! $
    handle_out ! d vss.0 (λ es. rewrite ! 0 (λ (t : Bool). ‵ (owned_by t d.at x)) lives refl $
    in_a_block ! d.at (λ p. held kept_row p x) (fst∗ 𝓤 (never 𝓤) (sem 𝓛 (chunk (bare (lone kept_row.mir)) null_ptr))) (λ b o e.
    -- [the queue; true; no token]
    let p : Ptr = block_ptr b o in let u : Val = pair p true in let r : (Lonely kept_row).Denot = record { at = p; value = x } in
    suffices ! (Run (u ∷ [])) (subst (λ (us : List Val). ent 𝓤 (Run (u ∷ [])) (Run us)) (sym (λ k. (es ∙ (λ j. pair (e j) (lives j) ∷ [])) k ++ [])) (id⊢ 𝓤 (Run (u ∷ [])))) $
    enter ! 𝓣.C 𝓣.Λ code.function (u ∷ []) Post $ alloc_all ! (λ l. pass_all ! refl (pair_fits p true, tt) $
    sets ! (of_opd ! (get_in ! (fld ! refl (stop !)) (sub ! 0 refl (whole !)))) refl (tt, tt) $ sets ! (of_opd ! (get ! refl)) refl (tt, tt) $
    sets ! (agg ! (and_then ! (get ! refl) (no_more !))) refl (tt, (tt, tt)) $
    returns ! (look_at ! 0 refl) $ free_all ! refl $ lone_in kept_row ! p x $
    let Told : Type 0 = r.value ≡ x in
    use0 𝓛 (raw (fact 𝓤 Told)) (fact_i 𝓤 Told (emp 𝓤) refl) $ nothing ! $ nothing ! $ fjoin ! $
    keep ! (4 ∷ 0 ∷ 2 ∷ 1 ∷ []) $ by ! (leaves 𝓛 ended hs c z (word p) r (tt, tt) (tt, tt)))))))
