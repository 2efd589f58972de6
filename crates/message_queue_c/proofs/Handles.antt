-- The machine values of a handle. Assumes `Logic`.
use Rattle.heap_value.proofs.Names.{◌≡◌, List, [], ◌∷◌, ◌++◌, refl, ap, ◌∙◌, Bool, true, Val, vbool, vstruct, vcons, vnil, of_list, Logic, Item, Goal, Seq, Step, step, ‵, ◌$◌, drop, fsplit, fjoin, fpick, fpack, feq_i, feq_l, RattleType, Valss, Ptr, RawPtr, block_ptr, ptr_val, Boolean, nothing, within, shape, Ura}
use denote.Laws.{Is}
use lib.Dec.{T, lit<}
use mathlib.Core.Bool.{◌&&◌}
use mir.Syntax.{ty_ptr}
use mir.Val.{has_ty, WT}
use denote.RawPtr.{null_ptr}
use Rattle.message_queue_c.specs.contracts.handle.MqQueue as handle
use Rattle.message_queue_c.specs.contracts.handle.Nowhere as nowhere
use Rattle.message_queue_c.specs.Handle.{kept_row, owned_by}

abbrev pub Handle : RattleType
Handle = handle.the_row

-- a handle as the machine has it
abbrev pub pair : Ptr → Bool → Val
pair p t = vstruct (vcons (ptr_val p) (vcons (vbool t) vnil))

module _ {M : Type 1} {𝓤 : Ura M} {𝓛 : Logic 𝓤} {K : Type 0} {Γ : List (Item 𝓤)} {G : Goal 𝓤 𝓛.H} where
  pub handle_in : K → (p : Ptr) (t : Bool) (x : kept_row.Denot)
      → Step K 𝓛 (‵ (Handle.own_val (record { at = p; live = t; state = x }) (pair p t ∷ [])) ∷ Γ) G (‵ (owned_by t p x) ∷ Γ) G
  handle_in k p t x = step (λ s.
      nothing k $ feq_i k (List Val) (vbool t ∷ []) (vbool t ∷ []) refl $ fjoin k $ feq_i k (List Val) (ptr_val p ∷ []) (ptr_val p ∷ []) refl $ fjoin k $
      feq_i k (List Val) (pair p t ∷ []) (pair p t ∷ []) refl $ fjoin k $
      fpack k (Valss (RawPtr ∷ Boolean ∷ [])) (within (shape handle.the_type) (p, (t, tt)) (pair p t ∷ [])) (ptr_val p ∷ [], (vbool t ∷ [], tt)) $ fjoin k $ s)

  pub handle_out : K → (d : Handle.Denot) (vs : List Val)
      → (vs ≡ pair d.at d.live ∷ [] → Seq K 𝓛 (‵ (owned_by d.live d.at d.state) ∷ Γ) G)
      → Seq K 𝓛 (‵ (Handle.own_val d vs) ∷ Γ) G
  handle_out k d vs f =
      fsplit k $ fpick k (λ vss. fsplit k $ feq_l k (λ ev. fsplit k $ feq_l k (λ ep. fsplit k $ feq_l k (λ eb. drop k $
      f (ev ∙ (λ i. vstruct (of_list (ep i ++ (eb i ++ []))) ∷ []))))))

pub nowhere_told : (d : nowhere.the_row.Denot) (vs : List Val) → Is nowhere.the_row d vs → vs ≡ vstruct (vcons (ptr_val d.at) vnil) ∷ []
nowhere_told d vs is = is.1.0 ∙ ap (λ (ws : List Val). vstruct (of_list (ws ++ [])) ∷ []) is.1.1.0

pub pair_fits : (p : Ptr) (t : Bool) → T (has_ty ty_ptr (ptr_val p) && (true && true)) × WT (pair p t)
pair_fits (block_ptr b o) t = (tt, (tt, (tt, tt)))
pair_fits null_ptr t = (tt, (record { fits = lit< tt }, (tt, tt)))
