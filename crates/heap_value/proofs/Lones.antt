-- The machine values of a value on the heap. Assumes `Logic`.
use Rattle.std.proofs.Common.{◌≡◌, ℕ, List, [], ◌∷◌, ◌++◌, refl, ap, ◌∙◌}
use seplogic.Ra.Ura.{Ura}
use mir.Syntax.{impl, tnil, dnil}
use mir.Raw.{raw as bare}
use mir.Val.{Val, vstruct, vcons, vnil, of_list}
use base.Logic.{never, fst∗}
use types.Logic.{Logic, sem}
use types.Kit.{Item, Goal, Seq, Step, step, ‵, ◌$◌, drop, fsplit, fjoin, fpick, fpack, feq_i, feq_l}
use denote.RattleType.{RattleType, Valss}
use denote.Memory.{lone}
use denote.RawPtr.{Ptr, RawPtr, block_ptr, null_ptr, ptr_val, in_a_block}
use denote.Param.Laws.{Laws}
use denote.Steps.{nothing}
use denote.Struct.Struct.{within}
use denote.Struct.Owning.{shape}
use Rattle.std_alloc.proofs.BoxSteps.Form.{Bx}
use Rattle.std_heap.specs.contracts.Global as Heap
use Rattle.std_heap.specs.contracts.GlobalAllocator.TheImpl.{ghosts, dict}
use Rattle.std_heap.proofs.Global.TheLaws as heaps
use Rattle.heap_value.specs.contracts.lone.Lone as lonely
use Rattle.heap_value.specs.Held.{held, chunk}

-- a value whose block goes back to the heap
abbrev pub on_heap : (T : RattleType) → Laws T → Bx
on_heap T L = record { row = T; laws = L; al = record { row = Heap.the_row; laws = heaps.the_row_laws; g = ghosts; d = dict; drops = impl [] tnil dnil } }

abbrev pub word : Ptr → Val
word p = vstruct (vcons (ptr_val p) vnil)

module _ (R : RattleType) where
  abbrev pub Lonely : RattleType
  Lonely = lonely.the_row R

  module _ {M : Type 1} {𝓤 : Ura M} {𝓛 : Logic 𝓤} {K : Type 0} {Γ : List (Item 𝓤)} {G : Goal 𝓤 𝓛.H} where
    pub lone_in : K → (p : Ptr) (x : R.Denot) → Step K 𝓛 (‵ (Lonely.own_val (record { at = p; value = x }) (word p ∷ [])) ∷ Γ) G (‵ (held R p x) ∷ Γ) G
    lone_in k p x = step (λ s.
        nothing k $ feq_i k (List Val) (ptr_val p ∷ []) (ptr_val p ∷ []) refl $ fjoin k $ feq_i k (List Val) (word p ∷ []) (word p ∷ []) refl $ fjoin k $
        fpack k (Valss (RawPtr ∷ [])) (within (shape (lonely.the_type R)) (p, tt) (word p ∷ [])) (ptr_val p ∷ [], tt) $ fjoin k $ s)

    pub lone_out : K → (d : Lonely.Denot) (vs : List Val)
        → ((b o : ℕ) → d.at ≡ block_ptr b o → vs ≡ word (block_ptr b o) ∷ [] → Seq K 𝓛 (‵ (held R (block_ptr b o) d.value) ∷ Γ) G)
        → Seq K 𝓛 (‵ (Lonely.own_val d vs) ∷ Γ) G
    lone_out k d vs f =
        fsplit k $ fpick k (λ vss. fsplit k $ feq_l k (λ ev. fsplit k $ feq_l k (λ ep. drop k $
        in_a_block k d.at (λ p. held R p d.value) (fst∗ 𝓤 (never 𝓤) (sem 𝓛 (chunk (bare (lone R.mir)) null_ptr))) (λ b o e.
        f b o e (ev ∙ (λ i. vstruct (of_list (ep i ++ [])) ∷ []) ∙ ap (λ (p : Ptr). word p ∷ []) e)))))
