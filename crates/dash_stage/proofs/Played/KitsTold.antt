-- What the loopers have told of their dispatches is told by their journals and kits.
use Rattle.std.proofs.Common.{◌≡◌, ◌<◌, ◌+◌, suc, false, List, [], ◌∷◌, ◌++◌, length, sym, ap, ◌∙◌, subst, arith, slice_index_or}
use mathlib.Core.Logic.{dite}
use native.Mathlib.Decide.{dec_lt}
use Rattle.std.specs.List.{remove}
use Rattle.std.proofs.Math.ListN.{get_or-append}
use Rattle.std.proofs.Math.Seq.{get_or-append_seam}
use Rattle.std.proofs.lemmas.List.{length-append}
use Rattle.loop_model.specs.declared.journal.Journal.{Journal}
use Rattle.dash_script.specs.declared.script.Script.{Script}
use Rattle.dash_hall.specs.declared.kit.Kit.{Kit}
use Rattle.dash_loopers.specs.declared.looper.StageLooper.{StageLooper}
use Rattle.dash_loopers.specs.Loopers.{is_given_up, HasTold, HaveTold}
use Rattle.dash_stage.specs.Stages.{LoopersGoOn}

-- the loopers behind the first one
other_on : (ls : List StageLooper) → LoopersGoOn ls → 0 < length ls → LoopersGoOn (remove ls 0)
other_on [] h some = absurd (omega (arith, some))
other_on (x ∷ ls) h some = λ k d lt. h (suc k) d (omega (arith, lt))

module _ (s : Script) where
  -- one journal and one kit more
  told_more : (js : List Journal) (kits : List Kit) (j : Journal) (kit : Kit) → length kits ≡ s.threads + length js → HasTold s (length js) j kit → HaveTold s js kits → HaveTold s (js ++ j ∷ []) (kits ++ kit ∷ [])
  told_more js kits j kit count told before = λ k x d lt. dite (dec_lt k (length js))
      (λ early.
      subst (λ (z : Journal). HasTold s k z (slice_index_or (kits ++ kit ∷ []) (s.threads + k) d)) (sym (get_or-append js (j ∷ []) x k early))
      (subst (λ (z : Kit). HasTold s k (slice_index_or js k x) z) (sym (get_or-append kits (kit ∷ []) d (s.threads + k) (omega (arith, early, count)))) (before k x d early)))
      (λ late.
      let more = length-append js (j ∷ []) in
      let here : k ≡ length js = omega (arith, late, lt, more) in
      let there : s.threads + k ≡ length kits = omega (arith, here, count) in
      let last : slice_index_or (js ++ j ∷ []) k x ≡ j = ap (λ m. slice_index_or (js ++ j ∷ []) m x) here ∙ get_or-append_seam js j [] x in
      let last_kit : slice_index_or (kits ++ kit ∷ []) (s.threads + k) d ≡ kit = ap (λ m. slice_index_or (kits ++ kit ∷ []) m d) there ∙ get_or-append_seam kits kit [] d in
      subst (λ (z : Journal). HasTold s k z (slice_index_or (kits ++ kit ∷ []) (s.threads + k) d)) (sym last)
      (subst (λ (z : Kit). HasTold s k j z) (sym last_kit) (subst (λ m. HasTold s m j kit) (sym here) told)))

  -- one looper more has given its journal and its kit back
  pub told_back : (js js' : List Journal) (ls ls' : List StageLooper) (kits kits' : List Kit) (l : StageLooper) (j : Journal) (kit : Kit) → 0 < length ls → l ≡ slice_index_or ls 0 l → ls' ≡ remove ls 0
      → length kits ≡ s.threads + length js → l.number ≡ length js → (is_given_up l.last ≡ false → HasTold s l.number j kit) → js' ≡ js ++ j ∷ [] → kits' ≡ kits ++ kit ∷ []
      → LoopersGoOn ls × HaveTold s js kits → LoopersGoOn ls' × HaveTold s js' kits'
  told_back js js' ls ls' kits kits' l j kit some is_l rest count number told grown grown' before = (
    subst LoopersGoOn (sym rest) (other_on ls before.0 some),
    subst (λ z. HaveTold s z kits') (sym grown) (subst (λ z. HaveTold s (js ++ j ∷ []) z) (sym grown')
        (told_more js kits j kit count (subst (λ m. HasTold s m j kit) number (told (subst (λ (z : StageLooper). is_given_up z.last ≡ false) (sym is_l) (before.0 0 l some)))) before.1)),
  )

  -- a kit behind those of the loopers tells nothing of it
  pub told_kept : (js : List Journal) (kits kits' : List Kit) (kit : Kit) → length kits ≡ s.threads + length js → kits' ≡ kits ++ kit ∷ [] → HaveTold s js kits → HaveTold s js kits'
  told_kept js kits kits' kit count grown told = λ k x d lt.
      let same : slice_index_or kits' (s.threads + k) d ≡ slice_index_or kits (s.threads + k) d =
      ap (λ l. slice_index_or l (s.threads + k) d) grown ∙ get_or-append kits (kit ∷ []) d (s.threads + k) (omega (arith, count, lt)) in
      subst (HasTold s k (slice_index_or js k x)) (sym same) (told k x d lt)
