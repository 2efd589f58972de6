-- That the loopers but the main one have ended is told by their kits.
use Rattle.std.proofs.Common.{◌≡◌, ◌<◌, ◌+◌, ℕ, suc, true, List, [], ◌∷◌, ◌++◌, length, sym, ap, ◌∙◌, subst, arith, slice_index_or}
use Rattle.std.specs.List.{remove}
use Rattle.std.proofs.Math.ListN.{get_or-append}
use Rattle.std.proofs.Math.Seq.{get_or-append_seam}
use Rattle.std.proofs.lemmas.List.{length-append}
use Rattle.loop_model.specs.declared.journal.Journal.{Journal}
use Rattle.dash_script.specs.declared.script.Script.{Script}
use Rattle.looper_run.specs.Round.{is_ended}
use Rattle.dash_hall.specs.declared.kit.Kit.{Kit}
use Rattle.dash_loopers.specs.declared.looper.StageLooper.{StageLooper}
use Rattle.dash_hall.specs.Kits.{HasSeenOver, OthersAreOver}
use Rattle.dash_stage.proofs.Sharing.{each_more}

-- of the loopers from n on, each but the main one has ended
abbrev pub HaveEndedFrom : ℕ → List StageLooper → Type 0
HaveEndedFrom n ls = (k : ℕ) (d : StageLooper) → 0 < k + n → k < length ls → is_ended (slice_index_or ls k d).last ≡ true

-- of these kits, each looper's but the main one's has seen its queue over
abbrev pub AreOverAmong : Script → List Kit → Type 0
AreOverAmong s kits = (k : ℕ) (d : Kit) → k < length kits → (looper : ℕ) → 0 < looper → k ≡ s.threads + looper → HasSeenOver s looper (slice_index_or kits k d)

other_ended : (n : ℕ) (ls : List StageLooper) → HaveEndedFrom n ls → 0 < length ls → HaveEndedFrom (n + 1) (remove ls 0)
other_ended n [] h some = absurd (omega (arith, some))
other_ended n (x ∷ ls) h some = λ k d later lt. h (suc k) d (omega arith) (omega (arith, lt))

module _ (s : Script) where
  -- one looper more has given its journal and its kit back
  pub over_back : (js js' : List Journal) (ls ls' : List StageLooper) (kits kits' : List Kit) (l : StageLooper) (j : Journal) (kit : Kit) → 0 < length ls → l ≡ slice_index_or ls 0 l → ls' ≡ remove ls 0
      → length kits ≡ s.threads + length js → l.number ≡ length js → (is_ended l.last ≡ true → HasSeenOver s l.number kit) → js' ≡ js ++ j ∷ [] → kits' ≡ kits ++ kit ∷ []
      → HaveEndedFrom (length js) ls → AreOverAmong s kits → HaveEndedFrom (length js') ls' × AreOverAmong s kits'
  over_back js js' ls ls' kits kits' l j kit some is_l rest count number seen grown grown' ended over =
      let more : length js' ≡ length js + 1 = ap length grown ∙ length-append js (j ∷ []) in (
        subst (λ (z : List StageLooper). HaveEndedFrom (length js') z) (sym rest) (subst (λ m. HaveEndedFrom m (remove ls 0)) (sym more) (other_ended (length js) ls ended some)),
        subst (AreOverAmong s) (sym grown') (each_more (λ k (z : Kit). (looper : ℕ) → 0 < looper → k ≡ s.threads + looper → HasSeenOver s looper z) kits kit over
            (λ looper later at.
            let same : l.number ≡ looper = omega (arith, number, count, at) in
            let past : 0 < 0 + length js = omega (arith, number, same, later) in
            subst (λ m. HasSeenOver s m kit) same (seen (subst (λ (z : StageLooper). is_ended z.last ≡ true) (sym is_l) (ended 0 l past some))))),
      )

  -- a kit behind those of the loopers tells nothing of it
  pub over_kept : (kits kits' : List Kit) (kit : Kit) → length kits ≡ s.threads + s.loopers → kits' ≡ kits ++ kit ∷ [] → OthersAreOver s kits → OthersAreOver s kits'
  over_kept kits kits' kit count grown over looper d some lt =
      let same : slice_index_or kits' (s.threads + looper) d ≡ slice_index_or kits (s.threads + looper) d =
      ap (λ l. slice_index_or l (s.threads + looper) d) grown ∙ get_or-append kits (kit ∷ []) d (s.threads + looper) (omega (arith, count, lt)) in
      subst (HasSeenOver s looper) (sym same) (over looper d some lt)

-- the kit that came last
pub last_kit : (kits kits' : List Kit) (kit : Kit) (n : ℕ) → length kits ≡ n → kits' ≡ kits ++ kit ∷ [] → (d : Kit) → slice_index_or kits' n d ≡ kit
last_kit kits kits' kit n count grown d = ap (λ l. slice_index_or l n d) grown ∙ (ap (λ m. slice_index_or (kits ++ kit ∷ []) m d) (sym count) ∙ get_or-append_seam kits kit [] d)
