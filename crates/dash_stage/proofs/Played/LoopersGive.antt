-- Where the loopers stood is told by their journals and kits.
use Rattle.std.proofs.Common.{◌≡◌, ◌<◌, ◌+◌, ℕ, true, false, List, [], ◌∷◌, ◌++◌, length, drop, refl, sym, ap, ◌∙◌, subst, arith, slice_index_or}
use mathlib.Core.Logic.{dite}
use native.Mathlib.Decide.{dec_lt}
use Rattle.std.specs.List.{remove}
use Rattle.std.proofs.Math.ListN.{get_or-append}
use Rattle.std.proofs.Math.Seq.{get_or-append_seam}
use Rattle.std.proofs.lemmas.List.{length-append, length-drop, drop-drop, get_or-drop, get_or_default}
use Rattle.loop_model.specs.declared.journal.Journal.{Journal}
use Rattle.dash_script.specs.declared.script.Script.{Script}
use Rattle.run_model.specs.Loopers.{LooperState}
use Rattle.dash_hall.specs.declared.kit.Kit.{Kit}
use Rattle.dash_loopers.specs.declared.looper.StageLooper.{StageLooper}
use Rattle.dash_loopers.specs.Loopers.{is_given_up, HasDisposedLast}
use Rattle.dash_loopers.specs.Played.{StandsBetweenRounds, StandsBetweenLoops, HasLeft}
use Rattle.dash_stage.specs.Leaving.{HasGiven, HaveGiven}

-- without the first one
remove_first : {X : Type 0} (xs : List X) → 0 < length xs → remove xs 0 ≡ drop 1 xs
remove_first [] some = absurd (omega (arith, some))
remove_first (x ∷ xs) some = refl

-- the first of those that are left is the one of this place
first_left : {X : Type 0} (all xs : List X) (n : ℕ) (x d : X) → xs ≡ drop n all → 0 < length xs → x ≡ slice_index_or xs 0 x → slice_index_or all n d ≡ x
first_left all xs n x d rest some is =
    let place : n + 0 ≡ n = omega arith in
    let short = length-drop n all in
    let left = ap length rest in
    let within : n < length all = omega (arith, some, short, left) in
    get_or_default all n d x within ∙ (ap (λ m. slice_index_or all m x) (sym place) ∙ (sym (get_or-drop n all 0 x) ∙ (ap (λ l. slice_index_or l 0 x) (sym rest) ∙ sym is)))

module _ (s : Script) (all : List StageLooper) where
  -- none has given yet
  pub given_none : (js : List Journal) (kits : List Kit) → js ≡ [] → HaveGiven s all js kits
  given_none js kits none = λ k l j d lt. absurd (let zero = ap length none in omega (arith, lt, zero))

  -- one journal and one kit more
  given_more : (js : List Journal) (kits : List Kit) (l : StageLooper) (j : Journal) (kit : Kit) → length kits ≡ s.threads + length js → ((d : StageLooper) → slice_index_or all (length js) d ≡ l)
      → HasGiven s (length js) l j kit → HaveGiven s all js kits → HaveGiven s all (js ++ j ∷ []) (kits ++ kit ∷ [])
  given_more js kits l j kit count is given before = λ k x y d lt. dite (dec_lt k (length js))
      (λ early.
      subst (λ (z : Journal). HasGiven s k (slice_index_or all k x) z (slice_index_or (kits ++ kit ∷ []) (s.threads + k) d)) (sym (get_or-append js (j ∷ []) y k early))
      (subst (λ (z : Kit). HasGiven s k (slice_index_or all k x) (slice_index_or js k y) z) (sym (get_or-append kits (kit ∷ []) d (s.threads + k) (omega (arith, early, count)))) (before k x y d early)))
      (λ late.
      let more = length-append js (j ∷ []) in
      let here : k ≡ length js = omega (arith, late, lt, more) in
      let there : s.threads + k ≡ length kits = omega (arith, here, count) in
      let last : slice_index_or (js ++ j ∷ []) k y ≡ j = ap (λ m. slice_index_or (js ++ j ∷ []) m y) here ∙ get_or-append_seam js j [] y in
      let last_kit : slice_index_or (kits ++ kit ∷ []) (s.threads + k) d ≡ kit = ap (λ m. slice_index_or (kits ++ kit ∷ []) m d) there ∙ get_or-append_seam kits kit [] d in
      let whose : slice_index_or all k x ≡ l = ap (λ m. slice_index_or all m x) here ∙ is x in
      subst (λ (z : Journal). HasGiven s k (slice_index_or all k x) z (slice_index_or (kits ++ kit ∷ []) (s.threads + k) d)) (sym last)
      (subst (λ (z : Kit). HasGiven s k (slice_index_or all k x) j z) (sym last_kit)
      (subst (λ (z : StageLooper). HasGiven s k z j kit) (sym whose) (subst (λ m. HasGiven s m l j kit) (sym here) given))))

  -- one looper more has given its journal and its kit back
  pub given_back : (js js' : List Journal) (ls ls' : List StageLooper) (kits kits' : List Kit) (l : StageLooper) (j : Journal) (kit : Kit) → 0 < length ls → l ≡ slice_index_or ls 0 l → ls' ≡ remove ls 0
      → length kits ≡ s.threads + length js → l.number ≡ length js → ((a : LooperState) → StandsBetweenRounds s l a → HasLeft true s l.number j kit a)
      → ((a : LooperState) → StandsBetweenLoops s l a → HasLeft false s l.number j kit a) → (is_given_up l.last ≡ false → HasDisposedLast s l.number kit)
      → js' ≡ js ++ j ∷ [] → kits' ≡ kits ++ kit ∷ [] → ls ≡ drop (length js) all → HaveGiven s all js kits → (ls' ≡ drop (length js') all) × HaveGiven s all js' kits'
  given_back js js' ls ls' kits kits' l j kit some is_l rest count number left left_by disposes grown grown' are before = (
    rest
        ∙ (remove_first ls some
        ∙ (ap (drop 1) are ∙ (drop-drop 1 (length js) all ∙ ap (λ m. drop m all) (sym (ap length grown ∙ length-append js (j ∷ [])))))),
    subst (λ z. HaveGiven s all z kits') (sym grown) (subst (λ z. HaveGiven s all (js ++ j ∷ []) z) (sym grown')
        (given_more js kits l j kit count (λ d. first_left all ls (length js) l d are some is_l)
        (subst (λ m. HasGiven s m l j kit) number (record { left = left; left_by = left_by; disposes = disposes })) before)),
  )

  -- a kit behind those of the loopers tells nothing of it
  pub given_kept : (js : List Journal) (kits kits' : List Kit) (kit : Kit) → length kits ≡ s.threads + length js → kits' ≡ kits ++ kit ∷ [] → HaveGiven s all js kits → HaveGiven s all js kits'
  given_kept js kits kits' kit count grown given = λ k x y d lt.
      let same : slice_index_or kits' (s.threads + k) d ≡ slice_index_or kits (s.threads + k) d =
      ap (λ l. slice_index_or l (s.threads + k) d) grown ∙ get_or-append kits (kit ∷ []) d (s.threads + k) (omega (arith, count, lt)) in
      subst (HasGiven s k (slice_index_or all k x) (slice_index_or js k y)) (sym same) (given k x y d lt)
