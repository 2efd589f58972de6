-- How the choreographers end, with all their passes.
use Rattle.std.proofs.Common.{◌≡◌, ℕ, zero, suc, ◌+◌, ◌-◌, ◌<◌, ◌≤◌, List, [], ◌∷◌, ◌++◌, map, length, set, get_or, drop, refl, sym, ap, ◌∙◌, subst, arith, append_assoc, length-append}
use Rattle.std.specs.List.{AllByRecursion, range_with_len, remove}
use Rattle.std.proofs.Math.ListN.{get_or-append}
use Rattle.std.proofs.Math.Seq.{get_or-append_seam, drop-append_seam}
use Rattle.std.proofs.lemmas.List.{get_or-map, get_or-set_same, get_or-set_other, get_or_default, get_or-drop, get_or-append_right, ext_get_or, length-set, length-map, drop-drop, drop-map}
use Rattle.std.proofs.lemmas.List.FromFn.{get_or-map-range_with_len, length-map-range_with_len}
use mathlib.Core.Logic.{dite}
use mathlib.Core.List.{map-append, IsPrefix}
use native.Mathlib.Decide.{ℕ_discrete, dec_lt}
use Rattle.atomic_table.specs.Seated.{TableId}
use Rattle.frame_phases.specs.declared.entry.FrameEntry.{FrameEntry}
use Rattle.frame_phases.specs.declared.entry.FrameRecord.{FrameRecord}
use Rattle.dash_script.specs.declared.script.Script.{Script}
use Rattle.choreographer.specs.Known.{SharedFrames, Pass, IsPassOf}
use Rattle.choreographer.specs.Ends.{AreInOrder, BeginWithSeen, AreHeard, HasHandedOut, AreHandedOut, IsWhole, entries_in}
use Rattle.dash_hall.specs.declared.kit.Kit.{Kit}
use Rattle.dash_hall.specs.Kits.{FrameBadge, frame_badge_of, frame_badge_for, AreChoreographersOf, frame_key, frame_constants}
use Rattle.dash_hall.specs.Dealing.{GivesPass, holder_of, given, given_of}
use Rattle.dash_stage.specs.Records.{passes_at, AreAllTheirs, HaveSeenOwn, AreFrameRecords}
use Rattle.run_model.specs.Run.{IsFrameRun}
use Rattle.dash_stage.specs.Ending.{BeginWithPasses, HaveAllPasses, HasFramesLeft, HaveFramesLeft, AreOfNext, BeginWithOwn, AreOfPool, KeepFrames, AreFramesSealed, HasSealedNextFrames}
use Rattle.dash_hall.proofs.HallPasses.{given_one, given_more, given_parts, given_none, is_given, not_given, given_all, of_thread, of_other, of_controller, thread_holds, looper_holds, controller_holds}
use Rattle.dash_hall.proofs.HallSteps.{within_parts, at_parts}
use Rattle.dash_stage.proofs.Ends.HallEnds.{numbers_more, some_of}
use Rattle.std.specs.Prelude.{Result, Ok, Err, IfOk, OnOk}
use Rattle.std.specs.Global.{Vec}
use Rattle.loop_model.specs.declared.memory.NoMemory.{NoMemory}
use Rattle.frame_phases.specs.Frames.{lawful}
use Rattle.frame_phases.specs.Pulses.{are_stamped}
use Rattle.choreographer.specs.declared.view.Constants.{Constants}
use Rattle.dash_stage.specs.declared.control.Controller.{Controller}
use Rattle.dash_stage.specs.Controllers.{HaveHandedOut}
use Rattle.dash_stage.proofs.Controller.Controlling.{lists_count}
use Rattle.dash_stage.proofs.Played.KitsOver.{last_kit}

-- ==== the choreographers end, one after another, with all their passes

-- no pass of the looper's comes before its own
given_mine : (s : Script) (looper : ℕ) (c : SharedFrames) (k : ℕ) → k ≡ s.threads + looper → length (given s looper c k 0 s.threads) ≡ 0
given_mine s looper c k is = ap length (given_none s looper c k s.threads (omega arith) (omega (arith, is)))

-- and none comes before the controller's
given_final : (s : Script) (looper : ℕ) (c : SharedFrames) → looper < s.loopers → length (given s looper c (s.threads + s.loopers) 0 (s.threads + 1)) ≡ 0
given_final s looper c few =
    let k : ℕ = s.threads + s.loopers in
    let zeroth : 0 + s.threads ≡ s.threads = omega arith in
    let a = not_given s looper c k s.threads (s.threads + looper) (looper_holds s looper s.threads (omega arith) (omega arith)) (λ e. absurd (omega (arith, e, few))) in
    ap length (given_more s looper c k 0 s.threads ∙ (λ i. given_none s looper c k s.threads (omega arith) (omega arith) i ++ (ap (given_one s looper c k) zeroth ∙ a) i))

-- the passes with the first numbers were taken from the kits, each from its holder's
pub record AreTaken (s : Script) (looper : ℕ) (c : SharedFrames) (number : ℕ) (orig : List Kit) (passes : List Pass) (kits : List Kit) : Type 0 where
  pub order : AreInOrder c passes
  pub placed : (k : ℕ) (d : Kit) (p : Pass) → k < number → get_or passes k p ≡ get_or (get_or orig (holder_of s looper k) d).frames.items (length (given s looper c (holder_of s looper k) 0 k)) p
  pub left : HaveFramesLeft (λ k. length (given s looper c k 0 number)) orig kits

-- the next pass in the kit of its holder
pub next_frames : (s : Script) (looper : ℕ) (c : SharedFrames) (number : ℕ) (orig : List Kit) (passes : List Pass) (kits : List Kit) (h : ℕ) (d : Kit)
    → number < s.threads + 2 → h ≡ holder_of s looper number → h < length orig → BeginWithPasses s looper c orig → AreTaken s looper c number orig passes kits
    → (more : List FrameBadge) × (map frame_badge_of (get_or kits h d).frames.items ≡ frame_badge_for number c ∷ more)
next_frames s looper c number orig passes kits h d lt held within begins taken =
    let rest = s.threads + 2 - number - 1 in
    let all : s.threads + 2 ≡ number + suc rest = omega (arith, lt) in
    let zeroth : 0 + number ≡ number = omega arith in
    let begin = begins h d within in
    let fs = (get_or orig h d).frames.items in
    let gone = given s looper c h 0 number in
    let later = given s looper c h (number + 1) rest in
    let marks : given_of s looper c h ≡ gone ++ (frame_badge_for number c ∷ later) =
    ap (given s looper c h 0) all
    ∙ (given_parts s looper c h 0 number (suc rest)
    ∙ (ap (λ m. gone ++ given s looper c h m (suc rest)) zeroth
    ∙ ap (λ l. gone ++ (l ++ later)) (is_given s looper c h number (sym held)))) in
    let whole : map frame_badge_of fs ≡ gone ++ (frame_badge_for number c ∷ (later ++ begin.0)) = sym begin.1 ∙ (ap (λ l. l ++ begin.0) marks ∙ append_assoc gone (frame_badge_for number c ∷ later) begin.0) in (
      later ++ begin.0,
      ap (map frame_badge_of) (taken.left.each h d within).frames
          ∙ (sym (drop-map frame_badge_of (length gone) fs)
          ∙ (ap (drop (length gone)) whole ∙ drop-append_seam gone (frame_badge_for number c ∷ (later ++ begin.0)))),
    )

pub has_pass : (s : Script) (looper : ℕ) (c : SharedFrames) (number : ℕ) (orig : List Kit) (passes : List Pass) (kits : List Kit) (h : ℕ) (d : Kit)
    → number < s.threads + 2 → h ≡ holder_of s looper number → h < length orig → BeginWithPasses s looper c orig → AreTaken s looper c number orig passes kits
    → 0 < length (get_or kits h d).frames.items
has_pass s looper c number orig passes kits h d lt held within begins taken =
    let next = next_frames s looper c number orig passes kits h d lt held within begins taken in
    let long = length-map (get_or kits h d).frames.items frame_badge_of in
    let long' : length (map frame_badge_of (get_or kits h d).frames.items) ≡ suc (length next.0) = ap length next.1 in
    omega (arith, long, long')

-- one pass more was taken
pub takes_more : (s : Script) (looper : ℕ) (c : SharedFrames) (number : ℕ) (orig : List Kit) (passes passes' : List Pass) (p : Pass) (kits kits' : List Kit) (h : ℕ) (e kit : Kit)
    → number < s.threads + 2 → h ≡ holder_of s looper number → h < length orig → BeginWithPasses s looper c orig → length passes ≡ number
    → passes' ≡ passes ++ p ∷ [] → kits' ≡ set kits h kit → GivesPass (get_or kits h e) p kit
    → AreTaken s looper c number orig passes kits → AreTaken s looper c (number + 1) orig passes' kits'
takes_more s looper c number orig passes passes' p kits kits' h e kit lt held within begins count more wrote gives taken =
    subst (λ l. AreTaken s looper c (number + 1) orig l kits') (sym more) (subst (λ l. AreTaken s looper c (number + 1) orig (passes ++ p ∷ []) l) (sym wrote) (record {
      order = λ k d below. dite (dec_lt k (length passes))
          (λ early. subst (λ (x : Pass). IsPassOf x c × (x.number ≡ k)) (sym (get_or-append passes (p ∷ []) d k early)) (taken.order k d early))
          (λ late.
          let all = length-append passes (p ∷ []) in
          let last : k ≡ length passes = omega (arith, late, below, all) in
          subst (λ (x : Pass). IsPassOf x c × (x.number ≡ k)) (sym (ap (λ j. get_or (passes ++ p ∷ []) j d) last ∙ get_or-append_seam passes p [] d))
          ((ap (λ (b : FrameBadge). b.table) badge, ap (λ (b : FrameBadge). b.constants) badge), ap (λ (b : FrameBadge). b.number) badge ∙ sym (last ∙ count)));
      placed = λ k d x below. dite (dec_lt k number)
          (λ early. get_or-append passes (p ∷ []) x k (omega (arith, early, count)) ∙ taken.placed k d x early)
          (λ late.
          let last : k ≡ number = omega (arith, late, below) in
          let here : h ≡ holder_of s looper k = held ∙ ap (holder_of s looper) (sym last) in
          let gone : ℕ = length (given s looper c h 0 number) in
          let next : p ∷ kit.frames.items ≡ drop gone (get_or orig h d).frames.items =
          sym gives.frames ∙ (ap (λ (y : Kit). y.frames.items) (get_or_default kits h e d inside) ∙ (taken.left.each h d within).frames) in
          ap (λ j. get_or (passes ++ p ∷ []) j x) (last ∙ sym count)
          ∙ (get_or-append_seam passes p [] x
          ∙ (ap (λ l. get_or l 0 x) next
          ∙ (get_or-drop gone (get_or orig h d).frames.items 0 x
          ∙ (ap (λ m. get_or (get_or orig h d).frames.items m x) (nothing_more gone)
          ∙ (ap (λ n. get_or (get_or orig h d).frames.items (length (given s looper c h 0 n)) x) (sym last)
          ∙ ap (λ j. get_or (get_or orig j d).frames.items (length (given s looper c j 0 k)) x) here))))));
      left = record {
        count = length-set kits h kit ∙ taken.left.count;
        each = λ k d below. dite (ℕ_discrete k h)
            (λ here. subst (λ (j : ℕ). HasFramesLeft (length (given s looper c j 0 (number + 1))) (get_or orig j d) (get_or (set kits h kit) j d)) (sym here)
            (subst (λ (y : Kit). HasFramesLeft (length (given s looper c h 0 (number + 1))) (get_or orig h d) y) (sym (get_or-set_same kits h kit d inside)) (record {
              frames =
                  let was = given s looper c h 0 number in
                  let one = longer h ∙ (ap (λ l. length was + length l) (is_given s looper c h number (sym held))) in
                  ap (drop 1) (sym gives.frames ∙ (ap (λ (y : Kit). y.frames.items) (get_or_default kits h e d inside) ∙ (taken.left.each h d within).frames))
                  ∙ (drop-drop 1 (length was) (get_or orig h d).frames.items ∙ ap (λ m. drop m (get_or orig h d).frames.items) (sym one));
              pass = gives.home ∙ (ap (λ (y : Kit). y.pass.home) (get_or_default kits h e d inside) ∙ (taken.left.each h d within).pass);
            })))
            (λ there.
            let same = longer k ∙ (ap (λ l. length (given s looper c k 0 number) + length l) (not_given s looper c k number h (sym held) (λ z. there (sym z))) ∙ nothing_more (length (given s looper c k 0 number))) in
            subst (λ (y : Kit). HasFramesLeft (length (given s looper c k 0 (number + 1))) (get_or orig k d) y) (sym (get_or-set_other kits h k kit d there))
            (subst (λ (m : ℕ). HasFramesLeft m (get_or orig k d) (get_or kits k d)) (sym same) (taken.left.each k d below)));
      };
    }))
  where
    inside : h < length kits
    inside = let same = taken.left.count in omega (arith, within, same)

    badge : frame_badge_of p ≡ frame_badge_for number c
    badge =
        let next = next_frames s looper c number orig passes kits h e lt held within begins taken in
        let both : frame_badge_of p ∷ map frame_badge_of kit.frames.items ≡ frame_badge_for number c ∷ next.0 = ap (map frame_badge_of) (sym gives.frames) ∙ next.1 in
        ap (λ l. get_or l 0 (frame_badge_of p)) both

    nothing_more : (n : ℕ) → n + 0 ≡ n
    nothing_more n = omega arith

    longer : (k : ℕ) → length (given s looper c k 0 (number + 1)) ≡ length (given s looper c k 0 number) + length (given_one s looper c k number)
    longer k =
        let zeroth : 0 + number ≡ number = omega arith in
        ap length (given_more s looper c k 0 number ∙ ap (λ m. given s looper c k 0 number ++ given_one s looper c k m) zeroth)
        ∙ length-append (given s looper c k 0 number) (given_one s looper c k number)

module _ (s : Script) (looper : ℕ) (c : SharedFrames) (number : ℕ) (orig : List Kit) (passes : List Pass) (kits : List Kit) (entries : List FrameEntry) (count : length passes ≡ number) (all : number ≡ s.threads + 2) (taken : AreTaken s looper c number orig passes kits) where
  -- where each thread's pass stood, where the looper's stood, and where the controller's stood
  firsts_taken : (k : ℕ) (d : Kit) (p : Pass) → k < s.threads → get_or passes k p ≡ get_or (get_or orig k d).frames.items 0 p
  firsts_taken k d p lt =
      taken.placed k d p (omega (arith, lt, all))
      ∙ (ap (λ j. get_or (get_or orig j d).frames.items (length (given s looper c j 0 k)) p) (thread_holds s looper k lt)
      ∙ ap (λ (l : List FrameBadge). get_or (get_or orig k d).frames.items (length l) p) (given_none s looper c k k (omega (arith, lt)) (omega arith)))

  mine_taken : (d : Kit) (p : Pass) → get_or passes s.threads p ≡ get_or (get_or orig (s.threads + looper) d).frames.items 0 p
  mine_taken d p =
      taken.placed s.threads d p (omega (arith, all))
      ∙ (ap (λ j. get_or (get_or orig j d).frames.items (length (given s looper c j 0 s.threads)) p) (looper_holds s looper s.threads (omega arith) (omega arith))
      ∙ ap (λ m. get_or (get_or orig (s.threads + looper) d).frames.items m p) (given_mine s looper c (s.threads + looper) refl))

  pub last_taken : (d : Kit) (p : Pass) → looper < s.loopers → get_or passes (s.threads + 1) p ≡ get_or (get_or orig (s.threads + s.loopers) d).frames.items 0 p
  last_taken d p few =
      taken.placed (s.threads + 1) d p (omega (arith, all))
      ∙ (ap (λ j. get_or (get_or orig j d).frames.items (length (given s looper c j 0 (s.threads + 1))) p) (controller_holds s looper (s.threads + 1) (omega arith))
      ∙ ap (λ m. get_or (get_or orig (s.threads + s.loopers) d).frames.items m p) (given_final s looper c few))

  -- what was seen by the looper's pass begins the entries
  pub taken_own : BeginWithSeen entries passes → BeginWithOwn (s.threads + looper) orig entries
  taken_own seen = λ d p. subst (λ (x : Pass). IsPrefix x.view.seen entries) (mine_taken d p) (seen s.threads p (omega (arith, all, count)))

  module _ (few : looper < s.loopers) (d : Kit) (p : Pass) where
    first : ℕ → Pass
    first k = get_or (get_or orig k d).frames.items 0 p

    rest : List Pass
    rest = get_or (get_or orig (s.threads + looper) d).frames.items 0 p ∷ get_or (get_or orig (s.threads + s.loopers) d).frames.items 0 p ∷ []

    others : (j : ℕ) → j < 2 → get_or passes (s.threads + j) p ≡ get_or rest j p
    unfolding rest
    others zero lt = (let here : s.threads + 0 ≡ s.threads = omega arith in ap (λ m. get_or passes m p) here ∙ mine_taken d p)
    others (suc zero) lt = last_taken d p few
    others (suc (suc j)) lt = absurd (omega (arith, lt))

    -- all passes, in order
    all_taken : passes ≡ passes_at s looper 0 orig d p
    unfolding first rest
    all_taken =
        let these : List Pass = map first (range_with_len 0 s.threads) in
        let long : length these ≡ s.threads = length-map-range_with_len first 0 s.threads in
        let both : length (these ++ rest) ≡ length these + 2 = length-append these rest in
        ext_get_or p passes (these ++ rest) (omega (arith, count, all, both, long)) (λ i lt. dite (dec_lt i s.threads)
        (λ thread. firsts_taken i d p thread
        ∙ sym (get_or-append these rest p i (omega (arith, thread, long)) ∙ get_or-map-range_with_len first 0 s.threads i i p thread (omega arith)))
        (λ not.
        let j : ℕ = i - s.threads in
        let at : i ≡ s.threads + j = omega (arith, not) in
        let near : j < 2 = omega (arith, lt, count, all) in
        ap (λ m. get_or passes m p) at ∙ (others j near ∙ sym (get_or-append_right these rest s.threads i p long (omega (arith, not))))))

  -- the entries are those that the next passes recorded
  pub taken_theirs : looper < s.loopers → AreHeard entries passes → AreOfNext s looper orig entries
  taken_theirs few theirs d p = subst (AreHeard entries) (all_taken few d p) theirs

-- what is the same of each number of a range
map_same : (f g : ℕ → Pass) (a n : ℕ) → ((i : ℕ) → i < a + n → f i ≡ g i) → map f (range_with_len a n) ≡ map g (range_with_len a n)
map_same f g a zero same = refl
map_same f g a (suc n) same = λ i. same a (omega arith) i ∷ map_same f g (a + 1) n (λ j lt. same j (omega (arith, lt))) i

-- what is known where the choreographers of the first loopers have ended, and these have not
pub record HaveEnded (s : Script) (looper : ℕ) (rest : List SharedFrames) (orig : List Kit) (records : List FrameRecord) (kits : List Kit) : Type 0 where
  pub loopers : map (λ (f : FrameRecord). f.looper) records ≡ range_with_len 0 looper
  pub lawful : AllByRecursion (IsFrameRun s) records
  pub theirs : AreAllTheirs s orig records
  pub count : length kits ≡ length orig
  pub marks : HaveAllPasses (given_all s looper rest) kits
  pub threads : (k : ℕ) (d : Kit) → k < s.threads → (get_or kits k d).frames.items ≡ drop looper (get_or orig k d).frames.items
  pub own : HaveSeenOwn s.threads orig records
  pub controller : (d : Kit) → (get_or kits (s.threads + s.loopers) d).frames.items ≡ drop looper (get_or orig (s.threads + s.loopers) d).frames.items
  pub later : (j : ℕ) (d : Kit) → looper ≤ j → j < s.loopers → (get_or kits (s.threads + j) d).frames.items ≡ (get_or orig (s.threads + j) d).frames.items
  pub pool : (k : ℕ) (d : Kit) → k < length orig → (get_or kits k d).pass.home ≡ (get_or orig k d).pass.home

pub ended_none : (s : Script) (cs : List SharedFrames) (kits : List Kit) → HaveAllPasses (given_all s 0 cs) kits → HaveEnded s 0 cs kits [] kits
ended_none s cs kits marks = record {
  loopers = refl;
  lawful = tt;
  theirs = λ q d p r none. absurd (omega (arith, none));
  count = refl;
  marks = marks;
  threads = λ k d lt. refl;
  controller = λ d. refl;
  own = λ q d p r none. absurd (omega (arith, none));
  later = λ j d from lt. refl;
  pool = λ k d lt. refl;
}

-- the next choreographer's passes come first in each kit
pub next_passes : (s : Script) (looper : ℕ) (c : SharedFrames) (rest : List SharedFrames) (kits : List Kit) → HaveAllPasses (given_all s looper (c ∷ rest)) kits → BeginWithPasses s looper c kits
next_passes s looper c rest kits marks k d lt = (given_all s (looper + 1) rest k, sym (marks k d lt))

pub next_constants : (s : Script) (cs yielded rest : List SharedFrames) (c : SharedFrames) (n : ℕ) → yielded ++ c ∷ rest ≡ cs → n ≡ length yielded → AreChoreographersOf s cs → (c.constants ≡ frame_constants s n) × (n < s.loopers)
next_constants s cs yielded rest c n parts is keys =
    let lt = within_parts yielded rest cs c n parts is in
    let long : length cs ≡ s.loopers = sym (length-map cs frame_key) ∙ (ap length keys ∙ length-map-range_with_len (frame_constants s) 0 s.loopers) in
    let few : n < s.loopers = omega (arith, lt, long) in (
      ap frame_key (sym (at_parts yielded rest cs c n parts is))
          ∙ (sym (get_or-map frame_key cs n c c.constants lt)
          ∙ (ap (λ l. get_or l n c.constants) keys ∙ get_or-map-range_with_len (frame_constants s) 0 s.loopers n n c.constants few (omega arith))),
      few,
    )

-- one choreographer more has ended
pub ends_more : (s : Script) (looper : ℕ) (c : SharedFrames) (rest : List SharedFrames) (orig kits kits' : List Kit) (records records' : List FrameRecord) (r : FrameRecord)
    → length records ≡ looper → looper < s.loopers → s.threads + s.loopers < length orig → IsFrameRun s r → r.looper ≡ looper → AreOfNext s looper kits r.entries → BeginWithOwn (s.threads + looper) kits r.entries → HaveFramesLeft (λ k. length (given_of s looper c k)) kits kits'
    → records' ≡ records ++ r ∷ [] → HaveEnded s looper (c ∷ rest) orig records kits → HaveEnded s (looper + 1) rest orig records' kits'
ends_more s looper c rest orig kits kits' records records' r long few enough lawful number theirs begins_own left more before = subst (λ l. HaveEnded s (looper + 1) rest orig l kits') (sym more) (record {
  loopers = map-append (λ (f : FrameRecord). f.looper) records (r ∷ []) ∙ ((λ i. before.loopers i ++ (number ∙ zeroth) i ∷ []) ∙ sym (numbers_more 0 looper));
  lawful = all_push records before.lawful;
  theirs = λ q d p x below. dite (dec_lt q (length records))
      (λ early. subst (λ (y : FrameRecord). AreHeard y.entries (passes_at s q q orig d p)) (sym (get_or-append records (r ∷ []) x q early)) (before.theirs q d p x early))
      (λ late.
      let all = length-append records (r ∷ []) in
      let last : q ≡ length records = omega (arith, late, below, all) in
      let place : looper ≡ q = omega (arith, last, long) in
      subst (λ (y : FrameRecord). AreHeard y.entries (passes_at s q q orig d p)) (sym (ap (λ m. get_or (records ++ r ∷ []) m x) last ∙ get_or-append_seam records r [] x))
      (subst (λ (m : ℕ). AreHeard r.entries (passes_at s m m orig d p)) place (subst (AreHeard r.entries) (next_are d p) (theirs d p))));
  count = left.count ∙ before.count;
  marks = λ k d lt.
      let same = left.count in
      let lt' : k < length kits = omega (arith, lt, same) in
      let gone = given_of s looper c k in
      ap (map frame_badge_of) (left.each k d lt').frames
      ∙ (sym (drop-map frame_badge_of (length gone) (get_or kits k d).frames.items)
      ∙ (ap (drop (length gone)) (before.marks k d lt') ∙ drop-append_seam gone (given_all s (looper + 1) rest k)));
  threads = λ k d lt.
      let one : length (given_of s looper c k) ≡ 1 = ap length (of_thread s looper c k lt) in
      let same = before.count in
      (left.each k d (omega (arith, lt, enough, same))).frames
      ∙ (ap (λ m. drop m (get_or kits k d).frames.items) one
      ∙ (ap (drop 1) (before.threads k d lt) ∙ drop-drop 1 looper (get_or orig k d).frames.items));
  controller = λ d.
      let one : length (given_of s looper c (s.threads + s.loopers)) ≡ 1 = ap length (of_controller s looper c (s.threads + s.loopers) refl few) in
      let same = before.count in
      (left.each (s.threads + s.loopers) d (omega (arith, enough, same))).frames
      ∙ (ap (λ m. drop m (get_or kits (s.threads + s.loopers) d).frames.items) one
      ∙ (ap (drop 1) (before.controller d) ∙ drop-drop 1 looper (get_or orig (s.threads + s.loopers) d).frames.items));
  own = λ q d p x below. dite (dec_lt q (length records))
      (λ early. subst (λ (y : FrameRecord). IsPrefix (get_or (get_or orig (s.threads + q) d).frames.items 0 p).view.seen y.entries) (sym (get_or-append records (r ∷ []) x q early)) (before.own q d p x early))
      (λ late.
      let all = length-append records (r ∷ []) in
      let last : q ≡ length records = omega (arith, late, below, all) in
      let place : q ≡ looper = omega (arith, last, long) in
      let first : get_or (get_or kits (s.threads + looper) d).frames.items 0 p ≡ get_or (get_or orig (s.threads + q) d).frames.items 0 p =
      ap (λ l. get_or l 0 p) (before.later looper d (omega arith) few) ∙ ap (λ m. get_or (get_or orig (s.threads + m) d).frames.items 0 p) (sym place) in
      subst (λ (y : FrameRecord). IsPrefix (get_or (get_or orig (s.threads + q) d).frames.items 0 p).view.seen y.entries) (sym (ap (λ m. get_or (records ++ r ∷ []) m x) last ∙ get_or-append_seam records r [] x))
      (subst (λ (y : Pass). IsPrefix y.view.seen r.entries) first (begins_own d p)));
  later = λ j d from lt.
      let none : length (given_of s looper c (s.threads + j)) ≡ 0 =
      ap length (of_other s looper c (s.threads + j) (omega arith) (λ e. absurd (omega (arith, e, from))) (λ e. absurd (omega (arith, e, lt)))) in
      let same = before.count in
      (left.each (s.threads + j) d (omega (arith, lt, enough, same))).frames
      ∙ (ap (λ m. drop m (get_or kits (s.threads + j) d).frames.items) none ∙ before.later j d (omega (arith, from)) lt);
  pool = λ k d lt. let same = before.count in (left.each k d (omega (arith, lt, same))).pass ∙ before.pool k d lt;
})
  where
    zeroth : looper ≡ 0 + looper
    zeroth = omega arith

    -- the next pass of a kit that has given up as many as there are records
    next_is : (k : ℕ) (d : Kit) (p : Pass) → (get_or kits k d).frames.items ≡ drop looper (get_or orig k d).frames.items
        → get_or (get_or kits k d).frames.items 0 p ≡ get_or (get_or orig k d).frames.items looper p
    next_is k d p is =
        let place : looper + 0 ≡ looper = omega arith in
        ap (λ l. get_or l 0 p) is ∙ (get_or-drop looper (get_or orig k d).frames.items 0 p ∙ ap (λ m. get_or (get_or orig k d).frames.items m p) place)

    next_are : (d : Kit) (p : Pass) → passes_at s looper 0 kits d p ≡ passes_at s looper looper orig d p
    next_are d p =
        let threads = map_same (λ k. get_or (get_or kits k d).frames.items 0 p) (λ k. get_or (get_or orig k d).frames.items looper p) 0 s.threads (λ k lt. next_is k d p (before.threads k d (omega (arith, lt)))) in
        let mine : (get_or kits (s.threads + looper) d).frames.items ≡ (get_or orig (s.threads + looper) d).frames.items = before.later looper d (omega arith) few in
        let last = next_is (s.threads + s.loopers) d p (before.controller d) in
        λ i. threads i ++ get_or (mine i) 0 p ∷ last i ∷ []

    all_push : (l : List FrameRecord) → AllByRecursion (IsFrameRun s) l → AllByRecursion (IsFrameRun s) (l ++ r ∷ [])
    all_push [] h = (lawful, tt)
    all_push (x ∷ xs) h = (h.0, all_push xs h.1)

pub ended_all : (s : Script) (looper : ℕ) (rest : List SharedFrames) (orig kits : List Kit) (records : List FrameRecord) → looper ≡ s.loopers → HaveEnded s looper rest orig records kits
    → AreFrameRecords s records × AreAllTheirs s orig records × ((pool : TableId) → AreOfPool pool orig → AreOfPool pool kits)
ended_all s looper rest orig kits records all h = (
  record { loopers = h.loopers ∙ ap (range_with_len 0) all; lawful = h.lawful },
  h.theirs,
  λ pool own k d lt. let same = h.count in h.pool k d (omega (arith, lt, same)) ∙ own k d (omega (arith, lt, same)),
)

-- kits whose frames are as before have the same passes
pub frames_kept : (s : Script) (before after : List Kit) (records : List FrameRecord) → length before ≡ s.threads + s.loopers + 1 → length records ≡ s.loopers → KeepFrames before after
    → AreAllTheirs s after records → AreAllTheirs s before records
frames_kept s before after records count few kept theirs q d p r lt =
    let frames_of : (k : ℕ) → k < length before → (get_or after k d).frames.items ≡ (get_or before k d).frames.items = λ k below. (kept.each k d below).frames in
    let threads = map_same (λ k. get_or (get_or after k d).frames.items q p) (λ k. get_or (get_or before k d).frames.items q p) 0 s.threads (λ k below. ap (λ l. get_or l q p) (frames_of k (omega (arith, below, count)))) in
    let mine = frames_of (s.threads + q) (omega (arith, lt, few, count)) in
    let last = frames_of (s.threads + s.loopers) (omega (arith, count)) in
    let same : passes_at s q q after d p ≡ passes_at s q q before d p = λ i. threads i ++ get_or (mine i) 0 p ∷ get_or (last i) q p ∷ [] in
    subst (AreHeard (get_or records q r).entries) same (theirs q d p r lt)

-- ==== the parts of frame records that the controller kept go with its passes, choreographer after choreographer

-- the first pass handed out what stands in the first list
first_parts : (ps : List Pass) (lists : List (Vec (List FrameEntry))) → HaveHandedOut ps lists → 0 < length ps → (p : Pass) (v : Vec (List FrameEntry)) → HasHandedOut (get_or ps 0 p) (entries_in (get_or lists 0 v).items)
first_parts [] lists h some_pass p v = absurd (omega (arith, some_pass))
first_parts (x ∷ ps) [] h some_pass p v = absurd h
first_parts (x ∷ ps) (y ∷ lists) h some_pass p v = h.0

-- and the others what stands in the others
other_parts : (ps : List Pass) (lists : List (Vec (List FrameEntry))) → HaveHandedOut ps lists → 0 < length ps → HaveHandedOut (drop 1 ps) (remove lists 0)
other_parts [] lists h some_pass = absurd (omega (arith, some_pass))
other_parts (x ∷ ps) [] h some_pass = absurd h
other_parts (x ∷ ps) (y ∷ lists) h some_pass = h.1

-- where the kits have their passes of the next choreographer, the last kit has one
last_has_pass : (s : Script) (looper : ℕ) (c : SharedFrames) (rest : List SharedFrames) (kits : List Kit) → looper < s.loopers → length kits ≡ s.threads + s.loopers + 1 → HaveAllPasses (given_all s looper (c ∷ rest)) kits
    → (k : ℕ) (d : Kit) → k + 1 ≡ length kits → 0 < length (get_or kits k d).frames.items
last_has_pass s looper c rest kits few senders marks k d last =
    let here : k ≡ s.threads + s.loopers = omega (arith, last, senders) in
    let one : length (given_of s looper c k) ≡ 1 = ap length (of_controller s looper c k here few) in
    let more = length-append (given_of s looper c k) (given_all s (looper + 1) rest k) in
    let all : length (map frame_badge_of (get_or kits k d).frames.items) ≡ length (given_of s looper c k ++ given_all s (looper + 1) rest k) = ap length (marks k d (omega (arith, last))) in
    let long = length-map (get_or kits k d).frames.items frame_badge_of in
    omega (arith, one, more, all, long)

-- so the last of the kits has one where the choreographers from this one on haven't ended
pub next_given : (s : Script) (looper : ℕ) (c : SharedFrames) (rest next : List SharedFrames) (orig kits : List Kit) (records : List FrameRecord) → next ≡ c ∷ rest → looper < s.loopers
    → length orig ≡ s.threads + s.loopers + 1 → HaveEnded s looper next orig records kits → (k : ℕ) (d : Kit) → k + 1 ≡ length kits → 0 < length (get_or kits k d).frames.items
next_given s looper c rest next orig kits records is few senders ended =
    last_has_pass s looper c rest kits few (ended.count ∙ senders) (subst (λ (l : List SharedFrames). HaveAllPasses (given_all s looper l) kits) is ended.marks)

module _ (kits : List Kit) (lists : List (Vec (List FrameEntry))) (sealed : AreFramesSealed kits lists) (have : (k : ℕ) (d : Kit) → k + 1 ≡ length kits → 0 < length (get_or kits k d).frames.items) where
  -- there is a list for the next choreographer
  pub has_list : 0 < length kits → 0 < length lists
  has_list any =
      let k = length kits - 1 in
      let lt : k < length kits = omega (arith, any) in
      let last : k + 1 ≡ length kits = omega (arith, any) in
      let d = some_of kits k lt in
      let many = lists_count (get_or kits k d).frames.items lists (sealed k d last) in
      let passes = have k d last in
      omega (arith, many, passes)

  -- which the last kit's next pass handed out
  pub sealed_next : (v : Vec (List FrameEntry)) → v ≡ get_or lists 0 v → HasSealedNextFrames kits v.items
  sealed_next v is k d p last =
      subst (λ (z : Vec (List FrameEntry)). HasHandedOut (get_or (get_or kits k d).frames.items 0 p) (entries_in z.items)) (sym is)
      (first_parts (get_or kits k d).frames.items lists (sealed k d last) (have k d last) p v)

  -- behind that choreographer the others are left
  pub sealed_rest : (s : Script) (looper : ℕ) (c : SharedFrames) (kits' : List Kit) → looper < s.loopers → length kits ≡ s.threads + s.loopers + 1 → HaveFramesLeft (λ k. length (given_of s looper c k)) kits kits'
      → AreFramesSealed kits' (remove lists 0)
  sealed_rest s looper c kits' few senders left k d last =
      let same = left.count in
      let here : k ≡ s.threads + s.loopers = omega (arith, last, same, senders) in
      let one : length (given_of s looper c k) ≡ 1 = ap length (of_controller s looper c k here few) in
      let gone = (left.each k d (omega (arith, last, same))).frames ∙ ap (λ m. drop m (get_or kits k d).frames.items) one in
      subst (λ (l : List Pass). HaveHandedOut l (remove lists 0)) (sym gone)
      (other_parts (get_or kits k d).frames.items lists (sealed k d (omega (arith, last, same))) (have k d (omega (arith, last, same))))

-- the last of the passes that were taken handed these parts out
pub taken_sealed : (s : Script) (looper : ℕ) (c : SharedFrames) (number : ℕ) (orig : List Kit) (passes : List Pass) (kits : List Kit) (parts : List (List FrameEntry)) → length passes ≡ number → number ≡ s.threads + 2
    → AreTaken s looper c number orig passes kits → looper < s.loopers → length orig ≡ s.threads + s.loopers + 1 → HasSealedNextFrames orig parts → AreHandedOut passes (entries_in parts)
taken_sealed s looper c number orig passes kits parts count all taken few senders next k p last =
    let here : k ≡ s.threads + 1 = omega (arith, last, count, all) in
    let d = some_of orig (s.threads + s.loopers) (omega (arith, senders)) in
    let is : get_or passes k p ≡ get_or (get_or orig (s.threads + s.loopers) d).frames.items 0 p =
    ap (λ m. get_or passes m p) here ∙ last_taken s looper c number orig passes kits [] count all taken d p few in
    subst (λ (z : Pass). HasHandedOut z (entries_in parts)) (sym is) (next (s.threads + s.loopers) d p (omega (arith, senders)))

-- and the kits have given up the passes that they had of it
pub taken_kits : (s : Script) (looper : ℕ) (c : SharedFrames) (number : ℕ) (orig : List Kit) (passes : List Pass) (kits : List Kit) (result : Result FrameRecord NoMemory) → number ≡ s.threads + 2
    → AreTaken s looper c number orig passes kits → OnOk result (HaveFramesLeft (λ k. length (given_of s looper c k)) orig kits)
taken_kits s looper c number orig passes kits (Ok r) all taken = subst (λ (n : ℕ). HaveFramesLeft (λ k. length (given s looper c k 0 n)) orig kits) all taken.left
taken_kits s looper c number orig passes kits (Err e) all taken = tt

-- the whole record of a looper's choreographer is one that a run has
pub whole_run : (s : Script) (looper : ℕ) (c : SharedFrames) (passes : List Pass) (result : Result FrameRecord NoMemory) → c.constants ≡ frame_constants s looper
    → IfOk result (λ r. (r.looper ≡ c.constants.looper) × (r.interval ≡ c.constants.interval) × (r.phases ≡ c.constants.phases)) → IfOk result (λ r. IsWhole c passes r.entries)
    → IfOk result (λ r. IsFrameRun s r × (r.looper ≡ looper))
whole_run s looper c passes (Ok r) is told whole = (
  record {
    interval = told.1 ∙ ap (λ (k : Constants). k.interval) is;
    phases = told.2 ∙ ap (λ (k : Constants). k.phases) is;
    lawful = (λ i. lawful (told.1 i) (told.2 i) r.entries) ∙ whole.lawful_all;
    stamps = ap (λ n. are_stamped n r.entries) told.1 ∙ whole.stamps;
  },
  told.0 ∙ ap (λ (k : Constants). k.looper) is,
)
whole_run s looper c passes (Err e) is told whole = tt

-- with the controller's kit behind all others
pub all_frames_sealed : (kits kits' : List Kit) (c : Controller) → kits' ≡ kits ++ c.kit ∷ [] → HaveHandedOut c.kit.frames.items c.sealed_frames.items → AreFramesSealed kits' c.sealed_frames.items
all_frames_sealed kits kits' c grown out k d last =
    let more = ap length grown ∙ length-append kits (c.kit ∷ []) in
    let at : k ≡ length kits = omega (arith, last, more) in
    let is = ap (λ m. get_or kits' m d) at ∙ last_kit kits kits' c.kit (length kits) refl grown d in
    subst (λ (z : Kit). HaveHandedOut z.frames.items c.sealed_frames.items) (sym is) out

-- where the kits kept their passes
pub sealed_kept : (kits kits' : List Kit) (lists : List (Vec (List FrameEntry))) → KeepFrames kits kits' → AreFramesSealed kits lists → AreFramesSealed kits' lists
sealed_kept kits kits' lists kept sealed k d last =
    let same = kept.count in
    subst (λ (l : List Pass). HaveHandedOut l lists) (sym (kept.each k d (omega (arith, last, same))).frames) (sealed k d (omega (arith, last, same)))
