-- What was asked of each choreographer stays in turn where nobody asks for anything, and where the threads run a block.
use Rattle.std.proofs.Common.{◌≡◌, ◌<◌, ◌≤◌, ◌+◌, ◌==◌, ℕ, Bool, true, false, true≢false, List, [], ◌∷◌, ◌++◌, Some, None, length, refl, sym, ap, ◌∙◌, subst, arith, slice_index_or, append-nil, inl, inr}
use Rattle.std.specs.Prelude.{slice_get, if◌then◌else◌}
use Rattle.std.specs.List.{cons_option}
use Rattle.std.proofs.lemmas.Bool.{eq-eqb}
use Rattle.std.proofs.lemmas.List.{append_cancel_left, length-append, nil_from_length, get_or_default}
use Rattle.std.proofs.lemmas.List.Elements.{filter_map-append}
use Rattle.std.proofs.lemmas.Option.{same_Some, slice_get_read}
use mathlib.Core.List.{IsPrefix}
use mathlib.Core.Logic.{dite}
use native.Mathlib.Decide.{ℕ_discrete, dec_lt}
use Rattle.frame_phases.specs.declared.entry.FrameEntry.{FrameEntry}
use Rattle.frame_phases.specs.Parting.{dealt_to}
use Rattle.choreographer.specs.declared.view.Constants.{Constants as FrameConstants}
use Rattle.choreographer.specs.Known.{SharedFrames, Pass}
use Rattle.dash_script.specs.declared.script.Block.{Block}
use Rattle.dash_script.specs.declared.script.Script.{Script}
use Rattle.run_model.specs.Planned.{lines_of}
use Rattle.run_model.specs.FrameRecords.{asks_in, in_block, in_round}
use Rattle.run_model.specs.AskedSoFar.{lines_ask, HaveAsked, asked_so_far}
use Rattle.run_model.proofs.AskedInTurn.{asked_later, nothing_asked, block_asked}
use Rattle.dash_hall.specs.Hearing.{AtEach, HaveHeard, HasHeardAll, HaveHeardAllAt, PassHasHeard}
use Rattle.dash_hall.specs.Hosts.{pass_asks}
use Rattle.dash_hall.specs.Kits.{FrameBadge, frame_badge_of, frame_badge_for, IsUnusedKit}
use Rattle.dash_hall.proofs.Badges.{alike_at, alike_length, choreographer_at, choreographer_count}
use Rattle.dash_hall.proofs.FramePosts.{told_whole}
use Rattle.dash_threads.specs.declared.thread.PostingThread.{PostingThread}
use Rattle.dash_threads.specs.Threads.{ThreadKeeps}
use Rattle.dash_loopers.specs.declared.player.Parts.{Parts}
use Rattle.dash_loopers.specs.declared.looper.StageLooper.{StageLooper}
use Rattle.dash_loopers.specs.Loopers.{ArePartsOf, LooperRest, rest_in, LooperKeeps, OfItsPass}
use Rattle.dash_loopers.proofs.LooperPasses.{unheard_all}
use Rattle.dash_stage.specs.declared.stage.Stage.{Stage}
use Rattle.dash_stage.specs.Asking.{AllAskedInTurn, AskInTurn, AskUpToNow}
use Rattle.dash_stage.specs.Playing.{LiesAhead}
use Rattle.dash_stage.specs.Sharing.{OfPasses, AreUnheard, HaveHeardNothing, HavePassesHeard, HaveHeardTheSame}
use Rattle.dash_stage.specs.Stages.{IsStage, HaveRunInLockstep}
use Rattle.dash_stage.specs.Timeliness.{AreSound}
use Rattle.dash_stage.proofs.Ends.HallEnds.{some_of}
use Rattle.dash_loopers.proofs.LooperShares.{looper_parts}

-- ---- lists

-- of nothing nobody has a part
none_dealt : (xs : List (ℕ × FrameEntry)) → ((k : ℕ) → dealt_to k xs ≡ []) → xs ≡ []
none_dealt [] none = refl
none_dealt ((n, x) ∷ xs) none = by_test (n == n) (eq-eqb n n refl) (none n)
  where
    by_test : (b : Bool) → b ≡ true → cons_option (if b then Some x else None) (dealt_to n xs) ≡ [] → (n, x) ∷ xs ≡ []
    by_test true is h = absurd (let long = ap length h in omega (arith, long))
    by_test false is h = absurd (true≢false (sym is))

dealt_more : (k : ℕ) (xs more : List (ℕ × FrameEntry)) → dealt_to k (xs ++ more) ≡ dealt_to k xs ++ dealt_to k more
dealt_more k xs more = filter_map-append (λ (d : ℕ × FrameEntry). if d.0 == k then Some d.1 else None) xs more

-- where each part is as before, nothing was made
pub same_made : (xs ys : List (ℕ × FrameEntry)) → IsPrefix xs ys → ((k : ℕ) → dealt_to k ys ≡ dealt_to k xs) → ys ≡ xs
same_made xs ys front same =
    let none : front.0 ≡ [] = none_dealt front.0 (λ k. append_cancel_left (dealt_to k xs) (dealt_to k front.0) []
    (sym (dealt_more k xs front.0) ∙ (ap (λ (l : List (ℕ × FrameEntry)). dealt_to k l) front.1 ∙ (same k ∙ sym (append-nil (dealt_to k xs)))))) in
    sym front.1 ∙ (ap (λ l. xs ++ l) none ∙ append-nil xs)

-- who has no part has none in front
pub idle_front : (k : ℕ) (xs ys : List (ℕ × FrameEntry)) → IsPrefix xs ys → dealt_to k ys ≡ [] → dealt_to k xs ≡ []
idle_front k xs ys front none =
    let both : dealt_to k xs ++ dealt_to k front.0 ≡ [] = sym (dealt_more k xs front.0) ∙ (ap (λ (l : List (ℕ × FrameEntry)). dealt_to k l) front.1 ∙ none) in
    let long = ap length both in
    let parts = length-append (dealt_to k xs) (dealt_to k front.0) in
    nil_from_length (dealt_to k xs) (omega (arith, long, parts))

-- ---- who made what

module _ (s : Script) (st : Stage) (is : IsStage s st) (q : ℕ) (few : q < s.loopers) where
  abbrev choreographers : List SharedFrames
  choreographers = st.hall.choreographers.items

  in_choreographers : q < length choreographers
  in_choreographers = let all = choreographer_count s choreographers is.hall.choreographers in omega (arith, few, all)

  -- a thread has a pass there, with its number
  pub in_thread : (k : ℕ) (t : PostingThread) → k < length st.threads.items → q < length (slice_index_or st.threads.items k t).kit.frames.items
  in_thread k t lt =
      let x = slice_index_or st.threads.items k t in
      let count = alike_length frame_badge_of (frame_badge_for x.number) x.kit.frames.items choreographers (is.threads.1 k t lt).0.frames in
      let all = in_choreographers in
      omega (arith, count, all)

  -- so has the controller
  pub in_controller : q < length st.controller.kit.frames.items
  in_controller =
      let count = alike_length frame_badge_of (frame_badge_for (s.threads + 1)) st.controller.kit.frames.items choreographers is.controller.frames in
      let all = in_choreographers in
      omega (arith, count, all)

  module _ (made : List (ℕ × FrameEntry)) where
    -- what stands beside the number of a pass that has heard this is what the pass recorded
    own_made : (p : Pass) (n : ℕ) → HasHeardAll made p → p.number ≡ n → dealt_to n made ≡ p.view.own
    own_made p n h number = ap (λ (m : ℕ). dealt_to m made) (sym number) ∙ (ap (λ (l : List (ℕ × FrameEntry)). dealt_to p.number l) (sym h.1) ∙ h.0.own)

    -- a thread's
    pub thread_made : (k : ℕ) (t : PostingThread) (p : Pass) → k < length st.threads.items → HaveHeardAllAt q made (slice_index_or st.threads.items k t).kit.frames.items
        → dealt_to k made ≡ (slice_index_or (slice_index_or st.threads.items k t).kit.frames.items q p).view.own
    thread_made k t p lt heard =
        let x = slice_index_or st.threads.items k t in
        let one = is.threads.1 k t lt in
        let within = in_thread k t lt in
        let badge = alike_at frame_badge_of (frame_badge_for x.number) x.kit.frames.items choreographers one.0.frames q p (some_of choreographers q in_choreographers) within in
        own_made (slice_index_or x.kit.frames.items q p) k (heard p within) (ap (λ (b : FrameBadge). b.number) badge ∙ one.1)

    -- the looper's
    pub looper_made : (l : StageLooper) (parts : Parts) → q < length st.loopers.items → OfItsPass (HasHeardAll made) (slice_index_or st.loopers.items q l)
        → (slice_index_or st.loopers.items q l).parts ≡ Some parts → dealt_to s.threads made ≡ parts.frames.view.own
    looper_made l parts lt heard at =
        let x = slice_index_or st.loopers.items q l in
        let one = is.loopers.1 q l lt in
        let c = slice_index_or choreographers q (some_of choreographers q in_choreographers) in
        let read : slice_get choreographers x.number ≡ Some c = ap (slice_get choreographers) one.1
        ∙ slice_get_read choreographers (length choreographers) q c refl in_choreographers (sym (get_or_default choreographers q c (some_of choreographers q in_choreographers) in_choreographers)) in
        let p = looper_parts s st.hall is.hall x one.0 in
        let are : ArePartsOf s st.hall x.number parts = subst (ArePartsOf s st.hall x.number) (same_Some _ _ (sym p.1 ∙ at)) p.2 in
        own_made parts.frames s.threads (heard (record { frames = parts.frames; root = parts.root; fired = parts.fired.items; passed = parts.passed; awaits = parts.awaits }) (ap rest_in at))
        (ap (λ (b : FrameBadge). b.number) (are.frames c read))

    -- nobody behind them recorded anything
    pub idle_made : HaveHeardAllAt q made st.controller.kit.frames.items → (k : ℕ) → s.threads + 1 ≤ k → dealt_to k made ≡ []
    idle_made heard k le =
        let ps = st.controller.kit.frames.items in
        let c = some_of choreographers q in_choreographers in
        let p = some_of ps q in_controller in
        let mine = slice_index_or ps q p in
        let key = (slice_index_or choreographers q c).constants in
        let badge = alike_at frame_badge_of (frame_badge_for (s.threads + 1)) ps choreographers is.controller.frames q p c in_controller in
        let h = heard p in_controller in
        let passes = ap (λ (z : FrameConstants). z.passes) (choreographer_at s choreographers is.hall.choreographers q c few) in
        dite (ℕ_discrete k (s.threads + 1))
        (λ here. own_made mine k h (ap (λ (b : FrameBadge). b.number) badge ∙ sym here) ∙ is.controller.idle q p in_controller)
        (λ behind. ap (λ (l : List (ℕ × FrameEntry)). dealt_to k l) (sym h.1) ∙ h.0.numbers key (ap (λ (b : FrameBadge). b.constants) badge) k (omega (arith, passes, le, behind)))

    -- a thread that has run its lines of these blocks asked for what they ask for
    pub thread_asked : (past : List Block) → HaveRunInLockstep s past st.threads.items → (k : ℕ) (t : PostingThread) → k < length st.threads.items
        → HaveHeardAllAt q made (slice_index_or st.threads.items k t).kit.frames.items → asks_in (dealt_to k made) ≡ lines_ask q (lines_of k past)
    thread_asked past run k t lt heard =
        let ps = (slice_index_or st.threads.items k t).kit.frames.items in
        let within = in_thread k t lt in
        let p = some_of ps q within in
        ap asks_in (thread_made k t p lt heard)
        ∙ (sym (told_whole (pass_asks (slice_index_or ps q p))) ∙ ((run k t lt).asked q p within ∙ told_whole (lines_ask q (lines_of k past))))

-- ---- from a stage to a later one, in which all passes have heard the same

module _ (s : Script) (st st' : Stage) (is : IsStage s st) (is' : IsStage s st') (same' : HaveHeardTheSame s st') (back : AreSound s st'.controller → AreSound s st.controller)
    (loopers : AtEach (LooperKeeps HaveHeard) st.loopers.items st'.loopers.items) where
  module _ (q : ℕ) (few : q < s.loopers) where
    in_before : q < length st.loopers.items
    in_before = let count = is.loopers.0 in omega (arith, few, count)

    in_after : q < length st'.loopers.items
    in_after = let count = is'.loopers.0 in omega (arith, few, count)

    -- what the looper's pass was, and is
    its_looper : StageLooper
    its_looper = some_of st.loopers.items q in_before

    abbrev before : StageLooper
    before = slice_index_or st.loopers.items q its_looper

    abbrev after : StageLooper
    after = slice_index_or st'.loopers.items q its_looper

    its_parts : (parts : Parts) × (before.parts ≡ Some parts) × ArePartsOf s st.hall before.number parts
    its_parts = looper_parts s st.hall is.hall before (is.loopers.1 q its_looper in_before).0

    its_parts' : (parts : Parts) × (after.parts ≡ Some parts) × ArePartsOf s st'.hall after.number parts
    its_parts' = looper_parts s st'.hall is'.hall after (is'.loopers.1 q its_looper in_after).0

    abbrev rest_of : Parts → LooperRest
    rest_of p = record { frames = p.frames; root = p.root; fired = p.fired.items; passed = p.passed; awaits = p.awaits }

    heard_on : PassHasHeard its_parts.0.frames its_parts'.0.frames
    heard_on =
        let more = (loopers.each q its_looper in_before).rest (rest_of its_parts.0) (ap rest_in its_parts.1) in
        let is_rest : more.0 ≡ rest_of its_parts'.0 = same_Some _ _ (sym more.1 ∙ ap rest_in its_parts'.1) in
        subst (λ (r : LooperRest). PassHasHeard its_parts.0.frames r.frames) is_rest more.2.frames

    -- what was heard goes on from what was heard before
    front : (made made' : List (ℕ × FrameEntry)) → OfItsPass (HasHeardAll made) before → OfItsPass (HasHeardAll made') after → IsPrefix made made'
    front made made' heard heard' =
        let was = (heard (rest_of its_parts.0) (ap rest_in its_parts.1)).1 in
        let now = (heard' (rest_of its_parts'.0) (ap rest_in its_parts'.1)).1 in
        subst (λ (l : List (ℕ × FrameEntry)). IsPrefix l made') was (subst (IsPrefix its_parts.0.frames.view.heard) now heard_on.more)

    -- the loopers and the controller recorded nothing
    others_idle : (made : List (ℕ × FrameEntry)) → OfItsPass (HasHeardAll made) before → (now : (whole : List (ℕ × FrameEntry)) × HavePassesHeard q whole st')
        → (k : ℕ) → s.threads ≤ k → dealt_to k now.0 ≡ dealt_to k made
    others_idle made heard now k le =
        let here = now.1.looper its_looper in_after in
        let was = looper_made s st is q few made its_looper its_parts.0 in_before heard its_parts.1 in
        let made_now = looper_made s st' is' q few now.0 its_looper its_parts'.0 in_after here its_parts'.1 in
        let idle = idle_made s st' is' q few now.0 now.1.controller in
        dite (ℕ_discrete k s.threads)
        (λ first. subst (λ (n : ℕ). dealt_to n now.0 ≡ dealt_to n made) (sym first) (made_now ∙ (heard_on.same.own ∙ sym was)))
        (λ behind. let all : s.threads + 1 ≤ k = omega (arith, le, behind) in idle k all ∙ sym (idle_front k made now.0 (front made now.0 heard here) (idle k all)))

  -- where the threads recorded nothing, all is as it was
  pub asks_nothing : AtEach (ThreadKeeps HaveHeard) st.threads.items st'.threads.items → (past : List Block) (last : ℕ) → AllAskedInTurn s past last st → AskInTurn s past last st'
  asks_nothing threads past last h = record {
    same = same';
    asked = λ sound q few.
        let was = h (back sound) q few in
        let now = same' q few in
        let heard = was.looper (its_looper q few) (in_before q few) in
        let is_same : now.0 ≡ was.made = same_made was.made now.0 (front q few was.made now.0 heard (now.1.looper (its_looper q few) (in_after q few))) (λ k. dite (dec_lt k s.threads)
        (λ lt. threads_idle q few was.made now was.threads k lt)
        (λ le. others_idle q few was.made heard now k (omega (arith, le)))) in
        record {
          made = now.0;
          threads = now.1.threads;
          looper = now.1.looper;
          asked = subst (λ (m : List (ℕ × FrameEntry)). HaveAsked last m (asked_so_far s.threads q past m)) (sym is_same) was.asked;
        };
  }
    where
      threads_idle : (q : ℕ) (few : q < s.loopers) (made : List (ℕ × FrameEntry)) (now : (whole : List (ℕ × FrameEntry)) × HavePassesHeard q whole st')
          → ((k : ℕ) (d : PostingThread) → k < length st.threads.items → HaveHeardAllAt q made (slice_index_or st.threads.items k d).kit.frames.items)
          → (k : ℕ) → k < s.threads → dealt_to k now.0 ≡ dealt_to k made
      threads_idle q few made now heard k lt =
          let count = is.threads.0 in
          let count' = is'.threads.0 in
          let near : k < length st.threads.items = omega (arith, lt, count) in
          let near' : k < length st'.threads.items = omega (arith, lt, count') in
          let t = some_of st.threads.items k near in
          let within = in_thread s st is q few k t near in
          let p = some_of (slice_index_or st.threads.items k t).kit.frames.items q within in
          thread_made s st' is' q few now.0 k t p near' (now.1.threads k t near')
          ∙ (((threads.each k t near).frames.each q p within).same.own ∙ sym (thread_made s st is q few made k t p near (heard k t near)))

  -- where the threads ran a block, what its lines ask for was asked in turn
  pub asks_in_block : (past : List Block) (b : Block) → HaveRunInLockstep s past st.threads.items → HaveRunInLockstep s (past ++ b ∷ []) st'.threads.items → AskInTurn s past (in_block b.time) st
      → AskInTurn s (past ++ b ∷ []) (in_block b.time) st'
  asks_in_block past b run run' h = record {
    same = same';
    asked = λ sound q few.
        let was = h.asked (back sound) q few in
        let now = same' q few in
        let made = was.made in
        let heard = was.looper (its_looper q few) (in_before q few) in
        let goes = front q few made now.0 heard (now.1.looper (its_looper q few) (in_after q few)) in
        let asked = block_asked s.threads q (in_block b.time) past made goes.0 was.asked b (omega arith)
        (λ k lt. asked_before q few made was.threads k lt)
        (λ k lt. ap (λ (l : List (ℕ × FrameEntry)). asks_in (dealt_to k l)) goes.1 ∙ asked_after q few now k lt)
        (λ k le. ap (λ (l : List (ℕ × FrameEntry)). dealt_to k l) goes.1 ∙ others_idle q few made heard now k le) in
        record {
          made = now.0;
          threads = now.1.threads;
          looper = now.1.looper;
          asked = subst (λ (m : List (ℕ × FrameEntry)). HaveAsked (in_block b.time) m (asked_so_far s.threads q (past ++ b ∷ []) m)) goes.1 asked;
        };
  }
    where
      asked_before : (q : ℕ) (few : q < s.loopers) (made : List (ℕ × FrameEntry))
          → ((k : ℕ) (d : PostingThread) → k < length st.threads.items → HaveHeardAllAt q made (slice_index_or st.threads.items k d).kit.frames.items)
          → (k : ℕ) → k < s.threads → asks_in (dealt_to k made) ≡ lines_ask q (lines_of k past)
      asked_before q few made heard k lt =
          let count = is.threads.0 in
          let near : k < length st.threads.items = omega (arith, lt, count) in
          let t = some_of st.threads.items k near in
          thread_asked s st is q few made past run k t near (heard k t near)

      asked_after : (q : ℕ) (few : q < s.loopers) (now : (whole : List (ℕ × FrameEntry)) × HavePassesHeard q whole st')
          → (k : ℕ) → k < s.threads → asks_in (dealt_to k now.0) ≡ lines_ask q (lines_of k (past ++ b ∷ []))
      asked_after q few now k lt =
          let count = is'.threads.0 in
          let near : k < length st'.threads.items = omega (arith, lt, count) in
          let t = some_of st'.threads.items k near in
          thread_asked s st' is' q few now.0 (past ++ b ∷ []) run' k t near (now.1.threads k t near)

-- ---- later

-- what was asked in turn up to a block or rounds was so up to later ones
pub turn_later : (s : Script) (past : List Block) (last later : ℕ) (st : Stage) → last ≤ later → AskInTurn s past last st → AskInTurn s past later st
turn_later s past last later st le h = record {
  same = h.same;
  asked = λ sound q few.
      let was = h.asked sound q few in
      record { made = was.made; threads = was.threads; looper = was.looper; asked = asked_later last later was.made (asked_so_far s.threads q past was.made) was.asked le };
}

-- a stage of which nothing was asked, at no earlier time
pub nothing_stays : (s : Script) (past : List Block) (st st' : Stage) → st.time ≤ st'.time → st'.time ≤ s.end → AskInTurn s past (in_round st.time) st' → AskUpToNow s past st'
nothing_stays s past st st' later early asked = record { within = early; turn = turn_later s past (in_round st.time) (in_round st'.time) st' (omega (arith, later)) asked }

-- before a time that lies ahead the stage's time is earlier
pub ahead_less : (time next : ℕ) (st : Stage) → next < time → LiesAhead time st → st.time < time
ahead_less time next st less (inl lt) = lt
ahead_less time next st less (inr (zero_, unseen)) = absurd (omega (arith, less, zero_))

-- rounds before a block
pub rounds_before : (s : Script) (past : List Block) (time : ℕ) (st : Stage) → (AreSound s st.controller → st.time < time) → AskUpToNow s past st → AskInTurn s past (in_block time) st
rounds_before s past time st early h = record {
  same = h.turn.same;
  asked = λ sound. (let lt = early sound in turn_later s past (in_round st.time) (in_block time) st (omega (arith, lt)) h.turn).asked sound;
}

-- a block at the stage's time
pub block_up_to_now : (s : Script) (past : List Block) (time : ℕ) (st : Stage) → st.time ≡ time → time ≤ s.end → AskInTurn s past (in_block time) st → AskUpToNow s past st
block_up_to_now s past time st same within h = record {
  within = omega (arith, same, within);
  turn = turn_later s past (in_block time) (in_round st.time) st (omega (arith, same)) h;
}

-- ---- the start

-- passes that have heard of no entry have heard the same, and nothing was asked
pub begins_in_turn : (s : Script) (st : Stage) → OfPasses AreUnheard st.threads.items → HaveHeardNothing st.loopers.items → IsUnusedKit st.controller.kit → AskInTurn s [] 0 st
begins_in_turn s st threads loopers unused = record {
  same = λ q few. (
    [],
    record {
      threads = λ k d lt p near. threads k d lt q p near;
      looper = λ d lt. loopers q d lt;
      controller = λ p near. unheard_all (slice_index_or st.controller.kit.frames.items q p) (unused.heard q p near) (unused.frames q p near) (unused.own q p near);
    },
  );
  asked = λ sound q few. record {
    made = [];
    threads = λ k d lt p near. threads k d lt q p near;
    looper = λ d lt. loopers q d lt;
    asked = nothing_asked s.threads q;
  };
}
