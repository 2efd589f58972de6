-- What loopers ask of their choreographers in a round stands in turn behind what was asked so far.
use Rattle.std.proofs.Common.{◌≡◌, ◌<◌, ◌≤◌, ◌+◌, ℕ, List, [], ◌++◌, Some, length, sym, ap, ◌∙◌, subst, arith, slice_index_or, append-nil}
use Rattle.std.specs.List.{AllByRecursion}
use mathlib.Core.List.{IsPrefix}
use mathlib.Core.Logic.{dite}
use native.Mathlib.Decide.{ℕ_discrete}
use Rattle.frame_phases.specs.declared.entry.FrameEntry.{FrameEntry}
use Rattle.frame_phases.specs.Parting.{dealt_to}
use Rattle.dash_script.specs.declared.script.Block.{Block}
use Rattle.dash_script.specs.declared.script.Script.{Script}
use Rattle.dash_script.specs.Reading.{HasText}
use Rattle.run_model.specs.FrameRecords.{FrameAsk, asks_in, in_round, asked_for}
use Rattle.run_model.specs.AskedSoFar.{HaveAsked, asked_so_far}
use Rattle.run_model.proofs.AskedInTurn.{round_asked}
use Rattle.dash_hall.specs.Hearing.{AtEach, HaveHeard, HasHeardAll, HaveHeardAllAt, PassesHaveHeard}
use Rattle.dash_threads.specs.declared.thread.PostingThread.{PostingThread}
use Rattle.dash_threads.specs.Threads.{ThreadKeeps}
use Rattle.dash_loopers.specs.declared.player.Parts.{Parts}
use Rattle.dash_loopers.specs.declared.looper.StageLooper.{StageLooper}
use Rattle.dash_loopers.specs.Loopers.{ArePartsOf, rest_in, OfItsPass}
use Rattle.dash_loopers.proofs.LooperAsks.{AskAt, asked_for_time}
use Rattle.dash_stage.specs.declared.stage.Stage.{Stage}
use Rattle.dash_stage.specs.Sharing.{HavePassesHeard, HaveHeardTheSame}
use Rattle.dash_stage.specs.Stages.{IsStage}
use Rattle.dash_stage.specs.Timeliness.{AreSound}
use Rattle.dash_stage.specs.Asking.{IsAskedInTurn, AskInTurn, AskUpToNow}
use Rattle.dash_stage.proofs.BlockTimes.{ends_early}
use Rattle.dash_stage.proofs.Ends.HallEnds.{some_of}
use Rattle.dash_stage.proofs.Played.InTurn.{idle_front, in_thread, in_controller, thread_made, looper_made, idle_made}
use Rattle.dash_loopers.proofs.LooperShares.{looper_parts}

module _ (s : Script) (text : HasText s) (st st' : Stage) (is : IsStage s st) (is' : IsStage s st') (clock_is : st'.time ≡ st.time) (same' : HaveHeardTheSame s st')
    (back : AreSound s st'.controller → AreSound s st.controller) (threads : AtEach (ThreadKeeps HaveHeard) st.threads.items st'.threads.items)
    (controller : PassesHaveHeard st.controller.kit.frames.items st'.controller.kit.frames.items)
    (asks : AreSound s st'.controller → (k : ℕ) (l : StageLooper) → k < length st'.loopers.items → (p p' : Parts) → (slice_index_or st.loopers.items k l).parts ≡ Some p
    → (slice_index_or st'.loopers.items k l).parts ≡ Some p' → AskAt st.time p p') where
  module _ (q : ℕ) (few : q < s.loopers) where
    in_before : q < length st.loopers.items
    in_before = let count = is.loopers.0 in omega (arith, few, count)

    in_after : q < length st'.loopers.items
    in_after = let count = is'.loopers.0 in omega (arith, few, count)

    its_looper : StageLooper
    its_looper = some_of st.loopers.items q in_before

    abbrev before : StageLooper
    before = slice_index_or st.loopers.items q its_looper

    abbrev after : StageLooper
    after = slice_index_or st'.loopers.items q its_looper

    its_parts : (parts : Parts) × (before.parts ≡ Some parts) × ArePartsOf s st.hall before.number parts
    its_parts = looper_parts s st.hall is.hall before (is.loopers.1 q its_looper in_before).0

    its_parts' : (parts : Parts) × (after.parts ≡ Some parts) × ArePartsOf s st'.hall after.number parts
    its_parts' = looper_parts s st'.hall is'.hall after (is'.loopers.1 q its_looper in_after).0

    -- two lists that the looper's pass has heard are one
    one_heard : (made whole : List (ℕ × FrameEntry)) → OfItsPass (HasHeardAll made) before → OfItsPass (HasHeardAll whole) before → whole ≡ made
    one_heard made whole heard all =
        let p = its_parts.0 in
        let there = ap rest_in its_parts.1 in
        sym (all (record { frames = p.frames; root = p.root; fired = p.fired.items; passed = p.passed; awaits = p.awaits }) there).1
        ∙ (heard (record { frames = p.frames; root = p.root; fired = p.fired.items; passed = p.passed; awaits = p.awaits }) there).1

    -- what was heard goes on from what was heard before, as the controller's pass tells
    front : (made : List (ℕ × FrameEntry)) → OfItsPass (HasHeardAll made) before → (was : (whole : List (ℕ × FrameEntry)) × HavePassesHeard q whole st)
        → (now : (whole : List (ℕ × FrameEntry)) × HavePassesHeard q whole st') → IsPrefix made now.0
    front made heard was now =
        let within = in_controller s st is q few in
        let within' = in_controller s st' is' q few in
        let p = some_of st.controller.kit.frames.items q within in
        subst (λ (l : List (ℕ × FrameEntry)). IsPrefix l now.0) ((was.1.controller p within).1 ∙ one_heard made was.0 heard (was.1.looper its_looper in_before))
        (subst (IsPrefix (slice_index_or st.controller.kit.frames.items q p).view.heard) (now.1.controller p within').1 (controller.each q p within).more)

    -- the threads recorded nothing
    threads_idle : (made : List (ℕ × FrameEntry)) → ((k : ℕ) (d : PostingThread) → k < length st.threads.items → HaveHeardAllAt q made (slice_index_or st.threads.items k d).kit.frames.items) → (now : (whole : List (ℕ × FrameEntry)) × HavePassesHeard q whole st')
        → (k : ℕ) → k < s.threads → dealt_to k now.0 ≡ dealt_to k made
    threads_idle made heard now k lt =
        let count = is.threads.0 in
        let count' = is'.threads.0 in
        let near : k < length st.threads.items = omega (arith, lt, count) in
        let near' : k < length st'.threads.items = omega (arith, lt, count') in
        let t = some_of st.threads.items k near in
        let within = in_thread s st is q few k t near in
        let p = some_of (slice_index_or st.threads.items k t).kit.frames.items q within in
        thread_made s st' is' q few now.0 k t p near' (now.1.threads k t near')
        ∙ (((threads.each k t near).frames.each q p within).same.own ∙ sym (thread_made s st is q few made k t p near (heard k t near)))

    -- what the others asked for was for the time
    others_ask : AreSound s st'.controller → st.time ≤ s.end → (made : List (ℕ × FrameEntry)) → OfItsPass (HasHeardAll made) before → (now : (whole : List (ℕ × FrameEntry)) × HavePassesHeard q whole st')
        → IsPrefix made now.0 → (k : ℕ) → s.threads ≤ k
        → (more : List FrameAsk) × (asks_in (dealt_to k now.0) ≡ asks_in (dealt_to k made) ++ more) × AllByRecursion (λ (a : FrameAsk). asked_for a ≡ st.time) more
    others_ask sound within made heard now goes k le =
        let here = now.1.looper its_looper in_after in
        let was = looper_made s st is q few made its_looper its_parts.0 in_before heard its_parts.1 in
        let is_now = looper_made s st' is' q few now.0 its_looper its_parts'.0 in_after here its_parts'.1 in
        let idle = idle_made s st' is' q few now.0 now.1.controller in
        let x = asks sound q its_looper in_after its_parts.0 its_parts'.0 its_parts.1 its_parts'.1 in
        let limit = ends_early s text in
        let at = asked_for_time st.time (omega (arith, within, limit)) its_parts.0 its_parts'.0 x in
        dite (ℕ_discrete k s.threads)
        (λ first. subst (λ (n : ℕ). Asked n) (sym first) (x.asks, ap asks_in is_now ∙ (x.asked ∙ ap (λ (es : List FrameEntry). asks_in es ++ x.asks) (sym was)), at))
        (λ behind.
        let all : s.threads + 1 ≤ k = omega (arith, le, behind) in
        ([], ap asks_in (idle k all ∙ sym (idle_front k made now.0 goes (idle k all))) ∙ sym (append-nil (asks_in (dealt_to k made))), tt))
      where
        Asked : ℕ → Type 0
        Asked n = (more : List FrameAsk) × (asks_in (dealt_to n now.0) ≡ asks_in (dealt_to n made) ++ more) × AllByRecursion (λ (a : FrameAsk). asked_for a ≡ st.time) more

  -- so what was asked is in turn up to these rounds
  pub asks_in_rounds : (past : List Block) → AskUpToNow s past st → AskUpToNow s past st'
  asks_in_rounds past h = record {
    within = subst (λ (t : ℕ). t ≤ s.end) (sym clock_is) h.within;
    turn = subst (λ (t : ℕ). AskInTurn s past (in_round t) st') (sym clock_is) (record { same = same'; asked = asked });
  }
    where
      asked : AreSound s st'.controller → (q : ℕ) → q < s.loopers → IsAskedInTurn s past (in_round st.time) q st'
      asked sound q few =
          let was = h.turn.asked (back sound) q few in
          let now = same' q few in
          let made = was.made in
          let heard = was.looper (its_looper q few) (in_before q few) in
          let goes = front q few made heard (h.turn.same q few) now in
          let more = round_asked s.threads q (in_round st.time) past made goes.0 was.asked st.time (omega arith)
          (λ k lt. ap (λ (l : List (ℕ × FrameEntry)). dealt_to k l) goes.1 ∙ threads_idle q few made was.threads now k lt)
          (λ k le. let x = others_ask q few sound h.within made heard now goes k le in (x.0, ap (λ (l : List (ℕ × FrameEntry)). asks_in (dealt_to k l)) goes.1 ∙ x.1, x.2)) in
          record {
            made = now.0;
            threads = now.1.threads;
            looper = now.1.looper;
            asked = subst (λ (m : List (ℕ × FrameEntry)). HaveAsked (in_round st.time) m (asked_so_far s.threads q past m)) goes.1 more;
          }
