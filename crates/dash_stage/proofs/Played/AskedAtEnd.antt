-- What was asked of each choreographer up to the end of a run, as its looper's state and the threads' lines tell it.
use Rattle.std.proofs.Common.{◌≡◌, ◌<◌, ◌∙◌, ℕ, true, List, Option, length, sym, ap, subst, arith, slice_index_or}
use Rattle.std.specs.Option.{IsSomeAnd}
use Rattle.frame_phases.specs.declared.entry.FrameEntry.{FrameEntry}
use Rattle.choreographer.specs.Known.{Pass}
use Rattle.dash_script.specs.declared.script.Script.{Script}
use Rattle.run_model.specs.Loopers.{LooperState}
use Rattle.run_model.specs.FrameRecords.{asks_in, in_round}
use Rattle.dash_hall.specs.Hearing.{HaveHeardAllAt}
use Rattle.dash_hall.specs.Hosts.{pass_asks}
use Rattle.dash_hall.proofs.FramePosts.{told_whole}
use Rattle.dash_loopers.specs.declared.player.Parts.{Parts}
use Rattle.dash_loopers.specs.declared.looper.StageLooper.{StageLooper}
use Rattle.dash_loopers.specs.Loopers.{LooperRest, rest_in}
use Rattle.dash_loopers.specs.Played.{StandsBy, StandsBetweenRounds}
use Rattle.dash_stage.specs.declared.stage.Stage.{Stage}
use Rattle.dash_stage.specs.Asking.{AskUpToNow}
use Rattle.dash_stage.specs.Stages.{IsStage, HaveRunInLockstep}
use Rattle.dash_stage.specs.Timeliness.{AreSound}
use Rattle.dash_stage.proofs.Ends.HallEnds.{some_of}
use Rattle.dash_stage.proofs.Played.Asked.{HasAskedInTurn}
use Rattle.dash_stage.proofs.Played.InTurn.{in_controller, looper_made, idle_made, thread_asked}
use Rattle.dash_loopers.proofs.LooperShares.{looper_parts}

module _ (s : Script) (st : Stage) (is : IsStage s st) (run : HaveRunInLockstep s s.blocks st.threads.items) (sound : AreSound s st.controller) (now : AskUpToNow s s.blocks st) where
  pub asked_at_end : (k : ℕ) (l : StageLooper) → k < length st.loopers.items → (a : LooperState) → StandsBetweenRounds s (slice_index_or st.loopers.items k l) a → (p : Pass)
      → HasAskedInTurn s k (slice_index_or st.controller.kit.frames.items k p) a
  asked_at_end k l lt a come p =
      let count = is.loopers.0 in
      let few : k < s.loopers = omega (arith, lt, count) in
      let x = slice_index_or st.loopers.items k l in
      let parts = looper_parts s st.hall is.hall x (is.loopers.1 k l lt).0 in
      let was = now.turn.asked sound k few in
      let all = now.turn.same k few in
      let there = ap rest_in parts.1 in
      let rest : LooperRest = record { frames = parts.0.frames; root = parts.0.root; fired = parts.0.fired.items; passed = parts.0.passed; awaits = parts.0.awaits } in
      let same : all.0 ≡ was.made = sym (all.1.looper l lt rest there).1 ∙ (was.looper l lt rest there).1 in
      let made = looper_made s st is k few was.made l parts.0 lt (was.looper l lt) parts.1 in
      let stands = subst (λ (o : Option Parts). IsSomeAnd o (λ z. StandsBy true s x.number x.sender x.looper.held.poster.view.seen x.looper.held.journal.acts z a)) parts.1 come.0 in
      record {
        made = was.made;
        heard = (all.1.controller p (in_controller s st is k few)).1 ∙ same;
        until = in_round st.time;
        asked = was.asked;
        threads = λ n below.
            let threads = is.threads.0 in
            let near : n < length st.threads.items = omega (arith, below, threads) in
            let t = some_of st.threads.items n near in
            thread_asked s st is k few was.made s.blocks run n t near (was.threads n t near);
        looper = ap asks_in made ∙ (sym (told_whole (pass_asks parts.0.frames)) ∙ (stands.played.shown.asked ∙ told_whole a.asked));
        idle = idle_made s st is k few was.made (subst (λ (m : List (ℕ × FrameEntry)). HaveHeardAllAt k m st.controller.kit.frames.items) same all.1.controller);
      }
