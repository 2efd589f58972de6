use Rattle.std.proofs.Common.{◌≡◌, ◌<◌, ◌∙◌, false, List, length, sym, subst, arith}
use Rattle.std.specs.Prelude.{slice_index_or}
use Rattle.std.proofs.lemmas.List.{with_items_is}
use Rattle.looper_run.specs.Round.{is_ended}
use Rattle.run_model.specs.Moments.{Mode}
use Rattle.run_model.specs.ByClock.{in_free_mode}
use Rattle.dash_hall.specs.Hearing.{AtEach}
use Rattle.dash_threads.specs.declared.thread.PostingThread.{PostingThread}
use Rattle.dash_threads.specs.Threads.{AreByClock}
use Rattle.dash_loopers.specs.declared.looper.StageLooper.{StageLooper}
use Rattle.dash_stage.specs.ByClock.{RunsByClock, HaveLooped, LoopSideBySide}
use Rattle.dash_stage.specs.BehindThreads.{CallsBehindThreads}
use Rattle.dash_stage.specs.Playing.{EachStandsBetweenLoops}
use Rattle.dash_stage.specs.Sharing.{OfThreads, OfLoopers}
use Rattle.dash_stage.specs.Stages.{AreThreads, AreLoopers, HaveRunBy, GoOn, OthersHaveEnded, LoopersGoOn}
use Rattle.dash_stage.proofs.ByClock.{threads_ran_all, threads_clocked, loopers_ran, loopers_clocked, loopers_played, begins_played, closing_heard, looped_first}
use Rattle.dash_stage.proofs.stage.Stage.run_by_clock.Goals as goal
use Rattle.dash_loopers.specs.Looped.{HasLooped}

pub run_side_by_side-quit-requires-clause-can : goal.run_side_by_side-quit-requires-clause-can
run_side_by_side-quit-requires-clause-can g c κs within =
    let begun = c.requires.begun in
    let stage = begun.stage in
    record {
      text = stage.text;
      some = begun.some;
      hall = (stage.hall, stage.controller.mode);
      threads = subst (AreThreads c.args.script.now c.args.self.now.hall) (sym c.as_mut_slice.ensures.value) stage.threads;
      loopers = subst (AreLoopers c.args.script.now c.args.self.now.hall) (sym c.as_mut_slice-2.ensures.value) stage.loopers;
      controller = stage.controller;
      none = begun.none;
    }

pub returns : goal.returns
returns g c =
    let m : Mode = in_free_mode (g.C.Clock.shows c.args.timer.now.clock.now) c.args.timer.now.start in
    let s = c.args.script.now in
    let st = c.args.self.now in
    let hall = st.hall in
    let begun = c.requires.begun in
    let ts : List PostingThread = c.run_side_by_side-quit.new.threads in
    let ls : List StageLooper = c.run_side_by_side-quit.new.loopers in
    let ran = subst (λ (xs : List PostingThread). AtEach (RunsByClock m s hall) xs ts) c.as_mut_slice.ensures.value c.run_side_by_side-quit.ensures.ran.beside.ran in
    let looped = subst (λ (xs : List StageLooper). AtEach (HasLooped m s hall) xs ls) c.as_mut_slice-2.ensures.value c.run_side_by_side-quit.ensures.ran.beside.loops in
    let wrote = with_items_is st.threads ts (omega (arith, ran.long, st.threads.ok.0)) in
    let wrote' = with_items_is st.loopers ls (omega (arith, looped.long, st.loopers.ok.0)) in
    let quit = c.run_side_by_side-quit.ensures.ends.quit c.if-not-quit.false in
    let going : GoOn ts = subst GoOn (c.as_slice.ensures.value ∙ wrote) (c.has_given_up.ensures c.if-has_given_up.false) in
    let on : LoopersGoOn ls = subst LoopersGoOn (c.as_slice-2.ensures.value ∙ wrote') (c.some_gave_up.ensures c.if-some_gave_up.false) in
    let run = threads_ran_all m s hall st.threads.items ts begun.stage.threads ran going begun.begun in
    let side = subst (λ (xs : List StageLooper). LoopSideBySide m s xs ls) c.as_mut_slice-2.ensures.value (c.run_side_by_side-quit.ensures.ran.looped c.if-not-quit.false) in
    let ended : OthersHaveEnded ls = subst OthersHaveEnded (c.as_slice-4.ensures.value ∙ wrote') (c.all_but_main_have_ended.ensures c.if-not-all_but_main_have_ended.false) in
    let going_on : (d : StageLooper) → is_ended (slice_index_or ls 0 d).last ≡ false =
    λ d. subst (λ (xs : List StageLooper). is_ended (slice_index_or xs 0 d).last ≡ false) (c.as_slice-3.ensures.value ∙ wrote') (c.main_has_ended.ensures d ∙ c.if-main_has_ended.false) in
    let first : HaveLooped m s ls = looped_first m s st.loopers.items ls begun.loopers looped.long side ended on going_on in
    let played : EachStandsBetweenLoops s ls = loopers_played m s hall st.loopers.items ls begun.stage.text begun.stage.loopers looped on (begins_played s st.loopers.items begun.loopers) in
    record {
      closing = closing_heard m s _ c.share_by_clock.new.self c.share_by_clock.ensures.stage c.share_by_clock.ensures.shares.shared c.share_by_clock.ensures.shares.kept begun.some
          begun.stage.hall (subst (AreLoopers s hall) (sym wrote') (loopers_ran m s hall st.loopers.items ls begun.stage.loopers looped))
          (record {
            clocked = record {
              threads = subst (OfThreads (AreByClock m)) (sym wrote) (threads_clocked m s hall ts run);
              loopers = subst (OfLoopers (AreByClock m)) (sym wrote') (loopers_clocked m s hall st.loopers.items ls looped on begun.clocked.loopers);
              controller = quit.clocked begun.clocked.controller;
            };
            run = subst (HaveRunBy m s s.blocks) (sym wrote) run;
            ended = subst OthersHaveEnded (sym wrote') ended;
            on = subst LoopersGoOn (sym wrote') on;
            looped = subst (HaveLooped m s) (sym wrote') first;
            played = subst (EachStandsBetweenLoops s) (sym wrote') played;
            behind = subst (λ (xs : List PostingThread). CallsBehindThreads s xs c.run_side_by_side-quit.new.controller) (sym wrote) (c.run_side_by_side-quit.ensures.ends.behind c.if-not-quit.false);
          }) quit.closing;
    }

pub main_has_ended-requires : goal.main_has_ended-requires
main_has_ended-requires g c =
    let m : Mode = in_free_mode (g.C.Clock.shows c.args.timer.now.clock.now) c.args.timer.now.start in
    let st = c.args.self.now in
    let ls : List StageLooper = c.run_side_by_side-quit.new.loopers in
    let looped = subst (λ (xs : List StageLooper). AtEach (HasLooped m c.args.script.now st.hall) xs ls) c.as_mut_slice-2.ensures.value c.run_side_by_side-quit.ensures.ran.beside.loops in
    let wrote = with_items_is st.loopers ls (omega (arith, looped.long, st.loopers.ok.0)) in
    let some = c.requires.begun.some in
    let count = c.requires.begun.stage.loopers.0 in
    let long = looped.long in
    let near : 0 < length ls = omega (arith, some, count, long) in
    record { some = subst (λ (xs : List StageLooper). 0 < length xs) (sym (c.as_slice-3.ensures.value ∙ wrote)) near }
