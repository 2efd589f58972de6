use Rattle.std.proofs.Common.{◌∙◌, List, sym, subst, arith}
use Rattle.std.proofs.lemmas.List.{with_items_is}
use Rattle.run_model.specs.Moments.{Mode}
use Rattle.run_model.specs.ByClock.{in_free_mode}
use Rattle.dash_hall.specs.Hearing.{AtEach}
use Rattle.dash_threads.specs.Threads.{AreByClock}
use Rattle.dash_loopers.specs.declared.looper.StageLooper.{StageLooper}
use Rattle.dash_stage.specs.ByClock.{HaveLooped}
use Rattle.dash_stage.specs.Playing.{EachStandsBetweenLoops}
use Rattle.dash_stage.specs.Sharing.{OfLoopers}
use Rattle.dash_stage.specs.Stages.{AreLoopers, OthersHaveEnded, LoopersGoOn}
use Rattle.dash_stage.proofs.ByClock.{loopers_ran, loopers_clocked, loopers_played, closing_heard, looped_on, all_grew}
use Rattle.dash_stage.proofs.stage.Stage.drain.Goals as goal
use Rattle.dash_loopers.specs.Looped.{HasLooped}

pub returns : goal.returns
returns g c =
    let m : Mode = in_free_mode (g.C.Clock.shows c.args.timer.now.clock.now) c.args.timer.now.start in
    let s = c.args.script.now in
    let st = c.args.self.now in
    let hall = st.hall in
    let was = c.requires.closing in
    let ls : List StageLooper = c.drain_first.new.loopers in
    let looped = subst (λ (xs : List StageLooper). AtEach (HasLooped m s hall) xs ls) c.as_mut_slice.ensures.value c.drain_first.ensures.loopers in
    let ended = subst (λ (xs : List StageLooper). OthersHaveEnded xs → OthersHaveEnded ls) c.as_mut_slice.ensures.value c.drain_first.ensures.others was.ran.ended in
    let wrote = with_items_is st.loopers ls (omega (arith, looped.long, st.loopers.ok.0)) in
    let on : LoopersGoOn ls = subst LoopersGoOn (c.as_slice.ensures.value ∙ wrote) (c.some_gave_up.ensures c.if-some_gave_up.false) in
    let played : EachStandsBetweenLoops s ls = loopers_played m s hall st.loopers.items ls was.stage.text was.stage.loopers looped on was.ran.played in
    record {
      closing = closing_heard m s _ c.share_by_clock.new.self c.share_by_clock.ensures.stage c.share_by_clock.ensures.shares.shared c.share_by_clock.ensures.shares.kept was.some
          was.stage.hall (subst (AreLoopers s hall) (sym wrote) (loopers_ran m s hall st.loopers.items ls was.stage.loopers looped))
          (record {
            clocked = record {
              threads = was.ran.clocked.threads;
              loopers = subst (OfLoopers (AreByClock m)) (sym wrote) (loopers_clocked m s hall st.loopers.items ls looped on was.ran.clocked.loopers);
              controller = was.ran.clocked.controller;
            };
            run = was.ran.run;
            ended = subst OthersHaveEnded (sym wrote) ended;
            on = subst LoopersGoOn (sym wrote) on;
            looped = subst (HaveLooped m s) (sym wrote) (looped_on m s st.loopers.items ls was.ran.looped (all_grew m s hall st.loopers.items ls looped on));
            played = subst (EachStandsBetweenLoops s) (sym wrote) played;
            behind = was.ran.behind;
          }) was.closing;
    }
