use Rattle.std.proofs.Common.{◌≡◌, ◌+◌, ◌∙◌, Bool, refl, sym, ap, subst, length, arith}
use Rattle.std.specs.List.{AllByRecursion}
use Rattle.loop_model.specs.declared.journal.Journal.{Journal}
use Rattle.run_model.specs.Moments.{Mode, in_lockstep}
use Rattle.run_model.specs.Run.{IsAsPlanned, IsControlled}
use Rattle.run_model.specs.Planned.{controller}
use Rattle.dash_hall.specs.Hearing.{seen_by, HaveSeenAll}
use Rattle.dash_threads.specs.Threads.{AreByClock}
use Rattle.dash_stage.specs.Controllers.{HasClosedIn}
use Rattle.dash_stage.specs.Records.{AreQueueRecords}
use Rattle.dash_stage.specs.RunEnds.{HasEndedBy, HasEndedInLockstep}
use Rattle.dash_stage.specs.Runs.{HaveRunAll}
use Rattle.dash_stage.specs.Sharing.{HaveSeenTheSame, OfKits}
use Rattle.dash_stage.specs.Stages.{HaveRunBy}
use Rattle.dash_stage.proofs.BlockTimes.{playable}
use Rattle.dash_stage.proofs.Sharing.{all_kits}
use Rattle.dash_stage.proofs.Ends.Carried.{run_kept, planned_records, numbered_count, called_by_clock, all_sealed}
use Rattle.dash_stage.proofs.Played.AskedAtEnd.{asked_at_end}
use Rattle.dash_stage.proofs.Played.PlayedRecords.{loopers_of_records}
use Rattle.dash_stage.proofs.Played.Standing.{StandsAt, stands_in_step, stands_by_clock}
use Rattle.dash_stage.proofs.Played.LoopersGive.{given_kept}
use Rattle.dash_stage.proofs.Played.KitsTold.{told_kept}
use Rattle.dash_stage.proofs.Played.KitsOver.{over_kept, last_kit}
use Rattle.dash_stage.proofs.Controller.Controls.{controls_of_records}
use Rattle.dash_stage.proofs.Stages.Timely.{kit_more, first_of_records, reached_of_records, timely_of_records, before_quit_of_records, halted_of_records, ended_in_step, all_sound}
use Rattle.dash_stage.proofs.ByClock.{quits_behind}
use Rattle.dash_stage.proofs.Moves.{moves_of_records}
use Rattle.dash_stage.proofs.Ends.HallFrames.{all_frames_sealed}
use Rattle.dash_stage.proofs.kept.kept.Goals as goal

pub records-requires : goal.records-requires
records-requires c =
    let s = c.args.script.now in
    let st = c.args.stage in
    let is = c.requires.stage in
    let kits = c.looper_kits.new.kits.items in
    let kits' = c.push.new.self.items in
    let grown = c.in_ok-push.ensures.items in
    record {
      fits = (playable s is.text).few;
      is_hall = is.hall;
      kits = all_kits s st.hall kits kits' st.controller c.in_ok-journals.ensures.back.kits is.controller grown;
      sealed = all_sealed kits kits' st.controller grown is.controller.sealed;
      sealed_frames = all_frames_sealed kits kits' st.controller grown is.controller.sealed_frames;
      home = is.pass;
    }

pub returns : goal.returns
returns c =
    let s = c.args.script.now in
    let st = c.args.stage in
    let hall = st.hall in
    let kits = c.looper_kits.new.kits.items in
    let kits' = c.push.new.self.items in
    let grown = c.in_ok-push.ensures.items in
    let mine = st.controller.kit in
    let told = c.in_ok-kits.ensures.give in
    let left = c.in_ok-journals.ensures.back in
    let are_kept = c.in_ok-queues.ensures in
    let qs = c.in_ok-queues.queues.items in
    let fs = c.in_ok-queues.frames.items in
    let js = c.in_ok-journals.journals.items in
    let ls = st.loopers.items in
    let can_play = playable s c.requires.stage.text in
    let count = left.kits.0 in
    let is_hall = c.requires.stage.hall in
    let whole = seen_by mine.posters.items in
    let are = all_kits s hall kits kits' st.controller left.kits c.requires.stage.controller grown in
    let held = last_kit kits kits' mine (controller s) count grown in
    let many : length js ≡ s.loopers = numbered_count (λ (z : Journal). z.looper) s.loopers js left.journals in
    let place = count ∙ ap (λ n. s.threads + n) (sym many) in
    let given = given_kept s ls js kits kits' mine place grown left.left in
    let told_all = told_kept s js kits kits' mine place grown (left.told c.requires.on) in
    -- the moments that the kits tell are the mode's
    let queues : (m : Mode) → HasEndedBy m s st → AreQueueRecords m s qs = λ m out.
    are_kept.queues.by m (sym out.stage.controller.mode)
    (called_by_clock m s hall kits' is_hall are (kit_more (AreByClock m) kits kits' mine grown out.clocked.controller (left.clocked m out.clocked.loopers (told.clocked m out.clocked.threads)))) in
    let seen : HaveSeenTheSame st → OfKits (HaveSeenAll whole) kits' = λ same.
    kit_more (HaveSeenAll whole) kits kits' mine grown refl (left.seen whole same.loopers (told.seen whole same.threads)) in
    let run : (m : Mode) → HaveRunBy m s s.blocks st.threads.items → HaveRunAll m s kits' = λ m ran.
    run_kept s hall m kits kits' mine (omega (arith, count)) grown (left.run m (told.run m ran)) in
    let planned : (m : Mode) → HaveRunBy m s s.blocks st.threads.items → AllByRecursion (IsAsPlanned m s) qs = λ m ran.
    planned_records s hall is_hall kits' are m (run m ran) qs are_kept.queues.loopers are_kept.queues.all in
    let controls : (m : Mode) → HasEndedBy m s st → HasClosedIn m.lockstep s st.controller → AllByRecursion (IsControlled s) qs = λ m out closed.
    controls_of_records s hall kits' qs is_hall are st.controller held m closed (over_kept s kits kits' mine count grown (left.over c.requires.ended)) (queues m out) are_kept.queues.all in
    let by : HasEndedInLockstep s st → HasEndedBy in_lockstep s st = ended_in_step s st in
    record {
      queues = queues;
      planned = planned;
      controls = controls;
      halted = λ m out halted.
          halted_of_records m s hall kits' qs is_hall are st.controller held (queues m out) are_kept.queues.all (seen out.same) can_play.loopers halted;
      before_quit = λ out.
          before_quit_of_records in_lockstep s hall kits' qs is_hall are st.controller held (queues in_lockstep (by out)) are_kept.queues.all (seen out.at.timely.same)
          (λ q d lt. (out.at.timely.timely (all_sound s hall kits' qs is_hall are st.controller held (queues in_lockstep (by out)) are_kept.queues.all (seen out.at.timely.same)) q d lt).before_quit);
      before_quit_by_clock = λ m out.
          before_quit_of_records m s hall kits' qs is_hall are st.controller held (queues m out.out) are_kept.queues.all (seen out.out.same) (quits_behind s st out.out.stage out.out.same out.ran.behind);
      timely = λ out.
          timely_of_records s hall kits' qs is_hall are st.controller held (queues in_lockstep (by out)) are_kept.queues.all (seen out.at.timely.same) out.at.timely.timely;
      loopers = λ out.
          loopers_of_records in_lockstep s hall kits' qs is_hall are st.controller held (queues in_lockstep (by out)) are_kept.queues.all (seen out.at.timely.same) can_play.few
          js fs ls left.journals are_kept.frames.records_are are_kept.frames.own told_all given c.requires.on c.requires.stage.loopers.0
          (stands_in_step s st.controller js kits' ls given c.requires.stage.loopers.0 many (λ k d lt. (c.requires.stage.loopers.1 k d lt).1)
          (out.at.step.played (all_sound s hall kits' qs is_hall are st.controller held (queues in_lockstep (by out)) are_kept.queues.all (seen out.at.timely.same)))
          (asked_at_end s st out.stage out.at.run (all_sound s hall kits' qs is_hall are st.controller held (queues in_lockstep (by out)) are_kept.queues.all (seen out.at.timely.same)) out.at.asks))
          (planned in_lockstep out.at.run) (controls in_lockstep (by out) out.closed) out.stage.controller (run in_lockstep out.at.run) are_kept.frames.theirs;
      by_clock = λ m out.
          loopers_of_records m s hall kits' qs is_hall are st.controller held (queues m out.out) are_kept.queues.all (seen out.out.same) can_play.few
          js fs ls left.journals are_kept.frames.records_are are_kept.frames.own told_all given c.requires.on c.requires.stage.loopers.0
          (λ k lt. subst (λ (b : Bool). StandsAt b s st.controller js kits' k) (sym out.free) (stands_by_clock s st.controller js kits' ls given c.requires.stage.loopers.0 many out.ran.played k lt))
          (planned m out.ran.run) (controls m out.out out.closed) out.out.stage.controller (run m out.ran.run) are_kept.frames.theirs;
      journals = left.journals;
      frames = are_kept.frames.records_are;
      run = are_kept.frames.records_are.lawful;
      first = λ out.
          first_of_records s hall kits' qs is_hall are st.controller held (queues in_lockstep (by out)) are_kept.queues.all (seen out.at.timely.same) out.at.step.first;
      reached = λ out.
          reached_of_records s hall kits' qs is_hall are st.controller held (queues in_lockstep (by out)) are_kept.queues.all (seen out.at.timely.same) can_play.loopers out.at.timely.timely;
      moves = λ out.
          moves_of_records s hall kits' qs is_hall are st.controller held (queues in_lockstep (by out)) are_kept.queues.all (seen out.at.timely.same) out.at.moves;
    }
