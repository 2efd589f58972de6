use Rattle.std.proofs.Common.{sym, ◌∙◌, subst}
use Rattle.std.specs.Prelude.{OnOk}
use Rattle.dash_script.specs.declared.script.Command.{Command}
use Rattle.dash_hall.specs.Kits.{badge_of, badge_for}
use Rattle.dash_hall.proofs.Badges.{alike_length, queue_count}
use Rattle.dash_threads.proofs.ThreadRuns.{on_ok, works_still, made_takes, idle_takes, watch_takes, event_takes, hands_in, its_mode}
use Rattle.dash_threads.specs.Threads.{TakesAt}
use Rattle.dash_threads.proofs.thread.PostingThread.run.Goals as goal

pub returns-in_default : goal.returns-in_default
returns-in_default g c =
    let t = c.args.self.now in
    let s = c.args.script.now in
    let long = alike_length badge_of (badge_for t.number) t.kit.posters.items c.args.hall.now.queues.items c.requires.at_work.thread.posters ∙ queue_count c.args.hall.now.lockstep s c.args.hall.now.pool c.args.hall.now.queues.items c.requires.at_work.hall.queues in
    record {
      works = c.make_call.ensures.works;
      made = on_ok c.make_call.result _ _ (λ made. λ m time mode allowed. made_takes m s time c.args.timed.now c.args.timed.command t c.make_call.new.self allowed (its_mode m s c.args.hall.now t c.requires.at_work.hall c.requires.at_work.thread mode) c.requires.at_work.text long c.make_call.ensures.works.number c.in_default.not-Frame c.in_default.not-Unframe made) c.make_call.ensures.made;
    }

pub returns-in-Idle : goal.returns-in-Idle
returns-in-Idle g c =
    record { works = works_still _ _ _ c.requires.at_work.thread; made = hands_in _ _ c.args.script.now c.args.timed.now c.args.timed.command c.args.self.now (λ m time. idle_takes m c.args.script.now time c.args.timed.now c.args.timed.command c.args.self.now _ _ _ c.in-Idle.is) }

pub returns-in-Watch : goal.returns-in-Watch
returns-in-Watch g c =
    record { works = works_still _ _ _ c.requires.at_work.thread; made = hands_in _ _ c.args.script.now c.args.timed.now c.args.timed.command c.args.self.now (λ m time. watch_takes m c.args.script.now time c.args.timed.now c.args.timed.command c.args.self.now _ _ _ _ c.in-Watch.is) }

pub returns-in-Event : goal.returns-in-Event
returns-in-Event g c =
    record { works = works_still _ _ _ c.requires.at_work.thread; made = hands_in _ _ c.args.script.now c.args.timed.now c.args.timed.command c.args.self.now (λ m time. event_takes m c.args.script.now time c.args.timed.now c.args.timed.command c.args.self.now _ _ _ c.in-Event.is) }

pub returns-in-Frame : goal.returns-in-Frame
returns-in-Frame g c =
    record {
      works = c.post_frame.ensures.works;
      made = subst (λ (z : Command). OnOk c.post_frame.result (TakesAt c.args.hall.now.lockstep c.args.script.now c.args.timed.now z c.args.self.now c.post_frame.new.self)) (sym c.in-Frame.is) c.post_frame.ensures.made;
    }

pub returns-in-Unframe : goal.returns-in-Unframe
returns-in-Unframe g c =
    record {
      works = c.remove_frame.ensures.works;
      made = subst (λ (z : Command). OnOk c.remove_frame.result (TakesAt c.args.hall.now.lockstep c.args.script.now c.args.timed.now z c.args.self.now c.remove_frame.new.self)) (sym c.in-Unframe.is) (on_ok c.remove_frame.result _ _ (λ made. made c.args.timed.now) c.remove_frame.ensures.made);
    }
