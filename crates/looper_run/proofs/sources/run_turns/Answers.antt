use Rattle.std.proofs.Common.{◌∙◌, List, sym, subst}
use Rattle.loop_model.specs.declared.journal.Act.{Act}
use Rattle.looper_run.specs.Acts.{IsIdleAct, GrowsBy}
use Rattle.looper_run.proofs.Idling.{grows_idle, carries_idle, carries_then, carries_still}
use Rattle.looper_run.proofs.sources.run_turns.Goals as goal

pub returns-in_default : goal.returns-in_default
returns-in_default g c =
    let D = g.D.Dispatcher in
    let here = c.loop-turn.invariant in
    record {
      tells = record {
        looper = here.looper;
        grows = here.grows;
        carries = carries_then D.Serves D.origin D.nudges D.asked D.Awaits D.Meets c.args.d.now c.loop-turn.d c.idle.new.self c.args.journal.now.acts c.loop-turn.journal.acts here.carries c.idle.ensures.carries;
      };
    }

pub returns-in_err-tell : goal.returns-in_err-tell
returns-in_err-tell g c =
    let D = g.D.Dispatcher in
    let here = c.loop-turn.invariant in
    let same = c.in_err-tell.ensures.err in
    record {
      tells = record {
        looper = c.tell.ensures.looper ∙ here.looper;
        grows = subst (λ (acts : List Act). GrowsBy IsIdleAct c.args.journal.now.acts acts) (sym same) here.grows;
        carries = carries_still D.Serves D.origin D.nudges D.asked D.Awaits D.Meets c.args.d.now c.loop-turn.d c.idle.new.self c.args.journal.now.acts c.loop-turn.journal.acts c.tell.new.journal.acts here.carries c.idle.ensures.carries same;
      };
    }

pub loop-turn-preserved : goal.loop-turn-preserved
loop-turn-preserved g c =
    let D = g.D.Dispatcher in
    let here = c.loop-turn.invariant in
    let told = c.in_ok-tell.ensures.ok.0 in
    record {
      looper = c.tell.ensures.looper ∙ here.looper;
      grows = grows_idle c.args.journal.now.acts c.loop-turn.journal.acts c.tell.new.journal.acts _ _ here.grows told;
      carries = carries_idle D.Serves D.origin D.nudges D.asked D.Awaits D.Meets c.args.d.now c.loop-turn.d c.idle.new.self c.args.journal.now.acts c.loop-turn.journal.acts c.tell.new.journal.acts _ _
          (λ s es x acts. g.met.D.Dispatcher.quiet c.idle.new.self s es x acts) here.carries c.idle.ensures.carries told;
    }
