use Rattle.std.proofs.Common.{rules, ◌∙◌}
use Rattle.loop_model.specs.declared.journal.Act.{Act}
use Rattle.loop_model.specs.declared.journal.Act.TheVariants.{Event}
use Rattle.looper_run.specs.Asked.{any_heard}
use Rattle.looper_run.specs.Carried.{unasked}
use Rattle.looper_run.proofs.Asking.{tells_more, tells_as}
use Rattle.looper_run.proofs.Idling.{carries_one, carries_then, carries_still}
use Rattle.looper_run.proofs.sources.take_events.Goals as goal

pub loop-preserved : goal.loop-preserved
loop-preserved g c =
    let D = g.D.Dispatcher in
    let told = c.in_ok-tell-in-Some-Call.ensures.ok.0 in
    let here = c.loop.invariant in
    let act : Act = Event c.in-Some-Call.fd c.in-Some-Call.events c.in-Some-listen.mask in
    record {
      looper = c.tell.ensures.looper ∙ here.looper;
      grows = tells_more (D.asked c.args.d.now) (D.asked c.loop.d) (D.asked c.listen.new.self) (record { fd = c.in-Some-Call.fd; events = c.in-Some-Call.events; listener = c.in-Some-Call.listener; mask = c.in-Some-listen.mask }) c.args.journal.now.acts c.loop.journal.acts c.tell.new.journal.acts here.grows c.in-Some-listen.ensures.asked told c.in-Some-listen.ensures.mask;
      carries = carries_one D.Serves D.origin D.nudges unasked D.Awaits D.Meets c.args.d.now c.loop.d c.listen.new.self c.args.journal.now.acts c.loop.journal.acts c.tell.new.journal.acts act tt
          (λ s es. g.met.D.Dispatcher.quiet c.listen.new.self s es act c.loop.journal.acts tt) here.carries c.listen.ensures.carries told;
    }

pub returns-in_default : goal.returns-in_default
returns-in_default g c =
    let D = g.D.Dispatcher in
    let here = c.loop.invariant in
    record {
      tells = record {
        looper = here.looper;
        grows = tells_as _ any_heard c.args.journal.now.acts c.loop.journal.acts (λ heard h. tt) here.grows;
        carries = carries_then D.Serves D.origin D.nudges unasked D.Awaits D.Meets c.args.d.now c.loop.d c.listen.new.self c.args.journal.now.acts c.loop.journal.acts here.carries c.listen.ensures.carries;
      };
    }

pub returns-in_err-tell-in-Some-Call : goal.returns-in_err-tell-in-Some-Call
returns-in_err-tell-in-Some-Call g c =
    let D = g.D.Dispatcher in
    let here = c.loop.invariant in
    let same = c.in_err-tell-in-Some-Call.ensures.err in
    record {
      tells = record {
        looper = c.tell.ensures.looper ∙ here.looper;
        grows = (here.grows.0, same ∙ here.grows.1, here.grows.2, search rules);
        carries = carries_still D.Serves D.origin D.nudges unasked D.Awaits D.Meets c.args.d.now c.loop.d c.listen.new.self c.args.journal.now.acts c.loop.journal.acts c.tell.new.journal.acts here.carries c.listen.ensures.carries same;
      };
    }
