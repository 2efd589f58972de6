use Rattle.std.proofs.Common.{◌||◌, suc, refl, inl, inr, sym, ap, ap₂, ◌∙◌}
use Rattle.run_model.specs.ByClock.{in_free_mode}
use Rattle.dash_loopers.specs.Loopers.{is_given_up}
use Rattle.looper_run.specs.Round.{is_ended}
use Rattle.dash_loopers.proofs.LooperNext.{stays_on, looped_self, looped_on}
use Rattle.dash_loopers.proofs.LooperRounds.{loops_once}
use Rattle.dash_loopers.proofs.looper.StageLooper.run_by_clock.Goals as goal

pub loop-init : goal.loop-init
loop-init g c = record {
  looped = looped_self (in_free_mode (g.C.Clock.shows c.args.timer.now.clock.now) c.args.timer.now.start) c.args.script.now c.args.hall.now c.args.self.now c.requires.may.looper;
  stays = λ stopped. refl;
  rounds = (0, refl);
}

pub run_loop-how-requires-clause-may : goal.run_loop-how-requires-clause-may
run_loop-how-requires-clause-may g c = record { mode = c.requires.may.mode; is_hall = c.requires.may.is_hall; looper = c.next_pulse.ensures.looked.looper }

pub run_loop-how-requires-clause-going : goal.run_loop-how-requires-clause-going
run_loop-how-requires-clause-going g c = (
  ap is_ended c.next_pulse.ensures.looked.last ∙ (sym c.has_ended.ensures ∙ c.if-has_ended.false),
  ap is_given_up c.next_pulse.ensures.looked.last ∙ (sym c.gave_up.ensures ∙ c.if-gave_up.false),
)

pub loop-preserved : goal.loop-preserved
loop-preserved g c =
    let s = c.args.script.now in
    let here = c.loop.invariant in
    let going = sym c.gave_up.ensures ∙ c.if-gave_up.false in
    let m = in_free_mode (g.C.Clock.shows c.args.timer.now.clock.now) c.args.timer.now.start in
    let once = loops_once m s c.args.end c.next_pulse.result c.earlier-cap.result c.loop.self c.next_pulse.new.self c.run_loop-how.new.self c.run_loop-how.result
    (sym c.has_ended.ensures ∙ c.if-has_ended.false) (sym c.gave_up.ensures ∙ c.if-gave_up.false) c.next_pulse.ensures.asks c.next_pulse.ensures.looked.held c.next_pulse.ensures.looked.number c.earlier-cap.ensures
    c.run_loop-how.ensures.loops c.run_loop-how.ensures.last in
    record {
      looped = looped_on m s c.args.hall.now c.args.self.now c.loop.self c.next_pulse.new.self c.run_loop-how.new.self c.requires.may.looper going here.looped c.next_pulse.ensures.looked c.run_loop-how.ensures.looped;
      stays = stays_on c.args.self.now c.loop.self c.run_loop-how.new.self here.stays (sym c.has_ended.ensures ∙ c.if-has_ended.false) going;
      rounds = (suc here.rounds.0, (c.loop.self, here.rounds.1, c.run_loop-how.result, once, sym c.is_at_end.ensures ∙ c.if-is_at_end.false));
    }

pub returns-then-is_at_end-clause-looped : goal.returns-then-is_at_end-clause-looped
returns-then-is_at_end-clause-looped g c =
    let m = in_free_mode (g.C.Clock.shows c.args.timer.now.clock.now) c.args.timer.now.start in
    looped_on m c.args.script.now c.args.hall.now c.args.self.now c.loop.self c.next_pulse.new.self c.run_loop-how.new.self c.requires.may.looper (sym c.gave_up.ensures ∙ c.if-gave_up.false) c.loop.invariant.looped c.next_pulse.ensures.looked c.run_loop-how.ensures.looped

pub returns-then-is_at_end-clause-stays : goal.returns-then-is_at_end-clause-stays
returns-then-is_at_end-clause-stays g c =
    stays_on c.args.self.now c.loop.self c.run_loop-how.new.self c.loop.invariant.stays (sym c.has_ended.ensures ∙ c.if-has_ended.false) (sym c.gave_up.ensures ∙ c.if-gave_up.false)

pub returns-then-is_at_end-clause-rounds : goal.returns-then-is_at_end-clause-rounds
returns-then-is_at_end-clause-rounds g c =
    let s = c.args.script.now in
    let m = in_free_mode (g.C.Clock.shows c.args.timer.now.clock.now) c.args.timer.now.start in
    let once = loops_once m s c.args.end c.next_pulse.result c.earlier-cap.result c.loop.self c.next_pulse.new.self c.run_loop-how.new.self c.run_loop-how.result
    (sym c.has_ended.ensures ∙ c.if-has_ended.false) (sym c.gave_up.ensures ∙ c.if-gave_up.false) c.next_pulse.ensures.asks c.next_pulse.ensures.looked.held c.next_pulse.ensures.looked.number c.earlier-cap.ensures
    c.run_loop-how.ensures.loops c.run_loop-how.ensures.last in
    let gone = c.loop.invariant.rounds in
    record { count = gone.0; between = c.loop.self; rounds = gone.1; stops = inr (c.run_loop-how.result, once, sym c.is_at_end.ensures ∙ c.if-is_at_end.true) }

pub returns-then-has_ended-clause-rounds : goal.returns-then-has_ended-clause-rounds
returns-then-has_ended-clause-rounds g c =
    let gone = c.loop.invariant.rounds in
    record { count = gone.0; between = c.loop.self; rounds = gone.1; stops = inl (ap (λ b. b || is_given_up c.loop.self.last) (sym c.has_ended.ensures ∙ c.if-has_ended.true), refl) }

pub returns-then-gave_up-clause-rounds : goal.returns-then-gave_up-clause-rounds
returns-then-gave_up-clause-rounds g c =
    let gone = c.loop.invariant.rounds in
    record {
      count = gone.0;
      between = c.loop.self;
      rounds = gone.1;
      stops = inl (ap₂ (λ a b. a || b) (sym c.has_ended.ensures ∙ c.if-has_ended.false) (sym c.gave_up.ensures ∙ c.if-gave_up.true), refl);
    }

pub returns-then-is_stopped-clause-rounds : goal.returns-then-is_stopped-clause-rounds
returns-then-is_stopped-clause-rounds g c =
    let gone = c.loop.invariant.rounds in
    record {
      count = gone.0;
      between = c.loop.self;
      rounds = gone.1;
      stops = (sym c.is_stopped.ensures ∙ c.if-is_stopped.true, ap₂ (λ a b. a || b) (sym c.has_ended.ensures ∙ c.if-has_ended.false) (sym c.gave_up.ensures ∙ c.if-gave_up.false), refl);
    }
