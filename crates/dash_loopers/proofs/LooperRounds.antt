-- A round and a loop by a clock, as the looper that they leave tells them, and loops one after another.
use Rattle.std.proofs.Common.{◌≡◌, ℕ, ◌||◌, Bool, true, false, Option, Some, None, refl, sym, ap, ap₂, ◌∙◌, subst}
use Rattle.std.specs.List.{slice_get}
use Rattle.atomic_table.specs.Seated.{TableId}
use Rattle.shared_queue.specs.Constants.{Constants}
use Rattle.shared_queue.specs.Known.{Shared}
use Rattle.looper_run.specs.declared.by_clock.Loop.{Loop}
use Rattle.looper_run.specs.declared.looper.Round.{Round}
use Rattle.looper_run.specs.Holding.{Looping}
use Rattle.looper_run.specs.Loops.{LoopBy}
use Rattle.looper_run.specs.Round.{is_ended}
use Rattle.dash_script.specs.declared.script.Script.{Script}
use Rattle.run_model.specs.Moments.{Mode}
use Rattle.run_model.specs.ByClock.{in_free_mode}
use Rattle.dash_hall.specs.declared.hall.Hall.{Hall}
use Rattle.dash_hall.specs.Kits.{IsHall, queue_constants}
use Rattle.dash_loopers.specs.declared.looper.StageLooper.{StageLooper}
use Rattle.dash_loopers.specs.Loopers.{IsLooper, RunsRound, ComesToWaitAt, is_given_up, round_of, setting_in, DrainsAt}
use Rattle.dash_loopers.specs.Looped.{LooperAsksPulse, LoopsUpToCap, LoopsToPulse, earlier_of}
use Rattle.dash_loopers.proofs.LooperPlaces.{queue_is}
use Rattle.dash_loopers.proofs.LooperKits.{looper_of, ran_on, comes_to_wait}
use Rattle.dash_loopers.proofs.LooperLooped.{RoundLeaves}
use Rattle.dash_loopers.proofs.LooperNext.{stopped_not}

-- ---- a round

-- one that has ended or given up runs no round
ran_none : (lockstep : Bool) (s : Script) (now : ℕ) (l : StageLooper) → (is_ended l.last || is_given_up l.last) ≡ true → RunsRound lockstep s now l l
ran_none lockstep s now l stopped = record {
  stopped = λ e. refl;
  ran = λ e. absurd (let wrong : false ≡ true = sym e ∙ stopped in cc);
  looks = λ e. absurd (let wrong : false ≡ true = sym e ∙ stopped in cc);
}

-- and doesn't come to wait
waits_none : (s : Script) (now : ℕ) (l : StageLooper) → (is_ended l.last || is_given_up l.last) ≡ true → ComesToWaitAt s now l l
waits_none s now l stopped = λ unended going. absurd (stopped_not (is_ended l.last) (is_given_up l.last) unended going stopped)

pub drained_none : (s : Script) (now : ℕ) (l : StageLooper) → (is_ended l.last || is_given_up l.last) ≡ true → DrainsAt s now l l
drained_none s now l stopped = record { round = ran_none false s now l stopped; waits = waits_none s now l stopped }

module _ (s : Script) (hall : Hall) (now : ℕ) (l n after : StageLooper) (q : Shared TableId) (left : Looping) (last : Round) (mode : hall.lockstep ≡ false) (is_hall : IsHall s hall) (is : IsLooper s hall l)
    (going : (is_ended l.last ≡ false) × (is_given_up l.last ≡ false)) (at : slice_get hall.queues.items l.number ≡ Some q) (taken : n ≡ record l { parts = None }) (held : after.looper ≡ left) (ended : after.last ≡ last)
    (leaves : RoundLeaves q.constants.setting now n.looper left last) where
  leaves_here : RoundLeaves q.constants.setting now l.looper after.looper after.last
  leaves_here =
      subst (λ (r : Round). RoundLeaves q.constants.setting now l.looper after.looper r) (sym ended)
      (subst (λ (x : Looping). RoundLeaves q.constants.setting now l.looper x last) (sym held)
      (subst (λ (z : StageLooper). RoundLeaves q.constants.setting now z.looper left last) taken leaves))

  round_here : RunsRound false s now l after
  round_here = record {
    stopped = λ e. absurd (stopped_not (is_ended l.last) (is_given_up l.last) going.0 going.1 e);
    ran = λ e. ran_on false s hall mode now l q after.looper after.last is_hall is at leaves_here.round;
    looks = λ e. leaves_here.looks;
  }

  waits_here : ComesToWaitAt s now l after
  waits_here = λ unended on. comes_to_wait false s hall mode now l q after.looper after.last is_hall is at leaves_here.same leaves_here.round unended on

  pub drains_here : DrainsAt s now l after
  drains_here = record { round = round_here; waits = waits_here }

-- ---- a loop

pub loop_here : (shows : ℕ → Bool) (start : ℕ) (cap : Option ℕ) (s : Script) (hall : Hall) (l n after : StageLooper) (q : Shared TableId) (left : Looping) (how : Loop) → hall.lockstep ≡ false → IsHall s hall → IsLooper s hall l
    → slice_get hall.queues.items l.number ≡ Some q → n ≡ record l { parts = None } → after.looper ≡ left → LoopBy shows start cap q.constants.setting n.looper.held left.held how
    → LoopsUpToCap (in_free_mode shows start) s cap l after how
loop_here shows start cap s hall l n after q left how mode is_hall is at taken held loops =
    subst (λ (c : Constants TableId). LoopBy shows start cap c.setting l.looper.held after.looper.held how)
    (queue_is s hall l.number (looper_of s hall l is_hall is) l.number q at ∙ ap (λ b. queue_constants b s hall.pool l.number) mode)
    (subst (λ (x : Looping). LoopBy shows start cap q.constants.setting l.looper.held x.held how) (sym held)
    (subst (λ (z : StageLooper). LoopBy shows start cap q.constants.setting z.looper.held left.held how) taken loops))

-- up to the pulse that it asked for, or to the end
pub loops_once : (m : Mode) (s : Script) (end pulse cap : Option ℕ) (b k c : StageLooper) (how : Loop) → is_ended b.last ≡ false → is_given_up b.last ≡ false → LooperAsksPulse b k pulse → k.looper ≡ b.looper → k.number ≡ b.number
    → cap ≡ earlier_of pulse end → LoopsUpToCap m s cap k c how → c.last ≡ round_of how → LoopsToPulse m s end b c how
loops_once m s end pulse cap b k c how unended going looks held number is loops last = record {
  going = ap₂ (λ x y. x || y) unended going;
  asked = k;
  pulse = pulse;
  looks = looks;
  loops = subst (λ (t : Option ℕ). LoopBy m.shows m.start t (setting_in false s b.number) b.looper.held c.looper.held how) is
      (subst (λ (n : ℕ). LoopBy m.shows m.start cap (setting_in false s n) b.looper.held c.looper.held how) number
      (subst (λ (x : Looping). LoopBy m.shows m.start cap (setting_in false s k.number) x.held c.looper.held how) held loops));
  last = last;
}
