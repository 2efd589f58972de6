-- Things that have ended.
use Rattle.std.proofs.Common.{◌≡◌, ℕ, List, [], ◌∷◌, ◌++◌, refl, ap, true, false, Bool, sym, ◌∙◌, map}
use Rattle.std.specs.Prelude.{◌&&◌}
use Rattle.std.specs.List.{list_all}
use Rattle.countdown.specs.Moments.{has_ended}
use Rattle.countdown.proofs.Ends.{has_ended-front}
use Rattle.value_animator.specs.declared.plan.Thing.{Thing}
use Rattle.value_animator.specs.declared.plan.Thing.TheVariants as thing_of
use Rattle.value_animator.specs.declared.runner.Runner.{Runner}
use Rattle.value_animator.specs.declared.runner.Runner.TheVariants as runner
use Rattle.value_animator.specs.Run.{all_ended, thing_end}
use Rattle.value_animator.specs.Runners.{runner_at, is_ended}
use Rattle.animator.specs.Valuing.{end_of}

-- a runner has ended exactly where its thing has
one_ended : (t : Thing) (times : List ℕ) → is_ended (runner_at t times) ≡ has_ended (thing_end t) times
one_ended (thing_of.Animator plan) times = go (has_ended (end_of plan) times) refl
  where
    go : (b : Bool) → has_ended (end_of plan) times ≡ b → is_ended (runner_at (thing_of.Animator plan) times) ≡ has_ended (end_of plan) times
    go true e = rw e refl
    go false e = rw e refl
one_ended (thing_of.Countdown total interval) times = go (has_ended total times) refl
  where
    go : (b : Bool) → has_ended total times ≡ b → is_ended (runner_at (thing_of.Countdown total interval) times) ≡ has_ended total times
    go true e = rw e refl
    go false e = rw e refl

pub ended_are : (ts : List Thing) (times : List ℕ) → list_all is_ended (map (λ t. runner_at t times) ts) ≡ all_ended ts times
ended_are [] times = refl
ended_are (t ∷ ts) times =
    ap (λ b. b && list_all is_ended (map (λ t. runner_at t times) ts)) (one_ended t times) ∙ ap (λ b. has_ended (thing_end t) times && b) (ended_are ts times)

ended_runner : (t : Thing) (times : List ℕ) → has_ended (thing_end t) times ≡ true → runner_at t times ≡ runner.Ended
ended_runner (thing_of.Animator plan) times e = rw e refl
ended_runner (thing_of.Countdown total interval) times e = rw e refl

-- what has ended stays so
pub stays_ended : (t : Thing) (times : List ℕ) (time : ℕ) (r : Runner) → r ≡ runner.Ended → r ≡ runner_at t times → r ≡ runner_at t (times ++ time ∷ [])
stays_ended t times time r ended is =
    let now : has_ended (thing_end t) times ≡ true = sym (one_ended t times) ∙ ap is_ended (sym is ∙ ended) in
    ended ∙ sym (ended_runner t (times ++ time ∷ []) (has_ended-front (thing_end t) times (time ∷ []) now))
