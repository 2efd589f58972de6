use Rattle.std.proofs.Common.{◌≡◌, ◌++◌, ◌∷◌, [], List, ℕ, map, take, drop}
use Rattle.std.specs.Prelude.{string_bytes}
use Rattle.std.specs.List.{flat_map, enumerate_from}
use Rattle.value_animator.specs.declared.plan.Thing.{Thing}
use Rattle.value_animator.specs.Run.{line_text, thing_lines}
use Rattle.value_animator.specs.Runners.{runner_at}
use Rattle.value_animator.proofs.runner.ask_all.Given as goal

-- those below the place were asked, and their lines are written
abbrev pub invariant-loop-place : goal.invariant-loop-place
invariant-loop-place l = (list : List Thing) (times : List ℕ) → l.initial.things ≡ map (λ t. runner_at t times) list
    → (l.things ≡ map (λ t. runner_at t (times ++ l.time ∷ [])) (take l.place list) ++ map (λ t. runner_at t times) (drop l.place list))
    × (string_bytes l.out ≡ string_bytes l.fn.out ++ flat_map line_text (flat_map (thing_lines times l.time) (take l.place (enumerate_from 0 list))))
