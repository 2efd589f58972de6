-- Serial numbers of handlers rise.
use Rattle.std.proofs.Common.{◌≡◌, ℕ, ◌+◌, ◌<◌, Bool, true, false, List, [], ◌∷◌, ◌++◌, All, arith}
use Rattle.std.specs.Prelude.{if◌then◌else◌}
use Rattle.std.proofs.lemmas.List.Elements.{All-nil, All-cons, All-head, All-tail, All-push}
use Rattle.loop_sources.specs.declared.idle.IdleTurn.{IdleTurn}
use Rattle.loop_sources.specs.Idle.{without_first, IsNumbered}

-- a handler that is added has the greatest number
pub numbered-push : (turns : List IdleTurn) (added : ℕ) (turn : IdleTurn) → turn.serial ≡ added → IsNumbered turns added → IsNumbered (turns ++ turn ∷ []) (added + 1)
numbered-push [] added turn e h = (omega (arith, e), All-nil (λ t. turn.serial < t.serial), tt)
numbered-push (first ∷ turns) added turn e h = (
  omega (arith, h.0),
  All-push (λ t. first.serial < t.serial) turns turn h.1 (omega (arith, e, h.0)),
  numbered-push turns added turn e h.2,
)

All-without : (P : IdleTurn → Type 0) (test : IdleTurn → Bool) (turns : List IdleTurn) → All P turns → All P (without_first test turns)
unfolding without_first
All-without P test [] h = h
All-without P test (turn ∷ turns) h =
    elim (test turn) as (λ b. All P (if b then turns else turn ∷ without_first test turns))
    [ true ↦ All-tail P turn turns h | false ↦ All-cons P turn (without_first test turns) (All-head P turn turns h) (All-without P test turns (All-tail P turn turns h)) ]

-- and one that is taken out leaves the order of the others
pub numbered-without : (test : IdleTurn → Bool) (turns : List IdleTurn) (added : ℕ) → IsNumbered turns added → IsNumbered (without_first test turns) added
unfolding without_first
numbered-without test [] added h = h
numbered-without test (turn ∷ turns) added h =
    elim (test turn) as (λ b. IsNumbered (if b then turns else turn ∷ without_first test turns) added)
    [ true ↦ h.2 | false ↦ (h.0, All-without (λ t. turn.serial < t.serial) test turns h.1, numbered-without test turns added h.2) ]
