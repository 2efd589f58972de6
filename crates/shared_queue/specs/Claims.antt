-- The claims of the accepted posts, by number: what comes out of a queue with a number is what went in with it.
use Rattle.std.specs.Prelude.{◌≡◌, ℕ, List, [], ◌∷◌, ◌++◌, Option, Some, map, filter, length, slice_get, All}
use mathlib.Core.List.{IsPrefix}
use Rattle.loop_model.specs.Items.{number_of, is_just}
use Rattle.loop_model.specs.Answers.{accepted_count}
use Rattle.message_slot.specs.Letter.{Letter}
use Rattle.queue_state.specs.declared.answers.Posted.{Posted}
use Rattle.queue_state.specs.declared.answers.Posted.TheVariants as posted
use Rattle.queue_state.specs.declared.answers.Nexted.{Nexted}
use Rattle.queue_state.specs.declared.answers.Nexted.TheVariants as nexted
use Rattle.queue_state.specs.declared.answers.Taking.{Taking}
use Rattle.queue_state.specs.declared.answers.Taking.TheVariants as taking
use Rattle.queue_state.specs.declared.answers.Quitting.{Quitting}
use Rattle.queue_state.specs.declared.answers.Quitting.TheVariants as quitting
use Rattle.queue_state.specs.Queue.{Queue}

module _ {K : Type 0} where
  -- the message has the claim that was accepted with its number; a barrier has no number
  abbrev pub IsAsAccepted : List (Option K) → Letter K → Type 0
  IsAsAccepted claims m = (n : ℕ) → number_of m.item ≡ Some n → slice_get claims n ≡ Some m.claim

  -- the claims of the messages with this number
  abbrev pub claims_at : ℕ → List (Letter K) → List (Option K)
  claims_at n ms = map (λ (m : Letter K). m.claim) (filter (λ (m : Letter K). is_just (number_of m.item) n) ms)

  -- the claims, with that of the message that has the next number, where one stands there
  abbrev pub claims_with : List (Option K) → List (Letter K) → List (Option K)
  claims_with claims ms = claims ++ claims_at (length claims) ms

module _ {H K : Type 0} where
  -- these are the claims of all accepted posts of the history, by number, and the messages that stand in the state have theirs
  pub record AreClaims (claims : List (Option K)) (x : Queue H K) : Type 0 where
    pub count : length claims ≡ accepted_count x.start x.entries
    pub each : All (IsAsAccepted claims) x.messages

  -- a turn that found x and left y: what the poster has seen of the claims only grows, and it has seen all of them now
  pub record ClaimsGoOn (before after : List (Option K)) (x y : Queue H K) : Type 0 where
    pub grows : IsPrefix before after
    -- those of the state found, which begin with what it had seen
    pub found : List (Option K)
    pub begins : IsPrefix before found
    pub of_found : AreClaims found x
    -- those of the state left, which has at most one more
    pub next : after ≡ claims_with found y.messages
    pub of_left : AreClaims after y

  -- an accepted post appends the claim of its message, at the place of its number, to claims that begin with those before
  abbrev pub AcceptsClaim : List (Option K) → List (Option K) → Letter K → Posted K H → Type 0
  AcceptsClaim before after node (posted.Accepted number wake) =
      (found : List (Option K)) × IsPrefix before found × (length found ≡ number) × (after ≡ found ++ node.claim ∷ [])
  AcceptsClaim before after node (posted.Refused place back) = IsPrefix before after
  AcceptsClaim before after node (posted.NoMemory back) = IsPrefix before after

  -- each message that is handed out has the claim that was accepted with its number
  abbrev pub LooksAsAccepted : List (Option K) → Nexted K H → Type 0
  LooksAsAccepted claims (nexted.Taken number at node) = slice_get claims number ≡ Some node.claim
  LooksAsAccepted claims nexted.Idle = Unit {0}
  LooksAsAccepted claims (nexted.Wait until) = Unit {0}
  LooksAsAccepted claims (nexted.End list) = All (IsAsAccepted claims) list
  LooksAsAccepted claims nexted.Over = Unit {0}

  abbrev pub TakesAsAccepted : List (Option K) → Taking K H → Type 0
  TakesAsAccepted claims (taking.Removed list) = All (IsAsAccepted claims) list
  TakesAsAccepted claims taking.NoMemory = Unit {0}

  abbrev pub QuitsAsAccepted : List (Option K) → Quitting K H → Type 0
  QuitsAsAccepted claims (quitting.Done list) = All (IsAsAccepted claims) list
  QuitsAsAccepted claims (quitting.AlreadyQuit place) = Unit {0}
  QuitsAsAccepted claims quitting.NotAllowed = Unit {0}
  QuitsAsAccepted claims quitting.NoMemory = Unit {0}
