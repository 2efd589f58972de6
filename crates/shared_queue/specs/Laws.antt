-- What comes out with a number is what went in with it, also where another poster takes it.
use Rattle.std.specs.Prelude.{◌≡◌, ℕ, Bool, List, Option}
use mathlib.Core.List.{IsPrefix}
use Rattle.message_slot.specs.Letter.{Letter}
use Rattle.queue_state.specs.declared.answers.Posted.TheVariants as posted
use Rattle.queue_state.specs.declared.answers.Nexted.TheVariants as nexted
use Rattle.shared_queue.specs.Known.{Known}
use Rattle.shared_queue.specs.Calls.{PostedBy, NextedBy}

-- a message that is taken out as number n holds the very claim of the message that was accepted as number n, where the posters that posted it
-- and took it out have each seen a beginning of the same claims, as they have once a third, or one of the two, has heard of both
abbrev pub TakenIsPosted : Type 0 → Type 0 → Type 0
TakenIsPosted H K =
    (poster posted_ looker looked : Known H K) (node taken : Letter K) (number now at : ℕ) (wake idle : Bool) (claims : List (Option K))
    → PostedBy poster posted_ node (posted.Accepted number wake) → NextedBy looker looked now idle (nexted.Taken number at taken)
    → IsPrefix posted_.view.claims claims → IsPrefix looked.view.claims claims → taken.claim ≡ node.claim
