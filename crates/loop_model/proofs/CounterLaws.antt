-- A reply by the counters and the items.
use Rattle.std.proofs.Common.{◌≡◌, ℕ, List, [], refl}
use Rattle.loop_model.specs.declared.call.Call.{Call}
use Rattle.loop_model.specs.declared.call.Call.TheVariants.{Post, Barrier, Unbarrier, Remove, Quit, Next, Advance, Halt}
use Rattle.loop_model.specs.declared.counters.Counters.{Counters}
use Rattle.loop_model.specs.declared.item.Item.{Item}
use Rattle.loop_model.specs.Answers.{Setting}
use Rattle.loop_model.specs.Counters.{left_with}
use Rattle.loop_model.specs.Listed.{listed_answer}

-- no reply hangs on how long the history is, nor on the counts by sender
pub answers_alike : (s : Setting) (n : ℕ) (c : Counters) (made : List ℕ) (q : List Item) (call : Call) → listed_answer s (left_with 0 c [] q) call ≡ listed_answer s (left_with n c made q) call
unfolding listed_answer
answers_alike s n c made q (Post p) = refl
answers_alike s n c made q (Barrier now) = refl
answers_alike s n c made q (Unbarrier t) = refl
answers_alike s n c made q (Remove f) = refl
answers_alike s n c made q (Quit safe now) = refl
answers_alike s n c made q (Next now) = refl
answers_alike s n c made q (Advance now) = refl
answers_alike s n c made q (Halt now) = refl
