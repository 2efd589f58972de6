-- The message that was obtained, and the pass after it.
use Rattle.std.proofs.Common.{ℕ, ◌+◌, inl, inr, sym, ap, ◌∙◌, subst}
use Rattle.atomic_table.specs.Seated.{TableId}
use Rattle.message_pool.specs.Passes.{Node, Tally}
use Rattle.message_pool.specs.Pool.{IsBlank}
use Rattle.message_pool.specs.Obtain.{IsPooled, NothingFree, HasTakenSlot}
use Rattle.handler_post.specs.Supply.{NoneWasFree, Obtains}

pub none_was_free : (before after : Tally) (look lost : ℕ) → NothingFree before after look lost → NoneWasFree before after
none_was_free before after look lost (more, last, lose, back, inl none, taken, share) = (more, inl (last ∙ none), back, taken, share)
none_was_free before after look lost (more, last, lose, back, inr fifty, taken, share) = (more, inr (lose ∙ ap (λ (n : ℕ). before.lost + n) fifty), back, taken, share)

-- a message of a slot, and a new one
pub of_pooled : (home : TableId) (node : Node) (before after : Tally) → IsPooled home node × HasTakenSlot before after → Obtains home node.claim before after
of_pooled home node before after ((c, is, at, near), taken) = subst (λ (x : Node). Obtains home x.claim before after) (sym is) (at, near, taken)

pub of_fresh : (home : TableId) (node : Node) (before after : Tally) (look lost : ℕ) → IsBlank node × NothingFree before after look lost → Obtains home node.claim before after
of_fresh home node before after look lost (is, free) = subst (λ (x : Node). Obtains home x.claim before after) (sym is) (none_was_free before after look lost free)
