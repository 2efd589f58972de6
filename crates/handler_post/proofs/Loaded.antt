-- A message that was obtained for a value.
use Rattle.std.proofs.Common.{◌≡◌, ℕ, List, Some, refl, ap, ◌∙◌}
use Rattle.atomic_table.specs.Seated.{TableId}
use Rattle.loop_model.specs.declared.post.Post.{Post}
use Rattle.message_pool.specs.Passes.{Claimed, Node, Tally}
use Rattle.message_pool.specs.Obtain.{IsPooled, HasTakenSlot}
use Rattle.message_pool.specs.Values.{with_content}
use Rattle.handler_post.specs.Supply.{letter_of}
use Rattle.handler_post.specs.Values.{IsLoaded}

-- what is obtained, given a value and then a post's fields
pub loaded : (home : TableId) (p : Post) (content : List ℕ) (node put m : Node) (before after : Tally) → IsPooled home node × HasTakenSlot before after
    → put ≡ with_content (Some content) node → m ≡ letter_of p put.claim → IsLoaded home p content before after m
loaded home p content node put m before after ((c, is, at, near), taken) e f =
    let mine : Claimed = record c { content = Some content } in
    let here : put.claim ≡ Some mine = ap (λ (n : Node). n.claim) (e ∙ ap (with_content (Some content)) is) in
    (mine, f ∙ ap (letter_of p) here, refl, (at, near, taken))
