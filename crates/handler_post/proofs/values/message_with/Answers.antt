use Rattle.std.proofs.Common.{Some, ap, ◌∙◌}
use Rattle.message_pool.specs.Passes.{Node}
use Rattle.message_pool.specs.Values.{with_content}
use Rattle.handler_post.specs.Supply.{letter_of}
use Rattle.handler_post.proofs.Loaded.{loaded}
use Rattle.handler_post.proofs.values.message_with.Goals as goal

pub returns-in-Ok-clause-node : goal.returns-in-Ok-clause-node
returns-in-Ok-clause-node g c =
    let p = c.args.post.now in
    let content = g.P.Payload.content c.args.value in
    let node : Node = c.in-Pooled.node in
    let put : Node = c.put_value.new.message in
    let filled = c.in-Ok.ensures.put ∙ ap (with_content (Some content)) c.item_mut.ensures.value in
    let posted = c.set_post.ensures ∙ ap (λ (n : Node). letter_of p n.claim) c.item_mut-in-Ok.ensures.value in
    loaded c.args.pool.now p content node put c.set_post.new.self c.args.pass.now c.obtain.new.pass c.in-Pooled.ensures.answer filled posted
