use Rattle.std.proofs.Common.{rules, ◌≡◌, ◌∷◌, ◌++◌, [], ap, ◌∙◌}
use Rattle.loop_model.specs.declared.segment.Segment.{Segment}
use Rattle.queue_state.specs.Queue.{part_of}
use Rattle.shared_queue.proofs.Closing.{closing, ends}
use Rattle.shared_queue.proofs.ends.SharedQueue+K+Kept.end_with.Goals as goal

pub returns : goal.returns
returns g c =
    let key = c.args.self.constants in
    let last = closing key c.args.posters.items c.end.result c.args.sealed.items c.end.ensures (c.end.ensures.parts c.args.sealed.items c.requires.sealed) in
    let pushed : c.push.new.self.items ≡ c.args.sealed.items ++ c.into_parts-last.result.0 ∷ [] = search rules in
    let are : c.push.new.self.items ≡ c.args.sealed.items ++ part_of c.end.result ∷ [] = pushed ∙ ap (λ (p : Segment). c.args.sealed.items ++ p ∷ []) c.into_parts-last.ensures.part in
    ends key c.args.posters.items c.args.sealed.items c.push.new.self.items c.end.result last c.into_parts-last.ensures.sound are g.K.Claim.home c.into_parts-last.result.1 c.into_parts-last.ensures.left c.into_parts-last.ensures.home
