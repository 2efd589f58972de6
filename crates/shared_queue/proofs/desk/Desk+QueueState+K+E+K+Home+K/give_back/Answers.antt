use Rattle.std.proofs.Common.{refl, subst, ◌≤◌, sym, ◌∙◌, ◌+◌, ◌-◌, ◌≡◌, length, ap}
use Rattle.shared_queue.specs.Turn.{seen_with}
use Rattle.shared_queue.proofs.Desks.{ends, no_shorter}
use Rattle.shared_queue.proofs.desk.Desk+QueueState+K+E+K+Home+K.give_back.Goals as goal

pub returns : goal.returns
returns g c =
    let d = c.args.self.now in
    let y = c.args.state in
    let len : c.length-seen.result ≡ length (seen_with d.seat.me.0 y) = c.length-seen.ensures.length ∙ sym c.requires.turn.long in
    ends c.args.queue.now.constants d (record { seat = c.give.new.seat; sender = d.sender; made = d.made + (c.length-seen.result - d.seen); seen = c.length-seen.result; heard = d.heard }) y c.requires.turn
    c.length-seen.ensures.sound (c.give.ensures.0, refl) c.give.ensures.2 len (ap (λ n. d.made + (n - d.seen)) len) refl

pub overflow_sub-self : goal.overflow_sub-self
overflow_sub-self g c = subst (λ n. c.args.self.now.seen ≤ n) (sym c.length-seen.ensures.length) (no_shorter c.args.queue.now.constants c.args.self.now c.args.state c.requires.turn)
