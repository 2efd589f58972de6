use Rattle.std.proofs.Common.{◌∙◌, sym, refl, subst}
use Rattle.loop_model.specs.Legal.{CallFitsTime}
use Rattle.trace_check.specs.Checking.{past_base}
use Rattle.trace_check.proofs.Passing.{fault_by}
use Rattle.trace_check.proofs.checker.fault_of.Goals as goal

pub returns : goal.returns
returns c =
    let q = c.args.queue.now in
    let e = c.args.entry.now in
    let b = past_base c.args.past.now in
    let reply = sym c.answer-wanted.ensures ∙ c.if-not-is_reply.ensures.0 refl in
    let timely = subst (λ t. CallFitsTime q.lockstep t e.call) c.time-time.ensures (c.if-not-is_timely.ensures.0 refl) in
    fault_by q b c.args.made e c.sender_fault.result reply timely c.sender_fault.ensures
