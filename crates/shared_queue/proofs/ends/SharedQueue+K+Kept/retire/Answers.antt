use Rattle.std.proofs.Common.{rules, sym, ◌∙◌, subst}
use Rattle.shared_queue.specs.Ends.{IsWholeEnd}
use Rattle.shared_queue.proofs.ends.SharedQueue+K+Kept.retire.Goals as goal

pub returns-clause-kept : goal.returns-clause-kept
returns-clause-kept g c = record { looper = search rules; setting = search rules }

pub returns-clause-end : goal.returns-clause-end
returns-clause-end g c =
    subst (λ l. IsWholeEnd g.K.Claim.home c.args.self.constants c.args.posters.items c.args.sealed.items l c.in_ok-segments.left)
    (sym (c.with_history.ensures.segments ∙ c.from_vec.ensures)) c.in_ok-segments.ensures
