use Rattle.std.proofs.Common.{ap, sym, ◌∙◌}
use Rattle.when_queue.specs.Wanted.{is_wanted}
use Rattle.when_queue.proofs.Lists.{sent_passes}
use Rattle.when_queue.proofs.wanted.Wanted.is_met_by.Goals as goal

pub returns-in-Asynchronous : goal.returns-in-Asynchronous
returns-in-Asynchronous g c = c.asynchronous.ensures ∙ (sent_passes c.args.message.now.item ∙ sym (ap (λ w. is_wanted w c.args.message.now.item) c.in-Asynchronous.is))
