use Rattle.plain_loop.proofs.ValueLaws.{value_is_sent}
use Rattle.plain_loop.proofs.laws.value_is_sent.Goals as goal

pub returns : goal.returns
returns g c = value_is_sent g.P.Payload.content
