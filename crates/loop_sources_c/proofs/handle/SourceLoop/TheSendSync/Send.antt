use denote.Param.Send.{IsSend}
use Rattle.loop_sources_c.specs.contracts.handle.SourceLoop.{the_row}
use Rattle.loop_sources_c.proofs.Sends.{handle_send}

pub send : IsSend the_row
send = handle_send
