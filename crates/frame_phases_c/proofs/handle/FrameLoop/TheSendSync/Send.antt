use denote.Param.Send.{IsSend}
use Rattle.frame_phases_c.specs.contracts.handle.FrameLoop.{the_row}
use Rattle.frame_phases_c.proofs.Sends.{handle_send}

pub send : IsSend the_row
send = handle_send
