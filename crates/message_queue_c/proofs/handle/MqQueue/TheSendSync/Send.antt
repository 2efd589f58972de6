use denote.Param.Send.{IsSend}
use Rattle.message_queue_c.specs.contracts.handle.MqQueue.{the_row}
use Rattle.message_queue_c.proofs.Sends.{handle_send}

pub send : IsSend the_row
send = handle_send
