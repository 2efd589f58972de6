use denote.RattleType.{RattleType}
use denote.Param.Send.{IsSend}
use Rattle.heap_value.specs.contracts.lone.Lone.{the_row}
use Rattle.heap_value.proofs.Sends.{lone_send}

pub send : (T : RattleType) → IsSend T → IsSend (the_row T)
send = lone_send
