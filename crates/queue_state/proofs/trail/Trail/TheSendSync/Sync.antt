use denote.Param.Send.{IsSend, IsSync, part_keyless}
use Rattle.queue_state.specs.contracts.trail.Trail.{the_row}

keyless : IsSend the_row
keyless = record { owned = λ d vs. ((λ vss. (tt, ((λ uss. (tt, tt)), tt))), tt); leaving = λ k f vs. tt }

pub sync : IsSync the_row
sync = record { shared = λ d b o ν q. part_keyless the_row keyless q d b o }
