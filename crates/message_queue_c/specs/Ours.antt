-- The queues of C.
use Rattle.std.specs.Prelude.{◌≡◌, false, [], None}
use Rattle.loop_model.specs.Answers.{Setting}
use Rattle.loop_model.specs.Base.{empty_base}
use Rattle.message_slot.specs.declared.claim.NoClaim.{NoClaim}
use Rattle.queue_state.specs.Queue.{Queue}

-- free time, one sender, and quits are allowed
abbrev pub our_setting : Setting
our_setting = record { main = false; lockstep = false; senders = 1 }

abbrev pub is_ours : Queue (Unit {0}) NoClaim → Type 0
is_ours x = x.setting ≡ our_setting

-- a queue in which nothing has happened
abbrev pub new_queue : Queue (Unit {0}) NoClaim
new_queue = record { home = tt; setting = our_setting; start = empty_base 1; entries = []; messages = []; blocked = false; woken = false; deadline = None }
