-- What C has in its hand.
use Rattle.std.specs.Prelude.{◌≡◌, not, if◌then◌else◌}
use Rattle.message_queue_c.specs.declared.handle.MqQueue.{MqQueue}
use Rattle.message_queue_c.specs.Contents.{Contents, nothing_in, holds_nothing}

-- what stands behind the handle: nothing, where it is not live
abbrev pub inside : MqQueue → Contents
inside h = if h.live then h.state else nothing_in

-- it is live, and so owns memory, just where something stands behind it
abbrev pub IsFreed : MqQueue → Type 0
IsFreed h = h.live ≡ not (holds_nothing (inside h))
