-- Which arrows a trace has.
use Rattle.std.specs.Prelude.{ℕ, max, List, [], ◌∷◌, ◌++◌, Option, None, option_to_list, slice_get}
use Rattle.std.specs.List.{filter_map, flat_map}
use Rattle.std.specs.Option.{option_map}
use Rattle.loop_model.specs.declared.call.Call.{Call}
use Rattle.loop_model.specs.declared.call.Call.TheVariants.{Next}
use Rattle.loop_model.specs.declared.reply.Reply.{Reply}
use Rattle.loop_model.specs.declared.reply.Reply.TheVariants.{Dispatched}
use Rattle.loop_model.specs.declared.entry.Entry.{Entry}
use Rattle.loop_model.specs.Entries.{moment_of}
use Rattle.loop_model.specs.Posts.{accepted_post}
use Rattle.trace_check.specs.declared.trace.TraceQueue.{TraceQueue}
use Rattle.trace_check.specs.declared.trace.Trace.{Trace}
use Rattle.run_flows.specs.declared.flow.Sent.{Sent}
use Rattle.run_flows.specs.declared.flow.Flow.{Flow}

-- the post that an entry adds at this time of the queue
abbrev pub added_post : ℕ → Entry → Option Sent
added_post time e = option_map (λ p. record { post = p; sender = e.sender; time = time }) (accepted_post e)

-- the accepted posts, in order; a queue's time is the greatest moment of the entries before
abbrev pub sent_from : ℕ → List Entry → List Sent
sent_from time [] = []
sent_from time (e ∷ es) = option_to_list (added_post time e) ++ sent_from (max time (moment_of e.call)) es

-- the arrow to a dispatch, from the accepted post of its number, where there is one
abbrev pub flow_by : List Sent → ℕ → ℕ → Call → Reply → Option Flow
flow_by posts looper sender (Next now) (Dispatched n) =
    option_map (λ s. record { looper = looper; number = n; sent = s; taker = sender; time = now }) (slice_get posts n)
flow_by posts looper sender _ _ = None

abbrev pub flow_to : List Sent → ℕ → Entry → Option Flow
flow_to posts looper e = flow_by posts looper e.sender e.call e.reply

-- the arrows of a queue, in the order of its dispatches
abbrev pub queue_flows : TraceQueue → List Flow
queue_flows q = filter_map (flow_to (sent_from 0 q.entries) q.looper) q.entries

-- the arrows of a trace, queue by queue
abbrev pub flows : Trace → List Flow
flows t = flat_map queue_flows t.queues
