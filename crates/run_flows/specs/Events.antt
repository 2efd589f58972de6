-- Arrows as trace events in JSON.
use Rattle.std.specs.Prelude.{◌≡◌, ℕ, ◌+◌, ◌*◌, true, List, [], ◌∷◌, ◌++◌, Option, Some, None, codes}
use Rattle.std.specs.Fmt.{decimal}
use Rattle.serde_json.specs.Data.{Data, boolean, string, array, object, Members, no_members, put}
use Rattle.serde_json.specs.View.{items_of}
use Rattle.serde_json.specs.Written.{compact_text}
use Rattle.run_picture.specs.Events.{argued, count, naming, slice}
use Rattle.run_picture.specs.Rows.{saturated}
use Rattle.trace_check.specs.declared.trace.Trace.{Trace}
use Rattle.run_flows.specs.declared.flow.Flow.{Flow}
use Rattle.run_flows.specs.Flows.{flows}

-- a message by its handler, and by its callback, where it has one, or else by its what
abbrev pub message_name : ℕ → ℕ → Option ℕ → List ℕ
message_name handler what None = codes "handler " ++ decimal handler ++ codes " what " ++ decimal what
message_name handler what (Some c) = codes "handler " ++ decimal handler ++ codes " callback " ++ decimal c

abbrev pub flow_name : Flow → List ℕ
flow_name f = message_name f.sent.post.handler f.sent.post.what f.sent.post.callback

abbrev pub post_name : Flow → List ℕ
post_name f = codes "post to looper " ++ decimal f.looper ++ codes " " ++ flow_name f

-- a slice of a millisecond in a sender's thread, at a time in milliseconds
unfoldable pub placed_slice : List ℕ → ℕ → ℕ → Members
placed_slice name thread time =
    slice 1000 (put (codes "ts") (count (saturated (time * 1000))) (put (codes "tid") (count thread)
    (put (codes "pid") (count 1) (put (codes "name") (string name) no_members))))

-- a slice as an end of an arrow, with the message's number; the arrow's number ties both ends
unfoldable pub arrow_end : List ℕ → ℕ → ℕ → Members → Data
arrow_end way arrow message ms = object (put way (boolean true) (put (codes "bind_id") (count arrow) (argued (codes "number") (count message) ms)))

-- the slice of the post, where the arrow begins
abbrev pub post_event : ℕ → Flow → Data
post_event arrow f = arrow_end (codes "flow_out") arrow f.number (placed_slice (post_name f) f.sent.sender f.sent.time)

-- the slice of the dispatch, where the arrow ends
abbrev pub dispatch_event : ℕ → Flow → Data
dispatch_event arrow f = arrow_end (codes "flow_in") arrow f.number (placed_slice (flow_name f) f.taker f.time)

-- both ends of each arrow; arrows are numbered from this number on
abbrev pub arrows_from : ℕ → List Flow → List Data
arrows_from arrow [] = []
arrows_from arrow (f ∷ fs) = post_event arrow f ∷ dispatch_event arrow f ∷ arrows_from (arrow + 1) fs

-- the name of the process
unfoldable pub process : Data
process = object (naming (codes "process_name") (codes "senders"))

-- the events of a trace: the name of the process, both ends of each arrow, and no other
abbrev pub events : Trace → List Data
events t = process ∷ arrows_from 0 (flows t)

-- the text has the arrows of the trace as JSON
abbrev pub DrawsFlows : Trace → List ℕ → Type 0
DrawsFlows t text = text ≡ compact_text (array (items_of (events t))) ++ codes "\n"
