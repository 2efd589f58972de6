-- The looper on which a choreographer runs, as the choreographer sees it.
use Rattle.std.specs.Prelude.{◌≡◌, ◌==◌, ◌&&◌, ◌+◌, ℕ, Bool, List, [], ◌∷◌, ◌++◌, map, is_none, None, MatchBool, true, if◌then◌else◌}
use Rattle.atomic_table.specs.Seated.{TableId}
use Rattle.loop_model.specs.declared.post.Post.{Post as PostData}
use Rattle.loop_model.specs.declared.call.Call.{Call}
use Rattle.loop_model.specs.declared.call.Call.TheVariants.{Post}
use Rattle.loop_model.specs.declared.reply.Reply.{Reply}
use Rattle.loop_model.specs.declared.reply.Reply.TheVariants.{Accepted, Refused}
use Rattle.loop_model.specs.declared.entry.Entry.{Entry}
use Rattle.message_pool.specs.Passes.{Tally}
use Rattle.shared_queue.specs.Known.{Shared, IsOf}
use Rattle.looper_run.specs.Holding.{Sender}
use Rattle.choreographer.specs.declared.host.Sending.{Sending}
use Rattle.choreographer.specs.declared.host.HostSent.TheVariants as host
use Rattle.choreographer.specs.declared.hosted.Placed.{Placed}
use Rattle.choreographer.specs.declared.hosted.Placed.TheVariants as placed
use Rattle.choreographer.specs.Known.{Pass}
use Rattle.choreographer.specs.Calls.{PostedBy as CallbackPostedBy}
use Rattle.run_model.specs.Planned.{frame_due}
use Rattle.run_model.specs.FrameRecords.{nanos_of, FrameAsk, Posts, asks_in}
use Rattle.dash_hall.specs.declared.host.Host.{Host}
use Rattle.dash_hall.specs.Growth.{own, GoesOn, Makes}
use Rattle.dash_hall.specs.ByClock.{AddsAt}

-- what a host keeps through all its calls: its queue and pool, its poster and its pass by their references, what these were when it was made, and its handler's
-- number, its moment and its uptime
pub record HostOrigin (U : Type 0) : Type 0 where
  pub queue : Shared TableId
  pub pool : TableId
  pub poster_name : ℕ
  pub pass_name : ℕ
  pub poster : Sender
  pub pass : Tally
  pub handler : ℕ
  pub now : ℕ
  pub uptime : U

-- the poster is one of the queue, the pass is one of the pool, the queue's messages are the pool's, and both have gone on since the host was made; where the
-- host's moment is one of the clock, what the poster has called since has moments of the clock, or the queue's time
pub record IsHost {U : Type 0} (o : HostOrigin U) (poster : Sender) (pass : Tally) : Type 0 where
  pub of_queue : IsOf poster o.queue
  pub of_pool : pass.home ≡ o.pool
  pub home : o.queue.constants.home ≡ o.pool
  pub on : GoesOn o.poster poster o.pass pass
  pub clocked : AddsAt o.now o.poster poster

-- a message that the handler sends for a choreographer: asynchronous, with no object and no callback
abbrev pub is_sending : ℕ → PostData → Bool
is_sending handler p = p.handler == handler && p.asynchronous && is_none p.obj && is_none p.callback

-- what no host answers to a choreographer
abbrev pub not_sent : Sending
not_sent = record { what = 0; arg = 0; when = 0; answer = host.NoMemory }

-- a message as the queue took it
abbrev pub sent_as : PostData → Reply → Sending
sent_as p (Accepted number) = record { what = p.what; arg = p.arg; when = p.when; answer = host.Accepted }
sent_as p (Refused place) = record { what = p.what; arg = p.arg; when = p.when; answer = host.Refused }
sent_as p _ = not_sent

-- a call as a choreographer is told of it: a message that this handler sends for it as itself, and any other call as none of its sends
abbrev pub told_by : ℕ → Call → Reply → Sending
told_by handler (Post p) r = if is_sending handler p then sent_as p r else not_sent
told_by handler _ r = not_sent

-- all calls that the poster has made, as a choreographer is told of them
abbrev pub sends_by : ℕ → Sender → List Sending
sends_by handler p = map (λ (e : Entry). told_by handler e.call e.reply) (own p)

-- the origin that a host has, by its parts
abbrev pub origin_of : {U : Type 0} → Shared TableId → TableId → ℕ → ℕ → Sender → Tally → ℕ → ℕ → U → HostOrigin U
origin_of queue pool poster_name pass_name poster pass handler now uptime =
    record {
      queue = queue;
      pool = pool;
      poster_name = poster_name;
      pass_name = pass_name;
      poster = poster;
      pass = pass;
      handler = handler;
      now = now;
      uptime = uptime;
    }

-- the origin of a host
abbrev pub origin_now : {R U : Type 0} → Host R U → HostOrigin U
origin_now h = origin_of h.queue.now h.pool.now h.poster.ghost_name h.pass.ghost_name h.began.now.value h.pass_began.now.value h.handler.id h.now h.uptime.now

-- the host's poster and pass are those of its origin, and have gone on
abbrev pub IsHostNow : {R U : Type 0} → Host R U → Type 0
IsHostNow h = IsHost (origin_now h) h.poster.now h.pass.now

-- the same host
abbrev pub IsSameHost : {R U : Type 0} → Host R U → Host R U → Type 0
IsSameHost before after = origin_now after ≡ origin_now before

-- the same host, whose poster and pass have gone on
pub record StaysHost {R U : Type 0} (before after : Host R U) : Type 0 where
  pub ready : IsHostNow after
  pub origin : IsSameHost before after

-- all calls that the host's poster has made, as a choreographer is told of them
abbrev pub sends_of : {R U : Type 0} → Host R U → List Sending
sends_of h = sends_by h.handler.id h.poster.now

-- a callback was placed, with memory for all that it takes
abbrev pub IsPlaced : Placed → Type 0
IsPlaced placed.Asked = Unit {0}
IsPlaced placed.Sent = Unit {0}
IsPlaced placed.Already = Unit {0}
IsPlaced placed.Refused = Unit {0}
IsPlaced placed.NoMemory = ⊥

-- memory ran out as a callback was placed
abbrev pub IsUnplaced : Placed → Type 0
IsUnplaced placed.Asked = ⊥
IsUnplaced placed.Sent = ⊥
IsUnplaced placed.Already = ⊥
IsUnplaced placed.Refused = ⊥
IsUnplaced placed.NoMemory = Unit {0}

-- a frame callback was placed at this moment of a host, whose sends were the one list and are the other
abbrev pub PlacesBy : Pass → Pass → ℕ → List Sending → List Sending → ℕ → ℕ → ℕ → Type 0
PlacesBy before after u sends sends' phase id delay =
    (r : Placed) × IsPlaced r × CallbackPostedBy before after (λ n. n == nanos_of u) sends sends' phase id None delay r

-- memory ran out as a frame callback was placed: nothing was sent, and at most the posting itself was done
abbrev pub PlacesNot : Pass → Pass → ℕ → List Sending → List Sending → ℕ → ℕ → ℕ → Type 0
PlacesNot before after u sends sends' phase id delay =
    (r : Placed) × IsUnplaced r × CallbackPostedBy before after (λ n. n == nanos_of u) sends sends' phase id None delay r

-- what the turns of a pass asked its choreographer for, in order
abbrev pub pass_asks : Pass → List FrameAsk
pass_asks p = asks_in p.view.own

-- the pass asked for this too, and for nothing else
abbrev pub AsksFor : FrameAsk → Pass → Pass → Type 0
AsksFor ask before after = pass_asks after ≡ pass_asks before ++ ask ∷ []

-- a frame callback was posted by this handler in one turn, at an uptime with a delay: with a delay the sender posted the message for its due time, and else it
-- made no call
pub record PostsFrame (handler u phase id delay : ℕ) (before after : Sender) (pass pass' : Pass) : Type 0 where
  pub calls : MatchBool (delay == 0) (own after ≡ own before)
      (Makes before after
      (Post (record { handler = handler; what = 2; arg = phase; obj = None; callback = None; when = frame_due u delay; asynchronous = true; slot = None })) [])
  pub asks : AsksFor (Posts phase (frame_due u delay) id None) pass pass'
  pub turn : pass'.view.turns ≡ pass.view.turns + 1
