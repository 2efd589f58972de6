-- The queue of an inbox run, the two that call it, and what each call adds to its history.
use Rattle.std.specs.Prelude.{◌≡◌, ◌<◌, ◌≤◌, ◌+◌, ◌⊎◌, ℕ, true, List, [], ◌∷◌, ◌++◌, Option, Some, None, option_map, min}
use Rattle.std.specs.List.{AllByRecursion}
use mathlib.Core.List.{IsPrefix}
use Rattle.loop_model.specs.declared.post.Post.{Post as PostData}
use Rattle.loop_model.specs.declared.call.Call.TheVariants.{Post, Next, Advance, Halt}
use Rattle.loop_model.specs.declared.reply.Reply.TheVariants.{Advanced, Halted}
use Rattle.loop_model.specs.declared.entry.Entry.{Entry}
use Rattle.loop_model.specs.Base.{empty_base}
use Rattle.loop_model.specs.Answers.{clock, quit_place}
use Rattle.loop_model.specs.Items.{when_of}
use Rattle.loop_model.specs.Pick.{first_eligible}
use Rattle.shared_queue.specs.Known.{IsOf, IsSamePoster}
use Rattle.run_model.specs.Planned.{entries_by}
use Rattle.dash_script.specs.declared.script.Script.{Script}
use Rattle.run_model.specs.Control.{is_called_in_time, is_controlled, ends_halted, is_advance, each_behind, is_planned_time, is_fresh, is_reached}
use Rattle.loop_model.specs.Entries.{moment_of}
use Rattle.inbox_queue.specs.declared.parcel.Parcel.{Parcel}
use Rattle.inbox_queue.specs.declared.main_queue.Place.{Place}
use Rattle.inbox_queue.specs.declared.main_queue.Hands.{Hands}
use Rattle.inbox_queue.specs.declared.main_queue.Look.{Look}
use Rattle.inbox_queue.specs.declared.main_queue.Look.TheVariants.{Taken, Waits, Other}
use Rattle.inbox_queue.specs.declared.main_queue.Move.{Move}
use Rattle.inbox_queue.specs.declared.main_queue.Move.TheVariants.{There, Stays, NoMemory}
use Rattle.inbox_queue.specs.InboxRun.{unslotted, IsPostOrLook, posts_made, posts_at, is_posting, post_comes_first, moves_as_planned}

-- how many threads there are: their senders' numbers are below that of the looper
abbrev pub threads_of : Hands → ℕ
threads_of h = h.looper.sender

-- what the looper and the controller have seen of the history
abbrev pub seen : Hands → List Entry
seen h = h.looper.view.seen

-- the posters are the looper's and the controller's, of the main looper's queue in lockstep, and the pass is of its pool; both have seen the same, and the
-- history stands in one part
pub record HandsAreAt (place : Place) (h : Hands) : Type 0 where
  pub looper : IsOf h.looper place.queue
  pub controller : IsOf h.controller place.queue
  pub number : h.controller.sender ≡ threads_of h + 1
  pub setting : place.queue.constants.setting ≡ record { main = true; lockstep = true; senders = threads_of h + 2 }
  pub pass : h.pass.home ≡ place.pool
  pub home : place.queue.constants.home ≡ place.pool
  pub same : h.controller.view.seen ≡ seen h
  pub whole : h.controller.view.sealed ≡ []

-- where one had seen no more than the other, both have now seen what the other had
abbrev pub HeardEachOther : List Entry → List Entry → List Entry → List Entry → Type 0
HeardEachOther less more looper controller = IsPrefix less more → (looper ≡ more) × (controller ≡ more)

-- the controller is as before, and the looper and the pass are still those of this place
abbrev pub IsSameButLooper : Place → Hands → Hands → Type 0
IsSameButLooper place before after =
    (after.controller ≡ before.controller) × (after.pass.home ≡ place.pool) × IsOf after.looper place.queue × (after.looper.sender ≡ before.looper.sender)

-- the posters are the same but for what they have seen, and so is the pass
abbrev pub AreSameHands : Hands → Hands → Type 0
AreSameHands before after =
    IsSamePoster before.looper after.looper × IsSamePoster before.controller after.controller × (after.pass ≡ before.pass)

-- no thread has an entry
abbrev pub AreSilent : ℕ → List Entry → Type 0
AreSilent threads es = (k : ℕ) → k < threads → entries_by k es ≡ []

-- the time of such a history
abbrev pub time_after : List Entry → ℕ
time_after es = clock (empty_base 0) es

-- where no thread has an entry now, none had one before, and this holds of the two histories
abbrev pub Leads : (List Entry → List Entry → Type 0) → Hands → Hands → Type 0
Leads R before after = AreSilent (threads_of before) (seen after) → AreSilent (threads_of before) (seen before) × R (seen before) (seen after)

-- one more entry of this sender, by a call of this kind
abbrev pub GrowsByEntry : ℕ → (Entry → Type 0) → List Entry → List Entry → Type 0
GrowsByEntry sender Is past now = (e : Entry) × (now ≡ past ++ e ∷ []) × (e.sender ≡ sender) × Is e

-- a look at this time
abbrev pub IsLookEntry : ℕ → Entry → Type 0
IsLookEntry time e = e.call ≡ Next time

abbrev pub IsMoveTo : ℕ → Entry → Type 0
IsMoveTo time e = (e.call ≡ Advance time) × (e.reply ≡ Advanced)

abbrev pub IsHaltAt : ℕ → Entry → Type 0
IsHaltAt time e = (e.call ≡ Halt time) × (e.reply ≡ Halted)

abbrev pub IsPostOf : PostData → Entry → Type 0
IsPostOf p e = (q : PostData) × (e.call ≡ Post q) × (unslotted q ≡ unslotted p)

-- a look of the looper, by its answer
abbrev pub LooksOn : ℕ → Look → List Entry → List Entry → Type 0
LooksOn threads Taken past now = GrowsByEntry threads (IsLookEntry (time_after past)) past now
LooksOn threads (Waits until) past now =
    (now ≡ past) × (until ≡ option_map when_of (first_eligible (empty_base 0) past)) × (quit_place (empty_base 0) past ≡ None)
LooksOn threads Other past now = (now ≡ past) ⊎ GrowsByEntry threads (IsLookEntry (time_after past)) past now

-- a move of the time by the controller, by its answer
abbrev pub MovesTime : ℕ → ℕ → Move → List Entry → List Entry → Type 0
MovesTime threads time There past now =
    ((now ≡ past) × (time ≤ time_after past)) ⊎ (GrowsByEntry (threads + 1) (IsMoveTo time) past now × (time_after past < time))
MovesTime threads time Stays past now = now ≡ past
MovesTime threads time NoMemory past now = now ≡ past

-- the looper's calls are posts and looks, and the controller's moves of the time, none past the end, nor past a message that may be dispatched; each move is
-- planned, and posts come first at their time
pub record Goes (threads : ℕ) (s : Script) (es : List Entry) : Type 0 where
  pub looks : AllByRecursion (λ e. IsPostOrLook e.call) (entries_by threads es)
  pub moves : AllByRecursion (λ e. (is_advance e.call ≡ true) × (moment_of e.call ≤ s.end)) (entries_by (threads + 1) es)
  pub timely : is_called_in_time (threads + 1) es ≡ true
  pub first : each_behind post_comes_first [] es ≡ true
  pub planned : each_behind (moves_as_planned s) [] es ≡ true

-- the looper waits for the first message that may be dispatched, if there is one
abbrev pub WaitsForFirst : Option ℕ → List Entry → Type 0
WaitsForFirst until es = (until ≡ option_map when_of (first_eligible (empty_base 0) es)) × (quit_place (empty_base 0) es ≡ None)

-- each time that was reached stays so
abbrev pub KeepsReached : List Entry → List Entry → Type 0
KeepsReached past now = (time : ℕ) → is_reached time past ≡ true → is_reached time now ≡ true

-- the looper has looked for messages, and nothing else happened
pub record LookedAlone (threads : ℕ) (past now : List Entry) : Type 0 where
  pub goes : (s : Script) → Goes threads s past → Goes threads s now
  pub posts : posts_made threads now ≡ posts_made threads past
  pub time : time_after now ≡ time_after past
  pub kept : KeepsReached past now

-- the looper has looked for messages until it waits
abbrev pub HasDrained : ℕ → Option ℕ → List Entry → List Entry → Type 0
HasDrained threads until past now = LookedAlone threads past now × WaitsForFirst until now

-- the looper has looked for messages, and the time was moved on, no further than to this one
pub record HasDriven (threads time : ℕ) (past now : List Entry) : Type 0 where
  pub goes : (s : Script) → time ≤ s.end → is_planned_time s time ≡ true → Goes threads s past → Goes threads s now
  pub posts : posts_made threads now ≡ posts_made threads past
  pub within : time_after past ≤ time → time_after now ≤ time
  pub kept : KeepsReached past now

-- the same, and the time is still before this one where it was
abbrev pub IsStillBefore : ℕ → ℕ → List Entry → List Entry → Type 0
IsStillBefore threads time past now = HasDriven threads time past now × (time_after past < time → time_after now < time)

-- the time was moved on to this one, if it wasn't later, and what was due on the way was taken; where it was before this one, nothing
-- has come since that move, and for the time 0 nothing was done
pub record HasMoved (threads time : ℕ) (past now : List Entry) : Type 0 where
  pub driven : HasDriven threads time past now
  pub least : time ≤ time_after now
  pub fresh : time_after past < time → is_fresh is_posting now ≡ true
  pub reached : time_after past < time → is_reached time now ≡ true
  pub start : time ≡ 0 → now ≡ past

-- the looper has posted what these parcels hold, in order
pub record HasPosted (threads : ℕ) (parcels : List Parcel) (past now : List Entry) : Type 0 where
  pub goes : (s : Script) → is_fresh is_posting past ≡ true → Goes threads s past → Goes threads s now
  pub fresh : is_fresh is_posting past ≡ true → is_fresh is_posting now ≡ true
  pub posts : posts_made threads now ≡ posts_made threads past ++ posts_at (time_after past) parcels
  pub time : time_after now ≡ time_after past
  pub kept : KeepsReached past now

-- the history is at its end
pub record MainHasEnded (threads : ℕ) (s : Script) (es : List Entry) : Type 0 where
  pub looks : AllByRecursion (λ e. IsPostOrLook e.call) (entries_by threads es)
  pub controlled : is_controlled true true (threads + 1) s.end es ≡ true
  pub timely : is_called_in_time (threads + 1) es ≡ true
  pub first : each_behind post_comes_first [] es ≡ true
  pub planned : each_behind (moves_as_planned s) [] es ≡ true
  pub halted : ends_halted es ≡ true

-- what was due was taken, and the queue was halted at its time
pub record HasHalted (threads : ℕ) (past now : List Entry) : Type 0 where
  pub ends : (s : Script) → time_after past ≡ s.end → Goes threads s past → MainHasEnded threads s now
  pub posts : posts_made threads now ≡ posts_made threads past
  pub kept : KeepsReached past now

-- the time is that one or the moment, whichever comes first
abbrev pub IsEarlier : Option ℕ → ℕ → ℕ → Type 0
IsEarlier None time result = result ≡ time
IsEarlier (Some until) time result = result ≡ min until time
