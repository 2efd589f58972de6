-- How C sees what a call answers.
use Rattle.std.specs.Prelude.{◌≡◌, ℕ, Bool, true, false, List, [], Some, None, length}
use Rattle.loop_model.specs.declared.item.Item.{Item}
use Rattle.loop_model.specs.declared.item.Item.TheVariants.{Post as Message, Barrier as SyncBarrier}
use Rattle.message_slot.specs.declared.claim.NoClaim.{NoClaim}
use Rattle.message_slot.specs.Letter.{Letter, post_of, blank}
use Rattle.queue_state.specs.Queue.{Queue}
use Rattle.queue_state.specs.Calls.{Posts, PostsBarrier, Unbars, Takes, Quits, Looks}
use Rattle.queue_state.specs.declared.answers.Posted.{Posted}
use Rattle.queue_state.specs.declared.answers.Posted.TheVariants as posted
use Rattle.queue_state.specs.declared.answers.Nexted.{Nexted}
use Rattle.queue_state.specs.declared.answers.Nexted.TheVariants as nexted
use Rattle.queue_state.specs.declared.answers.BarrierPosted.{BarrierPosted}
use Rattle.queue_state.specs.declared.answers.BarrierPosted.TheVariants as barred
use Rattle.queue_state.specs.declared.answers.BarrierGone.{BarrierGone}
use Rattle.queue_state.specs.declared.answers.BarrierGone.TheVariants as gone
use Rattle.queue_state.specs.declared.answers.Taking.{Taking}
use Rattle.queue_state.specs.declared.answers.Taking.TheVariants as taking
use Rattle.queue_state.specs.declared.answers.Quitting.{Quitting}
use Rattle.queue_state.specs.declared.answers.Quitting.TheVariants as quitting
use Rattle.message_queue_c.specs.declared.answers.MqAnswer.{MqAnswer}
use Rattle.message_queue_c.specs.declared.answers.MqNext.{MqNext}
use Rattle.message_queue_c.specs.declared.message.MqMessage.{MqMessage}
use Rattle.message_queue_c.specs.declared.message.MqFilter.{MqFilter}
use Rattle.message_queue_c.specs.Messages.{fields_of, letter_by, filter_by}
use Rattle.message_queue_c.specs.Joined.{joined}

-- a queue of C
abbrev pub Q : Type 0
Q = Queue (Unit {0}) NoClaim

abbrev pub Letters : Type 0
Letters = List (Letter NoClaim)

-- the answer of this kind
abbrev pub answer_as : ℕ → ℕ → Bool → MqAnswer
answer_as k n wake = record { number = n; kind = k; wake = wake }

abbrev pub done_kind : ℕ
done_kind = 0

abbrev pub no_memory_kind : ℕ
no_memory_kind = 1

abbrev pub refused_kind : ℕ
refused_kind = 2

abbrev pub not_posted_kind : ℕ
not_posted_kind = 3

abbrev pub already_quit_kind : ℕ
already_quit_kind = 4

abbrev pub not_allowed_kind : ℕ
not_allowed_kind = 5

abbrev pub not_open_kind : ℕ
not_open_kind = 6

abbrev pub IsNotOpen : MqAnswer → Type 0
IsNotOpen r = r ≡ answer_as not_open_kind 0 false

abbrev pub shown_post : Posted NoClaim (Unit {0}) → MqAnswer
shown_post (posted.Accepted n wake) = answer_as done_kind n wake
shown_post (posted.Refused place node) = answer_as refused_kind place false
shown_post (posted.NoMemory node) = answer_as no_memory_kind 0 false

abbrev pub shown_barrier : BarrierPosted NoClaim (Unit {0}) → MqAnswer
shown_barrier (barred.Token t) = answer_as done_kind t false
shown_barrier (barred.NoMemory node) = answer_as no_memory_kind 0 false

abbrev pub shown_gone : BarrierGone NoClaim (Unit {0}) → MqAnswer
shown_gone (gone.Unbarriered node wake) = answer_as done_kind 0 wake
shown_gone gone.NotPosted = answer_as not_posted_kind 0 false
shown_gone gone.NoMemory = answer_as no_memory_kind 0 false

abbrev pub shown_taking : Taking NoClaim (Unit {0}) → MqAnswer
shown_taking (taking.Removed list) = answer_as done_kind (length list) false
shown_taking taking.NoMemory = answer_as no_memory_kind 0 false

abbrev pub shown_quit : Quitting NoClaim (Unit {0}) → MqAnswer
shown_quit (quitting.Done list) = answer_as done_kind (length list) true
shown_quit (quitting.AlreadyQuit place) = answer_as already_quit_kind place false
shown_quit quitting.NotAllowed = answer_as not_allowed_kind 0 false
shown_quit quitting.NoMemory = answer_as no_memory_kind 0 false

abbrev pub taken_kind : ℕ
taken_kind = 16

abbrev pub idle_kind : ℕ
idle_kind = 17

abbrev pub wait_kind : ℕ
wait_kind = 18

abbrev pub wait_forever_kind : ℕ
wait_forever_kind = 19

abbrev pub end_kind : ℕ
end_kind = 20

abbrev pub over_kind : ℕ
over_kind = 21

abbrev pub barrier_kind : ℕ
barrier_kind = 22

abbrev pub nothing_kind : ℕ
nothing_kind = 23

abbrev pub look_not_open_kind : ℕ
look_not_open_kind = 24

-- a message of which nothing is set
abbrev pub no_message : MqMessage
no_message = record { when = 0; obj = 0; callback = 0; handler = 0; what = 0; arg = 0; has_obj = false; has_callback = false; asynchronous = false }

-- the look of this kind that takes no message
abbrev pub look_as : ℕ → ℕ → ℕ → MqNext
look_as k n t = record { message = no_message; number = n; time = t; kind = k }

abbrev pub HasNotOpen : MqNext → Type 0
HasNotOpen r = r ≡ look_as look_not_open_kind 0 0

-- what was dropped: a message with its number, or a barrier with its token and its moment
abbrev pub shown_dropped : Item → MqNext
shown_dropped (Message n p) = record { message = fields_of p; number = n; time = 0; kind = taken_kind }
shown_dropped (SyncBarrier t w) = look_as barrier_kind t w

abbrev pub shown_next : Nexted NoClaim (Unit {0}) → MqNext
shown_next (nexted.Taken n at node) = record { message = fields_of (post_of node.item); number = n; time = at; kind = taken_kind }
shown_next nexted.Idle = look_as idle_kind 0 0
shown_next (nexted.Wait (Some t)) = look_as wait_kind 0 t
shown_next (nexted.Wait None) = look_as wait_forever_kind 0 0
shown_next (nexted.End list) = look_as end_kind (length list) 0
shown_next nexted.Over = look_as over_kind 0 0

-- what an answer hands out for good
abbrev pub taking_drops : Taking NoClaim (Unit {0}) → Letters
taking_drops (taking.Removed list) = list
taking_drops taking.NoMemory = []

abbrev pub quit_drops : Quitting NoClaim (Unit {0}) → Letters
quit_drops (quitting.Done list) = list
quit_drops (quitting.AlreadyQuit place) = []
quit_drops quitting.NotAllowed = []
quit_drops quitting.NoMemory = []

abbrev pub next_drops : Nexted NoClaim (Unit {0}) → Letters
next_drops (nexted.Taken n at node) = []
next_drops nexted.Idle = []
next_drops (nexted.Wait until) = []
next_drops (nexted.End list) = list
next_drops nexted.Over = []

-- the call of the library that each call of C makes, with some answer that C sees so
abbrev pub PostShown : Q → MqMessage → MqAnswer → Q → Type 0
PostShown x m r y = (a : Posted NoClaim (Unit {0})) × Posts x 0 (letter_by m) a y × (r ≡ shown_post a)

abbrev pub BarrierShown : Q → ℕ → MqAnswer → Q → Type 0
BarrierShown x now r y = (a : BarrierPosted NoClaim (Unit {0})) × PostsBarrier x 0 now blank a y × (r ≡ shown_barrier a)

abbrev pub GoneShown : Q → ℕ → MqAnswer → Q → Type 0
GoneShown x token r y = (a : BarrierGone NoClaim (Unit {0})) × Unbars x 0 token a y × (r ≡ shown_gone a)

-- the same of a call that may drop messages: the answer's list is put behind what waits to be handed out
abbrev pub TakingShown : Q → MqFilter → MqAnswer → Q → Letters → Letters → Type 0
TakingShown x f r y ds es = (a : Taking NoClaim (Unit {0})) × Takes x 0 (filter_by f) a y × (r ≡ shown_taking a) × (es ≡ joined ds (taking_drops a))

abbrev pub QuitShown : Q → Bool → ℕ → MqAnswer → Q → Letters → Letters → Type 0
QuitShown x safe now r y ds es = (a : Quitting NoClaim (Unit {0})) × Quits x 0 safe now a y × (r ≡ shown_quit a) × (es ≡ joined ds (quit_drops a))

abbrev pub NextShown : Q → ℕ → Bool → MqNext → Q → Letters → Letters → Type 0
NextShown x now idle r y ds es = (a : Nexted NoClaim (Unit {0})) × Looks x 0 now idle a y × (r ≡ shown_next a) × (es ≡ joined ds (next_drops a))
