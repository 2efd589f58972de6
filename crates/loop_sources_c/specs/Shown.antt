-- How C sees what a call answers.
use Rattle.std.specs.Prelude.{◌≡◌, ℕ, Bool, true, ◌&&◌, not, nat_lt, [], ◌∷◌, Option, Some, None, Result, Ok, Err, length, if◌then◌else◌}
use Rattle.std.specs.List.{list_any}
use Rattle.loop_model.specs.declared.memory.NoMemory.{NoMemory}
use Rattle.loop_sources.specs.Idle.{has_id, has_serial, with_handler, without_first}
use Rattle.loop_sources.specs.Descriptors.{after_set, with_event, stands, after_answer, next_event, without_event}
use Rattle.loop_sources.specs.declared.idle.IdleTurn.{IdleTurn}
use Rattle.loop_sources.specs.declared.descriptors.Event.{Event}
use Rattle.loop_sources.specs.declared.descriptors.Event.TheVariants.{Ignored, Call}
use Rattle.loop_sources_c.specs.declared.answers.SourceAnswer.{SourceAnswer}
use Rattle.loop_sources_c.specs.declared.answers.SourceLook.{SourceLook}
use Rattle.loop_sources_c.specs.Contents.{Contents}

-- the answer of this kind
abbrev pub answer_as : ℕ → ℕ → SourceAnswer
answer_as kind number = record { number = number; kind = kind }

abbrev pub done_kind : ℕ
done_kind = 0

abbrev pub nothing_kind : ℕ
nothing_kind = 1

abbrev pub idle_kind : ℕ
idle_kind = 2

abbrev pub event_kind : ℕ
event_kind = 3

abbrev pub ignored_kind : ℕ
ignored_kind = 4

abbrev pub no_memory_kind : ℕ
no_memory_kind = 5

abbrev pub bad_mask_kind : ℕ
bad_mask_kind = 6

abbrev pub not_open_kind : ℕ
not_open_kind = 7

abbrev pub closed_kind : ℕ
closed_kind = 8

abbrev pub IsNotOpen : SourceAnswer → Type 0
IsNotOpen r = r ≡ answer_as not_open_kind 0

-- the look of this kind, with nothing else
abbrev pub look_as : ℕ → SourceLook
look_as kind = record { number = 0; birth = 0; id = 0; fd = 0; events = 0; kind = kind }

abbrev pub HasNotOpen : SourceLook → Type 0
HasNotOpen r = r ≡ look_as not_open_kind

-- an answer, or out of memory
abbrev pub shown : Result SourceAnswer NoMemory → SourceAnswer
shown (Ok r) = r
shown (Err e) = answer_as no_memory_kind 0

-- done, or there is none
abbrev pub shown_found : Bool → SourceAnswer
shown_found b = answer_as (if b then done_kind else nothing_kind) 0

-- an adding, and a beginning of a turn
abbrev pub Adds : Contents → ℕ → Result SourceAnswer NoMemory → Contents → Type 0
Adds a id (Ok r) b = (r ≡ answer_as done_kind a.idles.added) × (b ≡ record a { idles = with_handler a.idles id true })
Adds a id (Err e) b = b ≡ a

abbrev pub Turns : Contents → Result SourceAnswer NoMemory → Contents → Type 0
Turns a (Ok r) b = (r ≡ answer_as done_kind (length a.idles.handlers)) × (b ≡ record a { turns = a.idles.handlers })
Turns a (Err e) b = b ≡ a

-- a removal
abbrev pub RemovesIdle : Contents → ℕ → SourceAnswer → Contents → Type 0
RemovesIdle a id r b =
    (r ≡ shown_found (list_any (has_id id) a.idles.handlers))
    × (b ≡ record a { idles = record a.idles { handlers = without_first (has_id id) a.idles.handlers } })

-- the first handler of the turn that was not handed out yet
abbrev pub shown_turn : Option IdleTurn → SourceLook
shown_turn None = look_as nothing_kind
shown_turn (Some t) = record { number = t.serial; birth = 0; id = t.id; fd = 0; events = 0; kind = idle_kind }

abbrev pub HandsOut : Contents → Option IdleTurn → Contents → Type 0
HandsOut a None b = (a.turns ≡ []) × (b ≡ a)
HandsOut a (Some t) b = (a.turns ≡ t ∷ b.turns) × (b ≡ record a { turns = b.turns })

abbrev pub TurnShown : SourceLook → Contents → Contents → Type 0
TurnShown r a b = (t : Option IdleTurn) × HandsOut a t b × (r ≡ shown_turn t)

-- a handler's answer
abbrev pub Finishes : Contents → ℕ → Bool → SourceAnswer → Contents → Type 0
Finishes a serial kept r b =
    (r ≡ shown_found (not kept && list_any (has_serial serial) a.idles.handlers))
    × (b ≡ (if kept then a else record a { idles = record a.idles { handlers = without_first (has_serial serial) a.idles.handlers } }))

-- whether it is a sum of the bits of a mask
abbrev pub is_mask : ℕ → Bool
is_mask mask = nat_lt mask 8

-- a registration, and an event that is handed in
abbrev pub Watches : Contents → ℕ → ℕ → ℕ → Result SourceAnswer NoMemory → Contents → Type 0
Watches a fd mask id (Ok r) b =
    (r ≡ answer_as (if is_mask mask then done_kind else bad_mask_kind) 0)
    × (b ≡ (if is_mask mask then record a { fds = after_set a.fds fd mask id } else a))
Watches a fd mask id (Err e) b = b ≡ a

abbrev pub HandsIn : Contents → ℕ → ℕ → Result SourceAnswer NoMemory → Contents → Type 0
HandsIn a fd events (Ok r) b =
    (r ≡ answer_as (if is_mask events then done_kind else bad_mask_kind) 0)
    × (b ≡ (if is_mask events then record a { fds = with_event a.fds fd events } else a))
HandsIn a fd events (Err e) b = b ≡ a

abbrev pub shown_event : Option Event → SourceLook
shown_event None = look_as nothing_kind
shown_event (Some Ignored) = look_as ignored_kind
shown_event (Some (Call fd events birth seq id)) = record { number = seq; birth = birth; id = id; fd = fd; events = events; kind = event_kind }

-- the oldest event that waits is handed out
abbrev pub HandsOutEvent : SourceLook → Contents → Contents → Type 0
HandsOutEvent r a b = (r ≡ shown_event (next_event a.fds)) × (b ≡ record a { fds = without_event a.fds })

-- a listener's answer
abbrev pub AnswersEvent : Contents → ℕ → ℕ → ℕ → ℕ → SourceAnswer → Contents → Type 0
AnswersEvent a fd birth seq mask r b =
    (r ≡ (if is_mask mask then shown_found (stands a.fds fd birth seq) else answer_as bad_mask_kind 0))
    × (b ≡ (if is_mask mask && stands a.fds fd birth seq then record a { fds = after_answer a.fds fd mask } else a))

-- what is watched for
abbrev pub shown_mask : Option ℕ → SourceAnswer
shown_mask None = answer_as nothing_kind 0
shown_mask (Some mask) = answer_as done_kind mask

-- what each call of C does, with some answer of the library that C sees so
abbrev pub Shows : (Result SourceAnswer NoMemory → Contents → Type 0) → SourceAnswer → Contents → Type 0
Shows does r b = (s : Result SourceAnswer NoMemory) × does s b × (r ≡ shown s)
