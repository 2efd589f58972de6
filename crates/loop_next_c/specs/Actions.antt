-- What a message loop does next: a table.
use Rattle.std.specs.Prelude.{ℕ, Bool, true, false, ◌==◌, ◌&&◌, ◌||◌, ◌/◌, not, nat_le, if◌then◌else◌, List, [], ◌∷◌}
use Rattle.loop_next_c.specs.declared.situation.Situation.{Situation}

-- the kinds of what a queue answers to a look
abbrev pub not_looked : ℕ
not_looked = 0

abbrev pub taken : ℕ
taken = 16

abbrev pub idle : ℕ
idle = 17

abbrev pub waits : ℕ
waits = 18

abbrev pub waits_forever : ℕ
waits_forever = 19

-- the kinds of an action
abbrev pub run_events : ℕ
run_events = 1

abbrev pub deliver_vsync : ℕ
deliver_vsync = 2

abbrev pub run_frame : ℕ
run_frame = 3

abbrev pub look_at_queue : ℕ
look_at_queue = 4

abbrev pub handle_message : ℕ
handle_message = 5

abbrev pub run_idle : ℕ
run_idle = 6

abbrev pub wait : ℕ
wait = 7

abbrev pub stop : ℕ
stop = 8

-- any other kind of answer ends the loop: the queue has quit, or is not open
abbrev pub has_stopped : ℕ → Bool
has_stopped look = not (look == not_looked || look == taken || look == idle || look == waits || look == waits_forever)

-- the pulse that is asked for has come
abbrev pub is_pulse_due : Situation → Bool
is_pulse_due s = s.has_pulse && nat_le s.pulse s.moment

-- the queue was not looked at, or the time that it waited for has come, which is in milliseconds
abbrev pub is_to_look : Situation → Bool
is_to_look s = s.look == not_looked || (s.look == waits && nat_le s.time (s.moment / 1000000))

-- a row of the table: where it holds, this is to be done
pub record ActionRow : Type 0 where
  pub holds : Bool
  pub action : ℕ

abbrev pub row : Bool → ℕ → ActionRow
row holds action = record { holds = holds; action = action }

-- the table: what was taken out of the queue goes before all, then what came, and last a new look
abbrev pub table : Situation → List ActionRow
table s =
    row (s.look == taken) handle_message
    ∷ row (s.look == idle) run_idle
    ∷ row (has_stopped s.look) stop
    ∷ row s.events run_events
    ∷ row (is_pulse_due s) deliver_vsync
    ∷ row s.frame_owed run_frame
    ∷ row (is_to_look s) look_at_queue
    ∷ []

-- the first row that holds; where none does the loop waits
abbrev pub first_of : List ActionRow → ℕ
first_of [] = wait
first_of (first ∷ rest) = if first.holds then first.action else first_of rest

abbrev pub next_action : Situation → ℕ
next_action s = first_of (table s)

-- a message makes an idle turn owed, and such a turn ends that
abbrev pub owes_idle : ℕ → Bool → Bool
owes_idle action before = if action == handle_message then true else (if action == run_idle then false else before)

-- what is left for the next call: no look stands any more, and whether an idle turn is owed
abbrev pub afterwards : Situation → Situation
afterwards s = record s { look = not_looked; idle_owed = owes_idle (next_action s) s.idle_owed }
