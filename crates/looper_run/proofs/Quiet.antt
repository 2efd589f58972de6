-- Acts of one kind that were appended.
use Rattle.std.proofs.Common.{◌≡◌, List, [], ◌∷◌, map, All, get_or, sym, ◌∙◌, arith}
use Rattle.std.proofs.lemmas.List.{append-nil}
use Rattle.std.proofs.lemmas.List.Elements.{All-cons}
use Rattle.loop_model.specs.declared.journal.Act.{Act}
use Rattle.loop_model.specs.declared.journal.Act.TheVariants.{Dispatch, Idle, Event, Vsync, Paint}
use Rattle.looper_run.specs.Acts.{IsQuietAct, IsIdleAct, GrowsBy}
use Rattle.looper_run.specs.Asked.{Listening, event_act, TellsOf}

idle_is_quiet : (a : Act) → IsIdleAct a → IsQuietAct a
idle_is_quiet (Dispatch n now route) h = absurd h
idle_is_quiet (Idle i k) h = tt
idle_is_quiet (Event f e m) h = absurd h
idle_is_quiet (Vsync s) h = absurd h
idle_is_quiet (Paint g v) h = absurd h

heard_are_quiet : (heard : List Listening) → All IsQuietAct (map event_act heard)
heard_are_quiet [] = λ k d near. absurd (omega (arith, near))
heard_are_quiet (h ∷ heard) = All-cons IsQuietAct (event_act h) (map event_act heard) tt (heard_are_quiet heard)

grows_weaker : (P Q : Act → Type 0) (xs ys : List Act) → ((a : Act) → P a → Q a) → GrowsBy P xs ys → GrowsBy Q xs ys
grows_weaker P Q xs ys weaker grows = (grows.0, grows.1, λ k d near. weaker (get_or grows.0 k d) (grows.2 k d near))

pub quiet_idle : (xs ys : List Act) → GrowsBy IsIdleAct xs ys → GrowsBy IsQuietAct xs ys
quiet_idle xs ys grows = grows_weaker IsIdleAct IsQuietAct xs ys idle_is_quiet grows

pub quiet_events : (called : List Listening → Type 0) (xs ys : List Act) → TellsOf called xs ys → GrowsBy IsQuietAct xs ys
quiet_events called xs ys told = (map event_act told.0, told.1, heard_are_quiet told.0)

pub grows_none : (P : Act → Type 0) (xs ys : List Act) → ys ≡ xs → GrowsBy P xs ys
grows_none P xs ys same = ([], same ∙ sym (append-nil xs), λ k d near. absurd (omega (arith, near)))
