-- What passes a test of all that a looper may have come to by its acts, whichever frames they ran.
use Rattle.std.proofs.Common.{◌≡◌, ◌+◌, ℕ, zero, suc, Bool, true, false, List, [], ◌∷◌, ◌++◌, Option, Some, None, refl, sym, ap, subst, arith, length, eq-eqb}
use Rattle.std.specs.Prelude.{◌==◌, ◌&&◌, ◌||◌, not, is_some, nat_le, slice_get, if◌then◌else◌}
use Rattle.std.specs.List.{list_any}
use Rattle.std.specs.Option.{option_map_or}
use Rattle.std.proofs.Math.Bool.{or-true}
use Rattle.std.proofs.lemmas.Bool.{and_parts, and_from}
use Rattle.loop_model.specs.declared.entry.Entry.{Entry}
use Rattle.loop_model.specs.declared.journal.Act.{Act}
use Rattle.loop_model.specs.declared.journal.Act.TheVariants.{Dispatch, Idle, Event, Vsync, Paint}
use Rattle.loop_model.specs.Posts.{post_at}
use Rattle.frame_phases.specs.declared.entry.FrameEntry.{FrameEntry}
use Rattle.frame_phases.specs.Pulses.{comes_after}
use Rattle.dash_script.specs.declared.script.Script.{Script}
use Rattle.run_model.specs.Loopers.{LooperState, starts_frame, ActsLead, MayCome, after_act, dispatched}
use Rattle.run_model.specs.FrameRecords.{is_begin, has_stamp, was_wanted}

-- the places at which frames begin
abbrev begins_from : ℕ → List FrameEntry → List (Option ℕ)
begins_from n [] = []
begins_from n (e ∷ fs) = (if is_begin e then Some n ∷ [] else []) ++ begins_from (n + 1) fs

-- the frames that an act may run
abbrev choices : ℕ → List Entry → List FrameEntry → Act → List (Option ℕ)
choices q es fs (Dispatch n now route) = None ∷ (if option_map_or (starts_frame q) (post_at es n) false then begins_from 0 fs else [])
choices q es fs (Paint g v) = None ∷ []
choices q es fs (Vsync stamp) = None ∷ []
choices q es fs (Idle i k) = None ∷ []
choices q es fs (Event f e m) = None ∷ []

-- where it runs this frame, a dispatch paints as much as was painted just before
abbrev paints_so : Script → ℕ → List Entry → List FrameEntry → LooperState → Act → Option ℕ → Bool
paints_so s q es fs a (Dispatch n now route) frame = length (dispatched s q fs frame n now a (post_at es n)).painted == length a.painted
paints_so s q es fs a (Paint g v) frame = true
paints_so s q es fs a (Vsync stamp) frame = true
paints_so s q es fs a (Idle i k) frame = true
paints_so s q es fs a (Event f e m) frame = true

-- a frame that it runs has the stamp of the latest pulse, which awaits it, and a pulse comes after that one, once its frame is awaited no more, where it was wanted
abbrev stamped_so : List FrameEntry → LooperState → Act → Option ℕ → Bool
stamped_so fs a (Dispatch n now route) frame = has_stamp fs frame a.stamp && (not (is_some frame) || a.awaits)
stamped_so fs a (Paint g v) frame = true
stamped_so fs a (Vsync stamp) frame = comes_after a.stamp stamp && not a.awaits && was_wanted fs a.place stamp
stamped_so fs a (Idle i k) frame = true
stamped_so fs a (Event f e m) frame = true

-- something that the acts may lead to passes
abbrev pub any_led : (LooperState → Bool) → Script → ℕ → List Entry → List FrameEntry → LooperState → List Act → Bool
any_led passes s q es fs a [] = passes a
any_led passes s q es fs a (x ∷ xs) =
    list_any (λ (frame : Option ℕ). paints_so s q es fs a x frame && stamped_so fs a x frame && any_led passes s q es fs (after_act s q es fs frame a x) xs) (choices q es fs x)

begins_there : (test : Option ℕ → Bool) (n : ℕ) (fs : List FrameEntry) (place : ℕ) → option_map_or is_begin (slice_get fs place) false ≡ true
    → test (Some (n + place)) ≡ true → list_any test (begins_from n fs) ≡ true
begins_there test n [] place begins passes = cc
begins_there test n (e ∷ fs) zero begins passes =
    let now : test (Some n) ≡ true = subst (λ (m : ℕ). test (Some m) ≡ true) (omega arith) passes in
    rw begins (rw now refl)
begins_there test n (e ∷ fs) (suc place) begins passes =
    let rest = begins_there test (n + 1) fs place begins (subst (λ (m : ℕ). test (Some m) ≡ true) (omega arith) passes) in
    behind (is_begin e) rest
  where
    behind : (b : Bool) → list_any test (begins_from (n + 1) fs) ≡ true → list_any test ((if b then Some n ∷ [] else []) ++ begins_from (n + 1) fs) ≡ true
    behind true rest = rw (rest, or-true (test (Some n))) refl
    behind false rest = rest

only : (test : Option ℕ → Bool) (frame : Option ℕ) → frame ≡ None → test frame ≡ true → list_any test (None ∷ []) ≡ true
only test frame is passes = let now : test None ≡ true = subst (λ (o : Option ℕ). test o ≡ true) is passes in rw now refl

chosen : (s : Script) (q : ℕ) (es : List Entry) (fs : List FrameEntry) (frame : Option ℕ) (a : LooperState) (x : Act) (test : Option ℕ → Bool) → MayCome s q es fs frame a x → test frame ≡ true
    → list_any test (choices q es fs x) ≡ true
chosen s q es fs None a (Dispatch n now route) test comes passes = rw passes refl
chosen s q es fs (Some place) a (Dispatch n now route) test comes passes =
    let begins = (and_parts (nat_le a.place place) (option_map_or is_begin (slice_get fs place) false) comes.place).1 in
    let there = begins_there test 0 fs place begins (subst (λ (m : ℕ). test (Some m) ≡ true) (omega arith) passes) in
    behind (option_map_or (starts_frame q) (post_at es n) false) comes.starts there
  where
    behind : (b : Bool) → (not (is_some (Some place)) || b) ≡ true → list_any test (begins_from 0 fs) ≡ true → list_any test (None ∷ (if b then begins_from 0 fs else [])) ≡ true
    behind true starts there = rw (there, or-true (test None)) refl
    behind false starts there = cc (starts)
chosen s q es fs frame a (Paint g v) test comes passes = only test frame comes passes
chosen s q es fs frame a (Vsync stamp) test comes passes = only test frame comes.0 passes
chosen s q es fs frame a (Idle i k) test comes passes = only test frame comes.0 passes
chosen s q es fs frame a (Event f e m) test comes passes = only test frame comes.0 passes

paints_as_told : (s : Script) (q : ℕ) (es : List Entry) (fs : List FrameEntry) (frame : Option ℕ) (a : LooperState) (x : Act) → MayCome s q es fs frame a x → paints_so s q es fs a x frame ≡ true
paints_as_told s q es fs frame a (Dispatch n now route) comes = eq-eqb (length (dispatched s q fs frame n now a (post_at es n)).painted) (length a.painted) (ap length comes.painted)
paints_as_told s q es fs frame a (Paint g v) comes = refl
paints_as_told s q es fs frame a (Vsync stamp) comes = refl
paints_as_told s q es fs frame a (Idle i k) comes = refl
paints_as_told s q es fs frame a (Event f e m) comes = refl

stamped_as_told : (s : Script) (q : ℕ) (es : List Entry) (fs : List FrameEntry) (frame : Option ℕ) (a : LooperState) (x : Act) → MayCome s q es fs frame a x → stamped_so fs a x frame ≡ true
stamped_as_told s q es fs frame a (Dispatch n now route) comes = and_from (has_stamp fs frame a.stamp) (not (is_some frame) || a.awaits) comes.stamped comes.awaited
stamped_as_told s q es fs frame a (Paint g v) comes = refl
stamped_as_told s q es fs frame a (Vsync stamp) comes =
    and_from (comes_after a.stamp stamp && not a.awaits) (was_wanted fs a.place stamp) (and_from (comes_after a.stamp stamp) (not a.awaits) comes.1.later (rw comes.1.awaited refl)) comes.1.wanted
stamped_as_told s q es fs frame a (Idle i k) comes = refl
stamped_as_told s q es fs frame a (Event f e m) comes = refl

-- what the acts lead to is one of these
pub led_passes : (passes : LooperState → Bool) (s : Script) (q : ℕ) (es : List Entry) (fs : List FrameEntry) (a : LooperState) (xs : List Act) (b : LooperState) → ActsLead s q es fs a xs b
    → passes b ≡ true → any_led passes s q es fs a xs ≡ true
led_passes passes s q es fs a [] b is h = subst (λ (c : LooperState). passes c ≡ true) (sym is) h
led_passes passes s q es fs a (x ∷ xs) b (frame, (comes, rest)) h =
    chosen s q es fs frame a x (λ (o : Option ℕ). paints_so s q es fs a x o && stamped_so fs a x o && any_led passes s q es fs (after_act s q es fs o a x) xs) comes
    (and_from (paints_so s q es fs a x frame && stamped_so fs a x frame) _
    (and_from (paints_so s q es fs a x frame) (stamped_so fs a x frame) (paints_as_told s q es fs frame a x comes) (stamped_as_told s q es fs frame a x comes)) (led_passes passes s q es fs (after_act s q es fs frame a x) xs b rest h))
