-- A frame that was wanted is wanted still, up to the next Begin.
use Rattle.std.proofs.Common.{◌≡◌, ℕ, ◌<◌, ◌≤◌, ◌-◌, ◌^◌, Bool, true, false, List, [], ◌∷◌, ◌++◌, map, reverse, refl, sym, ap, ◌∙◌, subst, append_assoc, append-nil, arith}
use Rattle.std.specs.Prelude.{◌||◌, ◌==◌, nat_le, nat_lt}
use Rattle.std.specs.List.{list_any}
use Rattle.std.proofs.Math.Bool.{or-true}
use Rattle.std.proofs.lemmas.Bool.{leb-true, le-leb, and_parts, ltb-true, eqb-true}
use Rattle.frame_phases.specs.declared.entry.Callback.{Callback}
use Rattle.frame_phases.specs.declared.entry.FrameEntry.{FrameEntry}
use Rattle.frame_phases.specs.declared.entry.FrameEntry.TheVariants.{Posted, Removed, Begin, Take, Ran}
use Rattle.frame_phases.specs.Frames.{live_callbacks, is_due}
use Rattle.frame_phases.specs.Pulses.{pulse, wants_by, wanted_by}
use Rattle.frame_phases.specs.State.{ran}
use Rattle.frame_phases.proofs.History.{past-push}
use Rattle.frame_phases.proofs.Pulses.{next_comes_after}

-- among these entries no frame begins
abbrev pub NoneBegins : List FrameEntry → Type 0
NoneBegins [] = Unit {0}
NoneBegins (Begin v s t ∷ es) = ⊥
NoneBegins (_ ∷ es) = NoneBegins es

pub ran_begin_none : (cs : List Callback) → NoneBegins (map ran cs)
ran_begin_none [] = tt
ran_begin_none (c ∷ cs) = ran_begin_none cs

-- what is wanted now was wanted
pub wanted_now : (millis : ℕ) (past : List FrameEntry) → wants_by millis past ≡ true → wanted_by millis past ≡ true
unfolding wanted_by live_callbacks
wanted_now millis [] h = h
wanted_now millis (Begin v s t ∷ past) h = h
wanted_now millis (Posted c ∷ past) h = ap (λ b. b || wanted_by millis past) h
wanted_now millis (Removed p i t n ∷ past) h = ap (λ b. b || wanted_by millis past) h
wanted_now millis (Take p n t ∷ past) h = ap (λ b. b || wanted_by millis past) h
wanted_now millis (Ran n ∷ past) h = ap (λ b. b || wanted_by millis past) h

-- and what was wanted was so behind more entries, where no frame begins
pub wanted_on : (millis : ℕ) (es more : List FrameEntry) → NoneBegins more → wanted_by millis (reverse es) ≡ true → wanted_by millis (reverse (es ++ more)) ≡ true
unfolding wanted_by
wanted_on millis es [] none was = subst (λ l. wanted_by millis (reverse l) ≡ true) (sym (append-nil es)) was
wanted_on millis es (Begin v s t ∷ more) none was = absurd none
wanted_on millis es (Posted c ∷ more) none was =
    let e : FrameEntry = Posted c in
    let next : wanted_by millis (reverse (es ++ e ∷ [])) ≡ true = rw (past-push es e, was) (or-true (wants_by millis (e ∷ reverse es))) in
    subst (λ l. wanted_by millis (reverse l) ≡ true) (append_assoc es (e ∷ []) more) (wanted_on millis (es ++ e ∷ []) more none next)
wanted_on millis es (Removed p i t n ∷ more) none was =
    let e : FrameEntry = Removed p i t n in
    let next : wanted_by millis (reverse (es ++ e ∷ [])) ≡ true = rw (past-push es e, was) (or-true (wants_by millis (e ∷ reverse es))) in
    subst (λ l. wanted_by millis (reverse l) ≡ true) (append_assoc es (e ∷ []) more) (wanted_on millis (es ++ e ∷ []) more none next)
wanted_on millis es (Take p n t ∷ more) none was =
    let e : FrameEntry = Take p n t in
    let next : wanted_by millis (reverse (es ++ e ∷ [])) ≡ true = rw (past-push es e, was) (or-true (wants_by millis (e ∷ reverse es))) in
    subst (λ l. wanted_by millis (reverse l) ≡ true) (append_assoc es (e ∷ []) more) (wanted_on millis (es ++ e ∷ []) more none next)
wanted_on millis es (Ran n ∷ more) none was =
    let e : FrameEntry = Ran n in
    let next : wanted_by millis (reverse (es ++ e ∷ [])) ≡ true = rw (past-push es e, was) (or-true (wants_by millis (e ∷ reverse es))) in
    subst (λ l. wanted_by millis (reverse l) ≡ true) (append_assoc es (e ∷ []) more) (wanted_on millis (es ++ e ∷ []) more none next)

or_weaker : (a b c d : Bool) → (a ≡ true → c ≡ true) → (b ≡ true → d ≡ true) → (a || b) ≡ true → (c || d) ≡ true
or_weaker true b c d f g h = ap (λ x. x || d) (f refl)
or_weaker false b c d f g h = rw (g h) (or-true c)

-- some callback that passes one test passes another, where each one does
any_weaker : (p q : Callback → Bool) → ((c : Callback) → p c ≡ true → q c ≡ true) → (cs : List Callback) → list_any p cs ≡ true → list_any q cs ≡ true
any_weaker p q each [] h = h
any_weaker p q each (c ∷ cs) h = or_weaker (p c) (list_any p cs) (q c) (list_any q cs) (each c) (any_weaker p q each cs) h

wants_later : (millis later : ℕ) (past : List FrameEntry) → millis ≤ later → wants_by millis past ≡ true → wants_by later past ≡ true
wants_later millis later past le h =
    any_weaker (λ c. nat_le c.due millis) (λ c. nat_le c.due later)
    (λ c is. let due = leb-true c.due millis is in le-leb c.due later (omega (arith, due, le))) (live_callbacks past) h

-- a frame that is wanted by one millisecond is by each later one
pub wanted_later : (millis later : ℕ) (past : List FrameEntry) → millis ≤ later → wanted_by millis past ≡ true → wanted_by later past ≡ true
unfolding wanted_by
wanted_later millis later [] le h = h
wanted_later millis later (Begin v s t ∷ past) le h = wants_later millis later past le h
wanted_later millis later (Posted c ∷ past) le h =
    or_weaker (wants_by millis (Posted c ∷ past)) (wanted_by millis past) (wants_by later (Posted c ∷ past)) (wanted_by later past)
    (wants_later millis later (Posted c ∷ past) le) (wanted_later millis later past le) h
wanted_later millis later (Removed p i t n ∷ past) le h =
    or_weaker (wants_by millis (Removed p i t n ∷ past)) (wanted_by millis past) (wants_by later (Removed p i t n ∷ past)) (wanted_by later past)
    (wants_later millis later (Removed p i t n ∷ past) le) (wanted_later millis later past le) h
wanted_later millis later (Take p n t ∷ past) le h =
    or_weaker (wants_by millis (Take p n t ∷ past)) (wanted_by millis past) (wants_by later (Take p n t ∷ past)) (wanted_by later past)
    (wants_later millis later (Take p n t ∷ past) le) (wanted_later millis later past le) h
wanted_later millis later (Ran n ∷ past) le h =
    or_weaker (wants_by millis (Ran n ∷ past)) (wanted_by millis past) (wants_by later (Ran n ∷ past)) (wanted_by later past)
    (wants_later millis later (Ran n ∷ past) le) (wanted_later millis later past le) h

-- a callback that is posted, due by this millisecond, wants a frame
any_last : (p : Callback → Bool) (cs : List Callback) (c : Callback) → p c ≡ true → list_any p (cs ++ c ∷ []) ≡ true
any_last p [] c is = ap (λ b. b || false) is
any_last p (d ∷ cs) c is = rw (any_last p cs c is) (or-true (p d))

pub posted_wants : (millis : ℕ) (es : List FrameEntry) (c : Callback) → c.due ≤ millis → wants_by millis (reverse (es ++ Posted c ∷ [])) ≡ true
unfolding live_callbacks
posted_wants millis es c le = rw (past-push es (Posted c)) (any_last (λ d. nat_le d.due millis) (live_callbacks (reverse es)) c (le-leb c.due millis le))

-- so does one of some phase that is live and due
pub due_wants : (phase millis : ℕ) (past : List FrameEntry) → list_any (is_due phase millis) (live_callbacks past) ≡ true → wants_by millis past ≡ true
due_wants phase millis past h =
    any_weaker (is_due phase millis) (λ c. nat_le c.due millis) (λ c is. (and_parts (c.phase == phase) (nat_le c.due millis) is).1) (live_callbacks past) h

-- the pulse after a moment is no earlier than what fits into 64 bits and came by that moment
pub pulse_no_earlier : (interval t d : ℕ) → 0 < interval → d ≤ t → d < 2 ^ 64 → d ≤ pulse interval t
pulse_no_earlier interval t d above le fits = by_test (nat_lt d (pulse interval t)) refl
  where
    by_test : (b : Bool) → nat_lt d (pulse interval t) ≡ b → d ≤ pulse interval t
    by_test true e = let less = ltb-true d (pulse interval t) e in omega (arith, less)
    by_test false e =
        let last : pulse interval t ≡ 2 ^ 64 - 1 = eqb-true (pulse interval t) (2 ^ 64 - 1) (ap (λ b. b || pulse interval t == 2 ^ 64 - 1) (sym e) ∙ next_comes_after interval d t above le) in
        omega (arith, last, fits)
