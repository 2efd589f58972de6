-- Behind the latest frame of a looper's acts its pass has seen none, and so a pulse that was wanted was so since that frame.
use Rattle.std.proofs.Common.{◌≡◌, ℕ, zero, suc, ◌+◌, ◌≤◌, true, false, List, [], ◌∷◌, ◌++◌, length, reverse, Option, Some, None, refl, sym, ap, ◌∙◌, subst, append_assoc, arith}
use Rattle.std.specs.Prelude.{◌/◌, take, drop}
use Rattle.std.specs.List.{list_any, before_first}
use Rattle.std.proofs.Math.Seq.{drop-nil}
use Rattle.std.proofs.Math.ListN.{drop_of_length-le}
use Rattle.std.proofs.lemmas.Bool.{or_parts, or_from}
use Rattle.std.proofs.lemmas.List.{reverse-append, length-reverse, take-append-le, drop-append-le, take-append-drop}
use Rattle.std.proofs.lemmas.List.Folds.{list_any-append}
use mathlib.Core.List.{IsPrefix}
use Rattle.frame_phases.specs.declared.entry.FrameEntry.{FrameEntry}
use Rattle.frame_phases.specs.declared.entry.FrameEntry.TheVariants.{Posted, Removed, Begin, Take, Ran}
use Rattle.frame_phases.specs.Pulses.{wanted_by}
use Rattle.choreographer.specs.Calls.{is_wanted_if_any}
use Rattle.frame_phases.proofs.Wanted.{NoneBegins, wanted_on}
use Rattle.choreographer.specs.Frame.{begin_place, IsQuiet, GrowsQuietly}
use Rattle.run_model.specs.FrameRecords.{is_begin}
use Rattle.run_model.specs.Parts.{past_before_frame}
use Rattle.run_model.proofs.FrameKeeping.{before_first-step}

pub quiet_none : (es : List FrameEntry) → IsQuiet es → list_any is_begin es ≡ false
quiet_none [] q = refl
quiet_none (Posted c ∷ es) q = quiet_none es q
quiet_none (Removed p i t n ∷ es) q = quiet_none es q
quiet_none (Begin v s t ∷ es) q = absurd q
quiet_none (Take p n t ∷ es) q = absurd q
quiet_none (Ran n ∷ es) q = absurd q

-- where no frame began from a place on, none does behind more postings and removals
pub last_quietly : (first : ℕ) (seen whole : List FrameEntry) → GrowsQuietly seen whole → first ≤ length seen → list_any is_begin (drop first seen) ≡ false → list_any is_begin (drop first whole) ≡ false
last_quietly first seen whole g le none =
    subst (λ (l : List FrameEntry). list_any is_begin (drop first l) ≡ false) g.1
    (ap (list_any is_begin) (drop-append-le first seen g.0 le) ∙ (list_any-append is_begin (drop first seen) g.0 ∙ or_from (list_any is_begin (drop first seen)) (list_any is_begin g.0) none (quiet_none g.0 g.2)))

none_on : (n : ℕ) (xs : List FrameEntry) (e : FrameEntry) → is_begin e ≡ false → list_any is_begin (drop n xs) ≡ false → list_any is_begin (drop n (xs ++ e ∷ [])) ≡ false
none_on zero xs e isnt none = list_any-append is_begin xs (e ∷ []) ∙ or_from (list_any is_begin xs) _ none (or_from (is_begin e) false isnt refl)
none_on (suc n) [] e isnt none = ap (list_any is_begin) (drop-nil n)
none_on (suc n) (x ∷ xs) e isnt none = none_on n xs e isnt none

one_more : (e : FrameEntry) (past : List FrameEntry) → is_begin e ≡ false → list_any is_begin (drop (begin_place past + 1) (reverse past)) ≡ false → list_any is_begin (drop (begin_place past + 1) (reverse (e ∷ past))) ≡ false
one_more e past isnt none =
    subst (λ (l : List FrameEntry). list_any is_begin (drop (begin_place past + 1) l) ≡ false) (sym (reverse-append (e ∷ []) past)) (none_on (begin_place past + 1) (reverse past) e isnt none)

-- none begins behind the latest Begin
pub none_behind : (past : List FrameEntry) → list_any is_begin (drop (begin_place past + 1) (reverse past)) ≡ false
unfolding begin_place
none_behind [] = refl
none_behind (Begin v s t ∷ past) =
    let long = length-reverse (Begin v s t ∷ past) in ap (list_any is_begin) (drop_of_length-le (reverse (Begin v s t ∷ past)) {i = length past + 1} (omega (arith, long)))
none_behind (Posted c ∷ past) = one_more (Posted c) past refl (none_behind past)
none_behind (Removed p i t n ∷ past) = one_more (Removed p i t n) past refl (none_behind past)
none_behind (Take p n t ∷ past) = one_more (Take p n t) past refl (none_behind past)
none_behind (Ran n ∷ past) = one_more (Ran n) past refl (none_behind past)

-- up to the next Begin
none_first : (xs ys : List FrameEntry) → list_any is_begin xs ≡ false → before_first is_begin (xs ++ ys) ≡ xs ++ before_first is_begin ys
none_first [] ys none = refl
none_first (x ∷ xs) ys none =
    let p = or_parts (is_begin x) (list_any is_begin xs) none in before_first-step is_begin x (xs ++ ys) p.0 ∙ ap (λ l. x ∷ l) (none_first xs ys p.1)

none_before : (ys : List FrameEntry) → NoneBegins (before_first is_begin ys)
none_before [] = tt
none_before (Begin v s t ∷ ys) = tt
none_before (Posted c ∷ ys) = subst NoneBegins (sym (before_first-step is_begin (Posted c) ys refl)) (none_before ys)
none_before (Removed p i t n ∷ ys) = subst NoneBegins (sym (before_first-step is_begin (Removed p i t n) ys refl)) (none_before ys)
none_before (Take p n t ∷ ys) = subst NoneBegins (sym (before_first-step is_begin (Take p n t) ys refl)) (none_before ys)
none_before (Ran n ∷ ys) = subst NoneBegins (sym (before_first-step is_begin (Ran n) ys refl)) (none_before ys)

-- what was wanted as far as the pass has seen was wanted before the next frame, whatever the record comes to
wanted_since : (fs seen : List FrameEntry) (place millis : ℕ) → IsPrefix seen fs → place ≤ length seen → list_any is_begin (drop place seen) ≡ false → wanted_by millis (reverse seen) ≡ true
    → wanted_by millis (past_before_frame fs place) ≡ true
wanted_since fs seen place millis begins le none was =
    let more : List FrameEntry = begins.0 in
    let here : take place fs ++ before_first is_begin (drop place fs) ≡ seen ++ before_first is_begin more = (λ i. take place (sym begins.1 i) ++ before_first is_begin (drop place (sym begins.1 i)))
    ∙ ((λ i. take-append-le place seen more le i ++ before_first is_begin (drop-append-le place seen more le i))
    ∙ (ap (λ l. take place seen ++ l) (none_first (drop place seen) more none)
    ∙ (sym (append_assoc (take place seen) (drop place seen) (before_first is_begin more)) ∙ ap (λ l. l ++ before_first is_begin more) (take-append-drop place seen)))) in
    subst (λ (l : List FrameEntry). wanted_by millis (reverse l) ≡ true) (sym here) (wanted_on millis seen (before_first is_begin more) (none_before more) was)

-- the same by the pulse that came, if one did
pub wanted_since_if_any : (fs seen : List FrameEntry) (place : ℕ) (came : Option ℕ) → IsPrefix seen fs → place ≤ length seen → list_any is_begin (drop place seen) ≡ false → is_wanted_if_any (reverse seen) came ≡ true
    → is_wanted_if_any (past_before_frame fs place) came ≡ true
wanted_since_if_any fs seen place None begins le none was = refl
wanted_since_if_any fs seen place (Some stamp) begins le none was = wanted_since fs seen place (stamp / 1000000) begins le none was
