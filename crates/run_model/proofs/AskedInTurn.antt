-- What was asked of a choreographer piece by piece, each piece at its time, was asked in turn.
use Rattle.std.proofs.Common.{◌≡◌, ◌<◌, ◌≤◌, ◌+◌, ◌*◌, ◌-◌, ℕ, zero, suc, Bool, true, false, List, [], ◌∷◌, ◌++◌, Option, Some, None, map, length, refl, sym, ap, ◌∙◌, subst, arith, slice_index_or, append_assoc, inl, inr}
use Rattle.std.specs.Prelude.{◌==◌, ◌/◌, nat_lt, filter, if◌then◌else◌}
use Rattle.std.specs.List.{AllByRecursion, cons_option, filter_map, range_with_len}
use Rattle.std.specs.List.Sorted.{IsNonDecreasingBy}
use Rattle.std.specs.Option.{option_map}
use Rattle.std.proofs.lemmas.Bool.{cases_lt, lt-ltb, le-ltb}
use Rattle.std.proofs.lemmas.List.{append_cancel_left, append-nil}
use Rattle.std.proofs.lemmas.List.Elements.{filter_map-append}
use Rattle.std.proofs.Math.Nat.{mul-div_cancel}
use mathlib.Core.List.{map-append}
use Rattle.loop_model.proofs.Sorting.{AllByRecursion-weaker}
use Rattle.frame_phases.specs.declared.entry.FrameEntry.{FrameEntry}
use Rattle.frame_phases.specs.Parting.{dealt_to, AreParted}
use Rattle.dash_script.specs.declared.script.Line.{Line}
use Rattle.dash_script.specs.declared.script.Block.{Block}
use Rattle.dash_script.specs.declared.script.Script.{Script}
use Rattle.run_model.specs.Planned.{TimedCommand, lines_of, frame_due}
use Rattle.run_model.specs.Parts.{lines_in}
use Rattle.run_model.specs.FrameRecords.{nanos_of, FrameAsk, Posts, Removes, Begins, Takes, asked_in, asks_in, line_asks, as_told, TimedAsk, in_block, in_round}
use Rattle.run_model.specs.FrameRecords.{lines_ask_then, asked_for, asked_in_rounds, timed_as_told, AreAskedInTurn}
use Rattle.run_model.specs.Loopers.{LooperState, asked_then}
use Rattle.run_model.specs.AskedSoFar.{lines_ask, Rise, second, timed_of, asks_of, HaveAsked, asked_so_far}

-- ---- lists

map_both : {X Y Z : Type 0} (f : X → Y) (g : Y → Z) (xs : List X) → map g (map f xs) ≡ map (λ x. g (f x)) xs
map_both f g [] = refl
map_both f g (x ∷ xs) = ap (λ l. g (f x) ∷ l) (map_both f g xs)

map_same : {X Y : Type 0} (f g : X → Y) → ((x : X) → f x ≡ g x) → (xs : List X) → map f xs ≡ map g xs
map_same f g same [] = refl
map_same f g same (x ∷ xs) = λ i. same x i ∷ map_same f g same xs i

map_itself : {X : Type 0} (f : X → X) → ((x : X) → f x ≡ x) → (xs : List X) → map f xs ≡ xs
map_itself f same [] = refl
map_itself f same (x ∷ xs) = λ i. same x i ∷ map_itself f same xs i

-- the part of a number behind a map of parts
part_mapped : {X Y : Type 0} (f : X → Y) (parts : List (List X)) (k : ℕ) → map f (slice_index_or parts k []) ≡ slice_index_or (map (map f) parts) k []
part_mapped f [] k = refl
part_mapped f (p ∷ ps) zero = refl
part_mapped f (p ∷ ps) (suc k) = part_mapped f ps k

module _ {X Y : Type 0} (f : X → Y) where
  abbrev mapped : List (ℕ × X) → List (ℕ × Y)
  mapped dealt = map (λ (d : ℕ × X). (d.0, f d.1)) dealt

  mapped_whole : (dealt : List (ℕ × X)) → map (λ (d : ℕ × Y). d.1) (mapped dealt) ≡ map f (map (λ (d : ℕ × X). d.1) dealt)
  mapped_whole [] = refl
  mapped_whole ((n, x) ∷ dealt) = ap (λ l. f x ∷ l) (mapped_whole dealt)

  mapped_to : (k : ℕ) (dealt : List (ℕ × X)) → dealt_to k (mapped dealt) ≡ map f (dealt_to k dealt)
  mapped_to k [] = refl
  mapped_to k ((n, x) ∷ dealt) = by_case (n == k) (mapped_to k dealt)
    where
      by_case : (b : Bool) → dealt_to k (mapped dealt) ≡ map f (dealt_to k dealt)
          → cons_option (if b then Some (f x) else None) (dealt_to k (mapped dealt)) ≡ map f (cons_option (if b then Some x else None) (dealt_to k dealt))
      by_case true rest = ap (λ l. f x ∷ l) rest
      by_case false rest = rest

  -- what a map makes of a parted list is parted
  pub parted_mapped : (xs : List X) (parts : List (List X)) → AreParted xs parts → AreParted (map f xs) (map (map f) parts)
  parted_mapped xs parts h = (mapped h.0, mapped_whole h.0 ∙ ap (map f) h.1, λ k. mapped_to k h.0 ∙ (ap (map f) (h.2 k) ∙ part_mapped f parts k))

-- ---- times that do not fall

from_last : (last : ℕ) (xs : List TimedAsk) → Rise last xs → (i : ℕ) (d : TimedAsk) → i < length xs → last ≤ (slice_index_or xs i d).when
from_last last [] h i d lt = absurd (omega (arith, lt))
from_last last (x ∷ xs) h zero d lt = h.0
from_last last (x ∷ xs) h (suc i) d lt = let later = from_last x.when xs h.1 i d (omega (arith, lt)) in let first = h.0 in omega (arith, later, first)

pub rising_sorted : (last : ℕ) (xs : List TimedAsk) → Rise last xs → IsNonDecreasingBy (λ (x : TimedAsk). x.when) xs
rising_sorted last [] h i j d le lt = absurd (omega (arith, lt))
rising_sorted last (x ∷ xs) h zero zero d le lt = omega arith
rising_sorted last (x ∷ xs) h zero (suc j) d le lt = from_last x.when xs h.1 j d (omega (arith, lt))
rising_sorted last (x ∷ xs) h (suc i) zero d le lt = absurd (omega (arith, le))
rising_sorted last (x ∷ xs) h (suc i) (suc j) d le lt = rising_sorted x.when xs h.1 i j d (omega (arith, le)) (omega (arith, lt))

pub sorted_rising : (last : ℕ) (xs : List TimedAsk) → IsNonDecreasingBy (λ (x : TimedAsk). x.when) xs → ((d : TimedAsk) → 0 < length xs → last ≤ (slice_index_or xs 0 d).when) → Rise last xs
sorted_rising last [] h first = tt
sorted_rising last (x ∷ xs) h first =
    (first x (omega arith), sorted_rising x.when xs (λ i j d le lt. h (suc i) (suc j) d (omega (arith, le)) (omega (arith, lt))) (λ d some. h 0 1 d (omega arith) (omega (arith, some))))

-- behind times up to the last one more may come of a later time
rise_on : (low last when : ℕ) (xs ys : List TimedAsk) → Rise low xs → AllByRecursion (λ (x : TimedAsk). x.when ≤ last) xs → low ≤ last → last ≤ when
    → AllByRecursion (λ (y : TimedAsk). y.when ≡ when) ys → Rise low (xs ++ ys)
rise_on low last when [] [] rises by le later at = tt
rise_on low last when [] (y ∷ ys) rises by le later at =
    let now = at.0 in (omega (arith, le, later, now), rise_on y.when y.when when [] ys tt tt (omega arith) (omega (arith, now)) at.1)
rise_on low last when (x ∷ xs) ys rises by le later at = (rises.0, rise_on x.when last when xs ys rises.1 by.1 by.0 later at)

all_later : (last when : ℕ) (xs ys : List TimedAsk) → AllByRecursion (λ (x : TimedAsk). x.when ≤ last) xs → last ≤ when
    → AllByRecursion (λ (y : TimedAsk). y.when ≡ when) ys → AllByRecursion (λ (x : TimedAsk). x.when ≤ when) (xs ++ ys)
all_later last when [] [] by later at = tt
all_later last when [] (y ∷ ys) by later at = let now = at.0 in (omega (arith, now), all_later last when [] ys tt later at.1)
all_later last when (x ∷ xs) ys by later at = let first = by.0 in (omega (arith, first, later), all_later last when xs ys by.1 later at)

-- ---- a piece

-- an ask at this time
abbrev at_time : ℕ → FrameAsk → TimedAsk
at_time when a = record { when = when; ask = a }

-- the asks of these entries, all at this time, each beside the number of its sender
abbrev asked_at : ℕ → List (ℕ × FrameEntry) → List (ℕ × TimedAsk)
asked_at when more = filter_map (λ (d : ℕ × FrameEntry). option_map (λ (a : FrameAsk). (d.0, at_time when a)) (asked_in d.1)) more

asked_at_asks : (when : ℕ) (more : List (ℕ × FrameEntry)) → asks_of (timed_of (asked_at when more)) ≡ asks_in (second more)
asked_at_asks when [] = refl
asked_at_asks when ((n, e) ∷ more) = by_case (asked_in e) (asked_at_asks when more)
  where
    by_case : (o : Option FrameAsk) → asks_of (timed_of (asked_at when more)) ≡ asks_in (second more)
        → asks_of (timed_of (cons_option (option_map (λ (a : FrameAsk). (n, at_time when a)) o) (asked_at when more))) ≡ cons_option o (asks_in (second more))
    by_case None rest = rest
    by_case (Some a) rest = ap (λ l. a ∷ l) rest

asked_at_to : (when k : ℕ) (more : List (ℕ × FrameEntry)) → dealt_to k (asked_at when more) ≡ map (at_time when) (asks_in (dealt_to k more))
asked_at_to when k [] = refl
asked_at_to when k ((n, e) ∷ more) = by_case (n == k) refl (asked_in e) refl (asked_at_to when k more)
  where
    by_case : (b : Bool) → (n == k) ≡ b → (o : Option FrameAsk) → asked_in e ≡ o → dealt_to k (asked_at when more) ≡ map (at_time when) (asks_in (dealt_to k more))
        → dealt_to k (cons_option (option_map (λ (a : FrameAsk). (n, at_time when a)) o) (asked_at when more)) ≡ map (at_time when) (asks_in (cons_option (if b then Some e else None) (dealt_to k more)))
    by_case true is None same rest = rest ∙ ap (λ o. map (at_time when) (cons_option o (asks_in (dealt_to k more)))) (sym same)
    by_case true is (Some a) same rest =
        ap (λ (b : Bool). cons_option (if b then Some (at_time when a) else None) (dealt_to k (asked_at when more))) is
        ∙ (ap (λ l. at_time when a ∷ l) rest ∙ ap (λ o. map (at_time when) (cons_option o (asks_in (dealt_to k more)))) (sym same))
    by_case false is None same rest = rest
    by_case false is (Some a) same rest = ap (λ (b : Bool). cons_option (if b then Some (at_time when a) else None) (dealt_to k (asked_at when more))) is ∙ rest

asked_at_then : (when : ℕ) (more : List (ℕ × FrameEntry)) → AllByRecursion (λ (x : TimedAsk). x.when ≡ when) (timed_of (asked_at when more))
asked_at_then when [] = tt
asked_at_then when ((n, e) ∷ more) = by_case (asked_in e) (asked_at_then when more)
  where
    by_case : (o : Option FrameAsk) → AllByRecursion (λ (x : TimedAsk). x.when ≡ when) (timed_of (asked_at when more))
        → AllByRecursion (λ (x : TimedAsk). x.when ≡ when) (timed_of (cons_option (option_map (λ (a : FrameAsk). (n, at_time when a)) o) (asked_at when more)))
    by_case None rest = rest
    by_case (Some a) rest = (refl, rest)

-- asks that are all made at this time are what they ask for, at this time
all_at_time : (when : ℕ) (xs : List TimedAsk) → AllByRecursion (λ (x : TimedAsk). x.when ≡ when) xs → map (at_time when) (asks_of xs) ≡ xs
all_at_time when [] at = refl
all_at_time when (x ∷ xs) at = λ i. record { when = sym at.0 i; ask = x.ask } ∷ all_at_time when xs at.1 i

-- ---- piece by piece

pub none_asked : HaveAsked 0 [] (λ k. [])
none_asked = record { dealt = []; asks_are = refl; parts = λ k. refl; rise = tt; by_then = tt }

-- so it is up to a later time
pub asked_later : (last later : ℕ) (made : List (ℕ × FrameEntry)) (by : ℕ → List TimedAsk) → HaveAsked last made by → last ≤ later → HaveAsked later made by
asked_later last later made by h le = record {
  dealt = h.dealt;
  asks_are = h.asks_are;
  parts = h.parts;
  rise = h.rise;
  by_then = AllByRecursion-weaker (λ (x : TimedAsk). x.when ≤ last) (λ x. x.when ≤ later) (λ x now. omega (arith, now, le)) (timed_of h.dealt) h.by_then;
}

-- one piece more: what each sender gets of it was asked for at one time, which is no earlier
pub more_asked : (last when : ℕ) (made more : List (ℕ × FrameEntry)) (by gets : ℕ → List TimedAsk) → HaveAsked last made by → last ≤ when
    → ((k : ℕ) → asks_in (dealt_to k (made ++ more)) ≡ asks_in (dealt_to k made) ++ asks_of (gets k)) → ((k : ℕ) → AllByRecursion (λ (x : TimedAsk). x.when ≡ when) (gets k))
    → HaveAsked when (made ++ more) (λ k. by k ++ gets k)
more_asked last when made more by gets h later grown at =
    let whole : timed_of (h.dealt ++ asked_at when more) ≡ timed_of h.dealt ++ timed_of (asked_at when more) = map-append (λ (d : ℕ × TimedAsk). d.1) h.dealt (asked_at when more) in
    record {
      dealt = h.dealt ++ asked_at when more;
      asks_are = ap asks_of whole ∙ (map-append (λ (x : TimedAsk). x.ask) (timed_of h.dealt) (timed_of (asked_at when more))
          ∙ ((λ i. h.asks_are i ++ asked_at_asks when more i)
          ∙ (sym (filter_map-append asked_in (second made) (second more)) ∙ ap asks_in (sym (map-append (λ (d : ℕ × FrameEntry). d.1) made more)))));
      parts = λ k. filter_map-append (λ (d : ℕ × TimedAsk). if d.0 == k then Some d.1 else None) h.dealt (asked_at when more)
          ∙ (λ i. h.parts k i ++ got k i);
      rise = subst (Rise 0) (sym whole) (rise_on 0 last when (timed_of h.dealt) (timed_of (asked_at when more)) h.rise h.by_then (omega arith) later (asked_at_then when more));
      by_then = subst (AllByRecursion (λ (x : TimedAsk). x.when ≤ when)) (sym whole) (all_later last when (timed_of h.dealt) (timed_of (asked_at when more)) h.by_then later (asked_at_then when more));
    }
  where
    asks_got : (k : ℕ) → asks_in (dealt_to k more) ≡ asks_of (gets k)
    asks_got k = append_cancel_left (asks_in (dealt_to k made)) (asks_in (dealt_to k more)) (asks_of (gets k))
        (sym (filter_map-append asked_in (dealt_to k made) (dealt_to k more))
        ∙ (ap asks_in (sym (filter_map-append (λ (d : ℕ × FrameEntry). if d.0 == k then Some d.1 else None) made more)) ∙ grown k))

    got : (k : ℕ) → dealt_to k (asked_at when more) ≡ gets k
    got k = asked_at_to when k more ∙ (ap (map (at_time when)) (asks_got k) ∙ all_at_time when (gets k) (at k))

-- ---- what a run wants

told_itself : (a : FrameAsk) → as_told true a ≡ a
told_itself (Posts phase due id token) = refl
told_itself (Removes phase id token) = refl
told_itself (Begins start) = refl
told_itself (Takes phase moment) = refl

timed_itself : (x : TimedAsk) → timed_as_told true x ≡ x
timed_itself x = λ i. record { when = x.when; ask = told_itself x.ask i }

-- where they are what these senders ask for, they are asked in turn
pub asked_in_turn : (last : ℕ) (made : List (ℕ × FrameEntry)) (by : ℕ → List TimedAsk) → HaveAsked last made by → (parts : List (List TimedAsk))
    → ((k : ℕ) → by k ≡ slice_index_or parts k []) → AreAskedInTurn true (asks_in (second made)) parts
asked_in_turn last made by h parts same = record {
  timed = timed_of h.dealt;
  asks_are = h.asks_are ∙ sym (map_itself (as_told true) told_itself (asks_in (second made)));
  in_turn = rising_sorted 0 (timed_of h.dealt) h.rise;
  parted = (h.dealt, refl, λ k. h.parts k ∙ (same k ∙ ap (λ (ps : List (List TimedAsk)). slice_index_or ps k []) (sym (map_itself (map (timed_as_told true)) (map_itself (timed_as_told true) timed_itself) parts))));
}

-- as told they are parted among those who ask
abbrev pub AreAskedBy : Bool → List FrameAsk → List (List FrameAsk) → Type 0
AreAskedBy lockstep asks by_sender = AreParted (map (as_told lockstep) asks) (map (map (as_told lockstep)) by_sender)

-- so are those that are asked in turn
pub in_turn_parted : (lockstep : Bool) (asks : List FrameAsk) (by_sender : List (List TimedAsk)) → AreAskedInTurn lockstep asks by_sender → AreAskedBy lockstep asks (map asks_of by_sender)
in_turn_parted lockstep asks by_sender h =
    let parted = parted_mapped (λ (x : TimedAsk). x.ask) h.timed (map (map (timed_as_told lockstep)) by_sender) h.parted in
    let parts : map asks_of (map (map (timed_as_told lockstep)) by_sender) ≡ map (map (as_told lockstep)) (map asks_of by_sender) =
    map_both (map (timed_as_told lockstep)) asks_of by_sender
    ∙ (map_same (λ (p : List TimedAsk). asks_of (map (timed_as_told lockstep) p)) (λ (p : List TimedAsk). map (as_told lockstep) (asks_of p))
    (λ p. map_both (timed_as_told lockstep) (λ (x : TimedAsk). x.ask) p ∙ sym (map_both (λ (x : TimedAsk). x.ask) (as_told lockstep) p)) by_sender
    ∙ sym (map_both asks_of (map (as_told lockstep)) by_sender)) in
    (parted.0, parted.1 ∙ h.asks_are, λ k. parted.2 k ∙ ap (λ (ps : List (List FrameAsk)). slice_index_or ps k []) parts)

-- in free mode the times are left open: where they are parted they are asked in turn
pub parted_in_turn : (asks : List FrameAsk) (by_sender : List (List TimedAsk)) → AreAskedBy false asks (map asks_of by_sender) → AreAskedInTurn false asks by_sender
parted_in_turn asks by_sender h =
    let told = map (as_told false) asks in
    let parted = parted_mapped (at_time 0) told (map (map (as_told false)) (map asks_of by_sender)) h in
    let parts : map (map (at_time 0)) (map (map (as_told false)) (map asks_of by_sender)) ≡ map (map (timed_as_told false)) by_sender =
    map_both (map (as_told false)) (map (at_time 0)) (map asks_of by_sender)
    ∙ (map_both asks_of (λ (p : List FrameAsk). map (at_time 0) (map (as_told false) p)) by_sender
    ∙ map_same (λ (p : List TimedAsk). map (at_time 0) (map (as_told false) (asks_of p))) (map (timed_as_told false))
    (λ p. ap (map (at_time 0)) (map_both (λ (x : TimedAsk). x.ask) (as_told false) p) ∙ map_both (λ (x : TimedAsk). as_told false x.ask) (at_time 0) p) by_sender) in
    record {
      timed = map (at_time 0) told;
      asks_are = map_both (at_time 0) (λ (x : TimedAsk). x.ask) told ∙ map_itself (λ (a : FrameAsk). a) (λ a. refl) told;
      in_turn = rising_sorted 0 (map (at_time 0) told) (all_at_once told);
      parted = (parted.0, parted.1, λ k. parted.2 k ∙ ap (λ (ps : List (List TimedAsk)). slice_index_or ps k []) parts);
    }
  where
    all_at_once : (xs : List FrameAsk) → Rise 0 (map (at_time 0) xs)
    all_at_once [] = tt
    all_at_once (x ∷ xs) = (omega arith, all_at_once xs)

-- ---- the run of a script

lines_then_asks : (q : ℕ) (ls : List TimedCommand) → asks_of (lines_ask_then q ls) ≡ lines_ask q ls
lines_then_asks q [] = refl
lines_then_asks q (l ∷ ls) = by_case (line_asks q l) (lines_then_asks q ls)
  where
    by_case : (o : Option FrameAsk) → asks_of (lines_ask_then q ls) ≡ lines_ask q ls
        → asks_of (cons_option (option_map (λ (a : FrameAsk). at_time (in_block l.time) a) o) (lines_ask_then q ls)) ≡ cons_option o (lines_ask q ls)
    by_case None rest = rest
    by_case (Some a) rest = ap (λ xs. a ∷ xs) rest

block_then : (q time : ℕ) (ls : List Line)
    → AllByRecursion (λ (x : TimedAsk). x.when ≡ in_block time) (lines_ask_then q (map (λ (l : Line). record { time = time; command = l.command }) ls))
block_then q time [] = tt
block_then q time (l ∷ ls) = by_case (line_asks q (record { time = time; command = l.command })) (block_then q time ls)
  where
    by_case : (o : Option FrameAsk) → AllByRecursion (λ (x : TimedAsk). x.when ≡ in_block time) (lines_ask_then q (map (λ (l : Line). record { time = time; command = l.command }) ls))
        → AllByRecursion (λ (x : TimedAsk). x.when ≡ in_block time)
        (cons_option (option_map (λ (a : FrameAsk). at_time (in_block time) a) o) (lines_ask_then q (map (λ (l : Line). record { time = time; command = l.command }) ls)))
    by_case None rest = rest
    by_case (Some a) rest = (refl, rest)

rounds_asks : (asks : List FrameAsk) → asks_of (asked_in_rounds asks) ≡ asks
rounds_asks asks = map_both (λ (a : FrameAsk). at_time (in_round (asked_for a)) a) (λ (x : TimedAsk). x.ask) asks ∙ map_itself (λ (a : FrameAsk). a) (λ a. refl) asks

rounds_then : (time : ℕ) (asks : List FrameAsk) → AllByRecursion (λ (a : FrameAsk). asked_for a ≡ time) asks → AllByRecursion (λ (x : TimedAsk). x.when ≡ in_round time) (asked_in_rounds asks)
rounds_then time [] at = tt
rounds_then time (a ∷ asks) at = (ap in_round at.0, rounds_then time asks at.1)

-- what is asked for at once at a time is for that time, as far as the nanoseconds of 64 bits go: a frame and its phases, and a callback without delay
pub nanos_at_once : (time : ℕ) → time ≤ 18446744073709 → nanos_of time / 1000000 ≡ time
nanos_at_once time le =
    let some : 0 < 1000000 = omega arith in
    let near : nanos_of time ≡ time * 1000000 = omega (arith, le) in
    ap (λ (n : ℕ). n / 1000000) near ∙ mul-div_cancel time some

pub due_at_once : (time : ℕ) → time ≤ 18446744073709 → frame_due time 0 ≡ time
due_at_once time le = omega (arith, le)

-- one block more of a thread's lines
lines_more : (k : ℕ) (past : List Block) (b : Block) → lines_of k (past ++ b ∷ []) ≡ lines_of k past ++ lines_in k b
lines_more k [] b = append-nil (lines_in k b)
lines_more k (c ∷ past) b = ap (λ l. lines_in k c ++ l) (lines_more k past b) ∙ sym (append_assoc (lines_in k c) (lines_of k past) (lines_in k b))

abbrev either : Bool → List TimedAsk → List TimedAsk → List TimedAsk
either b xs ys = if b then xs else ys

by_thread : (threads k : ℕ) (xs ys : List TimedAsk) → k < threads → either (nat_lt k threads) xs ys ≡ xs
by_thread threads k xs ys lt = ap (λ b. either b xs ys) (lt-ltb k threads lt)

by_other : (threads k : ℕ) (xs ys : List TimedAsk) → threads ≤ k → either (nat_lt k threads) xs ys ≡ ys
by_other threads k xs ys le = ap (λ b. either b xs ys) (le-ltb k threads le)

-- the same by other names
by_same : (last : ℕ) (made : List (ℕ × FrameEntry)) (by by' : ℕ → List TimedAsk) → HaveAsked last made by → ((k : ℕ) → by k ≡ by' k) → HaveAsked last made by'
by_same last made by by' h same = record { dealt = h.dealt; asks_are = h.asks_are; parts = λ k. h.parts k ∙ same k; rise = h.rise; by_then = h.by_then }

dealt_on : (k : ℕ) (made more : List (ℕ × FrameEntry)) → dealt_to k (made ++ more) ≡ dealt_to k made ++ dealt_to k more
dealt_on k made more = filter_map-append (λ (d : ℕ × FrameEntry). if d.0 == k then Some d.1 else None) made more

-- before the first block
pub nothing_asked : (threads q : ℕ) → HaveAsked 0 [] (asked_so_far threads q [] [])
nothing_asked threads q = by_same 0 [] (λ k. []) (asked_so_far threads q [] []) none_asked (λ k. neither (nat_lt k threads))
  where
    neither : (b : Bool) → [] ≡ either b [] []
    neither true = refl
    neither false = refl

module _ (threads q last : ℕ) (past : List Block) (made more : List (ℕ × FrameEntry)) (h : HaveAsked last made (asked_so_far threads q past made)) where
  -- the next block: the threads ask for what its lines ask for, and the others for nothing
  pub block_asked : (b : Block) → last ≤ in_block b.time → ((k : ℕ) → k < threads → asks_in (dealt_to k made) ≡ lines_ask q (lines_of k past))
      → ((k : ℕ) → k < threads → asks_in (dealt_to k (made ++ more)) ≡ lines_ask q (lines_of k (past ++ b ∷ []))) → ((k : ℕ) → threads ≤ k → dealt_to k (made ++ more) ≡ dealt_to k made)
      → HaveAsked (in_block b.time) (made ++ more) (asked_so_far threads q (past ++ b ∷ []) (made ++ more))
  block_asked b later before after idle =
      by_same (in_block b.time) (made ++ more) (λ k. asked_so_far threads q past made k ++ gets k) (asked_so_far threads q (past ++ b ∷ []) (made ++ more))
      (more_asked last (in_block b.time) made more (asked_so_far threads q past made) gets h later grown at) goes_on
    where
      gets : ℕ → List TimedAsk
      gets k = either (nat_lt k threads) (lines_ask_then q (lines_in k b)) []

      thread_gets : (k : ℕ) → k < threads → gets k ≡ lines_ask_then q (lines_in k b)
      thread_gets k lt = by_thread threads k (lines_ask_then q (lines_in k b)) [] lt

      other_gets : (k : ℕ) → threads ≤ k → gets k ≡ []
      other_gets k le = by_other threads k (lines_ask_then q (lines_in k b)) [] le

      grown : (k : ℕ) → asks_in (dealt_to k (made ++ more)) ≡ asks_in (dealt_to k made) ++ asks_of (gets k)
      grown k = elim (cases_lt k threads) [
        | inl lt ↦
            after k lt ∙ (ap (lines_ask q) (lines_more k past b) ∙ (filter_map-append (line_asks q) (lines_of k past) (lines_in k b)
            ∙ (λ i. sym (before k lt) i ++ (sym (lines_then_asks q (lines_in k b)) ∙ ap asks_of (sym (thread_gets k lt))) i)))
        | inr le ↦ ap asks_in (idle k le) ∙ (sym (append-nil (asks_in (dealt_to k made))) ∙ ap (λ l. asks_in (dealt_to k made) ++ asks_of l) (sym (other_gets k le)))
      ]

      at : (k : ℕ) → AllByRecursion (λ (x : TimedAsk). x.when ≡ in_block b.time) (gets k)
      at k = elim (cases_lt k threads) [
        | inl lt ↦ subst (AllByRecursion (λ (x : TimedAsk). x.when ≡ in_block b.time)) (sym (thread_gets k lt)) (block_then q b.time (filter (λ (l : Line). l.thread == k) b.lines))
        | inr le ↦ subst (AllByRecursion (λ (x : TimedAsk). x.when ≡ in_block b.time)) (sym (other_gets k le)) tt
      ]

      goes_on : (k : ℕ) → asked_so_far threads q past made k ++ gets k ≡ asked_so_far threads q (past ++ b ∷ []) (made ++ more) k
      goes_on k = elim (cases_lt k threads) [
        | inl lt ↦
            (λ i. by_thread threads k (lines_ask_then q (lines_of k past)) (asked_in_rounds (asks_in (dealt_to k made))) lt i ++ thread_gets k lt i)
            ∙ (sym (filter_map-append (λ (l : TimedCommand). option_map (λ (a : FrameAsk). at_time (in_block l.time) a) (line_asks q l)) (lines_of k past) (lines_in k b))
            ∙ (ap (lines_ask_then q) (sym (lines_more k past b))
            ∙ sym (by_thread threads k (lines_ask_then q (lines_of k (past ++ b ∷ []))) (asked_in_rounds (asks_in (dealt_to k (made ++ more)))) lt)))
        | inr le ↦
            (λ i. by_other threads k (lines_ask_then q (lines_of k past)) (asked_in_rounds (asks_in (dealt_to k made))) le i ++ other_gets k le i)
            ∙ (append-nil (asked_in_rounds (asks_in (dealt_to k made))) ∙ (ap (λ l. asked_in_rounds (asks_in l)) (sym (idle k le))
            ∙ sym (by_other threads k (lines_ask_then q (lines_of k (past ++ b ∷ []))) (asked_in_rounds (asks_in (dealt_to k (made ++ more)))) le)))
      ]

  -- a round at this time: the threads ask for nothing, and all that the others ask for is for this time
  pub round_asked : (time : ℕ) → last ≤ in_round time → ((k : ℕ) → k < threads → dealt_to k (made ++ more) ≡ dealt_to k made)
      → ((k : ℕ) → threads ≤ k → (asks : List FrameAsk) × (asks_in (dealt_to k (made ++ more)) ≡ asks_in (dealt_to k made) ++ asks) × AllByRecursion (λ (a : FrameAsk). asked_for a ≡ time) asks)
      → HaveAsked (in_round time) (made ++ more) (asked_so_far threads q past (made ++ more))
  round_asked time later idle asking =
      by_same (in_round time) (made ++ more) (λ k. asked_so_far threads q past made k ++ gets k) (asked_so_far threads q past (made ++ more))
      (more_asked last (in_round time) made more (asked_so_far threads q past made) gets h later grown at) goes_on
    where
      gets : ℕ → List TimedAsk
      gets k = either (nat_lt k threads) [] (asked_in_rounds (asks_in (dealt_to k more)))

      thread_gets : (k : ℕ) → k < threads → gets k ≡ []
      thread_gets k lt = by_thread threads k [] (asked_in_rounds (asks_in (dealt_to k more))) lt

      other_gets : (k : ℕ) → threads ≤ k → gets k ≡ asked_in_rounds (asks_in (dealt_to k more))
      other_gets k le = by_other threads k [] (asked_in_rounds (asks_in (dealt_to k more))) le

      asks_on : (k : ℕ) → asks_in (dealt_to k (made ++ more)) ≡ asks_in (dealt_to k made) ++ asks_in (dealt_to k more)
      asks_on k = ap asks_in (dealt_on k made more) ∙ filter_map-append asked_in (dealt_to k made) (dealt_to k more)

      grown : (k : ℕ) → asks_in (dealt_to k (made ++ more)) ≡ asks_in (dealt_to k made) ++ asks_of (gets k)
      grown k = elim (cases_lt k threads) [
        | inl lt ↦ ap asks_in (idle k lt) ∙ (sym (append-nil (asks_in (dealt_to k made))) ∙ ap (λ l. asks_in (dealt_to k made) ++ asks_of l) (sym (thread_gets k lt)))
        | inr le ↦ asks_on k ∙ ap (λ l. asks_in (dealt_to k made) ++ l) (sym (rounds_asks (asks_in (dealt_to k more))) ∙ ap asks_of (sym (other_gets k le)))
      ]

      at : (k : ℕ) → AllByRecursion (λ (x : TimedAsk). x.when ≡ in_round time) (gets k)
      at k = elim (cases_lt k threads) [
        | inl lt ↦ subst (AllByRecursion (λ (x : TimedAsk). x.when ≡ in_round time)) (sym (thread_gets k lt)) tt
        | inr le ↦
            let got = asking k le in
            let is : asks_in (dealt_to k more) ≡ got.0 = append_cancel_left (asks_in (dealt_to k made)) (asks_in (dealt_to k more)) got.0 (sym (asks_on k) ∙ got.1) in
            subst (AllByRecursion (λ (x : TimedAsk). x.when ≡ in_round time)) (sym (other_gets k le ∙ ap asked_in_rounds is)) (rounds_then time got.0 got.2)
      ]

      goes_on : (k : ℕ) → asked_so_far threads q past made k ++ gets k ≡ asked_so_far threads q past (made ++ more) k
      goes_on k = elim (cases_lt k threads) [
        | inl lt ↦
            (λ i. by_thread threads k (lines_ask_then q (lines_of k past)) (asked_in_rounds (asks_in (dealt_to k made))) lt i ++ thread_gets k lt i)
            ∙ (append-nil (lines_ask_then q (lines_of k past)) ∙ sym (by_thread threads k (lines_ask_then q (lines_of k past)) (asked_in_rounds (asks_in (dealt_to k (made ++ more)))) lt))
        | inr le ↦
            (λ i. by_other threads k (lines_ask_then q (lines_of k past)) (asked_in_rounds (asks_in (dealt_to k made))) le i ++ other_gets k le i)
            ∙ (sym (map-append (λ (a : FrameAsk). at_time (in_round (asked_for a)) a) (asks_in (dealt_to k made)) (asks_in (dealt_to k more)))
            ∙ (ap asked_in_rounds (sym (asks_on k)) ∙ sym (by_other threads k (lines_ask_then q (lines_of k past)) (asked_in_rounds (asks_in (dealt_to k (made ++ more)))) le)))
      ]

-- the parts over a range of numbers, and those behind them
part_first : {X : Type 0} (f : ℕ → List X) (rest : List (List X)) (a n k : ℕ) → k < n → slice_index_or (map f (range_with_len a n) ++ rest) k [] ≡ f (a + k)
part_first f rest a zero k lt = absurd (omega (arith, lt))
part_first f rest a (suc n) zero lt = ap f (omega arith)
part_first f rest a (suc n) (suc k) lt = part_first f rest (a + 1) n k (omega (arith, lt)) ∙ ap f (omega arith)

part_behind : {X : Type 0} (f : ℕ → List X) (rest : List (List X)) (a n k : ℕ) → n ≤ k → slice_index_or (map f (range_with_len a n) ++ rest) k [] ≡ slice_index_or rest (k - n) []
part_behind f rest a zero k le = ap (λ m. slice_index_or rest m []) (omega arith)
part_behind f rest a (suc n) zero le = absurd (omega (arith, le))
part_behind f rest a (suc n) (suc k) le = part_behind f rest (a + 1) n k (omega (arith, le)) ∙ ap (λ m. slice_index_or rest m []) (omega arith)

-- one part, and none behind it
part_of_one : {X : Type 0} (x : List X) (P : ℕ → List X) → P 0 ≡ x → ((k : ℕ) → 1 ≤ k → P k ≡ []) → (k : ℕ) → P k ≡ slice_index_or (x ∷ []) k []
part_of_one x P first none zero = first
part_of_one x P first none (suc k) = none (suc k) (omega arith)

-- behind the whole script: what was recorded is asked in turn by the threads and the looper, which asked for what it was to by what it has come to
pub all_asked : (s : Script) (q last : ℕ) (made : List (ℕ × FrameEntry)) (a : LooperState) → HaveAsked last made (asked_so_far s.threads q s.blocks made)
    → asks_in (dealt_to s.threads made) ≡ a.asked → ((k : ℕ) → s.threads + 1 ≤ k → dealt_to k made ≡ [])
    → AreAskedInTurn true (asks_in (second made)) (asked_then s q a)
all_asked s q last made a h asked idle = asked_in_turn last made (asked_so_far s.threads q s.blocks made) h (asked_then s q a) same
  where
    of_line : ℕ → List TimedAsk
    of_line k = lines_ask_then q (lines_of k s.blocks)

    mine : List (List TimedAsk)
    mine = asked_in_rounds a.asked ∷ []

    other : ℕ → List TimedAsk
    other k = asked_in_rounds (asks_in (dealt_to (s.threads + k) made))

    others : (k : ℕ) → other k ≡ slice_index_or mine k []
    others k = part_of_one (asked_in_rounds a.asked) other
        (ap (λ n. asked_in_rounds (asks_in (dealt_to n made))) (omega arith) ∙ ap asked_in_rounds asked)
        (λ j le. ap (λ l. asked_in_rounds (asks_in l)) (idle (s.threads + j) (omega (arith, le)))) k

    same : (k : ℕ) → asked_so_far s.threads q s.blocks made k ≡ slice_index_or (asked_then s q a) k []
    same k = elim (cases_lt k s.threads) [
      | inl lt ↦ by_thread s.threads k (of_line k) (asked_in_rounds (asks_in (dealt_to k made))) lt ∙ (ap of_line (omega arith) ∙ sym (part_first of_line mine 0 s.threads k lt))
      | inr le ↦
          by_other s.threads k (of_line k) (asked_in_rounds (asks_in (dealt_to k made))) le
          ∙ (ap (λ n. asked_in_rounds (asks_in (dealt_to n made))) (omega (arith, le)) ∙ (others (k - s.threads) ∙ sym (part_behind of_line mine 0 s.threads k le)))
    ]

-- what each asks of a looper's choreographer, without its times
abbrev pub asked_of : Script → ℕ → LooperState → List (List FrameAsk)
asked_of s q final = map (λ thread. lines_ask q (lines_of thread s.blocks)) (range_with_len 0 s.threads) ++ final.asked ∷ []

pub then_asks : (s : Script) (q : ℕ) (a : LooperState) → map asks_of (asked_then s q a) ≡ asked_of s q a
then_asks s q a =
    map-append asks_of (map (λ k. lines_ask_then q (lines_of k s.blocks)) (range_with_len 0 s.threads)) (asked_in_rounds a.asked ∷ [])
    ∙ (λ i. (map_both (λ k. lines_ask_then q (lines_of k s.blocks)) asks_of (range_with_len 0 s.threads)
    ∙ map_same (λ k. asks_of (lines_ask_then q (lines_of k s.blocks))) (λ k. lines_ask q (lines_of k s.blocks)) (λ k. lines_then_asks q (lines_of k s.blocks)) (range_with_len 0 s.threads)) i
    ++ rounds_asks a.asked i ∷ [])
