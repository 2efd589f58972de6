-- Who recorded the entries that views have seen.
use Rattle.std.proofs.Common.{◌≡◌, ℕ, ◌<◌, Some, List, [], ◌∷◌, ◌++◌, map, drop, length, get_or, refl, sym, ap, ◌∙◌, subst, arith, length-append}
use Rattle.std.proofs.lemmas.List.{length-map, nil_from_length}
use mathlib.Core.Logic.{dite}
use mathlib.Core.List.{IsPrefix, map-append}
use native.Mathlib.Decide.{dec_lt}
use Rattle.loop_model.specs.Lists.{longer}
use Rattle.loop_model.proofs.Prefixes.{prefix_trans, prefix_all, longer_first, longer_second, longer_begins}
use Rattle.frame_phases.specs.declared.entry.FrameEntry.{FrameEntry}
use Rattle.frame_phases.specs.Parting.{dealt_to}
use Rattle.choreographer.specs.declared.state.StampedFrames.{StampedFrames}
use Rattle.choreographer.specs.declared.view.Constants.{Constants}
use Rattle.choreographer.specs.declared.view.View.{View}
use Rattle.choreographer.specs.Turn.{HasParts, HasHeardOf, AreNumbersOf, AreQuietBut, made_entries, all_by, first_pass, taking, giving, joined}
use Rattle.choreographer.specs.Plays.{FoundHeard}
use Rattle.choreographer.specs.Known.{Pass, HasOwn, HasHeardWho, HearsTurn}
use Rattle.choreographer.proofs.Counting.{drop_prefix}
use Rattle.choreographer.proofs.Others.{quiet_but_rest, quiet_others}
use Rattle.choreographer.proofs.Dealt.{only_first, all_by-elements, dealt_behind, dealt_more, dealt_same, parts_within}

-- the entries of a longer list go on with those of its beginning
pub entries_begin : (heard made : List (ℕ × FrameEntry)) (seen whole : List FrameEntry) → IsPrefix heard made → made_entries heard ≡ seen → made_entries made ≡ whole → IsPrefix seen whole
entries_begin heard made seen whole p seen_is whole_is =
    subst (λ (z : List FrameEntry × List FrameEntry). IsPrefix z.0 z.1) (λ i. (seen_is i, whole_is i))
    (made_entries p.0, sym (map-append (λ (d : ℕ × FrameEntry). d.1) heard p.0) ∙ ap made_entries p.1)

-- who has seen all entries has heard of all
pub all_heard : (heard made : List (ℕ × FrameEntry)) (seen : List FrameEntry) → IsPrefix heard made → made_entries heard ≡ seen → made_entries made ≡ seen → heard ≡ made
all_heard heard made seen p seen_is whole_is =
    let f : ℕ × FrameEntry → FrameEntry = λ d. d.1 in
    let a = ap length seen_is in
    let b = ap length whole_is in
    let c = length-map heard f in
    let d = length-map made f in
    prefix_all heard made p (omega (arith, a, b, c, d))

pub longer_entries : (xs ys : List (ℕ × FrameEntry)) → made_entries (longer xs ys) ≡ longer (made_entries xs) (made_entries ys)
longer_entries xs ys =
    let f : ℕ × FrameEntry → FrameEntry = λ d. d.1 in
    let a = length-map xs f in
    let b = length-map ys f in
    dite (dec_lt (length xs) (length ys))
    (λ lt. ap made_entries (longer_second xs ys lt) ∙ sym (longer_second (made_entries xs) (made_entries ys) (omega (arith, lt, a, b))))
    (λ not. ap made_entries (longer_first xs ys (omega (arith, not))) ∙ sym (longer_first (made_entries xs) (made_entries ys) (omega (arith, not, a, b))))

-- the one part of a view with this one pass, with more entries behind it
part_behind : (made : List (ℕ × FrameEntry)) (passes : List ℕ) (parts : List (List FrameEntry)) (more : List FrameEntry) (n : ℕ) → passes ≡ n ∷ []
    → parts ≡ map (λ k. dealt_to k made) passes → map (λ part. part ++ more) parts ≡ map (λ k. dealt_to k (made ++ all_by n more)) passes
part_behind made passes parts more n one is =
    ap (map (λ part. part ++ more)) (is ∙ ap (map (λ k. dealt_to k made)) one)
    ∙ ((λ i. sym (dealt_behind n made more) i ∷ []) ∙ ap (map (λ k. dealt_to k (made ++ all_by n more))) (sym one))

-- a view with one pass that gives the turn back, by any list that has its parts
pub parts_given : (made : List (ℕ × FrameEntry)) (v : View) (x : StampedFrames) → length v.passes ≡ 1 → HasParts made v
    → HasParts (made ++ all_by (first_pass v) (drop (length v.seen) x.frames.entries)) (giving v x)
parts_given made v x one is = part_behind made v.passes v.parts (drop (length v.seen) x.frames.entries) (get_or v.passes 0 0) (only_first v.passes one) is

pub entries_given : (v : View) (x : StampedFrames) → made_entries v.heard ≡ v.seen → IsPrefix v.seen x.frames.entries → made_entries (giving v x).heard ≡ x.frames.entries
entries_given v x is p =
    let n : ℕ = get_or v.passes 0 0 in
    let new : List FrameEntry = drop (length v.seen) x.frames.entries in
    map-append (λ (d : ℕ × FrameEntry). d.1) v.heard (all_by n new)
    ∙ ((λ i. is i ++ (all_by-elements n new ∙ drop_prefix v.seen p.0 x.frames.entries p.1) i) ∙ p.1)

-- what a view has heard, where more is recorded by others
pub heard_later : (made more : List (ℕ × FrameEntry)) (v : View) → HasHeardOf made v → HasHeardOf (made ++ more) v
heard_later made more v h = record { begins = prefix_trans v.heard made (made ++ more) h.begins (more, refl); seen = h.seen; parts = h.parts }

-- and what one has that takes in another: of each of its passes all that this one recorded
pub heard_joined : (made : List (ℕ × FrameEntry)) (v w : View) → HasHeardOf made v → HasHeardOf made w → HasParts made v → HasParts made w → HasHeardOf made (joined v w)
heard_joined made v w h k mine theirs =
    let all : List (ℕ × FrameEntry) = longer v.heard w.heard in
    let both = longer_begins v.heard w.heard made h.begins k.begins in
    let f : List (ℕ × FrameEntry) → ℕ → List FrameEntry = λ l n. dealt_to n l in
    let first : v.parts ≡ map (f all) v.passes = h.parts ∙ sym (parts_within v.passes v.heard all made both.0 both.2 (sym h.parts ∙ mine)) in
    let second : w.parts ≡ map (f all) w.passes = k.parts ∙ sym (parts_within w.passes w.heard all made both.1 both.2 (sym k.parts ∙ theirs)) in
    record {
      begins = both.2;
      seen = longer_entries v.heard w.heard ∙ (λ i. longer (h.seen i) (k.seen i));
      parts = (λ i. first i ++ second i) ∙ sym (map-append (f all) v.passes w.passes);
    }

-- a view with one part has one pass
one_pass : (v : View) → HasOwn v → length v.passes ≡ 1
one_pass v own =
    let f : ℕ → List FrameEntry = λ n. dealt_to n v.heard in
    let a = ap length (sym own.part ∙ own.heard) in
    let b = length-map v.passes f in
    omega (arith, a, b)

-- a seat that wins the turn still has its own
pub own_taken : (v : View) (x : StampedFrames) (made : List (ℕ × FrameEntry)) → HasOwn v → FoundHeard v x made → HasOwn (taking v x made)
own_taken v x made own found = record { part = own.part; heard = found.parts; seen = found.seen; below = own.below; numbers = found.numbers; handed = own.handed }

pub heard_given : (v : View) (x : StampedFrames) → HasOwn v → HasParts (giving v x).heard (giving v x)
heard_given v x own = parts_given v.heard v x (one_pass v own) own.heard

pub numbers_given : (v : View) (x : StampedFrames) → HasOwn v → (c : Constants) → v.constants ≡ Some c → AreNumbersOf c (giving v x).heard
numbers_given v x own c e n far =
    let one = one_pass v own in
    let below : get_or v.passes 0 0 < c.passes = own.below c e 0 0 (omega (arith, one)) in
    dealt_same n (get_or v.passes 0 0) v.heard (drop (length v.seen) x.frames.entries) (λ is. omega (arith, is, below, far)) ∙ own.numbers c e n far

-- nothing is dealt by the beginning of a list by which nothing is
pub numbers_begin : (key : Constants) (xs ys : List (ℕ × FrameEntry)) → IsPrefix xs ys → AreNumbersOf key ys → AreNumbersOf key xs
numbers_begin key xs ys p are n far =
    let all = ap length (sym (dealt_more n xs p.0) ∙ (ap (dealt_to n) p.1 ∙ are n far)) in
    let both = length-append (dealt_to n xs) (dealt_to n p.0) in
    nil_from_length (dealt_to n xs) (omega (arith, all, both))

-- a pass has heard what it recorded
pub knows_own : (p : Pass) → p.view.passes ≡ p.number ∷ [] → HasOwn p.view → HasHeardWho p
knows_own p one own = record {
  seen = own.seen;
  own = ap (λ (l : List (List FrameEntry)). get_or l 0 []) (ap (map (λ n. dealt_to n p.view.heard)) (sym one) ∙ (sym own.heard ∙ own.part));
  numbers = own.numbers;
}

-- where a list has no more of a pass than its beginning, there is none of it behind that
none_behind : (n : ℕ) (xs more : List (ℕ × FrameEntry)) → dealt_to n (xs ++ more) ≡ dealt_to n xs → dealt_to n more ≡ []
none_behind n xs more same =
    let a = ap length (sym (dealt_more n xs more) ∙ same) in
    let b = length-append (dealt_to n xs) (dealt_to n more) in
    nil_from_length (dealt_to n more) (omega (arith, a, b))

-- where a list has of the one pass what its beginning has, there is none of that pass behind that
pub no_more : (n : ℕ) (passes : List ℕ) (xs ys : List (ℕ × FrameEntry)) (begins : IsPrefix xs ys) → passes ≡ n ∷ [] → map (λ k. dealt_to k ys) passes ≡ map (λ k. dealt_to k xs) passes
    → dealt_to n begins.0 ≡ []
no_more n passes xs ys begins one same =
    none_behind n xs begins.0 (ap (dealt_to n) begins.1
    ∙ subst (λ (ps : List ℕ). get_or (map (λ k. dealt_to k ys) ps) 0 [] ≡ get_or (map (λ k. dealt_to k xs) ps) 0 []) one (ap (λ (l : List (List FrameEntry)). get_or l 0 []) same))

-- a turn of a pass: what others recorded, and behind that what it recorded itself
pub turn_hears : (before after : Pass) (x y : StampedFrames) (made : List (ℕ × FrameEntry)) → before.view.passes ≡ before.number ∷ [] → HasOwn before.view → FoundHeard before.view x made
    → after.number ≡ before.number → after.view ≡ giving (taking before.view x made) y → HasOwn after.view → HearsTurn before after x y
turn_hears before after x y made one own found number is own' =
    let none : dealt_to before.number found.begins.0 ≡ [] = no_more before.number before.view.passes before.view.heard made found.begins one (sym found.parts ∙ own.heard) in
    record {
      knew = knows_own before one own;
      others = found.begins.0;
      of_others = none;
      quiet = λ c e named. quiet_others before.number found.begins.0 none
          (quiet_but_rest before.number before.view.heard found.begins.0 (subst (AreQuietBut before.number) (sym found.begins.1) (found.quiet c e before.number named)));
      heard = ap (λ (v : View). v.heard) is
          ∙ (λ i. sym found.begins.1 i ++ all_by (get_or (one i) 0 0) (drop (length x.frames.entries) y.frames.entries));
      knows = knows_own after (ap (λ (v : View). v.passes) is ∙ (one ∙ ap (λ (n : ℕ). n ∷ []) (sym number))) own';
    }
