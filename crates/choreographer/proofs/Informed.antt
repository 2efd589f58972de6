-- What a view counts for: its frame, whether it has seen all, its numbers.
use Rattle.std.proofs.Common.{◌≡◌, ℕ, ◌+◌, ◌<◌, ◌≤◌, ◌≢◌, Bool, true, false, cond, eqb, List, [], ◌∷◌, length, get_or, set, take, drop, refl, ap, ◌∙◌, ◌⊎◌, inl, inr, arith, Option, Some, None, length-append, eq-eqb, ne_eqb, lt-ltb, le-ltb}
use Rattle.std.specs.Prelude.{is_some, nat_lt}
use Rattle.std.proofs.lemmas.List.{take-append-drop}
use mathlib.Core.Logic.{dite}
use mathlib.Core.Option.{some}
use native.Mathlib.Decide.{dec_lt}
use lib.ListN.{get_elem?}
use Rattle.loop_model.specs.Lists.{longer}
use Rattle.frame_phases.specs.declared.entry.FrameEntry.{FrameEntry}
use Rattle.choreographer.specs.declared.state.StampedFrames.{StampedFrames}
use Rattle.choreographer.specs.declared.view.Constants.{Constants}
use Rattle.choreographer.specs.declared.view.Progress.{Progress}
use Rattle.choreographer.specs.declared.view.View.{View}
use Rattle.choreographer.specs.Frame.{frame_after}
use Rattle.choreographer.specs.Turn.{count_of, informed, HasParts, either_frame, joined}
use Rattle.choreographer.proofs.Shares.{set_each}

abbrev kept_or : StampedFrames → Option StampedFrames → StampedFrames
kept_or d None = d
kept_or d (Some x) = x

-- the state in the slot that was taken last
abbrev pub carried_or : StampedFrames → List (ℕ × Option StampedFrames) → StampedFrames
carried_or d [] = d
carried_or d (p ∷ ps) = kept_or d p.1

-- 1 where there is a frame
abbrev pub weight : Option Progress → ℕ
weight o = cond (is_some o) 1 0

pub weight_le : (o : Option Progress) → weight o ≤ 1
weight_le None = omega arith
weight_le (Some f) = omega arith

pub weight_none : (o : Option Progress) → weight o ≡ 0 → o ≡ None
weight_none None e = refl
weight_none (Some f) e = absurd (omega arith)

pub none_or : (o : Option Progress) (f : Progress) → o ≡ None → o ≡ Some f → ⊥
none_or None f a b = cc (b)
none_or (Some g) f a b = cc (a)

pub after_is : (own before after : Option Progress) (f : Progress) → frame_after own before after ≡ Some f → after ≡ Some f
after_is (Some g) before after f e = e
after_is None None after f e = e
after_is None (Some p) after f e = absurd (cc (e))

pub either_is : (a b : Option Progress) (f : Progress) → either_frame a b ≡ Some f → (a ≡ Some f) ⊎ (b ≡ Some f)
either_is (Some g) b f e = inl e
either_is None b f e = inr e

pub either_weight : (a b : Option Progress) → weight a + weight b ≤ 1 → weight (either_frame a b) ≡ weight a + weight b
either_weight (Some g) (Some h) le = absurd (omega arith)
either_weight (Some g) None le = omega arith
either_weight None b le = omega arith

-- how many views have a frame, after a turn
pub framed_after : (n n' : ℕ) (own before after : Option Progress) → n' + weight own ≡ n + weight (frame_after own before after) → weight own ≤ n → n ≡ weight before
    → (own ≡ None → (f : Progress) → before ≡ Some f → after ≡ before) → n' ≡ weight after
framed_after n n' (Some g) before after sums le is same = omega (arith, weight_le before, sums, le, is)
framed_after n n' None None after sums le is same = omega (arith, sums, is)
framed_after n n' None (Some p) after sums le is same = omega (arith, sums, is, ap weight (same refl p refl))

-- a view that has seen all entries
pub informed_all : (whole : List FrameEntry) (v : View) → length whole ≤ length v.seen → informed whole v ≡ length v.passes
informed_all whole v le = ap (λ b. cond {A = ℕ} b 0 (length v.passes)) (le-ltb (length v.seen) (length whole) le)

-- and one that has not
pub informed_none : (whole : List FrameEntry) (v : View) → length v.seen < length whole → informed whole v ≡ 0
informed_none whole v lt = ap (λ b. cond {A = ℕ} b 0 (length v.passes)) (lt-ltb (length v.seen) (length whole) lt)

pub informed_le : (whole : List FrameEntry) (v : View) → informed whole v ≤ length v.passes
informed_le whole v = elim (nat_lt (length v.seen) (length whole)) as (λ b. cond {A = ℕ} b 0 (length v.passes) ≤ length v.passes) [ true ↦ omega arith | false ↦ omega arith ]

pub informed_split : (b : Bool) (ps : List ℕ) → cond {A = ℕ} b 0 (length (drop 1 ps)) + cond {A = ℕ} b 0 (length (take 1 ps)) ≡ cond {A = ℕ} b 0 (length ps)
informed_split true ps = omega arith
informed_split false ps = omega (arith, ap length (take-append-drop 1 ps), length-append (take 1 ps) (drop 1 ps))

pub informed_joined : (whole : List FrameEntry) (v w : View) → length v.seen ≤ length (longer v.seen w.seen) → length w.seen ≤ length (longer v.seen w.seen)
    → informed whole v + informed whole w ≤ informed whole (joined v w)
informed_joined whole v w first second = dite (dec_lt (length (longer v.seen w.seen)) (length whole))
    (λ lt. omega (arith, informed_none whole v (omega (arith, lt, first)), informed_none whole w (omega (arith, lt, second))))
    (λ not. omega (arith, informed_le whole v, informed_le whole w, informed_all whole (joined v w) (omega (arith, not)), length-append v.passes w.passes))

-- no number stands in an empty list
pub counts_none : (n : ℕ) (ps : List ℕ) → length ps ≡ 0 → count_of n ps ≡ 0
counts_none n [] e = refl
counts_none n (p ∷ ps) e = absurd (omega (arith, e))

-- nor in a list of one other number
pub counts_other : (n : ℕ) (ps : List ℕ) → length ps ≡ 1 → (get_or ps 0 0 ≢ n) → count_of n ps ≡ 0
counts_other n [] e apart = refl
counts_other n (p ∷ ps) e apart = let no : cond {A = ℕ} (eqb p n) 1 0 ≡ 0 = ap (λ b. cond {A = ℕ} b 1 0) (ne_eqb p n apart) in let rest = counts_none n ps (omega (arith, e)) in omega (arith, no, rest)

-- it stands once in a list of itself
pub counts_itself : (n : ℕ) (ps : List ℕ) → ps ≡ n ∷ [] → count_of n ps ≡ 1
counts_itself n ps e = let one : cond {A = ℕ} (eqb n n) 1 0 ≡ 1 = ap (λ b. cond {A = ℕ} b 1 0) (eq-eqb n n refl) in ap (count_of n) e ∙ omega (arith, one)

pub same_constants : (key c : Constants) → Some key ≡ Some c → c ≡ key
same_constants key c e = cc (e)

-- a view that records nothing keeps its parts, and the other views keep theirs
pub same_parts : (made : List (ℕ × FrameEntry)) (views : List View) (id : ℕ) (w : View) → HasParts made w → ((j : ℕ) (u : View) → get_elem? views j ≡ some u → HasParts made u)
    → (j : ℕ) (u : View) → get_elem? (set views id w) j ≡ some u → HasParts made u
same_parts made views id w mine each = set_each (HasParts made) views id w mine (λ j u _ e. each j u e)
