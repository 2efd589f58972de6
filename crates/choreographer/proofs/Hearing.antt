-- A pass takes in what another one has heard.
use Rattle.std.proofs.Common.{◌≡◌, ℕ, ◌<◌, Option, Some, None, List, [], ◌∷◌, ◌++◌, refl, sym, ap, ◌∙◌, subst, arith, append-nil}
use Rattle.std.specs.Prelude.{All, map}
use mathlib.Core.List.{IsPrefix, map-append}
use Rattle.atomic_table.specs.Seated.{TableId}
use Rattle.loop_model.specs.Lists.{longer}
use Rattle.frame_phases.specs.declared.entry.FrameEntry.{FrameEntry}
use Rattle.frame_phases.specs.Parting.{dealt_to}
use Rattle.choreographer.specs.declared.view.Constants.{Constants}
use Rattle.choreographer.specs.declared.view.Progress.{Progress}
use Rattle.choreographer.specs.declared.view.View.{View}
use Rattle.choreographer.specs.Frame.{GrowsQuietly}
use Rattle.choreographer.proofs.Heard.{no_more}
use Rattle.choreographer.proofs.Others.{quiet_but_rest, quiet_others}
use Rattle.choreographer.specs.Turn.{HasParts, AreNumbersOf, AreQuietBut, count_of, last_of, made_entries, fresh, either_frame, joined}
use Rattle.choreographer.specs.Plays.{Sat}
use Rattle.choreographer.specs.Known.{IsIdle, HasOnlyHeard}

either_none : (o : Option Progress) → either_frame o None ≡ o
either_none None = refl
either_none (Some f) = refl

-- m is the pass's seat with the note taken in, and n the same once the lists are compared
module _ (number : ℕ) (s : Sat) (o : View) (m n : Sat) (idle : IsIdle number s) (took_in : m ≡ (joined s.0 (fresh o []), s.1)) (same : n ≡ m)
    (told : All (λ t. IsPrefix t m.0.heard) m.0.told) (entries : made_entries m.0.heard ≡ m.0.seen) (parts : HasParts m.0.heard m.0)
    (numbers : (c : Constants) → m.0.constants ≡ Some c → AreNumbersOf c m.0.heard)
    (quiet : (c : Constants) → m.0.constants ≡ Some c → (k : ℕ) → c.pulses ≡ Some k → AreQuietBut k m.0.heard) where
  now : n.0 ≡ joined s.0 (fresh o [])
  now = ap (λ (z : Sat). z.0) (same ∙ took_in)

  pub heard_now : n.0.heard ≡ longer s.0.heard o.heard
  heard_now = ap (λ (z : View). z.heard) now

  pub seen_now : n.0.seen ≡ longer s.0.seen o.seen
  seen_now = ap (λ (z : View). z.seen) now

  pub heard_begins : IsPrefix s.0.heard n.0.heard × IsPrefix o.heard n.0.heard
  heard_begins =
      let told' : All (λ t. IsPrefix t n.0.heard) (s.0.heard ∷ o.heard ∷ s.0.told) = subst (λ (z : Sat × Sat). All (λ t. IsPrefix t z.0.0.heard) z.1.0.told) (λ i. (sym same i, took_in i)) told in
      (told' 0 [] (omega arith), told' 1 [] (omega arith))

  passes_now : n.0.passes ≡ s.0.passes
  passes_now = ap (λ (z : View). z.passes) now ∙ append-nil s.0.passes

  own_now : n.0.own ≡ s.0.own
  own_now = ap (λ (z : View). z.own) now ∙ append-nil s.0.own

  handed_now : n.0.handed ≡ s.0.handed
  handed_now = ap (λ (z : View). z.handed) now ∙ omega arith

  pub still_idle : IsIdle number n
  still_idle = (
    ap (λ (z : View). z.has_turn) now ∙ idle.0,
    ap (λ (z : Sat). z.1) (same ∙ took_in) ∙ idle.1,
    passes_now ∙ idle.2,
    record {
      part = ap (λ (z : View). z.parts) now ∙ (ap (λ (l : List (List FrameEntry)). l ++ []) idle.3.part ∙ ap (λ (l : List FrameEntry). l ∷ []) (sym own_now));
      heard = subst (λ (z : Sat). HasParts z.0.heard z.0) (sym same) parts;
      seen = subst (λ (z : Sat). made_entries z.0.heard ≡ z.0.seen) (sym same) entries;
      below = λ c e. subst (All (λ p. p < c.passes)) (sym passes_now) (idle.3.below c (sym (ap (λ (z : View). z.constants) now) ∙ e));
      numbers = subst (λ (z : Sat). (c : Constants) → z.0.constants ≡ Some c → AreNumbersOf c z.0.heard) (sym same) numbers;
      handed = λ c e no_last. handed_now ∙ idle.3.handed c (sym (ap (λ (z : View). z.constants) now) ∙ e) (ap (count_of (last_of c)) (sym passes_now) ∙ no_last);
    },
  )

  -- what was heard of by a pass that alone delivers pulses
  heard_quietly : (c : Constants) → s.0.constants ≡ Some c → c.pulses ≡ Some number → GrowsQuietly s.0.seen n.0.seen
  heard_quietly c e named =
      let begins : IsPrefix s.0.heard m.0.heard = subst (λ (z : Sat). IsPrefix s.0.heard z.0.heard) same heard_begins.0 in
      let of_passes = ap (λ (z : Sat). z.0.passes) took_in ∙ append-nil s.0.passes in
      let now_parts : map (λ k. dealt_to k m.0.heard) s.0.passes ≡ s.0.parts =
      ap (map (λ k. dealt_to k m.0.heard)) (sym of_passes) ∙ (sym parts ∙ (ap (λ (z : Sat). z.0.parts) took_in ∙ append-nil s.0.parts)) in
      let none : dealt_to number begins.0 ≡ [] = no_more number s.0.passes s.0.heard m.0.heard begins idle.2 (now_parts ∙ idle.3.heard) in
      let hushed = quiet_but_rest number s.0.heard begins.0 (subst (AreQuietBut number) (sym begins.1) (quiet c (ap (λ (z : Sat). z.0.constants) took_in ∙ e) number named)) in (
        made_entries begins.0,
        ap (λ (l : List FrameEntry). l ++ made_entries begins.0) (sym idle.3.seen)
            ∙ (sym (map-append (λ (d : ℕ × FrameEntry). d.1) s.0.heard begins.0) ∙ (ap made_entries begins.1 ∙ (entries ∙ ap (λ (z : Sat). z.0.seen) (sym same)))),
        quiet_others number begins.0 none hushed,
      )

  pub only_heard : (before after : TableId) → after ≡ before → HasOnlyHeard (record { table = before; number = number; view = s.0 }) (record { table = after; number = number; view = n.0 })
  only_heard before after same_table = record {
    table = same_table;
    number = refl;
    constants = ap (λ (z : View). z.constants) now;
    turns = ap (λ (z : View). z.turns) now ∙ omega arith;
    found = ap (λ (z : View). z.found) now;
    left = ap (λ (z : View). z.left) now;
    frame = ap (λ (z : View). z.frame) now ∙ either_none s.0.frame;
    own = own_now;
    handed = handed_now;
    stamp = ap (λ (z : View). z.stamp) now ∙ omega arith;
    awaits = ap (λ (z : View). z.awaits) now ∙ omega arith;
    asks = ap (λ (z : View). z.asks) now ∙ omega arith;
    quiet = heard_quietly;
  }
