use Rattle.std.proofs.Common.{rules, ◌≡◌, ◌-◌, ◌<◌, false, ℕ, All, Some, List, [], ◌∷◌, map, take, drop, refl, ap, sym, ◌∙◌, subst}
use Rattle.std.specs.List.{range_with_len}
use Rattle.frame_phases.specs.declared.entry.FrameEntry.{FrameEntry}
use Rattle.choreographer.specs.declared.view.Constants.{Constants}
use Rattle.frame_phases.specs.Parting.{dealt_to}
use Rattle.choreographer.specs.Turn.{opening_view, keeping, dealt, made_entries, AreNumbersOf}
use Rattle.choreographer.specs.Plays.{Sat}
use Rattle.choreographer.specs.Known.{HasOwn}
use Rattle.choreographer.proofs.Turns.{deals}
use Rattle.choreographer.proofs.Dealt.{map-take_one, map-drop_one}
use Rattle.choreographer.proofs.Gathers.{numbers_rest, first_part, first_below}
use Rattle.choreographer.proofs.table.Choreographer.deal.Goals as goal

pub split_seat-requires : goal.split_seat-requires
split_seat-requires c =
    let no_turn : c.args.seat.now.me.0.has_turn ≡ false = search rules in
    (search rules, search rules, deals c.self.inside.table.shared.key _ _ no_turn (ap (λ (z : Sat). z.0.handed) c.requires.2) (ap (λ (z : Sat). z.0.stamp) c.requires.2) (ap (λ (z : Sat). z.0.awaits) c.requires.2) (ap (λ (z : Sat). z.0.asks) c.requires.2))

own_constants : (key k : Constants) → Some key ≡ Some k → key ≡ k
own_constants key k e = cc (e)

pub of-requires : goal.of-requires
of-requires c =
    let was : Sat = c.args.seat.now.me in
    let is : c.split_seat.result.me.0 ≡ dealt was.0 (take 1 was.0.passes) (take 1 was.0.parts) = ap (λ (z : Sat). z.0) c.split_seat.ensures.4 in
    let one : HasOwn (dealt was.0 (take 1 was.0.passes) (take 1 was.0.parts)) =
    record {
      part = subst (λ (z : Sat). take 1 z.0.parts ≡ z.0.own ∷ []) (sym c.requires.2) (first_part c.args.number c.args.self.now.constants.passes c.requires.1);
      heard = subst (λ (z : Sat). take 1 z.0.parts ≡ map (λ n. dealt_to n z.0.heard) (take 1 z.0.passes)) (sym c.requires.2)
          (map-take_one (λ (n : ℕ). []) (range_with_len c.args.number (c.args.self.now.constants.passes - c.args.number)));
      seen = subst (λ (z : Sat). made_entries z.0.heard ≡ z.0.seen) (sym c.requires.2) refl;
      below = λ k e. let n = c.args.number in let key = c.args.self.now.constants in
          subst (λ (z : Sat). All (λ p. p < k.passes) (take 1 z.0.passes)) (sym c.requires.2) (first_below n key.passes k.passes c.requires.1 (ap (λ (z : Constants). z.passes) (own_constants key k (ap (λ (z : Sat). z.0.constants) (sym c.requires.2) ∙ e))));
      numbers = subst (λ (z : Sat). (k : Constants) → z.0.constants ≡ Some k → AreNumbersOf k z.0.heard) (sym c.requires.2) (λ k e n far. refl);
      handed = λ k e no_last. ap (λ (z : Sat). z.0.handed) c.requires.2;
    } in
    (search rules, search rules, search rules, subst HasOwn (sym is) one)

pub returns-clause-seat : goal.returns-clause-seat
returns-clause-seat c =
    let key : Constants = c.args.self.now.constants in
    let was = c.requires.2 in (
      c.split_seat.ensures.0,
      c.split_seat.ensures.2 ∙ (ap (λ (z : Sat). (keeping z.0 (drop 1 z.0.passes) (drop 1 z.0.parts), z.1)) was
          ∙ (ap (λ (l : List (List FrameEntry)). (keeping (opening_view key) (drop 1 (range_with_len c.args.number (key.passes - c.args.number))) l, []))
          (map-drop_one (λ (n : ℕ). []) (range_with_len c.args.number (key.passes - c.args.number)))
          ∙ ap (λ (l : List ℕ). (keeping (opening_view key) l (map (λ (n : ℕ). []) l), [])) (numbers_rest c.args.number key.passes c.requires.1))),
    )
