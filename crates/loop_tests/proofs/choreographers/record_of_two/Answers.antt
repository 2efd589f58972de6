use Rattle.std.proofs.Common.{◌≡◌, List, [], ◌∷◌, ◌++◌, length, refl, sym, ap, ◌∙◌, subst}
use Rattle.frame_phases.specs.declared.entry.FrameEntry.{FrameEntry}
use Rattle.choreographer.specs.Known.{Pass}
use Rattle.choreographer.specs.Ends.{HasHandedOut, entries_in}
use Rattle.choreographer.proofs.HandingTests.{two_in_order}
use Rattle.loop_tests.proofs.choreographers.record_of_two.Goals as goal

pub seal_some-requires-clause-parts : goal.seal_some-requires-clause-parts
seal_some-requires-clause-parts g c =
    subst (λ (l : List (List FrameEntry)). HasHandedOut c.args.last (entries_in l)) (sym c.new-parts.ensures.items) (sym c.requires.last.2, (c.args.last.view.seen, refl))

pub into_whole-requires-clause-passes : goal.into_whole-requires-clause-passes
into_whole-requires-clause-passes g c =
    let first : Pass = c.seal_some.new.first in
    let last : Pass = c.seal_some.new.last in
    let items : c.push-2.new.self.items ≡ first ∷ last ∷ [] = c.in_ok-push-2.ensures.items ∙ ap (λ (l : List Pass). l ++ last ∷ []) (c.in_ok-push.ensures.items ∙ ap (λ (l : List Pass). l ++ first ∷ []) c.requires.none) in (
      ap length items ∙ sym c.requires.two.0,
      two_in_order c.args.c c.push-2.new.self.items first last items c.seal_some.ensures.first.0 (c.seal_some.ensures.first.1 ∙ c.requires.first.1) c.seal_some.ensures.last.0 (c.seal_some.ensures.last.1 ∙ c.requires.last.1),
    )
