use Rattle.std.proofs.Common.{List, [], ◌∷◌, ◌++◌, Option, sym, ap, ◌∙◌, arith}
use Rattle.std.specs.List.{insert}
use Rattle.looper_run.specs.Holding.{Sender}
use Rattle.choreographer.specs.Known.{Pass}
use Rattle.dash_loopers.specs.declared.player.Parts.{Parts}
use Rattle.dash_loopers.specs.Loopers.{others_in}
use Rattle.dash_loopers.proofs.LooperKits.{looper_of, parts_of, others_many, kit_again, seen_over, disposes_again, told_again}
use Rattle.dash_loopers.proofs.LooperPlayed.{has_left, has_left_by}
use Rattle.dash_loopers.proofs.looper.StageLooper.into_kit.Goals as goal
use Rattle.loop_model.specs.declared.journal.Journal.{Journal}

pub insert-requires : goal.insert-requires
insert-requires c =
    let s = c.args.script.now in
    let hall = c.args.hall.now in
    let l = c.args.self in
    let parts = c.in-Some.parts in
    omega (arith, others_many s hall l.number (looper_of s hall l c.requires.hall c.requires.looper) parts (parts_of s hall l parts c.requires.looper c.in-Some.is), parts.others.ok.0)

pub returns-clause-gives : goal.returns-clause-gives
returns-clause-gives c =
    let parts = c.in-Some.parts in
    let l = c.args.self in
    let posters = c.in_ok-insert.ensures.items ∙ ap (λ (p : Sender). insert parts.others.items l.number p) c.into_parts-poster.ensures.0 in
    let passes = c.in_ok-push.ensures.items ∙ ap (λ (ps : List Pass). ps ++ parts.frames ∷ []) c.new-passes.ensures.items in
    record {
      number = ap (λ (j : Journal). j.looper) c.into_parts-poster.ensures.2 ∙ c.requires.looper.journal;
      journal = c.into_parts-poster.ensures.2;
      pass = c.into_parts-poster.ensures.1;
      is_kit = kit_again c.args.script.now c.args.hall.now l parts _ c.requires.hall c.requires.looper c.in-Some.is posters passes c.into_parts-poster.ensures.1;
      posters = posters ∙ ap (λ (o : Option Parts). insert (others_in o) l.number l.looper.held.poster) (sym c.in-Some.is);
    }

pub returns-clause-told : goal.returns-clause-told
returns-clause-told c =
    let parts = c.in-Some.parts in
    let s = c.args.script.now in
    let hall = c.args.hall.now in
    let l = c.args.self in
    let posters = c.in_ok-insert.ensures.items ∙ ap (λ (p : Sender). insert parts.others.items l.number p) c.into_parts-poster.ensures.0 in
    let passes = c.in_ok-push.ensures.items ∙ ap (λ (ps : List Pass). ps ++ parts.frames ∷ []) c.new-passes.ensures.items in
    let journal = c.into_parts-poster.ensures.2 in
    record {
      told = told_again s hall l parts _ _ c.requires.hall c.requires.looper c.in-Some.is posters journal;
      disposes = disposes_again s hall l parts _ c.requires.hall c.requires.looper c.in-Some.is posters;
      over = seen_over s hall l parts _ c.requires.hall c.requires.looper c.in-Some.is posters;
      left = has_left s hall l parts _ _ c.requires.hall c.requires.looper c.in-Some.is posters passes journal;
      left_by = has_left_by s hall l parts _ _ c.requires.hall c.requires.looper c.in-Some.is posters passes journal;
    }
