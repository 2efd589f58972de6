use Rattle.std.proofs.Common.{arith, ◌≡◌, ◌≢◌, ℕ, length, refl, sym, ap, ◌∙◌, subst}
use Rattle.std.specs.Prelude.{slice_index_or}
use Rattle.std.specs.Global.{Vec}
use Rattle.looper_run.specs.Holding.{Sender}
use Rattle.dash_hall.specs.Growth.{own}
use Rattle.dash_stage.specs.Controllers.{CallsNone}
use Rattle.dash_stage.specs.Timeliness.{IsNoEntry, TurnsOn}
use Rattle.dash_stage.proofs.Controller.Controls.{none_after}
use Rattle.dash_stage.proofs.Controller.Controlling.{poster_count}
use Rattle.dash_stage.proofs.Stages.StageTurns.{turns_none, turns_more}
use Rattle.dash_stage.proofs.control.Controller.seal.Goals as goal

pub loop-place-init : goal.loop-place-init
loop-place-init g c = record {
  controller = c.requires.controller;
  none = record { long = refl; calls = λ q d. refl };
  turns = turns_none IsNoEntry c.args.self.now;
  rest = λ q d le. refl;
}

pub seal_one-requires : goal.seal_one-requires
seal_one-requires g c = record { at = record { is_hall = c.requires.is_hall; controller = c.loop-place.invariant.controller; known = omega (arith, c.loop-place-test.true) } }

pub seal_frames-requires : goal.seal_frames-requires
seal_frames-requires g c = record { at = record { is_hall = c.requires.is_hall; controller = c.seal_one.ensures.alone.controller; known = omega (arith, c.loop-place-test.true) } }

pub loop-place-preserved : goal.loop-place-preserved
loop-place-preserved g c =
    let at = c.loop-place in
    let after = c.seal_frames.new.self in
    let posters = c.seal_frames.ensures.posters in
    let calls : CallsNone at.self after = record {
      long = ap (λ (v : Vec Sender). length v.items) posters ∙ c.seal_one.ensures.none.long;
      calls = λ q d. ap (λ (v : Vec Sender). own (slice_index_or v.items q d)) posters ∙ c.seal_one.ensures.none.calls q d;
    } in
    let here = subst (λ (v : Vec Sender). (d : Sender) → TurnsOn IsNoEntry (slice_index_or at.self.kit.posters.items at.place d) (slice_index_or v.items at.place d)) (sym posters) c.seal_one.ensures.here in
    let elsewhere = subst (λ (v : Vec Sender). (q : ℕ) (d : Sender) → q ≢ at.place → slice_index_or v.items q d ≡ slice_index_or at.self.kit.posters.items q d) (sym posters) c.seal_one.ensures.alone.elsewhere in
    let long = poster_count c.args.script.now c.args.hall.now after c.requires.is_hall c.seal_frames.ensures.controller ∙ sym (poster_count c.args.script.now c.args.hall.now at.self c.requires.is_hall at.invariant.controller) in
    let more = turns_more IsNoEntry c.args.self.now at.self after at.place at.invariant.turns at.invariant.rest long here elsewhere in
    record {
      controller = c.seal_frames.ensures.controller;
      none = none_after c.args.self.now at.self after at.invariant.none calls;
      turns = more.0;
      rest = more.1;
    }
