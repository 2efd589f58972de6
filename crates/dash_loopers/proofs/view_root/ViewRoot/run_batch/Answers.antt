use Rattle.std.proofs.Common.{List, None, map, refl, ap, subst}
use Rattle.std.proofs.lemmas.List.{take_all}
use Rattle.frame_phases.specs.declared.entry.Callback.{Callback}
use Rattle.dash_loopers.specs.FrameParts.{ShowsBatch}
use Rattle.dash_loopers.proofs.FrameSteps.{by_on, batch_more}
use Rattle.dash_loopers.proofs.QuietPosts.{root_stays, root_then}
use Rattle.dash_loopers.proofs.view_root.ViewRoot.run_batch.Goals as goal

pub loop-callback-init : goal.loop-callback-init
loop-callback-init g c = record { keeps = root_stays c.args.host.now c.args.host.now c.args.pass.now c.requires.by.ready refl; ran = λ lockstep s q at may text a is. is }

pub loop-callback-preserved : goal.loop-callback-preserved
loop-callback-preserved g c =
    let at = c.loop-callback in
    let was = at.invariant in
    let host = c.args.host.now in
    let pass = c.args.pass.now in
    let after = c.run_callback.new in
    record {
      keeps = root_then host at.host after.host pass at.pass after.pass was.keeps c.run_callback.ensures.keeps;
      ran = batch_more host at.host after.host c.args.callbacks.now at.callback-index (record { number = 0; phase = 0; due = 0; id = 0; token = None }) pass at.pass after.pass c.args.self.now at.self after.self
          c.loop-callback-test.true (ap (λ o. o.now) was.keeps.origin) was.ran c.in_ok-run_callback.ensures.shows;
    }

pub run_callback-requires : goal.run_callback-requires
run_callback-requires g c = let was = c.loop-callback.invariant in record { by = by_on c.args.c.now c.args.pass.now c.loop-callback.pass was.keeps.posts.badge c.args.host.now c.loop-callback.host c.requires.by was.keeps.ready }

pub returns-in_err-run_callback-clause-keeps : goal.returns-in_err-run_callback-clause-keeps
returns-in_err-run_callback-clause-keeps g c =
    root_then c.args.host.now c.loop-callback.host c.run_callback.new.host c.args.pass.now c.loop-callback.pass c.run_callback.new.pass c.loop-callback.invariant.keeps c.run_callback.ensures.keeps

pub returns-clause-ran : goal.returns-clause-ran
returns-clause-ran g c =
    let at = c.loop-callback in
    subst (λ (l : List Callback). ShowsBatch (map (λ (d : Callback). d.id) l) c.args.host.now at.host c.args.pass.now at.pass c.args.self.now at.self) (take_all at.callback-index c.args.callbacks.now c.loop-callback-test.false) at.invariant.ran
