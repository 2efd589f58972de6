use Rattle.std.proofs.Common.{◌≡◌, Some, None, refl, ap, arith}
use Rattle.dash_stage.proofs.Stages.StageWhole.{one_waits, may_come, one_waits_more, due_of_rest}
use Rattle.dash_stage.proofs.Moves.{one_look_more, looked_self, looked_then}
use Rattle.dash_stage.proofs.stage.Stage.next_due.Goals as goal

pub loop-looper-init : goal.loop-looper-init
loop-looper-init g c = record {
  looked = looked_self c.args.script.now c.args.self.now c.requires.stage;
  early = λ t early k l lt going. absurd (omega (arith, lt));
  reason = λ t is. (let wrong : None ≡ Some t = is in absurd cc);
  looks = record { looked = λ k l lt going. absurd (omega (arith, lt)); rest = λ k p le. refl };
}

pub loop-looper-preserved : goal.loop-looper-preserved
loop-looper-preserved g c =
    let n = c.loop-looper.looper in
    let at = c.loop-looper.invariant in
    let done = c.due_on-due.ensures in
    let same = ap (λ v. v.items) at.looked.loopers in
    record {
      looked = looked_then c.args.script.now c.args.self.now c.loop-looper.self c.due_on-due.new.self at.looked done.looked;
      early = λ t early.
          let both = c.earlier-next.ensures.early t early in
          one_waits_more t n _ _ same (at.early t both.0) (λ l. done.due t l both.1);
      reason = λ t is.
          one_waits c.args.script.now t n c.args.self.now.loopers.items c.loop-looper.self.loopers.items c.loop-looper.next c.due_on-due.result (omega (arith, c.loop-looper-test.true, c.requires.stage.loopers.0))
          same (at.reason t) (done.reason t) (c.earlier-next.ensures.one t is);
      looks = one_look_more n _ _ _ _ _ _ _ _ same at.looks done.look done.elsewhere c.earlier-next.ensures.early;
    }

pub returns : goal.returns
returns g c =
    let s = c.args.script.now in
    let at = c.loop-looper.invariant in
    let past = c.loop-looper-test.false in
    record {
      looked = at.looked;
      due = λ t rest early. due_of_rest s t c.args.self.now rest (λ k l lt going. at.early t early k l (let count = c.requires.stage.loopers.0 in omega (arith, past, lt, count)) going);
      reason = λ t rest is. may_come s t c.args.self.now c.requires.stage rest (at.reason t is);
      look = λ k lt l going. at.looks.looked k l (omega (arith, past, lt)) going;
    }
