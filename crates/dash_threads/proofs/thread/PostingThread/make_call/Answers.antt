use Rattle.std.proofs.Common.{rules, ◌≡◌, ◌<◌, ◌≤◌, ◌∙◌, ℕ, List, ap, length, None, Some, Option, sym, subst, refl, arith}
use Rattle.dash_script.specs.declared.script.Command.{Command}
use Rattle.dash_script.specs.declared.script.Script.{Script}
use Rattle.dash_hall.specs.Kits.{badge_of, badge_for}
use Rattle.dash_hall.proofs.Badges.{alike_length}
use Rattle.dash_threads.specs.declared.labels.Labelled.{Labelled}
use Rattle.dash_threads.specs.declared.planned.PlannedCall.{PlannedCall}
use Rattle.dash_threads.specs.declared.thread.PostingThread.{PostingThread}
use Rattle.dash_threads.specs.AtWork.{WorksOn}
use Rattle.dash_threads.specs.Planning.{call_planned}
use Rattle.dash_threads.specs.Threads.{CallsAt, Called, CalledIf, MakesPlanned}
use Rattle.dash_threads.proofs.ThreadRuns.{its_poster, its_home, works_called, on_ok, calls_at_set, calls_nowhere}
use Rattle.dash_threads.proofs.thread.PostingThread.make_call.Goals as goal
use Rattle.dash_threads.proofs.thread.PostingThread.make_call.Goals.{else-place-len-via-then-place-len+else-place-len-2, else-place-len-via-else-place-len}

-- a call that was made as it was planned
makes_planned : (s : Script) (u : ℕ) (command : Command) (t t' : PostingThread) (o : Option PlannedCall) (bs : List Labelled) (p : PlannedCall) → o ≡ call_planned s bs u command → bs ≡ t.barriers.items → o ≡ Some p
    → Called command p t t' → MakesPlanned s u command t t'
makes_planned s u command t t' o bs p is same found called =
    subst (λ (x : Option PlannedCall). CalledIf command x t t') (sym found ∙ (is ∙ ap (λ (z : List Labelled). call_planned s z u command) same)) called

pub perform-requires : goal.perform-requires
perform-requires g c =
    let t = c.args.self.now in
    let hall = c.args.hall.now in
    let near : c.in-Some.planned.looper < length t.kit.posters.items = omega (arith, c.len.ensures, c.if-place-len.true) in
    let near' : c.in-Some.planned.looper < length hall.queues.items = omega (arith, c.len-then-place-len.ensures, c.if-place-len-2.true) in
    record {
      queue = its_poster c.args.script.now hall t c.requires.at_work.hall c.requires.at_work.thread c.in-Some.planned.looper c.index.result.now c.index_mut.result.now c.index.ensures c.index_mut.ensures.value near;
      pass = c.requires.at_work.thread.pass;
      home = its_home c.args.script.now hall t c.requires.at_work.hall c.requires.at_work.thread c.in-Some.planned.looper c.index.result.now c.index.ensures near';
    }

pub returns-in_err-token : goal.returns-in_err-token
returns-in_err-token g c = record {
  works = works_called c.args.script.now c.args.hall.now c.args.self.now _ c.in-Some.planned.looper c.index_mut.result.now c.perform.new.poster c.requires.at_work.thread c.index_mut.ensures.value
      c.perform.ensures.called.on refl refl refl refl refl;
  made = search rules;
}

pub returns-then-place-len-2 : goal.returns-then-place-len-2
returns-then-place-len-2 g c =
    let t = c.args.self.now in
    let p = c.index_mut.result.now in
    let q = c.perform.new.poster in
    let plan = c.in-Some.planned in
    let is = c.perform.ensures.called.on in
    let same = c.keep.ensures.same in
    let near : plan.looper < length t.kit.posters.items = omega (arith, c.len.ensures, c.if-place-len.true) in
    record {
      works = subst (WorksOn c.args.script.now c.args.hall.now t) (sym same)
          (works_called c.args.script.now c.args.hall.now t _ plan.looper p q c.requires.at_work.thread c.index_mut.ensures.value is refl refl refl refl refl);
      made = on_ok c.keep.result _ _
          (λ kept. makes_planned c.args.script.now c.args.timed.now c.args.timed.command t c.keep.new.self c.call_for.result c.as_slice.result.now plan c.call_for.ensures c.as_slice.ensures.value c.in-Some.is (record {
            token = c.in_ok-token.token;
            calls = subst (λ (z : PostingThread). CallsAt plan.looper plan.call c.in_ok-token.token t.kit.posters.items z.kit.posters.items) (sym same)
                (calls_at_set t.kit.posters.items plan.looper p q plan.call c.in_ok-token.token c.index_mut.ensures.value near
                (record { sender = is.sender; seen = (is.more, sym is.seen); made = c.in_ok-token.ensures.called.made; moment = c.in_ok-token.ensures.answered.moment }));
            answered = λ near'. c.in_ok-token.ensures.answered.token;
            barriers = kept;
            frames = ap (λ (z : PostingThread). z.kit.frames) same;
          }))
          c.keep.ensures.kept;
    }

pub returns : goal.returns
returns g c =
    let t = c.args.self.now in
    let plan = c.in-Some.planned in
    let same = c.keep-2.ensures.same in
    let is = c.requires.at_work.thread in
    let long = alike_length badge_of (badge_for t.number) t.kit.posters.items c.args.hall.now.queues.items is.posters in
    let far : length t.kit.posters.items ≤ plan.looper = elim c.else-place-len.branch [
      | else-place-len-via-then-place-len+else-place-len-2 w ↦ omega (arith, long, w.len-then-place-len.ensures, w.if-place-len-2.false)
      | else-place-len-via-else-place-len w ↦ omega (arith, c.len.ensures, w.if-place-len.false)
    ] in
    record {
      works = subst (WorksOn c.args.script.now c.args.hall.now t) (sym same)
          (record { thread = record { number = is.number; posters = is.posters; frames = is.frames; pass = is.pass }; number = refl; passed = refl; goes = refl; bells = refl });
      made = on_ok c.keep-2.result _ _
          (λ kept. makes_planned c.args.script.now c.args.timed.now c.args.timed.command t c.keep-2.new.self c.call_for.result c.as_slice.result.now plan c.call_for.ensures c.as_slice.ensures.value c.in-Some.is (record {
            token = None;
            calls = subst (λ (z : PostingThread). CallsAt plan.looper plan.call None t.kit.posters.items z.kit.posters.items) (sym same) (calls_nowhere t.kit.posters.items plan.looper plan.call None far);
            answered = λ near. absurd (omega (arith, near, far));
            barriers = kept;
            frames = ap (λ (z : PostingThread). z.kit.frames) same;
          }))
          c.keep-2.ensures.kept;
    }
