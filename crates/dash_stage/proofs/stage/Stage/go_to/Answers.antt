use Rattle.std.proofs.Common.{◌≡◌, ℕ, List, max, true, true≢false, sym, ap, ◌∙◌, subst, arith}
use Rattle.dash_stage.specs.Controllers.{HasReached}
use Rattle.dash_script.specs.declared.script.Block.{Block}
use Rattle.dash_stage.specs.Steps.{RestsAt, TimeLiesAhead, BeginsBlock}
use Rattle.dash_stage.proofs.Moves.{way_still, before_on, ready_by}
use Rattle.dash_stage.proofs.stage.Stage.go_to.Goals as goal
use Rattle.dash_stage.proofs.stage.Stage.go_to.Goals.{else-moved-via-then-moved+else-next-time, else-moved-via-else-moved}

pub loop-init : goal.loop-init
loop-init g c = record { way = c.requires.way; within = c.requires.goal.later; rests = λ past rests. rests; before = λ past rests before. before }

pub advance-requires-clause-way : goal.advance-requires-clause-way
advance-requires-clause-way g c = way_still c.args.script.now c.loop.self c.next_due.new.self c.next_due.ensures.looked.still c.loop.invariant.way

pub loop-preserved : goal.loop-preserved
loop-preserved g c =
    let s = c.args.script.now in
    let time = c.args.time in
    let st = c.loop.self in
    let gone = c.advance.new.self in
    let after = c.settle.new.self in
    let at = c.loop.invariant in
    let due = c.next_due.ensures in
    let next = c.at_most-next.result in
    let within = c.at_most-next.ensures.within in
    let on = c.in_ok-moved.ensures.on in
    let settles = c.in_ok-settle.ensures.settles in
    let ready = λ (past : List Block) (rests : RestsAt s past st). ready_by s past next time c.next_due.result st c.next_due.new.self at.way.stage due.looked c.requires.goal.planned c.at_most-next.ensures.one c.at_most-next.ensures.early due.due due.reason rests in
    let now : after.time ≡ max st.time next = c.settle.ensures.still.now ∙ (on.now ∙ ap (λ (t : ℕ). max t next) due.looked.still.now) in
    record {
      way = way_still s gone after c.settle.ensures.still c.advance.ensures.way;
      within = (let was = at.within in omega (arith, was, within, now));
      rests = λ past rests.
          let moved = (on.at past (ready past (at.rests past rests))).at in
          record { at = (settles.at past moved).at; rested = settles.rested moved.timely.same };
      before = λ past rests before.
          let is_ready = ready past (at.rests past rests) in
          let moved = on.at past is_ready in
          let settled = settles.at past moved.at in
          before_on s past time next st after (λ sound.
          let drained : c.in_ok-moved.moved ≡ true = on.drained past is_ready (settled.sound sound) in
          let ahead = (at.before past rests before).ahead (moved.sound (settled.sound sound)) in
          elim c.else-moved.branch [
            | else-moved-via-then-moved+else-next-time w ↦ (ahead, let apart = w.if-next-time.false in omega (arith, apart, within))
            | else-moved-via-else-moved w ↦ absurd (true≢false (sym drained ∙ w.if-moved.false))
          ]) now settled.at;
    }

pub returns-then-next-time : goal.returns-then-next-time
returns-then-next-time g c =
    let s = c.args.script.now in
    let time = c.args.time in
    let st = c.loop.self in
    let gone = c.advance.new.self in
    let at = c.loop.invariant in
    let due = c.next_due.ensures in
    let next = c.at_most-next.result in
    let same : next ≡ time = c.if-next-time.true in
    let on = c.in_ok-moved.ensures.on in
    let ready = λ (past : List Block) (rests : RestsAt s past st). ready_by s past next time c.next_due.result st c.next_due.new.self at.way.stage due.looked c.requires.goal.planned c.at_most-next.ensures.one c.at_most-next.ensures.early due.due due.reason rests in
    record {
      way = c.advance.ensures.way;
      goes = record {
        gone = record {
          now = (let now = on.now in let looked = due.looked.still.now in let was = at.within in omega (arith, now, looked, was, same));
          reached = subst (λ (t : ℕ). HasReached t gone.controller) same (on.reached c.if-moved.true);
        };
        at = λ past rests. (on.at past (ready past (at.rests past rests))).at;
        block = λ past rests before. subst (λ (t : ℕ). BeginsBlock s past t gone) same
            (on.block past (ready past (at.rests past rests)) (subst (λ (t : ℕ). TimeLiesAhead s past t st) (sym same) (at.before past rests before)));
      };
    }
