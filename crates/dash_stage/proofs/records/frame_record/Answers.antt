use Rattle.std.proofs.Common.{◌≡◌, ◌+◌, ◌<◌, [], ◌∷◌, ◌++◌, length, refl, ap, sym, subst, length-append, arith}
use Rattle.std.proofs.lemmas.Result.{IfOk-weaker}
use Rattle.choreographer.specs.Ends.{IsWhole}
use Rattle.dash_hall.specs.declared.kit.Kit.{Kit}
use Rattle.dash_hall.specs.Dealing.{GivesPass}
use Rattle.dash_hall.proofs.HallSteps.{holder_within}
use Rattle.dash_stage.specs.Ending.{AreOfNextPasses}
use Rattle.dash_stage.proofs.Ends.HallFrames.{has_pass, takes_more, taken_own, taken_theirs, taken_sealed, taken_kits, whole_run}
use Rattle.dash_stage.proofs.records.frame_record.Goals as goal

pub next_pass-requires : goal.next_pass-requires
next_pass-requires c =
    let at = c.loop-number in
    let s = c.args.script.now in
    let few = holder_within s c.args.looper at.number c.requires.one in
    let held = c.holder.ensures in
    let senders : length c.args.kits.now.items ≡ s.threads + s.loopers + 1 = c.requires.kits.count in
    subst (λ (x : Kit). 0 < length x.frames.items) (sym c.index_mut.ensures.value)
    (has_pass s c.args.looper c.args.choreographer at.number c.args.kits.now.items at.passes.items at.kits.items c.holder.result c.index_mut.result.now c.loop-number-test.true held (omega (arith, few, held, senders)) c.requires.kits.begin at.invariant.taken)

pub loop-number-preserved : goal.loop-number-preserved
loop-number-preserved c =
    let at = c.loop-number in
    let s = c.args.script.now in
    let few = holder_within s c.args.looper at.number c.requires.one in
    let held = c.holder.ensures in
    let senders : length c.args.kits.now.items ≡ s.threads + s.loopers + 1 = c.requires.kits.count in
    let p = c.next_pass.result in
    let items : c.push.new.self.items ≡ at.passes.items ++ p ∷ [] = c.in_ok-push.ensures.items in
    let count = at.invariant.count in
    record {
      count = let all = ap length items in let more = length-append at.passes.items (p ∷ []) in omega (arith, all, more, count);
      taken = takes_more s c.args.looper c.args.choreographer at.number c.args.kits.now.items at.passes.items _ p at.kits.items _ c.holder.result c.index_mut.result.now c.next_pass.new.self c.loop-number-test.true held (omega (arith, few, held, senders)) c.requires.kits.begin count items refl
          (subst (λ (x : Kit). GivesPass x p c.next_pass.new.self) c.index_mut.ensures.value c.next_pass.ensures) at.invariant.taken;
    }

pub into_whole-requires-clause-parts : goal.into_whole-requires-clause-parts
into_whole-requires-clause-parts c =
    let at = c.loop-number in
    let s = c.args.script.now in
    let over = c.loop-number-test.false in
    let most = at.auto.number-end in
    let all : at.number ≡ s.threads + 2 = omega (arith, over, most) in
    taken_sealed s c.args.looper c.args.choreographer at.number c.args.kits.now.items at.passes.items at.kits.items c.args.parts.items at.invariant.count all at.invariant.taken c.requires.one c.requires.kits.count c.requires.sealed

pub returns-clause-record : goal.returns-clause-record
returns-clause-record c =
    whole_run c.args.script.now c.args.looper c.args.choreographer c.loop-number.passes.items c.into_whole.result c.requires.constants c.into_whole.ensures.constants c.into_whole.ensures.whole

pub returns-clause-theirs : goal.returns-clause-theirs
returns-clause-theirs c =
    let at = c.loop-number in
    let s = c.args.script.now in
    let over = c.loop-number-test.false in
    let most = at.auto.number-end in
    let all : at.number ≡ s.threads + 2 = omega (arith, over, most) in
    IfOk-weaker c.into_whole.result (λ r. IsWhole c.args.choreographer at.passes.items r.entries) (λ r. AreOfNextPasses s c.args.looper c.args.kits.now.items r.entries)
    (λ r w. record {
      parted = taken_theirs s c.args.looper c.args.choreographer at.number c.args.kits.now.items at.passes.items at.kits.items r.entries at.invariant.count all at.invariant.taken c.requires.one w.heard;
      own = taken_own s c.args.looper c.args.choreographer at.number c.args.kits.now.items at.passes.items at.kits.items r.entries at.invariant.count all at.invariant.taken w.begins;
    })
    c.into_whole.ensures.whole

pub returns-clause-kits : goal.returns-clause-kits
returns-clause-kits c =
    let at = c.loop-number in
    let s = c.args.script.now in
    let over = c.loop-number-test.false in
    let most = at.auto.number-end in
    let all : at.number ≡ s.threads + 2 = omega (arith, over, most) in
    taken_kits s c.args.looper c.args.choreographer at.number c.args.kits.now.items at.passes.items at.kits.items c.into_whole.result all at.invariant.taken
