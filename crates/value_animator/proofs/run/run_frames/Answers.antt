use Rattle.std.proofs.Common.{◌≡◌, ◌+◌, ◌<◌, ◌≤◌, List, [], length, map, drop, sym, ◌∙◌, ap, subst, arith, true, false, None}
use Rattle.std.specs.Prelude.{string_bytes}
use Rattle.frame_phases.specs.State.{posted, next_callback}
use Rattle.value_animator.specs.declared.runner.Runner.{Runner}
use Rattle.value_animator.specs.Framing.{IsFrameReady, after_frame}
use Rattle.value_animator.specs.Run.{nth_frame_time, frame_times, all_ended}
use Rattle.value_animator.specs.Runners.{runner_at}
use Rattle.value_animator.proofs.Counting.{end_comes}
use Rattle.value_animator.proofs.Going.{Goes, goes_start, goes_more, goes_end, started, some_there, same_pulse, front_back}
use Rattle.value_animator.proofs.run.run_frames.Goals as goal

pub loop-number-init : goal.loop-number-init
loop-number-init c =
    let some : 0 < length c.args.values.now.things = some_there (length c.args.values.now.things) c.is_empty.result c.is_empty.ensures.1 c.if-is_empty.false in
    let some_period : 0 < c.args.values.now.period = let low : 1000000 ≤ c.args.values.now.period = c.requires.low in omega arith in
    let start = c.in_ok-post.ensures.after ∙ ap (λ s. posted s (next_callback s 1 0 0 None) 0) c.in_ok-frames.ensures in
    let given = c.in_ok-things.ensures ∙ ap (map (λ t. runner_at t [])) c.as_slice.ensures in
    goes_start c.args.values.now (string_bytes c.args.out.now) c.post.new.self c.in_ok-things.things.items some
    (started c.args.values.now.period c.post.new.self some_period c.requires.high start) given

pub unreachable-requires : goal.unreachable-requires
unreachable-requires c =
    c.in_default.not-Some (nth_frame_time c.args.values.now.period c.loop-number._number) (c.asked.ensures.asked ∙ c.loop-number.invariant.ready.asked)

pub run_frame-requires : goal.run_frame-requires
run_frame-requires c =
    let k = c.loop-number._number in
    let at = same_pulse c.asked.result c.in-Some.pulse (nth_frame_time c.args.values.now.period k) c.in-Some.is (c.asked.ensures.asked ∙ c.loop-number.invariant.ready.asked) in
    subst (λ q. IsFrameReady c.loop-number.frames q) (sym at) c.loop-number.invariant.ready

pub returns-then-branch : goal.returns-then-branch
returns-then-branch c =
    let v = c.args.values.now in
    let k = c.loop-number._number in
    let inv = c.loop-number.invariant in
    let at = same_pulse c.asked.result c.in-Some.pulse (nth_frame_time v.period k) c.in-Some.is (c.asked.ensures.asked ∙ inv.ready.asked) in
    let given = c.deref_mut.ensures.value ∙ inv.standing in
    goes_end v k c.in-Some.pulse (string_bytes c.args.out.now) (string_bytes c.loop-number.out) (string_bytes c.run_frame.new.out) c.loop-number.frames c.run_frame.new.frames
    c.loop-number.things.items c.run_frame.new.things inv at
    (c.in_ok-run_frame.ensures.told v.things (frame_times v.period k) given)
    (c.in_ok-run_frame.ensures.asked v.things (frame_times v.period k) given)
    (sym c.if-branch.true ∙ c.in_ok-run_frame.ensures.ended)
    (c.in_ok-run_frame.ensures.frames ∙ ap (λ b. after_frame c.loop-number.frames c.in-Some.pulse b) c.if-branch.true)

pub loop-number-preserved : goal.loop-number-preserved
loop-number-preserved c =
    let v = c.args.values.now in
    let k = c.loop-number._number in
    let inv = c.loop-number.invariant in
    let few : k ≤ 60000 = let lt : k < 60001 = c.loop-number-test.true in omega arith in
    let at = same_pulse c.asked.result c.in-Some.pulse (nth_frame_time v.period k) c.in-Some.is (c.asked.ensures.asked ∙ inv.ready.asked) in
    let given = c.deref_mut.ensures.value ∙ inv.standing in
    let next = goes_more v k c.in-Some.pulse (string_bytes c.args.out.now) (string_bytes c.loop-number.out) (string_bytes c.run_frame.new.out) c.loop-number.frames c.run_frame.new.frames
    c.loop-number.things.items c.run_frame.new.things c.requires few inv at
    (c.in_ok-run_frame.ensures.told v.things (frame_times v.period k) given)
    (c.in_ok-run_frame.ensures.asked v.things (frame_times v.period k) given)
    (sym c.if-branch.false ∙ c.in_ok-run_frame.ensures.ended)
    (c.in_ok-run_frame.ensures.frames ∙ ap (λ b. after_frame c.loop-number.frames c.in-Some.pulse b) c.if-branch.false) in
    let whole = front_back c.loop-number.things.len c.run_frame.new.things (drop (length c.run_frame.new.things) c.loop-number.things.items) (c.run_frame.auto.things ∙ c.deref_mut.ensures.len) in
    subst (λ (l : List Runner). Goes v (k + 1) (string_bytes c.args.out.now) (string_bytes c.run_frame.new.out) c.run_frame.new.frames l) (sym whole) next

pub unreachable-requires-2 : goal.unreachable-requires-2
unreachable-requires-2 c =
    let v = c.args.values.now in
    let k = c.loop-number._number in
    let many : 60001 ≤ k = c.loop-number-test.false in
    let lt : k < k + 1 = omega arith in
    let left : all_ended v.things (frame_times v.period k) ≡ false = c.loop-number.invariant.not_ended k lt in
    let done : all_ended v.things (frame_times v.period k) ≡ true = end_comes v k c.requires many in
    let wrong : true ≡ false = sym done ∙ left in
    absurd cc
