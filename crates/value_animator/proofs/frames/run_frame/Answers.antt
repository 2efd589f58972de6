use Rattle.std.proofs.Common.{false, None}
use Rattle.std.specs.Prelude.{not}
use Rattle.value_animator.specs.Framing.{last_number}
use Rattle.value_animator.proofs.Framing.{grown, two, three, five, six, asked_for, step_one, step_two, step_three, step_four, step_five, step_six, step_seven, next_at, two_stands, three_stands, five_stands, six_stands}
use Rattle.value_animator.proofs.frames.run_frame.Goals as goal

pub take-requires-clause-next : goal.take-requires-clause-next
take-requires-clause-next c =
    let s = c.args.frames.now in
    let p = c.args.pulse in
    let one = step_one s c.deliver.new.self p c.deliver.result c.requires.asked c.deliver.ensures.pulse c.deliver.ensures.after in
    next_at c.begin.new.frames (grown s (two p) false None) 0 p _ _ (step_two s c.deliver.new.self c.begin.new.frames p one c.in_ok-begin.ensures) (two_stands s p None c.requires)

pub take-requires-2-clause-next : goal.take-requires-2-clause-next
take-requires-2-clause-next c =
    let s = c.args.frames.now in
    let p = c.args.pulse in
    let one = step_one s c.deliver.new.self p c.deliver.result c.requires.asked c.deliver.ensures.pulse c.deliver.ensures.after in
    let at_two = step_two s c.deliver.new.self c.begin.new.frames p one c.in_ok-begin.ensures in
    next_at c.take.new.frames (grown s (three p) false None) 1 p _ _ (step_three s c.begin.new.frames c.take.new.frames p c.requires at_two c.in_ok-take.ensures) (three_stands s p None c.requires)

pub take-requires-3-clause-next : goal.take-requires-3-clause-next
take-requires-3-clause-next c =
    let s = c.args.frames.now in
    let p = c.args.pulse in
    let b = c.have_ended-ended.result in
    let one = step_one s c.deliver.new.self p c.deliver.result c.requires.asked c.deliver.ensures.pulse c.deliver.ensures.after in
    let at_two = step_two s c.deliver.new.self c.begin.new.frames p one c.in_ok-begin.ensures in
    let at_three = step_three s c.begin.new.frames c.take.new.frames p c.requires at_two c.in_ok-take.ensures in
    let at_four = step_four s c.take.new.frames c.take-2.new.frames p c.requires at_three c.in_ok-take-2.ensures in
    let at_five = step_five s c.take-2.new.frames c.post_again.new.frames p b c.requires at_four c.in_ok-post_again.ensures in
    next_at c.post_again.new.frames (grown s (five p (last_number s) b) (not b) (asked_for s p b)) 2 p _ _ at_five (five_stands s p b (not b) (asked_for s p b) c.requires)

pub take-requires-4-clause-next : goal.take-requires-4-clause-next
take-requires-4-clause-next c =
    let s = c.args.frames.now in
    let p = c.args.pulse in
    let b = c.have_ended-ended.result in
    let one = step_one s c.deliver.new.self p c.deliver.result c.requires.asked c.deliver.ensures.pulse c.deliver.ensures.after in
    let at_two = step_two s c.deliver.new.self c.begin.new.frames p one c.in_ok-begin.ensures in
    let at_three = step_three s c.begin.new.frames c.take.new.frames p c.requires at_two c.in_ok-take.ensures in
    let at_four = step_four s c.take.new.frames c.take-2.new.frames p c.requires at_three c.in_ok-take-2.ensures in
    let at_five = step_five s c.take-2.new.frames c.post_again.new.frames p b c.requires at_four c.in_ok-post_again.ensures in
    let at_six = step_six s c.post_again.new.frames c.take-3.new.frames p b c.requires at_five c.in_ok-take-3.ensures in
    next_at c.take-3.new.frames (grown s (six p (last_number s) b) (not b) (asked_for s p b)) 3 p _ _ at_six (six_stands s p b (not b) (asked_for s p b) c.requires)

pub returns-clause-frames : goal.returns-clause-frames
returns-clause-frames c =
    let s = c.args.frames.now in
    let p = c.args.pulse in
    let b = c.have_ended-ended.result in
    let one = step_one s c.deliver.new.self p c.deliver.result c.requires.asked c.deliver.ensures.pulse c.deliver.ensures.after in
    let at_two = step_two s c.deliver.new.self c.begin.new.frames p one c.in_ok-begin.ensures in
    let at_three = step_three s c.begin.new.frames c.take.new.frames p c.requires at_two c.in_ok-take.ensures in
    let at_four = step_four s c.take.new.frames c.take-2.new.frames p c.requires at_three c.in_ok-take-2.ensures in
    let at_five = step_five s c.take-2.new.frames c.post_again.new.frames p b c.requires at_four c.in_ok-post_again.ensures in
    let at_six = step_six s c.post_again.new.frames c.take-3.new.frames p b c.requires at_five c.in_ok-take-3.ensures in
    step_seven s c.take-3.new.frames c.take-4.new.frames p b c.requires at_six c.in_ok-take-4.ensures
