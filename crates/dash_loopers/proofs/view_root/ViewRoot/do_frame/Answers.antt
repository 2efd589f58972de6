use Rattle.std.proofs.Common.{ap, sym, ◌∙◌, subst, ℕ, OnOk}
use Rattle.dash_hall.specs.Hosts.{IsHostNow, origin_now}
use Rattle.dash_loopers.specs.FrameParts.{ShowsPhases}
use Rattle.dash_loopers.proofs.FrameSteps.{by_on, may_take_on, begun_badge, frame_runs, unscheduled_runs, backwards_runs}
use Rattle.dash_loopers.proofs.view_root.ViewRoot.do_frame.Goals as goal

pub run_phases-requires-clause-by : goal.run_phases-requires-clause-by
run_phases-requires-clause-by g c =
    let begun = c.begin_frame in
    by_on c.args.c.now c.args.pass.now begun.new.pass (begun_badge _ c.args.pass.now begun.new.pass begun.result begun.ensures.turn) c.args.host.now begun.new.self c.requires.by
    (subst IsHostNow (sym begun.ensures.same) c.requires.by.ready)

pub run_phases-requires-clause-takes : goal.run_phases-requires-clause-takes
run_phases-requires-clause-takes g c =
    let begun = c.begin_frame in
    may_take_on c.args.c.now c.args.pass.now begun.new.pass (begun_badge _ c.args.pass.now begun.new.pass begun.result begun.ensures.turn) 0 c.requires.by.pass_of.0 c.requires.begins.0 c.in-Began.ensures.frame

pub returns-in-Began-clause-keeps : goal.returns-in-Began-clause-keeps
returns-in-Began-clause-keeps g c =
    let begun = c.begin_frame in
    let keeps = c.run_phases.ensures.keeps in
    record { ready = keeps.ready; origin = keeps.origin ∙ ap origin_now begun.ensures.same; badge = keeps.badge ∙ begun_badge _ c.args.pass.now begun.new.pass begun.result begun.ensures.turn }

pub returns-in-Began-clause-ran : goal.returns-in-Began-clause-ran
returns-in-Began-clause-ran g c =
    let begun = c.begin_frame in
    let ran = c.run_phases in
    frame_runs g.U.Uptime.is_moment c.args.c.now ran.result _ c.args.host.now begun.new.self ran.new.host c.args.pass.now begun.new.pass ran.new.pass c.args.self.now ran.new.self begun.ensures.same c.in-Began.ensures.turn
    (subst (λ (n : ℕ). OnOk ran.result (ShowsPhases c.args.c.now (g.U.Uptime.is_moment begun.new.self.uptime.now) n begun.new.pass ran.new.pass begun.new.self ran.new.host c.args.self.now ran.new.self)) c.requires.phases ran.ensures.ran)

pub returns-in-Unscheduled-clause-ran : goal.returns-in-Unscheduled-clause-ran
returns-in-Unscheduled-clause-ran g c =
    let begun = c.begin_frame in
    unscheduled_runs g.U.Uptime.is_moment c.args.c.now c.args.host.now begun.new.self c.args.pass.now begun.new.pass c.args.self.now begun.ensures.same c.requires.begins c.in-Unscheduled.ensures.turn

pub returns-in-Backwards-clause-ran : goal.returns-in-Backwards-clause-ran
returns-in-Backwards-clause-ran g c =
    let begun = c.begin_frame in
    backwards_runs g.U.Uptime.is_moment c.args.c.now _ c.args.host.now begun.new.self c.args.pass.now begun.new.pass c.args.self.now begun.ensures.same c.in-Backwards.ensures.turn
