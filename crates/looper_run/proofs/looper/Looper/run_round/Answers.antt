use Rattle.std.proofs.Common.{refl, ◌∙◌, inl}
use Rattle.looper_run.specs.Carried.{unasked}
use Rattle.looper_run.specs.Tests.{IsSameLooper}
use Rattle.looper_run.proofs.Working.{same_then}
use Rattle.looper_run.proofs.Sleeping.{still_of}
use Rattle.looper_run.proofs.Keeping.{keeps_then, keeps_unasked}
use Rattle.looper_run.proofs.Through.{may_again}
use Rattle.looper_run.proofs.Rounds.{begun, works_beginning, begun_any, round_looks}
use Rattle.looper_run.proofs.looper.Looper.run_round.Goals as goal

pub drain-requires-clause-may : goal.drain-requires-clause-may
drain-requires-clause-may g c κs lives =
    let D = g.D.Dispatcher in
    let came = c.in-Ok.ensures.comes in
    may_again D.Serves D.origin D.nudges unasked IsSameLooper D.Awaits D.Meets c.args.d.now c.begin.new.d c.args.queue.now c.args.pool.now c.args.self.now c.begin.new.self (still_of c.args.self.now.held c.begin.new.self.held came.keeps.same)
    (record { looper = c.requires.looper; ready = c.requires.ready }) came.keeps came.rests came.ended

pub returns-clause-keeps : goal.returns-clause-keeps
returns-clause-keeps g c =
    let D = g.D.Dispatcher in
    let drained = keeps_unasked D.Serves D.origin D.nudges D.asked IsSameLooper IsSameLooper c.begin.new.d c.drain.new.d c.begin.new.self.held c.drain.new.self.held c.drain.ensures.comes.keeps.same c.drain.ensures.comes.keeps in
    keeps_then D.Serves D.origin D.nudges unasked IsSameLooper same_then c.args.d.now c.begin.new.d c.drain.new.d c.args.self.now.held c.begin.new.self.held c.drain.new.self.held c.begin.ensures.comes.keeps drained

pub returns-clause-round : goal.returns-clause-round
returns-clause-round g c =
    begun c.args.queue.now.constants.setting c.args.now c.args.self.now.held c.begin.new.self.held c.drain.new.self.held c.drain.result
    (works_beginning _ c.args.queue.now.constants.setting c.args.now c.args.self.now c.begin.new.self c.begin.ensures.begun) c.drain.ensures.round

pub returns-in_default-clause-looks : goal.returns-in_default-clause-looks
returns-in_default-clause-looks g c = (c.begin.new.self, begun_any _ c.args.self.now c.begin.new.self c.begin.ensures.begun, inl refl)

pub returns-clause-looks : goal.returns-clause-looks
returns-clause-looks g c =
    round_looks _ _ c.args.now c.args.self.now c.begin.new.self c.drain.new.self c.drain.result c.in-Ok.ensures.begun (λ heard is. c.drain.ensures.comes.keeps.asked ∙ is) c.drain.ensures.looks
