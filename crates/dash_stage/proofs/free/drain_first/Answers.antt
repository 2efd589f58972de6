use Rattle.std.proofs.Common.{◌<◌, ℕ, length, sym, ap, ◌∙◌, subst, arith}
use Rattle.std.specs.Prelude.{slice_index_or}
use Rattle.std.proofs.lemmas.List.{get_or_default, get_or-set_other, length-set}
use Rattle.looper_run.specs.Round.{is_ended}
use Rattle.run_model.specs.Moments.{Mode}
use Rattle.run_model.specs.ByClock.{in_free_mode}
use Rattle.dash_loopers.specs.declared.looper.StageLooper.{StageLooper}
use Rattle.dash_stage.proofs.ByClock.{each_set, loops_still}
use Rattle.dash_stage.proofs.free.drain_first.Goals as goal
use Rattle.dash_loopers.specs.Looped.{HasLooped}

pub returns-clause-loopers : goal.returns-clause-loopers
returns-clause-loopers g c =
    let m : Mode = in_free_mode (g.C.Clock.shows c.args.timer.now.clock.now) c.args.timer.now.start in
    let s = c.args.script.now in
    let hall = c.args.hall.now in
    let ls = c.args.loopers.now in
    let it : StageLooper = slice_index_or ls 0 c.index-loopers-0.result in
    let some : 0 < length ls = subst (λ (n : ℕ). 0 < n) (sym c.requires.can.loopers.0) c.requires.can.some in
    each_set (HasLooped m s hall) ls it c.drain_by_clock.new.self (get_or_default ls 0 c.index-loopers-0.result it some) some (loops_still m s hall ls (λ k d lt. (c.requires.can.loopers.1 k d lt).0))
    c.drain_by_clock.ensures.looped

pub returns-clause-others : goal.returns-clause-others
returns-clause-others g c ended k d some lt =
    let ls = c.args.loopers.now in
    let near : k < length ls = subst (λ (n : ℕ). k < n) (length-set ls 0 c.drain_by_clock.new.self) lt in
    ap (λ (z : StageLooper). is_ended z.last) (get_or-set_other ls 0 k c.drain_by_clock.new.self d (λ e. absurd (omega (arith, e, some)))) ∙ ended k d some near
