use Rattle.std.proofs.Common.{refl, ◌∙◌}
use Rattle.run_model.specs.ByClock.{in_free_mode}
use Rattle.dash_loopers.specs.Looped.{looper_with_parts}
use Rattle.dash_loopers.proofs.LooperKits.{looper_of, parts_of}
use Rattle.dash_loopers.proofs.LooperLooped.{looped_with}
use Rattle.dash_loopers.proofs.looper.StageLooper.take_back.Goals as goal

pub close-requires-clause-looper : goal.close-requires-clause-looper
close-requires-clause-looper g c =
    let p = c.args.player in
    looper_of p.place.script.now p.place.hall.now (looper_with_parts c.args.self.now c.args.last p.parts) c.requires.hall c.requires.looped.looper

pub close-requires-clause-parts : goal.close-requires-clause-parts
close-requires-clause-parts g c =
    let p = c.args.player in
    parts_of p.place.script.now p.place.hall.now (looper_with_parts c.args.self.now c.args.last p.parts) p.parts c.requires.looped.looper refl

pub returns-clause-looped : goal.returns-clause-looped
returns-clause-looped g c =
    let p = c.args.player in
    let m = in_free_mode (g.C.Clock.shows p.timer.now.clock.now) p.timer.now.start in
    looped_with m p.place.script.now p.place.hall.now p.began.now.value c.args.self.now c.args.last p.parts c.close.new.parts c.close.ensures.parts (λ on. c.close.ensures.same (c.gave_up.ensures ∙ on)) c.requires.looped

pub returns-clause-nudged : goal.returns-clause-nudged
returns-clause-nudged g c = λ up apart. c.close.ensures.nudged (c.gave_up.ensures ∙ up) apart
