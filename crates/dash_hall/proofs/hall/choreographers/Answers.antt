use Rattle.std.proofs.Common.{◌≡◌, [], ◌∷◌, ◌++◌, length, ap, arith, length-append}
use Rattle.dash_hall.specs.Kits.{frame_key, frame_constants}
use Rattle.dash_hall.proofs.HallSteps.{keyed_more, choreographers_more, choreographers_all}
use Rattle.dash_hall.proofs.hall.choreographers.Goals as goal

pub loop-looper-preserved : goal.loop-looper-preserved
loop-looper-preserved c =
    let at = c.loop-looper in
    let s = c.args.script.now in
    let made = c.in_ok-choreographer.choreographer in
    let items : c.push.new.self.items ≡ at.choreographers.items ++ made ∷ [] = c.in_ok-push.ensures.items in
    let count = at.invariant.count in
    record {
      count = let all = ap length items in let more = length-append at.choreographers.items (made ∷ []) in omega (arith, all, more, count);
      choreographers = keyed_more frame_key (frame_constants s) at.choreographers.items _ made at.looper items at.invariant.choreographers c.in_ok-choreographer.ensures.constants;
      dealt = choreographers_more s at.choreographers.items _ made at.looper c.args.kits.now.items at.kits.items c.choreographer.new.kits.items items count at.invariant.dealt c.in_ok-choreographer.ensures.dealt;
    }

pub returns-clause-dealt : goal.returns-clause-dealt
returns-clause-dealt c =
    let at = c.loop-looper in
    let s = c.args.script.now in
    let over = c.loop-looper-test.false in
    let most = at.auto.looper-end in
    let count = at.invariant.count in
    let all : length at.choreographers.items ≡ s.loopers = omega (arith, over, most, count) in
    choreographers_all s at.choreographers.items c.args.kits.now.items at.kits.items all c.requires.kits at.invariant.dealt
