use Rattle.std.proofs.Common.{◌≡◌, Some, refl}
use Rattle.dash_loopers.proofs.LooperPlaces.{frame_of_badge}
use Rattle.dash_loopers.proofs.LooperKits.{parts_of}
use Rattle.dash_loopers.proofs.LooperQueue.{within_frames}
use Rattle.dash_loopers.proofs.LooperNext.{looper_asked, played_asked, pulse_asked, posters_asked}
use Rattle.dash_loopers.proofs.looper.StageLooper.next_pulse.Goals as goal

pub of_looper-choreographer-requires : goal.of_looper-choreographer-requires
of_looper-choreographer-requires g c = within_frames c.args.script.now c.args.hall.now c.args.self.now c.requires.hall c.requires.looper

pub asked-stamp-requires : goal.asked-stamp-requires
asked-stamp-requires g c =
    let l = c.args.self.now in
    let is : l.parts ≡ Some c.in-Some.parts = cc in
    let frames = c.of_looper-choreographer.result.now in
    frame_of_badge c.args.script.now.threads c.in-Some.parts.frames frames ((parts_of c.args.script.now c.args.hall.now l c.in-Some.parts c.requires.looper is).frames frames c.of_looper-choreographer.ensures)

pub returns-clause-asks : goal.returns-clause-asks
returns-clause-asks g c =
    let l = c.args.self.now in
    let is : l.parts ≡ Some c.in-Some.parts = cc in
    pulse_asked l.parts c.in-Some.parts c.asked-stamp.new.pass c.asked-stamp.result c.rounded_up.result is c.asked-stamp.ensures.turn c.rounded_up.ensures

pub returns-clause-looked : goal.returns-clause-looked
returns-clause-looked g c =
    let l = c.args.self.now in
    let is : l.parts ≡ Some c.in-Some.parts = cc in
    record {
      looper = looper_asked c.args.script.now c.args.hall.now l c.in-Some.parts c.asked-stamp.new.pass c.asked-stamp.result c.requires.looper is c.asked-stamp.ensures.turn;
      number = refl;
      last = refl;
      plays = played_asked c.args.script.now l c.in-Some.parts c.asked-stamp.new.pass c.asked-stamp.result is c.asked-stamp.ensures.turn;
      posters = posters_asked l c.in-Some.parts is;
      held = refl;
    }
