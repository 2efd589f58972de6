use Rattle.std.proofs.Common.{refl, ◌≡◌, ◌||◌, Some, true, false, sym, ap₂, ◌∙◌}
use Rattle.looper_run.specs.Round.{is_ended}
use Rattle.looper_run.proofs.Rounds.{round_any}
use Rattle.dash_loopers.specs.Loopers.{is_given_up}
use Rattle.dash_loopers.proofs.LooperPlaces.{are_parts_then}
use Rattle.dash_loopers.proofs.LooperQueue.{within_queues, at_queue}
use Rattle.dash_loopers.proofs.LooperKits.{serves_now, looper_then, parts_left, ran_on, comes_to_wait}
use Rattle.dash_loopers.proofs.LooperPlaying.{plays_first, plays_nothing}
use Rattle.dash_loopers.proofs.LooperPlayed.{unless, played_round, played_left}
use Rattle.dash_loopers.proofs.looper.StageLooper.run_round.Goals as goal

pub of_looper-requires : goal.of_looper-requires
of_looper-requires g c = within_queues c.args.script.now c.args.hall.now c.args.self.now c.requires.may.is_hall c.requires.may.looper

pub run_round-self-requires-clause-looper : goal.run_round-self-requires-clause-looper
run_round-self-requires-clause-looper g c κs lives = record {
  going = c.requires.may.looper.ended ∙ (sym c.has_ended.ensures ∙ c.if-has_ended.false);
  at = at_queue c.args.script.now c.args.hall.now c.args.self.now c.requires.may.is_hall c.requires.may.looper c.of_looper.result.now c.of_looper.ensures;
}

pub run_round-self-requires-clause-ready : goal.run_round-self-requires-clause-ready
run_round-self-requires-clause-ready g c κs within =
    let is : c.args.self.now.parts ≡ Some c.in-Some.parts = cc in record {
      serves = serves_now c.args.script.now c.args.hall.now c.args.self.now c.in-Some.parts c.requires.may.is_hall c.requires.may.looper is;
      awaits = refl;
      meets = plays_first c.args.script.now c.args.now c.args.self.now.looper.held.poster.sender c.of-began.result.value c.args.self.now c.in-Some.parts c.of-began.ensures c.requires.may.looper.own is;
    }

pub returns-then-has_ended-clause-plays : goal.returns-then-has_ended-clause-plays
returns-then-has_ended-clause-plays g c = plays_nothing c.args.script.now c.args.now c.args.self.now

pub close-requires-clause-parts : goal.close-requires-clause-parts
close-requires-clause-parts g c =
    let l = c.args.self.now in
    let is : l.parts ≡ Some c.in-Some.parts = cc in
    parts_left c.args.script.now c.args.hall.now c.args.now _ l _ c.in-Some.parts c.run_round-self.new.d.parts c.requires.may.is_hall c.requires.may.looper is c.run_round-self.ensures.keeps.origin c.run_round-self.ensures.keeps.serves

pub returns-clause-round : goal.returns-clause-round
returns-clause-round g c =
    let hall = c.args.hall.now in
    let l = c.args.self.now in
    let no_end : is_ended l.last ≡ false = sym c.has_ended.ensures ∙ c.if-has_ended.false in
    let no_want : is_given_up l.last ≡ false = sym c.gave_up.ensures ∙ c.if-gave_up.false in
    let going : (is_ended l.last || is_given_up l.last) ≡ false = ap₂ (λ a b. a || b) no_end no_want in
    record {
      stopped = λ e. absurd (let wrong : false ≡ true = sym going ∙ e in cc);
      ran = λ e. ran_on true c.args.script.now hall c.requires.may.mode c.args.now l c.of_looper.result.now c.run_round-self.new.self c.run_round-self.result c.requires.may.is_hall c.requires.may.looper c.of_looper.ensures c.run_round-self.ensures.round;
      looks = λ e. round_any _ c.args.now l.looper c.run_round-self.new.self c.run_round-self.result c.run_round-self.ensures.looks;
    }

pub returns-clause-waits : goal.returns-clause-waits
returns-clause-waits g c =
    let hall = c.args.hall.now in
    let l = c.args.self.now in
    comes_to_wait true c.args.script.now hall c.requires.may.mode c.args.now l c.of_looper.result.now c.run_round-self.new.self c.run_round-self.result c.requires.may.is_hall c.requires.may.looper c.of_looper.ensures c.run_round-self.ensures.keeps.same c.run_round-self.ensures.round

pub returns-clause-plays : goal.returns-clause-plays
returns-clause-plays g c =
    let l = c.args.self.now in
    played_left c.args.script.now c.args.now l c.run_round-self.new.d.dispatched c.run_round-self.new.self c.run_round-self.result c.run_round-self.new.d.parts c.close.new.parts (λ going. c.close.ensures.same (c.gave_up-2.ensures ∙ going))
    (played_round c.args.script.now c.args.hall.now c.args.now l _ _ c.run_round-self.new.d.dispatched c.run_round-self.new.d.parts c.run_round-self.new.self c.run_round-self.result c.of-began.ensures c.requires.may.looper.own
    c.run_round-self.ensures.keeps.origin c.run_round-self.ensures.keeps.same (λ on. (unless c.run_round-self.result _ on c.run_round-self.ensures.rests).meets))

pub returns-clause-still : goal.returns-clause-still
returns-clause-still g c =
    let is : c.args.self.now.parts ≡ Some c.in-Some.parts = cc in
    let ran = c.run_round-self.ensures in
    let left = parts_left c.args.script.now c.args.hall.now c.args.now _ c.args.self.now _ c.in-Some.parts c.run_round-self.new.d.parts c.requires.may.is_hall c.requires.may.looper is ran.keeps.origin ran.keeps.serves in
    record {
      looper = looper_then c.args.script.now c.args.hall.now c.args.now c.args.self.now c.run_round-self.new.d.dispatched c.of_looper.result.now c.close.new.parts c.run_round-self.new.self c.run_round-self.result c.requires.may.is_hall c.requires.may.looper c.of_looper.ensures
          (are_parts_then c.args.script.now c.args.hall.now c.args.self.now.number c.run_round-self.new.d.parts c.close.new.parts c.close.ensures.parts left)
          ran.keeps.same ran.ended ran.round (round_any _ c.args.now c.args.self.now.looper c.run_round-self.new.self c.run_round-self.result ran.looks) (sym c.has_ended.ensures ∙ c.if-has_ended.false) (sym c.gave_up.ensures ∙ c.if-gave_up.false);
      number = refl;
    }
