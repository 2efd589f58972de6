use Rattle.std.proofs.Common.{List, refl, subst, arith}
use Rattle.std.proofs.lemmas.List.{with_items_is}
use Rattle.dash_loopers.specs.declared.looper.StageLooper.{StageLooper}
use Rattle.dash_stage.specs.Turns.{HaveRunRound}
use Rattle.dash_stage.proofs.Moves.{still_self, still_shared, round_at, round_turns, round_rests}
use Rattle.dash_stage.proofs.stage.Stage.run_round.Goals as goal

pub returns : goal.returns
returns g c =
    let s = c.args.script.now in
    let st = c.args.self.now in
    let is = c.requires.stage in
    let ran = c.run_loopers.new.loopers in
    let on = c.in_ok-run_loopers.ensures.on in
    let shared = c.share.ensures.shared in
    let round = subst (λ (xs : List StageLooper). HaveRunRound c.args.turn s st.hall st.time xs ran) c.as_mut_slice.ensures.value c.run_loopers.ensures.round in
    let loopers = round.loopers in
    let long = loopers.0 in
    let many = is.loopers.0 in
    let wrote = with_items_is st.loopers ran (omega (arith, long, many, st.loopers.ok.0)) in
    record {
      still = still_shared s st _ c.share.new.self shared (still_self s st is).none refl;
      round = record {
        at = round_at s is.text st c.share.new.self ran _ is wrote loopers on shared round.plays;
        turns = round_turns s is.text st c.share.new.self ran _ is wrote loopers on shared c.args.turn round.others;
        same = shared.same;
        rested = round_rests s is.text st c.share.new.self ran _ is wrote loopers on shared c.args.turn round.waits;
      };
    }
