use Rattle.std.proofs.Common.{◌≡◌, inl, ◌<◌, ◌≤◌, ◌+◌, ◌∙◌, [], ℕ, List, sym, subst, length, take, drop, arith}
use Rattle.std.specs.Prelude.{slice_index_or}
use Rattle.std.proofs.lemmas.List.{take_all}
use Rattle.dash_script.specs.declared.script.Block.{Block}
use Rattle.run_model.specs.FrameRecords.{in_block}
use Rattle.dash_stage.specs.declared.stage.Stage.{Stage}
use Rattle.dash_stage.specs.Steps.{StageAt, RestsAt, TimeLiesAhead, IsAtNext}
use Rattle.dash_stage.proofs.BlockTimes.{blocks_next, blocks_past, before_end, before_next}
use Rattle.dash_stage.proofs.Controller.Controls.{reached_kept}
use Rattle.dash_stage.proofs.Stages.StageWhole.{block_is_planned, end_is_planned}
use Rattle.dash_stage.proofs.Played.InTurn.{turn_later, rounds_before}
use Rattle.dash_stage.proofs.Played.PlayedTurns.{ahead_of_zero}
use Rattle.dash_stage.proofs.Moves.{still_then, way_still}
use Rattle.dash_stage.proofs.stage.Stage.play.Goals as goal

pub loop-block-init : goal.loop-block-init
loop-block-init g c =
    let begun = c.requires.begun in
    let zero_time = begun.zero in
    record {
      way = begun.way;
      rests = begun.rests;
      later = λ d some. omega (arith, zero_time);
      before = λ d some. record {
        ahead = λ sound. ahead_of_zero _ c.args.self.now zero_time begun.unseen;
        turn = turn_later c.args.script.now [] 0 (in_block (slice_index_or c.args.script.now.blocks 0 d).time) c.args.self.now (omega arith) begun.turn;
      };
    }

pub go_to-requires-clause-goal : goal.go_to-requires-clause-goal
go_to-requires-clause-goal g c κs within =
    let s = c.args.script.now in
    let i = c.loop-block.block-index in
    let b = c.block-item.result in
    let whole = c.as_slice-block-items.ensures in
    let lt = subst (λ (l : List Block). i < length l) whole c.loop-block-test.true in
    let is = subst (λ (l : List Block). b ≡ slice_index_or l i b) whole c.block-item.is in
    record {
      later = subst (λ (z : Block). c.loop-block.self.time ≤ z.time) (sym is) (c.loop-block.invariant.later b lt);
      within = before_end s i b c.requires.begun.way.stage.text lt is;
      planned = block_is_planned s i b lt is;
    }

pub go_to-requires-2-clause-goal : goal.go_to-requires-2-clause-goal
go_to-requires-2-clause-goal g c κs within = record { later = c.loop-block.invariant.rests.at.asks.within; within = omega arith; planned = end_is_planned c.args.script.now }

pub loop-block-preserved : goal.loop-block-preserved
loop-block-preserved g c =
    let s = c.args.script.now in
    let bs = s.blocks in
    let b = c.block-item.result in
    let i = c.loop-block.block-index in
    let at = c.loop-block.invariant in
    let whole = c.as_slice-block-items.ensures in
    let lt = subst (λ (l : List Block). i < length l) whole c.loop-block-test.true in
    let is = subst (λ (l : List Block). b ≡ slice_index_or l i b) whole c.block-item.is in
    let gone : Stage = c.go_to.new.self in
    let after : Stage = c.settle.new.self in
    let goes = c.in_ok-go_to.ensures.goes in
    let next : IsAtNext s (take i bs) (drop (i + 1) bs) b gone = record {
      next = blocks_next bs i b lt is;
      moving = c.go_to.ensures.way.moving;
      now = c.in_ok-go_to.ensures.goes.gone.now;
      at = goes.at (take i bs) at.rests;
      begins = goes.block (take i bs) at.rests (subst (λ (z : Block). TimeLiesAhead s (take i bs) z.time c.loop-block.self) (sym is) (at.before b lt));
    } in
    let ran = subst (λ (l : List Block). StageAt s l c.run_block.new.self) (blocks_past bs i b lt is) (c.in_ok-run_block.ensures.next (take i bs) (drop (i + 1) bs) next) in
    let settled = (c.in_ok-settle.ensures.settles.at (take (i + 1) bs) ran).at in
    let still = still_then s gone c.run_block.new.self after c.run_block.ensures.still c.settle.ensures.still in
    let time : after.time ≡ b.time = still.now ∙ c.in_ok-go_to.ensures.goes.gone.now in
    let less : (d : Block) → i + 1 < length bs → after.time < (slice_index_or bs (i + 1) d).time = λ d some. subst (λ (t : ℕ). t < (slice_index_or bs (i + 1) d).time) (sym time) (before_next s i b d c.requires.begun.way.stage.text is some) in
    record {
      way = way_still s gone after still c.go_to.ensures.way;
      rests = record { at = settled; rested = c.in_ok-settle.ensures.settles.rested ran.timely.same };
      later = λ d some. (let earlier = less d some in omega (arith, earlier));
      before = λ d some. record { ahead = λ sound. inl (less d some); turn = rounds_before s (take (i + 1) bs) (slice_index_or bs (i + 1) d).time after (λ sound. less d some) settled.asks };
    }

pub end-requires-after_bounds : goal.end-requires-after_bounds
end-requires-after_bounds g c κs within =
    let s = c.args.script.now in
    let gone : Stage = c.go_to-2.new.self in
    let still = c.settle-2.ensures.still in
    record {
      way = way_still s gone c.settle-2.new.self still c.go_to-2.ensures.way;
      reached = reached_kept s gone.controller c.settle-2.new.self.controller still.none s.end c.in_ok-go_to-2.ensures.goes.gone.reached;
    }

pub returns-clause-out : goal.returns-clause-out
returns-clause-out g c =
    let s = c.args.script.now in
    let i = c.loop-block.block-index in
    let all = subst (λ (l : List Block). length l ≤ i) c.as_slice-block-items.ensures c.loop-block-test.false in
    let rests = subst (λ (l : List Block). RestsAt s l c.loop-block.self) (take_all i s.blocks all) c.loop-block.invariant.rests in
    let gone = c.in_ok-go_to-2.ensures.goes.at s.blocks rests in
    let settles = c.in_ok-settle-2.ensures.settles in
    c.in_ok-end.ensures.ends s.blocks (record { at = (settles.at s.blocks gone).at; rested = settles.rested gone.timely.same })
