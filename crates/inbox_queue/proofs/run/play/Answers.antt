use Rattle.std.proofs.Common.{◌≡◌, ◌≤◌, ◌<◌, ◌+◌, [], ◌∙◌, List, length, take, drop, get_or, ap, sym, subst, arith}
use Rattle.std.proofs.lemmas.List.{nil_from_length}
use Rattle.dash_script.specs.declared.script.Block.{Block}
use Rattle.inbox_queue.specs.declared.parcel.Parcel.{Parcel}
use Rattle.inbox_queue.specs.InboxRun.{AreOfBlocks, IsOfBlock}
use Rattle.inbox_queue.specs.MainQueue.{threads_of, seen, AreSilent, HasMoved, HasPosted}
use Rattle.inbox_queue.proofs.Playing.{Led, Ran, ran_none, play_next, of_blocks_next, play_end}
use Rattle.inbox_queue.proofs.run.play.Goals as goal

pub loop-block-init : goal.loop-block-init
loop-block-init g c =
    let s = c.args.script.now in
    let none : [] ≡ c.new-admitted.result = sym (nil_from_length c.new-admitted.result c.new-admitted.ensures) in (
      c.requires.at.0,
      c.requires.at.1,
      subst (AreOfBlocks s []) none tt,
      (λ silent. subst (λ (l : List (List Parcel)). Ran s s.threads [] s.blocks l (seen c.args.hands.now)) none (ran_none s s.threads (seen c.args.hands.now) c.requires.at.2)),
      omega arith,
    )

pub loop-block-preserved : goal.loop-block-preserved
loop-block-preserved g c =
    let s = c.args.script.now in
    let i = c.loop-block.block-index in
    let item = c.block-item.result in
    let lists = c.loop-block.admitted in
    let parcels = c.in_ok-parcels.parcels in
    let inv = c.loop-block.invariant in
    let slice = c.as_slice-block-items.ensures in
    let lt : i < length s.blocks = subst (λ (l : List Block). i < length l) slice c.loop-block-test.true in
    let here : item ≡ get_or s.blocks i item = c.block-item.is ∙ ap (λ (l : List Block). get_or l i item) slice in
    let w0 = seen c.loop-block.hands in
    let w1 = seen c.move_to.new.hands in
    let w2 = seen c.post_all.new.hands in
    let m = threads_of c.loop-block.hands in
    let k = threads_of c.move_to.new.hands in
    let is = inv.1 in
    let is' = c.in_ok-move_to.ensures.at.1 ∙ inv.1 in (
      c.in_ok-post_all.ensures.at.0,
      c.in_ok-post_all.ensures.at.1 ∙ is',
      subst (AreOfBlocks s (take (i + 1) s.blocks)) (sym c.in_ok-push.ensures.ok) (of_blocks_next s i item lists parcels lt inv.2 (subst (λ (b : Block). IsOfBlock s b parcels) here c.in_ok-parcels.ensures)),
      subst (λ (l : List (List Parcel)). AreSilent s.threads w2 → Ran s s.threads (take (i + 1) s.blocks) (drop (i + 1) s.blocks) l w2) (sym c.in_ok-push.ensures.ok)
          (play_next s s.threads m k i item lists parcels w0 w1 w2 lt c.requires.text.0 is is' inv.2 inv.3
          (subst (λ (b : Block). Led m (HasMoved m b.time) w0 w1) here c.in_ok-move_to.ensures.made)
          (subst (λ (l : List Parcel). Led k (HasPosted k l) w1 w2) c.as_slice.ensures c.in_ok-post_all.ensures.made)),
      omega (arith, lt),
    )

pub returns-clause-played : goal.returns-clause-played
returns-clause-played g c =
    let s = c.args.script.now in
    let inv = c.loop-block.invariant in
    play_end s s.threads (threads_of c.loop-block.hands) (threads_of c.move_to-2.new.hands) c.loop-block.block-index c.loop-block.admitted (seen c.loop-block.hands) (seen c.move_to-2.new.hands) (seen c.halt.new.hands)
    (subst (λ (l : List Block). length l ≤ c.loop-block.block-index) c.as_slice-block-items.ensures c.loop-block-test.false) inv.1 (c.in_ok-move_to-2.ensures.at.1 ∙ inv.1) inv.3 c.in_ok-move_to-2.ensures.made c.halt.ensures.made
