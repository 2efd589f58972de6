use Rattle.std.proofs.Common.{◌≡◌, length, ◌∙◌, ap, sym, arith}
use Rattle.std.specs.Prelude.{slice_index_or}
use Rattle.std.proofs.lemmas.List.{get_or_read}
use Rattle.inbox_queue.specs.Handed.{PutPosts}
use Rattle.inbox_queue.specs.Plans.{planned_posts}
use Rattle.inbox_queue.proofs.Gatherings.{put_next}
use Rattle.inbox_queue.proofs.gathering.have_put.Goals as goal

pub loop-sender-preserved : goal.loop-sender-preserved
loop-sender-preserved c =
    let i = c.loop-sender.sender-index in
    let s = c.args.script.now in
    let b = c.args.block.now in
    let item = c.sender-item.result in
    let here : (d : PutPosts) → slice_index_or c.args.senders.now i d ≡ item = λ d. sym (get_or_read c.args.senders.now i item c.loop-sender-test.true c.sender-item.is d) in
    let own = c.number.ensures ∙ ap (λ (x : PutPosts). x.number) (sym (here item)) ∙ c.requires.numbers i item c.loop-sender-test.true in (
      put_next s b c.args.senders.now i item c.count.result c.planned_count-planned.result c.loop-sender-test.true here c.requires.put c.count.ensures
          (c.planned_count-planned.ensures ∙ (λ j. length (planned_posts s b.time (own j) (c.as_slice.ensures j)))) c.if-count-planned.false c.loop-sender.invariant.0,
      (let lt = c.loop-sender-test.true in omega (arith, lt)),
    )
