use Rattle.std.proofs.Common.{◌≡◌, ap, sym, ◌∙◌, arith, count_ones, slice_index}
use lib.ListN.{get_elem?}
use Rattle.message_pool.proofs.Books.{booked_whole, first_is}
use Rattle.message_pool.proofs.pool.Pool.close.Goals as goal

pub returns-clause-counts : goal.returns-clause-counts
returns-clause-counts g c = λ whole.
    let left = c.close_with-closed.ensures.values.2 in
    let same = c.pass.view_is in
    let free : slice_index left.0.words 0 ≡ c.word-free.result = first_is left.0.words c.word-free.result (ap (λ ws. get_elem? ws 0) left.2 ∙ c.word-free.ensures) in
    let all = booked_whole (slice_index left.0.words 0) left.0.views c.pass.inside.seat.id c.pass.inside.seat.me.0 left.1.1 left.1.0.booked
    (ap (λ t. t.share.parts) same ∙ whole ∙ sym (ap (λ t. t.share.whole) same)) in
    omega (arith, all, ap count_ones free, ap (λ t. t.taken) same, ap (λ t. t.back) same)
