use Rattle.std.proofs.Common.{◌≡◌, ◌∙◌, List, length, ap, sym, subst, arith}
use Rattle.std.proofs.lemmas.List.{with_items_is}
use Rattle.std.proofs.lemmas.Bool.{and_parts}
use Rattle.inbox_queue.specs.Handed.{PutPosts, AreInboxSenders}
use Rattle.inbox_queue.specs.Gathered.{EachPuts, PutBeginnings, HavePut, all_put}
use Rattle.inbox_queue.proofs.Gatherings.{puts_begin, taken_in, of_block}
use Rattle.inbox_queue.proofs.gathering.gather.Goals as goal

pub have_put-whole-requires-clause-put : goal.have_put-whole-requires-clause-put
have_put-whole-requires-clause-put g c =
    let s = c.args.script.now in
    let b = c.args.block.now in
    let v = c.in_ok-inbox.senders in
    let put : List PutPosts = c.put_all.new.senders in
    let count : length put ≡ length v.items = c.put_all.ensures.senders.0 ∙ ap (λ (l : List PutPosts). length l) c.as_mut_slice.ensures.value in
    let written = with_items_is v put (omega (arith, count, v.ok.0)) in
    subst (PutBeginnings s b) (sym (c.as_slice.ensures.value ∙ written)) (puts_begin s b v.items put count (subst (λ (l : List PutPosts). EachPuts s b l put) c.as_mut_slice.ensures.value c.put_all.ensures.put))

pub take_in_all-requires-clause-senders : goal.take_in_all-requires-clause-senders
take_in_all-requires-clause-senders g c =
    let v = c.in_ok-inbox.senders in
    let put : List PutPosts = c.put_all.new.senders in
    let count : length put ≡ length v.items = c.put_all.ensures.senders.0 ∙ ap (λ (l : List PutPosts). length l) c.as_mut_slice.ensures.value in
    subst (AreInboxSenders c.in_ok-inbox.inbox) (sym (with_items_is v put (omega (arith, count, v.ok.0)))) c.put_all.ensures.senders.1

pub admit_all-empty-requires-clause-senders : goal.admit_all-empty-requires-clause-senders
admit_all-empty-requires-clause-senders g c = taken_in _ c.take_in_all.new.admitter.taken c.take_in_all.ensures.taken

pub close-requires-clause-senders : goal.close-requires-clause-senders
close-requires-clause-senders g c = taken_in _ c.admit_all-empty.new.admitter.taken (c.admit_all-empty.ensures.same.1 ∙ c.take_in_all.ensures.taken)

pub returns-then-whole-empty : goal.returns-then-whole-empty
returns-then-whole-empty g c =
    let s = c.args.script.now in
    let b = c.args.block.now in
    let v = c.in_ok-inbox.senders in
    let put : List PutPosts = c.put_all.new.senders in
    let count : length put ≡ length v.items = c.put_all.ensures.senders.0 ∙ ap (λ (l : List PutPosts). length l) c.as_mut_slice.ensures.value in
    let written = with_items_is v put (omega (arith, count, v.ok.0)) in
    let both = and_parts c.have_put-whole.result c.admit_all-empty.result c.if-whole-empty.true in
    let whole : HavePut s b put = subst (HavePut s b) (c.as_slice.ensures.value ∙ written) (c.have_put-whole.ensures both.0) in
    of_block s b c.in_ok-inbox.inbox put c.admit_all-empty.new.admitter c.in_ok-end.end.admitted (count ∙ c.in_ok-inbox.ensures.0) whole
    (c.admit_all-empty.ensures.same.1 ∙ c.take_in_all.ensures.taken ∙ ap all_put written) (c.admit_all-empty.ensures.all both.1) c.in_ok-end.ensures.0
