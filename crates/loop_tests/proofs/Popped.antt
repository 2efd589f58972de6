-- The last sender of a list.
use Rattle.std.proofs.Common.{◌≡◌, ◌<◌, ◌+◌, ℕ, List, [], ◌∷◌, ◌++◌, length, sym, ap, ◌∙◌, arith, length-append, Option, Some}
use Rattle.std.specs.Prelude.{slice_index_or}
use Rattle.std.specs.Option.{option_to_list}
use Rattle.std.proofs.lemmas.List.{get_or_append_left}
use Rattle.std.proofs.Math.Seq.{get_or-append_seam}
use Rattle.inbox_queue.specs.Handed.{InboxId, PutPosts, AreInboxSenders}

pub popped : (inbox : InboxId) (old new : List PutPosts) (result : Option PutPosts) (x : PutPosts) (place : ℕ) → old ≡ new ++ option_to_list result → result ≡ Some x → length old ≡ place + 1 → AreInboxSenders inbox old
    → ((x.inbox ≡ inbox) × (x.number ≡ place)) × ((length new ≡ place) × AreInboxSenders inbox new)
popped inbox old new result x place parts is count senders =
    let whole : old ≡ new ++ x ∷ [] = parts ∙ ap (λ r. new ++ option_to_list r) is in
    let sum = length-append new (x ∷ []) in
    let long : length old ≡ length (new ++ x ∷ []) = ap length whole in
    let short : length new ≡ place = omega (arith, sum, long, count) in
    let lt : place < length old = omega (arith, count) in
    let at : slice_index_or old place x ≡ x = ap (λ l. slice_index_or l place x) whole ∙ ap (λ n. slice_index_or (new ++ x ∷ []) n x) (sym short) ∙ get_or-append_seam new x [] x in
    let h = senders place x lt in (
      (ap (λ (s : PutPosts). s.inbox) (sym at) ∙ h.0, ap (λ (s : PutPosts). s.number) (sym at) ∙ h.1),
      (
        short,
        λ k d less. let less' : k < length old = omega (arith, sum, long, less) in
            let front : slice_index_or old k d ≡ slice_index_or new k d = ap (λ l. slice_index_or l k d) whole ∙ get_or_append_left new (x ∷ []) d k less in
            let m = senders k d less' in
            (ap (λ (s : PutPosts). s.inbox) (sym front) ∙ m.0, ap (λ (s : PutPosts). s.number) (sym front) ∙ m.1),
      ),
    )
