-- Which items bear the label that is asked for.
use Rattle.std.proofs.Common.{◌≡◌, ℕ, Bool, true, false, Option, Some, None, refl, sym, ap, ◌∙◌, Less, Equal, Greater, Ordering, arith}
use Rattle.std.specs.Prelude.{◌==◌, ◌&&◌, is_some, unwrap_or}
use Rattle.std.specs.Option.{option_map, option_and_then}
use Rattle.std.specs.Ordering.{nat_cmp, ordering_then, is_eq}
use Rattle.std.proofs.lemmas.Bool.Decides.{nat_tests}
use Rattle.loop_model.specs.declared.item.Item.{Item}
use Rattle.loop_model.specs.declared.item.Item.TheVariants.{Post as Message, Barrier as SyncBarrier}
use Rattle.loop_model.specs.declared.post.Post.{Post}
use Rattle.loop_model.specs.declared.post.Kind.{Kind}
use Rattle.loop_model.specs.declared.post.Kind.TheVariants.{What as WhatKind, Callback as CallbackKind, All as AnyKind}
use Rattle.loop_model.specs.declared.post.Filter.{Filter}
use Rattle.loop_model.specs.declared.entry.Entry.{Entry}
use Rattle.loop_model.specs.declared.call.Call.TheVariants.{Remove, Unbarrier}
use Rattle.loop_model.specs.declared.reply.Reply.TheVariants.{Unbarriered}
use Rattle.loop_model.specs.Entries.{ends, ends_by}
use Rattle.loop_model.specs.Items.{is_asynchronous, token_of, is_just, is_of_kind, has_object, matches}
use Rattle.trace_check.specs.declared.label.Shape.{Shape}
use Rattle.trace_check.specs.declared.label.Shape.TheVariants.{Asynchronous, Token}
use Rattle.trace_check.specs.Labels.{Label, by_label, label_of, has_label, bears, shape_by, number_by, filter_shape, filter_label}

same_number : (x y : ℕ) → is_eq (nat_cmp x y) ≡ (x == y)
same_number x y = grind (arith, nat_tests)

both : (o r : Ordering) → is_eq (ordering_then o r) ≡ (is_eq o && is_eq r)
both Less r = refl
both Equal r = refl
both Greater r = refl

-- labels are the same where their three numbers are
same_label : (m l : Label) → is_eq (by_label m l) ≡ ((m.0 == l.0 && m.1 == l.1) && m.2 == l.2)
same_label m l =
    both (ordering_then (nat_cmp m.0 l.0) (nat_cmp m.1 l.1)) (nat_cmp m.2 l.2) ∙ ap (λ b. b && is_eq (nat_cmp m.2 l.2)) (both (nat_cmp m.0 l.0) (nat_cmp m.1 l.1))
    ∙ ap (λ b. ((b && is_eq (nat_cmp m.1 l.1)) && is_eq (nat_cmp m.2 l.2))) (same_number m.0 l.0)
    ∙ ap (λ b. ((m.0 == l.0 && b) && is_eq (nat_cmp m.2 l.2))) (same_number m.1 l.1)
    ∙ ap (λ b. ((m.0 == l.0 && m.1 == l.1) && b)) (same_number m.2 l.2)

and_true : (b : Bool) → (b && true) ≡ b
and_true true = refl
and_true false = refl

and_false : (b : Bool) → (b && false) ≡ false
and_false true = refl
and_false false = refl

pub bears_asynchronous : (x : Item) → bears Asynchronous (0, 0, 0) x ≡ is_asynchronous x
unfolding label_of
bears_asynchronous (Message n p) = by p.asynchronous refl
  where
    by : (b : Bool) → p.asynchronous ≡ b → bears Asynchronous (0, 0, 0) (Message n p) ≡ p.asynchronous
    by true e = rw e refl
    by false e = rw e refl
bears_asynchronous (SyncBarrier t w) = refl

pub bears_token : (t : ℕ) (x : Item) → bears Token (0, t, 0) x ≡ is_just (token_of x) t
unfolding label_of
bears_token t (Message n p) = refl
bears_token t (SyncBarrier u w) = same_label (0, u, 0) (0, t, 0) ∙ and_true (u == t)

-- the label of an object, and of a callback
object_bears : (h n k m : ℕ) (o : Option ℕ) (w : ℕ) → has_label (option_map (λ v. (h, n, v)) o) (k, m, w) ≡ ((h == k && n == m) && is_just o w)
object_bears h n k m None w = sym (and_false (h == k && n == m))
object_bears h n k m (Some v) w = same_label (h, n, v) (k, m, w)

callback_bears : (h k c : ℕ) (o : Option ℕ) → has_label (option_map (λ v. (h, v, 0)) o) (k, c, 0) ≡ ((h == k && is_just o c) && true)
callback_bears h k c None = sym (and_true (h == k && false) ∙ and_false (h == k))
callback_bears h k c (Some v) = same_label (h, v, 0) (k, c, 0)

both_bear : (h k c : ℕ) (o r : Option ℕ) (w : ℕ) → has_label (option_and_then (λ v. option_map (λ u. (h, v, u)) r) o) (k, c, w) ≡ ((h == k && is_just o c) && is_just r w)
both_bear h k c None r w = sym (ap (λ b. b && is_just r w) (and_false (h == k)))
both_bear h k c (Some v) r w = object_bears h v k c r w

bears_match : (h : ℕ) (k : Kind) (o : Option ℕ) (n : ℕ) (p : Post) → bears (shape_by k (is_some o)) (h, number_by k, unwrap_or o 0) (Message n p) ≡ ((p.handler == h && is_of_kind k p) && has_object o p)
unfolding label_of
bears_match h (WhatKind w) None n p = same_label (p.handler, p.what, 0) (h, w, 0)
bears_match h (WhatKind w) (Some v) n p = object_bears p.handler p.what h w p.obj v
bears_match h (CallbackKind c) None n p = callback_bears p.handler h c p.callback
bears_match h (CallbackKind c) (Some v) n p = both_bear p.handler h c p.callback p.obj v
bears_match h AnyKind None n p = same_label (p.handler, 0, 0) (h, 0, 0)
bears_match h AnyKind (Some v) n p = object_bears p.handler 0 h 0 p.obj v

no_barrier : (h : ℕ) (k : Kind) (o : Option ℕ) (t w : ℕ) → bears (shape_by k (is_some o)) (h, number_by k, unwrap_or o 0) (SyncBarrier t w) ≡ false
unfolding label_of
no_barrier h (WhatKind x) None t w = refl
no_barrier h (WhatKind x) (Some v) t w = refl
no_barrier h (CallbackKind c) None t w = refl
no_barrier h (CallbackKind c) (Some v) t w = refl
no_barrier h AnyKind None t w = refl
no_barrier h AnyKind (Some v) t w = refl

pub bears_filter : (f : Filter) (x : Item) → bears (filter_shape f) (filter_label f) x ≡ matches f x
bears_filter f (Message n p) = bears_match f.handler f.kind f.obj n p
bears_filter f (SyncBarrier t w) = no_barrier f.handler f.kind f.obj t w

-- a removal ends what its filter matches, and an unbarrier the barrier of its token
pub removal_ends : (e : Entry) (f : Filter) (s : Shape) (l : Label) → e.call ≡ Remove f → s ≡ filter_shape f → l ≡ filter_label f → (x : Item) → bears s l x ≡ ends e x
removal_ends e f s l call shape label x =
    ap (λ t. bears t l x) shape ∙ ap (λ m. bears (filter_shape f) m x) label ∙ bears_filter f x ∙ sym (ap (λ c. ends_by c e.reply x) call)

pub unbarrier_ends : (e : Entry) (t : ℕ) → e.call ≡ Unbarrier t → e.reply ≡ Unbarriered → (x : Item) → bears Token (0, t, 0) x ≡ ends e x
unbarrier_ends e t call reply x = bears_token t x ∙ sym (ap (λ c. ends_by c e.reply x) call ∙ ap (λ r. ends_by (Unbarrier t) r x) reply)
