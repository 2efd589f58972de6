-- The items of a queue are posts of its history.
use Rattle.std.proofs.Common.{◌≡◌, ℕ, suc, ◌+◌, Bool, true, false, List, [], ◌∷◌, ◌++◌, Option, Some, None, slice_get, refl, subst, arith, if◌then◌else◌}
use Rattle.std.specs.Prelude.{map}
use Rattle.std.specs.List.{AllByRecursion, cons_option}
use Rattle.loop_model.specs.declared.post.Post.{Post as PostData}
use Rattle.loop_model.specs.declared.call.Call.{Call}
use Rattle.loop_model.specs.declared.call.Call.TheVariants.{Post, Barrier, Unbarrier, Remove, Quit, Next, Advance, Halt}
use Rattle.loop_model.specs.declared.reply.Reply.{Reply}
use Rattle.loop_model.specs.declared.item.Item.{Item}
use Rattle.loop_model.specs.declared.item.Item.TheVariants.{Post as Message, Barrier as SyncBarrier}
use Rattle.loop_model.specs.declared.entry.Entry.{Entry}
use Rattle.loop_model.specs.Base.{empty_base}
use Rattle.loop_model.specs.Entries.{is_accepted, posts_in, barriers_in, made_by}
use Rattle.loop_model.specs.Order.{PlacedItem, in_order}
use Rattle.loop_model.specs.Posts.{accepted_by, accepted_posts}
use Rattle.loop_model.specs.Live.{placed, made_items, is_live, live, live_in_order}
use Rattle.loop_model.proofs.Sorting.{AllByRecursion-weaker, AllByRecursion-filter}
use Rattle.loop_model.proofs.ListedLaws.{AllByRecursion-put_all}

-- a message is the post of its number, where the first of these posts has number n
abbrev pub IsPostFrom : ℕ → List PostData → Item → Type 0
IsPostFrom n posts (Message m p) = (j : ℕ) × (m ≡ n + j) × (slice_get posts j ≡ Some p)
IsPostFrom n posts (SyncBarrier t w) = Unit {0}

one_later : (n : ℕ) (p : PostData) (posts : List PostData) (x : Item) → IsPostFrom (n + 1) posts x → IsPostFrom n (p ∷ posts) x
one_later n p posts (Message m q) h = (suc h.0, (let e : m ≡ n + suc h.0 = omega (arith, h.1) in e), h.2)
one_later n p posts (SyncBarrier t w) h = tt

as_late : (n : ℕ) (posts : List PostData) (x : Item) → IsPostFrom (n + 0) posts x → IsPostFrom n posts x
as_late n posts (Message m q) h = (h.0, (let e : m ≡ n + h.0 = omega (arith, h.1) in e), h.2)
as_late n posts (SyncBarrier t w) h = tt

abbrev pub ArePostsFrom : ℕ → List PostData → List PlacedItem → Type 0
ArePostsFrom n posts xs = AllByRecursion (λ z. IsPostFrom n posts z.item) xs

module _ (n t k : ℕ) (posts : List PostData) (more : List PlacedItem) where
  -- an entry that adds no post
  passed : (o : Option Item) → ((x : Item) → o ≡ Some x → IsPostFrom n posts x) → ArePostsFrom (n + 0) posts more → ArePostsFrom n posts (placed k o ++ more)
  passed None own rest = AllByRecursion-weaker (λ z. IsPostFrom (n + 0) posts z.item) (λ z. IsPostFrom n posts z.item) (λ z. as_late n posts z.item) more rest
  passed (Some x) own rest = (own x refl, AllByRecursion-weaker (λ z. IsPostFrom (n + 0) posts z.item) (λ z. IsPostFrom n posts z.item) (λ z. as_late n posts z.item) more rest)

  -- a post, by whether it is accepted
  post_by : (p : PostData) (b : Bool) → ArePostsFrom (n + (if b then 1 else 0)) posts more
      → ArePostsFrom n (cons_option (if b then Some p else None) posts) (placed k (if b then Some (Message n p) else None) ++ more)
  post_by p true rest = (
    (0, (let e : n ≡ n + 0 = omega arith in e), refl),
    AllByRecursion-weaker (λ z. IsPostFrom (n + 1) posts z.item) (λ z. IsPostFrom n (p ∷ posts) z.item) (λ z. one_later n p posts z.item) more rest,
  )
  post_by p false rest = passed None (λ x some. absurd (cc)) rest

  entry_by : (c : Call) (r : Reply) → ArePostsFrom (n + posts_in c r) posts more → ArePostsFrom n (cons_option (accepted_by c r) posts) (placed k (made_by n t c r) ++ more)
  entry_by (Post p) r rest = post_by p (is_accepted r) rest
  entry_by (Barrier now) r rest = passed (Some (SyncBarrier t now)) (λ x some. subst (IsPostFrom n posts) (let e : SyncBarrier t now ≡ x = cc in e) tt) rest
  entry_by (Unbarrier u) r rest = passed None (λ x some. absurd (cc)) rest
  entry_by (Remove f) r rest = passed None (λ x some. absurd (cc)) rest
  entry_by (Quit s now) r rest = passed None (λ x some. absurd (cc)) rest
  entry_by (Next now) r rest = passed None (λ x some. absurd (cc)) rest
  entry_by (Advance now) r rest = passed None (λ x some. absurd (cc)) rest
  entry_by (Halt now) r rest = passed None (λ x some. absurd (cc)) rest

made_posts : (n t k : ℕ) (es : List Entry) → ArePostsFrom n (accepted_posts es) (made_items n t k es)
made_posts n t k [] = tt
made_posts n t k (e ∷ es) =
    entry_by n t k (accepted_posts es) (made_items (n + posts_in e.call e.reply) (t + barriers_in e.call) (k + 1) es) e.call e.reply (made_posts (n + posts_in e.call e.reply) (t + barriers_in e.call) (k + 1) es)

map_posts : (P : Item → Type 0) (xs : List PlacedItem) → AllByRecursion (λ z. P z.item) xs → AllByRecursion P (map (λ z. z.item) xs)
map_posts P [] h = tt
map_posts P (x ∷ xs) h = (h.0, map_posts P xs h.1)

-- each message in the list is the post of its number
pub live_posts : (senders : ℕ) (es : List Entry) → AllByRecursion (IsPostFrom 0 (accepted_posts es)) (live_in_order (empty_base senders) es)
unfolding live_in_order live
live_posts senders es =
    let P : PlacedItem → Type 0 = λ z. IsPostFrom 0 (accepted_posts es) z.item in
    let items = AllByRecursion-filter P (is_live es) (made_items 0 0 0 es) (made_posts 0 0 0 es) in
    map_posts (IsPostFrom 0 (accepted_posts es)) (in_order (live (empty_base senders) es)) (AllByRecursion-put_all P [] (live (empty_base senders) es) tt items)
