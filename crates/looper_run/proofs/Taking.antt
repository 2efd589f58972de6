-- A look that takes a message.
use Rattle.std.proofs.Common.{◌≡◌, ℕ, ◌==◌, Bool, true, false, List, [], ◌∷◌, Some, slice_get, refl, sym, subst, arith}
use Rattle.std.specs.Prelude.{filter, cond}
use Rattle.std.specs.List.{AllByRecursion}
use Rattle.std.proofs.lemmas.Bool.Decides.{nat_tests}
use Rattle.atomic_table.specs.Seated.{TableId}
use Rattle.loop_model.specs.declared.call.Call.TheVariants.{Next}
use Rattle.loop_model.specs.declared.reply.Reply.TheVariants.{Dispatched}
use Rattle.loop_model.specs.declared.item.Item.{Item}
use Rattle.loop_model.specs.declared.item.Item.TheVariants.{Post as Message, Barrier as SyncBarrier}
use Rattle.loop_model.specs.declared.entry.Entry.{Entry}
use Rattle.loop_model.specs.Items.{number_of, is_just}
use Rattle.loop_model.specs.Live.{live_in_order}
use Rattle.loop_model.specs.Entries.{ends_by}
use Rattle.loop_model.specs.Posts.{accepted_posts, post_at}
use Rattle.loop_model.proofs.Sorting.{AllByRecursion-filter}
use Rattle.message_slot.specs.Letter.{number_in, post_of}
use Rattle.message_pool.specs.Passes.{Node}
use Rattle.when_queue.specs.Queue.{items_of}
use Rattle.queue_state.specs.Queue.{IsSound}
use Rattle.queue_state.specs.Ended.{ended}
use Rattle.shared_queue.specs.Constants.{Constants, IsStateOf}
use Rattle.looper_run.specs.Holding.{State}
use Rattle.looper_run.proofs.Posts.{IsPostFrom, live_posts}

kept_passes : {X : Type 0} (p : X → Bool) (x : X) (xs : List X) (b : Bool) → p x ≡ b → AllByRecursion (λ y. p y ≡ true) xs → AllByRecursion (λ y. p y ≡ true) (cond b (x ∷ xs) xs)
kept_passes p x xs true is rest = (is, rest)
kept_passes p x xs false is rest = rest

all_pass : {X : Type 0} (p : X → Bool) (xs : List X) → AllByRecursion (λ x. p x ≡ true) (filter p xs)
all_pass p [] = tt
all_pass p (x ∷ xs) = kept_passes p x (filter p xs) (p x) refl (all_pass p xs)

letters_of : (P : Item → Type 0) (xs : List Node) → AllByRecursion P (items_of xs) → AllByRecursion (λ m. P m.item) xs
letters_of P [] h = tt
letters_of P (m ∷ xs) h = (h.0, letters_of P xs h.1)

-- a message with this number, which is the post of its number
abbrev pub IsPost : List Entry → ℕ → Item → Type 0
IsPost es n item = (number_in item ≡ n) × (post_at es n ≡ Some (post_of item))

same_number : (m n : ℕ) → (m == n) ≡ true → m ≡ n
same_number m n e = grind (arith, nat_tests)

is_post : (es : List Entry) (n : ℕ) (item : Item) → is_just (number_of item) n ≡ true → IsPostFrom 0 (accepted_posts es) item → IsPost es n item
is_post es n (Message m p) is h =
    let e : m ≡ n = same_number m n is in
    let j : h.0 ≡ n = omega (arith, h.1, e) in
    (e, subst (λ (k : ℕ). slice_get (accepted_posts es) k ≡ Some p) j h.2)
is_post es n (SyncBarrier t w) is h = absurd (cc)

-- the message that a look takes is the post of its number
pub taken_post : (key : Constants TableId) (x : State) (n at : ℕ) (node : Node) → IsStateOf key x → IsSound x → ended (Next at) (Dispatched n) x.messages ≡ node ∷ [] → IsPost x.entries n node.item
taken_post key x n at node own sound took =
    let P : Item → Type 0 = IsPostFrom 0 (accepted_posts x.entries) in
    let posts : AllByRecursion P (live_in_order x.start x.entries) = subst (λ b. AllByRecursion P (live_in_order b x.entries)) (sym own.start) (live_posts key.setting.senders x.entries) in
    let letters : AllByRecursion (λ m. P m.item) x.messages = letters_of P x.messages (subst (AllByRecursion P) (sym sound.live) posts) in
    let kept = AllByRecursion-filter (λ (m : Node). P m.item) (λ m. ends_by (Next at) (Dispatched n) m.item) x.messages letters in
    let mine = subst (AllByRecursion (λ (m : Node). P m.item)) took kept in
    let test = subst (AllByRecursion (λ (m : Node). ends_by (Next at) (Dispatched n) m.item ≡ true)) took (all_pass (λ m. ends_by (Next at) (Dispatched n) m.item) x.messages) in
    is_post x.entries n node.item test.0 mine.0
