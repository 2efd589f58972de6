-- The claims of the accepted posts, over each call of the state.
use Rattle.std.proofs.Common.{◌≡◌, ℕ, zero, suc, ◌+◌, ◌<◌, Bool, true, false, cond, List, [], ◌∷◌, ◌++◌, length, take, drop, map, Option, Some, None, slice_get, refl, sym, ap, ◌∙◌, subst, arith, append-nil, length-append, eq-eqb}
use Rattle.std.specs.Prelude.{All, filter, not, insert, ◌==◌}
use Rattle.std.specs.List.{AllByRecursion}
use Rattle.std.proofs.lemmas.Bool.{cond_both}
use Rattle.std.proofs.lemmas.Bool.Decides.{nat_tests}
use Rattle.std.proofs.lemmas.List.{map-append}
use Rattle.std.proofs.lemmas.List.Elements.{All-nil, All-cons, All-append, All-weaker, All-take, All-drop, All-filter, filter-append}
use Rattle.std.proofs.lemmas.Option.{slice_get_within}
use mathlib.Core.List.{IsPrefix}
use Rattle.loop_model.specs.declared.call.Call.{Call}
use Rattle.loop_model.specs.declared.call.Call.TheVariants.{Post, Barrier, Unbarrier, Remove, Quit, Next, Advance, Halt}
use Rattle.loop_model.specs.declared.reply.Reply.{Reply}
use Rattle.loop_model.specs.declared.reply.Reply.TheVariants.{Accepted, Refused, Token, Unbarriered, NotPosted, Removed, QuitDone, AlreadyQuit, NotAllowed, Dispatched, Disposed, Advanced, Halted}
use Rattle.loop_model.specs.declared.entry.Entry.{Entry}
use Rattle.loop_model.specs.declared.item.Item.{Item}
use Rattle.loop_model.specs.declared.item.Item.TheVariants.{Post as Message, Barrier as SyncBarrier}
use Rattle.loop_model.specs.declared.base.Base.{Base}
use Rattle.loop_model.specs.declared.post.Post.{Post as PostData}
use Rattle.loop_model.specs.declared.post.Filter.{Filter}
use Rattle.loop_model.specs.Items.{number_of, is_just, is_barrier}
use Rattle.loop_model.specs.Entries.{posts_in, ends_by}
use Rattle.loop_model.specs.Answers.{Setting, accepted_count, quit_place, post_reply, answer}
use Rattle.loop_model.specs.Chain.{after}
use Rattle.loop_model.specs.Base.{empty_base}
use Rattle.loop_model.specs.Listed.{slot_of}
use Rattle.loop_model.proofs.AfterLaws.{accepted_count-snoc}
use Rattle.loop_model.proofs.Prefixes.{prefix_front}
use Rattle.loop_model.proofs.WellFormedLaws.{All_recursive}
use Rattle.when_queue.proofs.Lists.{filter_none}
use Rattle.when_queue.specs.Queue.{items_of}
use Rattle.message_slot.specs.Letter.{Letter, post_of, letter_with_number, numbered}
use Rattle.queue_state.specs.declared.answers.Posted.{Posted}
use Rattle.queue_state.specs.declared.answers.Posted.TheVariants as posted
use Rattle.queue_state.specs.declared.answers.Nexted.{Nexted}
use Rattle.queue_state.specs.declared.answers.Nexted.TheVariants as nexted
use Rattle.queue_state.specs.declared.answers.BarrierPosted.{BarrierPosted}
use Rattle.queue_state.specs.declared.answers.BarrierPosted.TheVariants as barred
use Rattle.queue_state.specs.declared.answers.BarrierGone.{BarrierGone}
use Rattle.queue_state.specs.declared.answers.BarrierGone.TheVariants as gone
use Rattle.queue_state.specs.declared.answers.Taking.{Taking}
use Rattle.queue_state.specs.declared.answers.Taking.TheVariants as taking
use Rattle.queue_state.specs.declared.answers.Quitting.{Quitting}
use Rattle.queue_state.specs.declared.answers.Quitting.TheVariants as quitting
use Rattle.queue_state.specs.declared.answers.Advancing.{Advancing}
use Rattle.queue_state.specs.declared.answers.Advancing.TheVariants as advancing
use Rattle.queue_state.specs.declared.answers.Halting.{Halting}
use Rattle.queue_state.specs.declared.answers.Halting.TheVariants as halting
use Rattle.queue_state.specs.Looks.{as_barrier}
use Rattle.queue_state.specs.Ended.{ended, left}
use Rattle.queue_state.specs.Queue.{Queue, entry_of, moment_at, sealed}
use Rattle.queue_state.specs.Calls.{Posts, PostsBarrier, Unbars, Takes, Quits, Looks, Advances, Halts}
use Rattle.shared_queue.specs.Whole.{Leave, whole_queue}
use Rattle.shared_queue.specs.Constants.{Constants}
use Rattle.shared_queue.specs.Turn.{IsFreshState}
use Rattle.shared_queue.specs.Claims.{IsAsAccepted, claims_at, claims_with, AreClaims, ClaimsGoOn, AcceptsClaim, LooksAsAccepted, TakesAsAccepted, QuitsAsAccepted}
use Rattle.shared_queue.proofs.Whole.{rest}

-- what stands at a place stays there where more comes behind it
read_on : {X : Type 0} (xs more : List X) (n : ℕ) (x : X) → slice_get xs n ≡ Some x → slice_get (xs ++ more) n ≡ Some x
read_on [] more n x e = absurd (cc (e))
read_on (y ∷ xs) more zero x e = e
read_on (y ∷ xs) more (suc n) x e = read_on xs more n x e

pub still_there : {X : Type 0} (xs ys : List X) (n : ℕ) (x : X) → IsPrefix xs ys → slice_get xs n ≡ Some x → slice_get ys n ≡ Some x
still_there xs ys n x p e = subst (λ l. slice_get l n ≡ Some x) p.1 (read_on xs p.0 n x e)

pub at_seam : {X : Type 0} (xs : List X) (x : X) → slice_get (xs ++ x ∷ []) (length xs) ≡ Some x
at_seam [] x = refl
at_seam (y ∷ xs) x = at_seam xs x

-- what a filter keeps passes it
pub passes_all : {X : Type 0} (p : X → Bool) (xs : List X) → AllByRecursion (λ x. p x ≡ true) (filter p xs)
passes_all p [] = tt
passes_all p (x ∷ xs) = cond_both (p x) (x ∷ filter p xs) (filter p xs) (λ l. AllByRecursion (λ y. p y ≡ true) l) (λ e. (e, passes_all p xs)) (λ e. passes_all p xs)

same_number : (k n : ℕ) → (k == n) ≡ true → k ≡ n
same_number k n e = grind (arith, nat_tests)

just_is : (o : Option ℕ) (n : ℕ) → is_just o n ≡ true → o ≡ Some n
just_is None n e = let wrong : false ≡ true = e in absurd (cc)
just_is (Some k) n e = ap (λ (z : ℕ). Some z) (same_number k n e)

is_none : (b : Bool) → (b ≡ true → ⊥) → b ≡ false
is_none true h = absurd (h refl)
is_none false h = refl

-- a message is numbered
numbered_is : (n : ℕ) (x : Item) → is_barrier x ≡ false → number_of (numbered n x) ≡ Some n
numbered_is n (Message k p) e = refl
numbered_is n (SyncBarrier t w) e = let wrong : true ≡ false = e in absurd (cc)

-- an accepted post has the number that comes next
next_of : (q : Option ℕ) (k n : ℕ) → Some (post_reply q k) ≡ Some (Accepted n) → n ≡ k
next_of None k n e = cc (e)
next_of (Some place) k n e = absurd (cc (e))

pub next_number : (s : Setting) (b : Base) (es : List Entry) (p : PostData) (n : ℕ) → answer s b es (Post p) ≡ Some (Accepted n) → n ≡ accepted_count b es
unfolding answer
next_number s b es p n e = next_of (quit_place b es) (accepted_count b es) n e

accepted_after : (b : Base) (es : List Entry) → (after b es).accepted ≡ accepted_count b es
unfolding after
accepted_after b es = refl

accepted_none : (b : Base) → accepted_count b [] ≡ b.accepted
unfolding accepted_count
accepted_none b = omega arith

no_more_accepted : (b : Base) (es : List Entry) (e : Entry) → posts_in e.call e.reply ≡ 0 → accepted_count b (es ++ e ∷ []) ≡ accepted_count b es
no_more_accepted b es e none = omega (arith, accepted_count-snoc b es e, none)

module _ {K : Type 0} where
  -- more claims leave a message its own
  pub claims_stay : (cs ds : List (Option K)) (ms : List (Letter K)) → IsPrefix cs ds → All (IsAsAccepted cs) ms → All (IsAsAccepted ds) ms
  claims_stay cs ds ms p all = All-weaker (IsAsAccepted cs) (IsAsAccepted ds) (λ m h n e. still_there cs ds n m.claim p (h n e)) ms all

  none_of : (cs : List (Option K)) (m : Letter K) → IsAsAccepted cs m → is_just (number_of m.item) (length cs) ≡ false
  none_of cs m h = is_none (is_just (number_of m.item) (length cs)) (λ e.
      let within : length cs < length cs = slice_get_within cs (length cs) m.claim (h (length cs) (just_is (number_of m.item) (length cs) e)) in
      omega arith)

  -- no message that stands there has the next number
  none_next : (cs : List (Option K)) (ms : List (Letter K)) → All (IsAsAccepted cs) ms → claims_at (length cs) ms ≡ []
  none_next cs ms all =
      ap (map (λ (m : Letter K). m.claim)) (filter_none (λ (m : Letter K). is_just (number_of m.item) (length cs)) ms
      (All_recursive (λ (m : Letter K). is_just (number_of m.item) (length cs) ≡ false) ms
      (All-weaker (IsAsAccepted cs) (λ (m : Letter K). is_just (number_of m.item) (length cs) ≡ false) (none_of cs) ms all)))

  pub same_claims : (cs : List (Option K)) (ms : List (Letter K)) → All (IsAsAccepted cs) ms → claims_with cs ms ≡ cs
  same_claims cs ms all = ap (λ l. cs ++ l) (none_next cs ms all) ∙ append-nil cs

  claims_at-append : (n : ℕ) (xs ys : List (Letter K)) → claims_at n (xs ++ ys) ≡ claims_at n xs ++ claims_at n ys
  claims_at-append n xs ys =
      let t : Letter K → Bool = λ m. is_just (number_of m.item) n in
      ap (map (λ (m : Letter K). m.claim)) (filter-append t xs ys) ∙ map-append (λ (m : Letter K). m.claim) (filter t xs) (filter t ys)

  claims_at-here : (n : ℕ) (m : Letter K) (ms : List (Letter K)) → number_of m.item ≡ Some n → claims_at n (m ∷ ms) ≡ m.claim ∷ claims_at n ms
  claims_at-here n m ms e =
      let yes : is_just (number_of m.item) n ≡ true = ap (λ o. is_just o n) e ∙ eq-eqb n n refl in
      let others : List (Letter K) = filter (λ (x : Letter K). is_just (number_of x.item) n) ms in
      ap (λ b. map (λ (x : Letter K). x.claim) (cond b (m ∷ others) others)) yes

  -- a message that comes to them with the next number brings its claim
  one_next : (cs : List (Option K)) (ms : List (Letter K)) (i : ℕ) (m : Letter K) → All (IsAsAccepted cs) ms → number_of m.item ≡ Some (length cs) → claims_with cs (insert ms i m) ≡ cs ++ m.claim ∷ []
  one_next cs ms i m all e =
      let n : ℕ = length cs in
      let front = none_next cs (take i ms) (All-take (IsAsAccepted cs) i ms all) in
      let back = none_next cs (drop i ms) (All-drop (IsAsAccepted cs) i ms all) in
      ap (λ l. cs ++ l) (claims_at-append n (take i ms) (m ∷ drop i ms) ∙ ((λ j. front j ++ claims_at n (m ∷ drop i ms)) ∙ (claims_at-here n m (drop i ms) e ∙ ap (λ l. m.claim ∷ l) back)))

  claimed_by_all : (cs : List (Option K)) (ms : List (Letter K)) (i : ℕ) (m : Letter K) → All (IsAsAccepted cs) ms → number_of m.item ≡ Some (length cs) → All (IsAsAccepted (cs ++ m.claim ∷ [])) (insert ms i m)
  claimed_by_all cs ms i m all e =
      let ds : List (Option K) = cs ++ m.claim ∷ [] in
      let more : IsPrefix cs ds = prefix_front cs (m.claim ∷ []) in
      let mine : IsAsAccepted ds m = λ n is.
      let both : Some (length cs) ≡ Some n = sym e ∙ is in
      let here : length cs ≡ n = cc (both) in
      subst (λ k. slice_get ds k ≡ Some m.claim) here (at_seam cs m.claim) in
      All-append (IsAsAccepted ds) (take i ms) (m ∷ drop i ms)
      (claims_stay cs ds (take i ms) more (All-take (IsAsAccepted cs) i ms all))
      (All-cons (IsAsAccepted ds) m (drop i ms) mine (claims_stay cs ds (drop i ms) more (All-drop (IsAsAccepted cs) i ms all)))

module _ {H K : Type 0} where
  -- what goes on from x to y keeps its messages their claims
  abbrev pub KeepsClaims : Queue H K → Queue H K → Type 0
  KeepsClaims x y = (cs : List (Option K)) → AreClaims cs x → AreClaims (claims_with cs y.messages) y

  -- the parts of a state that the claims are of
  abbrev Parts : Queue H K → Base → List Entry → List (Letter K) → Type 0
  Parts y start es ms = (y.start ≡ start) × (y.entries ≡ es) × (y.messages ≡ ms)

  parts : (y z : Queue H K) → y ≡ z → Parts y z.start z.entries z.messages
  parts y z is = (ap (λ (q : Queue H K). q.start) is, ap (λ (q : Queue H K). q.entries) is, ap (λ (q : Queue H K). q.messages) is)

  -- none of its messages is new, and no more posts were accepted
  fewer : (cs : List (Option K)) (x y : Queue H K) → AreClaims cs x → All (IsAsAccepted cs) y.messages → accepted_count y.start y.entries ≡ accepted_count x.start x.entries → AreClaims (claims_with cs y.messages) y
  fewer cs x y a all same = subst (λ l. AreClaims l y) (sym (same_claims cs y.messages all)) (record { count = a.count ∙ sym same; each = all })

  pub keeps_found : (x y : Queue H K) → y ≡ x → KeepsClaims x y
  keeps_found x y is cs a = subst (λ (z : Queue H K). AreClaims (claims_with cs z.messages) z) (sym is) (fewer cs x x a a.each refl)

  pub keeps_sealed : (x y : Queue H K) → y ≡ sealed x → KeepsClaims x y
  keeps_sealed x y is cs a = subst (λ (z : Queue H K). AreClaims (claims_with cs z.messages) z) (sym is)
      (fewer cs x (sealed x) a a.each (accepted_none (after x.start x.entries) ∙ accepted_after x.start x.entries))

  module _ (x y : Queue H K) (s : ℕ) where
    -- an entry that accepts no post, and leaves the messages or some of them
    by_entry : (c : Call) (r : Reply) (ms : List (Letter K)) → posts_in c r ≡ 0 → Parts y x.start (x.entries ++ entry_of x s c r ∷ []) ms → ((cs : List (Option K)) → All (IsAsAccepted cs) x.messages → All (IsAsAccepted cs) ms) → KeepsClaims x y
    by_entry c r ms none p some cs a =
        fewer cs x y a (subst (All (IsAsAccepted cs)) (sym p.2) (some cs a.each)) ((λ i. accepted_count (p.0 i) (p.1 i)) ∙ no_more_accepted x.start x.entries (entry_of x s c r) none)

    with_all : (c : Call) (r : Reply) → posts_in c r ≡ 0 → Parts y x.start (x.entries ++ entry_of x s c r ∷ []) x.messages → KeepsClaims x y
    with_all c r none p = by_entry c r x.messages none p (λ cs all. all)

    with_left : (c : Call) (r : Reply) → posts_in c r ≡ 0 → Parts y x.start (x.entries ++ entry_of x s c r ∷ []) (left c r x.messages) → KeepsClaims x y
    with_left c r none p = by_entry c r (left c r x.messages) none p (λ cs all. All-filter (λ (m : Letter K). not (ends_by c r m.item)) (IsAsAccepted cs) x.messages all)

    -- an accepted post brings its claim
    pub brings : (n : ℕ) (m : Letter K) (cs : List (Option K)) → is_barrier m.item ≡ false → AreClaims cs x → n ≡ accepted_count x.start x.entries → (i : ℕ) → y.messages ≡ insert x.messages i (letter_with_number n m) → claims_with cs y.messages ≡ cs ++ m.claim ∷ []
    brings n m cs target a next i is =
        let number : number_of (letter_with_number n m).item ≡ Some (length cs) = numbered_is n m.item target ∙ ap (λ (k : ℕ). Some k) (next ∙ sym a.count) in
        ap (claims_with cs) is ∙ one_next cs x.messages i (letter_with_number n m) a.each number

    with_post : (n : ℕ) (m : Letter K) (i : ℕ) → is_barrier m.item ≡ false → n ≡ accepted_count x.start x.entries
        → Parts y x.start (x.entries ++ entry_of x s (Post (post_of m.item)) (Accepted n) ∷ []) (insert x.messages i (letter_with_number n m)) → KeepsClaims x y
    with_post n m i target next p cs a =
        let number : number_of (letter_with_number n m).item ≡ Some (length cs) = numbered_is n m.item target ∙ ap (λ (k : ℕ). Some k) (next ∙ sym a.count) in
        let ds : List (Option K) = cs ++ m.claim ∷ [] in
        let e : Entry = entry_of x s (Post (post_of m.item)) (Accepted n) in
        let more : accepted_count x.start (x.entries ++ e ∷ []) ≡ accepted_count x.start x.entries + 1 = accepted_count-snoc x.start x.entries e in
        let count : length ds ≡ accepted_count x.start (x.entries ++ e ∷ []) = omega (arith, length-append cs (m.claim ∷ []), more, a.count) in
        subst (λ l. AreClaims l y) (sym (brings n m cs target a next i p.2)) (record {
          count = count ∙ (λ j. accepted_count (sym p.0 j) (sym p.1 j));
          each = subst (All (IsAsAccepted ds)) (sym p.2) (claimed_by_all cs x.messages i (letter_with_number n m) a.each number);
        })

    pub keeps_posts : (m : Letter K) (r : Posted K H) → is_barrier m.item ≡ false → Posts x s m r y → KeepsClaims x y
    keeps_posts m (posted.Accepted n wake) target p = with_post n m (slot_of (numbered n m.item) (items_of x.messages)) target (next_number x.setting x.start x.entries (post_of m.item) n p.0) (parts y _ p.2)
    keeps_posts m (posted.Refused place node) target p = with_all (Post (post_of m.item)) (Refused place) refl (parts y _ p.2)
    keeps_posts m (posted.NoMemory node) target p = keeps_found x y p.1

    -- a barrier that comes to them has no number
    with_barrier : (t at i : ℕ) (m : Letter K) → Parts y x.start (x.entries ++ entry_of x s (Barrier at) (Token t) ∷ []) (insert x.messages i (as_barrier t at m)) → KeepsClaims x y
    with_barrier t at i m p = by_entry (Barrier at) (Token t) (insert x.messages i (as_barrier t at m)) refl p (λ cs all.
        All-append (IsAsAccepted cs) (take i x.messages) (as_barrier t at m ∷ drop i x.messages) (All-take (IsAsAccepted cs) i x.messages all)
        (All-cons (IsAsAccepted cs) (as_barrier t at m) (drop i x.messages) (λ n e. absurd (cc (e))) (All-drop (IsAsAccepted cs) i x.messages all)))

    pub keeps_barriers : (now : ℕ) (m : Letter K) (r : BarrierPosted K H) → PostsBarrier x s now m r y → KeepsClaims x y
    keeps_barriers now m (barred.Token t) p = with_barrier t (moment_at x now) (slot_of (SyncBarrier t (moment_at x now)) (items_of x.messages)) m (parts y _ p.1)
    keeps_barriers now m (barred.NoMemory node) p = keeps_found x y p.1

    pub keeps_unbars : (t : ℕ) (r : BarrierGone K H) → Unbars x s t r y → KeepsClaims x y
    keeps_unbars t (gone.Unbarriered node wake) p = with_left (Unbarrier t) Unbarriered refl (parts y _ p.3)
    keeps_unbars t gone.NotPosted p = with_all (Unbarrier t) NotPosted refl (parts y _ p.1)
    keeps_unbars t gone.NoMemory p = keeps_found x y p

    pub keeps_takes : (f : Filter) (r : Taking K H) → Takes x s f r y → KeepsClaims x y
    keeps_takes f (taking.Removed list) p = with_left (Remove f) (Removed (length list)) refl (parts y _ p.2)
    keeps_takes f taking.NoMemory p = keeps_found x y p

    pub keeps_quits : (safe : Bool) (now : ℕ) (r : Quitting K H) → Quits x s safe now r y → KeepsClaims x y
    keeps_quits safe now (quitting.Done list) p = with_left (Quit safe (moment_at x now)) QuitDone refl (parts y _ p.2)
    keeps_quits safe now (quitting.AlreadyQuit place) p = with_all (Quit safe (moment_at x now)) (AlreadyQuit place) refl (parts y _ p.1)
    keeps_quits safe now quitting.NotAllowed p = with_all (Quit safe (moment_at x now)) NotAllowed refl (parts y _ p.1)
    keeps_quits safe now quitting.NoMemory p = keeps_found x y p.1

    pub keeps_looks : (now : ℕ) (idle : Bool) (r : Nexted K H) → Looks x s now idle r y → KeepsClaims x y
    keeps_looks now idle (nexted.Taken n at node) p = with_left (Next at) (Dispatched n) refl (parts y _ p.3)
    keeps_looks now idle nexted.Idle p = keeps_found x y p.3
    keeps_looks now idle (nexted.Wait until) p = λ cs a.
        let q = parts y _ p.3 in
        fewer cs x y a (subst (All (IsAsAccepted cs)) (sym q.2) a.each) (λ i. accepted_count (q.0 i) (q.1 i))
    keeps_looks now idle (nexted.End list) p = by_entry (Next (moment_at x now)) Disposed [] refl (parts y _ p.2) (λ cs all. All-nil (IsAsAccepted cs))
    keeps_looks now idle nexted.Over p = keeps_found x y p.1

    pub keeps_advances : (now : ℕ) (r : Advancing) → Advances x s now r y → KeepsClaims x y
    keeps_advances now advancing.Advanced p = with_all (Advance now) Advanced refl (parts y _ p.1)
    keeps_advances now advancing.Over p = keeps_found x y p.1
    keeps_advances now (advancing.Reached time) p = keeps_found x y p.3
    keeps_advances now (advancing.NotDrained n) p = keeps_found x y p.3
    keeps_advances now advancing.NoMemory p = keeps_found x y p

    pub keeps_halts : (now : ℕ) (r : Halting) → Halts x s now r y → KeepsClaims x y
    keeps_halts now halting.Halted p = with_all (Halt (moment_at x now)) Halted refl (parts y _ p.1)
    keeps_halts now halting.Over p = keeps_found x y p.1
    keeps_halts now (halting.NotDrained n) p = keeps_found x y p.2

  -- the claims of a state are those of its whole history
  pub claims_whole : (before : List Entry) (x : Queue H K) (cs : List (Option K)) → Leave x.setting before x.start → AreClaims cs x → AreClaims cs (whole_queue before x)
  claims_whole before x cs leave a =
      let b : Base = empty_base x.setting.senders in
      let same : accepted_count b (before ++ x.entries) ≡ accepted_count x.start x.entries =
      sym (accepted_after b (before ++ x.entries)) ∙ (ap (λ (z : Base). z.accepted) (rest before x leave) ∙ accepted_after x.start x.entries) in
      record { count = a.count ∙ sym same; each = a.each }

  -- what is handed out has the claims of its numbers
  module _ (before after_ : List (Option K)) (x y : Queue H K) (s : ℕ) (go : ClaimsGoOn before after_ x y) where
    more : IsPrefix go.found after_
    more = subst (IsPrefix go.found) (sym go.next) (prefix_front go.found (claims_at (length go.found) y.messages))

    all_of : (ms : List (Letter K)) → All (IsAsAccepted go.found) ms → All (IsAsAccepted after_) ms
    all_of ms all = claims_stay go.found after_ ms more all

    some_of : (c : Call) (r : Reply) (list : List (Letter K)) → list ≡ ended c r x.messages → All (IsAsAccepted after_) list
    some_of c r list is = all_of list (subst (All (IsAsAccepted go.found)) (sym is) (All-filter (λ (m : Letter K). ends_by c r m.item) (IsAsAccepted go.found) x.messages go.of_found.each))

    pub posts_claim : (m : Letter K) (r : Posted K H) → is_barrier m.item ≡ false → Posts x s m r y → AcceptsClaim before after_ m r
    posts_claim m (posted.Accepted n wake) target p =
        let next = next_number x.setting x.start x.entries (post_of m.item) n p.0 in
        (go.found, go.begins, go.of_found.count ∙ sym next, go.next ∙ brings x y s n m go.found target go.of_found next (slot_of (numbered n m.item) (items_of x.messages)) (ap (λ (q : Queue H K). q.messages) p.2))
    posts_claim m (posted.Refused place node) target p = go.grows
    posts_claim m (posted.NoMemory node) target p = go.grows

    -- a message that is taken out alone
    taken_out : (at n : ℕ) (node : Letter K) → ended (Next at) (Dispatched n) x.messages ≡ node ∷ [] → slice_get after_ n ≡ Some node.claim
    taken_out at n node is =
        let mine = subst (AllByRecursion (IsAsAccepted after_)) is (All_recursive (IsAsAccepted after_) (ended (Next at) (Dispatched n) x.messages) (some_of (Next at) (Dispatched n) _ refl)) in
        let passed = subst (AllByRecursion (λ (m : Letter K). ends_by (Next at) (Dispatched n) m.item ≡ true)) is (passes_all (λ (m : Letter K). ends_by (Next at) (Dispatched n) m.item) x.messages) in
        mine.0 n (just_is (number_of node.item) n passed.0)

    pub looks_claimed : (now : ℕ) (idle : Bool) (r : Nexted K H) → Looks x s now idle r y → LooksAsAccepted after_ r
    looks_claimed now idle (nexted.Taken n at node) p = taken_out at n node p.2
    looks_claimed now idle nexted.Idle p = tt
    looks_claimed now idle (nexted.Wait until) p = tt
    looks_claimed now idle (nexted.End list) p = all_of list (subst (All (IsAsAccepted go.found)) (sym p.1) go.of_found.each)
    looks_claimed now idle nexted.Over p = tt

    pub takes_claimed : (f : Filter) (r : Taking K H) → Takes x s f r y → TakesAsAccepted after_ r
    takes_claimed f (taking.Removed list) p = some_of (Remove f) (Removed (length list)) list p.1
    takes_claimed f taking.NoMemory p = tt

    pub quits_claimed : (safe : Bool) (now : ℕ) (r : Quitting K H) → Quits x s safe now r y → QuitsAsAccepted after_ r
    quits_claimed safe now (quitting.Done list) p = some_of (Quit safe (moment_at x now)) QuitDone list p.1
    quits_claimed safe now (quitting.AlreadyQuit place) p = tt
    quits_claimed safe now quitting.NotAllowed p = tt
    quits_claimed safe now quitting.NoMemory p = tt

-- a state to which nothing has happened has none
pub no_claims : {H K : Type 0} (key : Constants H) (x : Queue H K) → IsFreshState key x → AreClaims [] x
no_claims key x first = record {
  count = sym (accepted_none (empty_base key.setting.senders)) ∙ (λ i. accepted_count (sym first.own.start i) (sym first.entries i));
  each = subst (All (IsAsAccepted [])) (sym first.messages) (All-nil (IsAsAccepted []));
}
