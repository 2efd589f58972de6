-- A turn at the queue of an inbox run, and what the looper and the controller know behind it.
use Rattle.std.proofs.Common.{◌≡◌, ◌<◌, ◌≤◌, ◌⊎◌, inl, inr, ℕ, Bool, true, List, [], ◌∷◌, ◌++◌, length, refl, sym, ap, ◌∙◌, subst, arith, append_assoc, length-append, ◌+◌, false, Option, Some, None, ⊎_elim, max}
use Rattle.std.specs.Prelude.{◌==◌, if◌then◌else◌, option_map, ◌||◌, not, nat_le, is_some}
use Rattle.std.proofs.lemmas.Bool.{eq-eqb, le-leb}
use Rattle.std.proofs.lemmas.List.{append-nil, nil_from_length}
use Rattle.std.proofs.lemmas.List.Sums.{length-filter}
use mathlib.Core.List.{IsPrefix}
use Rattle.loop_model.specs.declared.entry.Entry.{Entry}
use Rattle.loop_model.specs.declared.base.Base.{Base}
use Rattle.loop_model.specs.Answers.{Setting, answer, is_over, clock, quit_place}
use Rattle.loop_model.specs.Legal.{AreNumbered}
use Rattle.loop_model.proofs.NumberLaws.{AreNumbered-front, AreNumbered-last}
use Rattle.loop_model.proofs.Prefixes.{prefix_trans, prefix_length, prefix_all, longer_first, longer_second}
use Rattle.shared_queue.specs.Constants.{made_in, Constants, IsStateOf}
use Rattle.run_model.specs.Planned.{entries_by}
use Rattle.run_model.proofs.RunLaws.{entries_by-append}
use Rattle.inbox_queue.specs.MainQueue.{AreSilent, time_after, GrowsByEntry, IsLookEntry, IsHaltAt, IsPostOf, LooksOn, MovesTime, HandsAreAt, AreSameHands, threads_of, seen}
use mathlib.Core.Logic.{dite}
use native.Mathlib.Decide.{dec_lt, ℕ_discrete}
use Rattle.loop_model.specs.Pick.{pick, first_eligible}
use Rattle.queue_state.specs.Calls.{Replies}
use Rattle.atomic_table.specs.Seated.{TableId}
use Rattle.loop_model.specs.declared.call.Call.{Call}
use Rattle.loop_model.specs.declared.call.Call.TheVariants.{Post, Next, Advance, Halt}
use Rattle.loop_model.specs.declared.post.Post.{Post as PostData}
use Rattle.loop_model.specs.declared.reply.Reply.{Reply}
use Rattle.loop_model.specs.declared.reply.Reply.TheVariants.{Accepted, Refused, Dispatched, Disposed, Advanced, Halted}
use Rattle.loop_model.specs.Base.{empty_base}
use Rattle.loop_model.specs.Items.{when_of}
use Rattle.loop_model.specs.Live.{live}
use Rattle.message_pool.specs.Passes.{Claimed}
use Rattle.message_slot.specs.Letter.{post_of}
use Rattle.queue_state.specs.Queue.{Queue, IsSound, entry_of, moment_at}
use Rattle.queue_state.specs.Queue as queue
use Rattle.queue_state.specs.declared.answers.Posted.TheVariants as posted
use Rattle.queue_state.specs.declared.answers.Halting.TheVariants as halting
use Rattle.shared_queue.specs.Known.{IsTurn, IsSamePoster}
use Rattle.shared_queue.specs.Calls.{HaltedBy, PostedBy}
use Rattle.inbox_queue.specs.declared.main_queue.Look.{Look}
use Rattle.inbox_queue.specs.declared.main_queue.Look.TheVariants.{Taken, Waits, Other}
use Rattle.inbox_queue.specs.declared.main_queue.Move.{Move}
use Rattle.inbox_queue.specs.declared.main_queue.Move.TheVariants.{There, Stays, NoMemory}
use Rattle.inbox_queue.specs.Turned.{Sender, LookedBy, MovedBy, PostsBy}
use Rattle.loop_model.specs.Lists.{longer}
use Rattle.inbox_queue.specs.declared.main_queue.Place.{Place}
use Rattle.inbox_queue.specs.declared.main_queue.Hands.{Hands}
use Rattle.inbox_queue.proofs.Playing.{Led}

-- ==== where no thread has an entry, a turn finds what both that call the queue have seen

-- a sender's entries in a longer history begin with those before
pub prefix_by : (k : ℕ) (xs ys : List Entry) → IsPrefix xs ys → IsPrefix (entries_by k xs) (entries_by k ys)
prefix_by k xs ys p = (entries_by k p.0, sym (entries_by-append k xs p.0) ∙ ap (entries_by k) p.1)

-- as many entries are the same entries
pub same_by_count : (k : ℕ) (xs ys : List Entry) → IsPrefix xs ys → made_in k ys ≡ made_in k xs → entries_by k ys ≡ entries_by k xs
same_by_count k xs ys p same =
    let a = length-filter (λ (e : Entry). e.sender == k) xs in
    let b = length-filter (λ (e : Entry). e.sender == k) ys in
    sym (prefix_all (entries_by k xs) (entries_by k ys) (prefix_by k xs ys p) (let le : length (entries_by k ys) ≤ length (entries_by k xs) = omega (arith, a, b, same) in le))

-- what is the same in the end is the same in between
pub same_between : (k : ℕ) (xs ys zs : List Entry) → IsPrefix xs ys → IsPrefix ys zs → entries_by k zs ≡ entries_by k xs → entries_by k ys ≡ entries_by k xs
same_between k xs ys zs p q same =
    let a = prefix_length (entries_by k ys) (entries_by k zs) (prefix_by k ys zs q) in
    let b : length (entries_by k zs) ≡ length (entries_by k xs) = ap length same in
    sym (prefix_all (entries_by k xs) (entries_by k ys) (prefix_by k xs ys p) (let le : length (entries_by k ys) ≤ length (entries_by k xs) = omega (arith, a, b) in le))

-- nothing begins with nothing
pub none_before : (k : ℕ) (xs ys : List Entry) → IsPrefix xs ys → entries_by k ys ≡ [] → entries_by k xs ≡ []
none_before k xs ys p none = nil_from_length (entries_by k xs)
    (let a = prefix_length (entries_by k xs) (entries_by k ys) (prefix_by k xs ys p) in let b : length (entries_by k ys) ≡ 0 = ap length none in let z : length (entries_by k xs) ≡ 0 = omega (arith, a, b) in z)

pub silent_before : (threads : ℕ) (xs ys : List Entry) → IsPrefix xs ys → AreSilent threads ys → AreSilent threads xs
silent_before threads xs ys p silent k lt = none_before k xs ys p (silent k lt)

-- a sender that has no entry has not made the first one
own_of_none : (k : ℕ) (e : Entry) (es : List Entry) → (e.sender == k) ≡ true → entries_by k (e ∷ es) ≡ [] → ⊥
own_of_none k e es own none = absurd (let wrong : e ∷ entries_by k es ≡ [] = ap (λ (b : Bool). if b then e ∷ entries_by k es else entries_by k es) (sym own) ∙ none in cc wrong)

module _ (set : Setting) (b : Base) where
  -- where no sender has made anything more, there is nothing more
  nothing_more : (es more : List Entry) → AreNumbered set b (es ++ more) → ((k : ℕ) → k < set.senders → entries_by k more ≡ []) → more ≡ []
  nothing_more es [] numbered none = refl
  nothing_more es (e ∷ more) numbered none =
      let on = subst (AreNumbered set b) (sym (append_assoc es (e ∷ []) more)) numbered in
      let next = AreNumbered-last set b es e (AreNumbered-front set b (es ++ e ∷ []) more on) in
      absurd (own_of_none e.sender e more (eq-eqb e.sender e.sender refl) (none e.sender next.known))

  -- a beginning that has all entries of each sender is the whole
  pub is_whole : (es whole : List Entry) → IsPrefix es whole → AreNumbered set b whole → ((k : ℕ) → k < set.senders → entries_by k whole ≡ entries_by k es) → whole ≡ es
  is_whole es whole front numbered same =
      let none : front.0 ≡ [] = nothing_more es front.0 (subst (AreNumbered set b) (sym front.1) numbered) (λ k lt. no_more k (same k lt)) in
      sym front.1 ∙ ap (λ l. es ++ l) none ∙ append-nil es
    where
      no_more : (k : ℕ) → entries_by k whole ≡ entries_by k es → entries_by k front.0 ≡ []
      no_more k same = nil_from_length (entries_by k front.0)
          (let parts : length (entries_by k whole) ≡ length (entries_by k es ++ entries_by k front.0) = ap length (ap (entries_by k) (sym front.1) ∙ entries_by-append k es front.0) in
          let same' : length (entries_by k whole) ≡ length (entries_by k es) = ap length same in
          let sum = length-append (entries_by k es) (entries_by k front.0) in
          let z : length (entries_by k front.0) ≡ 0 = omega (arith, parts, same', sum) in z)

-- the turn of one of the two found what both had seen
pub found_is : (threads : ℕ) (set : Setting) (b : Base) (was found left : List Entry) (one other : ℕ) → AreNumbered set b left → IsPrefix was found → IsPrefix found left
    → made_in one found ≡ made_in one was → made_in other left ≡ made_in other was
    → ((k : ℕ) → k < set.senders → (k < threads) ⊎ (k ≡ one) ⊎ (k ≡ other)) → AreSilent threads left → found ≡ was
found_is threads set b was found left one other numbered p q own others who silent =
    is_whole set b was found p (AreNumbered-front set b found q.0 (subst (AreNumbered set b) (sym q.1) numbered)) (λ k lt. each k (who k lt))
  where
    each : (k : ℕ) → (k < threads) ⊎ (k ≡ one) ⊎ (k ≡ other) → entries_by k found ≡ entries_by k was
    each k (inl lt) = none_before k found left q (silent k lt) ∙ sym (none_before k was left (prefix_trans was found left p q) (silent k lt))
    each k (inr (inl is)) = subst (λ n. entries_by n found ≡ entries_by n was) (sym is) (same_by_count one was found p own)
    each k (inr (inr is)) = subst (λ n. entries_by n found ≡ entries_by n was) (sym is)
        (same_between other was found left p q (same_by_count other was left (prefix_trans was found left p q) others))

-- ==== what one turn at the queue of an inbox run adds to its history, where no thread has an entry

abbrev pub State : Type 0
State = Queue TableId Claimed

-- the number of senders changes neither the time, nor what is eligible, nor whether it is quitting
pub clock_same : (m : ℕ) (es : List Entry) → clock (empty_base m) es ≡ clock (empty_base 0) es
unfolding clock
clock_same m es = refl

eligible_same : (m : ℕ) (es : List Entry) → first_eligible (empty_base m) es ≡ first_eligible (empty_base 0) es
unfolding first_eligible live
eligible_same m es = refl

quit_same : (m : ℕ) (es : List Entry) → quit_place (empty_base m) es ≡ quit_place (empty_base 0) es
unfolding quit_place
quit_same m es = refl

-- a time that was moved on is later than it was
later : (x : State) (time : ℕ) → Replies x (Advance time) Advanced → queue.time_of x < time
unfolding answer
later x time is = dite (dec_lt (queue.time_of x) time) (λ lt. lt) (λ no_less. absurd (never (queue.time_of x) time no_less is))
  where
    or_true : (a b c d : Bool) → b ≡ true → (a || b || c || d) ≡ true
    or_true true b c d e = refl
    or_true false true c d e = refl
    or_true false false c d e = absurd cc

    never : (t now : ℕ) → (t < now → ⊥) → (if is_over x.start x.entries || nat_le now t || not x.setting.lockstep || is_some (pick x.start x.entries (clock x.start x.entries)) then None else Some Advanced) ≡ Some Advanced → ⊥
    never t now no_less is =
        let le : nat_le now t ≡ true = le-leb now t (let r : now ≤ t = omega arith in r) in
        let none : None ≡ Some Advanced = ap (λ (b : Bool). if b then None else Some Advanced) (sym (or_true (is_over x.start x.entries) (nat_le now t) (not x.setting.lockstep) _ le)) ∙ is in
        absurd (cc none)

-- the queue's setting
abbrev pub setting_for : ℕ → Setting
setting_for threads = record { main = true; lockstep = true; senders = threads + 2 }

-- one of the two calls, and the other hears it
pub record Calls (threads : ℕ) (one one' other other' : Sender) (x y : State) : Type 0 where
  pub key : Constants TableId
  pub setting : key.setting ≡ setting_for threads
  pub own : one.view.constants ≡ Some key
  pub turn : IsTurn one one' x y
  pub same : other.view.seen ≡ one.view.seen
  pub heard : other'.view.seen ≡ one'.view.seen
  pub kept : IsSamePoster other other'
  pub who : (k : ℕ) → k < threads + 2 → (k < threads) ⊎ (k ≡ one.sender) ⊎ (k ≡ other.sender)

module _ {threads : ℕ} {one one' other other' : Sender} {x y : State} (c : Calls threads one one' other other' x y) where
  own_state : IsStateOf c.key x × IsStateOf c.key y
  own_state = c.turn.own c.key c.own

  start_is : x.start ≡ empty_base (threads + 2)
  start_is = own_state.0.start ∙ ap (λ (s : Setting). empty_base s.senders) c.setting

  setting_is : x.setting ≡ setting_for threads
  setting_is = own_state.0.setting ∙ c.setting

  begins : IsPrefix one.view.seen x.entries
  begins = c.turn.begins

  goes_on : IsPrefix x.entries y.entries
  goes_on = ⊎_elim (λ same. ([], append-nil x.entries ∙ sym same)) (λ (m : (e : Entry) × (y.entries ≡ x.entries ++ e ∷ []) × (e.sender ≡ one.sender)). (m.0 ∷ [], sym m.1)) c.turn.step.3

  -- the turn found what both had seen
  pub found : AreSilent threads one'.view.seen → AreSilent threads one.view.seen × (x.entries ≡ one.view.seen)
  found silent =
      let silent' : AreSilent threads y.entries = subst (AreSilent threads) c.turn.seen silent in
      let others : made_in other.sender y.entries ≡ made_in other.sender one.view.seen =
      ap (λ l. made_in other.sender l) (sym c.turn.seen ∙ sym c.heard) ∙ ap (λ n. made_in n other'.view.seen) (sym c.kept.sender) ∙ c.kept.made ∙ ap (λ l. made_in other.sender l) c.same in
      let numbered : AreNumbered c.key.setting (empty_base c.key.setting.senders) y.entries =
      subst (λ (z : Setting × Base). AreNumbered z.0 z.1 y.entries) (λ i. (own_state.1.setting i, own_state.1.start i)) c.turn.sound.1.numbered in (
        silent_before threads one.view.seen y.entries (prefix_trans one.view.seen x.entries y.entries begins goes_on) silent',
        found_is threads c.key.setting (empty_base c.key.setting.senders) one.view.seen x.entries y.entries one.sender other.sender numbered begins goes_on c.turn.found_made others
            (λ k lt. c.who k (subst (λ (s : Setting). k < s.senders) c.setting lt)) silent',
      )

  -- the time that it found
  pub time_found : x.entries ≡ one.view.seen → queue.time_of x ≡ time_after one.view.seen
  time_found is = subst (λ (z : Base × List Entry). clock x.start x.entries ≡ clock z.0 z.1) (λ i. (start_is i, is i)) refl ∙ clock_same (threads + 2) one.view.seen

  pub moment_found : (now : ℕ) → x.entries ≡ one.view.seen → moment_at x now ≡ time_after one.view.seen
  moment_found now is = subst (λ (s : Setting). (if s.lockstep then queue.time_of x else max now (queue.time_of x)) ≡ time_after one.view.seen) (sym setting_is) (time_found is)

  -- it left what it found with one entry more
  pub entry_more : (call : Call) (reply : Reply) → y.entries ≡ x.entries ++ entry_of x one.sender call reply ∷ [] → x.entries ≡ one.view.seen → one'.view.seen ≡ one.view.seen ++ entry_of x one.sender call reply ∷ []
  entry_more call reply is found = c.turn.seen ∙ is ∙ ap (λ l. l ++ entry_of x one.sender call reply ∷ []) found

  pub entry_none : y.entries ≡ x.entries → x.entries ≡ one.view.seen → one'.view.seen ≡ one.view.seen
  entry_none is found = c.turn.seen ∙ is ∙ found

  pub waits_for : (until : Option ℕ) → until ≡ option_map when_of (first_eligible x.start x.entries) → quit_place x.start x.entries ≡ None → x.entries ≡ one.view.seen
      → (until ≡ option_map when_of (first_eligible (empty_base 0) one.view.seen)) × (quit_place (empty_base 0) one.view.seen ≡ None)
  waits_for until is none found = (
    is ∙ subst (λ (z : Base × List Entry). option_map when_of (first_eligible x.start x.entries) ≡ option_map when_of (first_eligible z.0 z.1)) (λ i. (start_is i, found i)) refl ∙ ap (option_map when_of) (eligible_same (threads + 2) one.view.seen),
    sym (quit_same (threads + 2) one.view.seen) ∙ subst (λ (z : Base × List Entry). quit_place z.0 z.1 ≡ None) (λ i. (start_is i, found i)) none,
  )

-- a turn leaves what it found, and more
pub goes_on_turn : (a b : Sender) (x y : State) → IsTurn a b x y → IsPrefix a.view.seen y.entries
goes_on_turn a b x y turn = prefix_trans a.view.seen x.entries y.entries turn.begins
    (⊎_elim (λ same. ([], append-nil x.entries ∙ sym same)) (λ (m : (e : Entry) × (y.entries ≡ x.entries ++ e ∷ []) × (e.sender ≡ a.sender)). (m.0 ∷ [], sym m.1)) turn.step.3)

-- what the callers know, but for the states of the turn
pub record Pair (threads : ℕ) (one one' other other' : Sender) : Type 0 where
  pub key : Constants TableId
  pub setting : key.setting ≡ setting_for threads
  pub own : one.view.constants ≡ Some key
  pub same : other.view.seen ≡ one.view.seen
  pub heard : other'.view.seen ≡ one'.view.seen
  pub kept : IsSamePoster other other'
  pub who : (k : ℕ) → k < threads + 2 → (k < threads) ⊎ (k ≡ one.sender) ⊎ (k ≡ other.sender)

abbrev calls : {threads : ℕ} {one one' other other' : Sender} (x y : State) → Pair threads one one' other other' → IsTurn one one' x y → Calls threads one one' other other' x y
calls x y p turn = record { key = p.key; setting = p.setting; own = p.own; turn = turn; same = p.same; heard = p.heard; kept = p.kept; who = p.who }

module _ (threads : ℕ) (one one' other other' : Sender) (p : Pair threads one one' other other') where
  abbrev Now : (List Entry → List Entry → Type 0) → Type 0
  Now R = AreSilent threads one'.view.seen → AreSilent threads one.view.seen × R one.view.seen one'.view.seen

  a_look : (x y : State) (call : Call) (reply : Reply) (at : ℕ) → IsTurn one one' x y → y.entries ≡ x.entries ++ entry_of x one.sender call reply ∷ [] → call ≡ Next at → at ≡ moment_at x 0 → Now (λ past now. GrowsByEntry one.sender (IsLookEntry (time_after past)) past now)
  a_look x y call reply at turn is next moment silent =
      let c = calls x y p turn in let f = found c silent in
      (f.0, (entry_of x one.sender call reply, entry_more c call reply is f.1, refl, next ∙ ap Next (moment ∙ moment_found c 0 f.1)))

  nothing : (x y : State) → IsTurn one one' x y → y.entries ≡ x.entries → Now (λ past now. now ≡ past)
  nothing x y turn is silent = let c = calls x y p turn in let f = found c silent in (f.0, entry_none c is f.1)

  pub looked : (result : Look) → LookedBy one one' result → Now (LooksOn one.sender result)
  looked Taken h silent = let n = h.3 in
      a_look n.0 n.1 (Next h.1) (Dispatched h.0) h.1 n.2 (ap (λ (q : State). q.entries) n.3.3) refl n.3.0 silent
  looked (Waits until) h silent =
      let c = calls h.0 h.1 p h.2 in let f = found c silent in
      let w = waits_for c until h.3.2 h.3.0.2 f.1 in
      (f.0, (entry_none c (ap (λ (q : State). q.entries) h.3.3) f.1, w.0, w.1))
  looked Other (inl h) silent = let r = nothing h.0 h.1 h.2 (ap (λ (q : State). q.entries) h.3.3) silent in (r.0, inl r.1)
  looked Other (inr (inl h)) silent = let n = h.1 in
      let r = a_look n.0 n.1 (Next (moment_at n.0 0)) Disposed (moment_at n.0 0) n.2 (ap (λ (q : State). q.entries) n.3.2) refl refl silent in (r.0, inr r.1)
  looked Other (inr (inr h)) silent = let r = nothing h.0 h.1 h.2 (ap (λ (q : State). q.entries) h.3.1) silent in (r.0, inl r.1)

  pub moved : one.sender ≡ threads + 1 → (time : ℕ) (result : Move) → MovedBy one one' time result → Now (MovesTime threads time result)
  moved own time There (inl h) silent =
      let c = calls h.0 h.1 p h.2 in let f = found c silent in
      let e : Entry = entry_of h.0 one.sender (Advance time) Advanced in
      (f.0, inr ((e, entry_more c (Advance time) Advanced (ap (λ (q : State). q.entries) h.3.1) f.1, own, (refl, refl)), subst (λ t. t < time) (time_found c f.1) (later h.0 time h.3.0)))
  moved own time There (inr h) silent = let n = h.1 in
      let c = calls n.0 n.1 p n.2 in let f = found c silent in
      (f.0, inl (entry_none c (ap (λ (q : State). q.entries) n.3.3) f.1, subst (λ t. time ≤ t) (time_found c f.1) n.3.1))
  moved own time Stays (inl h) silent = nothing h.0 h.1 h.2 (ap (λ (q : State). q.entries) h.3.1) silent
  moved own time Stays (inr h) silent = let n = h.1 in nothing n.0 n.1 n.2 (ap (λ (q : State). q.entries) n.3.3) silent
  moved own time NoMemory h silent = nothing h.0 h.1 h.2 (ap (λ (q : State). q.entries) h.3) silent

  pub halted : one.sender ≡ threads + 1 → (time : ℕ) → HaltedBy one one' time halting.Halted → Now (λ past now. GrowsByEntry (threads + 1) (IsHaltAt (time_after past)) past now)
  halted own time h silent =
      let c = calls h.0 h.1 p h.2 in let f = found c silent in
      let at = moment_at h.0 time in
      (f.0, (entry_of h.0 one.sender (Halt at) Halted, entry_more c (Halt at) Halted (ap (λ (q : State). q.entries) h.3.1) f.1, own, (ap Halt (moment_found c time f.1), refl)))

  pub not_halted_over : (time : ℕ) → HaltedBy one one' time halting.Over → Now (λ past now. now ≡ past)
  not_halted_over time h = nothing h.0 h.1 h.2 (ap (λ (q : State). q.entries) h.3.1)

  pub not_halted_due : (time n : ℕ) → HaltedBy one one' time (halting.NotDrained n) → Now (λ past now. now ≡ past)
  not_halted_due time n h = nothing h.0 h.1 h.2 (ap (λ (q : State). q.entries) h.3.2)

  pub posted_one : (post : PostData) → PostsBy post one one' → Now (λ past now. GrowsByEntry one.sender (IsPostOf post) past now)
  posted_one post h = go h.2
    where
      made : (x y : State) (reply : Reply) → IsTurn one one' x y → y.entries ≡ x.entries ++ entry_of x one.sender (Post (post_of h.0.item)) reply ∷ [] → Now (λ past now. GrowsByEntry one.sender (IsPostOf post) past now)
      made x y reply turn is silent = let c = calls x y p turn in let f = found c silent in
          (f.0, (entry_of x one.sender (Post (post_of h.0.item)) reply, entry_more c (Post (post_of h.0.item)) reply is f.1, refl, (post_of h.0.item, refl, h.1)))

      go : (((n : ℕ) × (wake : Bool) × PostedBy one one' h.0 (posted.Accepted n wake)) ⊎ ((place : ℕ) × PostedBy one one' h.0 (posted.Refused place h.0))) → Now (λ past now. GrowsByEntry one.sender (IsPostOf post) past now)
      go (inl a) = let n = a.2 in made n.0 n.1 (Accepted a.0) n.2 (ap (λ (q : State). q.entries) n.3.2)
      go (inr r) = let n = r.1 in made n.0 n.1 (Refused r.0) n.2 (ap (λ (q : State). q.entries) n.3.2)

-- ==== a call of the looper or of the controller, and what both know after each has heard the other

-- ---- hearing

heard_up : (a b : List Entry) → IsPrefix a b → longer a b ≡ b
heard_up a b p = dite (dec_lt (length a) (length b)) (λ lt. longer_second a b lt)
    (λ not. longer_first a b (let le : length b ≤ length a = omega arith in le) ∙ prefix_all a b p (let le : length b ≤ length a = omega arith in le))

heard_down : (a b : List Entry) → IsPrefix a b → longer b a ≡ b
heard_down a b p = longer_first b a (prefix_length a b p)

heard_same : (a : List Entry) → longer a a ≡ a
heard_same a = longer_first a a (let le : length a ≤ length a = omega arith in le)

-- where the looper has seen more; first the controller hears it, and then it the controller
pub looper_heard : (l l1 l2 c c1 c2 : Sender) → c1.view.seen ≡ longer c.view.seen l.view.seen → l1 ≡ l → l2.view.seen ≡ longer l1.view.seen c1.view.seen → c2 ≡ c1 → IsPrefix c.view.seen l.view.seen → (l2.view.seen ≡ l.view.seen) × (c2.view.seen ≡ l.view.seen)
looper_heard l l1 l2 c c1 c2 first same second same' p =
    let now : c1.view.seen ≡ l.view.seen = first ∙ heard_up c.view.seen l.view.seen p in
    (second ∙ (λ i. longer ((same i).view.seen) (now i)) ∙ heard_same l.view.seen, ap (λ (x : Sender). x.view.seen) same' ∙ now)

-- where the controller has
pub controller_heard : (l l1 l2 c c1 c2 : Sender) → c1.view.seen ≡ longer c.view.seen l.view.seen → l1 ≡ l → l2.view.seen ≡ longer l1.view.seen c1.view.seen → c2 ≡ c1 → IsPrefix l.view.seen c.view.seen → (l2.view.seen ≡ c.view.seen) × (c2.view.seen ≡ c.view.seen)
controller_heard l l1 l2 c c1 c2 first same second same' p =
    let now : c1.view.seen ≡ c.view.seen = first ∙ heard_down l.view.seen c.view.seen p in
    (second ∙ (λ i. longer ((same i).view.seen) (now i)) ∙ heard_up l.view.seen c.view.seen p, ap (λ (x : Sender). x.view.seen) same' ∙ now)

-- ---- who calls stays who it is

pub record Kept (before after : Sender) : Type 0 where
  pub table : after.table ≡ before.table
  pub sender : after.sender ≡ before.sender
  pub constants : after.view.constants ≡ before.view.constants
  pub sealed : after.view.sealed ≡ before.view.sealed

kept_turn : (a b : Sender) (x y : State) → IsTurn a b x y → Kept a b
kept_turn a b x y t = record { table = t.table; sender = t.sender; constants = t.constants; sealed = t.sealed }

kept_same : (a b : Sender) → IsSamePoster a b → Kept a b
kept_same a b t = record { table = t.table; sender = t.sender; constants = t.constants; sealed = t.sealed }

kept_then : (a b c : Sender) → Kept a b → Kept b c → Kept a c
kept_then a b c p q = record { table = q.table ∙ p.table; sender = q.sender ∙ p.sender; constants = q.constants ∙ p.constants; sealed = q.sealed ∙ p.sealed }

at_kept : (place : Place) (h h' : Hands) → HandsAreAt place h → Kept h.looper h'.looper → Kept h.controller h'.controller → h'.pass.home ≡ place.pool → h'.controller.view.seen ≡ seen h' → HandsAreAt place h'
at_kept place h h' at l c pass same = record {
  looper = (l.table ∙ at.looper.0, l.constants ∙ at.looper.1);
  controller = (c.table ∙ at.controller.0, c.constants ∙ at.controller.1);
  number = c.sender ∙ at.number ∙ ap (λ n. n + 1) (sym l.sender);
  setting = subst (λ n. place.queue.constants.setting ≡ record { main = true; lockstep = true; senders = n + 2 }) (sym l.sender) at.setting;
  pass = pass;
  home = at.home;
  same = same;
  whole = c.sealed ∙ at.whole;
}

one_of_all : (threads k : ℕ) → k < threads + 2 → (k < threads) ⊎ (k ≡ threads) ⊎ (k ≡ threads + 1)
one_of_all threads k lt = dite (dec_lt k threads) (λ below. inl below) (λ not. dite (ℕ_discrete k threads) (λ is. inr (inl is)) (λ apart. inr (inr (let e : k ≡ threads + 1 = omega arith in e))))

one_of_both : (threads k : ℕ) → k < threads + 2 → (k < threads) ⊎ (k ≡ threads + 1) ⊎ (k ≡ threads)
one_of_both threads k lt = dite (dec_lt k threads) (λ below. inl below) (λ not. dite (ℕ_discrete k threads) (λ is. inr (inr is)) (λ apart. inr (inl (let e : k ≡ threads + 1 = omega arith in e))))

-- ---- the looper's call

-- what the looper's call and the hearing leave
pub record LooperCalls (place : Place) (h h1 h2 : Hands) : Type 0 where
  pub at : HandsAreAt place h
  pub kept : (h1.controller ≡ h.controller) × (h1.pass.home ≡ place.pool)
  pub same : AreSameHands h1 h2
  pub heard : IsPrefix h1.controller.view.seen (seen h1) → (seen h2 ≡ seen h1) × (h2.controller.view.seen ≡ seen h1)

module _ (place : Place) (h h1 h2 : Hands) (k : LooperCalls place h h1 h2) (x y : State) (turn : IsTurn h.looper h1.looper x y) where
  looper_up : IsPrefix h1.controller.view.seen (seen h1)
  looper_up = subst (λ (z : List Entry × List Entry). IsPrefix z.0 z.1) (λ i. ((sym k.at.same ∙ ap (λ (c : Sender). c.view.seen) (sym k.kept.0)) i, sym turn.seen i)) (goes_on_turn h.looper h1.looper x y turn)

  looper_pair : Pair (threads_of h) h.looper h1.looper h.controller h2.controller
  looper_pair = record {
    key = place.queue.constants;
    setting = k.at.setting;
    own = k.at.looper.1;
    same = k.at.same;
    heard = (k.heard looper_up).1;
    kept = subst (λ c. IsSamePoster c h2.controller) k.kept.0 k.same.1;
    who = λ n lt. ⊎_elim (λ a. inl a) (λ b. inr (⊎_elim (λ c. inl c) (λ d. inr (d ∙ sym k.at.number)) b)) (one_of_all (threads_of h) n lt);
  }

  pub looper_at : HandsAreAt place h2 × (threads_of h2 ≡ threads_of h)
  looper_at =
      let l = kept_then h.looper h1.looper h2.looper (kept_turn h.looper h1.looper x y turn) (kept_same h1.looper h2.looper k.same.0) in
      let c = kept_same h.controller h2.controller (subst (λ c. IsSamePoster c h2.controller) k.kept.0 k.same.1) in
      let u = k.heard looper_up in
      (at_kept place h h2 k.at l c (ap (λ p. p.home) k.same.2 ∙ k.kept.1) (u.1 ∙ sym u.0), l.sender)

  pub looper_led : (R : List Entry → List Entry → Type 0) → Led (threads_of h) R (seen h) (seen h1) → Led (threads_of h) R (seen h) (seen h2)
  looper_led R = subst (Led (threads_of h) R (seen h)) (sym (k.heard looper_up).0)

-- the states of a look
turn_of_look : (a b : Sender) (look : Look) → LookedBy a b look → (x : State) × (y : State) × IsTurn a b x y
turn_of_look a b Taken h = (h.3.0, h.3.1, h.3.2)
turn_of_look a b (Waits until) h = (h.0, h.1, h.2)
turn_of_look a b Other (inl h) = (h.0, h.1, h.2)
turn_of_look a b Other (inr (inl h)) = (h.1.0, h.1.1, h.1.2)
turn_of_look a b Other (inr (inr h)) = (h.0, h.1, h.2)

pub look_done : (place : Place) (h h1 h2 : Hands) (look : Look) → LooperCalls place h h1 h2 → LookedBy h.looper h1.looper look
    → (HandsAreAt place h2 × (threads_of h2 ≡ threads_of h)) × Led (threads_of h) (LooksOn (threads_of h) look) (seen h) (seen h2)
look_done place h h1 h2 look k done =
    let t = turn_of_look h.looper h1.looper look done in (
      looper_at place h h1 h2 k t.0 t.1 t.2,
      looper_led place h h1 h2 k t.0 t.1 t.2 (LooksOn (threads_of h) look) (looked (threads_of h) h.looper h1.looper h.controller h2.controller (looper_pair place h h1 h2 k t.0 t.1 t.2) look done),
    )

turn_of_post : (post : PostData) (a b : Sender) → PostsBy post a b → (x : State) × (y : State) × IsTurn a b x y
turn_of_post post a b h = ⊎_elim (λ p. (p.2.0, p.2.1, p.2.2)) (λ p. (p.1.0, p.1.1, p.1.2)) h.2

pub post_done : (place : Place) (h h1 h2 : Hands) (post : PostData) → LooperCalls place h h1 h2 → PostsBy post h.looper h1.looper
    → (HandsAreAt place h2 × (threads_of h2 ≡ threads_of h)) × Led (threads_of h) (GrowsByEntry (threads_of h) (IsPostOf post)) (seen h) (seen h2)
post_done place h h1 h2 post k done =
    let t = turn_of_post post h.looper h1.looper done in (
      looper_at place h h1 h2 k t.0 t.1 t.2,
      looper_led place h h1 h2 k t.0 t.1 t.2 (GrowsByEntry (threads_of h) (IsPostOf post)) (posted_one (threads_of h) h.looper h1.looper h.controller h2.controller (looper_pair place h h1 h2 k t.0 t.1 t.2) post done),
    )

-- ---- the controller's call

pub record ControllerCalls (place : Place) (h h1 h2 : Hands) : Type 0 where
  pub at : HandsAreAt place h
  pub kept : (h1.looper ≡ h.looper) × (h1.pass ≡ h.pass)
  pub same : AreSameHands h1 h2
  pub heard : IsPrefix (seen h1) h1.controller.view.seen → (seen h2 ≡ h1.controller.view.seen) × (h2.controller.view.seen ≡ h1.controller.view.seen)

module _ (place : Place) (h h1 h2 : Hands) (k : ControllerCalls place h h1 h2) (x y : State) (turn : IsTurn h.controller h1.controller x y) where
  controller_up : IsPrefix (seen h1) h1.controller.view.seen
  controller_up = subst (λ (z : List Entry × List Entry). IsPrefix z.0 z.1) (λ i. ((k.at.same ∙ ap (λ (c : Sender). c.view.seen) (sym k.kept.0)) i, sym turn.seen i)) (goes_on_turn h.controller h1.controller x y turn)

  controller_pair : Pair (threads_of h) h.controller h1.controller h.looper h2.looper
  controller_pair = record {
    key = place.queue.constants;
    setting = k.at.setting;
    own = k.at.controller.1;
    same = sym k.at.same;
    heard = (k.heard controller_up).0;
    kept = subst (λ c. IsSamePoster c h2.looper) k.kept.0 k.same.0;
    who = λ n lt. ⊎_elim (λ a. inl a) (λ b. inr (⊎_elim (λ c. inl (c ∙ sym k.at.number)) (λ d. inr d) b)) (one_of_both (threads_of h) n lt);
  }

  pub controller_at : HandsAreAt place h2 × (threads_of h2 ≡ threads_of h)
  controller_at =
      let l = kept_same h.looper h2.looper (subst (λ c. IsSamePoster c h2.looper) k.kept.0 k.same.0) in
      let c = kept_then h.controller h1.controller h2.controller (kept_turn h.controller h1.controller x y turn) (kept_same h1.controller h2.controller k.same.1) in
      let u = k.heard controller_up in
      (at_kept place h h2 k.at l c (ap (λ p. p.home) (k.same.2 ∙ k.kept.1) ∙ k.at.pass) (u.1 ∙ sym u.0), l.sender)

  pub controller_led : (R : List Entry → List Entry → Type 0) → (AreSilent (threads_of h) h1.controller.view.seen → AreSilent (threads_of h) h.controller.view.seen × R h.controller.view.seen h1.controller.view.seen) → Led (threads_of h) R (seen h) (seen h2)
  controller_led R led = subst (λ (z : List Entry × List Entry). Led (threads_of h) R z.0 z.1) (λ i. (k.at.same i, sym (k.heard controller_up).0 i)) led

turn_of_move : (a b : Sender) (time : ℕ) (move : Move) → MovedBy a b time move → (x : State) × (y : State) × IsTurn a b x y
turn_of_move a b time There (inl h) = (h.0, h.1, h.2)
turn_of_move a b time There (inr h) = (h.1.0, h.1.1, h.1.2)
turn_of_move a b time Stays (inl h) = (h.0, h.1, h.2)
turn_of_move a b time Stays (inr h) = (h.1.0, h.1.1, h.1.2)
turn_of_move a b time NoMemory h = (h.0, h.1, h.2)

pub move_done : (place : Place) (h h1 h2 : Hands) (time : ℕ) (move : Move) → ControllerCalls place h h1 h2 → MovedBy h.controller h1.controller time move
    → (HandsAreAt place h2 × (threads_of h2 ≡ threads_of h)) × Led (threads_of h) (MovesTime (threads_of h) time move) (seen h) (seen h2)
move_done place h h1 h2 time move k done =
    let t = turn_of_move h.controller h1.controller time move done in (
      controller_at place h h1 h2 k t.0 t.1 t.2,
      controller_led place h h1 h2 k t.0 t.1 t.2 (MovesTime (threads_of h) time move) (moved (threads_of h) h.controller h1.controller h.looper h2.looper (controller_pair place h h1 h2 k t.0 t.1 t.2) k.at.number time move done),
    )

pub halt_done : (place : Place) (h h1 h2 : Hands) (time : ℕ) → ControllerCalls place h h1 h2 → HaltedBy h.controller h1.controller time halting.Halted
    → (HandsAreAt place h2 × (threads_of h2 ≡ threads_of h)) × Led (threads_of h) (λ past now. GrowsByEntry (threads_of h + 1) (IsHaltAt (time_after past)) past now) (seen h) (seen h2)
halt_done place h h1 h2 time k done = (
  controller_at place h h1 h2 k done.0 done.1 done.2,
  controller_led place h h1 h2 k done.0 done.1 done.2 (λ past now. GrowsByEntry (threads_of h + 1) (IsHaltAt (time_after past)) past now)
      (halted (threads_of h) h.controller h1.controller h.looper h2.looper (controller_pair place h h1 h2 k done.0 done.1 done.2) k.at.number time done),
)

pub halt_over : (place : Place) (h h1 h2 : Hands) (time : ℕ) → ControllerCalls place h h1 h2 → HaltedBy h.controller h1.controller time halting.Over
    → (HandsAreAt place h2 × (threads_of h2 ≡ threads_of h)) × Led (threads_of h) (λ past now. now ≡ past) (seen h) (seen h2)
halt_over place h h1 h2 time k done = (
  controller_at place h h1 h2 k done.0 done.1 done.2,
  controller_led place h h1 h2 k done.0 done.1 done.2 (λ past now. now ≡ past)
      (not_halted_over (threads_of h) h.controller h1.controller h.looper h2.looper (controller_pair place h h1 h2 k done.0 done.1 done.2) time done),
)

pub halt_due : (place : Place) (h h1 h2 : Hands) (time n : ℕ) → ControllerCalls place h h1 h2 → HaltedBy h.controller h1.controller time (halting.NotDrained n)
    → (HandsAreAt place h2 × (threads_of h2 ≡ threads_of h)) × Led (threads_of h) (λ past now. now ≡ past) (seen h) (seen h2)
halt_due place h h1 h2 time n k done = (
  controller_at place h h1 h2 k done.0 done.1 done.2,
  controller_led place h h1 h2 k done.0 done.1 done.2 (λ past now. now ≡ past)
      (not_halted_due (threads_of h) h.controller h1.controller h.looper h2.looper (controller_pair place h h1 h2 k done.0 done.1 done.2) time n done),
)
