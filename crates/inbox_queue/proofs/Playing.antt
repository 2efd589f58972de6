-- How a run of entries goes on, from block to block.
use Rattle.std.proofs.Common.{◌≡◌, ◌≢◌, ◌<◌, ◌≤◌, ◌+◌, ◌⊎◌, inl, inr, ℕ, Bool, true, false, List, [], ◌∷◌, ◌++◌, length, refl, sym, ap, ◌∙◌, subst, arith, append_assoc, Option, Some, None, max, take, get_or, zero, suc, drop}
use Rattle.std.specs.Prelude.{◌==◌, ◌&&◌, ◌||◌, not, is_some, if◌then◌else◌, option_map, min, nat_le, nat_lt}
use Rattle.std.specs.List.{AllByRecursion, list_any, list_all}
use Rattle.std.proofs.lemmas.Bool.{and_from, or_cases, or_left, or_right, eq-eqb, ne_eqb, le-leb, and_parts, leb-true, ltb-true}
use Rattle.std.proofs.lemmas.List.{append-nil, take_more, take_all, drop_all}
use Rattle.std.proofs.lemmas.List.Folds.{list_any-append, list_any_at}
use Rattle.std.proofs.lemmas.List.Sums.{fold-append}
use mathlib.Core.Logic.{dite}
use native.Mathlib.Decide.{dec_lt}
use Rattle.loop_model.specs.declared.post.Post.{Post as PostData}
use Rattle.loop_model.specs.declared.call.Call.{Call}
use Rattle.loop_model.specs.declared.call.Call.TheVariants.{Post, Advance, Halt}
use Rattle.loop_model.specs.declared.reply.Reply.TheVariants.{Halted}
use Rattle.loop_model.specs.declared.item.Item.{Item}
use Rattle.loop_model.specs.declared.entry.Entry.{Entry}
use Rattle.loop_model.specs.Base.{empty_base}
use Rattle.loop_model.specs.Items.{when_of}
use Rattle.loop_model.specs.Entries.{moment_of, is_halted}
use Rattle.loop_model.specs.Answers.{quit_place, clock}
use Rattle.loop_model.specs.Pick.{first_eligible}
use Rattle.loop_model.proofs.AfterLaws.{clock-snoc}
use Rattle.run_model.specs.Planned.{entries_by}
use Rattle.dash_script.specs.declared.script.Script.{Script}
use Rattle.run_model.specs.Control.{is_planned_time, is_advance, is_halt, are_controls, is_controlled, is_none_before, is_call_in_time, is_called_in_time, ends_halted, is_fresh, is_reached, AreReached}
use Rattle.run_model.specs.Parts.{is_quit_by_others, comes_in_time}
use Rattle.run_model.proofs.ControlLaws.{are_advances, are_controls-last, each_behind-snoc}
use Rattle.run_model.proofs.RunLaws.{entries_by-own, entries_by-unchanged}
use Rattle.inbox_queue.specs.declared.parcel.Parcel.{Parcel}
use Rattle.inbox_queue.specs.declared.main_queue.Look.{Look}
use Rattle.inbox_queue.specs.declared.main_queue.Look.TheVariants.{Taken, Waits, Other}
use Rattle.inbox_queue.specs.declared.main_queue.Move.{Move}
use Rattle.inbox_queue.specs.declared.main_queue.Move.TheVariants.{There, Stays, NoMemory}
use Rattle.inbox_queue.specs.InboxRun.{unslotted, IsPostOrLook, post_at_time, posts_after, posts_made, posts_at, is_post, is_posting, post_comes_first, is_due_at, moves_as_planned, posts_admitted, IsOfBlock, AreOfBlocks}
use Rattle.run_model.proofs.FreshLaws.{fresh_moved, fresh_called, reached_on, reached_by_last, nothing_fresh, start_reached, one_reached}
use Rattle.inbox_queue.specs.MainQueue.{AreSilent, time_after, GrowsByEntry, IsLookEntry, IsMoveTo, IsHaltAt, IsPostOf, LooksOn, MovesTime, Goes, WaitsForFirst, LookedAlone, HasDrained, HasDriven, IsStillBefore, HasMoved, HasPosted, MainHasEnded, HasHalted, KeepsReached, IsEarlier}
use Rattle.std.proofs.Math.Seq.{drop-cons}
use Rattle.dash_script.specs.declared.script.Block.{Block}
use Rattle.dash_script.specs.Reading.{HasText, times_rise}
use Rattle.inbox_queue.specs.Opened.{IsInboxPlayed}

-- ==== what each entry of the looper and of the controller keeps, and how a run of them goes on

-- ---- one entry more

all_more : {X : Type 0} (P : X → Type 0) (xs : List X) (x : X) → AllByRecursion P xs → P x → AllByRecursion P (xs ++ x ∷ [])
all_more P [] x h one = (one, tt)
all_more P (y ∷ ys) x h one = (h.0, all_more P ys x h.1 one)

own : (k : ℕ) (e : Entry) → e.sender ≡ k → (e.sender == k) ≡ true
own k e is = eq-eqb e.sender k is

other : (n k : ℕ) (e : Entry) → e.sender ≡ n → n ≢ k → (e.sender == k) ≡ false
other n k e is apart = ne_eqb e.sender k (λ at. apart (sym is ∙ at))

apart_up : (n : ℕ) → n ≢ n + 1
apart_up n e = absurd (omega (arith, e))

apart_down : (n : ℕ) → n + 1 ≢ n
apart_down n e = absurd (omega (arith, e))

-- the posts of a sender with one entry more
posts_after-snoc : (k : ℕ) (past es : List Entry) (e : Entry) → posts_after k past (es ++ e ∷ []) ≡ posts_after k past es ++ (if e.sender == k then post_at_time (time_after (past ++ es)) e.call else [])
posts_after-snoc k past [] e =
    append-nil (if e.sender == k then post_at_time (time_after past) e.call else []) ∙ ap (λ l. if e.sender == k then post_at_time (time_after l) e.call else []) (sym (append-nil past))
posts_after-snoc k past (f ∷ es) e =
    let first : List (ℕ × PostData) = if f.sender == k then post_at_time (time_after past) f.call else [] in
    ap (λ l. first ++ l) (posts_after-snoc k (past ++ f ∷ []) es e ∙ ap (λ l. posts_after k (past ++ f ∷ []) es ++ (if e.sender == k then post_at_time (time_after l) e.call else [])) (append_assoc past (f ∷ []) es))
    ∙ sym (append_assoc first (posts_after k (past ++ f ∷ []) es) (if e.sender == k then post_at_time (time_after (past ++ f ∷ es)) e.call else []))

posts_own : (k : ℕ) (es : List Entry) (e : Entry) → e.sender ≡ k → posts_made k (es ++ e ∷ []) ≡ posts_made k es ++ post_at_time (time_after es) e.call
posts_own k es e is = posts_after-snoc k [] es e ∙ ap (λ b. posts_made k es ++ (if b then post_at_time (time_after es) e.call else [])) (own k e is)

posts_other : (n k : ℕ) (es : List Entry) (e : Entry) → e.sender ≡ n → n ≢ k → posts_made k (es ++ e ∷ []) ≡ posts_made k es
posts_other n k es e is apart = posts_after-snoc k [] es e ∙ ap (λ b. posts_made k es ++ (if b then post_at_time (time_after es) e.call else [])) (other n k e is apart) ∙ append-nil (posts_made k es)

time_more : (es : List Entry) (e : Entry) → time_after (es ++ e ∷ []) ≡ max (time_after es) (moment_of e.call)
time_more es e = clock-snoc (empty_base 0) es e

fresh_moved_to : (es : List Entry) (e : Entry) (time : ℕ) → e.call ≡ Advance time → is_fresh is_posting (es ++ e ∷ []) ≡ true
fresh_moved_to es e time call = fresh_moved is_posting es e (ap is_advance call)

fresh_posted : (es : List Entry) (e : Entry) (p : PostData) → e.call ≡ Post p → is_fresh is_posting es ≡ true → is_fresh is_posting (es ++ e ∷ []) ≡ true
fresh_posted es e p call fresh = fresh_called is_posting es e (ap is_post call) fresh

-- a time that was reached stays so
reached_more : (es : List Entry) (e : Entry) → KeepsReached es (es ++ e ∷ [])
reached_more es e time h = reached_on time es (e ∷ []) h

-- the time to which the last entry moved
reached_by_call : (time : ℕ) (es : List Entry) (e : Entry) → e.call ≡ Advance time → is_reached time (es ++ e ∷ []) ≡ true
reached_by_call time es e call = subst (λ (t : ℕ). is_reached t (es ++ e ∷ []) ≡ true) (ap moment_of call) (reached_by_last es e (ap is_advance call))

-- an entry of the looper, which posts only where nothing else has come since the time was moved
goes_own : (threads : ℕ) (s : Script) (es : List Entry) (e : Entry) → e.sender ≡ threads → IsPostOrLook e.call → post_comes_first es e ≡ true → is_advance e.call ≡ false → Goes threads s es → Goes threads s (es ++ e ∷ [])
unfolding is_called_in_time
goes_own threads s es e is one first no_move h = record {
  looks = subst (AllByRecursion (λ (f : Entry). IsPostOrLook f.call)) (sym (entries_by-own threads es e (own threads e is))) (all_more (λ (f : Entry). IsPostOrLook f.call) (entries_by threads es) e h.looks one);
  moves = subst (AllByRecursion (λ (f : Entry). (is_advance f.call ≡ true) × (moment_of f.call ≤ s.end))) (sym (entries_by-unchanged (threads + 1) es (e ∷ []) (not_mine, tt))) h.moves;
  timely = each_behind-snoc (comes_in_time (threads + 1)) [] es e h.timely (or_left _ _ (ap not not_mine));
  first = each_behind-snoc post_comes_first [] es e h.first first;
  planned = each_behind-snoc (moves_as_planned s) [] es e h.planned (or_left _ _ (ap not no_move));
}
  where
    not_mine : (e.sender == threads + 1) ≡ false
    not_mine = other threads (threads + 1) e is (apart_up threads)

-- a move of the time
goes_move : (threads time : ℕ) (s : Script) (es : List Entry) (e : Entry) → e.sender ≡ threads + 1 → e.call ≡ Advance time → time ≤ s.end → is_none_before time (first_eligible (empty_base 0) es) ≡ true → quit_place (empty_base 0) es ≡ None
    → (is_planned_time s time || is_due_at time (first_eligible (empty_base 0) es)) ≡ true → Goes threads s es → Goes threads s (es ++ e ∷ [])
unfolding is_called_in_time
goes_move threads time s es e is call within none quiet planned h = record {
  looks = subst (AllByRecursion (λ (f : Entry). IsPostOrLook f.call)) (sym (entries_by-unchanged threads es (e ∷ []) (other (threads + 1) threads e is (apart_down threads), tt))) h.looks;
  moves = subst (AllByRecursion (λ (f : Entry). (is_advance f.call ≡ true) × (moment_of f.call ≤ s.end))) (sym (entries_by-own (threads + 1) es e (own (threads + 1) e is)))
      (all_more (λ (f : Entry). (is_advance f.call ≡ true) × (moment_of f.call ≤ s.end)) (entries_by (threads + 1) es) e h.moves (subst (λ (c : Call). (is_advance c ≡ true) × (moment_of c ≤ s.end)) (sym call) (refl, within)));
  timely = each_behind-snoc (comes_in_time (threads + 1)) [] es e h.timely (or_right _ _ (subst (λ (c : Call). is_call_in_time es c e.reply ≡ true) (sym call) (and_from _ _ none (ap (λ o. not (is_some o)) quiet))));
  first = each_behind-snoc post_comes_first [] es e h.first (or_left _ _ (ap (λ (c : Call). not (is_post c)) call));
  planned = each_behind-snoc (moves_as_planned s) [] es e h.planned
      (or_right _ _ (subst (λ (c : Call). (is_planned_time s (moment_of c) || is_due_at (moment_of c) (first_eligible (empty_base 0) es)) ≡ true) (sym call) planned));
}

-- the halt
advances : (end : ℕ) (es : List Entry) → AllByRecursion (λ (f : Entry). (is_advance f.call ≡ true) × (moment_of f.call ≤ end)) es → are_advances true end es ≡ true
advances end [] h = refl
advances end (e ∷ es) h = and_from _ _ h.0.0 (and_from _ _ (and_from _ _ refl (le-leb (moment_of e.call) end h.0.1)) (advances end es h.1))

ends_halted-snoc : (es : List Entry) (e : Entry) → ends_halted (es ++ e ∷ []) ≡ is_halted e.reply
ends_halted-snoc [] e = refl
ends_halted-snoc (f ∷ []) e = refl
ends_halted-snoc (f ∷ g ∷ es) e = ends_halted-snoc (g ∷ es) e

ends : (threads : ℕ) (s : Script) (es : List Entry) (e : Entry) → e.sender ≡ threads + 1 → e.call ≡ Halt s.end → e.reply ≡ Halted → Goes threads s es → MainHasEnded threads s (es ++ e ∷ [])
unfolding is_called_in_time is_controlled
ends threads s es e is call reply h = record {
  looks = subst (AllByRecursion (λ (f : Entry). IsPostOrLook f.call)) (sym (entries_by-unchanged threads es (e ∷ []) (other (threads + 1) threads e is (apart_down threads), tt))) h.looks;
  controlled = and_from _ _ (ap (are_controls true true s.end (is_quit_by_others (threads + 1) (es ++ e ∷ []))) (entries_by-own (threads + 1) es e (own (threads + 1) e is))
      ∙ are_controls-last true true s.end (is_quit_by_others (threads + 1) (es ++ e ∷ [])) (entries_by (threads + 1) es) e (advances s.end (entries_by (threads + 1) es) h.moves) (ap is_advance call)
      (subst (λ (z : Call × (Bool)). ((is_halt z.0 && z.1) && (moment_of z.0 == s.end)) ≡ true) (λ i. (sym call i, sym (ap is_halted reply) i)) (and_from _ _ refl (eq-eqb s.end s.end refl)))) refl;
  timely = each_behind-snoc (comes_in_time (threads + 1)) [] es e h.timely (or_right _ _ (subst (λ (c : Call). is_call_in_time es c e.reply ≡ true) (sym call) refl));
  first = each_behind-snoc post_comes_first [] es e h.first (or_left _ _ (ap (λ (c : Call). not (is_post c)) call));
  planned = each_behind-snoc (moves_as_planned s) [] es e h.planned (or_left _ _ (ap (λ (c : Call). not (is_advance c)) call));
  halted = ends_halted-snoc es e ∙ ap is_halted reply;
}

-- ---- a look

same_time : (t : ℕ) → max t t ≡ t
same_time t = omega arith

looked_one : (threads : ℕ) (past now : List Entry) → GrowsByEntry threads (IsLookEntry (time_after past)) past now → LookedAlone threads past now
looked_one threads past now g = subst (LookedAlone threads past) (sym g.1) (record {
  goes = λ s h. goes_own threads s past g.0 g.2 (subst IsPostOrLook (sym g.3) tt) (or_left _ _ (ap (λ (c : Call). not (is_post c)) g.3)) (ap is_advance g.3) h;
  posts = posts_own threads past g.0 g.2 ∙ ap (λ (c : Call). posts_made threads past ++ post_at_time (time_after past) c) g.3 ∙ append-nil (posts_made threads past);
  time = time_more past g.0 ∙ ap (λ (c : Call). max (time_after past) (moment_of c)) g.3 ∙ same_time (time_after past);
  kept = reached_more past g.0;
})

looked_none : (threads : ℕ) (past : List Entry) → LookedAlone threads past past
looked_none threads past = record { goes = λ s h. h; posts = refl; time = refl; kept = λ t h. h }

looked_then : (threads : ℕ) (a b c : List Entry) → LookedAlone threads a b → LookedAlone threads b c → LookedAlone threads a c
looked_then threads a b c p q = record { goes = λ s h. q.goes s (p.goes s h); posts = q.posts ∙ p.posts; time = q.time ∙ p.time; kept = λ t h. q.kept t (p.kept t h) }

looked_by : (threads : ℕ) (look : Look) (past now : List Entry) → LooksOn threads look past now → LookedAlone threads past now
looked_by threads Taken past now g = looked_one threads past now g
looked_by threads (Waits until) past now g = subst (LookedAlone threads past) (sym g.0) (looked_none threads past)
looked_by threads Other past now (inl is) = subst (LookedAlone threads past) (sym is) (looked_none threads past)
looked_by threads Other past now (inr g) = looked_one threads past now g

-- what holds of two histories where no thread has an entry, for so many threads
abbrev pub Led : ℕ → (List Entry → List Entry → Type 0) → List Entry → List Entry → Type 0
Led threads R past now = AreSilent threads now → AreSilent threads past × R past now

pub led_then : (n m : ℕ) (R S T : List Entry → List Entry → Type 0) (a b c : List Entry) → m ≡ n → (R a b → S b c → T a c) → Led n R a b → Led m S b c → Led n T a c
led_then n m R S T a b c is step p q silent =
    let q' = q (subst (λ k. AreSilent k c) (sym is) silent) in
    let p' = p (subst (λ k. AreSilent k b) is q'.0) in (p'.0, step p'.1 q'.1)

pub led_none : (threads : ℕ) (a : List Entry) → Led threads (LookedAlone threads) a a
led_none threads a silent = (silent, looked_none threads a)

pub look_more : (n m : ℕ) (look : Look) (a b c : List Entry) → m ≡ n → Led n (LookedAlone n) a b → Led m (LooksOn m look) b c → Led n (LookedAlone n) a c
look_more n m look a b c is p q = led_then n m (LookedAlone n) (LooksOn m look) (LookedAlone n) a b c is (λ x y. looked_then n a b c x (looked_by n look b c (subst (λ k. LooksOn k look b c) is y))) p q

pub look_last : (n m : ℕ) (until : Option ℕ) (a b c : List Entry) → m ≡ n → Led n (LookedAlone n) a b → Led m (LooksOn m (Waits until)) b c → Led n (HasDrained n until) a c
look_last n m until a b c is p q = led_then n m (LookedAlone n) (LooksOn m (Waits until)) (HasDrained n until) a b c is
    (λ x y. (subst (LookedAlone n a) (sym y.0) x, (subst (λ es. until ≡ option_map when_of (first_eligible (empty_base 0) es)) (sym y.0) y.1, subst (λ es. quit_place (empty_base 0) es ≡ None) (sym y.0) y.2))) p q

-- ---- a move

-- a time no later than what the looper waits for passes no message
none_passed : (until : Option ℕ) (first : Option Item) (limit time : ℕ) → until ≡ option_map when_of first → IsEarlier until limit time → is_none_before time first ≡ true
none_passed until None limit time is early = refl
none_passed None (Some x) limit time is early = absurd (let wrong : None ≡ Some (when_of x) = is in cc wrong)
none_passed (Some u) (Some x) limit time is early =
    let same : u ≡ when_of x = (let e : Some u ≡ Some (when_of x) = is in cc e) in
    le-leb time (when_of x) (let r : time ≤ when_of x = omega (arith, same, early) in r)

earlier_within : (until : Option ℕ) (limit time : ℕ) → IsEarlier until limit time → time ≤ limit
earlier_within None limit time is = omega (arith, is)
earlier_within (Some u) limit time is = omega (arith, is)

-- it is the limit, or the first message that may be dispatched is due then
earlier_planned : (s : Script) (until : Option ℕ) (first : Option Item) (limit time : ℕ) → until ≡ option_map when_of first → IsEarlier until limit time → is_planned_time s limit ≡ true → (is_planned_time s time || is_due_at time first) ≡ true
earlier_planned s None first limit time is early planned = or_left _ _ (ap (is_planned_time s) early ∙ planned)
earlier_planned s (Some u) None limit time is early planned = absurd (let wrong : Some u ≡ None = is in cc wrong)
earlier_planned s (Some u) (Some x) limit time is early planned =
    let same : u ≡ when_of x = (let e : Some u ≡ Some (when_of x) = is in cc e) in
    elim (one_of u limit) [
      | inl at ↦ or_right _ _ (eq-eqb (when_of x) time (sym same ∙ sym at ∙ sym early))
      | inr at ↦ or_left _ _ (ap (is_planned_time s) (early ∙ at) ∙ planned)
    ]
  where
    one_of : (a b : ℕ) → (min a b ≡ a) ⊎ (min a b ≡ b)
    one_of a b = dite (dec_lt a b) (λ lt. inl (let r : min a b ≡ a = omega (arith, lt) in r)) (λ no_less. inr (let r : min a b ≡ b = omega arith in r))

driven_none : (threads time : ℕ) (a : List Entry) → HasDriven threads time a a
driven_none threads time a = record { goes = λ s le planned h. h; posts = refl; within = λ h. h; kept = λ t h. h }

driven_then : (threads time : ℕ) (a b c : List Entry) → HasDriven threads time a b → HasDriven threads time b c → HasDriven threads time a c
driven_then threads time a b c p q = record { goes = λ s le planned h. q.goes s le planned (p.goes s le planned h); posts = q.posts ∙ p.posts; within = λ h. q.within (p.within h); kept = λ t h. q.kept t (p.kept t h) }

driven_looked : (threads time : ℕ) (a b : List Entry) → LookedAlone threads a b → HasDriven threads time a b
driven_looked threads time a b p = record { goes = λ s le planned h. p.goes s h; posts = p.posts; within = λ h. subst (λ t. t ≤ time) (sym p.time) h; kept = p.kept }

driven_moved : (threads limit time : ℕ) (until : Option ℕ) (past now : List Entry) → IsEarlier until limit time → WaitsForFirst until past → GrowsByEntry (threads + 1) (IsMoveTo time) past now → HasDriven threads limit past now
driven_moved threads limit time until past now early waits g = subst (HasDriven threads limit past) (sym g.1) (record {
  goes = λ s le planned h. goes_move threads time s past g.0 g.2 g.3.0 (let w = earlier_within until limit time early in let r : time ≤ s.end = omega (arith, w, le) in r)
      (none_passed until (first_eligible (empty_base 0) past) limit time waits.0 early) waits.1 (earlier_planned s until (first_eligible (empty_base 0) past) limit time waits.0 early planned) h;
  posts = posts_other (threads + 1) threads past g.0 g.2 (apart_down threads);
  within = λ h. let w = earlier_within until limit time early in
      let t : time_after (past ++ g.0 ∷ []) ≡ max (time_after past) time = time_more past g.0 ∙ ap (λ (c : Call). max (time_after past) (moment_of c)) g.3.0 in
      let r : time_after (past ++ g.0 ∷ []) ≤ limit = omega (arith, w, t, h) in r;
  kept = reached_more past g.0;
})

-- the move's answer, after the looper has drained
pub move_by : (threads limit time : ℕ) (until : Option ℕ) (move : Move) (a b c : List Entry) → IsEarlier until limit time → HasDrained threads until a b → MovesTime threads time move b c → HasDriven threads limit a c
move_by threads limit time until There a b c early p (inl q) = subst (HasDriven threads limit a) (sym q.0) (driven_looked threads limit a b p.0)
move_by threads limit time until There a b c early p (inr q) = driven_then threads limit a b c (driven_looked threads limit a b p.0) (driven_moved threads limit time until b c early p.1 q.0)
move_by threads limit time until Stays a b c early p q = subst (HasDriven threads limit a) (sym q) (driven_looked threads limit a b p.0)
move_by threads limit time until NoMemory a b c early p q = subst (HasDriven threads limit a) (sym q) (driven_looked threads limit a b p.0)

-- where the move went to this time, it was reached
reached : (threads time : ℕ) (b c : List Entry) → MovesTime threads time There b c → time ≤ time_after c
reached threads time b c (inl q) = subst (λ es. time ≤ time_after es) (sym q.0) q.1
reached threads time b c (inr q) = let g = q.0 in
    let t : time_after c ≡ max (time_after b) time = ap time_after g.1 ∙ time_more b g.0 ∙ ap (λ (x : Call). max (time_after b) (moment_of x)) g.3.0 in let r : time ≤ time_after c = omega (arith, t) in r

-- a move no further than before a time leaves the time before that
still_before : (threads limit time : ℕ) (move : Move) (c d : List Entry) → time < limit → MovesTime threads time move c d → time_after c < limit → time_after d < limit
still_before threads limit time There c d lt (inl q) h = subst (λ es. time_after es < limit) (sym q.0) h
still_before threads limit time There c d lt (inr q) h = let g = q.0 in
    let t : time_after d ≡ max (time_after c) time = ap time_after g.1 ∙ time_more c g.0 ∙ ap (λ (x : Call). max (time_after c) (moment_of x)) g.3.0 in let r : time_after d < limit = omega (arith, t, lt, h) in r
still_before threads limit time Stays c d lt q h = subst (λ es. time_after es < limit) (sym q) h
still_before threads limit time NoMemory c d lt q h = subst (λ es. time_after es < limit) (sym q) h

-- where the time was before the one that it went to, the move was the last that came
moved_fresh : (threads time : ℕ) (c d : List Entry) → MovesTime threads time There c d → time_after c < time → is_fresh is_posting d ≡ true
moved_fresh threads time c d (inl q) h = absurd (let le = q.1 in let wrong : ⊥ = omega (arith, le, h) in wrong)
moved_fresh threads time c d (inr q) h = let g = q.0 in ap (is_fresh is_posting) g.1 ∙ fresh_moved_to c g.0 time g.3.0

-- and the time that it went to was reached by it
moved_to : (threads time : ℕ) (c d : List Entry) → MovesTime threads time There c d → time_after c < time → is_reached time d ≡ true
moved_to threads time c d (inl q) h = absurd (let le = q.1 in let wrong : ⊥ = omega (arith, le, h) in wrong)
moved_to threads time c d (inr q) h = let g = q.0 in ap (is_reached time) g.1 ∙ reached_by_call time c g.0 g.3.0

pub drive_none : (threads time : ℕ) (a : List Entry) → Led threads (IsStillBefore threads time) a a
drive_none threads time a silent = (silent, (driven_none threads time a, λ h. h))

-- for the time 0 nothing is to be done
pub drive_start : (n limit : ℕ) (a d : List Entry) → limit ≡ 0 → d ≡ a → Led n (HasMoved n limit) a d
drive_start n limit a d start is silent = subst (λ l. AreSilent n l × HasMoved n limit l d) is (
  silent,
  record {
    driven = driven_none n limit d;
    least = let r : limit ≤ time_after d = omega (arith, start) in r;
    fresh = λ h. absurd (let wrong : ⊥ = omega (arith, start, h) in wrong);
    reached = λ h. absurd (let wrong : ⊥ = omega (arith, start, h) in wrong);
    start = λ zero. refl;
  },
)

-- one turn of the loop: drained, and moved or not
driven_more : (n m k limit time : ℕ) (until : Option ℕ) (move : Move) (a b c d : List Entry) → m ≡ n → k ≡ n → IsEarlier until limit time → Led n (IsStillBefore n limit) a b → Led m (HasDrained m until) b c → Led k (MovesTime k time move) c d
    → AreSilent n d → AreSilent n a × HasDriven n limit a d × (time_after a < limit → time_after c < limit) × MovesTime n time move c d
driven_more n m k limit time until move a b c d is is' early p q r silent =
    let r' = r (subst (λ t. AreSilent t d) (sym is') silent) in
    let q' = q (subst (λ t. AreSilent t c) (is' ∙ sym is) r'.0) in
    let p' = p (subst (λ t. AreSilent t b) is q'.0) in (
      p'.0,
      driven_then n limit a b d p'.1.0 (move_by n limit time until move b c d early (subst (λ t. HasDrained t until b c) is q'.1) (subst (λ t. MovesTime t time move c d) is' r'.1)),
      λ h. subst (λ t. t < limit) (sym q'.1.0.time) (p'.1.1 h),
      subst (λ t. MovesTime t time move c d) is' r'.1,
    )

pub drive_more : (n m k limit time : ℕ) (until : Option ℕ) (move : Move) (a b c d : List Entry) → m ≡ n → k ≡ n → time ≢ limit → IsEarlier until limit time → Led n (IsStillBefore n limit) a b → Led m (HasDrained m until) b c → Led k (MovesTime k time move) c d → Led n (IsStillBefore n limit) a d
drive_more n m k limit time until move a b c d is is' apart early p q r silent =
    let all = driven_more n m k limit time until move a b c d is is' early p q r silent in
    let within = earlier_within until limit time early in
    let less : time < limit = omega (arith, within, apart) in
    (all.0, (all.1, λ h. still_before n limit time move c d less all.3 (all.2 h)))

-- where the time stays, the loop goes on
pub drive_stays : (n m k limit time : ℕ) (until : Option ℕ) (a b c d : List Entry) → m ≡ n → k ≡ n → IsEarlier until limit time → Led n (IsStillBefore n limit) a b → Led m (HasDrained m until) b c → Led k (MovesTime k time Stays) c d → Led n (IsStillBefore n limit) a d
drive_stays n m k limit time until a b c d is is' early p q r silent =
    let all = driven_more n m k limit time until Stays a b c d is is' early p q r silent in
    (all.0, (all.1, λ h. subst (λ es. time_after es < limit) (sym all.3) (all.2 h)))

pub drive_last : (n m k limit time : ℕ) (until : Option ℕ) (a b c d : List Entry) → limit ≢ 0 → m ≡ n → k ≡ n → time ≡ limit → IsEarlier until limit time → Led n (IsStillBefore n limit) a b → Led m (HasDrained m until) b c → Led k (MovesTime k time There) c d → Led n (HasMoved n limit) a d
drive_last n m k limit time until a b c d some is is' there early p q r silent =
    let all = driven_more n m k limit time until There a b c d is is' early p q r silent in
    let move : MovesTime n limit There c d = subst (λ t. MovesTime n t There c d) there all.3 in (
      all.0,
      record {
        driven = all.1;
        least = reached n limit c d move;
        fresh = λ h. moved_fresh n limit c d move (all.2 h);
        reached = λ h. moved_to n limit c d move (all.2 h);
        start = λ zero. absurd (some zero);
      },
    )

-- ---- the looper's posts

posted_none : (threads : ℕ) (a : List Entry) → HasPosted threads [] a a
posted_none threads a = record { goes = λ s fresh h. h; fresh = λ h. h; posts = sym (append-nil (posts_made threads a)); time = refl; kept = λ t h. h }

posted_one : (threads : ℕ) (parcels : List Parcel) (x : Parcel) (a b c : List Entry) → HasPosted threads parcels a b → GrowsByEntry threads (IsPostOf x.post) b c → HasPosted threads (parcels ++ x ∷ []) a c
posted_one threads parcels x a b c p g = subst (HasPosted threads (parcels ++ x ∷ []) a) (sym g.1) (record {
  goes = λ s fresh h. goes_own threads s b g.0 g.2 (subst IsPostOrLook (sym g.3.1) tt) (or_right _ _ (p.fresh fresh)) (ap is_advance g.3.1) (p.goes s fresh h);
  fresh = λ h. fresh_posted b g.0 g.3.0 g.3.1 (p.fresh h);
  posts = posts_own threads b g.0 g.2 ∙ ap (λ (q : Call). posts_made threads b ++ post_at_time (time_after b) q) g.3.1
      ∙ (λ i. p.posts i ++ (p.time i, g.3.2 i) ∷ []) ∙ append_assoc (posts_made threads a) (posts_at (time_after a) parcels) ((time_after a, unslotted x.post) ∷ [])
      ∙ ap (λ l. posts_made threads a ++ l) (sym (posts_at-snoc (time_after a) parcels x));
  time = time_more b g.0 ∙ ap (λ (q : Call). max (time_after b) (moment_of q)) g.3.1 ∙ (let z : max (time_after b) 0 ≡ time_after b = omega arith in z) ∙ p.time;
  kept = λ t h. reached_more b g.0 t (p.kept t h);
})
  where
    posts_at-snoc : (time : ℕ) (xs : List Parcel) (x : Parcel) → posts_at time (xs ++ x ∷ []) ≡ posts_at time xs ++ (time, unslotted x.post) ∷ []
    posts_at-snoc time [] x = refl
    posts_at-snoc time (y ∷ ys) x = ap (λ l. (time, unslotted y.post) ∷ l) (posts_at-snoc time ys x)

pub post_none : (threads : ℕ) (a : List Entry) → Led threads (HasPosted threads []) a a
post_none threads a silent = (silent, posted_none threads a)

pub post_more : (n m : ℕ) (parcels : List Parcel) (x : Parcel) (a b c : List Entry) → m ≡ n → Led n (HasPosted n parcels) a b → Led m (GrowsByEntry m (IsPostOf x.post)) b c → Led n (HasPosted n (parcels ++ x ∷ [])) a c
post_more n m parcels x a b c is p q = led_then n m (HasPosted n parcels) (GrowsByEntry m (IsPostOf x.post)) (HasPosted n (parcels ++ x ∷ [])) a b c is (λ u v. posted_one n parcels x a b c u (subst (λ k. GrowsByEntry k (IsPostOf x.post) b c) is v)) p q

pub post_next : (n m : ℕ) (parcels : List Parcel) (i : ℕ) (d : Parcel) (a b c : List Entry) → i < length parcels → m ≡ n → Led n (HasPosted n (take i parcels)) a b → Led m (GrowsByEntry m (IsPostOf (get_or parcels i d).post)) b c → Led n (HasPosted n (take (i + 1) parcels)) a c
post_next n m parcels i d a b c lt is p q = subst (λ l. Led n (HasPosted n l) a c) (sym (take_more parcels i d lt)) (post_more n m (take i parcels) (get_or parcels i d) a b c is p q)

pub post_all : (n : ℕ) (parcels : List Parcel) (i : ℕ) (a b : List Entry) → (i < length parcels → ⊥) → Led n (HasPosted n (take i parcels)) a b → Led n (HasPosted n parcels) a b
post_all n parcels i a b no_more p = subst (λ l. Led n (HasPosted n l) a b) (take_all i parcels (let le : length parcels ≤ i = omega arith in le)) p

-- ---- the halt

halted_one : (threads : ℕ) (a b c : List Entry) → LookedAlone threads a b → GrowsByEntry (threads + 1) (IsHaltAt (time_after b)) b c → HasHalted threads a c
halted_one threads a b c p g = subst (HasHalted threads a) (sym g.1) (record {
  ends = λ s at h. ends threads s b g.0 g.2 (g.3.0 ∙ ap Halt (p.time ∙ at)) g.3.1 (p.goes s h);
  posts = posts_other (threads + 1) threads b g.0 g.2 (apart_down threads) ∙ p.posts;
  kept = λ t h. reached_more b g.0 t (p.kept t h);
})

pub halt_last : (n m k : ℕ) (until : Option ℕ) (a b c d : List Entry) → m ≡ n → k ≡ n → Led n (LookedAlone n) a b → Led m (HasDrained m until) b c → Led k (λ past now. GrowsByEntry (k + 1) (IsHaltAt (time_after past)) past now) c d → Led n (HasHalted n) a d
halt_last n m k until a b c d is is' p q r silent =
    let r' = r (subst (λ t. AreSilent t d) (sym is') silent) in
    let q' = q (subst (λ t. AreSilent t c) (is' ∙ sym is) r'.0) in
    let p' = p (subst (λ t. AreSilent t b) is q'.0) in
    (p'.0, halted_one n a c d (looked_then n a b c p'.1 (subst (λ t. LookedAlone t b c) is q'.1.0)) (subst (λ t. GrowsByEntry (t + 1) (IsHaltAt (time_after c)) c d) is' r'.1))

pub halt_more : (n m k : ℕ) (until : Option ℕ) (a b c d : List Entry) → m ≡ n → k ≡ n → Led n (LookedAlone n) a b → Led m (HasDrained m until) b c → Led k (λ past now. now ≡ past) c d → Led n (LookedAlone n) a d
halt_more n m k until a b c d is is' p q r silent =
    let r' = r (subst (λ t. AreSilent t d) (sym is') silent) in
    let q' = q (subst (λ t. AreSilent t c) (is' ∙ sym is) r'.0) in
    let p' = p (subst (λ t. AreSilent t b) is q'.0) in
    (p'.0, subst (LookedAlone n a) (sym r'.1) (looked_then n a b c p'.1 (subst (λ t. LookedAlone t b c) is q'.1.0)))

-- ==== an inbox run from block to block

-- the time is before a block's, or nothing has come yet
abbrev pub IsAhead : List Entry → Block → Type 0
IsAhead es b = (time_after es < b.time) ⊎ (es ≡ [])

-- what was run of the blocks, and that the time is before what is to come
pub record Ran (s : Script) (threads : ℕ) (done rest : List Block) (admitted : List (List Parcel)) (es : List Entry) : Type 0 where
  pub goes : Goes threads s es
  pub posts : posts_made threads es ≡ posts_admitted done admitted
  pub ahead : AllByRecursion (IsAhead es) rest
  pub within : time_after es ≤ s.end
  pub reached : AreReached done es

clock_none : clock (empty_base 0) [] ≡ 0
unfolding clock
clock_none = refl

all_ahead : (bs : List Block) → AllByRecursion (IsAhead []) bs
all_ahead [] = tt
all_ahead (b ∷ bs) = (inr refl, all_ahead bs)

-- a time that is ahead is reached, and nothing has come since then
arrived : (threads time : ℕ) (past now : List Entry) → (time_after past < time) ⊎ (past ≡ []) → HasMoved threads time past now → (time_after now ≡ time) × (is_fresh is_posting now ≡ true)
arrived threads time past now (inl before) moved =
    let most = moved.driven.within (let r : time_after past ≤ time = omega (arith, before) in r) in
    let least = moved.least in
    ((let r : time_after now ≡ time = omega (arith, most, least) in r), moved.fresh before)
arrived threads time past now (inr is) moved =
    let z : time_after past ≡ 0 = ap time_after is ∙ clock_none in
    let most = moved.driven.within (let r : time_after past ≤ time = omega (arith, z) in r) in
    let least = moved.least in (
      (let r : time_after now ≡ time = omega (arith, most, least) in r),
      dite (dec_lt 0 time) (λ some. moved.fresh (let r : time_after past < time = omega (arith, z, some) in r))
          (λ no_more. ap (is_fresh is_posting) (moved.start (let r : time ≡ 0 = omega arith in r) ∙ is) ∙ nothing_fresh is_posting),
    )

-- so the time that was ahead was moved to
ahead_reached : (threads time : ℕ) (past now : List Entry) → (time_after past < time) ⊎ (past ≡ []) → HasMoved threads time past now → is_reached time now ≡ true
ahead_reached threads time past now (inl before) moved = moved.reached before
ahead_reached threads time past now (inr is) moved =
    let z : time_after past ≡ 0 = ap time_after is ∙ clock_none in
    dite (dec_lt 0 time) (λ some. moved.reached (let r : time_after past < time = omega (arith, z, some) in r))
    (λ no_more. ap (λ t. is_reached t now) (let r : time ≡ 0 = omega arith in r) ∙ start_reached now)

-- the blocks that were reached stay so
reached_past : (bs : List Block) (past now : List Entry) → KeepsReached past now → AreReached bs past → AreReached bs now
reached_past [] past now kept h = tt
reached_past (b ∷ bs) past now kept h = (kept b.time h.0, reached_past bs past now kept h.1)

-- at the start
pub ran_none : (s : Script) (threads : ℕ) (es : List Entry) → es ≡ [] → Ran s threads [] s.blocks [] es
unfolding is_called_in_time
ran_none s threads es is = subst (Ran s threads [] s.blocks []) (sym is) (record {
  goes = record { looks = tt; moves = tt; timely = refl; first = refl; planned = refl };
  posts = refl;
  ahead = all_ahead s.blocks;
  within = let z = clock_none in let r : time_after [] ≤ s.end = omega (arith, z) in r;
  reached = tt;
})

posts_admitted-snoc : (s : Script) (bs : List Block) (lists : List (List Parcel)) (b : Block) (parcels : List Parcel) → AreOfBlocks s bs lists → posts_admitted (bs ++ b ∷ []) (lists ++ parcels ∷ []) ≡ posts_admitted bs lists ++ posts_at b.time parcels
posts_admitted-snoc s [] [] b parcels h = append-nil (posts_at b.time parcels)
posts_admitted-snoc s [] (l ∷ ls) b parcels h = absurd h
posts_admitted-snoc s (c ∷ cs) [] b parcels h = absurd h
posts_admitted-snoc s (c ∷ cs) (l ∷ ls) b parcels h = ap (λ r. posts_at c.time l ++ r) (posts_admitted-snoc s cs ls b parcels h.1) ∙ sym (append_assoc (posts_at c.time l) (posts_admitted cs ls) (posts_at b.time parcels))

pub of_blocks-snoc : (s : Script) (bs : List Block) (lists : List (List Parcel)) (b : Block) (parcels : List Parcel) → AreOfBlocks s bs lists → IsOfBlock s b parcels → AreOfBlocks s (bs ++ b ∷ []) (lists ++ parcels ∷ [])
of_blocks-snoc s [] [] b parcels h one = (one, tt)
of_blocks-snoc s [] (l ∷ ls) b parcels h one = absurd h
of_blocks-snoc s (c ∷ cs) [] b parcels h one = absurd h
of_blocks-snoc s (c ∷ cs) (l ∷ ls) b parcels h one = (h.0, of_blocks-snoc s cs ls b parcels h.1 one)

later_all : (es : List Entry) (time : ℕ) (bs : List Block) → time_after es ≡ time → list_all (λ (later : Block). nat_lt time later.time) bs ≡ true → AllByRecursion (IsAhead es) bs
later_all es time [] is h = tt
later_all es time (c ∷ cs) is h =
    let parts = and_parts (nat_lt time c.time) (list_all (λ (later : Block). nat_lt time later.time) cs) h in
    let lt = ltb-true time c.time parts.0 in
    (inl (let r : time_after es < c.time = omega (arith, lt, is) in r), later_all es time cs is parts.1)

-- a block more
pub ran_more : (s : Script) (threads : ℕ) (done rest : List Block) (b : Block) (lists : List (List Parcel)) (parcels : List Parcel) (w0 w1 w2 : List Entry) → AreOfBlocks s done lists → times_rise (b ∷ rest) ≡ true → nat_le b.time s.end ≡ true → is_planned_time s b.time ≡ true
    → Ran s threads done (b ∷ rest) lists w0 → HasMoved threads b.time w0 w1 → HasPosted threads parcels w1 w2 → Ran s threads (done ++ b ∷ []) rest (lists ++ parcels ∷ []) w2
ran_more s threads done rest b lists parcels w0 w1 w2 blocks rises early planned ran moved posted =
    let le : b.time ≤ s.end = leb-true b.time s.end early in
    let there = arrived threads b.time w0 w1 ran.ahead.0 moved in
    let at : time_after w1 ≡ b.time = there.0 in
    let now : time_after w2 ≡ b.time = posted.time ∙ at in
    record {
      goes = posted.goes s there.1 (moved.driven.goes s le planned ran.goes);
      posts = posted.posts ∙ (λ i. (moved.driven.posts ∙ ran.posts) i ++ posts_at (at i) parcels) ∙ sym (posts_admitted-snoc s done lists b parcels blocks);
      ahead = later_all w2 b.time rest now (and_parts (list_all (λ (later : Block). nat_lt b.time later.time) rest) (times_rise rest) rises).0;
      within = let r : time_after w2 ≤ s.end = omega (arith, now, le) in r;
      reached = reached_past (done ++ b ∷ []) w1 w2 posted.kept
          (one_reached done b w1 (reached_past done w0 w1 moved.driven.kept ran.reached) (ahead_reached threads b.time w0 w1 ran.ahead.0 moved));
    }

-- the end
pub ran_all : (s : Script) (threads : ℕ) (lists : List (List Parcel)) (w0 w1 w2 : List Entry) → Ran s threads s.blocks [] lists w0 → HasMoved threads s.end w0 w1 → HasHalted threads w1 w2 → IsInboxPlayed s threads lists w2
ran_all s threads lists w0 w1 w2 ran moved halted =
    let most = moved.driven.within ran.within in
    let least = moved.least in
    let at : time_after w1 ≡ s.end = omega (arith, most, least) in
    let le : s.end ≤ s.end = omega arith in
    record {
      ended = halted.ends s at (moved.driven.goes s le (or_left _ _ (eq-eqb s.end s.end refl)) ran.goes);
      posts = halted.posts ∙ moved.driven.posts ∙ ran.posts;
      reached = reached_past s.blocks w0 w2 (λ t h. halted.kept t (moved.driven.kept t h)) ran.reached;
    }

-- with what is known of threads that are silent
pub play_more : (s : Script) (n m k : ℕ) (done rest : List Block) (b : Block) (lists : List (List Parcel)) (parcels : List Parcel) (w0 w1 w2 : List Entry) → m ≡ n → k ≡ n → AreOfBlocks s done lists → times_rise (b ∷ rest) ≡ true → nat_le b.time s.end ≡ true → is_planned_time s b.time ≡ true
    → (AreSilent n w0 → Ran s n done (b ∷ rest) lists w0) → Led m (HasMoved m b.time) w0 w1 → Led k (HasPosted k parcels) w1 w2 → AreSilent n w2 → Ran s n (done ++ b ∷ []) rest (lists ++ parcels ∷ []) w2
play_more s n m k done rest b lists parcels w0 w1 w2 is is' blocks rises early planned ran moved posted silent =
    let p = posted (subst (λ t. AreSilent t w2) (sym is') silent) in
    let q = moved (subst (λ t. AreSilent t w1) (is' ∙ sym is) p.0) in
    ran_more s n done rest b lists parcels w0 w1 w2 blocks rises early planned (ran (subst (λ t. AreSilent t w0) is q.0)) (subst (λ t. HasMoved t b.time w0 w1) is q.1) (subst (λ t. HasPosted t parcels w1 w2) is' p.1)

pub play_all : (s : Script) (n m k : ℕ) (lists : List (List Parcel)) (w0 w1 w2 : List Entry) → m ≡ n → k ≡ n → (AreSilent n w0 → Ran s n s.blocks [] lists w0) → Led m (HasMoved m s.end) w0 w1 → Led k (HasHalted k) w1 w2 → AreSilent n w2 → IsInboxPlayed s n lists w2
play_all s n m k lists w0 w1 w2 is is' ran moved halted silent =
    let p = halted (subst (λ t. AreSilent t w2) (sym is') silent) in
    let q = moved (subst (λ t. AreSilent t w1) (is' ∙ sym is) p.0) in
    ran_all s n lists w0 w1 w2 (ran (subst (λ t. AreSilent t w0) is q.0)) (subst (λ t. HasMoved t s.end w0 w1) is q.1) (subst (λ t. HasHalted t w1 w2) is' p.1)

-- what rises goes on rising
pub rise_drop : (i : ℕ) (bs : List Block) → times_rise bs ≡ true → times_rise (drop i bs) ≡ true
rise_drop zero bs h = h
rise_drop (suc i) [] h = refl
rise_drop (suc i) (b ∷ bs) h = rise_drop i bs (and_parts _ _ h).1

pub all_drop : (p : Block → Bool) (i : ℕ) (bs : List Block) → list_all p bs ≡ true → list_all p (drop i bs) ≡ true
all_drop p zero bs h = h
all_drop p (suc i) [] h = refl
all_drop p (suc i) (b ∷ bs) h = all_drop p i bs (and_parts _ _ h).1

drop_next : {A : Type 0} (xs : List A) (i : ℕ) (d : A) → i < length xs → drop i xs ≡ get_or xs i d ∷ drop (i + 1) xs
drop_next xs i d lt = drop-cons xs i d lt ∙ ap (λ n. get_or xs i d ∷ drop n xs) (let e : suc i ≡ i + 1 = omega arith in e)

-- the next block, by its place
pub play_next : (s : Script) (n m k i : ℕ) (d : Block) (lists : List (List Parcel)) (parcels : List Parcel) (w0 w1 w2 : List Entry) → i < length s.blocks → HasText s → m ≡ n → k ≡ n → AreOfBlocks s (take i s.blocks) lists
    → (AreSilent n w0 → Ran s n (take i s.blocks) (drop i s.blocks) lists w0) → Led m (HasMoved m (get_or s.blocks i d).time) w0 w1 → Led k (HasPosted k parcels) w1 w2
    → AreSilent n w2 → Ran s n (take (i + 1) s.blocks) (drop (i + 1) s.blocks) (lists ++ parcels ∷ []) w2
play_next s n m k i d lists parcels w0 w1 w2 lt text is is' blocks ran moved posted =
    let b = get_or s.blocks i d in
    let next : drop i s.blocks ≡ b ∷ drop (i + 1) s.blocks = drop_next s.blocks i d lt in
    let rises : times_rise (b ∷ drop (i + 1) s.blocks) ≡ true = ap times_rise (sym next) ∙ rise_drop i s.blocks text.times in
    let early : list_all (λ (c : Block). nat_le c.time s.end) (b ∷ drop (i + 1) s.blocks) ≡ true = ap (list_all (λ (c : Block). nat_le c.time s.end)) (sym next) ∙ all_drop (λ (c : Block). nat_le c.time s.end) i s.blocks text.end in
    let planned : is_planned_time s b.time ≡ true = or_right (b.time == s.end) _ (list_any_at (λ (z : Block). z.time == b.time) s.blocks i d lt (eq-eqb b.time b.time refl)) in
    subst (λ l. AreSilent n w2 → Ran s n l (drop (i + 1) s.blocks) (lists ++ parcels ∷ []) w2) (sym (take_more s.blocks i d lt))
    (play_more s n m k (take i s.blocks) (drop (i + 1) s.blocks) b lists parcels w0 w1 w2 is is' blocks rises (and_parts _ _ early).0 planned (λ silent. subst (λ l. Ran s n (take i s.blocks) l lists w0) next (ran silent)) moved posted)

pub of_blocks_next : (s : Script) (i : ℕ) (d : Block) (lists : List (List Parcel)) (parcels : List Parcel) → i < length s.blocks → AreOfBlocks s (take i s.blocks) lists → IsOfBlock s (get_or s.blocks i d) parcels → AreOfBlocks s (take (i + 1) s.blocks) (lists ++ parcels ∷ [])
of_blocks_next s i d lists parcels lt blocks one = subst (λ l. AreOfBlocks s l (lists ++ parcels ∷ [])) (sym (take_more s.blocks i d lt)) (of_blocks-snoc s (take i s.blocks) lists (get_or s.blocks i d) parcels blocks one)

-- all blocks
pub of_blocks_all : (s : Script) (i : ℕ) (lists : List (List Parcel)) → length s.blocks ≤ i → AreOfBlocks s (take i s.blocks) lists → AreOfBlocks s s.blocks lists
of_blocks_all s i lists le blocks = subst (λ l. AreOfBlocks s l lists) (take_all i s.blocks le) blocks

pub play_end : (s : Script) (n m k i : ℕ) (lists : List (List Parcel)) (w0 w1 w2 : List Entry) → length s.blocks ≤ i → m ≡ n → k ≡ n → (AreSilent n w0 → Ran s n (take i s.blocks) (drop i s.blocks) lists w0) → Led m (HasMoved m s.end) w0 w1 → Led k (HasHalted k) w1 w2 → AreSilent n w2 → IsInboxPlayed s n lists w2
play_end s n m k i lists w0 w1 w2 le is is' ran moved halted =
    play_all s n m k lists w0 w1 w2 is is' (λ silent. subst (λ (z : List Block × List Block). Ran s n z.0 z.1 lists w0) (λ j. (take_all i s.blocks le j, drop_all i s.blocks le j)) (ran silent)) moved halted
