-- A looper looks for messages on its own queue alone.
use Rattle.std.proofs.Common.{◌≡◌, ◌≢◌, ℕ, Bool, true, false, List, [], ◌∷◌, ◌++◌, Option, Some, None, refl, sym, ap, ◌∙◌, subst}
use Rattle.std.specs.Prelude.{◌==◌, ◌&&◌, ◌||◌, ◌+◌, ◌-◌, ◌/◌, nat_le, is_some, IfSome, fold, slice_get, if◌then◌else◌}
use Rattle.std.specs.List.{AllByRecursion, filter_map, cons_option, zip, enumerate_from}
use Rattle.std.specs.Option.{option_map, option_map_or}
use Rattle.std.proofs.lemmas.Bool.{eq-eqb, ne_eqb, eqb-true}
use Rattle.loop_model.specs.declared.post.Post.{Post as PostData}
use Rattle.loop_model.specs.declared.call.Call.{Call}
use Rattle.loop_model.specs.declared.call.Call.TheVariants.{Post, Barrier, Unbarrier, Remove, Quit, Next, Advance, Halt}
use Rattle.loop_model.specs.declared.entry.Entry.{Entry}
use Rattle.loop_model.specs.Entries.{is_next, is_disposed}
use Rattle.loop_model.specs.declared.journal.Act.{Act}
use Rattle.loop_model.specs.declared.journal.Act.TheVariants.{Dispatch, Idle, Event, Vsync, Paint}
use Rattle.loop_model.proofs.Sorting.{AllByRecursion-append}
use Rattle.frame_phases.specs.declared.entry.FrameEntry.{FrameEntry}
use Rattle.dash_script.specs.declared.script.Rule.{Rule}
use Rattle.dash_script.specs.declared.script.Script.{Script}
use Rattle.run_model.specs.Planned.{Ask, Makes, Unbars, bare_call, call_of, token_in, AreFor, frame_handler, gauge_looper, gauge_line, animation_phase}
use Rattle.run_model.specs.Planned.{animation_id, traversal_phase, traversal_id, frame_message}
use Rattle.loop_model.specs.declared.reply.Reply.TheVariants.{Dispatched}
use Rattle.run_model.specs.Control.{At, Exactly}
use Rattle.loop_model.specs.Posts.{post_at}
use Rattle.run_model.specs.Loopers.{LooperState, SentCall, GaugeState, and_sends, stepped_towards, paints, traversal_requested, target_set, object_set, gauge_moved, traversal_ran}
use Rattle.run_model.specs.Loopers.{callback_ran, and_asks, phase_ran, frame_ran, fires, reaction, reacted, after_dispatch, and_takes, and_posts_frame, with_gauge, dispatched, after_act, ActsLead}
use Rattle.run_model.specs.Loopers.{IsSent}
use Rattle.run_model.specs.Parts.{animation_ran, and_starts, running, sent_on}
use Rattle.run_model.specs.FrameRecords.{millis_up, nanos_of, frame_ids, Begins, Takes}
use Rattle.dash_script.specs.Causes.{phase_count}
use Rattle.dash_loopers.specs.Loopers.{is_disposal}

-- what is asked is a look for a message
abbrev pub asks_look : Ask → Bool
asks_look (Makes c) = is_next c
asks_look (Unbars b) = false

-- none of these entries disposed of the queue
abbrev pub NoneDisposes : List Entry → Type 0
NoneDisposes es = AllByRecursion (λ e. is_disposal e ≡ false) es

-- what is left open in a call is nothing to whether it is a look
is_next-plain : (c : Call) → is_next (bare_call c) ≡ is_next c
is_next-plain (Post p) = refl
is_next-plain (Barrier now) = refl
is_next-plain (Unbarrier t) = refl
is_next-plain (Remove f) = refl
is_next-plain (Quit safe now) = refl
is_next-plain (Next now) = refl
is_next-plain (Advance now) = refl
is_next-plain (Halt now) = refl

-- an entry that makes a call which is no look is none, and disposes of nothing
pub no_look_made : (tokens : List ℕ) (ask : Ask) (e : Entry) → bare_call e.call ≡ call_of tokens ask → asks_look ask ≡ false → is_disposal e ≡ false
no_look_made tokens (Makes c) e made none = ap (λ t. t && is_disposed e.reply) (sym (is_next-plain e.call) ∙ (ap is_next made ∙ none))
no_look_made tokens (Unbars b) e made none = ap (λ t. t && is_disposed e.reply) (sym (is_next-plain e.call) ∙ ap is_next made)

module _ (s : Script) (q : ℕ) where
  -- the call is on the queue, or is no look
  abbrev IsOwnLook : SentCall → Type 0
  IsOwnLook x = (x.queue == q) ≡ false → asks_look x.ask ≡ false

  -- so it is with all calls of a looper
  abbrev pub LooksAtOwn : LooperState → Type 0
  LooksAtOwn a = AllByRecursion IsOwnLook a.sent

  one_more : (xs : List SentCall) (x : SentCall) → AllByRecursion IsOwnLook xs → IsOwnLook x → AllByRecursion IsOwnLook (xs ++ x ∷ [])
  one_more xs x h one = AllByRecursion-append IsOwnLook xs (x ∷ []) h (one, tt)

  if_kept : (t : Bool) (x y : LooperState) → LooksAtOwn x → LooksAtOwn y → LooksAtOwn (if t then x else y)
  if_kept true x y f g = f
  if_kept false x y f g = g

  option_kept : {X : Type 0} (f : X → LooperState) (o : Option X) (d : LooperState) → ((x : X) → LooksAtOwn (f x)) → LooksAtOwn d → LooksAtOwn (option_map_or f o d)
  option_kept f None d each h = h
  option_kept f (Some x) d each h = each x

  -- a call that is no look
  sends_kept : (queue now : ℕ) (ask : Ask) (a : LooperState) → asks_look ask ≡ false → LooksAtOwn a → LooksAtOwn (and_sends queue now ask a)
  sends_kept queue now ask a none h = one_more a.sent (record { queue = queue; ask = ask; reply = None; timing = At now }) h (λ other. none)

  module _ (now : ℕ) where
    requested : (a : LooperState) → LooksAtOwn a → LooksAtOwn (traversal_requested s q now a)
    requested a h =
        let b : LooperState = record a { barrier = Some a.barriers; barriers = a.barriers + 1 } in
        if_kept (is_some a.barrier) a (and_posts_frame now (traversal_phase s) traversal_id (and_sends q now (Makes (Barrier 0)) b)) h (sends_kept q now (Makes (Barrier 0)) b refl h)

    target_kept : (g target : ℕ) (x : GaugeState) (a : LooperState) → LooksAtOwn a → LooksAtOwn (target_set s q now g target x a)
    target_kept g target x a h =
        let b : LooperState = and_posts_frame now animation_phase (animation_id g) (with_gauge g (record { value = x.value; target = target; animating = true }) a) in
        if_kept (x.animating || x.value == target) (with_gauge g (record x { target = target }) a) (traversal_requested s q now b) h (requested b h)

    object_kept : (g target : ℕ) (a : LooperState) → LooksAtOwn a → LooksAtOwn (object_set s q now g target a)
    object_kept g target a h =
        if_kept (gauge_looper s g == q) (option_map_or (λ x. target_set s q now g target x a) (slice_get a.gauges g) a) a
        (option_kept (λ x. target_set s q now g target x a) (slice_get a.gauges g) a (λ x. target_kept g target x a h) h) h

    moved_kept : (g : ℕ) (x : GaugeState) (a : LooperState) → LooksAtOwn a → LooksAtOwn (gauge_moved s q now g x a)
    moved_kept g x a h =
        let value = stepped_towards (gauge_line s g).step x.target x.value in
        let b : LooperState = with_gauge g (record { value = value; target = x.target; animating = false }) a in
        let c : LooperState = with_gauge g (record x { value = value }) a in
        if_kept (value == x.target) (traversal_requested s q now b) (and_posts_frame now animation_phase (animation_id g) (traversal_requested s q now c)) (requested b h) (requested c h)

    animation_kept : (g : ℕ) (x : GaugeState) (a : LooperState) → LooksAtOwn a → LooksAtOwn (animation_ran s q now g x a)
    animation_kept g x a h = if_kept x.animating (gauge_moved s q now g x a) a (moved_kept g x a h) h

    traversal_kept : (a : LooperState) → LooksAtOwn a → LooksAtOwn (traversal_ran s q now a)
    traversal_kept a h =
        let b : LooperState = record a { barrier = None; painted = a.painted ++ paints s q a.gauges } in
        option_kept (λ k. and_sends q now (Unbars k) b) a.barrier a (λ k. sends_kept q now (Unbars k) b refl h) h

    callback_kept : (a : LooperState) (id : ℕ) → LooksAtOwn a → LooksAtOwn (callback_ran s q now a id)
    callback_kept a id h =
        let g = id - 1000000 in
        let gauge : GaugeState → LooperState = λ x. animation_ran s q now g x a in
        let other : LooperState = option_map_or gauge (slice_get a.gauges g) a in
        if_kept (id == traversal_id) (traversal_ran s q now a) (if nat_le 1000000 id then other else a) (traversal_kept a h)
        (if_kept (nat_le 1000000 id) other a (option_kept gauge (slice_get a.gauges g) a (λ x. animation_kept g x a h) h) h)

    callbacks_kept : (ids : List ℕ) (a : LooperState) → LooksAtOwn a → LooksAtOwn (fold (callback_ran s q now) a ids)
    callbacks_kept [] a h = h
    callbacks_kept (id ∷ ids) a h = callbacks_kept ids (callback_ran s q now a id) (callback_kept a id h)

    phases_kept : (first : ℕ) (phases : List (List ℕ)) (a : LooperState) → LooksAtOwn a → LooksAtOwn (fold (phase_ran s q now) a (enumerate_from first phases))
    phases_kept first [] a h = h
    phases_kept first (ids ∷ phases) a h = phases_kept (first + 1) phases (phase_ran s q now a (first, ids)) (callbacks_kept ids (and_asks (Takes first (nanos_of now)) a) h)

    frame_kept : (ids : Option (List (List ℕ))) (a : LooperState) → LooksAtOwn a → LooksAtOwn (frame_ran s q now ids a)
    frame_kept None a h = h
    frame_kept (Some phases) a h = phases_kept 0 phases (and_asks (Begins (nanos_of now)) a) h

    cons_kept : (o : Option SentCall) (xs : List SentCall) → IfSome o IsOwnLook → AllByRecursion IsOwnLook xs → AllByRecursion IsOwnLook (cons_option o xs)
    cons_kept None xs one h = h
    cons_kept (Some x) xs one h = (one, h)

    reaction_kept : (t : Bool) (r : Rule) → IfSome (if t then Some (reaction s now r) else None) IsOwnLook
    reaction_kept true r = λ other. refl
    reaction_kept false r = tt

    abbrev reacts : PostData → Rule × ℕ → Option SentCall
    reacts m = λ (r, n). if fires m r n then Some (reaction s now r) else None

    reactions_kept : (m : PostData) (rs : List (Rule × ℕ)) → AllByRecursion IsOwnLook (filter_map (reacts m) rs)
    reactions_kept m [] = tt
    reactions_kept m (x ∷ rs) = cons_kept (reacts m x) (filter_map (reacts m) rs) (reaction_kept (fires m x.0 x.1) x.0) (reactions_kept m rs)

    reacted_kept : (m : PostData) (a : LooperState) → LooksAtOwn a → LooksAtOwn (reacted s now m a)
    reacted_kept m a h = AllByRecursion-append IsOwnLook a.sent (filter_map (reacts m) (zip s.rules a.fired)) h (reactions_kept m (zip s.rules a.fired))

    delivered_kept : (ids : Option (List (List ℕ))) (m : PostData) (a : LooperState) → LooksAtOwn a → LooksAtOwn (after_dispatch s q now ids m a)
    delivered_kept ids m a h =
        let b : LooperState = reacted s now m a in
        let framed : LooperState = frame_ran s q now ids a in
        let handled : LooperState = option_map_or (λ g. object_set s q now g m.arg a) m.obj b in
        if_kept (is_some m.callback) a (if m.handler == frame_handler q then (if m.what == 0 then framed else a) else handled) h
        (if_kept (m.handler == frame_handler q) (if m.what == 0 then framed else a) handled (if_kept (m.what == 0) framed a (frame_kept ids a h) h)
        (option_kept (λ g. object_set s q now g m.arg a) m.obj b (λ g. object_kept g m.arg a h) (reacted_kept m a h)))

    takes_kept : (n : ℕ) (a : LooperState) → LooksAtOwn a → LooksAtOwn (and_takes q n now a)
    takes_kept n a h =
        one_more a.sent (record { queue = q; ask = Makes (Next now); reply = Some (Dispatched n); timing = At now }) h
        (λ other. absurd (let same = eq-eqb q q refl in let wrong : true ≡ false = sym same ∙ other in cc))

  module _ (es : List Entry) (fs : List FrameEntry) where
    dispatched_kept : (frame : Option ℕ) (n now : ℕ) (a : LooperState) (o : Option PostData) → LooksAtOwn a → LooksAtOwn (dispatched s q fs frame n now a o)
    dispatched_kept frame n now a None h = h
    dispatched_kept frame n now a (Some m) h =
        delivered_kept now (option_map (frame_ids (phase_count s.edition) fs) frame) m (and_takes q n now (and_starts q m (running frame a))) (takes_kept now n (and_starts q m (running frame a)) h)

    act_kept : (frame : Option ℕ) (a : LooperState) (x : Act) → LooksAtOwn a → LooksAtOwn (after_act s q es fs frame a x)
    unfolding after_act
    act_kept frame a (Dispatch n now route) h = dispatched_kept frame n now a (post_at es n) h
    act_kept frame a (Vsync stamp) h =
        one_more a.sent (record { queue = q; ask = Makes (Post (frame_message q 0 0 (stamp / 1000000))); reply = None; timing = Exactly (millis_up stamp) }) h (λ other. refl)
    act_kept frame a (Paint g v) h = h
    act_kept frame a (Idle i k) h = h
    act_kept frame a (Event f e m) h = h

    -- acts lead a looper to no look elsewhere
    pub looks_at_own : (xs : List Act) (a b : LooperState) → ActsLead s q es fs a xs b → LooksAtOwn a → LooksAtOwn b
    looks_at_own [] a b led h = subst LooksAtOwn led h
    looks_at_own (x ∷ xs) a b led h = looks_at_own xs (after_act s q es fs led.0 a x) b led.1.1 (act_kept led.0 a x h)

  -- its calls on another queue are no looks
  elsewhere : (k : ℕ) → k ≢ q → (xs : List SentCall) → AllByRecursion IsOwnLook xs → AllByRecursion (λ x. asks_look x.ask ≡ false) (sent_on k xs)
  elsewhere k apart [] h = tt
  elsewhere k apart (x ∷ xs) h = go (elsewhere k apart xs h.1) (x.queue == k) refl
    where
      go : AllByRecursion (λ y. asks_look y.ask ≡ false) (sent_on k xs) → (t : Bool) → (x.queue == k) ≡ t → AllByRecursion (λ y. asks_look y.ask ≡ false) (sent_on k (x ∷ xs))
      go rest true there = rw there (h.0 (ne_eqb x.queue q (λ same. apart (sym (eqb-true x.queue k there) ∙ same))), rest)
      go rest false other = rw other rest

  made_none : (tokens : List ℕ) (xs : List SentCall) (es : List Entry) → AreFor IsSent tokens xs es → AllByRecursion (λ x. asks_look x.ask ≡ false) xs → NoneDisposes es
  made_none tokens [] [] made none = tt
  made_none tokens [] (e ∷ es) made none = absurd made
  made_none tokens (x ∷ xs) [] made none = absurd made
  made_none tokens (x ∷ xs) (e ∷ es) made none = (no_look_made tokens x.ask e made.0.call none.0, made_none (tokens ++ token_in e.reply) xs es made.1 none.1)

  -- so its entries there dispose of nothing
  pub none_elsewhere : (k : ℕ) (a : LooperState) (es : List Entry) → k ≢ q → LooksAtOwn a → AreFor IsSent [] (sent_on k a.sent) es → NoneDisposes es
  none_elsewhere k a es apart h made = made_none [] (sent_on k a.sent) es made (elsewhere k apart a.sent h)
