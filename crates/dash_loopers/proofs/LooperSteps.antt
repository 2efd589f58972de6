-- What a looper's state gains by a step: calls at the step's moment, what it asks of its choreographer then, and paints, and nothing at its place in the frame record, the count of its frames or its latest pulse.
use Rattle.std.proofs.Common.{◌≡◌, ℕ, ◌+◌, ◌-◌, Bool, true, false, List, [], ◌∷◌, ◌++◌, Option, Some, None, refl, sym, ap, ◌∙◌, append_assoc}
use Rattle.std.specs.Prelude.{◌==◌, ◌||◌, nat_le, is_some, fold, slice_get, if◌then◌else◌}
use Rattle.std.specs.List.{AllByRecursion, filter_map, cons_option, zip, enumerate_from}
use Rattle.std.specs.Option.{option_map_or, IfSome}
use Rattle.std.proofs.lemmas.List.{append-nil}
use Rattle.loop_model.specs.declared.post.Post.{Post as PostData}
use Rattle.loop_model.specs.declared.journal.Act.{Act}
use Rattle.loop_model.specs.declared.journal.Act.TheVariants.{Dispatch, Idle, Event, Vsync, Paint}
use Rattle.loop_model.proofs.Sorting.{AllByRecursion-append}
use Rattle.dash_script.specs.declared.script.Script.{Script}
use Rattle.run_model.specs.Planned.{gauge_line, gauge_looper, frame_handler, animation_id, animation_phase, traversal_phase, traversal_id, Makes, frame_due}
use Rattle.loop_model.specs.declared.call.Call.TheVariants.{Barrier}
use Rattle.run_model.specs.FrameRecords.{FrameAsk, Posts, Begins, Takes, nanos_of}
use Rattle.run_model.specs.Control.{At}
use Rattle.run_model.specs.Loopers.{LooperState, GaugeState, SentCall, with_gauge, and_sends, and_asks, and_posts_frame, traversal_requested, target_set, object_set, stepped_towards}
use Rattle.run_model.specs.Loopers.{gauge_moved, paints, traversal_ran, callback_ran, fires, reaction, reacted, phase_ran, frame_ran, after_dispatch, and_takes}
use Rattle.run_model.specs.Parts.{animation_ran}
use Rattle.run_model.proofs.RunLaws.{ArePaints}
use Rattle.dash_loopers.specs.Played.{IsAskedAt}

-- the second state has calls more and asks more of its choreographer, all at this moment, and paints more at most
pub record AddsAt (now : ℕ) (a b : LooperState) : Type 0 where
  pub more : List SentCall
  pub sent : b.sent ≡ a.sent ++ more
  pub timed : AllByRecursion (λ x. x.timing ≡ At now) more
  pub asks : List FrameAsk
  pub asked : b.asked ≡ a.asked ++ asks
  pub asked_then : AllByRecursion (IsAskedAt now) asks
  pub place : b.place ≡ a.place
  pub frames : b.frame_count ≡ a.frame_count
  pub stamp : b.stamp ≡ a.stamp
  pub awaits : b.awaits ≡ a.awaits
  pub paints : ArePaints a.painted → ArePaints b.painted

-- what is alike in calls, asks, place, frames and paints
adds_none : (now : ℕ) (a b : LooperState) → b.sent ≡ a.sent → b.asked ≡ a.asked → b.place ≡ a.place → b.frame_count ≡ a.frame_count → b.stamp ≡ a.stamp → b.awaits ≡ a.awaits → (ArePaints a.painted → ArePaints b.painted) → AddsAt now a b
adds_none now a b sent asked place frames stamp awaits paints = record {
  more = [];
  sent = sent ∙ sym (append-nil a.sent);
  timed = tt;
  asks = [];
  asked = asked ∙ sym (append-nil a.asked);
  asked_then = tt;
  place = place;
  frames = frames;
  stamp = stamp;
  awaits = awaits;
  paints = paints;
}

adds_one : (now : ℕ) (a b : LooperState) (x : SentCall) → b.sent ≡ a.sent ++ x ∷ [] → x.timing ≡ At now → b.asked ≡ a.asked → b.place ≡ a.place → b.frame_count ≡ a.frame_count → b.stamp ≡ a.stamp → b.awaits ≡ a.awaits → (ArePaints a.painted → ArePaints b.painted) → AddsAt now a b
adds_one now a b x sent timed asked place frames stamp awaits paints = record {
  more = x ∷ [];
  sent = sent;
  timed = (timed, tt);
  asks = [];
  asked = asked ∙ sym (append-nil a.asked);
  asked_then = tt;
  place = place;
  frames = frames;
  stamp = stamp;
  awaits = awaits;
  paints = paints;
}

adds_ask : (now : ℕ) (x : FrameAsk) → IsAskedAt now x → (a : LooperState) → AddsAt now a (and_asks x a)
adds_ask now x at a = record {
  more = [];
  sent = sym (append-nil a.sent);
  timed = tt;
  asks = x ∷ [];
  asked = refl;
  asked_then = (at, tt);
  place = refl;
  frames = refl;
  stamp = refl;
  awaits = refl;
  paints = λ p. p;
}

adds_post : (now phase id : ℕ) (a : LooperState) → AddsAt now a (and_posts_frame now phase id a)
adds_post now phase id a = adds_ask now (Posts phase (frame_due now 0) id None) refl a

pub adds_then : (now : ℕ) (a b c : LooperState) → AddsAt now a b → AddsAt now b c → AddsAt now a c
adds_then now a b c f g = record {
  more = f.more ++ g.more;
  sent = g.sent ∙ (ap (λ l. l ++ g.more) f.sent ∙ append_assoc a.sent f.more g.more);
  timed = AllByRecursion-append (λ x. x.timing ≡ At now) f.more g.more f.timed g.timed;
  asks = f.asks ++ g.asks;
  asked = g.asked ∙ (ap (λ l. l ++ g.asks) f.asked ∙ append_assoc a.asked f.asks g.asks);
  asked_then = AllByRecursion-append (IsAskedAt now) f.asks g.asks f.asked_then g.asked_then;
  place = g.place ∙ f.place;
  frames = g.frames ∙ f.frames;
  stamp = g.stamp ∙ f.stamp;
  awaits = g.awaits ∙ f.awaits;
  paints = λ p. g.paints (f.paints p);
}

adds_self : (now : ℕ) (a : LooperState) → AddsAt now a a
adds_self now a = adds_none now a a refl refl refl refl refl refl (λ p. p)

by_test : (now : ℕ) (a x y : LooperState) (t : Bool) → AddsAt now a x → AddsAt now a y → AddsAt now a (if t then x else y)
by_test now a x y true f g = f
by_test now a x y false f g = g

by_option : {X : Type 0} (now : ℕ) (a d : LooperState) (f : X → LooperState) (o : Option X) → ((x : X) → AddsAt now a (f x)) → AddsAt now a d → AddsAt now a (option_map_or f o d)
by_option now a d f None h g = g
by_option now a d f (Some x) h g = h x

module _ (s : Script) (q now : ℕ) where
  requests : (a : LooperState) → AddsAt now a (traversal_requested s q now a)
  requests a =
      let sent : LooperState = and_sends q now (Makes (Barrier 0)) (record a { barrier = Some a.barriers; barriers = a.barriers + 1 }) in
      by_test now a a _ (is_some a.barrier) (adds_self now a) (adds_then now a sent _ (adds_one now a sent _ refl refl refl refl refl refl refl (λ p. p)) (adds_post now (traversal_phase s) traversal_id sent))

  sets : (g target : ℕ) (x : GaugeState) (a : LooperState) → AddsAt now a (target_set s q now g target x a)
  sets g target x a =
      let changed : LooperState = with_gauge g (record { value = x.value; target = target; animating = true }) a in
      let animating : LooperState = and_posts_frame now animation_phase (animation_id g) changed in
      by_test now a _ _ (x.animating || x.value == target) (adds_none now a _ refl refl refl refl refl refl (λ p. p))
      (adds_then now a changed _ (adds_none now a changed refl refl refl refl refl refl (λ p. p)) (adds_then now changed animating _ (adds_post now animation_phase (animation_id g) changed) (requests animating)))

  sets_object : (g target : ℕ) (a : LooperState) → AddsAt now a (object_set s q now g target a)
  sets_object g target a =
      by_test now a _ a (gauge_looper s g == q) (by_option now a a (λ x. target_set s q now g target x a) (slice_get a.gauges g) (λ x. sets g target x a) (adds_self now a)) (adds_self now a)

  moves : (g : ℕ) (x : GaugeState) (a : LooperState) → AddsAt now a (gauge_moved s q now g x a)
  moves g x a =
      let value : ℕ = stepped_towards (gauge_line s g).step x.target x.value in
      let there : LooperState = with_gauge g (record { value = value; target = x.target; animating = false }) a in
      let nearer : LooperState = with_gauge g (record x { value = value }) a in
      by_test now a _ _ (value == x.target)
      (adds_then now a there _ (adds_none now a there refl refl refl refl refl refl (λ p. p)) (requests there))
      (adds_then now a (traversal_requested s q now nearer) _ (adds_then now a nearer _ (adds_none now a nearer refl refl refl refl refl refl (λ p. p)) (requests nearer)) (adds_post now animation_phase (animation_id g) (traversal_requested s q now nearer)))

  animates : (g : ℕ) (x : GaugeState) (a : LooperState) → AddsAt now a (animation_ran s q now g x a)
  animates g x a = by_test now a _ a x.animating (moves g x a) (adds_self now a)

  -- what a traversal paints is paints
  painted_one : (o : Option Act) (xs : List Act) → IfSome o (λ x. ArePaints (x ∷ [])) → ArePaints xs → ArePaints (cons_option o xs)
  painted_one None xs h rest = rest
  painted_one (Some (Paint g v)) xs h rest = rest
  painted_one (Some (Dispatch n m r)) xs h rest = absurd h
  painted_one (Some (Idle i k)) xs h rest = absurd h
  painted_one (Some (Event f e m)) xs h rest = absurd h
  painted_one (Some (Vsync v)) xs h rest = absurd h

  painted_all : {Z : Type 0} (f : Z → Option Act) → ((z : Z) → IfSome (f z) (λ x. ArePaints (x ∷ []))) → (zs : List Z) → ArePaints (filter_map f zs)
  painted_all f h [] = tt
  painted_all f h (z ∷ zs) = painted_one (f z) (filter_map f zs) (h z) (painted_all f h zs)

  paints_more : (xs ys : List Act) → ArePaints xs → ArePaints ys → ArePaints (xs ++ ys)
  paints_more [] ys h rest = rest
  paints_more (Paint g v ∷ xs) ys h rest = paints_more xs ys h rest
  paints_more (Dispatch n m r ∷ xs) ys h rest = absurd h
  paints_more (Idle i k ∷ xs) ys h rest = absurd h
  paints_more (Event f e m ∷ xs) ys h rest = absurd h
  paints_more (Vsync v ∷ xs) ys h rest = absurd h

  one_paint : (g v : ℕ) (t : Bool) → IfSome (if t then Some (Paint g v) else None) (λ x. ArePaints (x ∷ []))
  one_paint g v true = tt
  one_paint g v false = tt

  paints_are : (gauges : List GaugeState) → ArePaints (paints s q gauges)
  paints_are gauges = painted_all _ (λ z. one_paint z.0 z.1.value (gauge_looper s z.0 == q)) (enumerate_from 0 gauges)

  traverses : (a : LooperState) → AddsAt now a (traversal_ran s q now a)
  traverses a = by_option now a a _ a.barrier (λ k. adds_one now a _ _ refl refl refl refl refl refl refl (λ p. paints_more a.painted (paints s q a.gauges) p (paints_are a.gauges))) (adds_self now a)

  runs : (a : LooperState) (id : ℕ) → AddsAt now a (callback_ran s q now a id)
  runs a id =
      by_test now a _ _ (id == traversal_id) (traverses a)
      (by_test now a _ a (nat_le 1000000 id) (by_option now a a (λ x. animation_ran s q now (id - 1000000) x a) (slice_get a.gauges (id - 1000000)) (λ x. animates (id - 1000000) x a) (adds_self now a)) (adds_self now a))

  runs_all : (a : LooperState) (ids : List ℕ) → AddsAt now a (fold (callback_ran s q now) a ids)
  runs_all a [] = adds_self now a
  runs_all a (id ∷ ids) = adds_then now a (callback_ran s q now a id) _ (runs a id) (runs_all (callback_ran s q now a id) ids)

  timed_one : (o : Option SentCall) (xs : List SentCall) → IfSome o (λ x. x.timing ≡ At now) → AllByRecursion (λ x. x.timing ≡ At now) xs → AllByRecursion (λ x. x.timing ≡ At now) (cons_option o xs)
  timed_one None xs h rest = rest
  timed_one (Some x) xs h rest = (h, rest)

  timed_all : {Z : Type 0} (f : Z → Option SentCall) → ((z : Z) → IfSome (f z) (λ x. x.timing ≡ At now)) → (zs : List Z) → AllByRecursion (λ x. x.timing ≡ At now) (filter_map f zs)
  timed_all f h [] = tt
  timed_all f h (z ∷ zs) = timed_one (f z) (filter_map f zs) (h z) (timed_all f h zs)

  timed_if : (x : SentCall) (t : Bool) → x.timing ≡ At now → IfSome (if t then Some x else None) (λ y. y.timing ≡ At now)
  timed_if x true h = h
  timed_if x false h = tt

  reacts : (m : PostData) (a : LooperState) → AddsAt now a (reacted s now m a)
  reacts m a = record {
    more = filter_map _ (zip s.rules a.fired);
    sent = refl;
    timed = timed_all _ (λ z. timed_if (reaction s now z.0) (fires m z.0 z.1) refl) (zip s.rules a.fired);
    asks = [];
    asked = sym (append-nil a.asked);
    asked_then = tt;
    place = refl;
    frames = refl;
    stamp = refl;
    awaits = refl;
    paints = λ p. p;
  }

  object_or_rules : (m : PostData) (a : LooperState) → AddsAt now a (option_map_or (λ g. object_set s q now g m.arg a) m.obj (reacted s now m a))
  object_or_rules m a = by_option now a (reacted s now m a) (λ g. object_set s q now g m.arg a) m.obj (λ g. sets_object g m.arg a) (reacts m a)

  runs_phase : (a : LooperState) (phase : ℕ) (ids : List ℕ) → AddsAt now a (phase_ran s q now a (phase, ids))
  runs_phase a phase ids =
      let taken : LooperState = and_asks (Takes phase (nanos_of now)) a in
      adds_then now a taken _ (adds_ask now (Takes phase (nanos_of now)) refl a) (runs_all taken ids)

  runs_phases : (a : LooperState) (phases : List (ℕ × List ℕ)) → AddsAt now a (fold (phase_ran s q now) a phases)
  runs_phases a [] = adds_self now a
  runs_phases a ((phase, ids) ∷ phases) =
      adds_then now a (phase_ran s q now a (phase, ids)) _ (runs_phase a phase ids) (runs_phases (phase_ran s q now a (phase, ids)) phases)

  runs_frame : (ids : Option (List (List ℕ))) (a : LooperState) → AddsAt now a (frame_ran s q now ids a)
  runs_frame None a = adds_self now a
  runs_frame (Some phases) a =
      let begun : LooperState = and_asks (Begins (nanos_of now)) a in
      adds_then now a begun _ (adds_ask now (Begins (nanos_of now)) refl a) (runs_phases begun (enumerate_from 0 phases))

  -- what a message causes
  pub delivers : (ids : Option (List (List ℕ))) (m : PostData) (a : LooperState) → AddsAt now a (after_dispatch s q now ids m a)
  delivers ids m a =
      by_test now a a _ (is_some m.callback) (adds_self now a) (by_test now a _ _ (m.handler == frame_handler q)
      (by_test now a _ a (m.what == 0) (runs_frame ids a) (adds_self now a)) (object_or_rules m a))

  -- the look that takes a message
  pub takes : (n : ℕ) (a : LooperState) → AddsAt now a (and_takes q n now a)
  takes n a = adds_one now a _ _ refl refl refl refl refl refl refl (λ p. p)
