-- What a looper has come to after a pulse, a frame and a message.
use Rattle.std.proofs.Common.{◌≡◌, ◌≢◌, ℕ, ◌+◌, ◌-◌, ◌*◌, ◌/◌, ◌<◌, ◌≤◌, ◌==◌, Bool, true, false, not, List, [], ◌∷◌, ◌++◌, map, length, get_or, take, Option, Some, None, Result, Ok, Err, OnOk, refl, sym, ap, ◌∙◌, subst, arith, append_assoc, eq-eqb, ne_eqb}
use Rattle.std.specs.Prelude.{◌&&◌, ◌||◌, fold, is_some, is_ok, nat_le, slice_get, slice_index_or, if◌then◌else◌}
use Rattle.std.specs.List.{enumerate_from}
use Rattle.std.specs.Option.{option_map_or}
use Rattle.std.proofs.Math.Bool.{or-true, and-false}
use Rattle.std.proofs.lemmas.Bool.{eqb-true, leb-true}
use Rattle.std.proofs.lemmas.List.{append-nil, map-append, take_more}
use Rattle.std.proofs.Math.Nat.{div-mul-le_self}
use mathlib.Core.List.{IsPrefix}
use Rattle.loop_model.specs.declared.post.Post.{Post as PostData}
use Rattle.loop_model.specs.declared.call.Call.TheVariants.{Post, Barrier}
use Rattle.loop_model.specs.declared.entry.Entry.{Entry}
use Rattle.loop_model.specs.declared.journal.Act.{Act}
use Rattle.loop_model.specs.declared.journal.Act.TheVariants.{Vsync}
use Rattle.dash_script.specs.declared.script.Script.{Script}
use Rattle.dash_script.specs.Reading.{HasText}
use Rattle.dash_script.specs.Causes.{phase_count}
use Rattle.message_pool.specs.Passes.{Tally}
use Rattle.looper_run.specs.declared.dispatcher.Did.{Did}
use Rattle.looper_run.specs.declared.dispatcher.Did.TheVariants.{Yes, No, NoMemory}
use Rattle.looper_run.specs.Tests.{Unless}
use Rattle.looper_run.specs.Holding.{Sender}
use Rattle.choreographer.specs.declared.host.HostSent.{HostSent}
use Rattle.choreographer.specs.declared.host.HostSent.TheVariants as host
use Rattle.choreographer.specs.declared.hosted.Pulse.{Pulse}
use Rattle.choreographer.specs.Host.{added_sends}
use Rattle.choreographer.specs.Known.{Pass, SeesQuietly}
use Rattle.choreographer.proofs.Quiet.{grows_self}
use Rattle.choreographer.specs.Calls.{PulsedBy, stamp_in}
use Rattle.loop_model.proofs.Prefixes.{prefix_self}
use Rattle.frame_phases.specs.State.{delivered as delivered_at}
use Rattle.run_model.specs.Planned.{Makes as Asks, Unbars, AreFor, frame_handler, gauge_line, gauge_looper, animation_id, animation_phase, traversal_id}
use Rattle.run_model.specs.Planned.{frame_message}
use Rattle.run_model.specs.AskedSoFar.{tokens_in}
use Rattle.run_model.specs.Control.{At, Exactly}
use Rattle.run_model.specs.Loopers.{LooperState, GaugeState, SentCall, and_sends, and_posts_frame, with_gauge, stepped_towards, paints, starts_frame, after_dispatch, reacted, object_set}
use Rattle.run_model.specs.Loopers.{target_set, traversal_requested, traversal_ran, gauge_moved, callback_ran, and_asks, phase_ran, frame_ran, IsSent}
use Rattle.run_model.specs.Parts.{animation_ran, sent_on}
use Rattle.run_model.specs.FrameRecords.{millis_up, nanos_of, place_after, asks_in, as_told, Begins, Takes}
use Rattle.dash_hall.specs.Growth.{own, GoesOn, Makes}
use Rattle.dash_hall.specs.Hosts.{HostOrigin, IsHost, sends_by, pass_asks}
use Rattle.choreographer.proofs.Recorded.{pulse_records}
use Rattle.dash_loopers.specs.declared.view_root.Painted.{Painted}
use Rattle.dash_loopers.specs.declared.player.Parts.{Parts}
use Rattle.dash_loopers.specs.Played.{standing, gauge_fixed, IsBarrierOf, IsRootOf, IsFrameBy, calls_of, IsPlayed, StepsRoot, RanFrame, Delivers, DeliversPulse, Pulses, looper_pulsed, paint_of, KeepsLatest, IsStampedBy, IsNextPulse}
use Rattle.dash_loopers.specs.Played.{EndsLatest, HasLatest, PassHasAsked, AwaitsBehind, RunsInTime, BeginsNoneBehind, MayTell, MayTellAll, MayTellDelivery, PlaysAt}
use Rattle.dash_loopers.proofs.WantedPulses.{last_quietly}
use Rattle.dash_hall.proofs.FramePosts.{accepted, refused, told_one, told_none}
use Rattle.dash_loopers.proofs.FrameIds.{turn_grew}
use Rattle.dash_loopers.proofs.LatestPulses.{still_in_time}
use Rattle.dash_loopers.proofs.MoreCalls.{calls_same, sent_else, without_self, played_call}

-- ---- calls that tell of nothing

-- no more calls were made by a host's call that told of none
calls_untold : (h : ℕ) (p q : Sender) (a b : Tally) → GoesOn p q a b → sends_by h q ≡ sends_by h p → calls_of q ≡ calls_of p
calls_untold h p q a b goes same = calls_same p q (told_none h p q a b goes same)

-- other parts with the same view root, posters and counts, whose pass asked for nothing more
pub played_with : {lockstep : Bool} (s : Script) (q : ℕ) (made made' : List Entry) (parts parts' : Parts) (a : LooperState) → made' ≡ made → pass_asks parts'.frames ≡ pass_asks parts.frames
    → parts'.root ≡ parts.root → parts'.others ≡ parts.others → parts'.fired ≡ parts.fired → IsPlayed lockstep s q made parts a → IsPlayed lockstep s q made' parts' a
played_with {lockstep} s q made made' parts parts' a calls asks root others fired is = record {
  shown = record {
    calls = subst (AreFor IsSent [] (sent_on q a.sent)) (sym calls) is.shown.calls;
    asked = ap (map (as_told lockstep)) asks ∙ is.shown.asked;
    stands = subst (IsRootOf s q (tokens_in made') a) (sym root) (subst (λ (l : List Entry). IsRootOf s q (tokens_in l) a parts.root) (sym calls) is.shown.stands);
  };
  elsewhere = λ k j d place near. subst (λ (l : List Sender). AreFor IsSent [] (sent_on k a.sent) (own (slice_index_or l j d))) (sym (ap (λ v. v.items) others)) (is.elsewhere k j d place (subst (λ (l : List Sender). j < length l) (ap (λ v. v.items) others) near));
  fired = ap (λ v. v.items) fired ∙ is.fired;
  counts = ap (λ v. length v.items) fired ∙ is.counts;
}

-- ---- a pulse

-- a pulse that is delivered is not after the moment
pulse_near : (asked : Option ℕ) (n stamp : ℕ) → delivered_at asked n ≡ Some stamp → stamp ≤ n
pulse_near None n stamp is = absurd cc
pulse_near (Some pulse) n stamp is = go (nat_le pulse n) refl is
  where
    go : (b : Bool) → nat_le pulse n ≡ b → (if b then Some pulse else None) ≡ Some stamp → stamp ≤ n
    go true e is = (let same : pulse ≡ stamp = cc (is) in let near = leb-true pulse n e in omega (arith, same, near))
    go false e is = absurd cc

-- a stamp that is not after a moment in milliseconds, rounded up, is not after it either
pub millis_near : (stamp now : ℕ) → stamp ≤ nanos_of now → millis_up stamp ≤ now
millis_near stamp now near =
    let whole = div-mul-le_self (stamp + 999999) 1000000 in
    let least : stamp ≤ now * 1000000 = omega (arith, near) in
    omega (arith, whole, least)

frame_sent : (h w : ℕ) (answer : HostSent) (p p' : Sender) (a b : Tally) → GoesOn p p' a b → answer ≢ host.NoMemory → sends_by h p' ≡ sends_by h p ++ added_sends 0 0 w answer
    → Makes p p' (Post (record { handler = h; what = 0; arg = 0; obj = None; callback = None; when = w; asynchronous = true; slot = None })) []
frame_sent h w host.Accepted p p' a b goes isnt sends = told_one h 0 0 w host.Accepted p p' a b goes accepted sends
frame_sent h w host.Refused p p' a b goes isnt sends = told_one h 0 0 w host.Refused p p' a b goes refused sends
frame_sent h w host.NoMemory p p' a b goes isnt sends = absurd (isnt refl)

-- what is played says nothing of the latest pulse
played_pulsed : {lockstep : Bool} (s : Script) (q stamp : ℕ) (made : List Entry) (parts : Parts) (a : LooperState) → IsPlayed lockstep s q made parts a → IsPlayed lockstep s q made parts (record a { stamp = stamp; awaits = true })
played_pulsed s q stamp made parts a is =
    let root = is.shown.stands in
    record {
      shown = record {
        calls = is.shown.calls;
        asked = is.shown.asked;
        stands = record { edition = root.edition; gauges = root.gauges; lines = root.lines; barrier = root.barrier; barriers = root.barriers; painted = root.painted };
      };
      elsewhere = is.elsewhere;
      fired = is.fired;
      counts = is.counts;
    }

-- what the delivery of a pulse leaves
pub pulse_delivered : (s : Script) (q now : ℕ) (p p' : Sender) (a b : Tally) (parts parts' : Parts) (r : Option Pulse) → GoesOn p p' a b
    → PulsedBy parts.frames parts'.frames (λ n. n == nanos_of now) (sends_by (frame_handler q) p) (sends_by (frame_handler q) p') r → parts'.root ≡ parts.root → parts'.others ≡ parts.others → parts'.fired ≡ parts.fired
    → DeliversPulse s q now (calls_of p) (calls_of p') parts parts' r
pulse_delivered s q now p p' a b parts parts' None goes (x, y, n, t, moment, (none, left, sends)) root others fired =
    let asks = ap asks_in (pulse_records parts.frames parts'.frames (λ n. n == nanos_of now) (sends_by (frame_handler q) p) (sends_by (frame_handler q) p') None (x, y, n, t, moment, (none, left, sends))) in (
      turn_grew parts.frames parts'.frames x y t,
      asks,
      λ lockstep text l is. played_with s q (calls_of p) (calls_of p') parts parts' l (calls_untold (frame_handler q) p p' a b goes sends) asks root others fired is,
    )
pulse_delivered s q now p p' a b parts parts' (Some pulse) goes (x, y, n, t, moment, (some, left, sends)) root others fired = λ isnt.
    (let near : pulse.stamp ≤ nanos_of now = subst (λ (m : ℕ). pulse.stamp ≤ m) (eqb-true n (nanos_of now) moment) (pulse_near x.frames.asked n pulse.stamp some) in
    let made = frame_sent (frame_handler q) (pulse.stamp / 1000000) pulse.sent p p' a b goes isnt sends in
    let asks = ap asks_in (pulse_records parts.frames parts'.frames (λ n. n == nanos_of now) (sends_by (frame_handler q) p) (sends_by (frame_handler q) p') (Some pulse) (x, y, n, t, moment, (some, left, sends))) in (
      turn_grew parts.frames parts'.frames x y t,
      asks,
      millis_near pulse.stamp now near,
      λ lockstep text l is. played_with s q (calls_of p') (calls_of p') parts parts' (looper_pulsed q (Some pulse.stamp) l) refl asks root others fired
          (played_pulsed s q pulse.stamp (calls_of p') parts _ (played_call s q (Post (frame_message q 0 0 (pulse.stamp / 1000000))) (Exactly (millis_up pulse.stamp)) p p' parts refl made l is)),
    ))

-- ---- by a host that was made of the looper's poster

pub hosted_on : {U : Type 0} (o o' : HostOrigin U) (p p' : Sender) (b : Tally) → o' ≡ o → IsHost o' p' b → o.poster ≡ p → GoesOn p p' o.pass b
hosted_on o o' p p' b same is began = subst (λ (z : Sender). GoesOn z p' o.pass b) began (subst (λ z. IsHost z p' b) same is).on

-- what came of a pulse, as the looper's own poster and pass tell it
pub pulse_here : {U : Type 0} (q now u : ℕ) (o o' : HostOrigin U) (p p0 p' : Sender) (f f' : Pass) (r : Option Pulse) → o' ≡ o → p0 ≡ p → u ≡ now → o.handler ≡ frame_handler q
    → PulsedBy f f' (λ n. n == nanos_of u) (sends_by o.handler p0) (sends_by o'.handler p') r
    → PulsedBy f f' (λ n. n == nanos_of now) (sends_by (frame_handler q) p) (sends_by (frame_handler q) p') r
pulse_here q now u o o' p p0 p' f f' r same at moment mine pulse =
    subst (λ (n : ℕ). PulsedBy f f' (λ m. m == nanos_of n) (sends_by (frame_handler q) p) (sends_by (frame_handler q) p') r) moment
    (subst (λ (h : ℕ). PulsedBy f f' (λ m. m == nanos_of u) (sends_by h p) (sends_by h p') r) mine
    (subst (λ (z : Sender). PulsedBy f f' (λ m. m == nanos_of u) (sends_by o.handler z) (sends_by o.handler p') r) at
    (subst (λ z. PulsedBy f f' (λ m. m == nanos_of u) (sends_by o.handler p0) (sends_by z.handler p') r) same pulse)))

pub pulse_hosted : {U : Type 0} (s : Script) (q now u : ℕ) (o o' : HostOrigin U) (p p0 p' : Sender) (b : Tally) (parts parts' : Parts) (r : Option Pulse) → o' ≡ o → IsHost o' p' b → o.poster ≡ p → p0 ≡ p → u ≡ now → o.handler ≡ frame_handler q
    → PulsedBy parts.frames parts'.frames (λ n. n == nanos_of u) (sends_by o.handler p0) (sends_by o'.handler p') r → parts'.root ≡ parts.root → parts'.others ≡ parts.others → parts'.fired ≡ parts.fired
    → DeliversPulse s q now (calls_of p) (calls_of p') parts parts' r
pulse_hosted s q now u o o' p p0 p' b parts parts' r same is began at moment mine pulse root others fired =
    pulse_delivered s q now p p' o.pass b parts parts' r (hosted_on o o' p p' b same is began)
    (pulse_here q now u o o' p p0 p' parts.frames parts'.frames r same at moment mine pulse) root others fired

-- what holds where a call was made holds unless memory ran out
pub unless_made : {E : Type 0} (r : Did) (done : Result Unit E) (P Q : Type 0) → (r ≡ No → ⊥) → (r ≡ Yes → is_ok done ≡ true) → OnOk done P → (P → Q) → Unless r Q
unless_made Yes (Ok u) P Q isnt is h f = f h
unless_made Yes (Err e) P Q isnt is h f = absurd (let wrong : false ≡ true = is refl in cc wrong)
unless_made No done P Q isnt is h f = absurd (isnt refl)
unless_made NoMemory done P Q isnt is h f = tt

-- a pulse was told
pub pulse_told : (s : Script) (q now : ℕ) (made made' : List Entry) (parts parts' : Parts) (acts acts0 acts' : List Act) (pulse : Pulse) → IsNextPulse s.period parts parts' (stamp_in (Some pulse))
    → DeliversPulse s q now made made' parts parts' (Some pulse) → pulse.sent ≢ host.NoMemory → acts0 ≡ acts → acts' ≡ acts0 ++ Vsync pulse.stamp ∷ [] → Pulses s q now made made' parts parts' acts acts'
pulse_told s q now made made' parts parts' acts acts0 acts' pulse next delivers isnt same told =
    let done = delivers isnt in
    record { stamp = Some pulse.stamp; next = next; due = done.2; told = told ∙ ap (λ (l : List Act). l ++ Vsync pulse.stamp ∷ []) same; grew = done.0; asks = done.1; plays = done.3 }

-- such a host's calls that told of nothing
pub untold_hosted : {U : Type 0} (o o' : HostOrigin U) (p p0 p' : Sender) (b : Tally) → o' ≡ o → IsHost o' p' b → o.poster ≡ p → p0 ≡ p → sends_by o'.handler p' ≡ sends_by o.handler p0 → calls_of p' ≡ calls_of p
untold_hosted o o' p p0 p' b same is began at sends =
    calls_untold o.handler p p' o.pass b (hosted_on o o' p p' b same is began)
    (subst (λ (z : Sender). sends_by o.handler p' ≡ sends_by o.handler z) at (subst (λ z. sends_by z.handler p' ≡ sends_by o.handler p0) same sends))

-- ---- what a step leaves as it was

-- nothing was sent on another queue, and no rule was counted
record StaysElsewhere (q : ℕ) (a b : LooperState) : Type 0 where
  elsewhere : (k : ℕ) → k ≢ q → sent_on k b.sent ≡ sent_on k a.sent
  fired : b.fired ≡ a.fired

stays_self : (q : ℕ) (a : LooperState) → StaysElsewhere q a a
stays_self q a = record { elsewhere = λ k isnt. refl; fired = refl }

stays_then : (q : ℕ) (a b c : LooperState) → StaysElsewhere q a b → StaysElsewhere q b c → StaysElsewhere q a c
stays_then q a b c f g = record { elsewhere = λ k isnt. g.elsewhere k isnt ∙ f.elsewhere k isnt; fired = g.fired ∙ f.fired }

stays_if : (q : ℕ) (t : Bool) (a b c : LooperState) → StaysElsewhere q a b → StaysElsewhere q a c → StaysElsewhere q a (if t then b else c)
stays_if q true a b c f g = f
stays_if q false a b c f g = g

stays_or : {X : Type 0} (q : ℕ) (o : Option X) (a : LooperState) (f : X → LooperState) → ((x : X) → StaysElsewhere q a (f x)) → StaysElsewhere q a (option_map_or f o a)
stays_or q None a f h = stays_self q a
stays_or q (Some x) a f h = h x

module _ (s : Script) (q now : ℕ) where
  stays_requested : (a : LooperState) → StaysElsewhere q a (traversal_requested s q now a)
  stays_requested a = stays_if q (is_some a.barrier) a a _ (stays_self q a) (record {
    elsewhere = λ k isnt. sent_else k a.sent (record { queue = q; ask = Asks (Barrier 0); reply = None; timing = At now }) (λ e. isnt (sym e));
    fired = refl;
  })

  stays_target : (g target : ℕ) (x : GaugeState) (a : LooperState) → StaysElsewhere q a (target_set s q now g target x a)
  stays_target g target x a =
      let moving : LooperState = and_posts_frame now animation_phase (animation_id g) (with_gauge g (record { value = x.value; target = target; animating = true }) a) in
      stays_if q (x.animating || x.value == target) a _ (traversal_requested s q now moving) (record { elsewhere = λ k isnt. refl; fired = refl })
      (stays_then q a moving (traversal_requested s q now moving) (record { elsewhere = λ k isnt. refl; fired = refl }) (stays_requested moving))

  stays_object : (g target : ℕ) (a : LooperState) → StaysElsewhere q a (object_set s q now g target a)
  stays_object g target a = stays_if q (gauge_looper s g == q) a _ a (stays_or q (slice_get a.gauges g) a (λ x. target_set s q now g target x a) (λ x. stays_target g target x a)) (stays_self q a)

  stays_moved : (g : ℕ) (x : GaugeState) (a : LooperState) → StaysElsewhere q a (gauge_moved s q now g x a)
  stays_moved g x a =
      let value : ℕ = stepped_towards (gauge_line s g).step x.target x.value in
      let there : LooperState = with_gauge g (record { value = value; target = x.target; animating = false }) a in
      let on : LooperState = with_gauge g (record x { value = value }) a in
      stays_if q (value == x.target) a (traversal_requested s q now there) (and_posts_frame now animation_phase (animation_id g) (traversal_requested s q now on))
      (stays_then q a there (traversal_requested s q now there) (record { elsewhere = λ k isnt. refl; fired = refl }) (stays_requested there))
      (let on_its_way = stays_requested on in record { elsewhere = λ k isnt. on_its_way.elsewhere k isnt; fired = on_its_way.fired })

  stays_animated : (g : ℕ) (x : GaugeState) (a : LooperState) → StaysElsewhere q a (animation_ran s q now g x a)
  stays_animated g x a = stays_if q x.animating a (gauge_moved s q now g x a) a (stays_moved g x a) (stays_self q a)

  stays_traversed : (a : LooperState) → StaysElsewhere q a (traversal_ran s q now a)
  stays_traversed a = stays_or q a.barrier a (λ k. and_sends q now (Unbars k) (record a { barrier = None; painted = a.painted ++ paints s q a.gauges })) (λ n. record {
    elsewhere = λ k isnt. sent_else k a.sent (record { queue = q; ask = Unbars n; reply = None; timing = At now }) (λ e. isnt (sym e));
    fired = refl;
  })

  stays_called : (id : ℕ) (a : LooperState) → StaysElsewhere q a (callback_ran s q now a id)
  stays_called id a = stays_if q (id == traversal_id) a (traversal_ran s q now a) _ (stays_traversed a)
      (stays_if q (nat_le 1000000 id) a _ a (stays_or q (slice_get a.gauges (id - 1000000)) a (λ x. animation_ran s q now (id - 1000000) x a) (λ x. stays_animated (id - 1000000) x a)) (stays_self q a))

  stays_batch : (ids : List ℕ) (a : LooperState) → StaysElsewhere q a (fold (callback_ran s q now) a ids)
  stays_batch [] a = stays_self q a
  stays_batch (id ∷ ids) a = stays_then q a (callback_ran s q now a id) (fold (callback_ran s q now) (callback_ran s q now a id) ids) (stays_called id a) (stays_batch ids (callback_ran s q now a id))

  stays_phase : (a : LooperState) (phase : ℕ) (ids : List ℕ) → StaysElsewhere q a (phase_ran s q now a (phase, ids))
  stays_phase a phase ids =
      let took : LooperState = and_asks (Takes phase (nanos_of now)) a in
      stays_then q a took (fold (callback_ran s q now) took ids) (record { elsewhere = λ k isnt. refl; fired = refl }) (stays_batch ids took)

  stays_phases : (first : ℕ) (phases : List (List ℕ)) (a : LooperState) → StaysElsewhere q a (fold (phase_ran s q now) a (enumerate_from first phases))
  stays_phases first [] a = stays_self q a
  stays_phases first (ids ∷ phases) a =
      stays_then q a (phase_ran s q now a (first, ids)) (fold (phase_ran s q now) (phase_ran s q now a (first, ids)) (enumerate_from (first + 1) phases)) (stays_phase a first ids)
      (stays_phases (first + 1) phases (phase_ran s q now a (first, ids)))

  stays_framed : (ids : Option (List (List ℕ))) (a : LooperState) → StaysElsewhere q a (frame_ran s q now ids a)
  stays_framed None a = stays_self q a
  stays_framed (Some phases) a =
      let begun : LooperState = and_asks (Begins (nanos_of now)) a in
      stays_then q a begun (fold (phase_ran s q now) begun (enumerate_from 0 phases)) (record { elsewhere = λ k isnt. refl; fired = refl }) (stays_phases 0 phases begun)

-- a message with an object paints nothing
painted_if : (t : Bool) (b c : LooperState) (l : List Act) → b.painted ≡ l → c.painted ≡ l → (if t then b else c).painted ≡ l
painted_if true b c l f g = f
painted_if false b c l f g = g

painted_or : {X : Type 0} (o : Option X) (a : LooperState) (f : X → LooperState) → ((x : X) → (f x).painted ≡ a.painted) → (option_map_or f o a).painted ≡ a.painted
painted_or None a f h = refl
painted_or (Some x) a f h = h x

requested_painted : (s : Script) (q now : ℕ) (a : LooperState) → (traversal_requested s q now a).painted ≡ a.painted
requested_painted s q now a = painted_if (is_some a.barrier) a _ a.painted refl refl

target_painted : (s : Script) (q now g target : ℕ) (x : GaugeState) (a : LooperState) → (target_set s q now g target x a).painted ≡ a.painted
target_painted s q now g target x a =
    let moving : LooperState = and_posts_frame now animation_phase (animation_id g) (with_gauge g (record { value = x.value; target = target; animating = true }) a) in
    painted_if (x.animating || x.value == target) _ (traversal_requested s q now moving) a.painted refl (requested_painted s q now moving)

pub object_painted : (s : Script) (q now g target : ℕ) (a : LooperState) → (object_set s q now g target a).painted ≡ a.painted
object_painted s q now g target a =
    painted_if (gauge_looper s g == q) _ a a.painted (painted_or (slice_get a.gauges g) a (λ x. target_set s q now g target x a) (λ x. target_painted s q now g target x a)) refl

-- a step of the view root is one of all that the looper has
played_shown : {lockstep : Bool} (s : Script) (q : ℕ) (step : LooperState → LooperState) (made made' : List Entry) (parts parts' : Parts)
    → StepsRoot lockstep s q step made parts.frames parts.root made' parts'.frames parts'.root → ((a : LooperState) → StaysElsewhere q a (step a)) → parts'.others ≡ parts.others
    → parts'.fired ≡ parts.fired → HasText s → (a : LooperState) → IsPlayed lockstep s q made parts a → IsPlayed lockstep s q made' parts' (step a)
played_shown s q step made made' parts parts' shows stays others fired text a is =
    let still = stays a in
    record {
      shown = shows text a is.shown;
      elsewhere = λ k j d place near. subst (λ (l : List SentCall). AreFor IsSent [] l (own (slice_index_or parts'.others.items j d))) (sym (still.elsewhere k (λ e. without_self q k j place (sym e))))
          (subst (λ (l : List Sender). AreFor IsSent [] (sent_on k a.sent) (own (slice_index_or l j d))) (sym (ap (λ v. v.items) others)) (is.elsewhere k j d place (subst (λ (l : List Sender). j < length l) (ap (λ v. v.items) others) near)));
      fired = ap (λ v. v.items) fired ∙ (is.fired ∙ sym still.fired);
      counts = ap (λ v. length v.items) fired ∙ is.counts;
    }

-- a frame whose moments pass the test is a step of all that the looper has, told at each time that a run may tell of it
abbrev PlaysFrame : Script → ℕ → ℕ → (ℕ → Bool) → Option (List (List ℕ)) → List Entry → Parts → List Entry → Parts → Type 0
PlaysFrame s q now is_moment ids made parts made' parts' =
    HasText s → (lockstep : Bool) (at : ℕ) → MayTell lockstep now at → MayTellAll lockstep is_moment at → (a : LooperState)
    → IsPlayed lockstep s q made parts a → IsPlayed lockstep s q made' parts' (frame_ran s q at ids a)

-- the same of a message's delivery
abbrev PlaysDelivery : Script → ℕ → ℕ → (ℕ → Bool) → PostData → (ℕ → LooperState → LooperState) → List Entry → Parts → List Entry → Parts → Type 0
PlaysDelivery s q now is_moment m step made parts made' parts' =
    HasText s → (lockstep : Bool) (at : ℕ) → MayTellDelivery lockstep q m now is_moment at → (a : LooperState)
    → IsPlayed lockstep s q made parts a → IsPlayed lockstep s q made' parts' (step at a)

-- a target was set by a host that was made of the looper's poster
pub set_hosted : {E : Type 0} (r : Result Unit E) (s : Script) (q now now' g target : ℕ) (p p0 : Sender) (made' : List Entry) (parts parts' : Parts)
    → OnOk r ((lockstep : Bool) (s : Script) (q at : ℕ) → MayTell lockstep now' at → StepsRoot lockstep s q (object_set s q at g target) (calls_of p0) parts.frames parts.root made' parts'.frames parts'.root)
    → now' ≡ now → p0 ≡ p → parts'.others ≡ parts.others → parts'.fired ≡ parts.fired → OnOk r (PlaysAt s q now (λ at. object_set s q at g target) (calls_of p) parts made' parts')
set_hosted (Ok u) s q now now' g target p p0 made' parts parts' shows moment same others fired = λ text lockstep at may.
    played_shown s q (object_set s q at g target) (calls_of p) made' parts parts'
    (subst (λ (z : Sender). StepsRoot lockstep s q (object_set s q at g target) (calls_of z) parts.frames parts.root made' parts'.frames parts'.root) same
    (shows lockstep s q at (λ is. may is ∙ sym moment)))
    (stays_object s q at g target) others fired text
set_hosted (Err e) s q now now' g target p p0 made' parts parts' shows moment same others fired = tt

-- a frame ran by such a host
pub frame_hosted : {E : Type 0} (r : Result Unit E) (s : Script) (q now now' interval phases : ℕ) (is_moment is_moment' : ℕ → Bool) (p p0 : Sender) (made' : List Entry) (parts parts' : Parts)
    → OnOk r ((ids : Option (List (List ℕ))) × RanFrame interval phases is_moment' parts.frames parts'.frames ids × EndsLatest parts.frames parts'.frames
    × ((lockstep : Bool) (s : Script) (q at : ℕ) → MayTell lockstep now' at → MayTellAll lockstep is_moment' at → StepsRoot lockstep s q (frame_ran s q at ids) (calls_of p0) parts.frames parts.root made' parts'.frames parts'.root))
    → interval ≡ s.period → phases ≡ phase_count s.edition → now' ≡ now → is_moment' ≡ is_moment → p0 ≡ p → parts'.others ≡ parts.others → parts'.fired ≡ parts.fired
    → OnOk r ((ids : Option (List (List ℕ))) × RanFrame s.period (phase_count s.edition) is_moment parts.frames parts'.frames ids × EndsLatest parts.frames parts'.frames
    × PlaysFrame s q now is_moment ids (calls_of p) parts made' parts')
frame_hosted (Ok u) s q now now' interval phases is_moment is_moment' p p0 made' parts parts' (ids, ran, ends, shows) period four moment uptime same others fired = (
  ids,
  subst (λ (f : ℕ → Bool). RanFrame s.period (phase_count s.edition) f parts.frames parts'.frames ids) uptime (subst (λ (n : ℕ). RanFrame s.period n is_moment' parts.frames parts'.frames ids) four (subst (λ (n : ℕ). RanFrame n phases is_moment' parts.frames parts'.frames ids) period ran)),
  ends,
  λ text lockstep at may all. played_shown s q (frame_ran s q at ids) (calls_of p) made' parts parts'
      (subst (λ (z : Sender). StepsRoot lockstep s q (frame_ran s q at ids) (calls_of z) parts.frames parts.root made' parts'.frames parts'.root) same
      (shows lockstep s q at (λ is. may is ∙ sym moment) (subst (λ (f : ℕ → Bool). MayTellAll lockstep f at) (sym uptime) all)))
      (stays_framed s q at ids) others fired text,
)
frame_hosted (Err e) s q now now' interval phases is_moment is_moment' p p0 made' parts parts' h period four moment uptime same others fired = tt

-- ---- a message was delivered

if_starts : (c h w : Bool) (x y z : LooperState) → (not c && h && w) ≡ true → (if c then x else if h then (if w then y else x) else z) ≡ y
if_starts true h w x y z is = absurd cc
if_starts false false w x y z is = absurd cc
if_starts false true false x y z is = absurd cc
if_starts false true true x y z is = refl

if_none : (c h w : Bool) (x z : LooperState) → c ≡ false → h ≡ true → (if c then x else if h then (if w then x else x) else z) ≡ x
if_none true h w x z a b = refl
if_none false false w x z a b = absurd (let wrong : false ≡ true = b in cc wrong)
if_none false true false x z a b = refl
if_none false true true x z a b = refl

if_other : (c h : Bool) (x y z : LooperState) → c ≡ false → h ≡ false → (if c then x else if h then y else z) ≡ z
if_other true h x y z a b = absurd (let wrong : true ≡ false = a in cc wrong)
if_other false true x y z a b = absurd (let wrong : true ≡ false = b in cc wrong)
if_other false false x y z a b = refl

-- the message of a frame runs it
delivered_frame : (s : Script) (q now : ℕ) (ids : Option (List (List ℕ))) (m : PostData) (a : LooperState) → starts_frame q m ≡ true → after_dispatch s q now ids m a ≡ frame_ran s q now ids a
delivered_frame s q now ids m a is = if_starts (is_some m.callback) (m.handler == frame_handler q) (m.what == 0) a (frame_ran s q now ids a) _ is

-- a message of the choreographer that runs no frame changes nothing
pub delivered_none : (s : Script) (q now : ℕ) (m : PostData) (a : LooperState) → m.callback ≡ None → m.handler ≡ frame_handler q → after_dispatch s q now None m a ≡ a
delivered_none s q now m a none mine = if_none (is_some m.callback) (m.handler == frame_handler q) (m.what == 0) a _ (ap is_some none) (eq-eqb m.handler (frame_handler q) mine)

-- a message with an object sets its target
pub delivered_object : (s : Script) (q now : ℕ) (m : PostData) (object : ℕ) (a : LooperState) → m.callback ≡ None → m.handler ≢ frame_handler q → m.obj ≡ Some object → after_dispatch s q now None m a ≡ object_set s q now object m.arg a
delivered_object s q now m object a none other some =
    if_other (is_some m.callback) (m.handler == frame_handler q) a _ _ (ap is_some none) (ne_eqb m.handler (frame_handler q) other) ∙ ap (λ (o : Option ℕ). option_map_or (λ g. object_set s q now g m.arg a) o (reacted s now m a)) some

-- any other is one for the rules
pub delivered_plain : (s : Script) (q now : ℕ) (m : PostData) (a : LooperState) → m.callback ≡ None → m.handler ≢ frame_handler q → m.obj ≡ None → after_dispatch s q now None m a ≡ reacted s now m a
delivered_plain s q now m a none other nothing =
    if_other (is_some m.callback) (m.handler == frame_handler q) a _ _ (ap is_some none) (ne_eqb m.handler (frame_handler q) other) ∙ ap (λ (o : Option ℕ). option_map_or (λ g. object_set s q now g m.arg a) o (reacted s now m a)) nothing

-- a message starts no frame that is none of the choreographer, or no such message
pub starts_none : (q : ℕ) (m : PostData) (b : Bool) → m.handler ≢ frame_handler q → (b && starts_frame q m) ≡ false
starts_none q m b other = ap (λ (h : Bool). b && (not (is_some m.callback) && h && m.what == 0)) (ne_eqb m.handler (frame_handler q) other) ∙ (ap (λ (x : Bool). b && (x && m.what == 0)) (and-false (not (is_some m.callback))) ∙ and-false b)

pub starts_quiet : (q : ℕ) (m : PostData) (b : Bool) → m.what ≢ 0 → (b && starts_frame q m) ≡ false
starts_quiet q m b isnt = ap (λ (w : Bool). b && (not (is_some m.callback) && m.handler == frame_handler q && w)) (ne_eqb m.what 0 isnt) ∙ (ap (λ (x : Bool). b && x) (and-false (not (is_some m.callback) && m.handler == frame_handler q)) ∙ and-false b)

-- what a frame painted was told, and is painted no more
pub frame_delivered : (s : Script) (q now : ℕ) (is_moment : ℕ → Bool) (m : PostData) (made made' : List Entry) (parts mid parts' : Parts) (acts acts0 acts' : List Act) (ids : Option (List (List ℕ)))
    → starts_frame q m ≡ true → parts.awaits ≡ true → parts'.awaits ≡ false → RanFrame s.period (phase_count s.edition) is_moment parts.frames mid.frames ids → EndsLatest parts.frames mid.frames
    → PlaysFrame s q now is_moment ids made parts made' mid → acts0 ≡ acts → acts' ≡ acts0 ++ map paint_of mid.root.painted.items → parts'.frames ≡ mid.frames → parts'.others ≡ mid.others → parts'.fired ≡ mid.fired
    → parts'.root.gauges ≡ mid.root.gauges → parts'.root.barrier ≡ mid.root.barrier → parts'.root.edition ≡ mid.root.edition → parts'.root.painted.items ≡ [] → Delivers s q now is_moment m made made' parts parts' acts acts'
frame_delivered s q now is_moment m made made' parts mid parts' acts acts0 acts' ids starts awaited over ran ends plays same told frames others fired gauges barrier edition none = record {
  ids = ids;
  ran = record {
    frame = ran.frame;
    framed = subst (λ (f : Pass). IsFrameBy s.period (phase_count s.edition) parts.frames f ran.frame ids) (sym frames) ran.framed;
    within = subst (λ (f : Pass). place_after 0 ran.frame ≤ length f.view.seen) (sym frames) ran.within;
    grew = subst (λ (f : Pass). IsPrefix parts.frames.view.seen f.view.seen) (sym frames) ran.grew;
    stamped = λ stamp waits has. subst (λ (f : Pass). IsStampedBy f ran.frame stamp) (sym frames) (ran.stamped stamp waits has);
    in_time = subst (λ (f : Pass). RunsInTime is_moment parts.frames f ran.frame) (sym frames) ran.in_time;
    last = subst (λ (f : Pass). BeginsNoneBehind parts.frames f ran.frame) (sym frames) ran.last;
  };
  starts = ap (λ (t : Bool). not (is_some ran.frame) || t) starts ∙ or-true (not (is_some ran.frame));
  awaited = ap (λ (t : Bool). not (is_some ran.frame) || t) awaited ∙ or-true (not (is_some ran.frame));
  waits = record {
    waits = over ∙ sym (ap (λ (t : Bool). parts.awaits && not t) starts ∙ and-false parts.awaits);
    latest = λ stamp has. subst (λ (b : Bool). HasLatest parts'.frames stamp b) (sym over) (subst (λ (f : Pass). HasLatest f stamp false) (sym frames) (ends stamp (subst (HasLatest parts.frames stamp) awaited has)));
  };
  plays = λ text lockstep at may a unpainted is. (
      let b : LooperState = frame_ran s q at ids a in
      let done : IsPlayed lockstep s q made' mid b = plays text lockstep at may.time may.frame a is in
      let root = done.shown.stands in
      subst (λ (z : LooperState). IsPlayed lockstep s q made' parts' (record z { painted = [] }) × (acts' ≡ acts ++ z.painted)) (sym (delivered_frame s q at ids m a starts)) (
        record {
          shown = record {
            calls = done.shown.calls;
            asked = subst (λ (f : Pass). PassHasAsked lockstep f b.asked) (sym frames) done.shown.asked;
            stands = record {
              edition = edition ∙ root.edition;
              gauges = ap (λ v. map standing v.items) gauges ∙ root.gauges;
              lines = ap (λ v. map gauge_fixed v.items) gauges ∙ root.lines;
              barrier = subst (IsBarrierOf (tokens_in made') b.barrier) (sym barrier) root.barrier;
              barriers = root.barriers;
              painted = ap (map paint_of) none;
            };
          };
          elsewhere = λ k j d place near. subst (λ (l : List Sender). AreFor IsSent [] (sent_on k b.sent) (own (slice_index_or l j d))) (sym (ap (λ v. v.items) others)) (done.elsewhere k j d place (subst (λ (l : List Sender). j < length l) (ap (λ v. v.items) others) near));
          fired = ap (λ v. v.items) fired ∙ done.fired;
          counts = ap (λ v. length v.items) fired ∙ done.counts;
        },
        told ∙ (λ i. same i ++ root.painted i),
      ));
}

-- a message that begins no frame and paints nothing
pub step_delivered : (s : Script) (q now : ℕ) (is_moment : ℕ → Bool) (m : PostData) (made made' : List Entry) (parts parts' : Parts) (acts acts' : List Act) (step : ℕ → LooperState → LooperState)
    → IsPrefix parts.frames.view.seen parts'.frames.view.seen → AwaitsBehind q m parts parts' → KeepsLatest parts.frames parts'.frames → SeesQuietly parts.frames parts'.frames
    → ((at : ℕ) (a : LooperState) → after_dispatch s q at None m a ≡ step at a) → ((at : ℕ) (a : LooperState) → (step at a).painted ≡ a.painted)
    → PlaysDelivery s q now is_moment m step made parts made' parts' → acts' ≡ acts → Delivers s q now is_moment m made made' parts parts' acts acts'
step_delivered s q now is_moment m made made' parts parts' acts acts' step grew waits keeps quiet is_step still plays same = record {
  ids = None;
  ran = record {
    frame = None;
    framed = λ fs begins is. (refl, refl);
    within = omega arith;
    grew = grew;
    stamped = λ stamp w has fs begins. refl;
    in_time = still_in_time is_moment parts.frames parts'.frames keeps quiet;
    last = λ c e named first le none. last_quietly first parts.frames.view.seen parts'.frames.view.seen (quiet c e named) le none;
  };
  starts = refl;
  awaited = refl;
  waits = waits;
  plays = λ text lockstep at may a unpainted is. (
      let b : LooperState = step at a in
      let nothing : b.painted ≡ [] = still at a ∙ unpainted in
      subst (λ (z : LooperState). IsPlayed lockstep s q made' parts' (record z { painted = [] }) × (acts' ≡ acts ++ z.painted)) (sym (is_step at a)) (
        subst (λ (l : List Act). IsPlayed lockstep s q made' parts' (record b { painted = l })) nothing (plays text lockstep at may a is),
        same ∙ (sym (append-nil acts) ∙ ap (λ (l : List Act). acts ++ l) (sym nothing)),
      ));
}

-- a message that starts no frame leaves what is awaited as it was, and so does one for whose frame no pulse came
pub waits_still : (q : ℕ) (m : PostData) (parts parts' : Parts) → (parts.awaits && starts_frame q m) ≡ false → KeepsLatest parts.frames parts'.frames → parts'.awaits ≡ parts.awaits → AwaitsBehind q m parts parts'
waits_still q m parts parts' isnt keeps same = record {
  waits = same ∙ sym (kept parts.awaits (starts_frame q m) isnt);
  latest = λ stamp has. subst (HasLatest parts'.frames stamp) (sym same) (keeps stamp parts.awaits has);
}
  where
    kept : (a b : Bool) → (a && b) ≡ false → (a && not b) ≡ a
    kept false b isnt = refl
    kept true false isnt = refl
    kept true true isnt = absurd (let wrong : true ≡ false = isnt in cc wrong)

-- the same where the pass is as it was
pub still_delivered : (s : Script) (q now : ℕ) (is_moment : ℕ → Bool) (m : PostData) (made made' : List Entry) (parts parts' : Parts) (acts acts' : List Act) (step : ℕ → LooperState → LooperState)
    → parts'.frames ≡ parts.frames → parts'.awaits ≡ parts.awaits → (parts.awaits && starts_frame q m) ≡ false
    → ((at : ℕ) (a : LooperState) → after_dispatch s q at None m a ≡ step at a) → ((at : ℕ) (a : LooperState) → (step at a).painted ≡ a.painted)
    → PlaysDelivery s q now is_moment m step made parts made' parts' → acts' ≡ acts → Delivers s q now is_moment m made made' parts parts' acts acts'
still_delivered s q now is_moment m made made' parts parts' acts acts' step frames awaits isnt is_step still plays same =
    step_delivered s q now is_moment m made made' parts parts' acts acts' step (subst (λ (f : Pass). IsPrefix parts.frames.view.seen f.view.seen) (sym frames) (prefix_self parts.frames.view.seen))
    (waits_still q m parts parts' isnt keeps awaits) keeps quiet is_step still plays same
  where
    keeps : KeepsLatest parts.frames parts'.frames
    keeps = subst (KeepsLatest parts.frames) (sym frames) (λ stamp w has. has)

    quiet : SeesQuietly parts.frames parts'.frames
    quiet = subst (SeesQuietly parts.frames) (sym frames) (λ c e named. grows_self parts.frames.view.seen)

-- one paint more was told
pub painted_more : (acts0 acts : List Act) (ps : List Painted) (i : ℕ) (d : Painted) → i < length ps → acts ≡ acts0 ++ map paint_of (take i ps) → acts ++ paint_of (get_or ps i d) ∷ [] ≡ acts0 ++ map paint_of (take (i + 1) ps)
painted_more acts0 acts ps i d near is =
    let more : map paint_of (take (i + 1) ps) ≡ map paint_of (take i ps) ++ paint_of (get_or ps i d) ∷ [] = ap (map paint_of) (take_more ps i d near) ∙ map-append paint_of (take i ps) (get_or ps i d ∷ []) in
    ap (λ (l : List Act). l ++ paint_of (get_or ps i d) ∷ []) is ∙ (append_assoc acts0 (map paint_of (take i ps)) (paint_of (get_or ps i d) ∷ []) ∙ ap (λ (l : List Act). acts0 ++ l) (sym more))
