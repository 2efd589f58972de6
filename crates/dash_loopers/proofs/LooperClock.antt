-- What a looper's steps call by a clock: the rules call nothing that has a moment, and what else is called has the moment of the step.
use Rattle.std.proofs.Common.{◌≡◌, ◌≢◌, ℕ, ◌<◌, ◌/◌, Bool, true, false, List, [], ◌++◌, map, length, get_or, set, Option, Some, None, refl, sym, ap, ◌∙◌, subst, arith, eq-eqb, ne_eqb}
use Rattle.std.specs.Prelude.{◌==◌, ◌&&◌, not, is_some, slice_get, Result, Ok, Err, OnOk, OnErr}
use Rattle.std.proofs.Math.Bool.{and-false}
use Rattle.std.proofs.lemmas.List.{append-nil, length-map, get_or-map, get_or-set_same, get_or-set_other}
use Rattle.std.proofs.lemmas.Option.{slice_get_within, get_or_from_slice_get}
use mathlib.Core.Logic.{dite}
use native.Mathlib.Decide.{ℕ_discrete}
use Rattle.loop_model.specs.declared.post.Post.{Post as PostData}
use Rattle.loop_model.specs.declared.call.Call.{Call}
use Rattle.loop_model.specs.declared.call.Call.TheVariants.{Post}
use Rattle.message_pool.specs.Passes.{Tally}
use Rattle.looper_run.specs.Holding.{Sender}
use Rattle.choreographer.specs.declared.host.HostSent.{HostSent}
use Rattle.choreographer.specs.declared.host.HostSent.TheVariants as host
use Rattle.choreographer.specs.declared.hosted.Pulse.{Pulse}
use Rattle.choreographer.specs.Host.{added_sends}
use Rattle.choreographer.specs.Known.{Pass}
use Rattle.choreographer.specs.Calls.{PulsedBy}
use Rattle.run_model.specs.Moments.{Mode, has_moment}
use Rattle.run_model.specs.Planned.{frame_handler}
use Rattle.dash_hall.specs.Growth.{own, GoesOn, Makes}
use Rattle.dash_hall.specs.Hosts.{HostOrigin, IsHost, sends_by}
use Rattle.dash_hall.specs.ByClock.{AddsByClock, AddsAt}
use Rattle.dash_hall.proofs.FramePosts.{accepted, refused, told_one, told_none}
use Rattle.dash_hall.proofs.HostClock.{adds_none, adds_then, adds_call, adds_nothing, begins_by_clock}
use Rattle.dash_loopers.specs.declared.player.Parts.{Parts}
use Rattle.dash_loopers.specs.Clocked.{AddsUntimed, AreUntimed, CallsUntimed, DeliversAt}
use Rattle.dash_loopers.specs.Loopers.{goes_to_rules}
use Rattle.dash_loopers.proofs.LooperLists.{map_set_same}
use Rattle.dash_loopers.proofs.PlaySteps.{hosted_on}

-- ---- posters that called nothing with a moment

pub untimed_self : (p q : Sender) → q ≡ p → AddsUntimed p q
untimed_self p q same = λ m. adds_none m p q (ap (λ (z : Sender). z.view.seen) same)

pub untimed_same : (xs ys : List Sender) → ys ≡ xs → AreUntimed xs ys
untimed_same xs ys same = subst (AreUntimed xs) (sym same) (record { senders = refl; each = λ j d near. untimed_self (get_or xs j d) (get_or xs j d) refl })

-- the sender of one of them, by its place
pub sender_at : (xs ys : List Sender) (j : ℕ) (d : Sender) → map (λ p. p.sender) ys ≡ map (λ p. p.sender) xs → j < length xs → (get_or ys j d).sender ≡ (get_or xs j d).sender
sender_at xs ys j d same near =
    let long : length ys ≡ length xs = sym (length-map ys (λ (p : Sender). p.sender)) ∙ (ap length same ∙ length-map xs (λ (p : Sender). p.sender)) in
    sym (get_or-map (λ (p : Sender). p.sender) ys j d 0 (omega (arith, near, long)))
    ∙ (ap (λ (l : List ℕ). get_or l j 0) same ∙ get_or-map (λ (p : Sender). p.sender) xs j d 0 near)

pub untimed_length : (xs ys : List Sender) → AreUntimed xs ys → length ys ≡ length xs
untimed_length xs ys h = sym (length-map ys (λ (p : Sender). p.sender)) ∙ (ap length h.senders ∙ length-map xs (λ (p : Sender). p.sender))

pub untimed_then : (xs ys zs : List Sender) → AreUntimed xs ys → AreUntimed ys zs → AreUntimed xs zs
untimed_then xs ys zs f g = record {
  senders = g.senders ∙ f.senders;
  each = λ j d near m.
      let long = untimed_length xs ys f in
      adds_then m (get_or xs j d) (get_or ys j d) (get_or zs j d) (sender_at xs ys j d f.senders near) (f.each j d near m) (g.each j d (omega (arith, near, long)) m);
}

-- one of them called so, and the others are as they were
pub untimed_put : (xs : List Sender) (i : ℕ) (x y : Sender) → slice_get xs i ≡ Some x → y.sender ≡ x.sender → AddsUntimed x y → AreUntimed xs (set xs i y)
untimed_put xs i x y at sender adds = record {
  senders = map_set_same (λ (p : Sender). p.sender) xs i x y at sender;
  each = λ j d near. dite (ℕ_discrete j i)
      (λ e. subst (λ (k : ℕ). AddsUntimed (get_or xs k d) (get_or (set xs i y) k d)) (sym e)
      (subst (λ (z : Sender). AddsUntimed z (get_or (set xs i y) i d)) (sym (get_or_from_slice_get xs i x d at))
      (subst (λ (z : Sender). AddsUntimed x z) (sym (get_or-set_same xs i y d (slice_get_within xs i x at))) adds)))
      (λ not. untimed_self (get_or xs j d) (get_or (set xs i y) j d) (get_or-set_other xs i j y d not));
}

pub calls_untimed_self : (p q : Sender) (a b : Parts) → q ≡ p → b.others ≡ a.others → CallsUntimed p q a b
calls_untimed_self p q a b same others = record { own = untimed_self p q same; others = untimed_same a.others.items b.others.items (ap (λ v. v.items) others) }

pub calls_untimed_then : (p q r : Sender) (a b c : Parts) → q.sender ≡ p.sender → CallsUntimed p q a b → CallsUntimed q r b c → CallsUntimed p r a c
calls_untimed_then p q r a b c sender f g = record {
  own = λ m. adds_then m p q r sender (f.own m) (g.own m);
  others = untimed_then a.others.items b.others.items c.others.items f.others g.others;
}

-- the parts before are the same but for the rule counts
pub calls_untimed_from : (p q : Sender) (a b c : Parts) → b.others ≡ a.others → CallsUntimed p q b c → CallsUntimed p q a c
calls_untimed_from p q a b c same h = record { own = h.own; others = subst (λ (l : List Sender). AreUntimed l c.others.items) (ap (λ v. v.items) same) h.others }

-- ---- one call

-- a call without a moment was made, or none
pub made_untimed : {A E : Type 0} (p q : Sender) (a b : Tally) (c : Call) (r : Result A E) → GoesOn p q a b → has_moment c ≡ false → OnOk r (Makes p q c []) → OnErr r (own q ≡ own p) → AddsUntimed p q
made_untimed p q a b c (Ok x) g none made same = λ m. adds_call m p q a b c [] g none made
made_untimed p q a b c (Err e) g none made same = λ m. adds_nothing m p q a b g same

frame_untimed : (h w : ℕ) (answer : HostSent) (p q : Sender) (a b : Tally) → GoesOn p q a b → sends_by h q ≡ sends_by h p ++ added_sends 0 0 w answer → AddsUntimed p q
frame_untimed h w host.Accepted p q a b goes sends = λ m.
    adds_call m p q a b (Post (record { handler = h; what = 0; arg = 0; obj = None; callback = None; when = w; asynchronous = true; slot = None })) [] goes refl (told_one h 0 0 w host.Accepted p q a b goes accepted sends)
frame_untimed h w host.Refused p q a b goes sends = λ m.
    adds_call m p q a b (Post (record { handler = h; what = 0; arg = 0; obj = None; callback = None; when = w; asynchronous = true; slot = None })) [] goes refl (told_one h 0 0 w host.Refused p q a b goes refused sends)
frame_untimed h w host.NoMemory p q a b goes sends = λ m. adds_nothing m p q a b goes (told_none h p q a b goes (sends ∙ append-nil (sends_by h p)))

-- a pulse sends its frame message, or nothing
pulse_untimed : (h : ℕ) (is_moment : ℕ → Bool) (p q : Sender) (a b : Tally) (f g : Pass) (r : Option Pulse) → GoesOn p q a b → PulsedBy f g is_moment (sends_by h p) (sends_by h q) r → AddsUntimed p q
pulse_untimed h is_moment p q a b f g None goes (x, y, k, t, moment, (none, left, sends)) = λ m. adds_nothing m p q a b goes (told_none h p q a b goes sends)
pulse_untimed h is_moment p q a b f g (Some pulse) goes (x, y, k, t, moment, (some, left, sends)) = frame_untimed h (pulse.stamp / 1000000) pulse.sent p q a b goes sends

-- the same by a host that was made of the looper's poster
pub pulse_untimed_hosted : {U : Type 0} (o o' : HostOrigin U) (is_moment : ℕ → Bool) (p p0 q : Sender) (b : Tally) (f g : Pass) (r : Option Pulse) → o' ≡ o → IsHost o' q b → o.poster ≡ p → p0 ≡ p
    → PulsedBy f g is_moment (sends_by o.handler p0) (sends_by o'.handler q) r → AddsUntimed p q
pulse_untimed_hosted o o' is_moment p p0 q b f g r same is began at pulse =
    pulse_untimed o.handler is_moment p q o.pass b f g r (hosted_on o o' p q b same is began)
    (subst (λ (z : Sender). PulsedBy f g is_moment (sends_by o.handler z) (sends_by o.handler q) r) at
    (subst (λ z. PulsedBy f g is_moment (sends_by o.handler p0) (sends_by z.handler q) r) same pulse))

-- ---- a message

pub rules_not_frame : (q : ℕ) (m : PostData) → m.handler ≡ frame_handler q → goes_to_rules q m ≡ false
rules_not_frame q m is = ap (λ (b : Bool). not b && not (is_some m.obj)) (eq-eqb m.handler (frame_handler q) is)

pub rules_not_object : (q : ℕ) (m : PostData) (object : ℕ) → m.obj ≡ Some object → goes_to_rules q m ≡ false
rules_not_object q m object is = ap (λ (o : Option ℕ). not (m.handler == frame_handler q) && not (is_some o)) is ∙ and-false (not (m.handler == frame_handler q))

pub rules_plain : (q : ℕ) (m : PostData) → m.handler ≢ frame_handler q → m.obj ≡ None → goes_to_rules q m ≡ true
rules_plain q m isnt none = ap (λ (o : Option ℕ). not (m.handler == frame_handler q) && not (is_some o)) none ∙ ap (λ (b : Bool). not b && true) (ne_eqb m.handler (frame_handler q) isnt)

pub delivers_nothing_at : (q u : ℕ) (m : PostData) (p : Sender) (a : Parts) → DeliversAt q u m p p a a
delivers_nothing_at q u m p a = record { rules = λ is. untimed_self p p refl; timed = λ isnt. begins_by_clock u p p refl; others = untimed_same a.others.items a.others.items refl }

-- it doesn't go to the rules
pub delivers_timed : (q u : ℕ) (m : PostData) (p p' : Sender) (a b : Parts) → goes_to_rules q m ≡ false → AddsAt u p p' → b.others ≡ a.others → DeliversAt q u m p p' a b
delivers_timed q u m p p' a b isnt adds others = record {
  rules = λ is. absurd (let wrong : false ≡ true = sym isnt ∙ is in cc);
  timed = λ _. adds;
  others = untimed_same a.others.items b.others.items (ap (λ v. v.items) others);
}

-- it goes there
pub delivers_untimed : (q u : ℕ) (m : PostData) (p p' : Sender) (a b : Parts) → goes_to_rules q m ≡ true → CallsUntimed p p' a b → DeliversAt q u m p p' a b
delivers_untimed q u m p p' a b is calls = record {
  rules = λ _. calls.own;
  timed = λ isnt. absurd (let wrong : false ≡ true = sym isnt ∙ is in cc);
  others = calls.others;
}

pub rules_some : (q : ℕ) (m : PostData) → is_some m.obj ≡ true → goes_to_rules q m ≡ false
rules_some q m is = ap (λ (b : Bool). not (m.handler == frame_handler q) && not b) is ∙ and-false (not (m.handler == frame_handler q))

pub rules_none : (q : ℕ) (m : PostData) → m.handler ≢ frame_handler q → is_some m.obj ≡ false → goes_to_rules q m ≡ true
rules_none q m isnt none = ap (λ (b : Bool). not (m.handler == frame_handler q) && not b) none ∙ ap (λ (b : Bool). not b && true) (ne_eqb m.handler (frame_handler q) isnt)

-- the bell was rung behind it
adds_rung : (m : Mode) (p p' r : Sender) → r.view.seen ≡ p'.view.seen → AddsByClock m p p' → AddsByClock m p r
adds_rung m p p' r same a = record { more = a.more; seen = same ∙ a.seen; clocked = a.clocked }

pub delivers_rung : (q u : ℕ) (m : PostData) (p p' r : Sender) (a b : Parts) → r.view.seen ≡ p'.view.seen → DeliversAt q u m p p' a b → DeliversAt q u m p r a b
delivers_rung q u m p p' r a b same d = record {
  rules = λ is mode. adds_rung mode p p' r same (d.rules is mode);
  timed = λ isnt mode free on moment. adds_rung mode p p' r same (d.timed isnt mode free on moment);
  others = d.others;
}
