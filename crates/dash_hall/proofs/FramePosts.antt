-- The frame callbacks that a sender posts.
use Rattle.std.proofs.Common.{◌≡◌, ℕ, zero, suc, ◌+◌, ◌-◌, ◌*◌, ◌/◌, ◌^◌, ◌<◌, ◌≤◌, ◌==◌, min, Bool, true, false, List, [], ◌∷◌, ◌++◌, map, Option, Some, None, refl, sym, ap, ◌∙◌, subst, arith, ne_eqb}
use Rattle.std.specs.Prelude.{◌&&◌, nat_lt, is_none, MatchBool, if◌then◌else◌}
use mathlib.Core.Logic.{dite}
use native.Mathlib.Decide.{dec_lt}
use Rattle.std.proofs.lemmas.Bool.{eqb-true, lt-ltb, ltb-true, and_parts}
use Rattle.std.proofs.lemmas.List.Elements.{filter-append, filter_map-append}
use Rattle.std.proofs.lemmas.List.{append-nil}
use Rattle.std.proofs.Math.Nat.{mul-div_cancel, div-mul-le_self}
use Rattle.std.proofs.lemmas.Nat.{le-div}
use Rattle.loop_model.specs.declared.post.Post.{Post as PostData}
use Rattle.loop_model.specs.declared.call.Call.{Call}
use Rattle.loop_model.specs.declared.call.Call.TheVariants.{Post, Barrier, Unbarrier, Remove, Quit, Next, Advance, Halt}
use Rattle.loop_model.specs.declared.reply.Reply.{Reply}
use Rattle.loop_model.specs.declared.reply.Reply.TheVariants.{Accepted, Refused, Token, Unbarriered, NotPosted, Removed, QuitDone, AlreadyQuit, NotAllowed, Dispatched, Disposed, Advanced, Halted}
use Rattle.loop_model.specs.declared.entry.Entry.{Entry}
use Rattle.message_pool.specs.Passes.{Tally}
use Rattle.frame_phases.specs.declared.entry.Callback.{Callback}
use Rattle.frame_phases.specs.declared.entry.FrameEntry.TheVariants as frame
use Rattle.frame_phases.specs.declared.entry.Scheduling.{Scheduling}
use Rattle.frame_phases.specs.declared.entry.Scheduling.TheVariants as sched
use Rattle.frame_phases.specs.State.{Frames, with_entry, next_callback, scheduling, posted}
use Rattle.frame_phases.specs.Pulses.{pulse}
use Rattle.looper_run.specs.Holding.{Sender}
use Rattle.choreographer.specs.declared.state.StampedFrames.{StampedFrames}
use Rattle.choreographer.specs.declared.host.Sending.{Sending}
use Rattle.choreographer.specs.declared.host.HostSent.{HostSent}
use Rattle.choreographer.specs.declared.host.HostSent.TheVariants as host
use Rattle.choreographer.specs.declared.hosted.Placed.TheVariants as placed
use Rattle.choreographer.specs.Known.{Pass, IsFrameTurn}
use Rattle.choreographer.specs.Steps.{known_by, posting_moment}
use Rattle.choreographer.specs.Calls.{due_at, with_post}
use Rattle.choreographer.proofs.Recorded.{turn_records}
use Rattle.run_model.specs.Planned.{bare_call, token_in, entries_by, frame_due}
use Rattle.run_model.specs.FrameRecords.{nanos_of, FrameAsk, Posts, Removes, Begins, Takes, asked_in, asks_in, as_told}
use Rattle.loop_model.proofs.Options.{none_is}
use Rattle.dash_hall.specs.Growth.{own, GoesOn, Makes}
use Rattle.dash_hall.specs.Hosts.{is_sending, not_sent, sent_as, told_by, sends_by, AsksFor, PlacesBy, PostsFrame}

-- ---- what a posting records

entries_if : (t : Frames) (a b : Bool) (o : Option ℕ) → (if a then t else (if b then t else record t { scheduled = true; asked = o })).entries ≡ t.entries
entries_if t true b o = refl
entries_if t false true o = refl
entries_if t false false o = refl

posted_entries : (s : Frames) (c : Callback) (now : ℕ) → (posted s c now).entries ≡ s.entries ++ frame.Posted c ∷ []
posted_entries s c now = entries_if (with_entry s (frame.Posted c)) (nat_lt (now / 1000000) c.due) s.scheduled (Some (pulse s.interval now))

-- ---- moments

millis_of : (u : ℕ) → nanos_of u / 1000000 ≡ min u 18446744073709
millis_of u = dite (dec_lt u 18446744073710)
    (λ lt. (
    let near : nanos_of u ≡ u * 1000000 = omega (arith, lt) in
    let least : u ≡ min u 18446744073709 = omega (arith, lt) in
    let some : 0 < 1000000 = omega arith in
    ap (λ (n : ℕ). n / 1000000) near ∙ (mul-div_cancel u some ∙ least)))
    (λ far. (
    let most : nanos_of u ≡ 18446744073709551615 = omega (arith, far) in
    let least : 18446744073709 ≡ min u 18446744073709 = omega (arith, far) in
    ap (λ (n : ℕ). n / 1000000) most ∙ least))

-- a callback that is due is not for later
if_now : (a b : Bool) (x : Scheduling) (p due : ℕ) → (if a then sched.Later due else (if b then sched.Already else sched.Asked p)) ≡ x → (x ≡ sched.Later due → ⊥) → a ≡ false
if_now true b x p due is other = absurd (other (sym is))
if_now false b x p due is other = refl

if_later : (a b : Bool) (p due : ℕ) → (if a then sched.Later due else (if b then sched.Already else sched.Asked p)) ≡ sched.Later due → a ≡ true
if_later true b p due is = refl
if_later false true p due is = absurd cc
if_later false false p due is = absurd cc

-- a callback that was not posted for later is due by the clock as it was read
posted_soon : (x : StampedFrames) (due now : ℕ) (r : Scheduling) → scheduling x.frames due (posting_moment x due now) ≡ r → (r ≡ sched.Later due → ⊥) → nat_lt (now / 1000000) due ≡ false
posted_soon x due now r is other = go (nat_lt (now / 1000000) due) refl is where
  go : (t : Bool) → nat_lt (now / 1000000) due ≡ t → scheduling x.frames due (if t then now else known_by x now) ≡ r → t ≡ false
  go true e is = sym e ∙ if_now _ _ _ _ _ is other
  go false e is = refl

-- one that was is not
posted_later : (x : StampedFrames) (due now : ℕ) → scheduling x.frames due (posting_moment x due now) ≡ sched.Later due → nat_lt (now / 1000000) due ≡ true
posted_later x due now is = go (nat_lt (now / 1000000) due) refl is where
  go : (t : Bool) → nat_lt (now / 1000000) due ≡ t → scheduling x.frames due (if t then now else known_by x now) ≡ sched.Later due → t ≡ true
  go true e is = refl
  go false e is =
      let later = ltb-true (known_by x now / 1000000) due (if_later _ _ _ _ is) in
      let no_sooner : now / 1000000 ≤ known_by x now / 1000000 = le-div (now / 1000000) (known_by x now) 1000000 (omega arith) (omega (arith, div-mul-le_self now 1000000)) in
      sym e ∙ lt-ltb (now / 1000000) due (omega (arith, later, no_sooner))

no_delay : (u delay due now : ℕ) → now ≡ nanos_of u → due ≡ due_at now delay → nat_lt (now / 1000000) due ≡ false → (delay == 0) ≡ true
no_delay u delay due now is at isnt = go delay refl
  where
    go : (d : ℕ) → delay ≡ d → (d == 0) ≡ true
    go zero e = refl
    go (suc d) e = (
        let millis : now / 1000000 ≡ min u 18446744073709 = ap (λ (n : ℕ). n / 1000000) is ∙ millis_of u in
        let same : due ≡ min (min u 18446744073709 + delay) (2 ^ 64 - 1) = at ∙ ap (λ (n : ℕ). min (n + delay) (2 ^ 64 - 1)) millis in
        let lt : now / 1000000 < due = omega (arith, millis, same, e) in
        absurd (let wrong : true ≡ false = sym (lt-ltb (now / 1000000) due lt) ∙ isnt in cc wrong))

some_delay : (u delay due now : ℕ) → now ≡ nanos_of u → due ≡ due_at now delay → nat_lt (now / 1000000) due ≡ true → (delay == 0) ≡ false
some_delay u delay due now is at after = go delay refl
  where
    go : (d : ℕ) → delay ≡ d → (d == 0) ≡ false
    go (suc d) e = ne_eqb (suc d) 0 (λ same. absurd (omega (arith, same)))
    go zero e = (
        let millis : now / 1000000 ≡ min u 18446744073709 = ap (λ (n : ℕ). n / 1000000) is ∙ millis_of u in
        let same : due ≡ min (min u 18446744073709 + delay) (2 ^ 64 - 1) = at ∙ ap (λ (n : ℕ). min (n + delay) (2 ^ 64 - 1)) millis in
        let lt : now / 1000000 < due = ltb-true (now / 1000000) due after in
        absurd (omega (arith, millis, same, e, lt)))

-- ---- what the host told

none_more : {A B : Type 0} (f : A → B) (xs ys : List A) → map f (xs ++ ys) ≡ map f xs → ys ≡ []
none_more f [] [] is = refl
none_more f [] (y ∷ ys) is = absurd cc
none_more f (x ∷ xs) ys is = none_more f xs ys (cc is)

one_more : {A B : Type 0} (f : A → B) (xs ys : List A) (b : B) → map f (xs ++ ys) ≡ map f xs ++ b ∷ [] → (y : A) × (ys ≡ y ∷ []) × (f y ≡ b)
one_more f [] [] b is = absurd cc
one_more f [] (y ∷ []) b is = (y, refl, cc is)
one_more f [] (y ∷ z ∷ ys) b is = absurd cc
one_more f (x ∷ xs) ys b is = one_more f xs ys b (cc is)

pub own_more : (p q : Sender) (a b : Tally) (g : GoesOn p q a b) → own q ≡ own p ++ entries_by p.sender g.more
own_more p q a b g = (λ i. entries_by (g.sender i) (g.seen i)) ∙ filter-append (λ (e : Entry). e.sender == p.sender) p.view.seen g.more

-- a message that was told of as this send
record IsSent (h what arg when : ℕ) (c : Call) (r : Reply) : Type 0 where
  call : bare_call c ≡ Post (record { handler = h; what = what; arg = arg; obj = None; callback = None; when = when; asynchronous = true; slot = None })
  tokens : token_in r ≡ []

fields : (h what arg when : ℕ) (q : PostData) (r : Reply) → is_sending h q ≡ true → q.what ≡ what → q.arg ≡ arg → q.when ≡ when → token_in r ≡ [] → IsSent h what arg when (Post q) r
fields h what arg when q r is a b c none =
    let x = and_parts (q.handler == h && q.asynchronous && is_none q.obj) (is_none q.callback) is in
    let y = and_parts (q.handler == h && q.asynchronous) (is_none q.obj) x.0 in
    let z = and_parts (q.handler == h) q.asynchronous y.0 in
    record {
      call = λ i. Post (record { handler = eqb-true q.handler h z.0 i; what = a i; arg = b i; obj = none_is q.obj y.1 i; callback = none_is q.callback x.1 i; when = c i; asynchronous = z.1 i; slot = None });
      tokens = none;
    }

-- the two answers that a queue gives to a message
pub data IsTaken : HostSent → Type 0 where
  accepted : IsTaken host.Accepted
  refused : IsTaken host.Refused

untold : (what arg when : ℕ) (answer : HostSent) → IsTaken answer → not_sent ≡ record { what = what; arg = arg; when = when; answer = answer } → ⊥
untold what arg when host.Accepted accepted is = (let wrong : host.NoMemory ≡ host.Accepted = ap (λ (s : Sending). s.answer) is in absurd (cc wrong))
untold what arg when host.Refused refused is = (let wrong : host.NoMemory ≡ host.Refused = ap (λ (s : Sending). s.answer) is in absurd (cc wrong))
untold what arg when host.NoMemory taken is = elim taken [ ]

sent_message : (h what arg when : ℕ) (answer : HostSent) (q : PostData) (r : Reply) → IsTaken answer → (b : Bool) → is_sending h q ≡ b → (if b then sent_as q r else not_sent) ≡ record { what = what; arg = arg; when = when; answer = answer } → IsSent h what arg when (Post q) r
sent_message h what arg when answer q r taken false isnt is = absurd (untold what arg when answer taken is)
sent_message h what arg when answer q (Accepted n) taken true sends is = fields h what arg when q (Accepted n) sends (ap (λ (s : Sending). s.what) is) (ap (λ (s : Sending). s.arg) is) (ap (λ (s : Sending). s.when) is) refl
sent_message h what arg when answer q (Refused n) taken true sends is = fields h what arg when q (Refused n) sends (ap (λ (s : Sending). s.what) is) (ap (λ (s : Sending). s.arg) is) (ap (λ (s : Sending). s.when) is) refl
sent_message h what arg when answer q (Token k) taken true sends is = absurd (untold what arg when answer taken is)
sent_message h what arg when answer q (Unbarriered) taken true sends is = absurd (untold what arg when answer taken is)
sent_message h what arg when answer q (NotPosted) taken true sends is = absurd (untold what arg when answer taken is)
sent_message h what arg when answer q (Removed k) taken true sends is = absurd (untold what arg when answer taken is)
sent_message h what arg when answer q (QuitDone) taken true sends is = absurd (untold what arg when answer taken is)
sent_message h what arg when answer q (AlreadyQuit k) taken true sends is = absurd (untold what arg when answer taken is)
sent_message h what arg when answer q (NotAllowed) taken true sends is = absurd (untold what arg when answer taken is)
sent_message h what arg when answer q (Dispatched k) taken true sends is = absurd (untold what arg when answer taken is)
sent_message h what arg when answer q (Disposed) taken true sends is = absurd (untold what arg when answer taken is)
sent_message h what arg when answer q (Advanced) taken true sends is = absurd (untold what arg when answer taken is)
sent_message h what arg when answer q (Halted) taken true sends is = absurd (untold what arg when answer taken is)

sent_call : (h what arg when : ℕ) (answer : HostSent) (c : Call) (r : Reply) → IsTaken answer → told_by h c r ≡ record { what = what; arg = arg; when = when; answer = answer } → IsSent h what arg when c r
sent_call h what arg when answer (Post q) r taken is = sent_message h what arg when answer q r taken (is_sending h q) refl is
sent_call h what arg when answer (Barrier now) r taken is = absurd (untold what arg when answer taken is)
sent_call h what arg when answer (Unbarrier k) r taken is = absurd (untold what arg when answer taken is)
sent_call h what arg when answer (Remove f) r taken is = absurd (untold what arg when answer taken is)
sent_call h what arg when answer (Quit safe now) r taken is = absurd (untold what arg when answer taken is)
sent_call h what arg when answer (Next now) r taken is = absurd (untold what arg when answer taken is)
sent_call h what arg when answer (Advance now) r taken is = absurd (untold what arg when answer taken is)
sent_call h what arg when answer (Halt now) r taken is = absurd (untold what arg when answer taken is)

pub told_one : (h what arg when : ℕ) (answer : HostSent) (p q : Sender) (a b : Tally) → GoesOn p q a b → IsTaken answer → sends_by h q ≡ sends_by h p ++ record { what = what; arg = arg; when = when; answer = answer } ∷ []
    → Makes p q (Post (record { handler = h; what = what; arg = arg; obj = None; callback = None; when = when; asynchronous = true; slot = None })) []
told_one h what arg when answer p q a b g taken is =
    let more = own_more p q a b g in
    let tell = λ (e : Entry). told_by h e.call e.reply in
    let one = one_more tell (own p) (entries_by p.sender g.more) (record { what = what; arg = arg; when = when; answer = answer }) (ap (map tell) (sym more) ∙ is) in
    let sent = sent_call h what arg when answer one.0.call one.0.reply taken one.2 in
    record { entry = one.0; made = more ∙ ap (λ (l : List Entry). own p ++ l) one.1; makes = sent.call; answered = sent.tokens }

pub told_none : (h : ℕ) (p q : Sender) (a b : Tally) → GoesOn p q a b → sends_by h q ≡ sends_by h p → own q ≡ own p
told_none h p q a b g is =
    let more = own_more p q a b g in
    let tell = λ (e : Entry). told_by h e.call e.reply in
    let none = none_more tell (own p) (entries_by p.sender g.more) (ap (map tell) (sym more) ∙ is) in
    more ∙ (ap (λ (l : List Entry). own p ++ l) none ∙ append-nil (own p))

-- ---- a frame callback is posted

pub due_is : (u delay now : ℕ) → now ≡ nanos_of u → due_at now delay ≡ frame_due u delay
due_is u delay now is = ap (λ (n : ℕ). min (n + delay) (2 ^ 64 - 1)) (ap (λ (n : ℕ). n / 1000000) is ∙ millis_of u)

asks_posted : (u phase id delay now : ℕ) (f g : Pass) (x y : StampedFrames) → IsFrameTurn f g x y → (now == nanos_of u) ≡ true → y ≡ with_post x phase (due_at now delay) id None now → AsksFor (Posts phase (frame_due u delay) id None) f g
asks_posted u phase id delay now f g x y t moment post =
    let c = next_callback x.frames phase (due_at now delay) id None in
    let left : x.frames.entries ++ frame.Posted c ∷ [] ≡ y.frames.entries = sym (ap (λ (z : StampedFrames). z.frames.entries) post ∙ posted_entries x.frames c (posting_moment x (due_at now delay) now)) in
    let asks : AsksFor (Posts phase (due_at now delay) id None) f g =
    ap asks_in (turn_records f g x y (frame.Posted c ∷ []) t left) ∙ filter_map-append asked_in f.view.own (frame.Posted c ∷ []) in
    subst (λ (d : ℕ). AsksFor (Posts phase d id None) f g) (due_is u delay now (eqb-true now (nanos_of u) moment)) asks

abbrev Message : ℕ → ℕ → ℕ → Call
Message h phase when = Post (record { handler = h; what = 2; arg = phase; obj = None; callback = None; when = when; asynchronous = true; slot = None })

at_once : (h u phase id delay : ℕ) (p q : Sender) (a b : Tally) (f g : Pass) (x y : StampedFrames) (now : ℕ) → GoesOn p q a b → IsFrameTurn f g x y → (now == nanos_of u) ≡ true → y ≡ with_post x phase (due_at now delay) id None now
    → nat_lt (now / 1000000) (due_at now delay) ≡ false → sends_by h q ≡ sends_by h p → PostsFrame h u phase id delay p q f g
at_once h u phase id delay p q a b f g x y now goes t is post soon same =
    let zero = no_delay u delay (due_at now delay) now (eqb-true now (nanos_of u) is) refl soon in
    record {
      calls = subst (λ (z : Bool). MatchBool z (own q ≡ own p) (Makes p q (Message h phase (frame_due u delay)) [])) (sym zero) (told_none h p q a b goes same);
      asks = asks_posted u phase id delay now f g x y t is post;
      turn = t.turns;
    }

for_later : (h u phase id delay : ℕ) (p q : Sender) (a b : Tally) (f g : Pass) (x y : StampedFrames) (now : ℕ) (answer : HostSent) → GoesOn p q a b → IsFrameTurn f g x y → (now == nanos_of u) ≡ true → y ≡ with_post x phase (due_at now delay) id None now
    → nat_lt (now / 1000000) (due_at now delay) ≡ true → IsTaken answer → sends_by h q ≡ sends_by h p ++ record { what = 2; arg = phase; when = due_at now delay; answer = answer } ∷ [] → PostsFrame h u phase id delay p q f g
for_later h u phase id delay p q a b f g x y now answer goes t is post later_on taken sent =
    let moment = eqb-true now (nanos_of u) is in
    let some = some_delay u delay (due_at now delay) now moment refl later_on in
    let made : Makes p q (Message h phase (due_at now delay)) [] = told_one h 2 phase (due_at now delay) answer p q a b goes taken sent in
    record {
      calls = subst (λ (z : Bool). MatchBool z (own q ≡ own p) (Makes p q (Message h phase (frame_due u delay)) [])) (sym some)
          (subst (λ (w : ℕ). Makes p q (Message h phase w) []) (due_is u delay now moment) made);
      asks = asks_posted u phase id delay now f g x y t is post;
      turn = t.turns;
    }

pub posts_frame_by : (h u phase id delay : ℕ) (p q : Sender) (a b : Tally) (f g : Pass) → GoesOn p q a b → PlacesBy f g u (sends_by h p) (sends_by h q) phase id delay → PostsFrame h u phase id delay p q f g
posts_frame_by h u phase id delay p q a b f g goes (placed.Asked, is, (x, y, now, t, moment, ((pulse, sch), post, same))) =
    at_once h u phase id delay p q a b f g x y now goes t moment post (posted_soon x (due_at now delay) now _ sch (λ wrong. absurd cc)) same
posts_frame_by h u phase id delay p q a b f g goes (placed.Already, is, (x, y, now, t, moment, (sch, post, same))) =
    at_once h u phase id delay p q a b f g x y now goes t moment post (posted_soon x (due_at now delay) now _ sch (λ wrong. absurd cc)) same
posts_frame_by h u phase id delay p q a b f g goes (placed.Sent, is, (x, y, now, t, moment, (sch, post, sent))) =
    for_later h u phase id delay p q a b f g x y now host.Accepted goes t moment post (posted_later x (due_at now delay) now sch) accepted sent
posts_frame_by h u phase id delay p q a b f g goes (placed.Refused, is, (x, y, now, t, moment, (sch, post, sent))) =
    for_later h u phase id delay p q a b f g x y now host.Refused goes t moment post (posted_later x (due_at now delay) now sch) refused sent
posts_frame_by h u phase id delay p q a b f g goes (placed.NoMemory, is, more) = absurd is

-- ---- what is told in lockstep is all that was asked for

pub told_whole : (xs : List FrameAsk) → map (as_told true) xs ≡ xs
told_whole [] = refl
told_whole (Posts phase due id token ∷ xs) = ap (λ (l : List FrameAsk). Posts phase due id token ∷ l) (told_whole xs)
told_whole (Removes phase id token ∷ xs) = ap (λ (l : List FrameAsk). Removes phase id token ∷ l) (told_whole xs)
told_whole (Begins start ∷ xs) = ap (λ (l : List FrameAsk). Begins start ∷ l) (told_whole xs)
told_whole (Takes phase moment ∷ xs) = ap (λ (l : List FrameAsk). Takes phase moment ∷ l) (told_whole xs)
