-- A host's sends, and what its calls keep.
use Rattle.std.proofs.Common.{◌≡◌, ℕ, Bool, true, [], ◌∷◌, ◌++◌, map, None, refl, sym, ap, ◌∙◌, subst, arith, eq-eqb}
use Rattle.std.specs.Prelude.{◌==◌, ◌&&◌, if◌then◌else◌, Result, Ok, Err, OnOk, OnErr}
use Rattle.std.proofs.lemmas.List.{append-nil, map-append}
use Rattle.atomic_table.specs.Seated.{TableId}
use Rattle.loop_model.specs.declared.post.Post.{Post as PostData}
use Rattle.loop_model.specs.declared.call.Call.TheVariants.{Post}
use Rattle.loop_model.specs.declared.reply.Reply.TheVariants.{Accepted, Refused}
use Rattle.loop_model.specs.declared.entry.Entry.{Entry}
use Rattle.message_slot.specs.Letter.{post_of}
use Rattle.message_pool.specs.Passes.{Tally}
use Rattle.queue_state.specs.Queue.{entry_of}
use Rattle.looper_run.specs.Holding.{Sender, State}
use Rattle.choreographer.specs.declared.host.Sending.{Sending as Told}
use Rattle.choreographer.specs.declared.host.HostSent.{HostSent}
use Rattle.choreographer.specs.declared.host.HostSent.TheVariants as host
use Rattle.choreographer.specs.Host.{added_sends}
use Rattle.choreographer.specs.declared.hosted.Placed.{Placed}
use Rattle.choreographer.specs.Known.{Pass}
use Rattle.choreographer.specs.Calls.{PostedBy as CallbackPostedBy}
use Rattle.run_model.specs.FrameRecords.{nanos_of}
use Rattle.handler_post.specs.declared.way.Sent.{Sent}
use Rattle.handler_post.specs.declared.way.Sent.TheVariants.{Accepted as Took, Refused as Turned, NoMemory as NoRoom}
use Rattle.handler_post.specs.Supply.{letter_of}
use Rattle.handler_post.specs.declared.handler.Handler.{Handler}
use Rattle.handler_post.specs.Ways.{KeptWay as Way}
use Rattle.handler_post.specs.Forms.{message_by}
use Rattle.handler_post.specs.Ways.{IsReady, IsSameWay}
use Rattle.handler_post.specs.Sends.{Sending, Sends}
use Rattle.dash_hall.specs.Growth.{own, GoesOn}
use Rattle.dash_hall.specs.ByClock.{AddsAt}
use Rattle.dash_hall.specs.Hosts.{HostOrigin, IsHost, is_sending, told_by, sends_by, IsPlaced, IsUnplaced, PlacesBy, PlacesNot}
use Rattle.dash_hall.proofs.Growing.{goes_on_then, turn_makes, makes_none, own_of_one}
use Rattle.dash_hall.proofs.Calling.{sends, same_home}
use Rattle.dash_hall.proofs.HostClock.{adds_then, sent_adds, in_mode_then}

-- a host whose poster and pass went on is one still, where what the poster called was at the host's moment
pub hosted : {U : Type 0} (o : HostOrigin U) (p q : Sender) (a b : Tally) → IsHost o p a → GoesOn p q a b → AddsAt o.now p q → IsHost o q b
hosted o p q a b h g adds = record {
  of_queue = (g.table ∙ h.of_queue.0, g.constants ∙ h.of_queue.1);
  of_pool = g.home ∙ h.of_pool;
  home = h.home;
  on = goes_on_then o.poster p q o.pass a b h.on g;
  clocked = λ m free mode moment.
      adds_then m o.poster p q h.on.sender (h.clocked m free mode moment) (adds m free (in_mode_then m o.poster p h.on.constants mode) moment);
}

-- the answer of a host to such a sending
abbrev pub answer_by : Sent → HostSent
answer_by (Took number wake) = host.Accepted
answer_by (Turned place) = host.Refused
answer_by NoRoom = host.NoMemory

one_more : (id : ℕ) (p q : Sender) (e : Entry) → own q ≡ own p ++ e ∷ [] → sends_by id q ≡ sends_by id p ++ told_by id e.call e.reply ∷ []
one_more id p q e made =
    ap (map (λ (x : Entry). told_by id x.call x.reply)) made ∙ map-append (λ (x : Entry). told_by id x.call x.reply) (own p) (e ∷ [])

if_so : {X : Type 0} (b : Bool) (x y : X) → b ≡ true → (if b then x else y) ≡ x
if_so b x y is = ap (λ (t : Bool). if t then x else y) is

pub told : (id : ℕ) (home : TableId) (m : PostData) (p q : Sender) (a b : Tally) (r : Sent) → is_sending id m ≡ true → Sending home m p q a b r → sends_by id q ≡ sends_by id p ++ added_sends m.what m.arg m.when (answer_by r)
told id home m p q a b (Took number wake) is (claim, (x, y, t, posts, accepted), o) =
    let e = entry_of x p.sender (Post (post_of (letter_of m claim).item)) (Accepted number) in
    let left : y.entries ≡ x.entries ++ e ∷ [] = ap (λ (w : State). w.entries) posts.2 in
    one_more id p q e (turn_makes p q x y (e ∷ []) t left (own_of_one p.sender e refl)) ∙ ap (λ (s : Told). sends_by id p ++ s ∷ []) (if_so (is_sending id m) _ _ is)
told id home m p q a b (Turned place) is (claim, (x, y, t, posts, accepted), o) =
    let e = entry_of x p.sender (Post (post_of (letter_of m claim).item)) (Refused place) in
    let left : y.entries ≡ x.entries ++ e ∷ [] = ap (λ (w : State). w.entries) posts.2 in
    one_more id p q e (turn_makes p q x y (e ∷ []) t left (own_of_one p.sender e refl)) ∙ ap (λ (s : Told). sends_by id p ++ s ∷ []) (if_so (is_sending id m) _ _ is)
told id home m p q a b NoRoom is (claim, none, o) =
    let same : own q ≡ own p = (makes_none p q a a none (record { home = refl; back = omega arith }) refl).1 in
    ap (map (λ (x : Entry). told_by id x.call x.reply)) same ∙ sym (append-nil (sends_by id p))

-- what a host's sending leaves
pub sends_on : {U : Type 0} (o : HostOrigin U) (h : Handler) (v w : Way) (what arg when : ℕ) (r : Sent) → IsHost o v.poster.now v.pass.now → IsReady v → IsReady w → IsSameWay v w → Sends (record (message_by h what arg None when) { asynchronous = true }) v w r
    → IsHost o w.poster.now w.pass.now × (sends_by h.id w.poster.now ≡ sends_by h.id v.poster.now ++ added_sends what arg when (answer_by r))
sends_on o h v w what arg when r is ready ready' same sent =
    let m = record (message_by h what arg None when) { asynchronous = true } in
    let mine : is_sending h.id m ≡ true = ap (λ (b : Bool). b && true && true && true) (eq-eqb h.id h.id refl) in
    let done = sends v.pool.now m v.poster.now w.poster.now v.pass.now w.pass.now r (same_home v w ready ready' same) sent in (
      hosted o v.poster.now w.poster.now v.pass.now w.pass.now is done.0 (sent_adds o.now v.poster.now w.poster.now v.pass.now w.pass.now m r done.0 done.1),
      told h.id v.pool.now m v.poster.now w.poster.now v.pass.now w.pass.now r mine sent,
    )

-- a callback that was placed by a host of this handler, and one for which memory ran out
pub placed_by : {A E : Type 0} (r : Placed) (res : Result A E) (f g : Pass) (u h k : ℕ) (p q : Sender) (phase id delay : ℕ) → k ≡ h → OnOk res (IsPlaced r) → CallbackPostedBy f g (λ n. n == nanos_of u) (sends_by h p) (sends_by k q) phase id None delay r
    → OnOk res (PlacesBy f g u (sends_by h p) (sends_by h q) phase id delay)
placed_by r (Ok x) f g u h k p q phase id delay same ok turn = (r, ok, subst (λ (n : ℕ). CallbackPostedBy f g (λ m. m == nanos_of u) (sends_by h p) (sends_by n q) phase id None delay r) same turn)
placed_by r (Err x) f g u h k p q phase id delay same ok turn = tt

pub unplaced_by : {A E : Type 0} (r : Placed) (res : Result A E) (f g : Pass) (u h k : ℕ) (p q : Sender) (phase id delay : ℕ) → k ≡ h → OnErr res (IsUnplaced r) → CallbackPostedBy f g (λ n. n == nanos_of u) (sends_by h p) (sends_by k q) phase id None delay r
    → OnErr res (PlacesNot f g u (sends_by h p) (sends_by h q) phase id delay)
unplaced_by r (Ok x) f g u h k p q phase id delay same err turn = tt
unplaced_by r (Err x) f g u h k p q phase id delay same err turn = (r, err, subst (λ (n : ℕ). CallbackPostedBy f g (λ m. m == nanos_of u) (sends_by h p) (sends_by n q) phase id None delay r) same turn)
