-- Each call on a queue, as the sender's own entries go on.
use Rattle.std.proofs.Common.{◌≡◌, ℕ, ◌≤◌, Bool, List, [], ◌∷◌, Option, Some, None, refl, sym, ap, ◌∙◌, subst, arith, length}
use Rattle.std.specs.Prelude.{OnOk, OnErr, Result, Ok, Err}
use Rattle.atomic_table.specs.Seated.{TableId}
use Rattle.loop_model.specs.declared.post.Post.{Post as PostData}
use Rattle.loop_model.specs.declared.post.Filter.{Filter}
use Rattle.loop_model.specs.declared.call.Call.TheVariants.{Post, Barrier, Unbarrier, Remove, Quit}
use Rattle.loop_model.specs.declared.reply.Reply.TheVariants.{Accepted, Refused, Token, Unbarriered, NotPosted, Removed, QuitDone, AlreadyQuit, NotAllowed}
use Rattle.message_slot.specs.Letter.{post_of, letter_with_number}
use Rattle.message_pool.specs.Passes.{Claimed, Node, Tally}
use Rattle.message_pool.specs.declared.pool.Obtained.{Obtained}
use Rattle.message_pool.specs.declared.pool.Obtained.TheVariants.{Pooled, Fresh, NoMemory}
use Rattle.message_pool.specs.Obtain.{Answers, IsReturned}
use Rattle.queue_state.specs.declared.answers.BarrierPosted.TheVariants as barred
use Rattle.queue_state.specs.declared.answers.BarrierGone.TheVariants as gone
use Rattle.queue_state.specs.declared.answers.Quitting.TheVariants as quitting
use Rattle.queue_state.specs.Looks.{as_barrier}
use Rattle.queue_state.specs.Queue.{moment_at}
use Rattle.shared_queue.specs.Calls.{BarrierPostedBy, BarrierGoneBy, QuitBy}
use Rattle.looper_run.specs.Holding.{Sender, State}
use Rattle.run_model.specs.Planned.{bare_call}
use Rattle.handler_post.specs.declared.way.Sent.{Sent}
use Rattle.handler_post.specs.declared.way.Sent.TheVariants.{Accepted as Took, Refused as Turned, NoMemory as NoRoom}
use Rattle.handler_post.specs.declared.way.Erased.{Erased}
use Rattle.handler_post.specs.declared.way.Erased.TheVariants.{Removed as Gone, NoMemory as NoSpace}
use Rattle.handler_post.specs.Supply.{letter_of, Obtains, ObtainsInVain, BringsBack}
use Rattle.handler_post.specs.Ways.{KeptWay as Way}
use Rattle.handler_post.specs.Ways.{IsReady, IsSameWay, MadeNone}
use Rattle.handler_post.specs.Sends.{Sending, Erasing, Sends, Erases}
use Rattle.dash_hall.specs.Slots.{GivesBackAll}
use Rattle.dash_hall.specs.Growth.{own, GoesOn, TurnsOnce, Makes, WayCalled, no_token}
use Rattle.dash_hall.specs.QueueCalls.{IfSent, IfErased}
use Rattle.dash_hall.proofs.Slots.{gives_back_none, in_vain_gives_back, returned_gives_back, same_messages, one_put, some_gone, one_gone}
use Rattle.dash_hall.proofs.Growing.{Keeps, one_turn, turns_none, made_none, enters, leaves, makes_none}

entries_are : (x y z : State) → y ≡ z → y.entries ≡ z.entries
entries_are x y z same = ap (λ (w : State). w.entries) same

messages_are : (x y z : State) → y ≡ z → y.messages ≡ z.messages
messages_are x y z same = ap (λ (w : State). w.messages) same

pub obtained_back : (home : TableId) (claim : Option Claimed) (a b : Tally) → Obtains home claim a b → a.back ≤ b.back
obtained_back home None a b o = omega (arith, o.2)
obtained_back home (Some c) a b (at, near, taken) = let back : b.back ≡ a.back = taken.3 in omega (arith, back)

pub in_vain_back : (home : TableId) (claim : Option Claimed) (a b : Tally) → ObtainsInVain home claim a b → a.back ≤ b.back
in_vain_back home None a b o = omega (arith, o.2)
in_vain_back home (Some c) a b o = omega (arith, o.2)

-- a sending is the post of its message, or no entry when out of memory
pub sends : (home : TableId) (m : PostData) (p q : Sender) (a b : Tally) (r : Sent) → b.home ≡ a.home → Sending home m p q a b r
    → GoesOn p q a b × IfSent r (own q ≡ own p) (Makes p q (bare_call (Post m)) [])
sends home m p q a b (Took number wake) same (claim, (x, y, t, posts, accepted), o) =
    enters p q x y (Post (post_of (letter_of m claim).item)) (Accepted number) a b t (entries_are x y _ posts.2) refl (record { home = same; back = obtained_back home claim a b o })
    (one_put home x y (letter_with_number number (letter_of m claim)) a b (messages_are x y _ posts.2) o)
sends home m p q a b (Turned place) same (claim, (x, y, t, posts, accepted), o) =
    enters p q x y (Post (post_of (letter_of m claim).item)) (Refused place) a b t (entries_are x y _ posts.2) refl (record { home = same; back = in_vain_back home claim a b o })
    (same_messages x y a b (messages_are x y _ posts.2) (in_vain_gives_back home claim a b o))
sends home m p q a b NoRoom same (claim, none, o) =
    makes_none p q a b none (record { home = same; back = in_vain_back home claim a b o }) (in_vain_gives_back home claim a b o)

-- a removal is the call with its filter, or no entry when out of memory
pub erases : (f : Filter) (p q : Sender) (a b : Tally) (r : Erased) → b.home ≡ a.home → Erasing f p q a b r
    → GoesOn p q a b × IfErased r (own q ≡ own p) (Makes p q (Remove f) [])
erases f p q a b (Gone count) same (nodes, (x, y, t, takes), n, brought) =
    let back : a.back ≤ b.back = omega (arith, brought.0) in
    enters p q x y (Remove f) (Removed (length nodes)) a b t (entries_are x y _ takes.2) refl (record { home = same; back = back })
    (some_gone (Remove f) (Removed (length nodes)) x y nodes a b takes.1 (messages_are x y _ takes.2) brought)
erases f p q a b NoSpace same (none, kept) =
    let back : a.back ≤ b.back = omega (arith, ap (λ (t : Tally). t.back) kept) in
    makes_none p q a b none (record { home = same; back = back }) (subst (λ (t : Tally). GivesBackAll a t) (sym kept) (gives_back_none a))

-- either is at most one turn
pub sent_once : (home : TableId) (m : PostData) (p q : Sender) (a b : Tally) (r : Sent) → Sending home m p q a b r → TurnsOnce p q
sent_once home m p q a b (Took number wake) (claim, (x, y, t, posts, accepted), o) = one_turn p q x y t
sent_once home m p q a b (Turned place) (claim, (x, y, t, posts, accepted), o) = one_turn p q x y t
sent_once home m p q a b NoRoom (claim, none, o) = turns_none p q none

pub erased_once : (f : Filter) (p q : Sender) (a b : Tally) (r : Erased) → Erasing f p q a b r → TurnsOnce p q
erased_once f p q a b (Gone count) (nodes, (x, y, t, takes), n, brought) = one_turn p q x y t
erased_once f p q a b NoSpace (none, kept) = turns_none p q none

-- when out of memory either made no entry
sent_still : (home : TableId) (m : PostData) (p q : Sender) (a b : Tally) (r : Sent) → Sending home m p q a b r → IfSent r (MadeNone p q) (Unit {0})
sent_still home m p q a b (Took number wake) sent = tt
sent_still home m p q a b (Turned place) sent = tt
sent_still home m p q a b NoRoom (claim, none, o) = none

erased_still : (f : Filter) (p q : Sender) (a b : Tally) (r : Erased) → Erasing f p q a b r → IfErased r (MadeNone p q) (Unit {0})
erased_still f p q a b (Gone count) erased = tt
erased_still f p q a b NoSpace (none, kept) = none

-- a barrier is posted, at some moment
pub posts_barrier : (home : TableId) (now : ℕ) (m : Node) (p q : Sender) (a b : Tally) (token : ℕ) → Keeps a b → Obtains home m.claim a b → BarrierPostedBy p q now m (barred.Token token) → GoesOn p q a b × Makes p q (Barrier 0) (token ∷ [])
posts_barrier home now m p q a b token k o (x, y, t, posts) =
    enters p q x y (Barrier (moment_at x now)) (Token token) a b t (entries_are x y _ posts.1) refl k (one_put home x y (as_barrier token (moment_at x now) m) a b (messages_are x y _ posts.1) o)

-- none is posted, and its message goes back
pub posts_no_barrier : (home : TableId) (now : ℕ) (m n : Node) (p q : Sender) (a b d : Tally) → Keeps a d → Obtains home m.claim a b → IsReturned n.claim b d → BarrierPostedBy p q now m (barred.NoMemory n)
    → GoesOn p q a d × (own q ≡ own p)
posts_no_barrier home now m n p q a b d k o back (x, y, t, posts) =
    leaves p q x y a d t posts.1 k (returned_gives_back home m.claim a b d o (subst (λ (z : Node). IsReturned z.claim b d) posts.0 back))

-- a barrier is removed, or none has the token
pub unbars : (token : ℕ) (p q : Sender) (a b : Tally) (n : Node) (wake : Bool) → Keeps a b → IsReturned n.claim a b → BarrierGoneBy p q token (gone.Unbarriered n wake) → GoesOn p q a b × Makes p q (Unbarrier token) []
unbars token p q a b n wake k back (x, y, t, u) =
    enters p q x y (Unbarrier token) Unbarriered a b t (entries_are x y _ u.3) refl k (one_gone (Unbarrier token) Unbarriered x y n a b u.1 (messages_are x y _ u.3) back)

pub unbars_none : (token : ℕ) (p q : Sender) (a b : Tally) → Keeps a b → GivesBackAll a b → BarrierGoneBy p q token gone.NotPosted → GoesOn p q a b × Makes p q (Unbarrier token) []
unbars_none token p q a b k given (x, y, t, u) =
    enters p q x y (Unbarrier token) NotPosted a b t (entries_are x y _ u.1) refl k (same_messages x y a b (messages_are x y _ u.1) given)

pub unbars_not : (token : ℕ) (p q : Sender) (a b : Tally) → Keeps a b → GivesBackAll a b → BarrierGoneBy p q token gone.NoMemory → GoesOn p q a b × (own q ≡ own p)
unbars_not token p q a b k given (x, y, t, u) = leaves p q x y a b t u k given

-- a quit is done, or refused
pub quits : (safe : Bool) (now : ℕ) (p q : Sender) (a b : Tally) (list : List Node) → Keeps a b → BringsBack list a b → QuitBy p q safe now (quitting.Done list) → GoesOn p q a b × Makes p q (Quit safe 0) []
quits safe now p q a b list k brought (x, y, t, u) =
    enters p q x y (Quit safe (moment_at x now)) QuitDone a b t (entries_are x y _ u.2) refl k (some_gone (Quit safe (moment_at x now)) QuitDone x y list a b u.1 (messages_are x y _ u.2) brought)

pub quits_twice : (safe : Bool) (now : ℕ) (p q : Sender) (a b : Tally) (place : ℕ) → Keeps a b → GivesBackAll a b → QuitBy p q safe now (quitting.AlreadyQuit place) → GoesOn p q a b × Makes p q (Quit safe 0) []
quits_twice safe now p q a b place k given (x, y, t, u) =
    enters p q x y (Quit safe (moment_at x now)) (AlreadyQuit place) a b t (entries_are x y _ u.1) refl k (same_messages x y a b (messages_are x y _ u.1) given)

pub quits_main : (safe : Bool) (now : ℕ) (p q : Sender) (a b : Tally) → Keeps a b → GivesBackAll a b → QuitBy p q safe now quitting.NotAllowed → GoesOn p q a b × Makes p q (Quit safe 0) []
quits_main safe now p q a b k given (x, y, t, u) =
    enters p q x y (Quit safe (moment_at x now)) NotAllowed a b t (entries_are x y _ u.1) refl k (same_messages x y a b (messages_are x y _ u.1) given)

pub quits_not : (safe : Bool) (now : ℕ) (p q : Sender) (a b : Tally) → Keeps a b → GivesBackAll a b → QuitBy p q safe now quitting.NoMemory → GoesOn p q a b × (own q ≡ own p)
quits_not safe now p q a b k given (x, y, t, u) = leaves p q x y a b t u.1 k given

-- running out of memory for one of these left what was found
pub bars_still : (now : ℕ) (m n : Node) (p q : Sender) → BarrierPostedBy p q now m (barred.NoMemory n) → MadeNone p q
bars_still now m n p q (x, y, t, posts) = made_none p q x y t posts.1

pub unbars_still : (token : ℕ) (p q : Sender) → BarrierGoneBy p q token gone.NoMemory → MadeNone p q
unbars_still token p q (x, y, t, same) = made_none p q x y t same

pub quits_still : (safe : Bool) (now : ℕ) (p q : Sender) → QuitBy p q safe now quitting.NoMemory → MadeNone p q
quits_still safe now p q (x, y, t, u) = made_none p q x y t u.1

-- the same over a way, with how its maker answers
pub same_home : (v w : Way) → IsReady v → IsReady w → IsSameWay v w → w.pass.now.home ≡ v.pass.now.home
same_home v w r r' s = r'.pass ∙ (s.pool ∙ sym r.pass)

answered_sent : {A E : Type 0} (P Q : Type 0) (r : Sent) (res : Result A E) → IfSent r P Q → OnOk res (IfSent r ⊥ (Unit {0})) → OnErr res (IfSent r (Unit {0}) ⊥) → OnOk res Q × OnErr res P
answered_sent P Q (Took n w) (Ok x) done ok err = (done, tt)
answered_sent P Q (Took n w) (Err x) done ok err = absurd err
answered_sent P Q (Turned n) (Ok x) done ok err = (done, tt)
answered_sent P Q (Turned n) (Err x) done ok err = absurd err
answered_sent P Q NoRoom (Ok x) done ok err = absurd ok
answered_sent P Q NoRoom (Err x) done ok err = (tt, done)

answered_erased : {A E : Type 0} (P Q : Type 0) (r : Erased) (res : Result A E) → IfErased r P Q → OnOk res (IfErased r ⊥ (Unit {0})) → OnErr res (IfErased r (Unit {0}) ⊥) → OnOk res Q × OnErr res P
answered_erased P Q (Gone n) (Ok x) done ok err = (done, tt)
answered_erased P Q (Gone n) (Err x) done ok err = absurd err
answered_erased P Q NoSpace (Ok x) done ok err = absurd ok
answered_erased P Q NoSpace (Err x) done ok err = (tt, done)

pub by_send : {A E : Type 0} (v w : Way) (m : PostData) (r : Sent) (res : Result A E) → IsReady v → IsReady w → IsSameWay v w → Sends m v w r → OnOk res (IfSent r ⊥ (Unit {0})) → OnErr res (IfSent r (Unit {0}) ⊥) → WayCalled v w (bare_call (Post m)) no_token res
by_send v w m r res ready ready' same sent ok err =
    let done = sends v.pool.now m v.poster.now w.poster.now v.pass.now w.pass.now r (same_home v w ready ready' same) sent in
    let answers = answered_sent (own w.poster.now ≡ own v.poster.now) (Makes v.poster.now w.poster.now (bare_call (Post m)) []) r res done.1 ok err in
    let still = answered_sent (MadeNone v.poster.now w.poster.now) (Unit {0}) r res (sent_still v.pool.now m v.poster.now w.poster.now v.pass.now w.pass.now r sent) ok err in
    record {
      ready = ready';
      same = same;
      by = record {
        on = done.0;
        once = sent_once v.pool.now m v.poster.now w.poster.now v.pass.now w.pass.now r sent;
        made = answers.0;
        none = answers.1;
        still = still.1;
      };
    }

pub by_erase : {A E : Type 0} (v w : Way) (f : Filter) (r : Erased) (res : Result A E) → IsReady v → IsReady w → IsSameWay v w → Erases f v w r → OnOk res (IfErased r ⊥ (Unit {0})) → OnErr res (IfErased r (Unit {0}) ⊥) → WayCalled v w (Remove f) no_token res
by_erase v w f r res ready ready' same erased ok err =
    let done = erases f v.poster.now w.poster.now v.pass.now w.pass.now r (same_home v w ready ready' same) erased in
    let answers = answered_erased (own w.poster.now ≡ own v.poster.now) (Makes v.poster.now w.poster.now (Remove f) []) r res done.1 ok err in
    let still = answered_erased (MadeNone v.poster.now w.poster.now) (Unit {0}) r res (erased_still f v.poster.now w.poster.now v.pass.now w.pass.now r erased) ok err in
    record {
      ready = ready';
      same = same;
      by = record {
        on = done.0;
        once = erased_once f v.poster.now w.poster.now v.pass.now w.pass.now r erased;
        made = answers.0;
        none = answers.1;
        still = still.1;
      };
    }

-- obtaining a message, and recycling one, bring no less back
pub answers_back : {V : Type 0} (home : TableId) (a b : Tally) (r : Obtained V) → Answers home a b r → a.back ≤ b.back
answers_back home a b (Pooled node) (is, taken) = let back : b.back ≡ a.back = taken.3 in omega (arith, back)
answers_back home a b (Fresh node look lost) (blank, free) = (let back : b.back ≡ a.back = free.3 in omega (arith, back))
answers_back home a b NoMemory (look, lost, free) = (let back : b.back ≡ a.back = free.3 in omega (arith, back))

pub returned_back : (claim : Option Claimed) (a b : Tally) → IsReturned claim a b → a.back ≤ b.back
returned_back None a b same = omega (arith, ap (λ (t : Tally). t.back) same)
returned_back (Some c) a b one = omega (arith, ap (λ (t : Tally). t.back) one)
