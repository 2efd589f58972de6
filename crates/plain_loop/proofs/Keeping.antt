-- What each call on a line keeps.
use Rattle.std.proofs.Common.{◌≡◌, ℕ, ◌≤◌, Bool, true, false, List, [], ◌∷◌, ◌++◌, All, Option, Some, None, refl, sym, ap, ◌∙◌, subst, arith, append_assoc, inl, inr}
use Rattle.std.specs.Prelude.{Result, Ok, Err, IfOk, OnErr}
use Rattle.std.proofs.lemmas.List.{append-nil}
use Rattle.std.proofs.lemmas.List.Elements.{All-append}
use Rattle.atomic_table.specs.Seated.{TableId}
use Rattle.loop_model.specs.declared.journal.Journal.{Journal}
use Rattle.loop_model.specs.declared.post.Post.{Post as PostData}
use Rattle.loop_model.specs.declared.memory.NoMemory.{NoMemory}
use Rattle.loop_model.specs.declared.post.Filter.{Filter}
use Rattle.loop_model.specs.declared.call.Call.{Call}
use Rattle.loop_model.specs.declared.call.Call.TheVariants.{Post, Barrier, Unbarrier, Remove, Quit as Quitted}
use Rattle.loop_model.specs.declared.reply.Reply.{Reply}
use Rattle.loop_model.specs.declared.reply.Reply.TheVariants.{Accepted, Refused, Token, Unbarriered, NotPosted, QuitDone, AlreadyQuit, NotAllowed}
use Rattle.loop_model.specs.declared.entry.Entry.{Entry}
use Rattle.loop_model.specs.Entries.{is_next}
use Rattle.message_slot.specs.Letter.{post_of}
use Rattle.message_pool.specs.Passes.{Claimed, Node, Tally}
use Rattle.queue_state.specs.Queue.{Queue, entry_of, moment_at}
use Rattle.shared_queue.specs.Known.{Shared, IsOf, IsTurn}
use Rattle.handler_post.specs.declared.way.Way.{Way}
use Rattle.handler_post.specs.declared.way.Sent.{Sent}
use Rattle.handler_post.specs.declared.way.Sent.TheVariants.{Accepted as Took, Refused as Turned, NoMemory as NoRoom}
use Rattle.handler_post.specs.declared.way.Erased.{Erased}
use Rattle.handler_post.specs.declared.way.Erased.TheVariants.{Removed as Gone, NoMemory as NoSpace}
use Rattle.handler_post.specs.declared.unhandled.Quit.{Quit}
use Rattle.handler_post.specs.declared.unhandled.Quit.TheVariants as quit
use Rattle.handler_post.specs.declared.values.SentWith.{SentWith}
use Rattle.handler_post.specs.declared.values.SentWith.TheVariants as with
use Rattle.handler_post.specs.Values.{SendingWith, SendsWith}
use Rattle.handler_post.specs.Supply.{letter_of, Obtains, ObtainsInVain, BringsBack}
use Rattle.handler_post.specs.Ways.{IsReady, IsSameWay, MadeNone}
use Rattle.handler_post.specs.Sends.{Sending, Erasing, Sends, Erases, Has, TellsIdle}
use Rattle.handler_post.specs.Unhandled.{Bars, Unbarring, Unbars, Quitting, Quits}
use Rattle.looper_run.specs.Holding.{Sender, State, Holding}
use Rattle.looper_run.specs.Acts.{IsNoLookOf}
use Rattle.looper_run.specs.Tests.{IsLent}
use Rattle.looper_run.proofs.Working.{lent_then}
use Rattle.looper_run.proofs.Turning.{found, all_first, no_looks}
use Rattle.plain_loop.specs.Lines.{holding, KeepsLine}
use Rattle.plain_loop.specs.declared.values.Values.{Values}
use Rattle.plain_loop.specs.Values.{TakesOut, TakesNone, QuittingWith, QuitsWith}

-- what a looper lent, as the poster and the pass are now
abbrev pub at : Sender → Tally → Journal → Holding
at p a j = record { poster = p; pass = a; journal = j }

-- a step of the poster and the pass that a dispatcher may take, which rings no bell
abbrev pub Steps : Sender → Sender → Tally → Tally → Type 0
Steps p q a b = ((j : Journal) → IsLent (at p a j) (at q b j)) × (q.view.rung ≡ p.view.rung)

-- what a step keeps of a pass
pub record Saves (a b : Tally) : Type 0 where
  pub home : b.home ≡ a.home
  pub back : a.back ≤ b.back

turned : (p q : Sender) (x y : State) (tail : List Entry) (a b : Tally) → IsTurn p q x y → y.entries ≡ x.entries ++ tail → All (IsNoLookOf p.sender) tail → Saves a b → Steps p q a b
turned p q x y tail a b t left quiet s =
    let f = found p q x y t in
    let seen : q.view.seen ≡ p.view.seen ++ (f.others ++ tail) = t.seen ∙ (left ∙ (ap (λ (l : List Entry). l ++ tail) f.entries ∙ append_assoc p.view.seen f.others tail)) in (
      λ j. record {
        same = record { table = t.table; sender = t.sender; constants = t.constants; heard = t.heard; turns = omega (arith, t.turns); home = s.home; looper = refl };
        more = f.others ++ tail;
        did = [];
        seen = seen;
        acts = sym (append-nil j.acts);
        no_looks = All-append (IsNoLookOf p.sender) f.others tail (no_looks p.sender f.others f.all) quiet;
        told = λ k d near. absurd (omega (arith, near));
        back = s.back;
      },
      t.rung,
    )

-- a turn that entered one call, which is no look
entered : (p q : Sender) (x y : State) (c : Call) (r : Reply) (a b : Tally) → IsTurn p q x y → y.entries ≡ x.entries ++ entry_of x p.sender c r ∷ [] → is_next c ≡ false → Saves a b → Steps p q a b
entered p q x y c r a b t left quiet s =
    turned p q x y (entry_of x p.sender c r ∷ []) a b t left (all_first (IsNoLookOf p.sender) (entry_of x p.sender c r) [] (λ _. quiet) (λ n d near. absurd (omega (arith, near)))) s

-- a turn that left what it found
looked : (p q : Sender) (x : State) (a b : Tally) → IsTurn p q x x → Saves a b → Steps p q a b
looked p q x a b t s = turned p q x x [] a b t (sym (append-nil x.entries)) (λ n d near. absurd (omega (arith, near))) s

rested : (p : Sender) (a b : Tally) → Saves a b → Steps p p a b
rested p a b s = (
  λ j. record {
    same = record { table = refl; sender = refl; constants = refl; heard = refl; turns = omega arith; home = s.home; looper = refl };
    more = [];
    did = [];
    seen = sym (append-nil p.view.seen);
    acts = sym (append-nil j.acts);
    no_looks = λ n d near. absurd (omega (arith, near));
    told = λ k d near. absurd (omega (arith, near));
    back = s.back;
  },
  refl,
)

made_none : (p q : Sender) (a b : Tally) → MadeNone p q → Saves a b → Steps p q a b
made_none p q a b (inl same) s = subst (λ (z : Sender). Steps p z a b) (sym same) (rested p a b s)
made_none p q a b (inr turn) s = looked p q turn.0 a b turn.1 s

entries_are : (x y z : State) → y ≡ z → y.entries ≡ z.entries
entries_are x y z same = ap (λ (w : State). w.entries) same

left_as_found : (p q : Sender) (x y : State) (a b : Tally) → IsTurn p q x y → y ≡ x → Saves a b → Steps p q a b
left_as_found p q x y a b t same s = looked p q x a b (subst (λ (z : State). IsTurn p q x z) same t) s

obtained_back : (home : TableId) (claim : Option Claimed) (a b : Tally) → Obtains home claim a b → a.back ≤ b.back
obtained_back home None a b o = omega (arith, o.2)
obtained_back home (Some c) a b (at, near, taken) = let back : b.back ≡ a.back = taken.3 in omega (arith, back)

in_vain_back : (home : TableId) (claim : Option Claimed) (a b : Tally) → ObtainsInVain home claim a b → a.back ≤ b.back
in_vain_back home None a b o = omega (arith, o.2)
in_vain_back home (Some c) a b o = omega (arith, o.2)

sending : (home : TableId) (m : PostData) (p q : Sender) (a b : Tally) (r : Sent) → b.home ≡ a.home → Sending home m p q a b r → Steps p q a b
sending home m p q a b (Took number wake) same (claim, (x, y, t, posts, accepted), o) =
    entered p q x y (Post (post_of (letter_of m claim).item)) (Accepted number) a b t (entries_are x y _ posts.2) refl (record { home = same; back = obtained_back home claim a b o })
sending home m p q a b (Turned place) same (claim, (x, y, t, posts, accepted), o) =
    entered p q x y (Post (post_of (letter_of m claim).item)) (Refused place) a b t (entries_are x y _ posts.2) refl (record { home = same; back = in_vain_back home claim a b o })
sending home m p q a b NoRoom same (claim, none, o) = made_none p q a b none (record { home = same; back = in_vain_back home claim a b o })

sending_with : {V : Type 0} (content : V → List ℕ) (home : TableId) (m : PostData) (value : V) (p q : Sender) (a b : Tally) (r : SentWith V) → b.home ≡ a.home → SendingWith content home m value p q a b r → Steps p q a b
sending_with content home m value p q a b (with.Accepted number wake) same (c, (x, y, t, posts, accepted), has, o) =
    entered p q x y (Post (post_of (letter_of m (Some c)).item)) (Accepted number) a b t (entries_are x y _ posts.2) refl (record { home = same; back = obtained_back home (Some c) a b o })
sending_with content home m value p q a b (with.Refused place back) same (c, (x, y, t, posts, accepted), has, o, is) =
    entered p q x y (Post (post_of (letter_of m (Some c)).item)) (Refused place) a b t (entries_are x y _ posts.2) refl (record { home = same; back = in_vain_back home (Some c) a b o })
sending_with content home m value p q a b (with.Full back) same (kept, none, is) =
    made_none p q a b (inl kept) (record { home = same; back = obtained_back home None a b none })
sending_with content home m value p q a b (with.NoMemory back) same (c, none, o, is) =
    made_none p q a b none (record { home = same; back = in_vain_back home (Some c) a b o })

-- a pass that stayed as it was
stayed : (a b : Tally) → b.home ≡ a.home → b ≡ a → Saves a b
stayed a b same kept = record { home = same; back = (let e : b.back ≡ a.back = ap (λ (z : Tally). z.back) kept in omega (arith, e)) }

quitting_with : {V : Type 0} (safe : Bool) (now : ℕ) (p q : Sender) (a b : Tally) (r : Quit) (v : Values V) → Saves a b → QuittingWith safe now p q r v → Steps p q a b
quitting_with safe now p q a b (quit.Done dropped) v s ((x, y, t, quits), is) = entered p q x y (Quitted safe (moment_at x now)) QuitDone a b t (entries_are x y _ quits.2) refl s
quitting_with safe now p q a b (quit.AlreadyQuit place) v s ((x, y, t, quits), is) =
    entered p q x y (Quitted safe (moment_at x now)) (AlreadyQuit place) a b t (entries_are x y _ quits.1) refl s
quitting_with safe now p q a b quit.NotAllowed v s ((x, y, t, quits), is) = entered p q x y (Quitted safe (moment_at x now)) NotAllowed a b t (entries_are x y _ quits.1) refl s
quitting_with safe now p q a b quit.NoMemory v s ((x, y, t, quits), is) = left_as_found p q x y a b t quits.1 s

erasing : (f : Filter) (p q : Sender) (a b : Tally) (r : Erased) → b.home ≡ a.home → Erasing f p q a b r → Steps p q a b
erasing f p q a b (Gone count) same (nodes, (x, y, t, takes), is, back) =
    let more = back.0 in entered p q x y (Remove f) _ a b t (entries_are x y _ takes.2) refl (record { home = same; back = omega (arith, more) })
erasing f p q a b NoSpace same (none, kept) = made_none p q a b none (record { home = same; back = (let e : b.back ≡ a.back = ap (λ (z : Tally). z.back) kept in omega (arith, e)) })

unbarring : (token : ℕ) (was : Bool) (p q : Sender) (a b : Tally) → Saves a b → Unbarring token was p q → Steps p q a b
unbarring token true p q a b s (node, wake, (x, y, t, gone)) = entered p q x y (Unbarrier token) Unbarriered a b t (entries_are x y _ gone.3) refl s
unbarring token false p q a b s (x, y, t, gone) = entered p q x y (Unbarrier token) NotPosted a b t (entries_are x y _ gone.1) refl s

quitting : (safe : Bool) (now : ℕ) (p q : Sender) (a b : Tally) (r : Quit) → b.home ≡ a.home → Quitting safe now p q a b r → Steps p q a b
quitting safe now p q a b (quit.Done dropped) same (nodes, (x, y, t, quits), is, back) =
    let more = back.0 in entered p q x y (Quitted safe (moment_at x now)) QuitDone a b t (entries_are x y _ quits.2) refl (record { home = same; back = omega (arith, more) })
quitting safe now p q a b (quit.AlreadyQuit place) same ((x, y, t, quits), kept) =
    entered p q x y (Quitted safe (moment_at x now)) (AlreadyQuit place) a b t (entries_are x y _ quits.1) refl (record { home = same; back = (let e : b.back ≡ a.back = ap (λ (z : Tally). z.back) kept in omega (arith, e)) })
quitting safe now p q a b quit.NotAllowed same ((x, y, t, quits), kept) =
    entered p q x y (Quitted safe (moment_at x now)) NotAllowed a b t (entries_are x y _ quits.1) refl (record { home = same; back = (let e : b.back ≡ a.back = ap (λ (z : Tally). z.back) kept in omega (arith, e)) })
quitting safe now p q a b quit.NoMemory same ((x, y, t, quits), kept) =
    left_as_found p q x y a b t quits.1 (record { home = same; back = (let e : b.back ≡ a.back = ap (λ (z : Tally). z.back) kept in omega (arith, e)) })

-- a step of a way keeps it
keeps : {E P : Type 0} (v w : Way E P) → IsReady w → IsSameWay v w → Steps v.poster.now w.poster.now v.pass.now w.pass.now → KeepsLine v w
keeps v w ready same step = record {
  ready = ready;
  same = same;
  lent = λ start h. (lent_then start (holding v start.journal) (holding w start.journal) h.0 (step.0 start.journal), step.1 ∙ h.1);
}

-- what works on what a way leaves, over the queue and the pool that the way had, is ready as the way is
pub line_ready : {E P : Type 0} (v w m : Way E P) → IsReady w → IsSameWay v w → m.poster.now ≡ w.poster.now → m.pass.now ≡ w.pass.now → m.queue.now ≡ v.queue.now → m.pool.now ≡ v.pool.now → IsReady m
line_ready v w m ready same poster pass queue pool = record {
  poster = subst (λ (q : Shared TableId). IsOf m.poster.now q) (same.queue ∙ sym queue) (subst (λ (p : Sender). IsOf p w.queue.now) (sym poster) ready.poster);
  pass = ap (λ (a : Tally). a.home) pass ∙ (ready.pass ∙ (same.pool ∙ sym pool));
  home = ap (λ (q : Shared TableId). q.constants.home) (queue ∙ sym same.queue) ∙ (ready.home ∙ (same.pool ∙ sym pool));
}

same_home : {E P : Type 0} (v w : Way E P) → IsReady v → IsReady w → IsSameWay v w → w.pass.now.home ≡ v.pass.now.home
same_home v w ready ready' same = ready'.pass ∙ (same.pool ∙ sym ready.pass)

pub sends_keep : {E P : Type 0} (m : PostData) (v w : Way E P) (r : Sent) → IsReady v → IsReady w → IsSameWay v w → Sends m v w r → KeepsLine v w
sends_keep m v w r ready ready' same did =
    keeps v w ready' same (sending v.pool.now m v.poster.now w.poster.now v.pass.now w.pass.now r (same_home v w ready ready' same) did)

pub sends_with_keep : {E P : Type 0} (content : P → List ℕ) (m : PostData) (value : P) (v w : Way E P) (r : SentWith P) → IsReady v → IsReady w → IsSameWay v w → SendsWith content m value v w r → KeepsLine v w
sends_with_keep content m value v w r ready ready' same did =
    keeps v w ready' same (sending_with content v.pool.now m value v.poster.now w.poster.now v.pass.now w.pass.now r (same_home v w ready ready' same) did)

takes_keep : {E P : Type 0} (f : Filter) (values : Values P) (v w : Way E P) → IsReady v → IsReady w → IsSameWay v w → TakesOut f v w values → KeepsLine v w
takes_keep f values v w ready ready' same ((x, y, t, takes), kept) =
    keeps v w ready' same (entered v.poster.now w.poster.now x y (Remove f) _ v.pass.now w.pass.now t (entries_are x y _ takes.2) refl (stayed v.pass.now w.pass.now (same_home v w ready ready' same) kept))

takes_none_keep : {E P : Type 0} (v w : Way E P) → IsReady v → IsReady w → IsSameWay v w → TakesNone v w → KeepsLine v w
takes_none_keep v w ready ready' same (none, kept) =
    keeps v w ready' same (made_none v.poster.now w.poster.now v.pass.now w.pass.now none (stayed v.pass.now w.pass.now (same_home v w ready ready' same) kept))

pub removes_keep : {E P : Type 0} (f : Filter) (v w : Way E P) (r : Result (Values P) NoMemory) → IsReady v → IsReady w → IsSameWay v w
    → IfOk r (TakesOut f v w) → OnErr r (TakesNone v w) → KeepsLine v w
removes_keep f v w (Ok values) ready ready' same did none = takes_keep f values v w ready ready' same did
removes_keep f v w (Err e) ready ready' same did none = takes_none_keep v w ready ready' same none

pub quits_with_keep : {E P : Type 0} (safe : Bool) (now : ℕ) (v w : Way E P) (r : Quit) (values : Values P) → IsReady v → IsReady w → IsSameWay v w → QuitsWith safe now v w r values → KeepsLine v w
quits_with_keep safe now v w r values ready ready' same (did, kept) =
    keeps v w ready' same (quitting_with safe now v.poster.now w.poster.now v.pass.now w.pass.now r values (stayed v.pass.now w.pass.now (same_home v w ready ready' same) kept) did)

-- the poster did nothing, and messages went back
pub brings_keep : {E P : Type 0} (gone : List Node) (v w : Way E P) → IsReady v → IsReady w → IsSameWay v w → BringsBack gone v.pass.now w.pass.now → w.poster.now ≡ v.poster.now → KeepsLine v w
brings_keep gone v w ready ready' same brings kept =
    keeps v w ready' same (made_none v.poster.now w.poster.now v.pass.now w.pass.now (inl kept)
    (record { home = same_home v w ready ready' same; back = (let more = brings.0 in omega (arith, more)) }))

pub erases_keep : {E P : Type 0} (f : Filter) (v w : Way E P) (r : Erased) → IsReady v → IsReady w → IsSameWay v w → Erases f v w r → KeepsLine v w
erases_keep f v w r ready ready' same did =
    keeps v w ready' same (erasing f v.poster.now w.poster.now v.pass.now w.pass.now r (same_home v w ready ready' same) did)

-- a turn that leaves the state as it was, and nothing given back
still_keeps : {E P : Type 0} (v w : Way E P) (x : Queue TableId Claimed) → IsReady v → IsReady w → IsSameWay v w → IsTurn v.poster.now w.poster.now x x
    → w.pass.now ≡ v.pass.now → KeepsLine v w
still_keeps v w x ready ready' same t kept =
    keeps v w ready' same (looked v.poster.now w.poster.now x v.pass.now w.pass.now t
    (record { home = same_home v w ready ready' same; back = (let e : w.pass.now.back ≡ v.pass.now.back = ap (λ (z : Tally). z.back) kept in omega (arith, e)) }))

pub has_keeps : {E P : Type 0} (f : Filter) (v w : Way E P) (r : Bool) → IsReady v → IsReady w → IsSameWay v w → Has f v w r → KeepsLine v w
has_keeps f v w r ready ready' same ((x, t, is), kept) = still_keeps v w x ready ready' same t kept

pub idle_keeps : {E P : Type 0} (now : ℕ) (v w : Way E P) (r : Bool) → IsReady v → IsReady w → IsSameWay v w → TellsIdle now v w r → KeepsLine v w
idle_keeps now v w r ready ready' same ((x, t, is), kept) = still_keeps v w x ready ready' same t kept

pub bars_keep : {E P : Type 0} (now token : ℕ) (v w : Way E P) → IsReady v → IsReady w → IsSameWay v w → v.pass.now.back ≤ w.pass.now.back → Bars now token v w → KeepsLine v w
bars_keep now token v w ready ready' same back (node, (x, y, t, bars)) =
    keeps v w ready' same (entered v.poster.now w.poster.now x y (Barrier (moment_at x now)) (Token token) v.pass.now w.pass.now t (entries_are x y _ bars.1) refl
    (record { home = same_home v w ready ready' same; back = back }))

pub unbars_keep : {E P : Type 0} (token : ℕ) (was : Bool) (v w : Way E P) → IsReady v → IsReady w → IsSameWay v w → v.pass.now.back ≤ w.pass.now.back → Unbars token was v w → KeepsLine v w
unbars_keep token was v w ready ready' same back did =
    keeps v w ready' same (unbarring token was v.poster.now w.poster.now v.pass.now w.pass.now (record { home = same_home v w ready ready' same; back = back }) did)

pub none_keeps : {E P : Type 0} (v w : Way E P) → IsReady v → IsReady w → IsSameWay v w → v.pass.now.back ≤ w.pass.now.back → MadeNone v.poster.now w.poster.now → KeepsLine v w
none_keeps v w ready ready' same back did =
    keeps v w ready' same (made_none v.poster.now w.poster.now v.pass.now w.pass.now did (record { home = same_home v w ready ready' same; back = back }))

pub quits_keep : {E P : Type 0} (safe : Bool) (now : ℕ) (v w : Way E P) (r : Quit) → IsReady v → IsReady w → IsSameWay v w → Quits safe now v w r → KeepsLine v w
quits_keep safe now v w r ready ready' same did =
    keeps v w ready' same (quitting safe now v.poster.now w.poster.now v.pass.now w.pass.now r (same_home v w ready ready' same) did)

module _ {E P : Type 0} (v w : Way E P) (ready : IsReady v) (ready' : IsReady w) (same : IsSameWay v w) (back : v.pass.now.back ≤ w.pass.now.back) where
  pub bar_keeps : (now : ℕ) (r : Result ℕ NoMemory) → IfOk r (λ token. Bars now token v w) → OnErr r (MadeNone v.poster.now w.poster.now) → KeepsLine v w
  bar_keeps now (Ok token) did none = bars_keep now token v w ready ready' same back did
  bar_keeps now (Err e) did none = none_keeps v w ready ready' same back none

  pub unbar_keeps : (token : ℕ) (r : Result Bool NoMemory) → IfOk r (λ was. Unbars token was v w) → OnErr r (MadeNone v.poster.now w.poster.now) → KeepsLine v w
  unbar_keeps token (Ok was) did none = unbars_keep token was v w ready ready' same back did
  unbar_keeps token (Err e) did none = none_keeps v w ready ready' same back none
