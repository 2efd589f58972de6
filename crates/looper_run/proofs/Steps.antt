-- One step of a round.
use Rattle.std.proofs.Common.{◌≡◌, ℕ, List, [], ◌∷◌, ◌++◌, length, get_or, All, Option, Some, None, refl, sym, ap, ◌∙◌, subst, arith}
use Rattle.std.proofs.lemmas.List.{append-nil}
use Rattle.atomic_table.specs.Seated.{TableId}
use Rattle.std.specs.List.{cons_option}
use Rattle.loop_model.specs.declared.journal.Journal.{Journal}
use Rattle.loop_model.specs.declared.journal.Act.{Act}
use Rattle.loop_model.specs.declared.journal.Act.TheVariants.{Dispatch, Idle, Event, Vsync, Paint}
use Rattle.loop_model.specs.declared.call.Call.TheVariants.{Next}
use Rattle.loop_model.specs.declared.reply.Reply.TheVariants.{Dispatched, Disposed}
use Rattle.loop_model.specs.declared.entry.Entry.{Entry}
use Rattle.loop_model.specs.Answers.{Setting}
use Rattle.message_slot.specs.Letter.{number_in, post_of}
use Rattle.message_pool.specs.Passes.{Node, Tally}
use Rattle.queue_state.specs.Queue.{entry_of, moment_at}
use Rattle.queue_state.specs.Ended.{ended}
use Rattle.shared_queue.specs.Constants.{Constants, IsStateOf}
use Rattle.shared_queue.specs.Known.{IsTurn}
use Rattle.looper_run.specs.Holding.{Sender, State, Holding, Workplace, workplace}
use Rattle.looper_run.specs.Acts.{IsQuietAct, GrowsBy}
use Rattle.loop_model.specs.Dispatches.{act_dispatch, dispatches}
use Rattle.loop_model.specs.Posts.{post_at}
use Rattle.looper_run.specs.Tests.{Test, Passes, IsSameLooper, HasTakenMessage}
use Rattle.looper_run.specs.Told.{IsTold, IsRecycled, Dispatches}
use Rattle.looper_run.specs.Round.{Works}
use Rattle.looper_run.proofs.Working.{all_none, entry_of_own, same_then}
use Rattle.looper_run.proofs.Turning.{IsOther, Found, found, with_others, with_quiet, moment_is, works_turn, works_taken}
use Rattle.looper_run.proofs.Taking.{taken_post}

pub workplace_same : (a b : Holding) → IsSameLooper a b → workplace b ≡ workplace a
workplace_same a b s = λ i. record { table = s.table i; constants = s.constants i; pool = s.home i }

-- a test of workplaces that is kept is true of the looper later
pub serves_on : (S T : Workplace → Type 0) (a b : Holding) → ((w : Workplace) → S w → T w) → IsSameLooper a b → S (workplace a) → T (workplace b)
serves_on S T a b keeps s h = subst T (sym (workplace_same a b s)) (keeps (workplace a) h)

pub taken_on : (M N : Test) (h : Holding) (m : Node) (now : ℕ) → ((s : ℕ) (es : List Entry) (acts : List Act) → M s es acts → N s es acts) → HasTakenMessage M h m now → HasTakenMessage N h m now
taken_on M N h m now keeps t = record {
  past = t.past;
  take = t.take;
  seen = t.seen;
  is_take = t.is_take;
  post = t.post;
  passes = keeps h.poster.sender t.past h.journal.acts t.passes;
}

no_dispatch : (a : Act) → IsQuietAct a → act_dispatch a ≡ None
no_dispatch (Dispatch n now route) q = absurd q
no_dispatch (Idle i k) q = refl
no_dispatch (Event f e m) q = refl
no_dispatch (Vsync s) q = refl
no_dispatch (Paint g v) q = refl

quiet_none : (did : List Act) → All IsQuietAct did → dispatches did ≡ []
quiet_none did quiet = all_none act_dispatch did (λ k d near. no_dispatch (get_or did k d) (quiet k d near))

same_poster : (a b : Holding) → b.poster ≡ a.poster → b.pass.home ≡ a.pass.home → b.journal.looper ≡ a.journal.looper → IsSameLooper a b
same_poster a b e home looper = record {
  table = ap (λ (p : Sender). p.table) e;
  sender = ap (λ (p : Sender). p.sender) e;
  constants = ap (λ (p : Sender). p.view.constants) e;
  heard = ap (λ (p : Sender). p.view.heard) e;
  turns = (let even : b.poster.view.turns ≡ a.poster.view.turns = ap (λ (p : Sender). p.view.turns) e in omega (arith, even));
  home = home;
  looper = looper;
}

pub same_told : (a b : Holding) (m : Node) (now : ℕ) → (told : IsTold a b m now) → IsSameLooper told.left b
same_told a b m now told = same_poster told.left b told.poster (ap (λ (p : Tally). p.home) told.pass) told.looper

pub same_recycled : (a b : Holding) (m : Node) → IsRecycled a b m → IsSameLooper a b
same_recycled a b m r = same_poster a b r.poster r.home (ap (λ (j : Journal). j.looper) r.journal)

-- a test at what the looper has become
pub passes_at : (M : Test) (s : ℕ) (es : List Entry) (acts : List Act) (b : Holding) → b.poster.sender ≡ s → b.poster.view.seen ≡ es → b.journal.acts ≡ acts → M s es acts → Passes M b
passes_at M s es acts b of_sender of_seen of_acts h =
    subst (λ (k : ℕ). M k b.poster.view.seen b.journal.acts) (sym of_sender) (subst (λ (l : List Entry). M s l b.journal.acts) (sym of_seen) (subst (λ (l : List Act). M s es l) (sym of_acts) h))

-- the law of a test on entries of others
abbrev pub KeepsOthers : Test → Type 0
KeepsOthers M = (s : ℕ) (es : List Entry) (e : Entry) (acts : List Act) → IsOther s e → M s es acts → M s (es ++ e ∷ []) acts

-- the law on a look that ends the queue
abbrev pub KeepsDisposal : Test → Type 0
KeepsDisposal M = (s : ℕ) (es : List Entry) (e : Entry) (now : ℕ) (acts : List Act) → e.sender ≡ s → e.call ≡ Next now → e.reply ≡ Disposed → M s es acts → M s (es ++ e ∷ []) acts

-- the law on idle handlers and events
abbrev pub KeepsQuiet : Test → Type 0
KeepsQuiet M = (s : ℕ) (es : List Entry) (a : Act) (acts : List Act) → IsQuietAct a → M s es acts → M s es (acts ++ a ∷ [])

-- what a call left of the looper, where the poster took one turn and the pass and the journal are still the looper's
pub record Turned (a b : Holding) : Type 0 where
  pub home : b.pass.home ≡ a.pass.home
  pub looper : b.journal.looper ≡ a.journal.looper

pub same_turn : (a b : Holding) (x y : State) → IsTurn a.poster b.poster x y → Turned a b → IsSameLooper a b
same_turn a b x y t u = record { table = t.table; sender = t.sender; constants = t.constants; heard = t.heard; turns = omega (arith, t.turns); home = u.home; looper = u.looper }

-- what the turn found still passes the test
found_passes : (M : Test) (a : Holding) (x : State) → KeepsOthers M → Found a.poster x → Passes M a → M a.poster.sender x.entries a.journal.acts
found_passes M a x law f h =
    subst (λ (l : List Entry). M a.poster.sender l a.journal.acts) (sym f.entries) (with_others M a.poster.sender a.poster.view.seen f.others a.journal.acts (λ es e apart. law a.poster.sender es e a.journal.acts apart) f.all h)

module _ (a b : Holding) (x y : State) (t : IsTurn a.poster b.poster x y) (u : Turned a b) where
  -- a turn that left the history as it was, and acts that tell no dispatch
  pub works_quiet : (s : Setting) (now : ℕ) → y.entries ≡ x.entries → GrowsBy IsQuietAct a.journal.acts b.journal.acts → Works s now a b 0
  works_quiet s now still grows =
      let none : dispatches grows.0 ≡ [] = quiet_none grows.0 grows.2 in
      subst (Works s now a b) (ap length none) (works_turn s now a b x y [] grows.0 (same_turn a b x y t u) (found a.poster b.poster x y t) (still ∙ sym (append-nil x.entries)) t.seen grows.1 none tt)

  pub passes_quiet : (M : Test) → KeepsOthers M → KeepsQuiet M → y.entries ≡ x.entries → GrowsBy IsQuietAct a.journal.acts b.journal.acts → Passes M a → Passes M b
  passes_quiet M others quiet still grows h =
      let before = found_passes M a x others (found a.poster b.poster x y t) h in
      passes_at M a.poster.sender x.entries (a.journal.acts ++ grows.0) b t.sender (t.seen ∙ still) grows.1
      (with_quiet M a.poster.sender x.entries a.journal.acts grows.0 (λ acts act q. quiet a.poster.sender x.entries act acts q) grows.2 before)

  -- a turn that ended the queue
  pub works_end : (key : Constants TableId) (now : ℕ) → IsStateOf key x → y.entries ≡ x.entries ++ entry_of x a.poster.sender (Next (moment_at x now)) Disposed ∷ [] → b.journal.acts ≡ a.journal.acts → Works key.setting now a b 0
  works_end key now own left acts =
      let e : Entry = entry_of x a.poster.sender (Next (moment_at x now)) Disposed in
      works_turn key.setting now a b x y (e ∷ []) [] (same_turn a b x y t u) (found a.poster b.poster x y t) left t.seen (acts ∙ sym (append-nil a.journal.acts))
      (sym (ap (λ (o : Option (ℕ × ℕ)). cons_option o []) (entry_of_own a.poster.sender e refl)))
      ((λ mine. moment_is key x x.entries now own refl), tt)

  pub passes_end : (M : Test) (now : ℕ) → KeepsOthers M → KeepsDisposal M → y.entries ≡ x.entries ++ entry_of x a.poster.sender (Next (moment_at x now)) Disposed ∷ [] → b.journal.acts ≡ a.journal.acts → Passes M a → Passes M b
  passes_end M now others disposal left acts h =
      let e : Entry = entry_of x a.poster.sender (Next (moment_at x now)) Disposed in
      let before = found_passes M a x others (found a.poster b.poster x y t) h in
      passes_at M a.poster.sender (x.entries ++ e ∷ []) a.journal.acts b t.sender (t.seen ∙ left) acts (disposal a.poster.sender x.entries e (moment_at x now) a.journal.acts refl refl refl before)

  -- a turn that took a message
  pub has_taken : (M : Test) (key : Constants TableId) (n at : ℕ) (node : Node) → KeepsOthers M → IsStateOf key x → ended (Next at) (Dispatched n) x.messages ≡ node ∷ []
      → y.entries ≡ x.entries ++ entry_of x a.poster.sender (Next at) (Dispatched n) ∷ [] → b.journal.acts ≡ a.journal.acts → Passes M a → HasTakenMessage M b node at
  has_taken M key n at node others own took left acts h =
      let post = taken_post key x n at node own t.sound.0 took in
      let before = found_passes M a x others (found a.poster b.poster x y t) h in
      record {
        past = x.entries;
        take = entry_of x a.poster.sender (Next at) (Dispatched n);
        seen = t.seen ∙ left;
        is_take = record { sender_is = sym t.sender; call = refl; reply = ap Dispatched (sym post.0) };
        post = subst (λ (k : ℕ). post_at x.entries k ≡ Some (post_of node.item)) (sym post.0) post.1;
        passes = subst (λ (k : ℕ). M k x.entries b.journal.acts) (sym t.sender) (subst (λ (l : List Act). M a.poster.sender x.entries l) (sym acts) before);
      }

  -- and then dispatched it
  pub works_dispatched : (key : Constants TableId) (now n at : ℕ) (node : Node) (d : Holding) → IsStateOf key x → ended (Next at) (Dispatched n) x.messages ≡ node ∷ [] → at ≡ moment_at x now
      → y.entries ≡ x.entries ++ entry_of x a.poster.sender (Next at) (Dispatched n) ∷ [] → b.journal.acts ≡ a.journal.acts → Dispatches b d node at → Works key.setting now a d 1
  works_dispatched key now n at node d own took moment left acts done =
      let post = taken_post key x n at node own t.sound.0 took in
      let e : Entry = entry_of x a.poster.sender (Next at) (Dispatched n) in
      let told = done.1 in
      let c = told.left in
      works_taken key.setting now a b c d x y e (number_in node.item) at told.route (same_turn a b x y t u) (found a.poster b.poster x y t) left t.seen acts refl refl (ap Dispatched (sym post.0)) (moment ∙ moment_is key x x.entries now own refl)
      told.lent (same_then c done.0 d (same_told b done.0 node at told) (same_recycled done.0 d node done.2))
      (ap (λ (p : Sender). p.view.seen) (done.2.poster ∙ told.poster)) (ap (λ (j : Journal). j.acts) done.2.journal ∙ told.acts)

-- acts that tell no dispatch were appended, and that is all
pub works_acts : (s : Setting) (now : ℕ) (a b : Holding) → b.poster ≡ a.poster → b.pass.home ≡ a.pass.home → b.journal.looper ≡ a.journal.looper → GrowsBy IsQuietAct a.journal.acts b.journal.acts → Works s now a b 0
works_acts s now a b poster home looper grows =
    let none : dispatches grows.0 ≡ [] = quiet_none grows.0 grows.2 in
    record {
      same = same_poster a b poster home looper;
      more = [];
      did = grows.0;
      seen = ap (λ (p : Sender). p.view.seen) poster ∙ sym (append-nil a.poster.view.seen);
      acts = grows.1;
      told = none;
      count_is = ap length none;
      looks = tt;
    }
