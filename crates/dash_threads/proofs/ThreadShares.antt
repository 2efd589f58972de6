-- A thread whose posters and passes hear others, and whose bells are rung.
use Rattle.std.proofs.Common.{◌<◌, List, map, length, ap, ◌∙◌, arith, ◌≡◌, ℕ, false, get_or, refl, sym, subst, zero, suc, ◌+◌, ◌≤◌, [], ◌∷◌, set}
use Rattle.frame_phases.specs.declared.entry.FrameEntry.{FrameEntry}
use Rattle.choreographer.specs.Known.{Pass}
use Rattle.run_model.specs.Moments.{Mode, IsUptime}
use Rattle.run_model.specs.Planned.{TimedCommand, entries_by, lines_of, labels_on}
use Rattle.run_model.specs.FrameRecords.{as_told, asks_in}
use Rattle.dash_hall.specs.Hearing.{PassesHaveHeard, HaveHeard}
use Rattle.dash_threads.specs.Threads.{HasAsked, HasTurned, labels_kept, tokens_kept, IsUpTo, RunsLine, TakesAt, ThreadKeeps, known_of, HaveSeenSame, IsThread, one_more_at}
use Rattle.std.specs.Prelude.{Result, Ok, Err, IfOk}
use Rattle.loop_model.specs.declared.entry.Entry.{Entry}
use Rattle.dash_script.specs.declared.script.Script.{Script}
use Rattle.looper_run.specs.Holding.{Sender}
use Rattle.run_model.specs.AskedSoFar.{tokens_in}
use Rattle.run_model.specs.Parts.{AreOfClock, MakeCalls}
use Rattle.dash_hall.specs.Growth.{own}
use Rattle.dash_hall.specs.Kits.{Badge, ArePostersOf, ArePassesOf}
use Rattle.dash_hall.specs.ByClock.{is_by, IsByClock}
use Rattle.dash_hall.proofs.Badges.{alike_length, alike_at}
use Rattle.dash_hall.proofs.Clocking.{if_free, clocked_same}
use Rattle.dash_script.specs.declared.script.Command.{Command}
use Rattle.dash_threads.specs.declared.thread.PostingThread.{PostingThread}
use Rattle.dash_hall.specs.declared.hall.Hall.{Hall}
use Rattle.dash_hall.proofs.Hearing.{heard_badges}
use Rattle.dash_hall.proofs.PassesHearing.{passes_heard_self, passes_heard_then, passes_heard_badges}

-- ==== a thread whose passes of choreographers heard others has asked for what it had

pub asked_heard : (m : Mode) (past : List TimedCommand) (ps qs : List Pass) → PassesHaveHeard ps qs → HasAsked m past ps → HasAsked m past qs
asked_heard m past ps qs h asked q d lt =
    let many = h.long in
    let near : q < length ps = omega (arith, lt, many) in
    ap (λ (es : List FrameEntry). map (as_told m.lockstep) (asks_in es)) (h.each q d near).same.own ∙ asked q d near

pub turned_heard : (past : List TimedCommand) (ps qs : List Pass) → PassesHaveHeard ps qs → HasTurned past ps → HasTurned past qs
turned_heard past ps qs h turned q d lt =
    let many = h.long in
    let near : q < length ps = omega (arith, lt, many) in
    (h.each q d near).same.turns ∙ turned q d near

-- ==== a thread that rang bells has run what it had run

module _ (ps ps' : List Sender) (same : HaveSeenSame ps ps') (q : ℕ) (d : Sender) (near : q < length ps') where
  known_same : known_of (get_or ps' q d) ≡ known_of (get_or ps q d)
  known_same = alike_at known_of known_of ps' ps same q d d near

  sender_same : (get_or ps' q d).sender ≡ (get_or ps q d).sender
  sender_same = ap (λ (k : Badge × List Entry). k.0.sender) known_same

  seen_same : (get_or ps' q d).view.seen ≡ (get_or ps q d).view.seen
  seen_same = ap (λ (k : Badge × List Entry). k.1) known_same

  own_same : own (get_or ps' q d) ≡ own (get_or ps q d)
  own_same = λ i. entries_by (sender_same i) (seen_same i)

  clock_same : (m : Mode) → IsByClock m (get_or ps q d) → IsByClock m (get_or ps' q d)
  clock_same m by = subst (λ (es : List Entry). AreOfClock m (is_by (get_or ps' q d).sender) es) (sym seen_same) (subst (λ (k : ℕ). AreOfClock m (is_by k) (get_or ps q d).view.seen) (sym sender_same) by)

pub up_to_still : (m : Mode) (s : Script) (past : List TimedCommand) (a b : PostingThread) → ThreadKeeps HaveSeenSame a b → IsUpTo m s past a → IsUpTo m s past b
up_to_still m s past a b k up =
    let ps = a.kit.posters.items in
    let ps' = b.kit.posters.items in
    let long = alike_length known_of known_of ps' ps k.posters in
    let barriers : b.barriers.items ≡ a.barriers.items = ap (λ v. v.items) k.barriers in
    record {
      called = λ q d near'. (
          let near : q < length ps = omega (arith, near', long) in
          subst (λ (es : List Entry). MakeCalls m s (labels_on q (lines_of b.number s.blocks)) q past es) (sym (own_same ps ps' k.posters q d near'))
          (subst (λ (n : ℕ). MakeCalls m s (labels_on q (lines_of n s.blocks)) q past (own (get_or ps q d))) (sym k.number) (up.called q d near)));
      clocked = λ q d near'. (let near : q < length ps = omega (arith, near', long) in clock_same ps ps' k.posters q d near' m (up.clocked q d near));
      barriers = record {
        labels = λ q. ap (labels_kept q) barriers ∙ up.barriers.labels q;
        tokens = λ q d near'. (
            let near : q < length ps = omega (arith, near', long) in
            ap (tokens_kept q) barriers ∙ (up.barriers.tokens q d near ∙ ap tokens_in (sym (own_same ps ps' k.posters q d near'))));
      };
      asked = asked_heard m past a.kit.frames.items b.kit.frames.items k.frames up.asked;
      turned = turned_heard past a.kit.frames.items b.kit.frames.items k.frames up.turned;
    }

-- what is so anyway is so of an answer
pub ok_so : {A E : Type 0} (r : Result A E) (P : Type 0) → P → IfOk r (λ x. P)
ok_so (Ok x) P h = h
ok_so (Err e) P h = tt

-- a command that was run at a moment that its line may have is the line's
pub takes_at : (m : Mode) (s : Script) (time : ℕ) (c : Command) (u v w : PostingThread) (now passed : ℕ) → m.lockstep ≡ false → v ≡ record u { passed = passed }
    → IsUptime m time now → TakesAt false s now c v w → RunsLine m s (record { time = time; command = c }) u w
takes_at m s time c u v w now passed free same may at =
    subst (λ (z : PostingThread). RunsLine m s (record { time = time; command = c }) z w) same (at m time (if_free m.lockstep (false ≡ false) (λ h. refl)) may)

-- ==== a thread whose posters hear others

-- one after the other
pub thread_then : (R S T : List Sender → List Sender → Type 0) → ((a b c : List Sender) → R a b → S b c → T a c) → (x y z : PostingThread) → ThreadKeeps R x y → ThreadKeeps S y z → ThreadKeeps T x z
thread_then R S T h x y z f g = record {
  number = g.number ∙ f.number;
  posters = h x.kit.posters.items y.kit.posters.items z.kit.posters.items f.posters g.posters;
  pass = g.pass ∙ f.pass;
  frames = passes_heard_then x.kit.frames.items y.kit.frames.items z.kit.frames.items f.frames g.frames;
  barriers = g.barriers ∙ f.barriers;
  passed = g.passed ∙ f.passed;
  gave_up = g.gave_up ∙ f.gave_up;
}

-- a thread as it is
pub thread_self : (R : List Sender → List Sender → Type 0) → ((a : List Sender) → R a a) → (x : PostingThread) → ThreadKeeps R x x
thread_self R h x = record { number = refl; posters = h x.kit.posters.items; pass = refl; frames = passes_heard_self x.kit.frames.items; barriers = refl; passed = refl; gave_up = refl }

-- what follows from it for the posters
pub thread_weaker : (R S : List Sender → List Sender → Type 0) → ((a b : List Sender) → R a b → S a b) → (x y : PostingThread) → ThreadKeeps R x y → ThreadKeeps S x y
thread_weaker R S h x y f = record {
  number = f.number;
  posters = h x.kit.posters.items y.kit.posters.items f.posters;
  pass = f.pass;
  frames = f.frames;
  barriers = f.barriers;
  passed = f.passed;
  gave_up = f.gave_up;
}

-- a thread stays one
pub thread_kept : (s : Script) (hall : Hall) (a b : PostingThread) → ThreadKeeps HaveHeard a b → IsThread s hall a → IsThread s hall b
thread_kept s hall a b k is = record {
  number = subst (λ (n : ℕ). n < s.threads) (sym k.number) is.number;
  posters = subst (λ (n : ℕ). ArePostersOf n hall.queues.items b.kit.posters.items) (sym k.number) (heard_badges a.kit.posters.items b.kit.posters.items k.posters ∙ is.posters);
  frames = subst (λ (n : ℕ). ArePassesOf n hall.choreographers.items b.kit.frames.items) (sym k.number) (passes_heard_badges a.kit.frames.items b.kit.frames.items k.frames ∙ is.frames);
  pass = ap (λ t. t.home) k.pass ∙ is.pass;
}

-- and has come as far
pub up_to_kept : (m : Mode) (s : Script) (past : List TimedCommand) (a b : PostingThread) → ThreadKeeps HaveHeard a b → IsUpTo m s past a → IsUpTo m s past b
up_to_kept m s past a b k up =
    let long = k.posters.long in
    let barriers : b.barriers.items ≡ a.barriers.items = ap (λ v. v.items) k.barriers in
    record {
      called = λ q d lt.
          let near : q < length a.kit.posters.items = omega (arith, lt) in
          subst (λ (es : List Entry). MakeCalls m s (labels_on q (lines_of b.number s.blocks)) q past es) (sym (k.posters.each q d near).called)
          (subst (λ (n : ℕ). MakeCalls m s (labels_on q (lines_of n s.blocks)) q past (own (get_or a.kit.posters.items q d))) (sym k.number) (up.called q d near));
      clocked = λ q d lt.
          let near : q < length a.kit.posters.items = omega (arith, lt) in
          let h = k.posters.each q d near in
          clocked_same m (get_or a.kit.posters.items q d) (get_or b.kit.posters.items q d) h.same.sender h.more h.called (up.clocked q d near);
      barriers = record {
        labels = λ q. ap (labels_kept q) barriers ∙ up.barriers.labels q;
        tokens = λ q d lt.
            let near : q < length a.kit.posters.items = omega (arith, lt) in
            ap (tokens_kept q) barriers ∙ (up.barriers.tokens q d near ∙ ap tokens_in (sym (k.posters.each q d near).called));
      };
      asked = asked_heard m past a.kit.frames.items b.kit.frames.items k.frames up.asked;
      turned = turned_heard past a.kit.frames.items b.kit.frames.items k.frames up.turned;
    }

-- ==== how often a thread has rung bells

-- the poster at this place rang
pub ring_set : (ps : List Sender) (i : ℕ) (p q : Sender) → p ≡ get_or ps i p → i < length ps → q.view.rung ≡ p.view.rung + 1
    → map (λ z. z.view.rung) (set ps i q) ≡ one_more_at i (map (λ z. z.view.rung) ps)
ring_set [] i p q is lt more = absurd (omega (arith, lt))
ring_set (x ∷ xs) zero p q is lt more =
    let same = ap (λ (z : Sender). z.view.rung) is in
    let e : q.view.rung ≡ suc x.view.rung = omega (arith, more, same) in
    ap (λ (n : ℕ). n ∷ map (λ z. z.view.rung) xs) e
ring_set (x ∷ xs) (suc i) p q is lt more = ap (λ (l : List ℕ). x.view.rung ∷ l) (ring_set xs i p q is (omega (arith, lt)) more)

-- there is no such place
pub ring_none : (ps : List Sender) (i : ℕ) → length ps ≤ i → map (λ z. z.view.rung) ps ≡ one_more_at i (map (λ z. z.view.rung) ps)
ring_none [] i le = refl
ring_none (x ∷ xs) zero le = absurd (omega (arith, le))
ring_none (x ∷ xs) (suc i) le = ap (λ (l : List ℕ). x.view.rung ∷ l) (ring_none xs i (omega (arith, le)))
