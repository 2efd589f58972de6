-- A looper that sleeps by a clock, and the steps of its loop as parts of it.
use Rattle.std.proofs.Common.{◌≡◌, ℕ, zero, suc, Bool, List, [], ◌∷◌, ◌++◌, Option, refl, sym, ◌∙◌, subst, arith, append_assoc}
use Rattle.std.proofs.lemmas.List.{append-nil}
use Rattle.atomic_table.specs.Seated.{TableId}
use Rattle.loop_io.specs.Moments.{IsMoment}
use Rattle.loop_model.specs.declared.call.Call.{Call}
use Rattle.loop_model.specs.declared.call.Call.TheVariants.{Post, Barrier, Unbarrier, Remove, Quit, Next, Advance, Halt}
use Rattle.loop_model.specs.declared.entry.Entry.{Entry}
use Rattle.loop_model.specs.Answers.{Setting}
use Rattle.queue_state.specs.declared.answers.Nexted.TheVariants as nexted
use Rattle.shared_queue.specs.Known.{Shared, IsOf}
use Rattle.shared_queue.specs.Waiting.{HasListened, HasLooked, HasSlept, Slept}
use Rattle.looper_run.specs.declared.step.Step.{Step}
use Rattle.looper_run.specs.declared.step.Step.TheVariants as step
use Rattle.looper_run.specs.Holding.{Sender, Holding, Looping}
use Rattle.looper_run.specs.Acts.{moment_on, IsLookAt, AreLooksAt}
use Rattle.looper_run.specs.Tests.{Test, Passes, IsSameLooper}
use Rattle.looper_run.specs.Looks.{looked_by, by_poster, HasWaited}
use Rattle.looper_run.specs.Round.{Works}
use Rattle.looper_run.specs.Loops.{IsStill, IsLookBy, AreLooksBy, IsLoopPart, HasWaitedLong, HasStepped, LooksAgain}
use Rattle.looper_run.proofs.Working.{behind, told_then}
use Rattle.looper_run.proofs.Steps.{KeepsOthers, KeepsQuiet}
use Rattle.looper_run.proofs.Looking.{works_dispatching, works_idling, works_waiting, passes_wait}

pub still_of : (a b : Holding) → IsSameLooper a b → IsStill a b
still_of a b s = record { table = s.table; sender = s.sender; constants = s.constants; turns = s.turns; home = s.home; looper = s.looper }

pub still_self : (a : Holding) → IsStill a a
still_self a = record { table = refl; sender = refl; constants = refl; turns = omega arith; home = refl; looper = refl }

pub still_then : (a b c : Holding) → IsStill a b → IsStill b c → IsStill a c
still_then a b c p q = record {
  table = q.table ∙ p.table;
  sender = q.sender ∙ p.sender;
  constants = q.constants ∙ p.constants;
  turns = (let one = p.turns in let two = q.turns in omega (arith, one, two));
  home = q.home ∙ p.home;
  looper = q.looper ∙ p.looper;
}

pub of_still : (q : Shared TableId) (a b : Holding) → IsStill a b → IsOf a.poster q → IsOf b.poster q
of_still q a b s of = (s.table ∙ of.0, s.constants ∙ of.1)

module _ (shows : ℕ → Bool) (start : ℕ) (s : Setting) where
  look_by : (past : List Entry) (now : ℕ) (c : Call) → IsMoment shows start now → IsLookAt (moment_on s past now) c → IsLookBy shows start s past c
  look_by past now (Next at) m look = (now, m, look)
  look_by past now (Post p) m look = tt
  look_by past now (Barrier n) m look = tt
  look_by past now (Unbarrier t) m look = tt
  look_by past now (Remove f) m look = tt
  look_by past now (Quit f n) m look = tt
  look_by past now (Advance n) m look = tt
  look_by past now (Halt n) m look = tt

  looks_by : (sender now : ℕ) → IsMoment shows start now → (past more : List Entry) → AreLooksAt s sender now past more → AreLooksBy shows start s sender past more
  looks_by sender now m past [] looks = tt
  looks_by sender now m past (e ∷ more) looks = ((λ own. look_by past now e.call m (looks.0 own)), looks_by sender now m (past ++ e ∷ []) more looks.1)

  looks_by_append : (sender : ℕ) (past xs ys : List Entry) → AreLooksBy shows start s sender past xs → AreLooksBy shows start s sender (past ++ xs) ys → AreLooksBy shows start s sender past (xs ++ ys)
  looks_by_append sender past [] ys p q = subst (λ (l : List Entry). AreLooksBy shows start s sender l ys) (append-nil past) q
  looks_by_append sender past (x ∷ xs) ys p q = (p.0, looks_by_append sender (past ++ x ∷ []) xs ys p.1 (subst (λ (l : List Entry). AreLooksBy shows start s sender l ys) (sym (append_assoc past (x ∷ []) xs)) q))

  -- a part of a round at a moment of the clock is a part of a loop
  pub works_on : (now n : ℕ) (a b : Holding) → IsMoment shows start now → Works s now a b n → IsLoopPart shows start s a b
  works_on now n a b m w = record {
    still = still_of a b w.same;
    more = w.more;
    did = w.did;
    seen = w.seen;
    acts = w.acts;
    told = w.told;
    looks = looks_by a.poster.sender now m a.poster.view.seen w.more w.looks;
  }

  -- the poster did nothing but listen, or was lent and came back
  pub works_on_none : (a b : Holding) → IsStill a b → b.poster.view.seen ≡ a.poster.view.seen → b.journal.acts ≡ a.journal.acts → IsLoopPart shows start s a b
  works_on_none a b still seen acts = record { still = still; more = []; did = []; seen = seen ∙ sym (append-nil a.poster.view.seen); acts = acts ∙ sym (append-nil a.journal.acts); told = refl; looks = tt }

  pub works_on_self : (a : Holding) → IsLoopPart shows start s a a
  works_on_self a = works_on_none a a (still_self a) refl refl

  pub works_on_then : (a b c : Holding) → IsLoopPart shows start s a b → IsLoopPart shows start s b c → IsLoopPart shows start s a c
  works_on_then a b c p q =
      record {
        still = still_then a b c p.still q.still;
        more = p.more ++ q.more;
        did = p.did ++ q.did;
        seen = behind a.poster.view.seen b.poster.view.seen c.poster.view.seen p.more q.more p.seen q.seen;
        acts = behind a.journal.acts b.journal.acts c.journal.acts p.did q.did p.acts q.acts;
        told = told_then a.poster.sender b.poster.sender p.did q.did p.more q.more p.still.sender p.told q.told;
        looks = looks_by_append a.poster.sender a.poster.view.seen p.more q.more p.looks
            (subst (λ (l : List Entry). AreLooksBy shows start s a.poster.sender l q.more) p.seen (subst (λ (k : ℕ). AreLooksBy shows start s k b.poster.view.seen q.more) p.still.sender q.looks));
      }

-- the looper went on, with the bell as it was
pub record Goes (shows : ℕ → Bool) (start : ℕ) (s : Setting) (a b : Holding) : Type 0 where
  pub works : IsLoopPart shows start s a b
  pub heard : b.poster.view.heard ≡ a.poster.view.heard

module _ (shows : ℕ → Bool) (start : ℕ) (q : Shared TableId) where
  pub goes_self : (a : Holding) → Goes shows start q.constants.setting a a
  goes_self a = record { works = works_on_self shows start q.constants.setting a; heard = refl }

  pub goes_then : (a b c : Holding) → Goes shows start q.constants.setting a b → Goes shows start q.constants.setting b c → Goes shows start q.constants.setting a c
  goes_then a b c p r = record { works = works_on_then shows start q.constants.setting a b c p.works r.works; heard = r.heard ∙ p.heard }

  -- a part of a round, as one of a loop
  pub goes_by : (now n : ℕ) (a b : Holding) → IsMoment shows start now → Works q.constants.setting now a b n → Goes shows start q.constants.setting a b
  goes_by now n a b m w = record { works = works_on shows start q.constants.setting now n a b m w; heard = w.same.heard }

  -- the poster listened
  pub listening : (l : Looping) (p r : Sender) → HasListened p r → IsLoopPart shows start q.constants.setting (by_poster l p).held (by_poster l r).held
  listening l p r h =
      works_on_none shows start q.constants.setting (by_poster l p).held (by_poster l r).held
      (record { table = h.same.table; sender = h.same.sender; constants = h.same.constants; turns = (let same = h.same.turns in omega (arith, same)); home = refl; looper = refl }) h.seen refl

  -- a look that was answered to wait
  pub looking : (l : Looping) (p r : Sender) (now : ℕ) (until : Option ℕ) → IsOf p q → HasLooked shows start l.idle_owed now (nexted.Wait until) p r → Goes shows start q.constants.setting (by_poster l p).held (by_poster l r).held
  looking l p r now until of h =
      let w : HasWaited now (by_poster l p) (by_poster l r) until = record { look = h.look; pass = refl; journal = refl; idle_owed = refl } in
      goes_by now 0 (by_poster l p).held (by_poster l r).held h.moment (works_waiting q now (by_poster l p) (by_poster l r) of until w)

module _ (shows : ℕ → Bool) (start : ℕ) (cap : Option ℕ) (q : Shared TableId) where
  sleeping : (l : Looping) (p r : Sender) → IsOf p q → HasSlept shows start l.idle_owed cap p r → Goes shows start q.constants.setting (by_poster l p).held (by_poster l r).held
  sleeping l p r of h = record {
    works = works_on_then shows start q.constants.setting (by_poster l p).held (by_poster l h.looked).held (by_poster l r).held (looking shows start q l p h.looked h.now h.until of h.look).works (listening shows start q l h.looked r h.listened);
    heard = h.heard;
  }

  sleeping_long : (n : ℕ) (l : Looping) (p r : Sender) → IsOf p q → Slept shows start l.idle_owed cap n p r → Goes shows start q.constants.setting (by_poster l p).held (by_poster l r).held
  sleeping_long zero l p r of h = subst (λ (x : Sender). Goes shows start q.constants.setting (by_poster l p).held (by_poster l x).held) (sym h) (goes_self shows start q (by_poster l p).held)
  sleeping_long (suc n) l p r of h =
      let before = sleeping_long n l p h.0 of h.1 in
      goes_then shows start q (by_poster l p).held (by_poster l h.0).held (by_poster l r).held before (sleeping l h.0 r (of_still q (by_poster l p).held (by_poster l h.0).held before.works.still of) h.2)

  -- the poster that slept is still one of the queue
  pub sleeps_on : (n : ℕ) (l : Looping) (p : Sender) → IsOf l.held.poster q → Slept shows start l.idle_owed cap n l.held.poster p → IsOf p q
  sleeps_on n l p of h = of_still q l.held (by_poster l p).held (sleeping_long n l l.held.poster p of h).works.still of

  -- a looper that slept
  pub waits_long : (a b : Looping) → IsOf a.held.poster q → HasWaitedLong shows start cap a b → Goes shows start q.constants.setting a.held b.held
  waits_long a b of h = subst (λ (x : Looping). Goes shows start q.constants.setting a.held x.held) (sym h.3) (sleeping_long h.1 a a.held.poster h.0 of h.2)

  -- a step after which the looper goes on
  pub goes_step : (a b : Looping) (r : Step) → IsOf a.held.poster q → LooksAgain r → HasStepped shows start cap a b r → Goes shows start q.constants.setting a.held b.held
  goes_step a b step.Dispatched of on h =
      let slept = waits_long a h.0 of h.1 in
      goes_then shows start q a.held h.0.held b.held slept (goes_by shows start q h.2 1 h.0.held b.held h.3 (works_dispatching q h.2 h.0 b (of_still q a.held h.0.held slept.works.still of) h.4.0))
  goes_step a b step.Idled of on h =
      let slept = waits_long a h.0 of h.1 in
      goes_then shows start q a.held h.0.held b.held slept (goes_by shows start q h.2 0 h.0.held b.held h.3 (works_idling q h.2 h.0 b (of_still q a.held h.0.held slept.works.still of) h.4))
  goes_step a b (step.Waits until) of on h = absurd on
  goes_step a b step.Ends of on h = absurd on
  goes_step a b step.NoMemory of on h = absurd on

-- what sleeping leaves of a test
module _ (M : Test) (others : KeepsOthers M) (quiet : KeepsQuiet M) (shows : ℕ → Bool) (start : ℕ) (idle : Bool) (h : Holding) where
  pub passes_listening : (p r : Sender) → HasListened p r → Passes M (looked_by h p) → Passes M (looked_by h r)
  passes_listening p r l passes = subst (λ (k : ℕ). M k r.view.seen h.journal.acts) (sym l.same.sender) (subst (λ (es : List Entry). M p.sender es h.journal.acts) (sym l.seen) passes)

  pub passes_look : (p r : Sender) (now : ℕ) (until : Option ℕ) → HasLooked shows start idle now (nexted.Wait until) p r → Passes M (looked_by h p) → Passes M (looked_by h r)
  passes_look p r now until look passes = passes_wait M others now (looked_by h p) r idle quiet until look.look passes

  pub passes_slept : (cap : Option ℕ) (n : ℕ) (p r : Sender) → Slept shows start idle cap n p r → Passes M (looked_by h p) → Passes M (looked_by h r)
  passes_slept cap zero p r s passes = subst (λ (x : Sender). Passes M (looked_by h x)) (sym s) passes
  passes_slept cap (suc n) p r s passes =
      let last = s.2 in
      passes_listening last.looked r last.listened (passes_look s.0 last.looked last.now last.until last.look (passes_slept cap n p s.0 s.1 passes))
