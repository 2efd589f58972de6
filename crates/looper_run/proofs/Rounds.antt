-- The looks of a round, put together.
use Rattle.std.proofs.Common.{◌≡◌, ℕ, suc, ◌+◌, ◌≤◌, ◌<◌, ◌^◌, true, false, List, [], ◌∷◌, length, length-append, Option, Some, None, refl, ap, ◌∙◌, subst, arith, inl, inr, zero-add, add-zero}
use Rattle.std.specs.List.{cons_option}
use Rattle.atomic_table.specs.Seated.{TableId}
use Rattle.loop_model.specs.declared.journal.Act.{Act}
use Rattle.loop_model.specs.Answers.{Setting}
use Rattle.message_pool.specs.Passes.{Claimed, Tally}
use Rattle.queue_state.specs.declared.answers.Nexted.{Nexted}
use Rattle.queue_state.specs.declared.answers.Nexted.TheVariants as nexted
use Rattle.shared_queue.specs.Known.{Shared, IsOf}
use Rattle.looper_run.specs.declared.looper.Round.{Round}
use Rattle.looper_run.specs.declared.looper.Round.TheVariants as round
use Rattle.looper_run.specs.Holding.{Holding, Looping, IsAt}
use Rattle.loop_model.specs.Dispatches.{act_dispatch, dispatches}
use Rattle.looper_run.specs.Asked.{Listening, any_heard}
use Rattle.looper_run.specs.Tests.{IsSameLooper}
use Rattle.looper_run.specs.Looks.{HasDispatched, HasIdled, HasWaited, HasEnded, LooksUntil, DrainBy, IsBegun, IsRound}
use Rattle.looper_run.specs.Round.{Works, LastLook, RoundBy}
use Rattle.looper_run.proofs.Working.{works_none, works_then, works_lent}
use Rattle.looper_run.proofs.Asking.{tells_as}
use Rattle.looper_run.proofs.Quiet.{quiet_events}
use Rattle.looper_run.proofs.Steps.{works_acts}
use Rattle.looper_run.proofs.Looking.{works_dispatching, works_idling, works_waiting, works_ending}

one_more : (o : Option (ℕ × ℕ)) (xs : List (ℕ × ℕ)) (k : ℕ) → length xs ≤ k → length (cons_option o xs) ≤ suc k
one_more None xs k h = omega arith
one_more (Some x) xs k h = omega arith

told_le : (did : List Act) → length (dispatches did) ≤ length did
told_le [] = omega arith
told_le (a ∷ did) = one_more (act_dispatch a) (dispatches did) (length did) (told_le did)

-- each message that was dispatched has an act, so their number fits where that of the acts does
pub count_fits : (s : Setting) (now : ℕ) (a b : Holding) (n : ℕ) → Works s now a b n → length b.journal.acts < 2 ^ 64 → n < 2 ^ 64
count_fits s now a b n w fits =
    let whole : length b.journal.acts ≡ length a.journal.acts + length w.did = ap length w.acts ∙ length-append a.journal.acts w.did in
    omega (arith, w.count_is, told_le w.did, whole, fits)

module _ (s : Setting) (now : ℕ) (a b c : Holding) where
  -- a part that dispatches nothing stands before or behind another
  pub none_before : (n : ℕ) → Works s now a b 0 → Works s now b c n → Works s now a c n
  none_before n p q = subst (Works s now a c) (zero-add n) (works_then s now a b c 0 n p q)

  pub none_behind : (n : ℕ) → Works s now a b n → Works s now b c 0 → Works s now a c n
  none_behind n p q = subst (Works s now a c) (add-zero n) (works_then s now a b c n 0 p q)

-- the same looper is at the same queue and pool
pub at_on : (q : Shared TableId) (pool : TableId) (a b : Holding) → IsSameLooper a b → IsAt q pool a → IsAt q pool b
at_on q pool a b same at = record {
  poster = (same.table ∙ at.poster.0, same.constants ∙ at.poster.1);
  pass = same.home ∙ at.pass;
  home = at.home;
}

-- what a round has done so far, and the looks that it made
pub record IsGoing (q : Shared TableId) (now : ℕ) (before after : Looping) (count : ℕ) : Type 0 where
  pub works : Works q.constants.setting now before.held after.held count
  pub looks : LooksUntil now before count after

pub goes_none : (q : Shared TableId) (now : ℕ) (a : Looping) → IsGoing q now a a 0
goes_none q now a = record { works = works_none q.constants.setting now a.held; looks = ([], refl, refl) }

module _ (q : Shared TableId) (pool : TableId) (now n : ℕ) (a b c : Looping) (at : IsAt q pool a.held) (g : IsGoing q now a b n) where
  of_now : IsOf b.held.poster q
  of_now = (at_on q pool a.held b.held g.works.same at).poster

  pub goes_dispatching : HasDispatched now b c → IsGoing q now a c (n + 1)
  goes_dispatching h = record {
    works = works_then q.constants.setting now a.held b.held c.held n 1 g.works (works_dispatching q now b c of_now h);
    looks = (true ∷ g.looks.0, (b, g.looks.1, h), (let count = g.looks.2 in omega (arith, count)));
  }

  -- each message that was dispatched has an act, so their number fits where that of the acts does
  pub fits_dispatching : HasDispatched now b c → length c.held.journal.acts < 2 ^ 64 → n + 1 < 2 ^ 64
  fits_dispatching h fits = count_fits q.constants.setting now a.held c.held (n + 1) (goes_dispatching h).works fits

  pub goes_idling : HasIdled now b c → IsGoing q now a c n
  goes_idling h = record {
    works = none_behind q.constants.setting now a.held b.held c.held n g.works (works_idling q now b c of_now h);
    looks = (false ∷ g.looks.0, (b, g.looks.1, h), g.looks.2);
  }

  pub drained : (until : Option ℕ) → HasWaited now b c until → RoundBy q.constants.setting now a.held c.held (round.Drained n until)
  drained until h = (
    none_behind q.constants.setting now a.held b.held c.held n g.works (works_waiting q now b c of_now until h),
    (b.held.poster, b.idle_owed, g.works.same.turns, h.look),
  )

  pub ended : HasEnded now b c → RoundBy q.constants.setting now a.held c.held (round.Ended n)
  ended h = (
    none_behind q.constants.setting now a.held b.held c.held n g.works (works_ending q now b c of_now h),
    elim h.look [
      | inl end ↦ inl (end.0, (b.held.poster, b.idle_owed, g.works.same.turns, end.1))
      | inr over ↦ inr (b.held.poster, b.idle_owed, g.works.same.turns, over.0)
    ],
  )

module _ (s : Setting) (now : ℕ) (a b c : Holding) where
  earlier_look : (answer : Nexted Claimed TableId) → a.poster.view.turns ≤ b.poster.view.turns → LastLook now b.poster c.poster answer → LastLook now a.poster c.poster answer
  earlier_look answer le look = (look.0, look.1, (let all : a.poster.view.turns ≤ look.0.view.turns = omega (arith, le, look.2) in all), look.3)

  -- a round goes on after a part that dispatches nothing
  pub begun : (r : Round) → Works s now a b 0 → RoundBy s now b c r → RoundBy s now a c r
  begun (round.Drained n until) p q = (none_before s now a b c n p q.0, earlier_look (nexted.Wait until) p.same.turns q.1)
  begun (round.Ended n) p q = (
    none_before s now a b c n p q.0,
    elim q.1 [
      | inl end ↦ inl (end.0, earlier_look (nexted.End end.0) p.same.turns end.1)
      | inr over ↦ inr (earlier_look nexted.Over p.same.turns over)
    ],
  )
  begun round.NoMemory p q = tt

-- that the looper is marked as ended is no part of a look
pub ends_marked : (now : ℕ) (a b : Looping) → HasEnded now a b → HasEnded now a (record { held = b.held; idle_owed = b.idle_owed; ended = true })
ends_marked now a b h = record { look = h.look; home = h.home; journal = h.journal; idle_owed = h.idle_owed }

-- a pulse, and then events
pub works_beginning : (called : List Listening → Type 0) (s : Setting) (now : ℕ) (a b : Looping) → IsBegun called a b → Works s now a.held b.held 0
works_beginning called s now a b h =
    none_before s now a.held h.left b.held 0 (works_lent s now a.held h.left h.lent)
    (works_acts s now h.left b.held h.poster (ap (λ (p : Tally). p.home) h.pass) h.looper (quiet_events called h.left.journal.acts b.held.journal.acts h.told))

-- what is said of the listenings can be weakened
begun_as : (P Q : List Listening → Type 0) (a b : Looping) → ((heard : List Listening) → P heard → Q heard) → IsBegun P a b → IsBegun Q a b
begun_as P Q a b weaker h = record { left = h.left; lent = h.lent; poster = h.poster; pass = h.pass; looper = h.looper; told = tells_as P Q h.left.journal.acts b.held.journal.acts weaker h.told; idle_owed = h.idle_owed }

pub begun_any : (P : List Listening → Type 0) (a b : Looping) → IsBegun P a b → IsBegun any_heard a b
begun_any P a b h = begun_as P any_heard a b (λ heard p. tt) h

-- a round of which nothing is said of the listenings
pub round_any : (P : List Listening → Type 0) (now : ℕ) (a b : Looping) (r : Round) → IsRound P now a b r → IsRound any_heard now a b r
round_any P now a b (round.Drained n until) h = (h.0, begun_any P a h.0 h.1, h.2)
round_any P now a b (round.Ended n) h = (h.0, begun_any P a h.0 h.1, h.2)
round_any P now a b round.NoMemory h = h

pub round_looks : (P Q : List Listening → Type 0) (now : ℕ) (a b c : Looping) (r : Round) → IsBegun P a b → ((heard : List Listening) → P heard → Q heard) → DrainBy now b c r → IsRound Q now a c r
round_looks P Q now a b c (round.Drained n until) h weaker d = (b, begun_as P Q a b weaker h, d)
round_looks P Q now a b c (round.Ended n) h weaker d = (b, begun_as P Q a b weaker h, d)
round_looks P Q now a b c round.NoMemory h weaker d = (b, begun_any P a b h, inr d)
