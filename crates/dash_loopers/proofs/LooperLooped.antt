-- How a round or a loop by a clock leaves a looper.
use Rattle.std.proofs.Common.{◌≡◌, ℕ, ◌++◌, Bool, false, List, Option, Some, None, refl, sym, ap, ◌∙◌, subst}
use Rattle.std.specs.List.{slice_get}
use Rattle.atomic_table.specs.Seated.{TableId}
use Rattle.loop_io.specs.Moments.{IsMoment as IsShown}
use Rattle.loop_model.specs.Answers.{Setting}
use Rattle.loop_model.specs.declared.entry.Entry.{Entry}
use Rattle.shared_queue.specs.Known.{Shared}
use Rattle.looper_run.specs.declared.by_clock.Loop.{Loop}
use Rattle.looper_run.specs.declared.looper.Round.{Round}
use Rattle.looper_run.specs.Asked.{Listening, any_heard}
use Rattle.looper_run.specs.Holding.{Looping, Workplace}
use Rattle.looper_run.specs.Looks.{IsRound}
use Rattle.looper_run.specs.Loops.{IsStill, IsLoop, LoopBy, AreLooksBy, has_ended_looper as ends}
use Rattle.looper_run.specs.Round.{RoundBy, is_ended}
use Rattle.looper_run.specs.Tests.{IsSameLooper}
use Rattle.dash_script.specs.declared.script.Script.{Script}
use Rattle.run_model.specs.Moments.{Mode}
use Rattle.run_model.specs.ByClock.{in_free_mode}
use Rattle.dash_hall.specs.declared.hall.Hall.{Hall}
use Rattle.dash_hall.specs.Kits.{IsHall}
use Rattle.dash_loopers.specs.declared.looper.StageLooper.{StageLooper}
use Rattle.dash_loopers.specs.declared.player.Parts.{Parts}
use Rattle.dash_loopers.specs.Loopers.{ArePartsOf, IsLooper, is_given_up, round_of}
use Rattle.dash_loopers.specs.Players.{AreSameParts}
use Rattle.dash_loopers.specs.Played.{HasPlayedBy}
use Rattle.dash_loopers.specs.Clocked.{ClockOwner, ServesFree, IsPlayingAt, StaysByClock}
use Rattle.dash_loopers.specs.Looped.{HasLooped, GoesOnFrom, looper_with_parts, owner_of}
use Rattle.dash_loopers.proofs.LooperPlaces.{are_parts_then}
use Rattle.dash_loopers.proofs.LooperKits.{looper_of, looper_then, looper_with}
use Rattle.dash_loopers.proofs.LooperLoops.{looper_by_loop, played_by, worked}
use Rattle.dash_loopers.proofs.LooperMoments.{own_by_clock, stays_by_clock, setting_free, looks_by, round_worked}
use Rattle.dash_loopers.proofs.LooperNext.{looper_within}

-- what a round leaves of its queue's loop
pub record RoundLeaves (set : Setting) (now : ℕ) (before after : Looping) (last : Round) : Type 0 where
  pub same : IsSameLooper before.held after.held
  pub ended : after.ended ≡ is_ended last
  pub round : RoundBy set now before.held after.held last
  pub looks : IsRound any_heard now before after last

-- what a loop by a clock leaves of it
pub record LoopLeaves (called : ℕ → List Listening → List Listening → Type 0) (shows : ℕ → Bool) (start : ℕ) (cap : Option ℕ) (set : Setting) (before after : Looping) (how : Loop) : Type 0 where
  pub same : IsStill before.held after.held
  pub ended : after.ended ≡ ends how
  pub loops : LoopBy shows start cap set before.held after.held how
  pub steps : IsLoop called shows start cap before after how

-- by whose code it went on
pub looped_here : (m : Mode) (s : Script) (hall : Hall) (l after : StageLooper) (o : ClockOwner) → o ≡ owner_of m s hall l
    → HasLooped o.mode o.owner.script o.owner.hall o.owner.began after → HasLooped m s hall l after
looped_here m s hall l after o own h = subst (λ (x : ClockOwner). HasLooped x.mode x.owner.script x.owner.hall x.owner.began after) own h

-- with other parts, which are the same unless memory ran out
pub looped_with : (m : Mode) (s : Script) (hall : Hall) (began l : StageLooper) (last : Round) (p q : Parts) → AreSameParts p q → (is_given_up last ≡ false → q ≡ p)
    → HasLooped m s hall began (looper_with_parts l last p) → HasLooped m s hall began (looper_with_parts l last q)
looped_with m s hall began l last p q alike same h = record {
  looper = looper_with s hall (looper_with_parts l last p) q (are_parts_then s hall l.number p q alike h.looper.parts) h.looper;
  number = h.number;
  plays = λ on. subst (λ (z : Parts). HasPlayedBy s began (looper_with_parts l last z)) (sym (same on)) h.plays on;
  clocked = λ on. subst (λ (z : Parts). StaysByClock m began (looper_with_parts l last z)) (sym (same on)) h.clocked on;
  grew = h.grew;
}

module _ (shows : ℕ → Bool) (start : ℕ) (s : Script) (hall : Hall) (l : StageLooper) (is_hall : IsHall s hall) (is : IsLooper s hall l) (mode : hall.lockstep ≡ false) where
  module _ (going : (is_ended l.last ≡ false) × (is_given_up l.last ≡ false)) (q : Shared TableId) (at : slice_get hall.queues.items l.number ≡ Some q) (parts : Parts) (after : Looping) (last : Round) where
    -- it has gone on so far as it played, looked and told
    looped : IsLooper s hall (looper_with_parts (record l { looper = after }) last parts) → after.held.poster.sender ≡ l.looper.held.poster.sender
        → (is_given_up last ≡ false → IsPlayingAt (in_free_mode shows start) s l.number l after.held.poster.sender after.held.poster.view.seen after.held.journal.acts parts)
        → (is_given_up last ≡ false → (more : List Entry) × (after.held.poster.view.seen ≡ l.looper.held.poster.view.seen ++ more)
        × AreLooksBy shows start q.constants.setting l.looper.held.poster.sender l.looper.held.poster.view.seen more)
        → (is_given_up last ≡ false → GoesOnFrom l.looper after)
        → HasLooped (in_free_mode shows start) s hall l (looper_with_parts (record l { looper = after }) last parts)
    looped left same plays looks grew =
        let set = q.constants.setting in
        let free = setting_free s hall l.number q mode (looper_of s hall l is_hall is) at in
        record {
          looper = left;
          number = refl;
          plays = played_by s l parts after last (same ∙ is.own) (λ on. (plays on).plays);
          clocked = stays_by_clock (in_free_mode shows start) l after parts last (looper_within s hall l is_hall is) (λ on. (plays on).others)
              (λ on. (let w = looks on in own_by_clock shows start set free l.looper.held.poster after.held.poster w.0 same w.1 (plays on).calls w.2));
          grew = grew;
        }

    module _ (n : StageLooper) (o : ClockOwner) (w : Workplace) (taken : n ≡ record l { parts = None }) (own : o ≡ owner_of (in_free_mode shows start) s hall l)
        (serves : ServesFree o.owner.script o.owner.hall o.owner.number parts w) where
      are : ArePartsOf s hall l.number parts
      are = subst (λ (x : ClockOwner). ArePartsOf x.owner.script x.owner.hall x.owner.number parts) own serves.serves.are_parts

      plays_here : IsPlayingAt o.mode o.owner.script o.owner.number o.owner.began after.held.poster.sender after.held.poster.view.seen after.held.journal.acts parts
          → IsPlayingAt (in_free_mode shows start) s l.number l after.held.poster.sender after.held.poster.view.seen after.held.journal.acts parts
      plays_here h =
          subst (λ (x : ClockOwner). IsPlayingAt x.mode x.owner.script x.owner.number x.owner.began after.held.poster.sender after.held.poster.view.seen after.held.journal.acts parts) own h

      looped_there : HasLooped (in_free_mode shows start) s hall l (looper_with_parts (record l { looper = after }) last parts)
          → HasLooped o.mode o.owner.script o.owner.hall o.owner.began (looper_with_parts (record n { looper = after }) last parts)
      looped_there h =
          subst (λ (x : ClockOwner). HasLooped x.mode x.owner.script x.owner.hall x.owner.began (looper_with_parts (record n { looper = after }) last parts)) (sym own)
          (subst (λ (z : StageLooper). HasLooped (in_free_mode shows start) s hall l (looper_with_parts (record z { looper = after }) last parts)) (sym taken) h)

      pub looped_by_round : (now : ℕ) → IsShown shows start now → RoundLeaves q.constants.setting now n.looper after last
          → (is_given_up last ≡ false → IsPlayingAt o.mode o.owner.script o.owner.number o.owner.began after.held.poster.sender after.held.poster.view.seen after.held.journal.acts parts)
          → HasLooped o.mode o.owner.script o.owner.hall o.owner.began (looper_with_parts (record n { looper = after }) last parts)
      looped_by_round now shown leaves meets =
          let set = q.constants.setting in
          let left : RoundLeaves set now l.looper after last = subst (λ (z : StageLooper). RoundLeaves set now z.looper after last) taken leaves in
          looped_there (looped (looper_then s hall now l l.dispatched q parts after last is_hall is at are left.same left.ended left.round left.looks going.0 going.1) left.same.sender
          (λ on. plays_here (meets on))
          (λ on. (let w = round_worked set now l.looper.held after.held last on left.round in (w.more, w.seen, looks_by shows start set l.looper.held.poster.sender now shown l.looper.held.poster.view.seen w.more w.looks)))
          (λ on. (let w = round_worked set now l.looper.held after.held last on left.round in record { seen = (w.more, sym w.seen); acts = (w.did, sym w.acts) })))

      pub looped_by_loop : (called : ℕ → List Listening → List Listening → Type 0) (cap : Option ℕ) (how : Loop) → last ≡ round_of how → LoopLeaves called shows start cap q.constants.setting n.looper after how
          → (is_given_up (round_of how) ≡ false → IsPlayingAt o.mode o.owner.script o.owner.number o.owner.began after.held.poster.sender after.held.poster.view.seen after.held.journal.acts parts)
          → HasLooped o.mode o.owner.script o.owner.hall o.owner.began (looper_with_parts (record n { looper = after }) last parts)
      looped_by_loop called cap how is_last leaves meets =
          let set = q.constants.setting in
          let left : LoopLeaves called shows start cap set l.looper after how = subst (λ (z : StageLooper). LoopLeaves called shows start cap set z.looper after how) taken leaves in
          let lost : is_given_up last ≡ false → is_given_up (round_of how) ≡ false = λ on. ap is_given_up (sym is_last) ∙ on in
          looped_there (looped (subst (λ (r : Round). IsLooper s hall (looper_with_parts (record l { looper = after }) r parts)) (sym is_last)
          (looper_by_loop shows start cap called s hall l q parts after how is_hall is at are left.same left.ended left.loops left.steps going.0 going.1)) left.same.sender
          (λ on. plays_here (meets (lost on)))
          (λ on. (let w = worked shows start cap set l.looper.held after.held how (lost on) left.loops in (w.more, w.seen, w.looks)))
          (λ on. (let w = worked shows start cap set l.looper.held after.held how (lost on) left.loops in record { seen = (w.more, sym w.seen); acts = (w.did, sym w.acts) })))
