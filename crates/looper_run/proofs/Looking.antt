-- Each look of a round as a part of it.
use Rattle.std.proofs.Common.{◌≡◌, ℕ, ◌<◌, ◌^◌, Bool, List, length, Option, refl, sym, ap, subst, inl, inr}
use Rattle.atomic_table.specs.Seated.{TableId}
use Rattle.loop_model.specs.declared.journal.Journal.{Journal}
use Rattle.loop_model.specs.declared.journal.Act.{Act}
use Rattle.message_slot.specs.Letter.{number_in}
use Rattle.message_pool.specs.Passes.{Node, Tally}
use Rattle.queue_state.specs.declared.answers.Nexted.TheVariants as nexted
use Rattle.shared_queue.specs.Known.{Shared, IsOf}
use Rattle.shared_queue.specs.Calls.{NextedBy}
use Rattle.looper_run.specs.Holding.{Sender, State, Holding, Looping}
use Rattle.looper_run.specs.Acts.{IsIdleAct, IsQuietAct, GrowsBy}
use Rattle.looper_run.specs.Tests.{Test, Passes, HasTakenMessage}
use Rattle.looper_run.specs.Told.{Dispatches}
use Rattle.looper_run.specs.Looks.{looked_by, HasDispatched, HasIdled, HasWaited, HasEnded}
use Rattle.looper_run.specs.Round.{Works}
use Rattle.looper_run.proofs.Quiet.{quiet_idle, grows_none}
use Rattle.looper_run.proofs.Taking.{taken_post}
use Rattle.looper_run.proofs.Steps.{KeepsOthers, KeepsQuiet, KeepsDisposal, works_quiet, works_end, works_dispatched, passes_quiet, passes_end, has_taken}

module _ (q : Shared TableId) (now : ℕ) (a b : Looping) (of : IsOf a.held.poster q) where
  pub works_dispatching : HasDispatched now a b → Works q.constants.setting now a.held b.held 1
  works_dispatching h =
      let look = h.look in
      works_dispatched a.held (looked_by a.held h.looked) look.0 look.1 look.2 (record { home = refl; looper = refl }) q.constants now h.number h.moment h.node b.held
      (look.2.own q.constants of.1).0 look.3.2 look.3.0 (ap (λ (s : State). s.entries) look.3.3) refl h.done

  pub works_idling : HasIdled now a b → Works q.constants.setting now a.held b.held 0
  works_idling h =
      let look = h.look in
      works_quiet a.held b.held look.0 look.1 look.2 (record { home = ap (λ (p : Tally). p.home) h.pass; looper = h.looper }) q.constants.setting now
      (ap (λ (s : State). s.entries) look.3.3) (quiet_idle a.held.journal.acts b.held.journal.acts h.ran)

  pub works_waiting : (until : Option ℕ) → HasWaited now a b until → Works q.constants.setting now a.held b.held 0
  works_waiting until h =
      let look = h.look in
      works_quiet a.held b.held look.0 look.1 look.2 (record { home = ap (λ (p : Tally). p.home) h.pass; looper = ap (λ (j : Journal). j.looper) h.journal }) q.constants.setting now
      (ap (λ (s : State). s.entries) look.3.3) (grows_none IsQuietAct a.held.journal.acts b.held.journal.acts (ap (λ (j : Journal). j.acts) h.journal))

  pub works_ending : HasEnded now a b → Works q.constants.setting now a.held b.held 0
  works_ending h = elim h.look [
    | inl end ↦
        (let look = end.1 in
        works_end a.held b.held look.0 look.1 look.2 (record { home = h.home; looper = ap (λ (j : Journal). j.looper) h.journal }) q.constants now
        (look.2.own q.constants of.1).0 (ap (λ (s : State). s.entries) look.3.2) (ap (λ (j : Journal). j.acts) h.journal))
    | inr over ↦
        (let look = over.0 in
        works_quiet a.held b.held look.0 look.1 look.2 (record { home = h.home; looper = ap (λ (j : Journal). j.looper) h.journal }) q.constants.setting now
        (ap (λ (s : State). s.entries) look.3.1) (grows_none IsQuietAct a.held.journal.acts b.held.journal.acts (ap (λ (j : Journal). j.acts) h.journal)))
  ]

-- what a look leaves of a test
module _ (M : Test) (others : KeepsOthers M) (now : ℕ) (a : Holding) (p : Sender) (idle : Bool) where
  pub passes_idle : KeepsQuiet M → (acts : List Act) → NextedBy a.poster p now idle nexted.Idle → GrowsBy IsIdleAct a.journal.acts acts → Passes M a → M p.sender p.view.seen acts
  passes_idle quiet acts look ran passes =
      passes_quiet a (record { poster = p; pass = a.pass; journal = record { looper = a.journal.looper; acts = acts } }) look.0 look.1 look.2 (record { home = refl; looper = refl }) M others quiet
      (ap (λ (s : State). s.entries) look.3.3) (quiet_idle a.journal.acts acts ran) passes

  pub passes_wait : KeepsQuiet M → (until : Option ℕ) → NextedBy a.poster p now idle (nexted.Wait until) → Passes M a → Passes M (looked_by a p)
  passes_wait quiet until look passes =
      passes_quiet a (looked_by a p) look.0 look.1 look.2 (record { home = refl; looper = refl }) M others quiet
      (ap (λ (s : State). s.entries) look.3.3) (grows_none IsQuietAct a.journal.acts a.journal.acts refl) passes

  pub passes_over : KeepsQuiet M → NextedBy a.poster p now idle nexted.Over → Passes M a → Passes M (looked_by a p)
  passes_over quiet look passes =
      passes_quiet a (looked_by a p) look.0 look.1 look.2 (record { home = refl; looper = refl }) M others quiet
      (ap (λ (s : State). s.entries) look.3.1) (grows_none IsQuietAct a.journal.acts a.journal.acts refl) passes

  pub passes_disposed : KeepsDisposal M → (left : List Node) → NextedBy a.poster p now idle (nexted.End left) → Passes M a → Passes M (looked_by a p)
  passes_disposed disposal left look passes =
      passes_end a (looked_by a p) look.0 look.1 look.2 (record { home = refl; looper = refl }) M now others disposal
      (ap (λ (s : State). s.entries) look.3.2) refl passes

  -- a message that was taken may be dispatched
  pub taken_by_look : (q : Shared TableId) → IsOf a.poster q → (number moment : ℕ) (node : Node) → NextedBy a.poster p now idle (nexted.Taken number moment node) → Passes M a → HasTakenMessage M (looked_by a p) node moment
  taken_by_look q of number moment node look passes =
      has_taken a (looked_by a p) look.0 look.1 look.2 (record { home = refl; looper = refl }) M q.constants number moment node others
      (look.2.own q.constants of.1).0 look.3.2 (ap (λ (s : State). s.entries) look.3.3) refl passes

-- the number that a look answers is the message's
pub number_by_look : (now : ℕ) (a p : Sender) (idle : Bool) (q : Shared TableId) → IsOf a q → (number moment : ℕ) (node : Node) → NextedBy a p now idle (nexted.Taken number moment node) → number ≡ number_in node.item
number_by_look now a p idle q of number moment node look =
    sym (taken_post q.constants look.0 number moment node (look.2.own q.constants of.1).0 look.2.sound.0 look.3.2).0

-- the journal of a message that was told still fits
pub fits_dispatches : (a b : Holding) (m : Node) (now : ℕ) → Dispatches a b m now → length b.journal.acts < 2 ^ 64
fits_dispatches a b m now d = subst (λ (j : Journal). length j.acts < 2 ^ 64) (sym d.2.journal) d.1.fits
