-- What a look was answered, and what a looper may do with it.
use Rattle.std.proofs.Common.{◌≡◌, ℕ, List, Option, Some, slice_get, subst}
use Rattle.atomic_table.specs.Seated.{TableId}
use Rattle.message_slot.specs.Letter.{number_in}
use Rattle.message_pool.specs.Passes.{Node, Claimed}
use Rattle.loop_model.specs.declared.journal.Act.{Act}
use Rattle.queue_state.specs.declared.answers.Nexted.{Nexted}
use Rattle.queue_state.specs.declared.answers.Nexted.TheVariants as nexted
use Rattle.shared_queue.specs.Calls.{NextedBy}
use Rattle.shared_queue.proofs.TurnCalls.{look_claims}
use Rattle.looper_run.specs.Holding.{Looping}
use Rattle.looper_run.specs.Acts.{IsIdleAct, GrowsBy}
use Rattle.looper_run.specs.Tests.{Test, Passes, HasTakenMessage}
use Rattle.looper_run.specs.Looks.{looked_by, HasAnswer}
use Rattle.looper_run.proofs.Steps.{KeepsOthers, KeepsQuiet, KeepsDisposal}
use Rattle.looper_run.proofs.Looking.{passes_idle, passes_wait, passes_over, passes_disposed, taken_by_look, number_by_look}

module _ (M : Test) (l : Looping) (answer : Nexted Claimed TableId) (h : HasAnswer M l answer) where
  look_is : (r : Nexted Claimed TableId) → answer ≡ r → NextedBy h.poster l.held.poster h.now l.idle_owed r
  look_is r is = subst (λ (x : Nexted Claimed TableId). NextedBy h.poster l.held.poster h.now l.idle_owed x) is h.look

  pub answer_taken : (number moment : ℕ) (node : Node) → KeepsOthers M → answer ≡ nexted.Taken number moment node → HasTakenMessage M l.held node moment
  answer_taken number moment node others is =
      taken_by_look M others h.now (looked_by l.held h.poster) l.held.poster l.idle_owed h.queue h.of number moment node (look_is (nexted.Taken number moment node) is) h.passes

  pub answer_number : (number moment : ℕ) (node : Node) → answer ≡ nexted.Taken number moment node → number ≡ number_in node.item
  answer_number number moment node is = number_by_look h.now h.poster l.held.poster l.idle_owed h.queue h.of number moment node (look_is (nexted.Taken number moment node) is)

  -- the looper's poster saw the message's claim accepted with this number
  pub answer_claim : (number moment : ℕ) (node : Node) → answer ≡ nexted.Taken number moment node → slice_get l.held.poster.view.claims number ≡ Some node.claim
  answer_claim number moment node is = look_claims h.poster l.held.poster h.now l.idle_owed (nexted.Taken number moment node) (look_is (nexted.Taken number moment node) is)

  pub answer_idle : KeepsOthers M → KeepsQuiet M → (acts : List Act) → answer ≡ nexted.Idle → GrowsBy IsIdleAct l.held.journal.acts acts → M l.held.poster.sender l.held.poster.view.seen acts
  answer_idle others quiet acts is ran = passes_idle M others h.now (looked_by l.held h.poster) l.held.poster l.idle_owed quiet acts (look_is nexted.Idle is) ran h.passes

  pub answer_wait : KeepsOthers M → KeepsQuiet M → (until : Option ℕ) → answer ≡ nexted.Wait until → Passes M l.held
  answer_wait others quiet until is = passes_wait M others h.now (looked_by l.held h.poster) l.held.poster l.idle_owed quiet until (look_is (nexted.Wait until) is) h.passes

  pub answer_over : KeepsOthers M → KeepsQuiet M → answer ≡ nexted.Over → Passes M l.held
  answer_over others quiet is = passes_over M others h.now (looked_by l.held h.poster) l.held.poster l.idle_owed quiet (look_is nexted.Over is) h.passes

  pub answer_end : KeepsOthers M → KeepsDisposal M → (left : List Node) → answer ≡ nexted.End left → Passes M l.held
  answer_end others disposal left is = passes_disposed M others h.now (looked_by l.held h.poster) l.held.poster l.idle_owed disposal left (look_is (nexted.End left) is) h.passes
