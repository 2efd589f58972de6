-- What holds of a queue's history at the start of a block.
use Rattle.std.specs.Prelude.{◌≡◌, ◌⊎◌, ℕ, true, List}
use Rattle.loop_model.specs.declared.entry.Entry.{Entry}
use Rattle.loop_model.specs.Base.{empty_base}
use Rattle.loop_model.specs.Answers.{has_disposed}
use Rattle.run_model.specs.Control.{before, InBlock, is_on_time, is_fresh}
use Rattle.run_model.specs.Parts.{is_threads}

-- the queue was disposed of, or since its time was last moved only threads have called
abbrev pub IsFresh : ℕ → List Entry → Type 0
IsFresh threads es = (has_disposed (empty_base 0) es ≡ true) ⊎ (is_fresh (is_threads threads) es ≡ true)

-- as at the start of a block at this time: a thread's call is on time, and comes first
pub record IsAtBlock (threads time : ℕ) (es : List Entry) : Type 0 where
  pub on_time : is_on_time (InBlock time) (before es) ≡ true
  pub fresh : IsFresh threads es
