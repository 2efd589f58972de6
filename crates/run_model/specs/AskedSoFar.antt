-- What was asked so far: of a choreographer by whom, when, and in turn; and the tokens that a queue answered.
use Rattle.std.specs.Prelude.{◌≡◌, ℕ, ◌≤◌, nat_lt, List, [], ◌∷◌, map, if◌then◌else◌}
use Rattle.std.specs.List.{AllByRecursion, filter_map, flat_map}
use Rattle.loop_model.specs.declared.entry.Entry.{Entry}
use Rattle.frame_phases.specs.declared.entry.FrameEntry.{FrameEntry}
use Rattle.frame_phases.specs.Parting.{dealt_to}
use Rattle.dash_script.specs.declared.script.Block.{Block}
use Rattle.run_model.specs.FrameRecords.{line_asks, FrameAsk, asks_in, TimedAsk, lines_ask_then, asked_in_rounds}
use Rattle.run_model.specs.Planned.{token_in, lines_of, TimedCommand}

-- the first of these asks is made no earlier than this time, and none before the one that it stands behind
abbrev pub Rise : ℕ → List TimedAsk → Type 0
Rise last [] = Unit {0}
Rise last (x ∷ xs) = (last ≤ x.when) × Rise x.when xs

-- the second of each pair: an entry without the number of its sender
abbrev pub second : List (ℕ × FrameEntry) → List FrameEntry
second made = map (λ (d : ℕ × FrameEntry). d.1) made

-- and asks without those of theirs
abbrev pub timed_of : List (ℕ × TimedAsk) → List TimedAsk
timed_of dealt = map (λ (d : ℕ × TimedAsk). d.1) dealt

-- asks without their times
abbrev pub asks_of : List TimedAsk → List FrameAsk
asks_of xs = map (λ (x : TimedAsk). x.ask) xs

-- these entries, each beside the number of its sender, were asked for up to this time, in turn, and by each sender so
pub record HaveAsked (last : ℕ) (made : List (ℕ × FrameEntry)) (by : ℕ → List TimedAsk) : Type 0 where
  pub dealt : List (ℕ × TimedAsk)
  pub asks_are : asks_of (timed_of dealt) ≡ asks_in (second made)
  pub parts : (k : ℕ) → dealt_to k dealt ≡ by k
  pub rise : Rise 0 (timed_of dealt)
  pub by_then : AllByRecursion (λ (x : TimedAsk). x.when ≤ last) (timed_of dealt)

-- what each sender has asked for: the threads, of which there are so many, by their lines of these blocks, and the others as these entries tell, in rounds
abbrev pub asked_so_far : ℕ → ℕ → List Block → List (ℕ × FrameEntry) → ℕ → List TimedAsk
asked_so_far threads q past made k = if nat_lt k threads then lines_ask_then q (lines_of k past) else asked_in_rounds (asks_in (dealt_to k made))

-- what lines ask of it, in order
abbrev pub lines_ask : ℕ → List TimedCommand → List FrameAsk
lines_ask looper ls = filter_map (line_asks looper) ls

-- the tokens that these entries were answered
abbrev pub tokens_in : List Entry → List ℕ
tokens_in es = flat_map (λ e. token_in e.reply) es
