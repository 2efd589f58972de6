-- A script brought up to edition 2, whose frames have insets animation as phase 2.
use Rattle.std.specs.Prelude.{ℕ, ◌==◌, map, if◌then◌else◌}
use Rattle.dash_script.specs.declared.script.Command.{Command}
use Rattle.dash_script.specs.declared.script.Command.TheVariants.{Frame, Unframe}
use Rattle.dash_script.specs.declared.script.Line.{Line}
use Rattle.dash_script.specs.declared.script.Block.{Block}
use Rattle.dash_script.specs.declared.script.Script.{Script}

-- the number in edition 2 of a phase of edition 1: the traversal and the commit have one more
abbrev pub phase_up : ℕ → ℕ
phase_up phase = if phase == 2 then 3 else (if phase == 3 then 4 else phase)

-- a command of edition 1 in edition 2
abbrev pub command_up : Command → Command
command_up (Frame looper phase id delay) = Frame looper (phase_up phase) id delay
command_up (Unframe looper phase id) = Unframe looper (phase_up phase) id
command_up c = c

-- the lines of a block of edition 1 in edition 2
abbrev pub block_up : Block → Block
block_up b = record b { lines = map (λ (l : Line). record l { command = command_up l.command }) b.lines }

-- the script in edition 2; one that is of edition 2 stays as it is
abbrev pub up : Script → Script
up s = if s.edition == 2 then s else record s { edition = 2; blocks = map block_up s.blocks }
