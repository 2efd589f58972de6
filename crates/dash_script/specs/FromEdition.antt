-- What is brought up to edition 2, by the edition that it is of.
use Rattle.std.specs.Prelude.{ℕ, ◌==◌, map, if◌then◌else◌}
use Rattle.dash_script.specs.declared.script.Command.{Command}
use Rattle.dash_script.specs.declared.script.Line.{Line}
use Rattle.dash_script.specs.declared.script.Block.{Block}
use Rattle.dash_script.specs.Editions.{command_up}

-- a command of this edition in edition 2
abbrev pub command_from : ℕ → Command → Command
command_from edition c = if edition == 2 then c else command_up c

-- a line of this edition in edition 2
abbrev pub line_from : ℕ → Line → Line
line_from edition l = record l { command = command_from edition l.command }

-- a block of this edition in edition 2
abbrev pub block_from : ℕ → Block → Block
block_from edition b = record b { lines = map (line_from edition) b.lines }
