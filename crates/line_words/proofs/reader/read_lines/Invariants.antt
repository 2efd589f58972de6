use Rattle.std.proofs.Common.{◌≡◌, ◌≤◌, ◌+◌, length}
use Rattle.line_words.specs.Words.{pieces}
use Rattle.line_words.specs.RefusedReading.{read_from, read_text}
use Rattle.line_words.proofs.reader.read_lines.Given as goal

abbrev pub invariant-lines : goal.invariant-lines
invariant-lines g l = record {
  sound : g.D.ByLines.IsSound l.draft;
  counted : l.line + length l.rest ≤ length l.bytes + 1;
  read : read_from g.D.ByLines.language l.line (g.D.ByLines.so_far l.draft) (pieces l.rest) ≡ read_text g.D.ByLines.language l.bytes;
}

abbrev pub decreases-lines : goal.decreases-lines
decreases-lines g l = length l.rest
