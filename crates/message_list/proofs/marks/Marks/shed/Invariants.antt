use denote.RawPtr.{Ptr}
use Rattle.std.proofs.Common.{List}
use Rattle.message_list.specs.Marks.{AreMarksSound, Lead}
use Rattle.message_list.proofs.marks.Marks.shed.Given as goal

abbrev pub invariant-loop : goal.invariant-loop
invariant-loop l = AreMarksSound l.self × ((places : List Ptr) → Lead l.initial.self places → Lead l.self places)
