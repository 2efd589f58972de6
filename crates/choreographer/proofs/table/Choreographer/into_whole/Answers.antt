use Rattle.std.proofs.Common.{sym, ◌∙◌, subst}
use Rattle.choreographer.specs.Ends.{IsWhole}
use Rattle.choreographer.proofs.Closing.{whole_of}
use Rattle.choreographer.proofs.table.Choreographer.into_whole.Goals as goal

pub returns-clause-constants : goal.returns-clause-constants
returns-clause-constants c =
    let left = c.close-kept.ensures.constants in
    let r = c.into_record-looper.ensures.constants in (r.0 ∙ left.0, r.1 ∙ left.1, r.2 ∙ left.2)

pub returns-clause-whole : goal.returns-clause-whole
returns-clause-whole c =
    subst (IsWhole c.args.self c.args.passes.items) (sym c.in_ok-entries.ensures)
    (whole_of c.args.self c.args.passes.items c.close-kept.result _ _ c.close-kept.ensures c.into_record-looper.ensures.entries c.into_record-looper.ensures.lawful c.requires.parts)
