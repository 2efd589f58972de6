use Rattle.std.proofs.Common.{◌∙◌, subst}
use Rattle.choreographer.specs.Ends.{IsWhole}
use Rattle.choreographer.proofs.table.Choreographer.into_rest.Goals as goal

pub returns-clause-constants : goal.returns-clause-constants
returns-clause-constants c =
    let left = c.close-left.ensures.constants in
    let r = c.into_record.ensures.constants in (r.0 ∙ left.0, r.1 ∙ left.1, r.2 ∙ left.2)

pub returns-clause-rest : goal.returns-clause-rest
returns-clause-rest c =
    let x = c.close-left.result in
    let left = c.close-left.ensures in (
      x.frames.sealed,
      left.handed,
      subst (IsWhole c.args.self c.args.passes.items) c.into_record.ensures.entries record {
        lawful_all = rw (← left.constants.1, ← left.constants.2) c.into_record.ensures.lawful;
        begins = left.begins;
        last = left.last;
        stamps = rw (← left.constants.1) left.stamps;
        theirs = left.theirs;
        heard = left.heard;
      },
    )
