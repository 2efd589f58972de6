use Rattle.std.proofs.Common.{◌≡◌, List, ◌++◌, ap, ◌∙◌, subst}
use Rattle.frame_phases.specs.declared.entry.FrameEntry.{FrameEntry}
use Rattle.choreographer.specs.Ends.{IsWhole}
use Rattle.choreographer.proofs.table.Choreographer.into_kept.Goals as goal

-- nothing was handed out
all_kept : (c : goal.After-into_record) → c.close.result.frames.entries ≡ c.into_record.result.entries
all_kept c = c.into_record.ensures.entries ∙ ap (λ (l : List FrameEntry). l ++ c.into_record.result.entries) (c.close.ensures.constants.3 c.requires.whole)

pub returns-clause-constants : goal.returns-clause-constants
returns-clause-constants c =
    let left = c.close.ensures.constants in
    let r = c.into_record.ensures.constants in (r.0 ∙ left.0, r.1 ∙ left.1, r.2 ∙ left.2)

pub returns-clause-whole : goal.returns-clause-whole
returns-clause-whole c =
    let left = c.close.ensures in
    subst (IsWhole c.args.self c.args.passes.items) (all_kept c) record {
      lawful_all = rw (← left.constants.1, ← left.constants.2) c.into_record.ensures.lawful;
      begins = left.begins;
      last = left.last;
      stamps = rw (← left.constants.1) left.stamps;
      theirs = left.theirs;
      heard = left.heard;
    }
