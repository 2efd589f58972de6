use Rattle.trace_check.proofs.Labelled.{removal_ends, unbarrier_ends}
use Rattle.trace_check.proofs.label.label_ended.Goals as goal

pub returns-in-Remove : goal.returns-in-Remove
returns-in-Remove c = removal_ends c.args.entry.now c.in-Remove.filter c.filter_shape.result c.filter_label.result c.in-Remove.is c.filter_shape.ensures c.filter_label.ensures

pub returns-in-Unbarriered : goal.returns-in-Unbarriered
returns-in-Unbarriered c = unbarrier_ends c.args.entry.now c.in-Unbarrier.token c.in-Unbarrier.is c.in-Unbarriered.is
