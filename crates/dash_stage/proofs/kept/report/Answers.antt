use Rattle.std.proofs.Common.{List, refl, sym, subst}
use Rattle.loop_model.specs.declared.journal.Journal.{Journal}
use Rattle.loop_model.specs.declared.record.QueueRecord.{QueueRecord}
use Rattle.frame_phases.specs.declared.entry.FrameRecord.{FrameRecord}
use Rattle.dash_stage.specs.Keeping.{AreKeptOf}
use Rattle.dash_stage.proofs.kept.report.Goals as goal

pub returns : goal.returns
returns c =
    let s = c.args.script in
    let st = c.args.stage in
    let qs = c.in_ok-queues.queues.items in
    let js = c.in_ok-queues.journals.items in
    let js' = c.from_vec-2.result in
    let fs' = c.from_vec-3.result in
    record {
      script = refl;
      start = refl;
      kept = subst (λ (l : List QueueRecord). AreKeptOf s st l js' fs') (sym c.from_vec.ensures)
          (subst (λ (l : List Journal). AreKeptOf s st qs l fs') (sym c.from_vec-2.ensures)
          (subst (λ (l : List FrameRecord). AreKeptOf s st qs js l) (sym c.from_vec-3.ensures) c.in_ok-queues.ensures));
    }
