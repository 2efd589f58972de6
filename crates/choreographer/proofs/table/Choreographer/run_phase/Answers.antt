use Rattle.std.proofs.Common.{rules, refl, sym, ◌∙◌, subst, inl, inr}
use Rattle.frame_phases.specs.declared.entry.Took.TheVariants as took
use Rattle.choreographer.specs.Client.{with_runs}
use Rattle.choreographer.specs.Done.{runs}
use mathlib.Core.List.{IsPrefix}
use Rattle.std.proofs.lemmas.Result.{on_err_weaker}
use Rattle.choreographer.proofs.Phases.{on_ok}
use Rattle.choreographer.proofs.Recorded.{take_adds, take_hands}
use Rattle.choreographer.proofs.table.Choreographer.run_phase.Goals as goal

pub run_batch-requires : goal.run_batch-requires
run_batch-requires g c =
    let read = c.take_phase.ensures.reads in record {
      may = record {
        serves = search rules;
        meets = g.met.L.FrameClient.stays c.args.client.now c.args.host.now read.0 c.take_phase.new.host read.1 c.requires.may.meets;
        ready = search rules;
      };
    }

pub returns-in-Batch-clause-ran : goal.returns-in-Batch-clause-ran
returns-in-Batch-clause-ran g c =
    let t = c.in-Batch.ensures.turn in
    on_ok c.run_batch.result _ _ c.run_batch.ensures.ran (λ told. (
      t.0,
      told ∙ (λ i. with_runs (g.L.FrameClient.ran c.args.client.now) (runs (sym t.1 i) ((c.as_slice.ensures ∙ sym t.2) i))),
      t.3,
    ))

pub returns-in-Batch-clause-part : goal.returns-in-Batch-clause-part
returns-in-Batch-clause-part g c =
    let t = c.in-Batch.ensures.turn in
    on_err_weaker c.run_batch.result (λ part. inr (
      t.0,
      part.0,
      t.3.0,
      t.3.2,
      part.1,
      subst (IsPrefix part.0) (λ i. runs (sym t.1 i) ((c.as_slice.ensures ∙ sym t.2) i)) part.2,
    )) c.run_batch.ensures.part

pub returns-in-NoMemory-clause-part : goal.returns-in-NoMemory-clause-part
returns-in-NoMemory-clause-part g c =
    let t = c.in-NoMemory.ensures.turn in
    inl (t.0, t.1, t.2, refl)

pub returns-in-Batch-clause-turns : goal.returns-in-Batch-clause-turns
returns-in-Batch-clause-turns g c =
    let t = c.in-Batch.ensures.turn in
    record {
      same = search rules;
      adds = take_adds c.args.pass.now c.take_phase.new.pass c.args.phase t.0.now (took.Batch t.0.time t.0.callbacks) t.3.2;
      sends = λ none.
          let empty = take_hands c.args.pass.now c.take_phase.new.pass c.args.phase t.0.now t.0.time t.0.callbacks t.3.2 none in
          c.run_batch.ensures.sends (c.as_slice.ensures ∙ (sym t.2 ∙ empty)) ∙ c.take_phase.ensures.sends;
    }
