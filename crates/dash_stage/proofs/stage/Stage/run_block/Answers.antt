use Rattle.std.proofs.Common.{◌∙◌, List, refl, sym, subst, arith}
use Rattle.std.proofs.lemmas.List.{with_items_is}
use Rattle.dash_threads.specs.declared.thread.PostingThread.{PostingThread}
use Rattle.dash_stage.specs.Stages.{EachRunsBlock}
use Rattle.dash_stage.proofs.Moves.{still_self, still_shared, block_next}
use Rattle.dash_stage.proofs.stage.Stage.run_block.Goals as goal

pub returns : goal.returns
returns g c =
    let s = c.args.script.now in
    let b = c.args.block.now in
    let st = c.args.self.now in
    let is = c.requires.stage in
    let ran : List PostingThread = c.run_threads.new.threads in
    let many = c.run_threads.ensures.threads.0 ∙ sym is.threads.0 in
    let wrote = with_items_is st.threads ran (omega (arith, many, st.threads.ok.0)) in
    let on = subst (λ (l : List PostingThread). EachRunsBlock s b l ran) c.as_mut_slice.ensures.value c.in_ok-run_threads.ensures.run in
    let shared = c.share.ensures.shared in
    record {
      still = still_shared s st _ c.share.new.self shared (still_self s st is).none refl;
      next = block_next s is.text st c.share.new.self ran _ b is wrote many on shared;
    }
