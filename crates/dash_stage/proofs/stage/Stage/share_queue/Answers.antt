use Rattle.std.proofs.Common.{List, refl, sym, subst, arith}
use Rattle.std.proofs.lemmas.List.{with_items_is}
use Rattle.dash_threads.specs.declared.thread.PostingThread.{PostingThread}
use Rattle.dash_loopers.specs.declared.looper.StageLooper.{StageLooper}
use Rattle.dash_hall.specs.Hearing.{HaveHeardAt, AtEach, AreReady}
use Rattle.dash_stage.specs.Sharing.{AreWithin, OfThreads, OfLoopers}
use Rattle.dash_threads.specs.Threads.{ThreadKeeps}
use Rattle.dash_loopers.specs.Loopers.{LooperKeeps}
use Rattle.dash_hall.proofs.PassesHearing.{passes_heard_self}
use Rattle.dash_stage.proofs.Controller.Controlling.{turns_on, in_queues, in_posters}
use Rattle.dash_hall.proofs.Hearing.{ready_is, heard_at}
use Rattle.dash_stage.proofs.Sharing.{threads_ready, loopers_ready, controller_ready, are_within}
use Rattle.dash_stage.proofs.stage.Stage.share_queue.Goals as goal

pub index-requires : goal.index-requires
index-requires c = in_queues (turns_on c.requires.stage.hall c.requires.stage.controller c.requires.place)

pub index_mut-requires : goal.index_mut-requires
index_mut-requires c = in_posters (turns_on c.requires.stage.hall c.requires.stage.controller c.requires.place)

pub share_by-requires : goal.share_by-requires
share_by-requires c =
    let s = c.args.script.now in
    let st = c.args.self.now in
    let is = c.requires.stage in
    let place = c.args.place in
    let near = c.requires.place in
    let q = c.index.result.now in
    let loopers = sym c.as_mut_slice-2.ensures.value in
    record {
      threads = subst (OfThreads (AreReady place q)) (sym c.as_mut_slice.ensures.value) (threads_ready s st is place near q c.index.ensures);
      loopers = subst (OfLoopers (AreReady place q)) loopers (loopers_ready s st is place near q c.index.ensures);
      within = subst AreWithin loopers (are_within s st is);
      poster = ready_is st.controller.kit.posters.items place c.index_mut.result.now q (controller_ready s st is place near q c.index.ensures) c.index_mut.ensures.value;
    }

pub returns : goal.returns
returns c =
    let st = c.args.self.now in
    let whole = c.share_by.new.poster.view.seen in
    let near = (controller_ready c.args.script.now st c.requires.stage c.args.place c.requires.place c.index.result.now c.index.ensures).0 in
    let threads = subst (λ (xs : List PostingThread). AtEach (ThreadKeeps (HaveHeardAt c.args.place whole)) xs c.share_by.new.threads) c.as_mut_slice.ensures.value c.share_by.ensures.threads in
    let loopers = subst (λ (xs : List StageLooper). AtEach (LooperKeeps (HaveHeardAt c.args.place whole)) xs c.share_by.new.loopers) c.as_mut_slice-2.ensures.value c.share_by.ensures.loopers in
    let many = threads.long in
    let many' = loopers.long in
    record {
      shares = (
        whole,
        record {
          hall = refl;
          threads = subst (λ (ys : List PostingThread). AtEach (ThreadKeeps (HaveHeardAt c.args.place whole)) st.threads.items ys)
              (sym (with_items_is st.threads c.share_by.new.threads (omega (arith, many, st.threads.ok.0)))) threads;
          loopers = subst (λ (ys : List StageLooper). AtEach (LooperKeeps (HaveHeardAt c.args.place whole)) st.loopers.items ys)
              (sym (with_items_is st.loopers c.share_by.new.loopers (omega (arith, many', st.loopers.ok.0)))) loopers;
          controller = record {
            posters = heard_at st.controller.kit.posters.items c.args.place c.index_mut.result.now c.share_by.new.poster whole near c.index_mut.ensures.value c.share_by.ensures.poster refl;
            pass = refl;
            frames = passes_heard_self st.controller.kit.frames.items;
            sealed = refl;
            sealed_frames = refl;
          };
          pass = refl;
          time = refl;
        },
      );
    }
