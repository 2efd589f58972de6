use Rattle.std.proofs.Common.{◌≡◌, List, refl, sym, subst, arith}
use Rattle.std.specs.Prelude.{Option, Some, None, IsSome, IsSomeAnd}
use Rattle.std.proofs.lemmas.List.{with_items_is}
use Rattle.dash_threads.specs.declared.thread.PostingThread.{PostingThread}
use Rattle.dash_hall.specs.Hearing.{AtEach, ArePassesReady}
use Rattle.dash_threads.specs.Threads.{HearsPass}
use Rattle.dash_loopers.specs.declared.looper.StageLooper.{StageLooper}
use Rattle.dash_loopers.specs.Loopers.{IsLooper}
use Rattle.dash_stage.specs.Sharing.{OfPasses}
use Rattle.dash_stage.proofs.Controller.Controlling.{turns_on, in_choreographers, in_passes, own_pass, pass_count}
use Rattle.dash_stage.proofs.Sharing.{passes_ready, looper_pass, shares_frames}
use Rattle.dash_stage.proofs.stage.Stage.share_frames_of.Goals as goal

pub index-requires : goal.index-requires
index-requires c = in_choreographers (turns_on c.requires.stage.hall c.requires.stage.controller c.requires.place)

pub index_mut-requires-2 : goal.index_mut-requires-2
index_mut-requires-2 c = in_passes (turns_on c.requires.stage.hall c.requires.stage.controller c.requires.place)

some_so : {T : Type 0} (P : T → Type 0) (o : Option T) → IsSomeAnd o P → IsSome o
some_so P None h = absurd h
some_so P (Some x) h = refl

pub share_passes-requires : goal.share_passes-requires
share_passes-requires c =
    let s = c.args.script.now in
    let st = c.args.self.now in
    let is = c.requires.stage in
    let place = c.args.place in
    let near = c.requires.place in
    let l = c.index_mut.result.now in
    let count = is.loopers.0 in
    let one = subst (λ (z : StageLooper). IsLooper s st.hall z × (z.number ≡ place)) (sym c.index_mut.ensures.value) (is.loopers.1 place l (omega (arith, near, count))) in
    record {
      threads = subst (OfPasses (ArePassesReady place c.index.result.now)) (sym c.as_mut_slice.ensures.value) (passes_ready s st is place near c.index.result.now c.index.ensures);
      parts = some_so _ l.parts one.0.parts;
      looper = looper_pass s st is place near c.index.result.now c.index.ensures l one.0 one.1;
      pass = own_pass (turns_on is.hall is.controller near) c.index_mut-2.ensures.value c.index.ensures;
    }

pub returns : goal.returns
returns c =
    let s = c.args.script.now in
    let st = c.args.self.now in
    let is = c.requires.stage in
    let whole = c.share_passes.new.pass.view.heard in
    let threads = subst (λ (xs : List PostingThread). AtEach (HearsPass c.args.place whole) xs c.share_passes.new.threads) c.as_mut_slice.ensures.value c.share_passes.ensures.threads in
    let many = threads.long in
    let loopers = is.loopers.0 in
    let frames = pass_count (turns_on c.requires.stage.hall c.requires.stage.controller c.requires.place) in
    let near = c.requires.place in
    record {
      shares = shares_frames c.args.place st _ whole refl
          (subst (λ (ys : List PostingThread). AtEach (HearsPass c.args.place whole) st.threads.items ys) (sym (with_items_is st.threads c.share_passes.new.threads (omega (arith, many, st.threads.ok.0)))) threads)
          c.index_mut.result.now c.share_passes.new.looper (omega (arith, near, loopers)) c.index_mut.ensures.value refl c.share_passes.ensures.looper
          c.index_mut-2.result.now c.share_passes.new.pass (omega (arith, near, frames)) c.index_mut-2.ensures.value refl
          c.share_passes.ensures.pass (c.share_passes.ensures.who, refl) refl refl refl refl refl refl;
    }
