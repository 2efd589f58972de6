use Rattle.std.proofs.Common.{refl, sym, subst}
use Rattle.dash_hall.specs.Hearing.{PassesHaveHeard}
use Rattle.dash_hall.proofs.PassesHearing.{passes_heard_self, pass_heard, pass_kept_at, pass_known_at, pass_ready_is}
use Rattle.dash_threads.proofs.thread.PostingThread.tell_pass.Goals as goal

pub hear-requires : goal.hear-requires
hear-requires c = (c.requires.other, pass_ready_is c.args.self.now.kit.frames.items c.args.place c.index_mut.result.now c.args.choreographer.now c.requires.ready c.index_mut.ensures.value)

pub returns-clause-kept : goal.returns-clause-kept
returns-clause-kept c =
    let fs = c.args.self.now.kit.frames.items in
    let same = pass_kept_at fs c.args.place c.index_mut.result.now c.hear.new.other c.index_mut.ensures.value c.hear.ensures.other in (
      record {
        number = refl;
        posters = refl;
        pass = refl;
        frames = subst (PassesHaveHeard fs) (sym same) (passes_heard_self fs);
        barriers = refl;
        passed = refl;
        gave_up = refl;
      },
      same,
    )

pub returns-clause-heard : goal.returns-clause-heard
returns-clause-heard c = pass_heard c.args.other.now c.hear.new.self c.hear.ensures.same c.hear.ensures.grows.0 c.hear.ensures.begins.0

pub returns-clause-told : goal.returns-clause-told
returns-clause-told c =
    pass_known_at c.args.self.now.kit.frames.items c.args.place c.index_mut.result.now c.hear.new.self.view.heard c.requires.ready.0 c.index_mut.ensures.value c.hear.ensures.begins.1
