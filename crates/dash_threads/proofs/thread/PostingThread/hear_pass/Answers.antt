use Rattle.std.proofs.Common.{◌∙◌, refl}
use Rattle.dash_hall.proofs.Hearing.{longer_whole}
use Rattle.dash_hall.proofs.PassesHearing.{pass_heard, passes_heard_at, pass_known_is, pass_ready_is}
use Rattle.dash_threads.proofs.thread.PostingThread.hear_pass.Goals as goal

pub hear-requires : goal.hear-requires
hear-requires c = (pass_ready_is c.args.self.now.kit.frames.items c.args.place c.index_mut.result.now c.args.choreographer.now c.requires.ready c.index_mut.ensures.value, c.requires.other)

pub returns-clause-kept : goal.returns-clause-kept
returns-clause-kept c =
    let fs = c.args.self.now.kit.frames.items in
    let p = c.index_mut.result.now in
    let whole = c.args.other.now.view.heard in
    let one = passes_heard_at fs c.args.place p c.hear.new.self whole c.requires.ready.0 c.index_mut.ensures.value
    (pass_heard p c.hear.new.self c.hear.ensures.same c.hear.ensures.grows.0 c.hear.ensures.begins.0)
    (c.hear.ensures.knows.2, c.hear.ensures.heard ∙ longer_whole p.view.heard whole (pass_known_is fs c.args.place p whole c.requires.known c.index_mut.ensures.value)) in (
      record {
        number = refl;
        posters = refl;
        pass = refl;
        frames = one.heard;
        barriers = refl;
        passed = refl;
        gave_up = refl;
      },
      one,
    )
