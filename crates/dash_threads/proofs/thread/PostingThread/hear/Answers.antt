use Rattle.std.proofs.Common.{◌∙◌, refl}
use Rattle.dash_hall.proofs.Hearing.{has_heard, heard_at, known_is, longer_whole}
use Rattle.dash_hall.proofs.PassesHearing.{passes_heard_self}
use Rattle.dash_threads.proofs.thread.PostingThread.hear.Goals as goal

pub returns-clause-kept : goal.returns-clause-kept
returns-clause-kept c =
    let ps = c.args.self.now.kit.posters.items in
    let p = c.index_mut.result.now in
    let whole = c.args.other.now.view.seen in
    record {
      number = refl;
      posters = heard_at ps c.args.place p c.hear.new.self whole c.requires.ready.0 c.index_mut.ensures.value (has_heard p c.hear.new.self c.hear.ensures.same c.hear.ensures.begins.0)
          (c.hear.ensures.seen ∙ longer_whole p.view.seen whole (known_is ps c.args.place p whole c.requires.known c.index_mut.ensures.value));
      pass = refl;
      frames = passes_heard_self c.args.self.now.kit.frames.items;
      barriers = refl;
      passed = refl;
      gave_up = refl;
    }
