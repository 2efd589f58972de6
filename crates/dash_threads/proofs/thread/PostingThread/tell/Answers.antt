use Rattle.std.proofs.Common.{refl}
use Rattle.dash_hall.proofs.Hearing.{has_heard, kept_at}
use Rattle.dash_hall.proofs.PassesHearing.{passes_heard_self}
use Rattle.dash_threads.proofs.thread.PostingThread.tell.Goals as goal

pub returns-clause-kept : goal.returns-clause-kept
returns-clause-kept c =
    let t = c.args.self.now in
    record {
      number = refl;
      posters = kept_at t.kit.posters.items c.args.place c.index_mut.result.now c.hear.new.other c.index_mut.ensures.value c.hear.ensures.other;
      pass = refl;
      frames = passes_heard_self t.kit.frames.items;
      barriers = refl;
      passed = refl;
      gave_up = refl;
    }

pub returns-clause-heard : goal.returns-clause-heard
returns-clause-heard c = has_heard c.args.other.now c.hear.new.self c.hear.ensures.same c.hear.ensures.begins.0
