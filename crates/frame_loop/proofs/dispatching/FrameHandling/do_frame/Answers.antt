use Rattle.std.proofs.Common.{rules, refl, ap, ◌∙◌}
use Rattle.choreographer.proofs.Pulsing.{any_begins}
use Rattle.frame_loop.specs.Paintings.{PaintingOrigin}
use Rattle.frame_loop.proofs.Keeping.{opens, closes, found, serves_framed}
use Rattle.frame_loop.proofs.dispatching.FrameHandling.do_frame.Goals as goal

pub do_frame-framed-requires-clause-may : goal.do_frame-framed-requires-clause-may
do_frame-framed-requires-clause-may g c = record {
  serves = opens _ _ _ c.args.self.now.frames _ _ _ _ c.args.own.now.journal.now c.requires.serves refl refl refl c.of-began.ensures c.of-pass_began.ensures;
  meets = c.requires.holds;
  ready = search rules;
}

pub returns-clause-keeps : goal.returns-clause-keeps
returns-clause-keeps g c =
    let kept = closes _ c.args.own.now.poster.now _ c.args.own.now.pass.now _ _ c.args.self.now.choreographer.now c.args.own.now.journal.now
    (ap (λ (o : PaintingOrigin). o.poster) c.do_frame-framed.ensures.keeps.own ∙ c.of-began.ensures)
    (ap (λ (o : PaintingOrigin). o.pass) c.do_frame-framed.ensures.keeps.own ∙ c.of-pass_began.ensures)
    (c.do_frame-framed.ensures.keeps.serves c.args.self.now.choreographer.now
    (opens _ _ _ c.args.self.now.frames _ _ _ _ c.args.own.now.journal.now c.requires.serves refl refl refl c.of-began.ensures c.of-pass_began.ensures)) in
    record {
      serves = λ w s.
          serves_framed _ _ _ _ _ _ _ w c.do_frame-framed.ensures.turns.same.0 c.do_frame-framed.ensures.turns.same.1 c.do_frame-framed.ensures.turns.same.2
          (c.do_frame-framed.ensures.keeps.serves c.args.self.now.choreographer.now
          (opens _ _ _ c.args.self.now.frames _ _ _ _ c.args.own.now.journal.now c.requires.serves refl refl refl c.of-began.ensures c.of-pass_began.ensures)).asking s;
      own = record { same = record { poster = refl; pass = refl; journal = refl }; lent = kept.0; rung = kept.1 };
      nudged = refl;
    }

pub returns-clause-holds : goal.returns-clause-holds
returns-clause-holds g c = found c.do_frame-framed.result _ _ c.found_memory.ensures c.do_frame-framed.ensures.meets

pub do_frame-framed-requires-clause-begins : goal.do_frame-framed-requires-clause-begins
do_frame-framed-requires-clause-begins g c = any_begins c.args.self.now.frames c.args.self.now.choreographer.now c.requires.serves.has.framing c.requires.serves.has.pulses
