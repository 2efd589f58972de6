use Rattle.std.proofs.Common.{Some, refl, ap}
use Rattle.loop_tests.specs.declared.loopers.Noted.TheVariants as noted
use Rattle.looper_run.proofs.Asking.{same_kept}
use Rattle.loop_tests.proofs.loopers.NoterDispatcher.before.Goals as goal

pub returns-clause-carries : goal.returns-clause-carries
returns-clause-carries c = λ acts. record {
  serves = λ w h. h;
  origin = refl;
  nudges = refl;
  asked = ap Some (same_kept _ c.note.result c.args.self.now.calls.items c.note.new.self.calls.items (noted.Before c.args.number) c.note.ensures.noted c.note.ensures.lost refl);
  awaits = λ awaited h. h;
  meets = λ s es h. h;
}
