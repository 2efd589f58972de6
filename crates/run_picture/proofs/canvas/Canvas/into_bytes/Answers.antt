use Rattle.run_picture.proofs.Bare.{bare}
use Rattle.run_picture.proofs.canvas.Canvas.into_bytes.Goals as goal

pub returns : goal.returns
returns c = bare c.self.inside.bytes.items c.self.invariant
