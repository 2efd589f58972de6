use Rattle.std.proofs.Common.{◌∙◌}
use Rattle.fate_ledger.proofs.Firsts.{first_of_four}
use Rattle.fate_ledger.proofs.behind.Behind.first_end.Goals as goal

pub returns : goal.returns
returns c = λ place endings t.
    let one = c.removal.ensures place endings t in
    let two = c.dispatch.ensures place endings t in
    let three = t.everything in
    let four = c.first_before.ensures ∙ t.safe_quits c.args.post.now.when in
    rw (c.earlier.ensures, c.earlier-one.ensures, c.earlier-many.ensures, one, two, three, four) (first_of_four c.args.number c.args.post.now place endings)
