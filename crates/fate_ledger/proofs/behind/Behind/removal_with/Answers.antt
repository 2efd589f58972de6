use Rattle.fate_ledger.proofs.Firsts.{first_plainly, first_called}
use Rattle.fate_ledger.proofs.behind.Behind.removal_with.Goals as goal

pub returns-then-is_none : goal.returns-then-is_none
returns-then-is_none c = λ place endings t.
    let one = c.removal_of.ensures place endings t in
    let two = c.removal_of-2.ensures place endings t in
    rw (c.earlier-first.ensures, one, two) (first_plainly c.args.post.now c.args.obj c.if-is_none.ensures place endings)

pub returns : goal.returns
returns c = λ place endings t.
    let one = c.removal_of.ensures place endings t in
    let two = c.removal_of-2.ensures place endings t in
    let three = c.removal_of-3.ensures place endings t in
    rw (c.earlier.ensures, c.earlier-first.ensures, one, two, three) (first_called c.args.post.now c.args.obj c.if-is_none.ensures place endings)
