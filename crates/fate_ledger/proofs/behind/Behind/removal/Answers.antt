use Rattle.fate_ledger.proofs.Firsts.{first_removal}
use Rattle.fate_ledger.proofs.behind.Behind.removal.Goals as goal

pub returns : goal.returns
returns c = λ place endings t.
    let one = c.removal_with-any_object.ensures place endings t in
    let two = c.removal_with.ensures place endings t in
    rw (c.earlier.ensures, one, two) (first_removal c.args.post.now place endings)
