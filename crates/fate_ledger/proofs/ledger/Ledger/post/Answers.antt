use Rattle.std.proofs.Common.{◌∙◌, ◌+◌, [], ◌∷◌, ◌++◌, sym, ap, drop}
use Rattle.std.specs.Prelude.{reverse}
use Rattle.fate_ledger.specs.Ledgers.{endings_of}
use Rattle.fate_ledger.proofs.Passed.{post_passed, post_counted, posts_left}
use Rattle.fate_ledger.proofs.ledger.Ledger.post.Goals as goal

pub overflow_sub-self : goal.overflow_sub-self
overflow_sub-self c = posts_left c.args.entries.now c.args.place _ c.in-Some.post c.args.self.now.number c.requires.within (sym c.in-Some.ensures) c.requires.follows.number

pub returns-clause-number : goal.returns-clause-number
returns-clause-number c = post_counted c.args.entries.now c.args.place _ c.in-Some.post c.args.self.now.number c.requires.within (sym c.in-Some.ensures) c.requires.follows.number

pub returns-clause-fates : goal.returns-clause-fates
returns-clause-fates c =
    let es = c.args.entries.now in
    let k = c.args.place in
    let n = c.args.self.now.number in
    let posted = sym c.in-Some.ensures in
    let some = posts_left es k _ c.in-Some.post n c.requires.within posted c.requires.follows.number in
    let end = c.first_end-end.ensures (k + 1) (endings_of (drop (k + 1) es)) c.requires.follows.behind in
    let items = c.in-Ok.ensures.items ∙ ap (λ f. c.args.self.now.fates.items ++ f ∷ []) c.fate_at.ensures in
    ap reverse items ∙ post_passed es k _ c.in-Some.post n c.args.self.now.fates.items c.first_end-end.result c.requires.within posted some c.requires.follows.fates end
