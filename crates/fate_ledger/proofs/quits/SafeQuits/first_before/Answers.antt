use Rattle.std.proofs.Common.{subst}
use Rattle.fate_ledger.specs.Quits.{IsBoundAt}
use Rattle.fate_ledger.proofs.Quitting.{quit_counted, quit_uncounted}
use Rattle.fate_ledger.proofs.quits.SafeQuits.first_before.Goals as goal

pub returns-then-count-eq0 : goal.returns-then-count-eq0
returns-then-count-eq0 c =
    let bound = subst (λ l. IsBoundAt c.args.moment l c.count_before-count.result) c.deref.ensures.value c.count_before-count.ensures in
    quit_uncounted c.args.moment c.args.end c.count_before-count.result c.args.self.now.list.items bound c.if-count-eq0.true

pub returns : goal.returns
returns c =
    let bound = subst (λ l. IsBoundAt c.args.moment l c.count_before-count.result) c.deref.ensures.value c.count_before-count.ensures in
    quit_counted c.args.moment c.args.end c.count_before-count.result c.args.self.now.list.items c.index.result.now bound c.if-count-eq0.false c.index.ensures
