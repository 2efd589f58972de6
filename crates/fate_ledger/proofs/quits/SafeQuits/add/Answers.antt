use Rattle.std.proofs.Common.{◌∙◌, ap, subst, [], ◌∷◌, ◌++◌}
use Rattle.fate_ledger.specs.declared.quits.SafeQuit.{SafeQuit}
use Rattle.fate_ledger.specs.Quits.{IsBoundAt, first_quit}
use Rattle.fate_ledger.proofs.Quitting.{quit_added}
use Rattle.fate_ledger.proofs.quits.SafeQuits.add.Goals as goal

pub returns-clause-first : goal.returns-clause-first
returns-clause-first c = λ moment end.
    let new : SafeQuit = record { now = c.args.now; place = c.args.place } in
    let bound = subst (λ l. IsBoundAt c.args.now l c.count_before-kept.result) c.deref.ensures.value c.count_before-kept.ensures in
    ap (first_quit moment end) c.in_ok-push.ensures.items ∙ (ap (λ l. first_quit moment end (l ++ new ∷ [])) c.truncate.ensures.items ∙ quit_added moment end c.count_before-kept.result new c.args.self.now.list.items bound)
