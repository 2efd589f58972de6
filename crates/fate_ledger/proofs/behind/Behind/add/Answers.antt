-- a removal writes its place at its key
use Rattle.std.proofs.Common.{◌∙◌, ◌+◌, ap, rules}
use Rattle.std.specs.Option.{unwrap_or}
use Rattle.std.specs.Ordering.{is_eq}
use Rattle.std.specs.BTreeMap.{get}
use Rattle.fate_ledger.specs.Keys.{key_cmp, removal_key, is_same_name}
use Rattle.fate_ledger.specs.Behind.{names, first_at}
use Rattle.fate_ledger.proofs.Firsts.{written_place, key_equal}
use Rattle.fate_ledger.proofs.behind.Behind.add.Goals as goal

pub returns-in-Ok-clause-tells : goal.returns-in-Ok-clause-tells
returns-in-Ok-clause-tells c = λ endings t. rw c.in-Removal.is record {
  removals = λ x.
      let at = key_equal c.key_of.result x ∙ ap (is_same_name x) c.key_of.ensures in
      ap (λ o. unwrap_or o c.args.self.now.end) (c.in-Ok.ensures.updates.0 x) ∙ written_place (is_eq (key_cmp c.key_of.result x)) (is_same_name x (removal_key c.in-Removal.filter)) c.args.place c.args.self.now.end (get key_cmp c.args.self.now.removals x) (first_at (names x) (c.args.place + 1) endings) at (t.removals x);
  dispatches = λ n. t.dispatches n;
  everything = t.everything;
  safe_quits = λ w. t.safe_quits w;
  ended = search rules;
}
