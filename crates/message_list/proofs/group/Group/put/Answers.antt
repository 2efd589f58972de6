use Rattle.std.proofs.Common.{◌≡◌, ℕ, suc, List, ◌+◌, ◌-◌, ◌<◌, length, take, set, get_or, refl, sym, ap, ◌∙◌, subst, arith}
use Rattle.std.specs.Prelude.{insert, is_ok, true, if◌then◌else◌}
use mathlib.Core.Option.{some}
use lib.ListN.{get_elem?}
use Rattle.message_list.specs.declared.group.Mark.{Mark}
use Rattle.message_list.specs.Marks.{gaps, LeadsTo, LeadFrom}
use Rattle.message_list.proofs.Marked.{same_from, put_from}
use Rattle.message_list.proofs.group.Group.put.Goals as goal

pub returns-then-left-eq0-clause-leads : goal.returns-then-left-eq0-clause-leads
returns-then-left-eq0-clause-leads c f n here places is to h =
    let ms = c.args.self.now.list.items in
    let k = c.find-k.result.0 in
    let r = c.index-mark.result.now in
    let there : r ≡ get_or ms k r = c.index-mark.ensures in
    let no = c.if-k-len.false in let long = c.len.ensures in
    let lt : k < length ms = omega arith in
    let all = same_from f places n ms k (record { at = r.at; gap = r.gap; key = c.args.key }) r lt (ap (λ (m : Mark). m.at) there) (ap (λ (m : Mark). m.gap) there) h.0 in
    (all.0, h.1 ∙ all.1)

pub returns-then-is_ok-clause-leads : goal.returns-then-is_ok-clause-leads
returns-then-is_ok-clause-leads c f n here places is to h =
    let ms = c.args.self.now.list.items in
    let k = c.find-k.result.0 in
    let left = c.find-k.result.1 in
    let r = c.index-mark.result.now in
    let there : r ≡ get_or ms k r = c.index-mark.ensures in
    let no = c.if-k-len.false in let long = c.len.ensures in
    let lt : k < length ms = omega arith in
    let sum = c.find-k.ensures.1 in
    let less = c.find-k.ensures.2 lt r in
    let some_left = c.if-left-eq0.false in
    let gap = ap (λ (m : Mark). m.gap) there in
    let x : Mark = record { at = c.args.at; gap = r.gap - left; key = c.args.key } in
    let m : Mark = record { at = r.at; gap = left; key = r.key } in
    let more : LeadsTo f places (n + (gaps (take k ms) + left)) c.args.at.ptr = λ j at. let same : here ≡ j = omega (arith, is, sum, at) in subst (λ (i : ℕ). get_elem? places i ≡ some c.args.at.ptr) same to in
    let all = put_from f places n ms k left m x r lt (omega (arith, some_left)) (ap (λ (m : Mark). m.at) there) refl (omega (arith, gap, less)) (omega (arith, gap, less)) more h.0 in
    let step : suc k ≡ k + 1 = omega arith in
    let done : is_ok c.insert.result ≡ true = sym c.is_ok.ensures.value ∙ c.if-is_ok.true in
    let came : insert ms (suc k) x ≡ c.insert.new.self.items = ap (λ (j : ℕ). insert ms j x) step ∙ sym (c.insert.ensures.items ∙ ap (λ b. if b then insert ms (k + 1) x else ms) done) in
    subst (λ (l : List Mark). LeadFrom f places n (set l k m) × (c.args.self.now.count ≡ gaps (set l k m))) came (all.0, h.1 ∙ all.1)
