use Rattle.std.proofs.Common.{◌≡◌, ℕ, ◌+◌, ◌-◌, ◌<◌, length, take, get_or, sym, subst, arith}
use Rattle.message_list.specs.declared.group.Mark.{Mark}
use Rattle.message_list.specs.Marks.{gaps, LeadsTo}
use Rattle.message_list.proofs.Marked.{read_from}
use Rattle.message_list.proofs.group.Group.last_until.Goals as goal

pub returns : goal.returns
returns c f n places h =
    let ms = c.args.self.now.list.items in
    let r = c.index.result.now in
    let k = c.until-marks.result - 1 in
    let there : r ≡ get_or ms k r = c.index.ensures in
    let long = c.until-marks.ensures in let some = c.if-marks-eq0.false in
    let lt : k < length ms = omega arith in
    let sum : c.in-Some.far ≡ gaps (take k ms) = c.in-Some.ensures in
    subst (λ (b : ℕ). LeadsTo f places (n + b) r.at.ptr) (sym sum) (subst (λ (m : Mark). LeadsTo f places (n + gaps (take k ms)) m.at.ptr) (sym there) (read_from f places n ms k r lt h.0))
