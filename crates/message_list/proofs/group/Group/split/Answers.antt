use Rattle.std.proofs.Common.{◌≡◌, ℕ, ◌+◌, ◌-◌, ◌/◌, List, length, take, drop, sym, ap, ◌∙◌, subst, arith}
use Rattle.message_list.specs.declared.group.Mark.{Mark}
use Rattle.message_list.specs.Marks.{gaps, LeadFrom}
use Rattle.std.specs.Prelude.{is_ok, true, not, if◌then◌else◌, ◌++◌}
use Rattle.message_list.proofs.Marked.{cut_from, long_drop, take_all}
use Rattle.message_list.proofs.group.Group.split.Goals as goal

pub returns-clause-cut : goal.returns-clause-cut
returns-clause-cut c f n places h =
    let ms = c.args.self.now.list.items in
    let half = c.len-half.result / 2 in
    let cut = cut_from f places n ms half h.0 in
    let whole = c.deref.ensures.value in
    let done : is_ok c.extend_from_slice.result ≡ true = c.is_err.ensures.negation ∙ ap not c.if-is_err.false in
    let long = long_drop ms half in
    let rest : take (length c.deref.result.now - half) (drop half c.deref.result.now) ≡ drop half ms =
    ap (λ (l : List Mark). take (length l - half) (drop half l)) whole ∙ take_all (drop half ms) (length ms - half) (omega (arith, long)) in
    let came : c.extend_from_slice.new.self.items ≡ drop half ms =
    c.extend_from_slice.ensures.items ∙ ap (λ b. if b then c.in-Ok.list.items ++ take (length c.deref.result.now - half) (drop half c.deref.result.now) else c.in-Ok.list.items) done
    ∙ ap (λ (l : List Mark). l ++ take (length c.deref.result.now - half) (drop half c.deref.result.now)) c.in-Ok.ensures.items ∙ rest in
    let cuts = c.truncate.ensures.items in
    let low : c.in-Some.count ≡ gaps (take half ms) = c.in-Some.ensures in
    let rests = c.in-Some-checked_sub.ensures.1 in let fits = c.in-Some-checked_sub.ensures.0 in
    let sum = cut.2 in let was = h.1 in (
      (subst (LeadFrom f places n) (sym cuts) cut.0, low ∙ ap gaps (sym cuts)),
      (
        subst (λ (l : List Mark). LeadFrom f places (n + c.in-Some.count) l) (sym came) (subst (λ (b : ℕ). LeadFrom f places (n + b) (drop half ms)) (sym low) cut.1),
        omega (arith, sum, was, low, rests) ∙ ap gaps (sym came),
      ),
      omega (arith, sum, was, low, rests, fits),
    )
