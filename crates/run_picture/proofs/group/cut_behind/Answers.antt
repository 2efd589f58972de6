use Rattle.std.proofs.Common.{rules, ap, refl, sym, true, false, ◌≡◌, ◌++◌, ◌∷◌, [], ◌∙◌}
use Rattle.run_picture.specs.Groups.{begun, with_mark}
use Rattle.run_picture.proofs.Grouped.{cut_start, cut_same, cut_other, cut_end}
use Rattle.run_picture.proofs.group.cut_behind.Goals.{then-not-is_at+in_ok-push, else-not-is_at}
use Rattle.run_picture.proofs.group.cut_behind.Goals as goal

pub loop-mark-init : goal.loop-mark-init
loop-mark-init c =
    cut_start c.args.scale c.args.first c.args.later.now c.new-groups.result.items c.add.new.group c.new-groups.ensures.items
    (c.in_ok-add.ensures ∙ ap (λ g. with_mark g c.args.first) (c.begun-current.ensures ∙ ap begun c.place.ensures))

pub loop-mark-preserved : goal.loop-mark-preserved
loop-mark-preserved c = elim c.if-not-is_at.branch [
  | then-not-is_at+in_ok-push w ↦
      cut_other c.args.scale c.args.first c.args.later.now c.loop-mark.mark-index c.loop-mark.groups.items c.if-not-is_at.groups.items c.loop-mark.current c.if-not-is_at.current c.add-in-loop-mark.new.group _ _
      c.requires c.loop-mark.invariant c.loop-mark-test.true refl (λ e. let no : c.is_at.result ≡ false = search rules in let at : c.is_at.result ≡ true = c.is_at.ensures.1 (e ∙ sym c.place-place.ensures) in let wrong : false ≡ true = sym no ∙ at in cc)
      (ap (λ v. v.items) w.groups-is ∙ w.in_ok-push.ensures.items ∙ ap (λ g. c.loop-mark.groups.items ++ g ∷ []) w.replace-whole.ensures.value)
      (w.current-is ∙ w.replace-whole.ensures.after ∙ w.begun.ensures ∙ ap begun c.place-place.ensures) c.in_ok-add-2.ensures
  | else-not-is_at w ↦
      cut_same c.args.scale c.args.first c.args.later.now c.loop-mark.mark-index c.loop-mark.groups.items c.if-not-is_at.groups.items c.loop-mark.current c.if-not-is_at.current c.add-in-loop-mark.new.group _ _
      c.loop-mark.invariant c.loop-mark-test.true refl (c.is_at.ensures.0 (search rules) ∙ c.place-place.ensures) (ap (λ v. v.items) w.groups-is) w.current-is c.in_ok-add-2.ensures
]

pub returns : goal.returns
returns c =
    cut_end c.args.scale c.args.first c.args.later.now c.loop-mark.mark-index c.loop-mark.groups.items c.push-2.new.self.items c.loop-mark.current c.loop-mark.invariant c.loop-mark-test.false
    c.in_ok-push-2.ensures.items
