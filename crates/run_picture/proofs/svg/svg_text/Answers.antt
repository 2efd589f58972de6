use Rattle.std.proofs.Common.{◌≡◌, ◌≤◌, ◌∙◌, length, subst, ap}
use Rattle.std.specs.Prelude.{IsPermutation}
use Rattle.std.specs.List.{flat_map, filter, AllByRecursion}
use Rattle.run_picture.specs.Drawn.{AreElements}
use Rattle.run_picture.specs.Groups.{KeepOrder, ShowsTime, marks_of}
use Rattle.run_picture.specs.View.{is_seen, seen_marks}
use Rattle.std.specs.Prelude.{None}
use Rattle.run_picture.proofs.svg.svg_text.Goals as goal

pub returns : goal.returns
returns c =
    let seen : c.in_ok-shown.shown.items ≡ seen_marks c.args.view c.args.report.now =
    c.in_ok-shown.ensures.all ∙ ap (filter (is_seen c.args.view.window)) (c.deref.ensures.value ∙ c.in_ok-all.ensures) in
    record {
      scale = c.scale_of-scale.result;
      groups = c.in_ok-groups.groups.items;
      most = c.most_of-most.result;
      background = c.into_bytes-out.result.items;
      drawn = c.push_elements.new.out.items;
      marked = subst (λ ms. IsPermutation ms (flat_map marks_of c.in_ok-groups.groups.items)) seen c.in_ok-groups.ensures.all;
      placed = c.in_ok-groups.ensures.places;
      some = c.in_ok-groups.ensures.marked;
      rising = c.in_ok-groups.ensures.rising;
      ordered = subst (λ ms. KeepOrder c.scale_of-scale.result ms (flat_map marks_of c.in_ok-groups.groups.items)) seen c.in_ok-groups.ensures.ordered;
      wide = c.scale_of-scale.ensures.wide;
      edges = c.scale_of-scale.ensures.edges;
      shown = subst (AllByRecursion (ShowsTime c.scale_of-scale.result)) (c.deref-2.ensures.value ∙ seen) c.scale_of-scale.ensures.shown;
      fine = subst (λ ms. length ms ≤ 4000 → c.scale_of-scale.result.step ≡ 1) (c.deref-2.ensures.value ∙ seen) c.scale_of-scale.ensures.fine;
      bare = c.into_bytes-out.ensures;
      elements = subst (λ out. AreElements c.most_of-most.result None c.in_ok-groups.groups.items out c.push_elements.new.out.items) c.in_ok-extend_from_slice.ensures.items
          (subst (λ gs. AreElements c.most_of-most.result None gs c.extend_from_slice.new.self.items c.push_elements.new.out.items) c.deref-6.ensures.value c.in_ok-push_elements.ensures);
      whole = c.in_ok-extend_from_slice-2.ensures.items;
    }
