-- What is written and the frames are those of a run of the values that were read.
use Rattle.std.proofs.Common.{List, ℕ, refl, subst}
use Rattle.value_animator.specs.Reading.{IsPlanText}
use Rattle.dashboard_cli.proofs.making.animate_input.Goals as goal

pub returns-clause-made : goal.returns-clause-made
returns-clause-made g c = record {
  input = c.in_ok-input.input.items;
  read = c.in_ok-input.ensures.whole;
  made = record {
    read_as = c.in_ok-values.values;
    came = (c.in_ok-text.text.items, c.in_ok-text.frames);
    read = subst (λ (b : List ℕ). IsPlanText b c.in_ok-values.values) c.as_slice.ensures.value c.in_ok-values.ensures.read;
    comes = c.in_ok-text.ensures;
    text_is = refl;
    given_is = c.frames-returned.ensures;
  };
}
