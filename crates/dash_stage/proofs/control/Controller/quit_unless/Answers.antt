use Rattle.std.proofs.Common.{◌≡◌, true, false, refl, sym, ◌∙◌}
use Rattle.dash_stage.proofs.control.Controller.quit_unless.Goals as goal

pub returns-then-has_ended : goal.returns-then-has_ended
returns-then-has_ended g c = record {
  alone = record { controller = c.requires.at.controller; elsewhere = λ q d apart. refl };
  left = λ ended. refl;
  made = λ done going. let wrong : true ≡ false = sym c.if-has_ended.true ∙ going in cc;
  bells = λ q d. refl;
}

pub returns : goal.returns
returns g c = record {
  alone = c.quit_now.ensures.alone;
  left = λ ended. let wrong : true ≡ false = sym ended ∙ c.if-has_ended.false in cc;
  made = λ done going d. c.quit_now.ensures.here done d;
  bells = c.quit_now.ensures.bells;
}
