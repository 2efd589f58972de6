use Rattle.std.proofs.Common.{◌≡◌, ◌<◌, inl, inr, ℕ, true, false, true≢false, length, slice_index_or, Some, None, refl, sym, ◌∙◌, subst}
use Rattle.std.proofs.lemmas.List.{get_or_default}
use Rattle.looper_run.specs.Round.{is_ended}
use Rattle.dash_loopers.specs.declared.looper.StageLooper.{StageLooper}
use Rattle.dash_loopers.specs.Loopers.{until_of}
use Rattle.dash_stage.specs.Timeliness.{NotLater}
use Rattle.dash_stage.proofs.Controller.Controls.{none_same}
use Rattle.dash_stage.proofs.Moves.{looked_self}
use Rattle.dash_stage.proofs.stage.Stage.due_on.Goals as goal

pub asked-requires : goal.asked-requires
asked-requires g c = let is = c.requires.stage in record { at = record { is_hall = is.hall; controller = is.controller; known = c.requires.looper } }

pub returns-then-has_ended : goal.returns-then-has_ended
returns-then-has_ended g c =
    let ls = c.args.self.now.loopers.items in
    let lt : c.args.looper < length ls = subst (λ (n : ℕ). c.args.looper < n) (sym c.requires.stage.loopers.0) c.requires.looper in
    let x : StageLooper = c.index.result.now in
    let over : (l : StageLooper) → is_ended (slice_index_or ls c.args.looper l).last ≡ true = λ l.
    subst (λ (z : StageLooper). is_ended z.last ≡ true) (c.index.ensures ∙ get_or_default ls c.args.looper x l lt) (sym c.has_ended.ensures ∙ c.if-has_ended.true) in
    record {
      looked = looked_self c.args.script.now c.args.self.now c.requires.stage;
      due = λ t l early going. absurd (true≢false (sym (over l) ∙ going));
      reason = λ t is. (let wrong : None ≡ Some t = is in absurd cc);
      look = λ l going. absurd (true≢false (sym (over l) ∙ going));
      over = λ l ended. refl;
      elsewhere = λ q p apart. refl;
    }

pub returns : goal.returns
returns g c =
    let stage = c.requires.stage in
    let looper = c.args.looper in
    let ls = c.args.self.now.loopers.items in
    let lt : looper < length ls = subst (λ (n : ℕ). looper < n) (sym stage.loopers.0) c.requires.looper in
    let x : StageLooper = c.index.result.now in
    let y : StageLooper = c.index-2.result.now in
    let is_x : (l : StageLooper) → x ≡ slice_index_or ls looper l = λ l. c.index.ensures ∙ get_or_default ls looper x l lt in
    let is_y : (l : StageLooper) → y ≡ slice_index_or ls looper l = λ l. c.index-2.ensures ∙ get_or_default ls looper y l lt in
    let going : (l : StageLooper) → is_ended (slice_index_or ls looper l).last ≡ false = λ l.
    subst (λ (z : StageLooper). is_ended z.last ≡ false) (is_x l) (sym c.has_ended.ensures ∙ c.if-has_ended.false) in
    let asked = c.asked.ensures in
    record {
      looked = record {
        still = record {
          stage = record { text = stage.text; hall = stage.hall; threads = stage.threads; loopers = stage.loopers; controller = asked.controller; pass = stage.pass };
          none = none_same c.args.self.now.controller c.asked.new.self asked.posters;
          now = refl;
        };
        threads = refl;
        loopers = refl;
        posters = asked.posters;
      };
      due = λ t l early going. subst (λ (z : StageLooper). NotLater t (until_of z.last)) (is_y l) (subst (NotLater t) c.until-until.ensures (c.earlier.ensures.early t early).0);
      reason = λ t is.
          elim (c.earlier.ensures.one t is) [
            | inl until ↦ inl (λ l. (going l, subst (λ (z : StageLooper). until_of z.last ≡ Some t) (is_y l) (sym c.until-until.ensures ∙ until)))
            | inr pulse ↦ inr (asked.pulse t pulse)
          ];
      look = λ l going. record { pulse = c.asked.result; look = asked.look; early = λ t early. (c.earlier.ensures.early t early).1 };
      over = λ l ended. absurd (true≢false (sym ended ∙ going l));
      elsewhere = asked.elsewhere;
    }
