use Rattle.std.proofs.Common.{◌≡◌, ◌<◌, List, map, [], ◌∷◌, ◌++◌, length, ap, arith, ◌∙◌, take, get_or}
use Rattle.std.specs.Prelude.{string_bytes}
use Rattle.std.specs.List.{flat_map, enumerate_from}
use Rattle.std.proofs.lemmas.List.{take_all, length-map}
use Rattle.std.proofs.lemmas.List.FromFn.{length-enumerate_from}
use Rattle.value_animator.specs.declared.plan.Thing.{Thing}
use Rattle.value_animator.specs.declared.plan.Thing.TheVariants as thing_of
use Rattle.value_animator.specs.declared.runner.Runner.{Runner}
use Rattle.std.specs.Fmt.{decimal}
use Rattle.value_animator.specs.Run.{LineWords, line_text, thing_lines, thing_words}
use Rattle.value_animator.specs.Runners.{runner_at, telling_words}
use Rattle.value_animator.proofs.Asking.{as_many, asked_at, asked_more, written_one}
use Rattle.value_animator.proofs.runner.ask_all.Goals as goal

pub loop-place-preserved : goal.loop-place-preserved
loop-place-preserved c = λ list times start.
    let d : Thing = thing_of.Countdown 0 0 in
    let before : Thing → Runner = λ t. runner_at t times in
    let after : Thing → Runner = λ t. runner_at t (times ++ c.args.time ∷ []) in
    let inv = c.loop-place.invariant list times start in
    let lt : c.loop-place.place < length c.loop-place.things = omega arith in
    let old : get_or c.loop-place.things c.loop-place.place c.index-things-place.result ≡ before (get_or list c.loop-place.place d) =
    asked_at before after list c.loop-place.things c.loop-place.place d c.index-things-place.result lt inv.0 in
    let new : c.ask-telling.new.self ≡ after (get_or list c.loop-place.place d) = c.ask-telling.ensures.after (get_or list c.loop-place.place d) times old in
    let tells : telling_words c.ask-telling.result ≡ thing_words (get_or list c.loop-place.place d) times c.args.time = c.ask-telling.ensures.told (get_or list c.loop-place.place d) times old in
    let line = c.in_ok-write_telling.ensures ∙ ap (λ (l : List LineWords). string_bytes c.loop-place.out ++ flat_map line_text (map (λ ws. decimal c.args.time ∷ decimal c.loop-place.place ∷ ws) l)) tells in (
      asked_more before after list c.loop-place.things c.loop-place.place d c.ask-telling.new.self lt inv.0 new,
      written_one (thing_lines times c.args.time) line_text list c.loop-place.place d _ _ _ (as_many before after list c.loop-place.things c.loop-place.place lt inv.0) inv.1 line,
    )

pub returns-clause-told : goal.returns-clause-told
returns-clause-told c = λ list times start.
    let inv = c.loop-place.invariant list times start in
    let many : length c.args.things.now ≡ length list = ap length start ∙ length-map list (λ t. runner_at t times) in
    let all : take c.loop-place.place (enumerate_from 0 list) ≡ enumerate_from 0 list = take_all c.loop-place.place (enumerate_from 0 list) (omega (arith, length-enumerate_from 0 list)) in
    inv.1 ∙ ap (λ l. string_bytes c.args.out.now ++ flat_map line_text (flat_map (thing_lines times c.args.time) l)) all
