use Rattle.std.proofs.Common.{◌≡◌, List, Some, refl, sym, ap, ◌∙◌, subst}
use Rattle.std.specs.List.{insert}
use Rattle.std.proofs.lemmas.Option.{same_Some}
use mathlib.Core.List.{IsPrefix}
use Rattle.looper_run.specs.Holding.{Sender}
use Rattle.dash_hall.proofs.PassesHearing.{pass_heard}
use Rattle.dash_loopers.specs.Loopers.{LooperRest, others_in, rest_in}
use Rattle.dash_loopers.proofs.LooperPasses.{may_same}
use Rattle.dash_loopers.proofs.looper.StageLooper.tell_pass.Goals as goal

pub hear-requires : goal.hear-requires
hear-requires c =
    let parts = c.in-Some.parts in
    let is : c.args.self.now.parts ≡ Some parts = cc in
    (c.requires.other, c.requires.passes _ (ap rest_in is))

pub returns-clause-kept : goal.returns-clause-kept
returns-clause-kept c =
    let l = c.args.self.now in
    let parts = c.in-Some.parts in
    let is : l.parts ≡ Some parts = cc in
    let rest = (λ i. Some (record { frames = c.hear.ensures.other i; root = parts.root; fired = parts.fired.items; passed = parts.passed; awaits = parts.awaits })) ∙ sym (ap rest_in is) in (
      record {
        number = refl;
        sender = refl;
        posters = ap (λ (os : List Sender). insert os l.number l.looper.held.poster) (sym (ap others_in is));
        beside = record { pass = refl; journal = refl; idle_owed = refl; ended = refl };
        rest = may_same (rest_in l.parts) _ rest;
        last = refl;
        dispatched = refl;
      },
      rest,
    )

pub returns-clause-heard : goal.returns-clause-heard
returns-clause-heard c =
    pass_heard c.args.other.now c.hear.new.self c.hear.ensures.same c.hear.ensures.grows.0 c.hear.ensures.begins.0

pub returns-clause-told : goal.returns-clause-told
returns-clause-told c r here =
    let parts = c.in-Some.parts in
    let is : c.args.self.now.parts ≡ Some parts = cc in
    let all = c.hear.new.self.view.heard in
    let same = same_Some _ _ (ap rest_in (sym is) ∙ here) in
    subst (λ (z : LooperRest). IsPrefix z.frames.view.heard all) same c.hear.ensures.begins.1

pub returns-clause-knows : goal.returns-clause-knows
returns-clause-knows c = c.hear.ensures.knows.2
