use Rattle.std.proofs.Common.{◌≡◌, List, Some, refl, sym, ap, ◌∙◌, subst}
use Rattle.std.specs.List.{insert}
use Rattle.std.proofs.lemmas.Option.{same_Some}
use Rattle.looper_run.specs.Holding.{Sender}
use Rattle.dash_hall.specs.Hearing.{HasHeardAll}
use Rattle.dash_hall.proofs.Hearing.{longer_whole}
use Rattle.dash_hall.proofs.PassesHearing.{pass_heard}
use Rattle.dash_loopers.specs.Loopers.{LooperRest, MayHaveHeard, others_in, rest_in}
use Rattle.dash_loopers.proofs.LooperPasses.{may_one}
use Rattle.dash_loopers.proofs.looper.StageLooper.hear_pass.Goals as goal

pub hear-requires : goal.hear-requires
hear-requires c =
    let parts = c.in-Some.parts in
    let is : c.args.self.now.parts ≡ Some parts = cc in
    (c.requires.passes _ (ap rest_in is), c.requires.other)

pub returns-clause-kept : goal.returns-clause-kept
returns-clause-kept c =
    let l = c.args.self.now in
    let parts = c.in-Some.parts in
    let is : l.parts ≡ Some parts = cc in
    let whole = c.args.other.now.view.heard in
    let r : LooperRest = record { frames = parts.frames; root = parts.root; fired = parts.fired.items; passed = parts.passed; awaits = parts.awaits } in
    let r' : LooperRest = record { frames = c.hear.new.self; root = parts.root; fired = parts.fired.items; passed = parts.passed; awaits = parts.awaits } in
    let known = c.requires.known r (ap rest_in is) in
    let all = c.hear.ensures.heard ∙ longer_whole parts.frames.view.heard whole known in
    let heard = may_one r r' record {
      frames = pass_heard parts.frames c.hear.new.self c.hear.ensures.same c.hear.ensures.grows.0 c.hear.ensures.begins.0;
      root = refl;
      fired = refl;
      passed = refl;
      awaits = refl;
    } in (
      record {
        number = refl;
        sender = refl;
        posters = ap (λ (os : List Sender). insert os l.number l.looper.held.poster) (sym (ap others_in is));
        beside = record { pass = refl; journal = refl; idle_owed = refl; ended = refl };
        rest = subst (λ o. MayHaveHeard o (Some r')) (sym (ap rest_in is)) heard;
        last = refl;
        dispatched = refl;
      },
      λ z here. subst (λ (z : LooperRest). HasHeardAll whole z.frames) (same_Some r' z here) (c.hear.ensures.knows.2, all),
    )
