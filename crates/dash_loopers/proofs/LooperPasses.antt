-- A looper whose pass of its choreographer hears others.
use Rattle.std.proofs.Common.{◌≡◌, [], Option, Some, None, refl, sym, ap, ◌∙◌, subst}
use Rattle.std.specs.Prelude.{IsSome, is_some}
use Rattle.std.proofs.lemmas.Option.{same_Some}
use Rattle.frame_phases.specs.Parting.{dealt_to}
use Rattle.choreographer.specs.Known.{Pass}
use Rattle.choreographer.specs.Turn.{made_entries}
use Rattle.dash_hall.specs.Hearing.{HasHeardAll}
use Rattle.dash_hall.proofs.PassesHearing.{pass_heard_self, pass_heard_then}
use Rattle.dash_loopers.specs.declared.player.Parts.{Parts}
use Rattle.dash_loopers.specs.Loopers.{LooperRest, RestHasHeard, MayHaveHeard, rest_in}

-- a pass that has heard of nothing, seen nothing and recorded nothing has heard all there is
pub unheard_all : (p : Pass) → p.view.heard ≡ [] → p.view.seen ≡ [] → p.view.own ≡ [] → HasHeardAll [] p
unheard_all p heard seen own = (
  record { seen = ap made_entries heard ∙ sym seen; own = ap (dealt_to p.number) heard ∙ sym own; numbers = λ c is n le. ap (dealt_to n) heard },
  heard,
)

-- the rest as it is
pub rest_self : (r : LooperRest) → RestHasHeard r r
rest_self r = record { frames = pass_heard_self r.frames; root = refl; fired = refl; passed = refl; awaits = refl }

pub may_self : (o : Option LooperRest) → MayHaveHeard o o
may_self o r is = (r, is, rest_self r)

-- one after the other
pub rest_then : (x y z : LooperRest) → RestHasHeard x y → RestHasHeard y z → RestHasHeard x z
rest_then x y z f g = record {
  frames = pass_heard_then x.frames y.frames z.frames f.frames g.frames;
  root = g.root ∙ f.root;
  fired = g.fired ∙ f.fired;
  passed = g.passed ∙ f.passed;
  awaits = g.awaits ∙ f.awaits;
}

pub may_then : (a b c : Option LooperRest) → MayHaveHeard a b → MayHaveHeard b c → MayHaveHeard a c
may_then a b c f g r is =
    let one = f r is in
    let two = g one.0 one.1 in
    (two.0, two.1, rest_then r one.0 two.0 one.2 two.2)

-- what is the same may have heard
pub may_same : (a b : Option LooperRest) → b ≡ a → MayHaveHeard a b
may_same a b same = subst (MayHaveHeard a) (sym same) (may_self a)

-- where it is there it has heard
pub may_one : (r r' : LooperRest) → RestHasHeard r r' → MayHaveHeard (Some r) (Some r')
may_one r r' h x is = let same : r ≡ x = same_Some r x is in (r', refl, subst (λ (z : LooperRest). RestHasHeard z r') same h)

-- the rest is there where the parts are
rest_there : (o : Option Parts) → is_some (rest_in o) ≡ is_some o
rest_there None = refl
rest_there (Some parts) = refl

-- parts with the same rest are there too
pub parts_there : (a b : Option Parts) → rest_in b ≡ rest_in a → IsSome a → IsSome b
parts_there a b same there = sym (rest_there b) ∙ (ap is_some same ∙ (rest_there a ∙ there))
