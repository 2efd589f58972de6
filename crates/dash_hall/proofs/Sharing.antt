-- Lists of senders whose posters hear each other, one sender after the other.
use Rattle.std.proofs.Common.{◌≡◌, ℕ, ◌+◌, ◌<◌, ◌≤◌, List, length, set, get_or, refl, sym, ◌∙◌, subst, arith}
use Rattle.std.proofs.lemmas.List.{get_or-set_same, get_or-set_other, get_or_default, length-set}
use mathlib.Core.Logic.{dite}
use native.Mathlib.Decide.{dec_lt}
use Rattle.dash_hall.specs.Hearing.{AtEach}

-- the first k elements of these lists are so before and after, and the others are as before
pub record FirstAre {X : Type 0} (R : X → X → Type 0) (k : ℕ) (before after : List X) : Type 0 where
  pub long : length after ≡ length before
  pub done : (j : ℕ) (d : X) → j < k → j < length before → R (get_or before j d) (get_or after j d)
  pub rest : (j : ℕ) (d : X) → k ≤ j → get_or after j d ≡ get_or before j d

module _ {X : Type 0} (R : X → X → Type 0) (xs ys : List X) where
  -- the next one is one of them
  pub next_within : (k : ℕ) → FirstAre R k xs ys → k < length ys → k < length xs
  next_within k f lt = (let long = f.long in omega (arith, lt))

  -- the next one is written
  pub first_more : (k : ℕ) (e y : X) → FirstAre R k xs ys → k < length ys → R (get_or ys k e) y → FirstAre R (k + 1) xs (set ys k y)
  first_more k e y f lt r = record {
    long = length-set ys k y ∙ f.long;
    done = λ j d near within. dite (dec_lt j k)
        (λ below. subst (λ (b : X). R (get_or xs j d) b) (sym (get_or-set_other ys k j y d (λ is. omega (arith, below, is)))) (f.done j d below within))
        (λ not.
        let is : j ≡ k = omega (arith, near) in
        let here : get_or ys k e ≡ get_or xs k d = get_or_default ys k e d lt ∙ f.rest k d (omega arith) in
        let there : y ≡ get_or (set ys k y) k d = sym (get_or-set_same ys k y d lt) in
        subst (λ (n : ℕ). R (get_or xs n d) (get_or (set ys k y) n d)) (sym is) (subst (λ (a : X). R a (get_or (set ys k y) k d)) here (subst (λ (b : X). R (get_or ys k e) b) there r)));
    rest = λ j d le. get_or-set_other ys k j y d (λ is. omega (arith, le, is)) ∙ f.rest j d (omega (arith, le));
  }

  -- all of them are so
  pub first_all : (k : ℕ) → length xs ≤ k → FirstAre R k xs ys → AtEach R xs ys
  first_all k all f = record { long = f.long; each = λ j d lt. f.done j d (omega (arith, all, lt)) lt }

-- what follows from it for the first ones
pub first_weaker : {X : Type 0} (R S : X → X → Type 0) (xs ys : List X) (k : ℕ) → ((x y : X) → R x y → S x y) → FirstAre R k xs ys → FirstAre S k xs ys
first_weaker R S xs ys k h f = record { long = f.long; done = λ j d near within. h (get_or xs j d) (get_or ys j d) (f.done j d near within); rest = f.rest }

-- what follows from it for each
pub each_weaker : {X : Type 0} (R S : X → X → Type 0) (xs ys : List X) → ((x y : X) → R x y → S x y) → AtEach R xs ys → AtEach S xs ys
each_weaker R S xs ys h a = record { long = a.long; each = λ k d lt. h (get_or xs k d) (get_or ys k d) (a.each k d lt) }

-- each as it is
pub each_self : {X : Type 0} (R : X → X → Type 0) (xs : List X) → ((x : X) → R x x) → AtEach R xs xs
each_self R xs h = record { long = refl; each = λ k d lt. h (get_or xs k d) }

-- one after the other
pub each_then : {X : Type 0} (R S T : X → X → Type 0) (xs ys zs : List X) → ((x y z : X) → R x y → S y z → T x z) → AtEach R xs ys → AtEach S ys zs → AtEach T xs zs
each_then R S T xs ys zs h f g = record {
  long = g.long ∙ f.long;
  each = λ k d lt. (let long = f.long in h (get_or xs k d) (get_or ys k d) (get_or zs k d) (f.each k d lt) (g.each k d (omega (arith, lt))));
}
