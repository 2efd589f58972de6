-- What the kits got, call after call.
use Rattle.std.proofs.Common.{◌≡◌, ◌≢◌, ℕ, ◌<◌, List, [], ◌++◌, map, length, set, get_or, cond, eqb, refl, sym, ap, ◌∙◌, subst, arith, append_assoc, append-nil}
use Rattle.std.proofs.lemmas.Bool.{eq-eqb, ne_eqb}
use Rattle.std.proofs.lemmas.List.{get_or-set_same, get_or-set_other, get_or_default, length-set}
use mathlib.Core.Logic.{dite}
use native.Mathlib.Decide.{ℕ_discrete}
use Rattle.dash_hall.specs.declared.kit.Kit.{Kit}
use Rattle.dash_hall.specs.Kits.{Badge, FrameBadge, badge_of, frame_badge_of}
use Rattle.dash_hall.specs.Dealing.{Gets, EachGets, nothing}

pub gets_same : (kit : Kit) → Gets [] [] kit kit
gets_same kit = record {
  posters = sym (append-nil _);
  frames = sym (append-nil _);
  unused = λ u. u;
  pass = refl;
}

pub gets_more : (bs bs' : List Badge) (fs fs' : List FrameBadge) (a b c : Kit) → Gets bs fs a b → Gets bs' fs' b c → Gets (bs ++ bs') (fs ++ fs') a c
gets_more bs bs' fs fs' a b c h g = record {
  posters = g.posters ∙ (ap (λ l. l ++ bs') h.posters ∙ append_assoc (map badge_of a.posters.items) bs bs');
  frames = g.frames ∙ (ap (λ l. l ++ fs') h.frames ∙ append_assoc (map frame_badge_of a.frames.items) fs fs');
  unused = λ u. g.unused (h.unused u);
  pass = g.pass ∙ h.pass;
}

pub each_start : (kits : List Kit) → EachGets nothing nothing kits kits
each_start kits = record { count = refl; each = λ k d lt. gets_same (get_or kits k d) }

pub each_more : (bs bs' : ℕ → List Badge) (fs fs' : ℕ → List FrameBadge) (a b c : List Kit) → EachGets bs fs a b → EachGets bs' fs' b c → EachGets (λ k. bs k ++ bs' k) (λ k. fs k ++ fs' k) a c
each_more bs bs' fs fs' a b c h g = record {
  count = g.count ∙ h.count;
  each = λ k d lt.
      let same = h.count in
      gets_more (bs k) (bs' k) (fs k) (fs' k) (get_or a k d) (get_or b k d) (get_or c k d) (h.each k d lt) (g.each k d (omega (arith, same, lt)));
}

pub each_same : (bs bs' : ℕ → List Badge) (fs fs' : ℕ → List FrameBadge) (a b : List Kit) → ((k : ℕ) → k < length a → bs k ≡ bs' k) → ((k : ℕ) → k < length a → fs k ≡ fs' k) → EachGets bs fs a b → EachGets bs' fs' a b
each_same bs bs' fs fs' a b eb ef h = record {
  count = h.count;
  each = λ k d lt. subst (λ l. Gets l (fs' k) (get_or a k d) (get_or b k d)) (eb k lt) (subst (λ l. Gets (bs k) l (get_or a k d) (get_or b k d)) (ef k lt) (h.each k d lt));
}

-- what the one kit of this number got
abbrev pub only : {X : Type 0} → ℕ → List X → ℕ → List X
only i xs k = cond (eqb i k) xs []

only_here : {X : Type 0} (i k : ℕ) (xs : List X) → k ≡ i → only i xs k ≡ xs
only_here i k xs is = ap (λ b. cond b xs []) (eq-eqb i k (sym is))

only_there : {X : Type 0} (i k : ℕ) (xs : List X) → k ≢ i → only i xs k ≡ []
only_there i k xs not = ap (λ b. cond b xs []) (ne_eqb i k (λ e. not (sym e)))

pub only_none : {X : Type 0} (i k : ℕ) → only {X = X} i [] k ≡ []
only_none i k = dite (ℕ_discrete k i) (λ is. only_here i k [] is) (λ not. only_there i k [] not)

-- one kit got something
pub each_one : (a : List Kit) (i : ℕ) (kit e : Kit) (bs : List Badge) (fs : List FrameBadge) → i < length a → Gets bs fs (get_or a i e) kit → EachGets (only i bs) (only i fs) a (set a i kit)
each_one a i kit e bs fs within h = record {
  count = length-set a i kit;
  each = λ k d lt. dite (ℕ_discrete k i)
      (λ is. subst (λ l. Gets l (only i fs k) (get_or a k d) (get_or (set a i kit) k d)) (sym (only_here i k bs is))
      (subst (λ l. Gets bs l (get_or a k d) (get_or (set a i kit) k d)) (sym (only_here i k fs is))
      (subst (λ (n : ℕ). Gets bs fs (get_or a n d) (get_or (set a i kit) n d)) (sym is)
      (subst (λ x. Gets bs fs x (get_or (set a i kit) i d)) (get_or_default a i e d within)
      (subst (λ x. Gets bs fs (get_or a i e) x) (sym (get_or-set_same a i kit d within)) h)))))
      (λ not. subst (λ l. Gets l (only i fs k) (get_or a k d) (get_or (set a i kit) k d)) (sym (only_there i k bs not))
      (subst (λ l. Gets [] l (get_or a k d) (get_or (set a i kit) k d)) (sym (only_there i k fs not))
      (subst (λ x. Gets [] [] (get_or a k d) x) (sym (get_or-set_other a i k kit d not)) (gets_same (get_or a k d)))));
}
