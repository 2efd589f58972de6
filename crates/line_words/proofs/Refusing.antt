-- A text whose lines may be refused is read where no line has a cause, and else refused for the least line that has one, with its first one.
use Rattle.std.proofs.Common.{◌≡◌, ◌<◌, ◌+◌, ℕ, zero, suc, Bool, true, false, List, [], ◌∷◌, Option, Some, None, Result, Ok, Err, refl, sym, ap, ◌∙◌, arith}
use Rattle.std.specs.Prelude.{◌↔◌, take, drop}
use Rattle.std.proofs.lemmas.Option.{none-some}
use Rattle.line_words.specs.Words.{pieces}
use Rattle.line_words.specs.Refusing.{Language, with_said, held_by, first_cause, IsTextOf, IsRefusalOf}
use Rattle.line_words.specs.RefusedReading.{goes_on, read_from, read_text}

module _ {T C : Type 0} where
  abbrev pub answer : T → Result T (ℕ × C)
  answer t = Ok t

  abbrev pub failed : ℕ → C → Result T (ℕ × C)
  failed k c = Err (k, c)

  abbrev line_in : Result T (ℕ × C) → ℕ
  line_in (Ok t) = 0
  line_in (Err (line, c)) = line

  abbrev cause_in : C → Result T (ℕ × C) → C
  cause_in d (Ok t) = d
  cause_in d (Err (line, c)) = c

  abbrev value_or : T → Result T (ℕ × C) → T
  value_or d (Ok t) = t
  value_or d (Err e) = d

  abbrev is_refused : Result T (ℕ × C) → Bool
  is_refused (Ok t) = false
  is_refused (Err e) = true

  pub same_answer : (s t : T) → answer s ≡ answer t → s ≡ t
  same_answer s t e = ap (value_or s) e

  pub not_both : (k : ℕ) (c : C) (t : T) → failed k c ≡ answer t → ⊥
  not_both k c t e = let wrong : true ≡ false = ap is_refused e in cc

  pub same_line : (k j : ℕ) (a c : C) → failed k a ≡ failed j c → k ≡ j
  same_line k j a c e = ap line_in e

  pub same_cause : (k j : ℕ) (a c : C) → failed k a ≡ failed j c → a ≡ c
  same_cause k j a c e = ap (cause_in a) e

-- the first cause of the line that has n of these pieces before it
abbrev pub cause_from : {L D T C : Type 0} → Language L D T C → ℕ → D → List (List ℕ) → ℕ → Option C
cause_from r k d ps n = first_cause r (n + k) (held_by r d (take n ps)) (drop n ps)

-- no line of these pieces has a cause, and this is what they hold
pub record Whole {L D T C : Type 0} (r : Language L D T C) (k : ℕ) (d : D) (ps : List (List ℕ)) (t : T) : Type 0 where
  pub good : (n : ℕ) → cause_from r k d ps n ≡ None
  pub held : r.whole (held_by r d ps) ≡ t

-- this is the least line of these pieces that has a cause, and this is the first cause that it has
pub record Refused {L D T C : Type 0} (r : Language L D T C) (k : ℕ) (d : D) (ps : List (List ℕ)) (line : ℕ) (c : C) : Type 0 where
  pub before : ℕ
  pub number : line ≡ before + k
  pub good : (n : ℕ) → n < before → cause_from r k d ps n ≡ None
  pub bad : cause_from r k d ps before ≡ Some c

module _ {L D T C : Type 0} (r : Language L D T C) where
  one_on : (k : ℕ) (d : D) (p : List ℕ) (ps : List (List ℕ)) (n : ℕ) → cause_from r k d (p ∷ ps) (suc n) ≡ cause_from r (k + 1) (with_said r d (r.line_of p)) ps n
  one_on k d p ps n =
      let m : suc n + k ≡ n + (k + 1) = omega arith in
      ap (λ (x : ℕ). first_cause r x (held_by r (with_said r d (r.line_of p)) (take n ps)) (drop n ps)) m

  at_first : (k : ℕ) (d : D) (ps : List (List ℕ)) → cause_from r k d ps 0 ≡ first_cause r k d ps
  at_first k d ps = let m : 0 + k ≡ k = omega arith in ap (λ (x : ℕ). first_cause r x d ps) m

  past : (k : ℕ) (d : D) (n : ℕ) → cause_from r k d [] n ≡ None
  past k d zero = refl
  past k d (suc n) = refl

  -- ---- what is read has no cause

  good_on : (k : ℕ) (d : D) (p : List ℕ) (ps : List (List ℕ)) (t : T) (o : Option C) → first_cause r k d (p ∷ ps) ≡ o
      → ((e : D) → read_from r (k + 1) e ps ≡ answer t → Whole r (k + 1) e ps t)
      → goes_on k o (with_said r d (r.line_of p)) (λ e. read_from r (k + 1) e ps) ≡ answer t → Whole r k d (p ∷ ps) t
  good_on k d p ps t (Some c) is go h = absurd (not_both k c t h)
  good_on k d p ps t None is go h =
      let w = go (with_said r d (r.line_of p)) h in record { good = all w.good; held = w.held }
    where
      all : ((n : ℕ) → cause_from r (k + 1) (with_said r d (r.line_of p)) ps n ≡ None) → (n : ℕ) → cause_from r k d (p ∷ ps) n ≡ None
      all good zero = at_first k d (p ∷ ps) ∙ is
      all good (suc n) = one_on k d p ps n ∙ good n

  whole_from : (k : ℕ) (d : D) (ps : List (List ℕ)) (t : T) → read_from r k d ps ≡ answer t → Whole r k d ps t
  unfolding read_from
  whole_from k d [] t h = record { good = past k d; held = same_answer (r.whole d) t h }
  whole_from k d (p ∷ ps) t h = good_on k d p ps t (first_cause r k d (p ∷ ps)) refl (λ e go. whole_from (k + 1) e ps t go) h

  read_whole : (k : ℕ) (d : D) (ps : List (List ℕ)) (t : T) → Whole r k d ps t → read_from r k d ps ≡ answer t
  unfolding read_from
  read_whole k d [] t w = ap answer w.held
  read_whole k d (p ∷ ps) t w =
      let first : first_cause r k d (p ∷ ps) ≡ None = sym (at_first k d (p ∷ ps)) ∙ w.good 0 in
      ap (λ o. goes_on k o (with_said r d (r.line_of p)) (λ e. read_from r (k + 1) e ps)) first
      ∙ read_whole (k + 1) (with_said r d (r.line_of p)) ps t (record { good = λ n. sym (one_on k d p ps n) ∙ w.good (suc n); held = w.held })

  -- ---- what is refused has a cause

  refused_on : (k : ℕ) (d : D) (p : List ℕ) (ps : List (List ℕ)) (line : ℕ) (c : C) (o : Option C) → first_cause r k d (p ∷ ps) ≡ o
      → ((e : D) → read_from r (k + 1) e ps ≡ failed line c → Refused r (k + 1) e ps line c)
      → goes_on k o (with_said r d (r.line_of p)) (λ e. read_from r (k + 1) e ps) ≡ failed line c → Refused r k d (p ∷ ps) line c
  refused_on k d p ps line c (Some a) is go h = record {
    before = 0;
    number = omega (arith, same_line {T = T} k line a c h);
    good = λ n lt. absurd (omega (arith, lt));
    bad = at_first k d (p ∷ ps) ∙ is ∙ ap (λ (x : C). Some x) (same_cause {T = T} k line a c h);
  }
  refused_on k d p ps line c None is go h =
      let f = go (with_said r d (r.line_of p)) h in
      record { before = suc f.before; number = omega (arith, f.number); good = earlier f.before f.good; bad = one_on k d p ps f.before ∙ f.bad }
    where
      earlier : (before : ℕ) → ((n : ℕ) → n < before → cause_from r (k + 1) (with_said r d (r.line_of p)) ps n ≡ None) → (n : ℕ) → n < suc before → cause_from r k d (p ∷ ps) n ≡ None
      earlier before good zero lt = at_first k d (p ∷ ps) ∙ is
      earlier before good (suc n) lt = one_on k d p ps n ∙ good n (omega (arith, lt))

  refused_from : (k : ℕ) (d : D) (ps : List (List ℕ)) (line : ℕ) (c : C) → read_from r k d ps ≡ failed line c → Refused r k d ps line c
  unfolding read_from
  refused_from k d [] line c h = absurd (not_both line c (r.whole d) (sym h))
  refused_from k d (p ∷ ps) line c h = refused_on k d p ps line c (first_cause r k d (p ∷ ps)) refl (λ e go. refused_from (k + 1) e ps line c go) h

  read_by : (k : ℕ) (d : D) (ps : List (List ℕ)) (line : ℕ) (c : C) (before : ℕ) → line ≡ before + k → ((n : ℕ) → n < before → cause_from r k d ps n ≡ None)
      → cause_from r k d ps before ≡ Some c → read_from r k d ps ≡ failed line c
  unfolding read_from
  read_by k d [] line c before number good bad = absurd (none-some c (sym (past k d before) ∙ bad))
  read_by k d (p ∷ ps) line c zero number good bad =
      let same : k ≡ line = omega (arith, number) in
      ap (λ o. goes_on k o (with_said r d (r.line_of p)) (λ e. read_from r (k + 1) e ps)) (sym (at_first k d (p ∷ ps)) ∙ bad) ∙ ap (λ (x : ℕ). failed x c) same
  read_by k d (p ∷ ps) line c (suc before) number good bad =
      ap (λ o. goes_on k o (with_said r d (r.line_of p)) (λ e. read_from r (k + 1) e ps)) (sym (at_first k d (p ∷ ps)) ∙ good 0 (omega arith))
      ∙ read_by (k + 1) (with_said r d (r.line_of p)) ps line c before (omega (arith, number))
      (λ n lt. sym (one_on k d p ps n) ∙ good (suc n) (omega (arith, lt))) (sym (one_on k d p ps before) ∙ bad)

  -- ---- the laws of a text

  pub reads_texts : (b : List ℕ) (t : T) → (read_text r b ≡ answer t) ↔ IsTextOf r b t
  reads_texts b t = (
    λ h. let w = whole_from 1 r.start (pieces b) t h in record { good = w.good; held = w.held },
    λ w. read_whole 1 r.start (pieces b) t (record { good = w.good; held = w.held }),
  )

  pub reads_refusals : (b : List ℕ) (line : ℕ) (c : C) → (read_text r b ≡ failed line c) ↔ IsRefusalOf r b line c
  reads_refusals b line c = (
    λ h. let f = refused_from 1 r.start (pieces b) line c h in record { before = f.before; number = f.number; good = f.good; bad = f.bad },
    λ f. read_by 1 r.start (pieces b) line c f.before f.number f.good f.bad,
  )
