-- The lines of a text that may be refused, one after the other, and lines in place of bytes.
use Rattle.std.proofs.Common.{◌≡◌, ◌+◌, ℕ, List, [], ◌∷◌, ◌++◌, Option, Some, None, Result, Ok, Err, refl, sym, ap, subst, ◌∙◌, append_assoc}
use Rattle.std.specs.List.{AllByRecursion, flat_map, join_with_byte}
use Rattle.std.specs.Result.{IsErrAnd}
use Rattle.std.proofs.lemmas.List.Splits.{join_with_byte-slice_split}
use Rattle.line_words.specs.Words.{pieces}
use Rattle.line_words.specs.Refusing.{Language, with_said}
use Rattle.line_words.specs.RefusedReading.{goes_on, line_read, read_from, read_text, run}
use Rattle.line_words.specs.Stops.{Reads, Stops}
use Rattle.line_words.specs.declared.reader.Stop.{Stop}
use Rattle.line_words.specs.declared.reader.Stop.TheVariants as stop
use Rattle.line_words.proofs.Splitting.{first_part}
use Rattle.line_words.proofs.Refusing.{answer, failed, not_both, same_answer, same_line, same_cause}

-- an error that is passed on stops reading
pub passed_on : {T C : Type 0} (a : Result T (Stop C)) (s : Stop C) (total : Result T (ℕ × C)) → IsErrAnd a (λ e. e ≡ s) → Stops s total → Reads a total
passed_on (Ok t) s total is h = absurd is
passed_on (Err e) s total is h = subst (λ x. Stops x total) (sym is) h

-- ---- a text that is read

module _ {L D T C : Type 0} (r : Language L D T C) (k : ℕ) (d : D) where
  -- a line that has a line feed
  a_line : (rest text more : List ℕ) → pieces rest ≡ text ∷ pieces more
      → read_from r k d (pieces rest) ≡ goes_on k (r.cause k d (r.line_of text)) (with_said r d (r.line_of text)) (λ e. read_from r (k + 1) e (pieces more))
  unfolding read_from
  a_line rest text more e = let p = first_part 10 more in rw (e, p.2) refl

  said : (rest text more : List ℕ) (o : Option L) → pieces rest ≡ text ∷ pieces more → r.line_of text ≡ o
      → read_from r k d (pieces rest) ≡ goes_on k (r.cause k d o) (with_said r d o) (λ e. read_from r (k + 1) e (pieces more))
  said rest text more o e is =
      a_line rest text more e ∙ ap (λ x. goes_on k (r.cause k d x) (with_said r d x) (λ e. read_from r (k + 1) e (pieces more))) is

  -- ---- a line that is taken, or stops reading

  went_on : (o : Option C) (m e : D) (f : D → Result T (ℕ × C)) → goes_on k o m (λ x. answer x) ≡ answer e → goes_on k o m f ≡ f e
  went_on None m e f h = ap f (same_answer m e h)
  went_on (Some c) m e f h = absurd (not_both k c e h)

  stopped_at : (o : Option C) (m : D) (f : D → Result T (ℕ × C)) (j : ℕ) (c : C) → goes_on k o m (λ x. answer x) ≡ failed j c → goes_on k o m f ≡ failed j c
  stopped_at None m f j c h = absurd (not_both j c m (sym h))
  stopped_at (Some a) m f j c h = ap (λ (n : ℕ). failed n a) (same_line {T = D} k j a c h) ∙ ap (λ (x : C). failed j x) (same_cause {T = D} k j a c h)

  pub held_line : (e : D) (rest text more : List ℕ) (total : Result T (ℕ × C)) → pieces rest ≡ text ∷ pieces more → line_read r k d text ≡ answer e
      → read_from r k d (pieces rest) ≡ total → read_from r (k + 1) e (pieces more) ≡ total
  held_line e rest text more total cut is h =
      sym (a_line rest text more cut ∙ went_on (r.cause k d (r.line_of text)) (with_said r d (r.line_of text)) e (λ x. read_from r (k + 1) x (pieces more)) is) ∙ h

  pub refused_line : (s : Stop C) (rest text more : List ℕ) (total : Result T (ℕ × C)) → pieces rest ≡ text ∷ pieces more → Stops s (line_read r k d text)
      → read_from r k d (pieces rest) ≡ total → Stops s total
  refused_line (stop.Bad j c) rest text more total cut is h =
      sym h ∙ a_line rest text more cut ∙ stopped_at (r.cause k d (r.line_of text)) (with_said r d (r.line_of text)) (λ x. read_from r (k + 1) x (pieces more)) j c is
  refused_line stop.Memory rest text more total cut is h = tt

  -- where the text may not stop
  pub stopped : (bytes : List ℕ) (c : C) → r.stop k d bytes ≡ Some c → read_from r k d (bytes ∷ []) ≡ failed k c
  unfolding read_from
  stopped bytes c bad = ap (λ x. goes_on k x (with_said r d (r.line_of bytes)) (λ e. read_from r (k + 1) e [])) bad

-- ---- lines that are run

-- a whole line is read again, and a line that is read is counted; a line without a form has a cause, and so has a stop that no line feed is before
pub record IsSpelled {L D T C : Type 0} (r : Language L D T C) (line_text : L → List ℕ) (Whole Counted : L → Type 0) : Type 0 where
  pub again : (l : L) (rest : List ℕ) → Whole l → (bytes : List ℕ) × (pieces (line_text l ++ rest) ≡ bytes ∷ pieces rest) × (r.line_of bytes ≡ Some l)
  pub taken : (bytes : List ℕ) (l : L) → r.line_of bytes ≡ Some l → (bytes ++ 10 ∷ [] ≡ line_text l) × Counted l
  pub empty : r.line_of [] ≡ None
  pub formless : (k : ℕ) (d : D) → r.cause k d None ≡ None → ⊥
  pub fed : (k : ℕ) (d : D) (rest : List ℕ) → r.stop k d rest ≡ None → rest ≡ []

module _ {L D T C : Type 0} {r : Language L D T C} {line_text : L → List ℕ} {Whole Counted : L → Type 0} (f : IsSpelled r line_text Whole Counted) where
  same_next : (k : ℕ) (o : Option C) (d : D) (x y : D → Result T (ℕ × C)) → ((e : D) → x e ≡ y e) → goes_on k o d x ≡ goes_on k o d y
  same_next k None d x y h = h d
  same_next k (Some c) d x y h = refl

  -- where the text may stop, no bytes are left, which say nothing
  pub ended : (k : ℕ) (d : D) (bytes : List ℕ) → r.stop k d bytes ≡ None → read_from r k d (bytes ∷ []) ≡ answer (r.whole d)
  unfolding read_from
  ended k d bytes good =
      ap (λ x. goes_on k x (with_said r d (r.line_of bytes)) (λ e. read_from r (k + 1) e [])) good ∙ ap (λ x. answer (r.whole (with_said r d x))) (ap r.line_of (f.fed k d bytes good) ∙ f.empty)

  -- the text of lines is read as they are run
  pub texts_run : (k : ℕ) (d : D) (ls : List L) → AllByRecursion Whole ls → read_from r k d (pieces (flat_map line_text ls)) ≡ run r k d ls
  unfolding read_from run
  texts_run k d [] whole = ap (λ x. goes_on k (r.stop k d []) (with_said r d x) (λ e. answer (r.whole e))) f.empty
  texts_run k d (l ∷ ls) whole =
      let rest = flat_map line_text ls in
      let a = f.again l rest whole.0 in
      said r k d (line_text l ++ rest) a.0 rest (Some l) a.1 a.2
      ∙ same_next k (r.cause k d (Some l)) (r.next d l) (λ e. read_from r (k + 1) e (pieces rest)) (λ e. run r (k + 1) e ls) (λ e. texts_run (k + 1) e ls whole.1)

  -- lines whose text these bytes are, and which run to this
  pub record Ran (k : ℕ) (d : D) (bytes : List ℕ) (t : T) : Type 0 where
    pub lines : List L
    pub text : bytes ≡ flat_map line_text lines
    pub runs : run r k d lines ≡ answer t
    pub counted : AllByRecursion Counted lines

  ran_line : (k : ℕ) (d : D) (p rest : List ℕ) (t : T) (o : Option L) (x : Option C) (read : D → Result T (ℕ × C)) → r.line_of p ≡ o → r.cause k d o ≡ x → ((e : D) → read e ≡ answer t → Ran (k + 1) e rest t)
      → goes_on k x (with_said r d o) read ≡ answer t → Ran k d (p ++ 10 ∷ rest) t
  unfolding run
  ran_line k d p rest t o (Some c) read is bad go h = absurd (not_both k c t h)
  ran_line k d p rest t None None read is good go h = absurd (f.formless k d good)
  ran_line k d p rest t (Some l) None read is good go h =
      let later = go (r.next d l) h in
      let taken = f.taken p l is in
      record {
        lines = l ∷ later.lines;
        text = sym (append_assoc p (10 ∷ []) rest) ∙ ap (λ x. x ++ rest) taken.0 ∙ ap (λ x. line_text l ++ x) later.text;
        runs = ap (λ x. goes_on k x (r.next d l) (λ e. run r (k + 1) e later.lines)) good ∙ later.runs;
        counted = (taken.1, later.counted);
      }

  ran_end : (k : ℕ) (d : D) (p : List ℕ) (t : T) (x : Option C) → r.stop k d p ≡ x → goes_on k x (with_said r d (r.line_of p)) (λ e. answer (r.whole e)) ≡ answer t → Ran k d p t
  unfolding run
  ran_end k d p t (Some c) is h = absurd (not_both k c t h)
  ran_end k d p t None is h =
      let none = f.fed k d p is in
      let says : r.line_of p ≡ None = ap r.line_of none ∙ f.empty in
      let held : answer (r.whole d) ≡ answer t = ap (λ x. answer (r.whole (with_said r d x))) (sym says) ∙ h in
      record { lines = []; text = none; runs = ap (λ x. goes_on k x d (λ e. answer (r.whole e))) (ap (r.stop k d) (sym none) ∙ is) ∙ held; counted = tt }

  ran : (k : ℕ) (d : D) (p : List ℕ) (ps : List (List ℕ)) (t : T) → read_from r k d (p ∷ ps) ≡ answer t → Ran k d (join_with_byte 10 (p ∷ ps)) t
  unfolding read_from
  ran k d p [] t h = ran_end k d p t (r.stop k d p) refl h
  ran k d p (q ∷ ps) t h = ran_line k d p (join_with_byte 10 (q ∷ ps)) t (r.line_of p) (r.cause k d (r.line_of p)) (λ e. read_from r (k + 1) e (q ∷ ps)) refl refl (λ e go. ran (k + 1) e q ps t go) h

  -- a text that is read is the text of lines that run
  pub texts_ran : (b : List ℕ) (t : T) → read_text r b ≡ answer t → Ran 1 r.start b t
  texts_ran b t h =
      let p = first_part 10 b in
      let bytes : join_with_byte 10 (p.0 ∷ p.1) ≡ b = ap (join_with_byte 10) (sym p.2) ∙ join_with_byte-slice_split 10 b in
      subst (λ x. Ran 1 r.start x t) bytes (ran 1 r.start p.0 p.1 t (ap (read_from r 1 r.start) (sym p.2) ∙ h))
