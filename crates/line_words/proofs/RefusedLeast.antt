-- The line at which a text is refused is the least bad one, where some text goes on from all lines before it.
use Rattle.std.proofs.Common.{◌≡◌, ◌<◌, ◌+◌, ◌-◌, ℕ, suc, List, [], ◌∷◌, ◌++◌, length, take, Option, Some, None, refl, sym, ap, subst, ◌∙◌, arith, append_assoc, length-append}
use Rattle.std.specs.List.{flat_map}
use Rattle.std.proofs.Math.Seq.{take-append_seam, take-append-add}
use Rattle.line_words.specs.Words.{pieces}
use Rattle.line_words.specs.LeastBad.{Begins, IsLeastBad, first_lines}
use Rattle.line_words.specs.Refusing.{Language, with_said, IsTextOf}
use Rattle.line_words.specs.RefusedReading.{goes_on, read_from, read_text}
use Rattle.line_words.proofs.Splitting.{first_part}
use Rattle.line_words.proofs.Joining.{AllFree, parts_free, line_first}
use Rattle.line_words.proofs.Refusing.{failed, not_both, same_line, reads_texts}

-- lines with their line feeds
abbrev pub fed : List (List ℕ) → List ℕ
fed ps = flat_map (λ p. p ++ 10 ∷ []) ps

fed_pieces : (ps : List (List ℕ)) (rest : List ℕ) → AllFree 10 ps → pieces (fed ps ++ rest) ≡ ps ++ pieces rest
fed_pieces [] rest free = refl
fed_pieces (p ∷ ps) rest free =
    ap pieces (append_assoc (p ++ 10 ∷ []) (fed ps) rest ∙ append_assoc p (10 ∷ []) (fed ps ++ rest)) ∙ line_first p (fed ps ++ rest) free.0 ∙ ap (λ l. p ∷ l) (fed_pieces ps rest free.1)

free_front : (xs ys : List (List ℕ)) → AllFree 10 (xs ++ ys) → AllFree 10 xs
free_front [] ys h = tt
free_front (x ∷ xs) ys h = (h.0, free_front xs ys h.1)

-- these lines from line k on have no cause, and lead from one draft to another
abbrev pub Reaches : {L D T C : Type 0} → Language L D T C → ℕ → D → List (List ℕ) → D → Type 0
Reaches r k d [] e = d ≡ e
Reaches r k d (p ∷ ps) e = (r.cause k d (r.line_of p) ≡ None) × Reaches r (k + 1) (with_said r d (r.line_of p)) ps e

module _ {L D T C : Type 0} (r : Language L D T C) where
  -- reading stops at line j of these pieces, the first of which is line k
  record Stops (d : D) (ps : List (List ℕ)) (k j : ℕ) : Type 0 where
    pub before : List (List ℕ)
    pub at : List ℕ
    pub after : List (List ℕ)
    pub draft : D
    pub cut : ps ≡ before ++ at ∷ after
    pub reaches : Reaches r k d before draft
    pub line : j ≡ k + length before
    pub bad : 0 < length after → (c : C) × (r.cause j draft (r.line_of at) ≡ Some c)

  stops_here : (d : D) (p : List ℕ) (ps : List (List ℕ)) (k j : ℕ) → j ≡ k → (0 < length ps → (c : C) × (r.cause j d (r.line_of p) ≡ Some c)) → Stops d (p ∷ ps) k j
  stops_here d p ps k j same bad = record { before = []; at = p; after = ps; draft = d; cut = refl; reaches = refl; line = omega (arith, same); bad = bad }

  stops_last : (d : D) (p : List ℕ) (k j : ℕ) (c : C) (o : Option C) → goes_on k o (with_said r d (r.line_of p)) (λ e. read_from r (k + 1) e []) ≡ failed j c → j ≡ k
  unfolding read_from
  stops_last d p k j c None e = absurd (not_both j c (r.whole (with_said r d (r.line_of p))) (sym e))
  stops_last d p k j c (Some a) e = sym (same_line {T = T} k j a c e)

  stops_next : (d : D) (p q : List ℕ) (ps : List (List ℕ)) (k j : ℕ) (c : C) (o : Option C) → r.cause k d (r.line_of p) ≡ o
      → ((m : D) → read_from r (k + 1) m (q ∷ ps) ≡ failed j c → Stops m (q ∷ ps) (k + 1) j)
      → goes_on k o (with_said r d (r.line_of p)) (λ m. read_from r (k + 1) m (q ∷ ps)) ≡ failed j c → Stops d (p ∷ q ∷ ps) k j
  stops_next d p q ps k j c (Some a) is later e =
      let same : k ≡ j = same_line {T = T} k j a c e in
      stops_here d p (q ∷ ps) k j (sym same) (λ some. (a, ap (λ (x : ℕ). r.cause x d (r.line_of p)) (sym same) ∙ is))
  stops_next d p q ps k j c None is later e =
      let s = later (with_said r d (r.line_of p)) e in
      record {
        before = p ∷ s.before;
        at = s.at;
        after = s.after;
        draft = s.draft;
        cut = ap (λ l. p ∷ l) s.cut;
        reaches = (is, s.reaches);
        line = omega (arith, s.line);
        bad = s.bad;
      }

  stops : (ps : List (List ℕ)) (p : List ℕ) (d : D) (k j : ℕ) (c : C) → read_from r k d (p ∷ ps) ≡ failed j c → Stops d (p ∷ ps) k j
  unfolding read_from
  stops [] p d k j c e = stops_here d p [] k j (stops_last d p k j c (r.stop k d p) e) (λ some. absurd (omega (arith, some)))
  stops (q ∷ ps) p d k j c e = stops_next d p q ps k j c (r.cause k d (r.line_of p)) refl (λ m g. stops ps q m (k + 1) j c g) e

  -- the same lines, with others behind them
  read_on : (xs : List (List ℕ)) (p q : List ℕ) (ps : List (List ℕ)) (k : ℕ) (d e : D) → Reaches r k d xs e → read_from r k d (xs ++ p ∷ q ∷ ps) ≡ read_from r (k + length xs) e (p ∷ q ∷ ps)
  unfolding read_from
  read_on [] p q ps k d e reach = let same : k ≡ k + 0 = omega arith in ap (λ x. read_from r k x (p ∷ q ∷ ps)) reach ∙ ap (λ n. read_from r n e (p ∷ q ∷ ps)) same
  read_on (x ∷ []) p q ps k d e reach =
      ap (λ o. goes_on k o (with_said r d (r.line_of x)) (λ m. read_from r (k + 1) m (p ∷ q ∷ ps))) reach.0 ∙ ap (λ m. read_from r (k + 1) m (p ∷ q ∷ ps)) reach.1
  read_on (x ∷ y ∷ xs) p q ps k d e reach =
      let same : (k + 1) + length (y ∷ xs) ≡ k + length (x ∷ y ∷ xs) = omega arith in
      ap (λ o. goes_on k o (with_said r d (r.line_of x)) (λ m. read_from r (k + 1) m (y ∷ xs ++ p ∷ q ∷ ps))) reach.0
      ∙ read_on (y ∷ xs) p q ps (k + 1) (with_said r d (r.line_of x)) e reach.1 ∙ ap (λ n. read_from r n e (p ∷ q ∷ ps)) same

  -- ---- the least bad line, where some text goes on from the lines that lead to a draft

  module _ (begins : (ps : List (List ℕ)) (d : D) → Reaches r 1 r.start ps d → Begins (IsTextOf r) (fed ps)) where
    least_before : (b : List ℕ) (j : ℕ) → Stops r.start (pieces b) 1 j → Begins (IsTextOf r) (first_lines (j - 1) b)
    least_before b j s =
        let count : j - 1 ≡ length s.before = omega (arith, s.line) in
        let firsts : take (j - 1) (pieces b) ≡ s.before = ap (take (j - 1)) s.cut ∙ ap (λ n. take n (s.before ++ s.at ∷ s.after)) count ∙ take-append_seam s.before (s.at ∷ s.after) in
        subst (Begins (IsTextOf r)) (sym (ap fed firsts)) (begins s.before s.draft s.reaches)

    least_at : (b : List ℕ) (j : ℕ) → Stops r.start (pieces b) 1 j → j < length (pieces b) → Begins (IsTextOf r) (first_lines j b) → ⊥
    unfolding read_from
    least_at b j s lt g =
        let more = g.1 in
        let some : 0 < length s.after = omega (arith, lt, s.line, ap length s.cut, length-append s.before (s.at ∷ s.after)) in
        let bad = s.bad some in
        let xs = s.before ++ s.at ∷ [] in
        let count : j ≡ length s.before + 1 = omega (arith, s.line) in
        let firsts : take j (pieces b) ≡ xs = ap (take j) s.cut ∙ ap (λ n. take n (s.before ++ s.at ∷ s.after)) count ∙ take-append-add s.before (s.at ∷ s.after) 1 in
        let whole : s.before ++ s.at ∷ s.after ≡ xs ++ s.after = sym (append_assoc s.before (s.at ∷ []) s.after) in
        let free : AllFree 10 xs = free_front xs s.after (subst (AllFree 10) (s.cut ∙ whole) (parts_free 10 b)) in
        let m = first_part 10 more in
        let cut : pieces (first_lines j b ++ more) ≡ s.before ++ s.at ∷ m.0 ∷ m.1 =
        ap (λ l. pieces (fed l ++ more)) firsts ∙ fed_pieces xs more free ∙ ap (λ l. xs ++ l) m.2 ∙ append_assoc s.before (s.at ∷ []) (m.0 ∷ m.1) in
        let stop : read_text r (first_lines j b ++ more) ≡ failed j bad.0 =
        ap (read_from r 1 r.start) cut ∙ read_on s.before s.at m.0 m.1 1 r.start s.draft s.reaches ∙ ap (λ (n : ℕ). read_from r n s.draft (s.at ∷ m.0 ∷ m.1)) (sym s.line)
        ∙ ap (λ x. goes_on j x (with_said r s.draft (r.line_of s.at)) (λ e. read_from r (j + 1) e (m.0 ∷ m.1))) bad.1 in
        not_both j bad.0 g.0 (sym stop ∙ (reads_texts r (first_lines j b ++ more) g.0).1 g.2)

    pub least_bad : (b : List ℕ) (j : ℕ) (c : C) → read_text r b ≡ failed j c → IsLeastBad (IsTextOf r) b j
    least_bad b j c h =
        let p = first_part 10 b in
        let s : Stops r.start (pieces b) 1 j =
        subst (λ ps. Stops r.start ps 1 j) (sym p.2) (stops p.1 p.0 r.start 1 j c (sym (ap (read_from r 1 r.start) p.2) ∙ h)) in
        let all : length (pieces b) ≡ length s.before + suc (length s.after) = ap length s.cut ∙ length-append s.before (s.at ∷ s.after) in
        record {
          counted = omega (arith, s.line);
          within = omega (arith, s.line, all);
          before = least_before b j s;
          at = least_at b j s;
          whole = λ t is. not_both j c t (sym h ∙ (reads_texts r b t).1 is);
        }
