-- What is read line by line is what the text is the text of, or the text's least bad line.
use Rattle.std.proofs.Common.{◌≡◌, ◌+◌, ◌-◌, ◌<◌, ◌≤◌, ℕ, suc, true, false, eqb, List, [], ◌∷◌, ◌++◌, map, length, take, Option, Some, None, Result, Ok, Err, refl, sym, ap, subst, ◌∙◌, inl, inr, arith, append_assoc}
use Rattle.std.specs.Prelude.{◌&&◌}
use Rattle.std.specs.List.{join_with_byte, flat_map, AllByRecursion}
use Rattle.std.specs.Option.{option_and_then}
use Rattle.std.proofs.lemmas.Bool.{cases_Bool, and_parts, eqb-true}
use Rattle.std.proofs.lemmas.Option.{same_Some, none-some}
use Rattle.std.proofs.lemmas.List.{append-nil, map-append, length-append, length-map, nil_from_length}
use Rattle.std.proofs.lemmas.List.Concat.{flat_map-append}
use Rattle.std.proofs.lemmas.List.Splits.{join_with_byte-slice_split}
use Rattle.std.proofs.Math.Seq.{take-append_seam, take-append-add}
use Rattle.loop_model.proofs.Sorting.{AllByRecursion-append}
use Rattle.line_words.specs.Words.{pieces}
use Rattle.line_words.specs.LeastBad.{Begins, first_lines, IsLeastBad}
use Rattle.line_words.specs.LineReading.{Reading, next_line, goes_on_plain, read_plain_from, read_plain, plain, refused, taken_or}
use Rattle.line_words.specs.Refusing.{with_said}
use Rattle.line_words.specs.RefusedReading as refusing
use Rattle.line_words.proofs.Splitting.{first_part}
use Rattle.line_words.proofs.Joining.{is_free, AllFree, parts_free, line_first}
use Rattle.line_words.proofs.Pieces.{failed}
use Rattle.line_words.proofs.Refusing.{answer, same_answer, same_line, failed as refused_at, not_both as refused_not}

-- ---- lines one after the other

module _ {L D T : Type 0} (r : Reading L D T) where
  -- the draft behind these lines
  unfoldable pub run : D → List L → Option D
  run d [] = Some d
  run d (l ∷ ls) = option_and_then (λ e. run e ls) (r.next d l)

  pub both_then : (o : Option D) (f g : D → Option D) (m e : D) → ((x : D) → f x ≡ Some m → g x ≡ Some e) → option_and_then f o ≡ Some m → option_and_then g o ≡ Some e
  both_then None f g m e each h = absurd (none-some m h)
  both_then (Some x) f g m e each h = each x h

  pub run_on : (d m e : D) (xs ys : List L) → run d xs ≡ Some m → run m ys ≡ Some e → run d (xs ++ ys) ≡ Some e
  unfolding run
  run_on d m e [] ys h g = ap (λ x. run x ys) (same_Some d m h) ∙ g
  run_on d m e (l ∷ xs) ys h g = both_then (r.next d l) (λ x. run x xs) (λ x. run x (xs ++ ys)) m e (λ x ran. run_on x m e xs ys ran g) h

  pub run_one : (d e : D) (l : L) → r.next d l ≡ Some e → run d (l ∷ []) ≡ Some e
  unfolding run
  run_one d e l h = ap (option_and_then (λ x. run x [])) h

-- some value has these lines and more
abbrev pub Continues : {L T : Type 0} → (L → Type 0) → (T → List L) → List L → Type 0
Continues {L} {T} Fits lines ls = (t : T) × (more : List L) × (ls ++ more ≡ lines t) × AllByRecursion Fits more

-- lines are read as they are written, each value's lines lead to it, and after each lines that are taken a draft stands so that
-- some value's lines go on from there
pub record IsForm {L D T : Type 0} (r : Reading L D T) (bytes_of line_text : L → List ℕ) (lines : T → List L) (Fits : L → Type 0) (Stands : D → List L → Type 0) : Type 0 where
  -- a line is its bytes and a line feed, which is not among them
  pub fed : (l : L) → line_text l ≡ bytes_of l ++ 10 ∷ []
  pub free : (l : L) → Fits l → is_free 10 (bytes_of l) ≡ true
  pub again : (l : L) → Fits l → r.line_of (bytes_of l) ≡ Some l
  pub taken : (bytes : List ℕ) (l : L) → r.line_of bytes ≡ Some l → Fits l × (bytes ≡ bytes_of l)
  pub empty : r.line_of [] ≡ None
  pub leads : (t : T) → (d : D) × (run r r.start (lines t) ≡ Some d) × (r.is_end d ≡ true) × (r.whole d ≡ t)
  pub starts : Stands r.start []
  pub more : (d e : D) (l : L) (ls : List L) → Stands d ls → r.next d l ≡ Some e → Stands e (ls ++ l ∷ [])
  pub ends : (d : D) (ls : List L) → Stands d ls → r.is_end d ≡ true → ls ≡ lines (r.whole d)
  pub continues : (d : D) (ls : List L) → Stands d ls → Continues Fits lines ls

-- b is the text of t, whose lines fit
abbrev pub IsTextBy : {L T : Type 0} → (L → List ℕ) → (T → List L) → (L → Type 0) → List ℕ → T → Type 0
IsTextBy line_text lines Fits b t = (b ≡ flat_map line_text (lines t)) × AllByRecursion Fits (lines t)

-- what is read, and without a cause where it is refused
abbrev plainly : {T : Type 0} → Result T ℕ → Result T (ℕ × Unit {0})
plainly (Ok t) = Ok t
plainly (Err k) = Err (k, tt)

abbrev fed_pieces : List (List ℕ) → List ℕ
fed_pieces ps = flat_map (λ p. p ++ 10 ∷ []) ps

free_at : (c : ℕ) (xs : List (List ℕ)) (p : List ℕ) (ps : List (List ℕ)) → AllFree c (xs ++ p ∷ ps) → is_free c p ≡ true
free_at c [] p ps h = h.0
free_at c (x ∷ xs) p ps h = free_at c xs p ps h.1

module _ {T : Type 0} where
  value_or : T → Result T ℕ → T
  value_or d (Ok t) = t
  value_or d (Err k) = d

  pub same_value : (s t : T) (x : Result T ℕ) → x ≡ Ok s → x ≡ Ok t → s ≡ t
  unfolding value_or
  same_value s t x e f = sym (ap (value_or s) e) ∙ ap (value_or s) f

  pub not_both : (t : T) (k : ℕ) → failed k ≡ Ok t → ⊥
  not_both t k e = absurd cc

module _ {L D T : Type 0} {r : Reading L D T} {bytes_of line_text : L → List ℕ} {lines : T → List L} {Fits : L → Type 0} {Stands : D → List L → Type 0}
    (f : IsForm r bytes_of line_text lines Fits Stands) where
  abbrev AllFits : List L → Type 0
  AllFits ls = AllByRecursion Fits ls

  abbrev IsText : List ℕ → T → Type 0
  IsText = IsTextBy line_text lines Fits

  -- ---- lines and pieces

  pieces_first : (l : L) (rest : List ℕ) → Fits l → pieces (line_text l ++ rest) ≡ bytes_of l ∷ pieces rest
  pieces_first l rest fit =
      ap (λ t. pieces (t ++ rest)) (f.fed l) ∙ ap pieces (append_assoc (bytes_of l) (10 ∷ []) rest) ∙ line_first (bytes_of l) rest (f.free l fit)

  all_pieces : (ls : List L) (rest : List ℕ) → AllFits ls → pieces (flat_map line_text ls ++ rest) ≡ map bytes_of ls ++ pieces rest
  all_pieces [] rest fit = refl
  all_pieces (l ∷ ls) rest fit =
      ap pieces (append_assoc (line_text l) (flat_map line_text ls) rest) ∙ pieces_first l (flat_map line_text ls ++ rest) fit.0 ∙ ap (λ ps. bytes_of l ∷ ps) (all_pieces ls rest fit.1)

  one_more : (k : ℕ) (d : D) (x p : List ℕ) (xs ps : List (List ℕ)) → xs ≡ p ∷ ps → read_plain_from r k d (x ∷ xs) ≡ goes_on_plain k (next_line r d x) (λ e. read_plain_from r (k + 1) e xs)
  unfolding read_plain_from
  one_more k d x p xs ps e = rw e refl

  front_cons : (ls : List L) (p : List ℕ) (ps : List (List ℕ)) → (q : List ℕ) × (qs : List (List ℕ)) × (map bytes_of ls ++ p ∷ ps ≡ q ∷ qs)
  front_cons [] p ps = (p, ps, refl)
  front_cons (l ∷ ls) p ps = (bytes_of l, map bytes_of ls ++ p ∷ ps, refl)

  line_next : (d : D) (l : L) → Fits l → next_line r d (bytes_of l) ≡ r.next d l
  line_next d l fit = ap (option_and_then (r.next d)) (f.again l fit)

  then_goes : (k : ℕ) (o : Option D) (g : D → Option D) (h : D → Result T ℕ) (e : D) (total : Result T ℕ) → ((x : D) → g x ≡ Some e → h x ≡ total) → option_and_then g o ≡ Some e → goes_on_plain k o h ≡ total
  then_goes k None g h e total each is = absurd (none-some e is)
  then_goes k (Some x) g h e total each is = each x is

  front_read : (k : ℕ) (d e : D) (ls : List L) (p : List ℕ) (ps : List (List ℕ)) → AllFits ls → run r d ls ≡ Some e → read_plain_from r k d (map bytes_of ls ++ p ∷ ps) ≡ read_plain_from r (k + length ls) e (p ∷ ps)
  unfolding run
  front_read k d e [] p ps fit h = let same : k + 0 ≡ k = omega arith in ap (λ x. read_plain_from r k x (p ∷ ps)) (same_Some d e h) ∙ ap (λ n. read_plain_from r n e (p ∷ ps)) (sym same)
  front_read k d e (l ∷ ls) p ps fit h =
      let c = front_cons ls p ps in
      let same : k + 1 + length ls ≡ k + suc (length ls) = omega arith in
      one_more k d (bytes_of l) c.0 (map bytes_of ls ++ p ∷ ps) c.1 c.2 ∙ ap (λ o. goes_on_plain k o (λ x. read_plain_from r (k + 1) x (map bytes_of ls ++ p ∷ ps))) (line_next d l fit.0)
      ∙ then_goes k (r.next d l) (λ x. run r x ls) (λ x. read_plain_from r (k + 1) x (map bytes_of ls ++ p ∷ ps)) e (read_plain_from r (k + suc (length ls)) e (p ∷ ps))
      (λ x ran. front_read (k + 1) x e ls p ps fit.1 ran ∙ ap (λ n. read_plain_from r n e (p ∷ ps)) same) h

  last_read : (k : ℕ) (d : D) → r.is_end d ≡ true → read_plain_from r k d ([] ∷ []) ≡ Ok (r.whole d)
  unfolding read_plain_from
  last_read k d is = rw is refl

  -- the text of a value is read as the value
  pub text_again : (b : List ℕ) (t : T) → IsText b t → read_plain r b ≡ Ok t
  text_again b t is =
      let cut : pieces b ≡ map bytes_of (lines t) ++ [] ∷ [] = ap pieces is.0 ∙ ap pieces (sym (append-nil (flat_map line_text (lines t)))) ∙ all_pieces (lines t) [] is.1 in
      let l = f.leads t in
      ap (read_plain_from r 1 r.start) cut ∙ front_read 1 r.start l.0 (lines t) [] [] is.1 l.1 ∙ last_read (1 + length (lines t)) l.0 l.2 ∙ ap (λ (x : T). Ok x) l.3

  -- ---- what is read, and where it goes wrong

  lines_fed : (ls : List L) → fed_pieces (map bytes_of ls) ≡ flat_map line_text ls
  lines_fed [] = refl
  lines_fed (l ∷ ls) = ap (λ x. (bytes_of l ++ 10 ∷ []) ++ x) (lines_fed ls) ∙ ap (λ x. x ++ flat_map line_text ls) (sym (f.fed l))

  joined_lines : (ls : List L) (rest : List ℕ) → join_with_byte 10 (map bytes_of ls ++ rest ∷ []) ≡ flat_map line_text ls ++ rest
  joined_lines [] rest = refl
  joined_lines (l ∷ []) rest = sym (append_assoc (bytes_of l) (10 ∷ []) rest) ∙ ap (λ x. x ++ rest) (sym (f.fed l) ∙ sym (append-nil (line_text l)))
  joined_lines (l ∷ m ∷ ls) rest =
      ap (λ x. bytes_of l ++ 10 ∷ x) (joined_lines (m ∷ ls) rest) ∙ sym (append_assoc (bytes_of l) (10 ∷ []) (flat_map line_text (m ∷ ls) ++ rest)) ∙ ap (λ x. x ++ (flat_map line_text (m ∷ ls) ++ rest)) (sym (f.fed l))
      ∙ sym (append_assoc (line_text l) (flat_map line_text (m ∷ ls)) rest)

  -- the text of some value begins with the lines of a draft
  stands_begin : (d : D) (ls : List L) → Stands d ls → AllFits ls → Begins IsText (flat_map line_text ls)
  stands_begin d ls s fit =
      let c = f.continues d ls s in
      (c.0, flat_map line_text c.1, (sym (flat_map-append line_text ls c.1) ∙ ap (flat_map line_text) c.2, subst AllFits c.2 (AllByRecursion-append Fits ls c.1 fit c.3)))

  -- the least bad line, but that the text is that of no value
  record IsBad (b : List ℕ) (k : ℕ) : Type 0 where
    pub counted : 0 < k
    pub within : k ≤ length (pieces b)
    pub before : Begins IsText (first_lines (k - 1) b)
    pub at : k < length (pieces b) → Begins IsText (first_lines k b) → ⊥

  abbrev Tells : List ℕ → Result T ℕ → Type 0
  Tells b (Ok t) = IsText b t
  Tells b (Err k) = IsBad b k

  -- so far the lines of the text are those of a draft
  record Reached (b : List ℕ) (d : D) (ls : List L) (p : List ℕ) (ps : List (List ℕ)) (k : ℕ) : Type 0 where
    pub stands : Stands d ls
    pub fit : AllFits ls
    pub ran : run r r.start ls ≡ Some d
    pub cut : pieces b ≡ map bytes_of ls ++ p ∷ ps
    pub line : k ≡ length ls + 1

  reached_within : (b : List ℕ) (d : D) (ls : List L) (p : List ℕ) (ps : List (List ℕ)) (k : ℕ) → Reached b d ls p ps k → length (pieces b) ≡ k + length ps
  reached_within b d ls p ps k h = omega (arith, h.line, ap length h.cut, length-append (map bytes_of ls) (p ∷ ps), length-map ls bytes_of)

  reached_before : (b : List ℕ) (d : D) (ls : List L) (p : List ℕ) (ps : List (List ℕ)) (k : ℕ) → Reached b d ls p ps k → Begins IsText (first_lines (k - 1) b)
  reached_before b d ls p ps k h =
      let count : k - 1 ≡ length (map bytes_of ls) = omega (arith, h.line, length-map ls bytes_of) in
      let firsts : take (k - 1) (pieces b) ≡ map bytes_of ls = ap (take (k - 1)) h.cut ∙ ap (λ n. take n (map bytes_of ls ++ p ∷ ps)) count ∙ take-append_seam (map bytes_of ls) (p ∷ ps) in
      subst (Begins IsText) (sym (ap fed_pieces firsts ∙ lines_fed ls)) (stands_begin d ls h.stands h.fit)

  reached_at : (b : List ℕ) (d : D) (ls : List L) (p : List ℕ) (ps : List (List ℕ)) (k : ℕ) → Reached b d ls p ps k → next_line r d p ≡ None → Begins IsText (first_lines k b) → ⊥
  reached_at b d ls p ps k h none g =
      let t = g.0 in
      let more = g.1 in
      let count : k ≡ length (map bytes_of ls) + 1 = omega (arith, h.line, length-map ls bytes_of) in
      let firsts : take k (pieces b) ≡ map bytes_of ls ++ p ∷ [] = ap (take k) h.cut ∙ ap (λ n. take n (map bytes_of ls ++ p ∷ ps)) count ∙ take-append-add (map bytes_of ls) (p ∷ ps) 1 in
      let fed_are : first_lines k b ≡ flat_map line_text ls ++ (p ++ 10 ∷ []) =
      ap fed_pieces firsts ∙ flat_map-append (λ x. x ++ 10 ∷ []) (map bytes_of ls) (p ∷ []) ∙ ap (λ x. x ++ ((p ++ 10 ∷ []) ++ [])) (lines_fed ls) ∙ ap (λ x. flat_map line_text ls ++ x) (append-nil (p ++ 10 ∷ [])) in
      let whole : first_lines k b ++ more ≡ flat_map line_text ls ++ (p ++ 10 ∷ more) =
      ap (λ x. x ++ more) fed_are ∙ append_assoc (flat_map line_text ls) (p ++ 10 ∷ []) more ∙ ap (λ x. flat_map line_text ls ++ x) (append_assoc p (10 ∷ []) more) in
      let free : is_free 10 p ≡ true = free_at 10 (map bytes_of ls) p ps (subst (AllFree 10) h.cut (parts_free 10 b)) in
      let m = first_part 10 more in
      let cut : pieces (first_lines k b ++ more) ≡ map bytes_of ls ++ p ∷ m.0 ∷ m.1 =
      ap pieces whole ∙ all_pieces ls (p ++ 10 ∷ more) h.fit ∙ ap (λ x. map bytes_of ls ++ x) (line_first p more free) ∙ ap (λ x. map bytes_of ls ++ p ∷ x) m.2 in
      let stops : read_plain r (first_lines k b ++ more) ≡ failed (1 + length ls) =
      ap (read_plain_from r 1 r.start) cut ∙ front_read 1 r.start d ls p (m.0 ∷ m.1) h.fit h.ran ∙ one_more (1 + length ls) d p m.0 (m.0 ∷ m.1) m.1 refl
      ∙ ap (λ o. goes_on_plain (1 + length ls) o (λ e. read_plain_from r (1 + length ls + 1) e (m.0 ∷ m.1))) none in
      not_both t (1 + length ls) (sym stops ∙ text_again (first_lines k b ++ more) t g.2)

  is_bad : (b : List ℕ) (d : D) (ls : List L) (p : List ℕ) (ps : List (List ℕ)) (k : ℕ) → Reached b d ls p ps k → (k < length (pieces b) → next_line r d p ≡ None) → IsBad b k
  is_bad b d ls p ps k h none =
      let all = reached_within b d ls p ps k h in
      record {
        counted = omega (arith, h.line);
        within = omega (arith, all);
        before = reached_before b d ls p ps k h;
        at = λ lt. reached_at b d ls p ps k h (none lt);
      }

  -- the last piece is empty behind a whole text
  last_tells : (b : List ℕ) (d : D) (ls : List L) (p : List ℕ) (k : ℕ) → Reached b d ls p [] k → Tells b (read_plain_from r k d (p ∷ []))
  unfolding read_plain_from
  last_tells b d ls p k h =
      elim (cases_Bool (eqb (length p) 0 && r.is_end d)) [
        | inl ends ↦
            let a = and_parts (eqb (length p) 0) (r.is_end d) ends in
            let none = nil_from_length p (eqb-true (length p) 0 a.0) in
            let bytes : b ≡ flat_map line_text ls = sym (join_with_byte-slice_split 10 b) ∙ ap (join_with_byte 10) h.cut ∙ joined_lines ls p ∙ ap (λ x. flat_map line_text ls ++ x) none ∙ append-nil (flat_map line_text ls) in
            let written : ls ≡ lines (r.whole d) = f.ends d ls h.stands a.1 in
            rw ends (bytes ∙ ap (flat_map line_text) written, subst AllFits written h.fit)
        | inr other ↦
            let all = reached_within b d ls p [] k h in
            rw other (is_bad b d ls p [] k h (λ lt. absurd (omega (arith, all, lt))))
      ]

  -- a line that may come next is the line of these bytes
  next_taken : (d e : D) (bytes : List ℕ) (o : Option L) → r.line_of bytes ≡ o → option_and_then (r.next d) o ≡ Some e → (l : L) × Fits l × (bytes ≡ bytes_of l) × (r.next d l ≡ Some e)
  next_taken d e bytes None is h = absurd (none-some e h)
  next_taken d e bytes (Some l) is h = let t = f.taken bytes l is in (l, t.0, t.1, h)

  by_next : (b : List ℕ) (k : ℕ) (o : Option D) (g : D → Result T ℕ) → (o ≡ None → IsBad b k) → ((e : D) → o ≡ Some e → Tells b (g e)) → Tells b (goes_on_plain k o g)
  by_next b k None g bad good = bad refl
  by_next b k (Some e) g bad good = good e refl

  tells : (b : List ℕ) (d : D) (ls : List L) (p : List ℕ) (ps : List (List ℕ)) (k : ℕ) → Reached b d ls p ps k → Tells b (read_plain_from r k d (p ∷ ps))
  tells b d ls p [] k h = last_tells b d ls p k h
  tells b d ls p (q ∷ ps) k h =
      subst (Tells b) (sym (one_more k d p q (q ∷ ps) ps refl)) (by_next b k (next_line r d p) (λ e. read_plain_from r (k + 1) e (q ∷ ps)) (λ is. is_bad b d ls p (q ∷ ps) k h (λ lt. is)) (λ e is.
      let t = next_taken d e p (r.line_of p) refl is in
      let cut : pieces b ≡ map bytes_of (ls ++ t.0 ∷ []) ++ q ∷ ps =
      h.cut ∙ ap (λ x. map bytes_of ls ++ x ∷ q ∷ ps) t.2 ∙ sym (append_assoc (map bytes_of ls) (bytes_of t.0 ∷ []) (q ∷ ps)) ∙ ap (λ x. x ++ q ∷ ps) (sym (map-append bytes_of ls (t.0 ∷ []))) in
      tells b e (ls ++ t.0 ∷ []) q ps (k + 1) (record {
        stands = f.more d e t.0 ls h.stands t.3;
        fit = AllByRecursion-append Fits ls (t.0 ∷ []) h.fit (t.1, tt);
        ran = run_on r r.start d e ls (t.0 ∷ []) h.ran (run_one r d e t.0 t.3);
        cut = cut;
        line = omega (arith, h.line, length-append ls (t.0 ∷ []));
      })))

  -- what reading gives is what the text is the text of, or its least bad line
  text_tells : (b : List ℕ) → Tells b (read_plain r b)
  unfolding run
  text_tells b =
      let p = first_part 10 b in
      let h : Reached b r.start [] p.0 p.1 1 = record { stands = f.starts; fit = tt; ran = refl; cut = p.2; line = refl } in
      subst (λ ps. Tells b (read_plain_from r 1 r.start ps)) (sym p.2) (tells b r.start [] p.0 p.1 1 h)

  -- ---- the language of these lines is read so

  plain_next : (k : ℕ) (d : D) (o : Option D) (x : D → Result T ℕ) (y : D → Result T (ℕ × Unit {0})) → ((e : D) → y e ≡ plainly (x e)) → refusing.goes_on k (refused o) (taken_or d o) y ≡ plainly (goes_on_plain k o x)
  plain_next k d None x y each = refl
  plain_next k d (Some e) x y each = each e

  plain_said : (k : ℕ) (d : D) (o : Option L) (x : D → Result T ℕ) (y : D → Result T (ℕ × Unit {0})) → ((e : D) → y e ≡ plainly (x e))
      → refusing.goes_on k (refused (option_and_then (r.next d) o)) (with_said (plain r) d o) y ≡ plainly (goes_on_plain k (option_and_then (r.next d) o) x)
  plain_said k d None x y each = refl
  plain_said k d (Some l) x y each = plain_next k d (r.next d l) x y each

  plain_last : (k : ℕ) (d : D) (p : List ℕ) → refusing.read_from (plain r) k d (p ∷ []) ≡ plainly (read_plain_from r k d (p ∷ []))
  unfolding read_plain_from refusing.read_from
  plain_last k d p =
      elim (cases_Bool (eqb (length p) 0 && r.is_end d)) [
        | inl ends ↦
            let none = nil_from_length p (eqb-true (length p) 0 (and_parts (eqb (length p) 0) (r.is_end d) ends).0) in
            let says : r.line_of p ≡ None = ap r.line_of none ∙ f.empty in
            rw ends (ap (λ o. answer (r.whole (with_said (plain r) d o))) says)
        | inr other ↦ rw other refl
      ]

  -- the text ends here, or may not stop here
  pub plain_ended : (k : ℕ) (d : D) (p : List ℕ) → (eqb (length p) 0 && r.is_end d) ≡ true → refusing.read_from (plain r) k d (p ∷ []) ≡ answer (r.whole d)
  unfolding read_plain_from
  plain_ended k d p ends = let last : plainly (read_plain_from r k d (p ∷ [])) ≡ answer (r.whole d) = rw ends refl in plain_last k d p ∙ last

  pub plain_stopped : (k : ℕ) (d : D) (p : List ℕ) → (eqb (length p) 0 && r.is_end d) ≡ false → refusing.read_from (plain r) k d (p ∷ []) ≡ refused_at k tt
  unfolding read_plain_from
  plain_stopped k d p other = let last : plainly (read_plain_from r k d (p ∷ [])) ≡ refused_at k tt = rw other refl in plain_last k d p ∙ last

  plain_from : (ps : List (List ℕ)) (p : List ℕ) (k : ℕ) (d : D) → refusing.read_from (plain r) k d (p ∷ ps) ≡ plainly (read_plain_from r k d (p ∷ ps))
  unfolding read_plain_from refusing.read_from
  plain_from [] p k d = plain_last k d p
  plain_from (q ∷ ps) p k d =
      plain_said k d (r.line_of p) (λ e. read_plain_from r (k + 1) e (q ∷ ps)) (λ e. refusing.read_from (plain r) (k + 1) e (q ∷ ps)) (λ e. plain_from ps q (k + 1) e)

  plain_text : (b : List ℕ) → refusing.read_text (plain r) b ≡ plainly (read_plain r b)
  plain_text b =
      let p = first_part 10 b in
      subst (λ (ps : List (List ℕ)). refusing.read_from (plain r) 1 r.start ps ≡ plainly (read_plain_from r 1 r.start ps)) (sym p.2) (plain_from p.1 p.0 1 r.start)

  plain_found : (t : T) (x : Result T ℕ) → plainly x ≡ answer t → x ≡ Ok t
  plain_found t (Ok s) e = ap (λ (y : T). Ok y) (same_answer s t e)
  plain_found t (Err k) e = absurd (refused_not k tt t e)

  plain_refused : (k : ℕ) (u : Unit {0}) (x : Result T ℕ) → plainly x ≡ refused_at k u → x ≡ Err k
  plain_refused k u (Ok s) e = absurd (refused_not k u s (sym e))
  plain_refused k u (Err j) e = ap (λ (n : ℕ). failed n) (same_line {T = T} j k tt u e)

  pub text_found : (b : List ℕ) (t : T) → refusing.read_text (plain r) b ≡ answer t → IsText b t
  text_found b t e = subst (Tells b) (plain_found t (read_plain r b) (sym (plain_text b) ∙ e)) (text_tells b)

  pub text_only : (b : List ℕ) (s t : T) → refusing.read_text (plain r) b ≡ answer s → IsText b t → s ≡ t
  text_only b s t e is = same_value s t (read_plain r b) (plain_found s (read_plain r b) (sym (plain_text b) ∙ e)) (text_again b t is)

  never : (b : List ℕ) (k : ℕ) (t : T) → read_plain r b ≡ Err k → IsText b t → ⊥
  never b k t e is = not_both t k (sym e ∙ text_again b t is)

  pub text_never : (b : List ℕ) (k : ℕ) (u : Unit {0}) (t : T) → refusing.read_text (plain r) b ≡ refused_at k u → IsText b t → ⊥
  text_never b k u t e is = never b k t (plain_refused k u (read_plain r b) (sym (plain_text b) ∙ e)) is

  pub text_bad : (b : List ℕ) (k : ℕ) (u : Unit {0}) → refusing.read_text (plain r) b ≡ refused_at k u → IsLeastBad IsText b k
  text_bad b k u e =
      let read : read_plain r b ≡ failed k = plain_refused k u (read_plain r b) (sym (plain_text b) ∙ e) in
      let bad : IsBad b k = subst (Tells b) read (text_tells b) in
      record {
        counted = bad.counted;
        within = bad.within;
        before = bad.before;
        at = bad.at;
        whole = λ t is. never b k t read is;
      }
