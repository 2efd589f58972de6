-- What is read of the words of a line is a line of these words.
use Rattle.std.proofs.Common.{◌≡◌, ℕ, true, cond, eqb, List, [], ◌∷◌, ◌++◌, Option, Some, None, refl, sym, ap, subst, ◌∙◌, inl, inr}
use Rattle.std.specs.Prelude.{codes}
use Rattle.std.specs.List.{AllByRecursion}
use Rattle.std.specs.Str.{bytes_eq}
use Rattle.std.specs.Fmt.{decimal}
use Rattle.std.proofs.lemmas.Bool.{cases_Bool, eqb-true}
use Rattle.std.proofs.lemmas.Option.{same_Some, none-some}
use Rattle.std.proofs.lemmas.List.{append-nil}
use Rattle.std.proofs.lemmas.Slice.Eq.{bytes_eq-Decides}
use Rattle.loop_model.proofs.Sorting.{AllByRecursion-append}
use Rattle.loop_model.specs.declared.post.Post.{Post}
use Rattle.loop_model.specs.declared.post.Kind.{Kind}
use Rattle.loop_model.specs.declared.post.Kind.TheVariants.{What, Callback, All as AnyKind}
use Rattle.loop_model.specs.declared.post.Filter.{Filter}
use Rattle.loop_model.specs.declared.call.Call.{Call}
use Rattle.loop_model.specs.declared.call.Call.TheVariants as call_of
use Rattle.loop_model.specs.declared.reply.Reply.{Reply}
use Rattle.loop_model.specs.declared.reply.Reply.TheVariants as reply_of
use Rattle.loop_model.specs.declared.entry.Entry.{Entry as EntryData}
use Rattle.line_words.specs.Written.{maybe, one_of, WrittenWord, Fixed, Short, Long, MaybeShort, MaybeLong, FitsWord, spelled_words}
use Rattle.line_words.specs.Taking as taking
use Rattle.line_words.specs.Taking.{Rest, and_then, whole}
use Rattle.line_words.proofs.Wording.{spelled_on}
use Rattle.line_words.proofs.Taken.{parted, word_parted, word_then, Spells, RowTakes, rows_taken, long_taken, short_taken, either_taken, maybe_long_taken, maybe_short_taken}
use Rattle.trace_check.specs.declared.line.Head.{Head}
use Rattle.trace_check.specs.declared.line.TraceLine.{TraceLine}
use Rattle.trace_check.specs.declared.line.TraceLine.TheVariants.{Title, Queue, Entry, End}
use Rattle.trace_check.specs.Line.{FitsLine, trace_line_words, call_words, reply_words, kind_words, filter_words, post_words}
use Rattle.trace_check.specs.Reading as reading

-- words that were read are those of what they say
spells : {A : Type 0} (words : A → List WrittenWord) (ws : Rest) (a : A) (more : Rest) (said : List WrittenWord) → words a ≡ said → AllByRecursion FitsWord said → ws ≡ spelled_words said ++ more
    → Spells words ws (a, more)
spells words ws a more said is fit e =
    (subst (AllByRecursion FitsWord) (sym is) fit, e ∙ ap (λ v. spelled_words v ++ more) (sym is))

post_taken : (ws : Rest) (y : Post × Rest) → reading.post ws ≡ Some y → Spells post_words ws y
unfolding reading.post
post_taken ws y e =
    let P : Type 0 = Spells post_words ws y in
    word_then Short taking.short short_taken P ws _ y e (λ a r0 h0 w0 e0.
    word_then Short taking.short short_taken P r0 _ y e0 (λ b r1 h1 w1 e1.
    word_then Short taking.short short_taken P r1 _ y e1 (λ c r2 h2 w2 e2.
    word_then MaybeLong taking.maybe_long maybe_long_taken P r2 _ y e2 (λ d r3 h3 w3 e3.
    word_then MaybeLong taking.maybe_long maybe_long_taken P r3 _ y e3 (λ g r4 h4 w4 e4.
    word_then Long taking.long long_taken P r4 _ y e4 (λ n r5 h5 w5 e5.
    word_then (λ b. Fixed (one_of (codes "a") (codes "s") b)) (taking.either (codes "a") (codes "s")) (either_taken (codes "a") (codes "s")) P r5 _ y e5 (λ t r6 h6 w6 e6.
    word_then MaybeShort taking.maybe_short maybe_short_taken P r6 _ y e6 (λ k r7 h7 w7 e7.
    let made : Post = record { handler = a; what = b; arg = c; obj = d; callback = g; when = n; asynchronous = t; slot = k } in
    let words : ws ≡ spelled_words (post_words made) ++ r7 =
    w0 ∙ ap (λ r. decimal a ∷ r) (w1 ∙ ap (λ r. decimal b ∷ r) (w2 ∙ ap (λ r. decimal c ∷ r) (w3 ∙ ap (λ r. maybe d ∷ r) (w4 ∙ ap (λ r. maybe g ∷ r)
    (w5 ∙ ap (λ r. decimal n ∷ r) (w6 ∙ ap (λ r. one_of (codes "a") (codes "s") t ∷ r) w7)))))) in
    subst (λ z. Spells post_words ws z) (same_Some (made, r7) y e7) ((h0, (h1, (h2, (h3, (h4, (h5, (h6, (h7, tt)))))))), words)))))))))

-- a word that has nothing behind it
alone : {A : Type 0} (words : A → List WrittenWord) (w : List ℕ) (a : A) → words a ≡ Fixed w ∷ [] → RowTakes words (w, reading.alone a)
alone words w a is rest y e =
    subst (λ z. Spells words (w ∷ rest) z) (same_Some (a, rest) y e) (spells words (w ∷ rest) a rest (Fixed w ∷ []) is (tt, tt) refl)

-- a number of 64 bits behind it
numbered : {A : Type 0} (words : A → List WrittenWord) (w : List ℕ) (make : ℕ → A) → ((n : ℕ) → words (make n) ≡ Fixed w ∷ Long n ∷ []) → RowTakes words (w, reading.numbered make)
numbered words w make are rest y e =
    let p = parted (taking.long rest) _ y e in
    let t = long_taken rest p.0 p.1 in
    subst (λ z. Spells words (w ∷ rest) z) (same_Some (make p.0.0, p.0.1) y p.2)
    (spells words (w ∷ rest) (make p.0.0) p.0.1 (Fixed w ∷ Long p.0.0 ∷ []) (are p.0.0) (tt, (t.0, tt)) (ap (λ r. w ∷ r) t.1))

-- what was read by other words behind it
behind : {A B : Type 0} (words : A → List WrittenWord) (w : List ℕ) (by : Rest → Option (B × Rest)) (inner : B → List WrittenWord) (make : B → A)
    → ((ws : Rest) (z : B × Rest) → by ws ≡ Some z → Spells inner ws z) → ((b : B) → words (make b) ≡ Fixed w ∷ inner b)
    → RowTakes words (w, λ rest. and_then (by rest) (λ b more. Some (make b, more)))
behind words w by inner make taken are rest y e =
    let p = parted (by rest) _ y e in
    let t = taken rest p.0 p.1 in
    subst (λ z. Spells words (w ∷ rest) z) (same_Some (make p.0.0, p.0.1) y p.2)
    (spells words (w ∷ rest) (make p.0.0) p.0.1 (Fixed w ∷ inner p.0.0) (are p.0.0) (tt, t.0) (ap (λ r. w ∷ r) t.1))

-- a word, and what stands behind it by a table
named_taken : {A : Type 0} (words : A → List WrittenWord) (by : List ℕ → Rest → Option (A × Rest))
    → ((w : List ℕ) (rest : Rest) (y : A × Rest) → by w rest ≡ Some y → Spells words (w ∷ rest) y) → (ws : Rest) (y : A × Rest) → and_then (taking.word ws) by ≡ Some y → Spells words ws y
named_taken words by taken ws y e =
    let p = parted (taking.word ws) by y e in
    let t = taken p.0.0 p.0.1 y p.2 in (t.0, word_parted ws p.0 p.1 ∙ t.1)

short_alone : (ws : Rest) (z : ℕ × Rest) → taking.short ws ≡ Some z → Spells (λ n. Short n ∷ []) ws z
short_alone ws z e = let t = short_taken ws z e in ((t.0, tt), t.1)

kind_taken : (ws : Rest) (y : Kind × Rest) → reading.kind ws ≡ Some y → Spells kind_words ws y
unfolding reading.kind
kind_taken = named_taken kind_words reading.kind_by (rows_taken kind_words reading.kinds (
  behind kind_words (codes "what") taking.short (λ n. Short n ∷ []) What short_alone (λ n. refl),
  (numbered kind_words (codes "callback") Callback (λ n. refl), (alone kind_words (codes "all") AnyKind refl, tt)),
))

filter_taken : (ws : Rest) (y : Filter × Rest) → reading.filter ws ≡ Some y → Spells filter_words ws y
unfolding reading.filter
filter_taken ws y e =
    let p0 = parted (taking.short ws) _ y e in
    let p1 = parted (reading.kind p0.0.1) _ y p0.2 in
    let p2 = parted (taking.maybe_long p1.0.1) _ y p1.2 in
    let t0 = short_taken ws p0.0 p0.1 in
    let t1 = kind_taken p0.0.1 p1.0 p1.1 in
    let t2 = maybe_long_taken p1.0.1 p2.0 p2.1 in
    let made : Filter = record { handler = p0.0.0; kind = p1.0.0; obj = p2.0.0 } in
    let front = kind_words made.kind in
    let back = MaybeLong made.obj ∷ [] in
    let words : ws ≡ spelled_words (filter_words made) ++ p2.0.1 =
    t0.1 ∙ ap (λ r. decimal made.handler ∷ r) (t1.1 ∙ ap (λ r. spelled_words front ++ r) t2.1 ∙ sym (spelled_on front back p2.0.1)) in
    subst (λ z. Spells filter_words ws z) (same_Some (made, p2.0.1) y p2.2) ((t0.0, AllByRecursion-append FitsWord front back t1.0 (t2.0, tt)), words)

quit_taken : RowTakes call_words (codes "quit", reading.quit)
unfolding reading.quit
quit_taken rest y e =
    let p0 = parted (taking.either (codes "safe") (codes "plain") rest) _ y e in
    let p1 = parted (taking.long p0.0.1) _ y p0.2 in
    let t0 = either_taken (codes "safe") (codes "plain") rest p0.0 p0.1 in
    let t1 = long_taken p0.0.1 p1.0 p1.1 in
    let words = ap (λ r. codes "quit" ∷ r) (t0.1 ∙ ap (λ r. one_of (codes "safe") (codes "plain") p0.0.0 ∷ r) t1.1) in
    subst (λ (z : Call × Rest). Spells call_words (codes "quit" ∷ rest) z) (same_Some (call_of.Quit p0.0.0 p1.0.0, p1.0.1) y p1.2) ((tt, (tt, (t1.0, tt))), words)

-- a call of one number
timed : (w : List ℕ) (make : ℕ → Call) → ((n : ℕ) → call_words (make n) ≡ Fixed w ∷ Long n ∷ []) → RowTakes call_words (w, reading.numbered make)
timed = numbered call_words

call_taken : (ws : Rest) (y : Call × Rest) → reading.call ws ≡ Some y → Spells call_words ws y
unfolding reading.call
call_taken = named_taken call_words reading.call_by (rows_taken call_words reading.calls (
  behind call_words (codes "post") reading.post post_words call_of.Post post_taken (λ p. refl),
  (
    timed (codes "barrier") call_of.Barrier (λ n. refl),
    (
      timed (codes "unbarrier") call_of.Unbarrier (λ n. refl),
      (
        behind call_words (codes "remove") reading.filter filter_words call_of.Remove filter_taken (λ f. refl),
        (
          quit_taken,
          (
            timed (codes "next") call_of.Next (λ n. refl),
            (timed (codes "advance") call_of.Advance (λ n. refl), (timed (codes "halt") call_of.Halt (λ n. refl), tt)),
          ),
        ),
      ),
    ),
  ),
))

-- a reply of one number, and one of none
counted : (w : List ℕ) (make : ℕ → Reply) → ((n : ℕ) → reply_words (make n) ≡ Fixed w ∷ Long n ∷ []) → RowTakes reply_words (w, reading.numbered make)
counted = numbered reply_words

bare : (w : List ℕ) (r : Reply) → reply_words r ≡ Fixed w ∷ [] → RowTakes reply_words (w, reading.alone r)
bare = alone reply_words

reply_taken : (ws : Rest) (y : Reply × Rest) → reading.reply ws ≡ Some y → Spells reply_words ws y
unfolding reading.reply
reply_taken = named_taken reply_words reading.reply_by (rows_taken reply_words reading.replies (
  counted (codes "accepted") reply_of.Accepted (λ n. refl),
  (
    counted (codes "refused") reply_of.Refused (λ n. refl),
    (
      counted (codes "token") reply_of.Token (λ n. refl),
      (
        bare (codes "unbarriered") reply_of.Unbarriered refl,
        (
          bare (codes "not-posted") reply_of.NotPosted refl,
          (
            counted (codes "removed") reply_of.Removed (λ n. refl),
            (
              bare (codes "quit-done") reply_of.QuitDone refl,
              (
                counted (codes "already-quit") reply_of.AlreadyQuit (λ n. refl),
                (
                  bare (codes "not-allowed") reply_of.NotAllowed refl,
                  (
                    counted (codes "dispatched") reply_of.Dispatched (λ n. refl),
                    (bare (codes "disposed") reply_of.Disposed refl, (bare (codes "advanced") reply_of.Advanced refl, (bare (codes "halted") reply_of.Halted refl, tt))),
                  ),
                ),
              ),
            ),
          ),
        ),
      ),
    ),
  ),
))

-- ---- lines

abbrev LineTaken : Rest → TraceLine × Rest → Type 0
LineTaken ws y = Spells trace_line_words ws y

entry_taken : (ws : Rest) (y : EntryData × Rest) → reading.entry ws ≡ Some y → LineTaken ws (Entry y.0, y.1)
unfolding reading.entry
entry_taken ws y e =
    let p0 = parted (taking.short ws) _ y e in
    let p1 = parted (taking.long p0.0.1) _ y p0.2 in
    let p2 = parted (reading.call p1.0.1) _ y p1.2 in
    let p3 = parted (reading.reply p2.0.1) _ y p2.2 in
    let t0 = short_taken ws p0.0 p0.1 in
    let t1 = long_taken p0.0.1 p1.0 p1.1 in
    let t2 = call_taken p1.0.1 p2.0 p2.1 in
    let t3 = reply_taken p2.0.1 p3.0 p3.1 in
    let made : EntryData = record { sender = p0.0.0; seq = p1.0.0; call = p2.0.0; reply = p3.0.0 } in
    let front = call_words made.call in
    let back = reply_words made.reply in
    let words : ws ≡ spelled_words (trace_line_words (Entry made)) ++ p3.0.1 =
    t0.1 ∙ ap (λ r. decimal made.sender ∷ r) (t1.1 ∙ ap (λ r. decimal made.seq ∷ r) (t2.1 ∙ ap (λ r. spelled_words front ++ r) t3.1 ∙ sym (spelled_on front back p3.0.1))) in
    subst (λ (z : EntryData × Rest). LineTaken ws (Entry z.0, z.1)) (same_Some (made, p3.0.1) y p3.2) ((t0.0, (t1.0, AllByRecursion-append FitsWord front back t2.0 t3.0)), words)

head_taken : (rest : Rest) (y : Head × Rest) → reading.head rest ≡ Some y → LineTaken (codes "queue" ∷ rest) (Queue y.0, y.1)
unfolding reading.head
head_taken rest y e =
    let P : Type 0 = LineTaken (codes "queue" ∷ rest) (Queue y.0, y.1) in
    word_then Short taking.short short_taken P rest _ y e (λ a r0 h0 w0 e0.
    word_then (λ b. Fixed (one_of (codes "main") (codes "side") b)) (taking.either (codes "main") (codes "side")) (either_taken (codes "main") (codes "side")) P r0 _ y e0 (λ b r1 h1 w1 e1.
    word_then (λ b. Fixed (one_of (codes "lockstep") (codes "free") b)) (taking.either (codes "lockstep") (codes "free")) (either_taken (codes "lockstep") (codes "free")) P r1 _ y e1 (λ c r2 h2 w2 e2.
    word_then Short taking.short short_taken P r2 _ y e2 (λ d r3 h3 w3 e3.
    word_then Long taking.long long_taken P r3 _ y e3 (λ n r4 h4 w4 e4.
    let made : Head = record { looper = a; main = b; lockstep = c; senders = d; count = n } in
    let words : codes "queue" ∷ rest ≡ spelled_words (trace_line_words (Queue made)) ++ r4 =
    ap (λ r. codes "queue" ∷ r) (w0 ∙ ap (λ r. decimal a ∷ r) (w1 ∙ ap (λ r. one_of (codes "main") (codes "side") b ∷ r) (w2 ∙ ap (λ r. one_of (codes "lockstep") (codes "free") c ∷ r) (w3 ∙ ap (λ r. decimal d ∷ r) w4)))) in
    subst (λ (z : Head × Rest). LineTaken (codes "queue" ∷ rest) (Queue z.0, z.1)) (same_Some (made, r4) y e4) ((tt, (h0, (h1, (h2, (h3, (h4, tt)))))), words))))))

version_taken : (n : ℕ) (more : Rest) (y : TraceLine × Rest) → cond (eqb n 1) (Some (Title, more)) None ≡ Some y → (n ≡ 1) × ((Title, more) ≡ y)
version_taken n more y e =
    elim (cases_Bool (eqb n 1)) [
      | inl one ↦ (eqb-true n 1 one, same_Some (Title, more) y (rw one at e))
      | inr other ↦ absurd (none-some y (rw other at e))
    ]

title_taken : (rest : Rest) (y : TraceLine × Rest) → reading.title rest ≡ Some y → LineTaken (codes "trace" ∷ rest) y
unfolding reading.title
title_taken rest y e =
    let p = parted (taking.long rest) _ y e in
    let t = long_taken rest p.0 p.1 in
    let v = version_taken p.0.0 p.0.1 y p.2 in
    subst (LineTaken (codes "trace" ∷ rest)) v.1 ((tt, (tt, tt)), ap (λ r. codes "trace" ∷ r) (t.1 ∙ ap (λ n. decimal n ∷ p.0.1) v.0))

abbrev IsTaken : Rest → TraceLine → Type 0
IsTaken ws l = FitsLine l × (ws ≡ spelled_words (trace_line_words l))

-- nothing is left behind the words of a line
whole_taken : (ws : Rest) (made : TraceLine) (rest : Rest) (l : TraceLine) → whole made rest ≡ Some l → LineTaken ws (made, rest) → IsTaken ws l
whole_taken ws made [] l e t = subst (IsTaken ws) (same_Some made l e) (t.0, t.1 ∙ append-nil (spelled_words (trace_line_words made)))
whole_taken ws made (w ∷ rest) l e t = absurd (none-some l e)

entry_whole : (ws : Rest) (l : TraceLine) → and_then (reading.entry ws) (λ e more. whole (Entry e) more) ≡ Some l → IsTaken ws l
entry_whole ws l e =
    let p = parted (reading.entry ws) _ l e in
    whole_taken ws (Entry p.0.0) p.0.1 l p.2 (entry_taken ws p.0 p.1)

title_whole : (rest : Rest) (l : TraceLine) → and_then (reading.title rest) whole ≡ Some l → IsTaken (codes "trace" ∷ rest) l
title_whole rest l e =
    let p = parted (reading.title rest) _ l e in
    whole_taken (codes "trace" ∷ rest) p.0.0 p.0.1 l p.2 (title_taken rest p.0 p.1)

head_whole : (rest : Rest) (l : TraceLine) → and_then (reading.head rest) (λ h more. whole (Queue h) more) ≡ Some l → IsTaken (codes "queue" ∷ rest) l
head_whole rest l e =
    let p = parted (reading.head rest) _ l e in
    whole_taken (codes "queue" ∷ rest) (Queue p.0.0) p.0.1 l p.2 (head_taken rest p.0 p.1)

-- the line of this first word, where it is this one
is_first : (w first : List ℕ) (rest : Rest) (l : TraceLine) → bytes_eq first w ≡ true → IsTaken (w ∷ rest) l → IsTaken (first ∷ rest) l
is_first w first rest l same t = (t.0, ap (λ v. v ∷ rest) ((bytes_eq-Decides first w).0 same) ∙ t.1)

by_taken : (first : List ℕ) (rest : Rest) (l : TraceLine) → reading.line_by (first ∷ rest) first rest ≡ Some l → IsTaken (first ∷ rest) l
by_taken first rest l e =
    elim (cases_Bool (bytes_eq first (codes "trace"))) [
      | inl title ↦ is_first (codes "trace") first rest l title (title_whole rest l (rw title at e))
      | inr no_title ↦
          elim (cases_Bool (bytes_eq first (codes "queue"))) [
            | inl queue ↦ is_first (codes "queue") first rest l queue (head_whole rest l (rw (no_title, queue) at e))
            | inr no_queue ↦
                elim (cases_Bool (bytes_eq first (codes "end"))) [
                  | inl end ↦ is_first (codes "end") first rest l end (whole_taken (codes "end" ∷ rest) End rest l (rw (no_title, no_queue, end) at e) ((tt, tt), refl))
                  | inr none ↦ entry_whole (first ∷ rest) l (rw (no_title, no_queue, none) at e)
                ]
          ]
    ]

-- a line that is read has these words, with numbers within their limits
pub line_taken : (ws : Rest) (l : TraceLine) → reading.line_of ws ≡ Some l → FitsLine l × (ws ≡ spelled_words (trace_line_words l))
unfolding reading.line_of
line_taken [] l e = absurd (none-some l e)
line_taken (first ∷ rest) l e = by_taken first rest l e
