-- The words of a line are read as the line, and each of them is a word.
use Rattle.std.proofs.Common.{◌≡◌, ℕ, Bool, false, List, [], ◌∷◌, ◌++◌, Some, None, refl, sym, ap, subst, ◌∙◌, inl, inr, arith}
use Rattle.std.specs.Prelude.{codes}
use Rattle.std.specs.List.{AllByRecursion}
use Rattle.std.specs.Str.{bytes_eq}
use Rattle.std.proofs.lemmas.Bool.{cases_Bool}
use Rattle.std.proofs.lemmas.Option.{none-some}
use Rattle.std.proofs.lemmas.Slice.Eq.{bytes_eq-Decides}
use Rattle.std.specs.Fmt.{decimal, digits}
use Rattle.std.proofs.lemmas.List.{append-nil, map-append}
use Rattle.loop_model.specs.declared.post.Post.{Post}
use Rattle.loop_model.specs.declared.post.Kind.{Kind}
use Rattle.loop_model.specs.declared.post.Kind.TheVariants.{What, Callback, All as AnyKind}
use Rattle.loop_model.specs.declared.post.Filter.{Filter}
use Rattle.loop_model.specs.declared.call.Call.{Call}
use Rattle.loop_model.specs.declared.call.Call.TheVariants as call_of
use Rattle.loop_model.specs.declared.reply.Reply.{Reply}
use Rattle.loop_model.specs.declared.reply.Reply.TheVariants as reply_of
use Rattle.loop_model.specs.declared.entry.Entry.{Entry as EntryData}
use Rattle.line_words.specs.Words.{spelled_number}
use Rattle.line_words.specs.Written.{one_of, IsLong, WrittenWord, Fixed, Long, MaybeLong, FitsWord, spelled, spelled_words}
use Rattle.line_words.specs.Taking.{Rest, and_then, whole, long as long_word}
use Rattle.line_words.proofs.Spelling.{number_again}
use Rattle.line_words.proofs.Wording.{IsWord, AreWords, long_short, words_append, decimal_word, short_word, maybe_word, maybe_short_word, one_word, spelled_on, fit_parted}
use Rattle.line_words.proofs.Again.{then_again, either_again, long_again, short_again, maybe_long_again, maybe_short_again}
use Rattle.trace_check.specs.declared.line.Head.{Head}
use Rattle.trace_check.specs.declared.line.TraceLine.{TraceLine}
use Rattle.trace_check.specs.declared.line.TraceLine.TheVariants.{Title, Queue, Entry, End}
use Rattle.trace_check.specs.Line.{FitsLine, trace_line_words, call_words, reply_words, kind_words, filter_words, post_words}
use Rattle.trace_check.specs.Reading as reading

-- each number is within its width
abbrev Fit : List WrittenWord → Type 0
Fit ws = AllByRecursion FitsWord ws

-- ---- more than one word

post_again : (p : Post) (rest : Rest) → Fit (post_words p) → reading.post (spelled_words (post_words p) ++ rest) ≡ Some (p, rest)
unfolding reading.post
post_again p rest (handler, (what, (arg, (obj, (callback, (when, (flag, (slot, end)))))))) =
    let y : Post × Rest = (p, rest) in
    then_again _ _ _ _ y (short_again p.handler _ handler) (then_again _ _ _ _ y (short_again p.what _ what) (then_again _ _ _ _ y (short_again p.arg _ arg) (then_again _ _ _ _ y (maybe_long_again p.obj _ obj)
    (then_again _ _ _ _ y (maybe_long_again p.callback _ callback) (then_again _ _ _ _ y (long_again p.when _ when) (then_again _ _ _ _ y (either_again (codes "a") (codes "s") p.asynchronous _ refl refl refl)
    (then_again _ _ _ _ y (maybe_short_again p.slot _ slot) refl)))))))

kind_again : (k : Kind) (rest : Rest) → Fit (kind_words k) → reading.kind (spelled_words (kind_words k) ++ rest) ≡ Some (k, rest)
unfolding reading.kind
kind_again (What w) rest fit = then_again _ _ _ _ (What w, rest) (short_again w rest fit.1.0) refl
kind_again (Callback c) rest fit = then_again _ _ _ _ (Callback c, rest) (long_again c rest fit.1.0) refl
kind_again AnyKind rest fit = refl

filter_again : (f : Filter) (rest : Rest) → Fit (filter_words f) → reading.filter (spelled_words (filter_words f) ++ rest) ≡ Some (f, rest)
unfolding reading.filter
filter_again f rest fit =
    let y : Filter × Rest = (f, rest) in
    let back = MaybeLong f.obj ∷ [] in
    let parts = fit_parted (kind_words f.kind) back fit.1 in
    then_again _ _ _ _ y (short_again f.handler _ fit.0) (then_again _ _ _ _ y (ap reading.kind (spelled_on (kind_words f.kind) back rest) ∙ kind_again f.kind _ parts.0) (then_again _ _ _ _ y (maybe_long_again f.obj rest parts.1.0) refl))

quit_again : (safe : Bool) (now : ℕ) (rest : Rest) → IsLong now → reading.quit (one_of (codes "safe") (codes "plain") safe ∷ decimal now ∷ rest) ≡ Some (call_of.Quit safe now, rest)
unfolding reading.quit
quit_again safe now rest fit =
    let y : Call × Rest = (call_of.Quit safe now, rest) in
    then_again _ _ _ _ y (either_again (codes "safe") (codes "plain") safe _ refl refl refl) (then_again _ _ _ _ y (long_again now rest fit) refl)

numbered_again : {A : Type 0} (make : ℕ → A) (n : ℕ) (rest : Rest) → IsLong n → reading.numbered make (decimal n ∷ rest) ≡ Some (make n, rest)
numbered_again make n rest fit = then_again _ _ _ _ (make n, rest) (long_again n rest fit) refl

call_again : (c : Call) (rest : Rest) → Fit (call_words c) → reading.call (spelled_words (call_words c) ++ rest) ≡ Some (c, rest)
unfolding reading.call
call_again (call_of.Post p) rest fit = then_again _ _ _ _ (call_of.Post p, rest) (post_again p rest fit.1) refl
call_again (call_of.Barrier now) rest fit = numbered_again call_of.Barrier now rest fit.1.0
call_again (call_of.Unbarrier token) rest fit = numbered_again call_of.Unbarrier token rest fit.1.0
call_again (call_of.Remove f) rest fit = then_again _ _ _ _ (call_of.Remove f, rest) (filter_again f rest fit.1) refl
call_again (call_of.Quit safe now) rest fit = quit_again safe now rest fit.1.1.0
call_again (call_of.Next now) rest fit = numbered_again call_of.Next now rest fit.1.0
call_again (call_of.Advance now) rest fit = numbered_again call_of.Advance now rest fit.1.0
call_again (call_of.Halt now) rest fit = numbered_again call_of.Halt now rest fit.1.0

reply_again : (r : Reply) (rest : Rest) → Fit (reply_words r) → reading.reply (spelled_words (reply_words r) ++ rest) ≡ Some (r, rest)
unfolding reading.reply
reply_again (reply_of.Accepted n) rest fit = numbered_again reply_of.Accepted n rest fit.1.0
reply_again (reply_of.Refused place) rest fit = numbered_again reply_of.Refused place rest fit.1.0
reply_again (reply_of.Token token) rest fit = numbered_again reply_of.Token token rest fit.1.0
reply_again reply_of.Unbarriered rest fit = refl
reply_again reply_of.NotPosted rest fit = refl
reply_again (reply_of.Removed count) rest fit = numbered_again reply_of.Removed count rest fit.1.0
reply_again reply_of.QuitDone rest fit = refl
reply_again (reply_of.AlreadyQuit place) rest fit = numbered_again reply_of.AlreadyQuit place rest fit.1.0
reply_again reply_of.NotAllowed rest fit = refl
reply_again (reply_of.Dispatched n) rest fit = numbered_again reply_of.Dispatched n rest fit.1.0
reply_again reply_of.Disposed rest fit = refl
reply_again reply_of.Advanced rest fit = refl
reply_again reply_of.Halted rest fit = refl

-- ---- lines

entry_again : (e : EntryData) → FitsLine (Entry e) → reading.entry (spelled_words (trace_line_words (Entry e))) ≡ Some (e, [])
unfolding reading.entry
entry_again e fit =
    let y : EntryData × Rest = (e, []) in
    let parts = fit_parted (call_words e.call) (reply_words e.reply) fit.1.1 in
    let last : reading.reply (spelled_words (reply_words e.reply)) ≡ Some (e.reply, []) =
    ap reading.reply (sym (append-nil (spelled_words (reply_words e.reply)))) ∙ reply_again e.reply [] parts.1 in
    then_again _ _ _ _ y (short_again e.sender _ fit.0) (then_again _ _ _ _ y (long_again e.seq _ fit.1.0)
    (then_again _ _ _ _ y (ap reading.call (map-append spelled (call_words e.call) (reply_words e.reply)) ∙ call_again e.call _ parts.0) (then_again _ _ _ _ y last refl)))

head_again : (h : Head) → FitsLine (Queue h)
    → reading.head (decimal h.looper ∷ one_of (codes "main") (codes "side") h.main ∷ one_of (codes "lockstep") (codes "free") h.lockstep ∷ decimal h.senders ∷ decimal h.count ∷ []) ≡ Some (h, [])
unfolding reading.head
head_again h (first, (looper, (main, (lockstep, (senders, (count, end)))))) =
    let y : Head × Rest = (h, []) in
    then_again _ _ _ _ y (short_again h.looper _ looper) (then_again _ _ _ _ y (either_again (codes "main") (codes "side") h.main _ refl refl refl)
    (then_again _ _ _ _ y (either_again (codes "lockstep") (codes "free") h.lockstep _ refl refl refl) (then_again _ _ _ _ y (short_again h.senders _ senders) (then_again _ _ _ _ y (long_again h.count _ count) refl))))

-- a number isn't this word, which spells none
not_word : (n : ℕ) (w : List ℕ) → IsLong n → spelled_number w ≡ None → bytes_eq (decimal n) w ≡ false
not_word n w fit none =
    elim (cases_Bool (bytes_eq (decimal n) w)) [
      | inl same ↦ absurd (none-some n (sym none ∙ sym (ap spelled_number ((bytes_eq-Decides (decimal n) w).0 same)) ∙ number_again n fit))
      | inr other ↦ other
    ]

-- the line of an entry begins with a number, and so with none of the words of the others
entry_line : (e : EntryData) → FitsLine (Entry e) → reading.line_of (spelled_words (trace_line_words (Entry e))) ≡ Some (Entry e)
unfolding reading.line_of spelled_number
entry_line e fit =
    let long = long_short e.sender fit.0 in
    rw (not_word e.sender (codes "trace") long refl, not_word e.sender (codes "queue") long refl, not_word e.sender (codes "end") long refl)
    (ap (λ o. and_then o (λ x more. whole (Entry x) more)) (entry_again e fit))

pub line_again : (l : TraceLine) → FitsLine l → reading.line_of (spelled_words (trace_line_words l)) ≡ Some l
unfolding reading.line_of reading.title long_word spelled_number digits
line_again Title fit = refl
line_again (Queue h) fit = ap (λ o. and_then o (λ x more. whole (Queue x) more)) (head_again h fit)
line_again (Entry e) fit = entry_line e fit
line_again End fit = refl

-- ---- each word of a line is a word

post_are : (p : Post) → Fit (post_words p) → AreWords (spelled_words (post_words p))
post_are p (handler, (what, (arg, (obj, (callback, (when, (flag, (slot, end)))))))) =
    (short_word p.handler handler, (short_word p.what what, (short_word p.arg arg, (maybe_word p.obj obj, (maybe_word p.callback callback, (decimal_word p.when when, (one_word (codes "a") (codes "s") p.asynchronous (refl, refl) (refl, refl), (maybe_short_word p.slot slot, tt))))))))

kind_are : (k : Kind) → Fit (kind_words k) → AreWords (spelled_words (kind_words k))
kind_are (What w) fit = ((refl, refl), (short_word w fit.1.0, tt))
kind_are (Callback c) fit = ((refl, refl), (decimal_word c fit.1.0, tt))
kind_are AnyKind fit = ((refl, refl), tt)

-- words behind others
both_are : (xs ys : List WrittenWord) → AreWords (spelled_words xs) → AreWords (spelled_words ys) → AreWords (spelled_words (xs ++ ys))
both_are xs ys f g = subst AreWords (sym (map-append spelled xs ys)) (words_append (spelled_words xs) (spelled_words ys) f g)

filter_are : (f : Filter) → Fit (filter_words f) → AreWords (spelled_words (filter_words f))
filter_are f fit =
    let parts = fit_parted (kind_words f.kind) (MaybeLong f.obj ∷ []) fit.1 in
    (short_word f.handler fit.0, both_are (kind_words f.kind) (MaybeLong f.obj ∷ []) (kind_are f.kind parts.0) (maybe_word f.obj parts.1.0, tt))

-- a fixed word, and one number behind it
one_number : (w : List ℕ) (n : ℕ) → IsWord w → Fit (Fixed w ∷ Long n ∷ []) → AreWords (spelled_words (Fixed w ∷ Long n ∷ []))
one_number w n is fit = (is, (decimal_word n fit.1.0, tt))

call_are : (c : Call) → Fit (call_words c) → AreWords (spelled_words (call_words c))
call_are (call_of.Post p) fit = ((refl, refl), post_are p fit.1)
call_are (call_of.Barrier now) fit = one_number (codes "barrier") now (refl, refl) fit
call_are (call_of.Unbarrier token) fit = one_number (codes "unbarrier") token (refl, refl) fit
call_are (call_of.Remove f) fit = ((refl, refl), filter_are f fit.1)
call_are (call_of.Quit safe now) fit = ((refl, refl), (one_word (codes "safe") (codes "plain") safe (refl, refl) (refl, refl), (decimal_word now fit.1.1.0, tt)))
call_are (call_of.Next now) fit = one_number (codes "next") now (refl, refl) fit
call_are (call_of.Advance now) fit = one_number (codes "advance") now (refl, refl) fit
call_are (call_of.Halt now) fit = one_number (codes "halt") now (refl, refl) fit

reply_are : (r : Reply) → Fit (reply_words r) → AreWords (spelled_words (reply_words r))
reply_are (reply_of.Accepted n) fit = one_number (codes "accepted") n (refl, refl) fit
reply_are (reply_of.Refused place) fit = one_number (codes "refused") place (refl, refl) fit
reply_are (reply_of.Token token) fit = one_number (codes "token") token (refl, refl) fit
reply_are reply_of.Unbarriered fit = ((refl, refl), tt)
reply_are reply_of.NotPosted fit = ((refl, refl), tt)
reply_are (reply_of.Removed count) fit = one_number (codes "removed") count (refl, refl) fit
reply_are reply_of.QuitDone fit = ((refl, refl), tt)
reply_are (reply_of.AlreadyQuit place) fit = one_number (codes "already-quit") place (refl, refl) fit
reply_are reply_of.NotAllowed fit = ((refl, refl), tt)
reply_are (reply_of.Dispatched n) fit = one_number (codes "dispatched") n (refl, refl) fit
reply_are reply_of.Disposed fit = ((refl, refl), tt)
reply_are reply_of.Advanced fit = ((refl, refl), tt)
reply_are reply_of.Halted fit = ((refl, refl), tt)

head_are : (h : Head) → FitsLine (Queue h) → AreWords (spelled_words (trace_line_words (Queue h)))
head_are h (first, (looper, (main, (lockstep, (senders, (count, end)))))) =
    ((refl, refl), (short_word h.looper looper, (one_word (codes "main") (codes "side") h.main (refl, refl) (refl, refl), (one_word (codes "lockstep") (codes "free") h.lockstep (refl, refl) (refl, refl), (short_word h.senders senders, (decimal_word h.count count, tt))))))

pub line_are : (l : TraceLine) → FitsLine l → AreWords (spelled_words (trace_line_words l))
line_are Title fit = ((refl, refl), (decimal_word 1 (omega arith), tt))
line_are (Queue h) fit = head_are h fit
line_are (Entry e) fit =
    let parts = fit_parted (call_words e.call) (reply_words e.reply) fit.1.1 in
    (short_word e.sender fit.0, (decimal_word e.seq fit.1.0, both_are (call_words e.call) (reply_words e.reply) (call_are e.call parts.0) (reply_are e.reply parts.1)))
line_are End fit = ((refl, refl), tt)
