-- What the words of a line say.
use Rattle.std.specs.Prelude.{ℕ, ◌==◌, List, [], ◌∷◌, codes, Option, Some, None, if◌then◌else◌}
use Rattle.std.specs.Str.{bytes_eq}
use Rattle.loop_model.specs.declared.post.Post.{Post}
use Rattle.loop_model.specs.declared.post.Kind.{Kind}
use Rattle.loop_model.specs.declared.post.Kind.TheVariants.{What, Callback, All as AnyKind}
use Rattle.loop_model.specs.declared.post.Filter.{Filter}
use Rattle.loop_model.specs.declared.call.Call.{Call}
use Rattle.loop_model.specs.declared.call.Call.TheVariants as call_of
use Rattle.loop_model.specs.declared.reply.Reply.{Reply}
use Rattle.loop_model.specs.declared.reply.Reply.TheVariants as reply_of
use Rattle.loop_model.specs.declared.entry.Entry.{Entry as EntryData}
use Rattle.line_words.specs.Taking.{Rest, and_then, word, by_word, long, short, maybe_long, maybe_short, either, whole}
use Rattle.trace_check.specs.declared.line.Head.{Head}
use Rattle.trace_check.specs.declared.line.TraceLine.{TraceLine}
use Rattle.trace_check.specs.declared.line.TraceLine.TheVariants.{Title, Queue, Entry, End}

-- ---- calls and replies

unfoldable pub post : Rest → Option (Post × Rest)
post rest0 =
    and_then (short rest0) (λ handler rest1.
    and_then (short rest1) (λ what rest2.
    and_then (short rest2) (λ arg rest3.
    and_then (maybe_long rest3) (λ obj rest4.
    and_then (maybe_long rest4) (λ callback rest5.
    and_then (long rest5) (λ when rest6.
    and_then (either (codes "a") (codes "s") rest6) (λ asynchronous rest7.
    and_then (maybe_short rest7) (λ slot rest8.
    Some (
      record {
        handler = handler;
        what = what;
        arg = arg;
        obj = obj;
        callback = callback;
        when = when;
        asynchronous = asynchronous;
        slot = slot;
      },
      rest8,
    )))))))))

-- a word that has nothing behind it
abbrev pub alone : {A : Type 0} → A → Rest → Option (A × Rest)
alone a rest = Some (a, rest)

-- a word that has one number behind it
abbrev pub numbered : {A : Type 0} → (ℕ → A) → Rest → Option (A × Rest)
numbered make rest = and_then (long rest) (λ n more. Some (make n, more))

-- the words that a call, a reply or a filter may name, each with what stands behind it
abbrev pub Rows : Type 0 → Type 0
Rows A = List (List ℕ × (Rest → Option (A × Rest)))

abbrev pub kinds : Rows Kind
kinds = (codes "what", λ rest. and_then (short rest) (λ n more. Some (What n, more))) ∷ (codes "callback", numbered Callback) ∷ (codes "all", alone AnyKind) ∷ []

abbrev pub kind_by : List ℕ → Rest → Option (Kind × Rest)
kind_by = by_word kinds

unfoldable pub kind : Rest → Option (Kind × Rest)
kind rest = and_then (word rest) kind_by

unfoldable pub filter : Rest → Option (Filter × Rest)
filter rest0 =
    and_then (short rest0) (λ handler rest1.
    and_then (kind rest1) (λ kind rest2.
    and_then (maybe_long rest2) (λ obj rest3.
    Some (record { handler = handler; kind = kind; obj = obj }, rest3))))

unfoldable pub quit : Rest → Option (Call × Rest)
quit rest = and_then (either (codes "safe") (codes "plain") rest) (λ safe more. and_then (long more) (λ now most. Some (call_of.Quit safe now, most)))

abbrev pub calls : Rows Call
calls =
    (codes "post", λ rest. and_then (post rest) (λ p more. Some (call_of.Post p, more)))
    ∷ (codes "barrier", numbered call_of.Barrier)
    ∷ (codes "unbarrier", numbered call_of.Unbarrier)
    ∷ (codes "remove", λ rest. and_then (filter rest) (λ f more. Some (call_of.Remove f, more)))
    ∷ (codes "quit", quit)
    ∷ (codes "next", numbered call_of.Next)
    ∷ (codes "advance", numbered call_of.Advance)
    ∷ (codes "halt", numbered call_of.Halt)
    ∷ []

abbrev pub call_by : List ℕ → Rest → Option (Call × Rest)
call_by = by_word calls

unfoldable pub call : Rest → Option (Call × Rest)
call rest = and_then (word rest) call_by

abbrev pub replies : Rows Reply
replies =
    (codes "accepted", numbered reply_of.Accepted)
    ∷ (codes "refused", numbered reply_of.Refused)
    ∷ (codes "token", numbered reply_of.Token)
    ∷ (codes "unbarriered", alone reply_of.Unbarriered)
    ∷ (codes "not-posted", alone reply_of.NotPosted)
    ∷ (codes "removed", numbered reply_of.Removed)
    ∷ (codes "quit-done", alone reply_of.QuitDone)
    ∷ (codes "already-quit", numbered reply_of.AlreadyQuit)
    ∷ (codes "not-allowed", alone reply_of.NotAllowed)
    ∷ (codes "dispatched", numbered reply_of.Dispatched)
    ∷ (codes "disposed", alone reply_of.Disposed)
    ∷ (codes "advanced", alone reply_of.Advanced)
    ∷ (codes "halted", alone reply_of.Halted)
    ∷ []

abbrev pub reply_by : List ℕ → Rest → Option (Reply × Rest)
reply_by = by_word replies

unfoldable pub reply : Rest → Option (Reply × Rest)
reply rest = and_then (word rest) reply_by

-- ---- lines

unfoldable pub entry : Rest → Option (EntryData × Rest)
entry rest0 =
    and_then (short rest0) (λ sender rest1.
    and_then (long rest1) (λ seq rest2.
    and_then (call rest2) (λ call rest3.
    and_then (reply rest3) (λ reply rest4.
    Some (record { sender = sender; seq = seq; call = call; reply = reply }, rest4)))))

unfoldable pub head : Rest → Option (Head × Rest)
head rest0 =
    and_then (short rest0) (λ looper rest1.
    and_then (either (codes "main") (codes "side") rest1) (λ main rest2.
    and_then (either (codes "lockstep") (codes "free") rest2) (λ lockstep rest3.
    and_then (short rest3) (λ senders rest4.
    and_then (long rest4) (λ count rest5.
    Some (record { looper = looper; main = main; lockstep = lockstep; senders = senders; count = count }, rest5))))))

unfoldable pub title : Rest → Option (TraceLine × Rest)
title rest = and_then (long rest) (λ version more. if version == 1 then Some (Title, more) else None)

-- what a line says whose first word is this; all its words are those of an entry where it is none of three
abbrev pub line_by : Rest → List ℕ → Rest → Option TraceLine
line_by ws first rest =
    if bytes_eq first (codes "trace") then and_then (title rest) whole
    else if bytes_eq first (codes "queue") then and_then (head rest) (λ h more. whole (Queue h) more)
    else if bytes_eq first (codes "end") then whole End rest
    else and_then (entry ws) (λ e more. whole (Entry e) more)

-- what the words of a line say
unfoldable pub line_of : Rest → Option TraceLine
line_of ws = and_then (word ws) (line_by ws)
