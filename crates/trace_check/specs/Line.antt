-- The lines of a trace, each as its words.
use Rattle.std.specs.Prelude.{List, [], ◌∷◌, ◌++◌, codes}
use Rattle.std.specs.List.{AllByRecursion}
use Rattle.std.specs.Fmt.{decimal}
use Rattle.loop_model.specs.declared.post.Post.{Post}
use Rattle.loop_model.specs.declared.post.Kind.{Kind}
use Rattle.loop_model.specs.declared.post.Kind.TheVariants.{What, Callback, All as AnyKind}
use Rattle.loop_model.specs.declared.post.Filter.{Filter}
use Rattle.loop_model.specs.declared.call.Call.{Call}
use Rattle.loop_model.specs.declared.call.Call.TheVariants as call
use Rattle.loop_model.specs.declared.reply.Reply.{Reply}
use Rattle.loop_model.specs.declared.reply.Reply.TheVariants as reply
use Rattle.line_words.specs.Written.{WrittenWord, Fixed, Short, Long, MaybeShort, MaybeLong, FitsWord, one_of}
use Rattle.trace_check.specs.declared.line.TraceLine.{TraceLine}
use Rattle.trace_check.specs.declared.line.TraceLine.TheVariants.{Title, Queue, Entry, End}

-- ---- the words of a line, each of which carries the width of its number

-- what is posted
abbrev pub post_words : Post → List WrittenWord
post_words p =
    Short p.handler ∷ Short p.what ∷ Short p.arg ∷ MaybeLong p.obj ∷ MaybeLong p.callback ∷ Long p.when
    ∷ Fixed (one_of (codes "a") (codes "s") p.asynchronous) ∷ MaybeShort p.slot ∷ []

-- what a filter asks of a message
abbrev pub kind_words : Kind → List WrittenWord
kind_words (What w) = Fixed (codes "what") ∷ Short w ∷ []
kind_words (Callback c) = Fixed (codes "callback") ∷ Long c ∷ []
kind_words AnyKind = Fixed (codes "all") ∷ []

-- which messages are removed
abbrev pub filter_words : Filter → List WrittenWord
filter_words f = Short f.handler ∷ kind_words f.kind ++ MaybeLong f.obj ∷ []

-- what is called
abbrev pub call_words : Call → List WrittenWord
call_words (call.Post p) = Fixed (codes "post") ∷ post_words p
call_words (call.Barrier now) = Fixed (codes "barrier") ∷ Long now ∷ []
call_words (call.Unbarrier token) = Fixed (codes "unbarrier") ∷ Long token ∷ []
call_words (call.Remove f) = Fixed (codes "remove") ∷ filter_words f
call_words (call.Quit safe now) = Fixed (codes "quit") ∷ Fixed (one_of (codes "safe") (codes "plain") safe) ∷ Long now ∷ []
call_words (call.Next now) = Fixed (codes "next") ∷ Long now ∷ []
call_words (call.Advance now) = Fixed (codes "advance") ∷ Long now ∷ []
call_words (call.Halt now) = Fixed (codes "halt") ∷ Long now ∷ []

-- what is replied
abbrev pub reply_words : Reply → List WrittenWord
reply_words (reply.Accepted n) = Fixed (codes "accepted") ∷ Long n ∷ []
reply_words (reply.Refused place) = Fixed (codes "refused") ∷ Long place ∷ []
reply_words (reply.Token token) = Fixed (codes "token") ∷ Long token ∷ []
reply_words reply.Unbarriered = Fixed (codes "unbarriered") ∷ []
reply_words reply.NotPosted = Fixed (codes "not-posted") ∷ []
reply_words (reply.Removed count) = Fixed (codes "removed") ∷ Long count ∷ []
reply_words reply.QuitDone = Fixed (codes "quit-done") ∷ []
reply_words (reply.AlreadyQuit place) = Fixed (codes "already-quit") ∷ Long place ∷ []
reply_words reply.NotAllowed = Fixed (codes "not-allowed") ∷ []
reply_words (reply.Dispatched n) = Fixed (codes "dispatched") ∷ Long n ∷ []
reply_words reply.Disposed = Fixed (codes "disposed") ∷ []
reply_words reply.Advanced = Fixed (codes "advanced") ∷ []
reply_words reply.Halted = Fixed (codes "halted") ∷ []

-- a whole line
abbrev pub trace_line_words : TraceLine → List WrittenWord
trace_line_words Title = Fixed (codes "trace") ∷ Fixed (decimal 1) ∷ []
trace_line_words (Queue h) =
    Fixed (codes "queue") ∷ Short h.looper ∷ Fixed (one_of (codes "main") (codes "side") h.main)
    ∷ Fixed (one_of (codes "lockstep") (codes "free") h.lockstep) ∷ Short h.senders ∷ Long h.count ∷ []
trace_line_words (Entry e) = Short e.sender ∷ Long e.seq ∷ call_words e.call ++ reply_words e.reply
trace_line_words End = Fixed (codes "end") ∷ []

-- each number of the line is within the width of its place
abbrev pub FitsLine : TraceLine → Type 0
FitsLine l = AllByRecursion FitsWord (trace_line_words l)
