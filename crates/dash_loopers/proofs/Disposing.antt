-- Who disposes of a queue.
use Rattle.std.proofs.Common.{◌≡◌, ◌<◌, ◌+◌, ℕ, Bool, true, false, List, [], ◌∷◌, ◌++◌, Option, Some, None, refl, sym, ap, ◌∙◌, cond}
use Rattle.std.specs.Prelude.{◌==◌, ◌&&◌, nat_le, position, if◌then◌else◌}
use Rattle.std.specs.List.{AllByRecursion, list_any}
use Rattle.std.specs.Option.{option_map}
use Rattle.std.proofs.Math.Bool.{and-false}
use Rattle.std.proofs.lemmas.Bool.{and_parts, eq-eqb, false_from_ne_true, or_parts}
use Rattle.std.proofs.lemmas.List.Sums.{sum_by-cons}
use Rattle.loop_model.specs.declared.call.Call.{Call}
use Rattle.loop_model.specs.declared.call.Call.TheVariants.{Post, Barrier, Unbarrier, Remove, Quit, Next, Advance, Halt}
use Rattle.loop_model.specs.declared.reply.Reply.{Reply}
use Rattle.loop_model.specs.declared.reply.Reply.TheVariants as reply
use Rattle.loop_model.specs.declared.entry.Entry.{Entry}
use Rattle.loop_model.specs.Entries.{moment_of, is_next, is_disposed}
use Rattle.dash_script.specs.declared.script.Command.{Command}
use Rattle.dash_script.specs.declared.script.Command.TheVariants as line
use Rattle.dash_script.specs.declared.script.Script.{Script}
use Rattle.run_model.specs.Planned.{Ask, Makes, Unbars, bare_call, call_of, token_in, entries_by, AreFor, TimedCommand, planned, lines_of, labels_on, lines_on, IsPlanned}
use Rattle.run_model.specs.Moments.{Mode}
use Rattle.run_model.specs.Parts.{AreAsPlanned, disposed_count}
use Rattle.run_model.specs.Control.{is_advance, is_halt, is_safe_quit, is_empty, is_closing, are_controls, AnyTime}
use Rattle.run_model.specs.Loopers.{IsSent}
use Rattle.dash_loopers.specs.Loopers.{is_disposal, calls_among}
use Rattle.run_model.proofs.ControlLaws.{advance_alone}
use Rattle.dash_loopers.proofs.OwnLooks.{NoneDisposes, asks_look, no_look_made}

-- what is asked, where anything is, is a look for a message
abbrev may_look : Option Ask → Bool
may_look None = false
may_look (Some ask) = asks_look ask

asked_no_look : (tokens : List ℕ) (o : Option Ask) (e : Entry) → option_map (call_of tokens) o ≡ Some (bare_call e.call) → may_look o ≡ false → is_disposal e ≡ false
asked_no_look tokens None e made none = absurd cc
asked_no_look tokens (Some ask) e made none = let same : call_of tokens ask ≡ bare_call e.call = cc in no_look_made tokens ask e (sym same) none

-- a call on one queue only that is no look
on_no_look : (t : Bool) (c : Call) → is_next c ≡ false → may_look (if t then Some (Makes c) else None) ≡ false
on_no_look true c none = none
on_no_look false c none = refl

unbars_no_look : (o : Option ℕ) → may_look (option_map Unbars o) ≡ false
unbars_no_look None = refl
unbars_no_look (Some k) = refl

framed_no_look : (t : Bool) (o : Option Ask) → may_look o ≡ false → may_look (if t then None else o) ≡ false
framed_no_look true o none = refl
framed_no_look false o none = none

-- no line plans a look
planned_no_look : (s : Script) (labels : List ℕ) (q u : ℕ) (c : Command) → may_look (planned s labels q u c) ≡ false
planned_no_look s labels q u (line.Post h w d) = on_no_look _ _ refl
planned_no_look s labels q u (line.PostAsync h w d) = on_no_look _ _ refl
planned_no_look s labels q u (line.Front h w) = on_no_look _ _ refl
planned_no_look s labels q u (line.Callback h c d) = on_no_look _ _ refl
planned_no_look s labels q u (line.Set g v) = on_no_look _ _ refl
planned_no_look s labels q u (line.Remove h w) = on_no_look _ _ refl
planned_no_look s labels q u (line.RemoveCallback h c) = on_no_look _ _ refl
planned_no_look s labels q u (line.RemoveAll h) = on_no_look _ _ refl
planned_no_look s labels q u (line.Barrier l b) = on_no_look _ _ refl
planned_no_look s labels q u (line.Unbarrier b) = unbars_no_look (position (λ label. label == b) labels)
planned_no_look s labels q u (line.Quit l) = on_no_look _ _ refl
planned_no_look s labels q u (line.QuitSafely l) = on_no_look _ _ refl
planned_no_look s labels q u (line.Frame l p i d) = framed_no_look (d == 0) _ (on_no_look _ _ refl)
planned_no_look s labels q u (line.Idle l i k) = refl
planned_no_look s labels q u (line.Watch l f m a) = refl
planned_no_look s labels q u (line.Event l f m) = refl
planned_no_look s labels q u (line.Unframe l p i) = refl

-- no entry for a line disposes of a queue
pub lines_dispose_nothing : (m : Mode) (s : Script) (labels : List ℕ) (q : ℕ) (tokens : List ℕ) (ls : List TimedCommand) (es : List Entry) → AreFor (IsPlanned m s labels q) tokens ls es → NoneDisposes es
lines_dispose_nothing m s labels q tokens [] [] h = tt
lines_dispose_nothing m s labels q tokens [] (e ∷ es) h = absurd h
lines_dispose_nothing m s labels q tokens (l ∷ ls) [] h = absurd h
lines_dispose_nothing m s labels q tokens (l ∷ ls) (e ∷ es) h =
    (asked_no_look tokens (planned s labels q h.0.uptime l.command) e h.0.call (planned_no_look s labels q h.0.uptime l.command), lines_dispose_nothing m s labels q (tokens ++ token_in e.reply) ls es h.1)

-- a thread disposes of no queue
pub thread_disposes_nothing : (m : Mode) (s : Script) (thread q : ℕ) (es : List Entry) → AreAsPlanned m s thread q es → NoneDisposes (entries_by thread es)
thread_disposes_nothing m s thread q es h =
    lines_dispose_nothing m s (labels_on q (lines_of thread s.blocks)) q [] (lines_on s (labels_on q (lines_of thread s.blocks)) q (lines_of thread s.blocks)) (entries_by thread es) h

-- the controller's calls are no looks
closing_is_no_look : (main : Bool) (c : Call) (halted : Bool) → (if main then is_halt c && halted else is_safe_quit c) ≡ true → is_next c ≡ false
closing_is_no_look main (Post p) halted h = refl
closing_is_no_look main (Barrier now) halted h = refl
closing_is_no_look main (Unbarrier t) halted h = refl
closing_is_no_look main (Remove f) halted h = refl
closing_is_no_look main (Quit safe now) halted h = refl
closing_is_no_look true (Next now) halted h = absurd cc
closing_is_no_look false (Next now) halted h = absurd cc
closing_is_no_look main (Advance now) halted h = refl
closing_is_no_look main (Halt now) halted h = refl

no_look_disposes : (e : Entry) → is_next e.call ≡ false → is_disposal e ≡ false
no_look_disposes e none = ap (λ t. t && is_disposed e.reply) none

none_empty : (es : List Entry) → is_empty es ≡ true → NoneDisposes es
none_empty [] h = tt
none_empty (e ∷ es) h = absurd cc

-- the controller disposes of no queue
pub controls_dispose_nothing : (main lockstep : Bool) (end : ℕ) (quit : Bool) (es : List Entry) → are_controls main lockstep end quit es ≡ true → NoneDisposes es
controls_dispose_nothing main lockstep end quit [] h = tt
controls_dispose_nothing main lockstep end quit (e ∷ es) h = go (is_advance e.call) refl h (controls_dispose_nothing main lockstep end quit es)
  where
    go : (t : Bool) → is_advance e.call ≡ t → (if t then lockstep && nat_le (moment_of e.call) end && are_controls main lockstep end quit es else is_empty es && is_closing main lockstep end e) ≡ true
        → (are_controls main lockstep end quit es ≡ true → NoneDisposes es) → NoneDisposes (e ∷ es)
    go true moves h rest = (no_look_disposes e (advance_alone e.call moves).2, rest (and_parts (lockstep && nat_le (moment_of e.call) end) _ h).1)
    go false other h rest =
        let parts = and_parts (is_empty es) _ h in
        (no_look_disposes e (closing_is_no_look main e.call _ (and_parts _ _ parts.1).0), none_empty es parts.0)

-- where no sender disposed of the queue, none did
pub none_first : (k : ℕ) (e : Entry) (es : List Entry) → NoneDisposes (entries_by k (e ∷ es)) → ((e.sender == k) ≡ true → is_disposal e ≡ false) × NoneDisposes (entries_by k es)
none_first k e es h = go (e.sender == k) refl h
  where
    go : (t : Bool) → (e.sender == k) ≡ t → NoneDisposes (if t then e ∷ entries_by k es else entries_by k es) → ((e.sender == k) ≡ true → is_disposal e ≡ false) × NoneDisposes (entries_by k es)
    go true own h = (λ z. h.0, h.1)
    go false other h = (λ z. absurd (let wrong : true ≡ false = sym z ∙ other in cc), h)

pub none_of_all : (m : ℕ) (es : List Entry) → AllByRecursion (λ e. e.sender < m) es → ((k : ℕ) → k < m → NoneDisposes (entries_by k es)) → NoneDisposes es
none_of_all m [] known none = tt
none_of_all m (e ∷ es) known none =
    ((none_first e.sender e es (none e.sender known.0)).0 (eq-eqb e.sender e.sender refl), none_of_all m es known.1 (λ k lt. (none_first k e es (none k lt)).1))

-- and the sender's own, where all are so
pub none_by : (k : ℕ) (es : List Entry) → NoneDisposes es → NoneDisposes (entries_by k es)
none_by k [] h = tt
none_by k (e ∷ es) h = go (none_by k es h.1) (e.sender == k) refl
  where
    go : NoneDisposes (entries_by k es) → (t : Bool) → (e.sender == k) ≡ t → NoneDisposes (entries_by k (e ∷ es))
    go rest true own = rw own (h.0, rest)
    go rest false other = rw other rest

-- where looks alone dispose, an entry that is no look that did was not answered so
not_disposed : (e : Entry) → (is_disposed e.reply ≡ true → is_next e.call ≡ true) → is_disposal e ≡ false → is_disposed e.reply ≡ false
not_disposed e looks none = false_from_ne_true (is_disposed e.reply) (λ d. absurd (let look = looks d in let wrong : true ≡ false = (λ i. sym look i && sym d i) ∙ none in cc))

-- so none was, where none did
pub none_answered : (es : List Entry) → AllByRecursion (λ e. is_disposed e.reply ≡ true → is_next e.call ≡ true) es → NoneDisposes es → AllByRecursion (λ e. is_disposed e.reply ≡ false) es
none_answered [] looks none = tt
none_answered (e ∷ es) looks none = (not_disposed e looks.0 none.0, none_answered es looks.1 none.1)

-- and none is counted
pub none_counted : (es : List Entry) → AllByRecursion (λ e. is_disposed e.reply ≡ true → is_next e.call ≡ true) es → NoneDisposes es → disposed_count es ≡ 0
none_counted [] looks none = refl
none_counted (e ∷ es) looks none =
    let rest : disposed_count es ≡ 0 = none_counted es looks.1 none.1 in
    let first : cond (is_disposed e.reply) 1 0 ≡ 0 = ap (λ (t : Bool). cond t 1 0) (not_disposed e looks.0 none.0) in
    sum_by-cons (λ (f : Entry). cond (is_disposed f.reply) 1 0) e es ∙ (λ i. first i + rest i)

-- where the queue was not disposed of, no entry did
pub none_disposed : (es : List Entry) → list_any (λ (e : Entry). is_disposed e.reply) es ≡ false → NoneDisposes es
none_disposed [] h = tt
none_disposed (e ∷ es) h = let parts = or_parts (is_disposed e.reply) (list_any (λ f. is_disposed f.reply) es) h in (no_reply e parts.0, none_disposed es parts.1)
  where
    no_reply : (e : Entry) → is_disposed e.reply ≡ false → is_disposal e ≡ false
    no_reply e off = ap (λ t. is_next e.call && t) off ∙ and-false (is_next e.call)

-- the calls but the disposals dispose of nothing
pub calls_dispose_nothing : (es : List Entry) → NoneDisposes (calls_among es)
calls_dispose_nothing [] = tt
calls_dispose_nothing (e ∷ es) = go (calls_dispose_nothing es) (is_disposal e) refl
  where
    go : NoneDisposes (calls_among es) → (t : Bool) → is_disposal e ≡ t → NoneDisposes (calls_among (e ∷ es))
    go rest true yes_ = rw yes_ rest
    go rest false off = rw off (off, rest)

-- where none disposed, all are calls
pub calls_are_all : (es : List Entry) → NoneDisposes es → calls_among es ≡ es
calls_are_all [] none = refl
calls_are_all (e ∷ es) none = let first = none.0 in let rest = calls_are_all es none.1 in rw (first, rest) refl

-- ---- the entry that disposed

next_is : (c : Call) → is_next c ≡ true → bare_call c ≡ Next (moment_of c)
next_is (Post p) h = absurd cc
next_is (Barrier now) h = absurd cc
next_is (Unbarrier t) h = absurd cc
next_is (Remove f) h = absurd cc
next_is (Quit safe now) h = absurd cc
next_is (Next now) h = refl
next_is (Advance now) h = absurd cc
next_is (Halt now) h = absurd cc

disposed_is : (r : Reply) → is_disposed r ≡ true → r ≡ reply.Disposed
disposed_is (reply.Accepted n) h = absurd cc
disposed_is (reply.Refused p) h = absurd cc
disposed_is (reply.Token t) h = absurd cc
disposed_is reply.Unbarriered h = absurd cc
disposed_is reply.NotPosted h = absurd cc
disposed_is (reply.Removed n) h = absurd cc
disposed_is reply.QuitDone h = absurd cc
disposed_is (reply.AlreadyQuit p) h = absurd cc
disposed_is reply.NotAllowed h = absurd cc
disposed_is (reply.Dispatched n) h = absurd cc
disposed_is reply.Disposed h = refl
disposed_is reply.Advanced h = absurd cc
disposed_is reply.Halted h = absurd cc

-- a disposal is the look that closes a looper
pub closing_sent : (q : ℕ) (tokens : List ℕ) (e : Entry) → is_disposal e ≡ true
    → IsSent tokens (record { queue = q; ask = Makes (Next (moment_of e.call)); reply = Some reply.Disposed; timing = AnyTime }) e
closing_sent q tokens e is =
    let parts = and_parts (is_next e.call) (is_disposed e.reply) is in
    record { call = next_is e.call parts.0; reply = disposed_is e.reply parts.1 }
