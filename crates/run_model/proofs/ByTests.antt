-- Parts of a run, for reports that are written out: by tests that compute.
use Rattle.std.proofs.Common.{◌≡◌, ℕ, Bool, true, false, List, [], ◌∷◌, ◌++◌, Option, Some, None, refl, arith}
use Rattle.std.specs.Prelude.{◌+◌, ◌==◌, ◌&&◌, ◌||◌, not, nat_lt, nat_le, map, if◌then◌else◌}
use Rattle.std.specs.Option.{option_map}
use Rattle.std.proofs.lemmas.Bool.{and_parts, eqb-true, ltb-true}
use Rattle.std.proofs.lemmas.Bool.Decides.{nat_tests}
use Rattle.loop_model.specs.declared.call.Call.{Call}
use Rattle.loop_model.specs.declared.call.Call.TheVariants as call
use Rattle.loop_model.specs.declared.reply.Reply.{Reply}
use Rattle.loop_model.specs.declared.entry.Entry.{Entry}
use Rattle.loop_model.specs.declared.base.Base.{Base}
use Rattle.loop_model.specs.declared.record.QueueRecord.{QueueRecord}
use Rattle.loop_model.specs.Base.{empty_base}
use Rattle.loop_model.specs.Chain.{IsChainFrom}
use Rattle.loop_model.specs.Answers.{Setting, clock, answer}
use Rattle.loop_model.specs.Legal.{FitsTime, CallFitsTime, IsLegal, IsLegalAfter, made_count, is_control, AreNumbered, AreNumberedAfter}
use Rattle.dash_script.specs.declared.script.Script.{Script}
use Rattle.run_model.specs.Planned.{history_of, bare_call, call_of, token_in, entries_by, AreFor, sender_count, TimedCommand, lines_of, labels_on, lines_on, planned}
use Rattle.run_model.specs.Planned.{IsNoEarlier, IsPlanned}
use Rattle.run_model.specs.Moments.{in_lockstep}
use Rattle.run_model.specs.Run.{record_setting, IsRecordOf}
use Rattle.run_model.specs.Parts.{all_entries}

-- the replies that a queue gives, behind these entries
abbrev pub answers : Setting → Base → List Entry → List Entry → List (Option Reply)
answers s b past [] = []
answers s b past (e ∷ es) = answer s b past e.call ∷ answers s b (past ++ e ∷ []) es

abbrev pub replies : List Entry → List (Option Reply)
replies es = map (λ e. Some e.reply) es

abbrev pub is_moment : Bool → ℕ → ℕ → Bool
is_moment lockstep time now = if lockstep then now == time else nat_le time now

-- the moment of the call fits the time
abbrev pub is_timely : Bool → ℕ → Call → Bool
is_timely lockstep time (call.Barrier now) = is_moment lockstep time now
is_timely lockstep time (call.Quit safe now) = is_moment lockstep time now
is_timely lockstep time (call.Next now) = is_moment lockstep time now
is_timely lockstep time (call.Halt now) = is_moment lockstep time now
is_timely lockstep time (call.Advance now) = nat_le time now
is_timely lockstep time _ = true

abbrev pub are_timely : Setting → Base → List Entry → List Entry → Bool
are_timely s b past [] = true
are_timely s b past (e ∷ es) = is_timely s.lockstep (clock b past) e.call && are_timely s b (past ++ e ∷ []) es

moment_by : (lockstep : Bool) (time now : ℕ) → is_moment lockstep time now ≡ true → FitsTime lockstep time now
moment_by true time now h = grind (arith, nat_tests)
moment_by false time now h = grind (arith, nat_tests)

timely_by : (lockstep : Bool) (time : ℕ) (c : Call) → is_timely lockstep time c ≡ true → CallFitsTime lockstep time c
timely_by lockstep time (call.Post p) h = tt
timely_by lockstep time (call.Barrier now) h = moment_by lockstep time now h
timely_by lockstep time (call.Unbarrier t) h = tt
timely_by lockstep time (call.Remove f) h = tt
timely_by lockstep time (call.Quit safe now) h = moment_by lockstep time now h
timely_by lockstep time (call.Next now) h = moment_by lockstep time now h
timely_by lockstep time (call.Advance now) h = grind (arith, nat_tests)
timely_by lockstep time (call.Halt now) h = moment_by lockstep time now h

legal_after : (s : Setting) (b : Base) (past es : List Entry) → answers s b past es ≡ replies es → are_timely s b past es ≡ true → IsLegalAfter s b past es
legal_after s b past [] same timely = tt
legal_after s b past (e ∷ es) same timely =
    let parts = and_parts (is_timely s.lockstep (clock b past) e.call) _ timely in
    let first : answer s b past e.call ≡ Some e.reply = cc in
    let rest : answers s b (past ++ e ∷ []) es ≡ replies es = cc in
    (record { reply = first; timely = timely_by s.lockstep (clock b past) e.call parts.0 }, legal_after s b (past ++ e ∷ []) es rest parts.1)

-- the entry may be the next of its sender
abbrev pub is_next : Setting → Base → List Entry → Entry → Bool
is_next s b past e = nat_lt e.sender s.senders && (e.seq == made_count b past e.sender) && (not (is_control e.call) || e.sender + 1 == s.senders)

abbrev pub are_numbered : Setting → Base → List Entry → List Entry → Bool
are_numbered s b past [] = true
are_numbered s b past (e ∷ es) = is_next s b past e && are_numbered s b (past ++ e ∷ []) es

holds_then : (c x : Bool) → (not c || x) ≡ true → c ≡ true → x ≡ true
holds_then true x h is = h
holds_then false x h is = cc

numbered_after : (s : Setting) (b : Base) (past es : List Entry) → are_numbered s b past es ≡ true → AreNumberedAfter s b past es
numbered_after s b past [] h = tt
numbered_after s b past (e ∷ es) h =
    let both = and_parts (is_next s b past e) _ h in
    let parts = and_parts (nat_lt e.sender s.senders && (e.seq == made_count b past e.sender)) _ both.0 in
    let two = and_parts (nat_lt e.sender s.senders) _ parts.0 in (
      record {
        known = ltb-true e.sender s.senders two.0;
        counted = eqb-true e.seq (made_count b past e.sender) two.1;
        controller = λ h. eqb-true (e.sender + 1) s.senders (holds_then (is_control e.call) _ parts.1 h);
      },
      numbered_after s b (past ++ e ∷ []) es both.1,
    )

-- a queue's record in lockstep
pub history_by : (s : Script) (r : QueueRecord) → r.main ≡ (r.looper == 0) → r.lockstep ≡ true → r.senders ≡ sender_count s → IsChainFrom (empty_base r.senders) r.segments
    → answers (record_setting r) (empty_base r.senders) [] (history_of r) ≡ replies (history_of r) → are_timely (record_setting r) (empty_base r.senders) [] (history_of r) ≡ true
    → are_numbered (record_setting r) (empty_base r.senders) [] (history_of r) ≡ true → IsRecordOf in_lockstep all_entries s r
unfolding IsLegal AreNumbered
history_by s r main lockstep senders chain same timely numbered = record {
  main = main;
  lockstep = lockstep;
  senders = senders;
  chain = chain;
  legal = legal_after (record_setting r) (empty_base r.senders) [] (history_of r) same timely;
  numbered = numbered_after (record_setting r) (empty_base r.senders) [] (history_of r) numbered;
  clocked = tt;
}

-- the calls that lines plan, for these entries
abbrev pub planned_calls : Script → List ℕ → ℕ → List ℕ → List TimedCommand → List Entry → List (Option Call)
planned_calls s labels q tokens [] es = []
planned_calls s labels q tokens (l ∷ ls) [] = None ∷ []
planned_calls s labels q tokens (l ∷ ls) (e ∷ es) =
    option_map (call_of tokens) (planned s labels q l.time l.command) ∷ planned_calls s labels q (tokens ++ token_in e.reply) ls es

abbrev pub made_calls : List Entry → List (Option Call)
made_calls es = map (λ e. Some (bare_call e.call)) es

no_earlier : (time : ℕ) (c : Call) → IsNoEarlier in_lockstep time c
no_earlier time (call.Post p) = tt
no_earlier time (call.Barrier now) = tt
no_earlier time (call.Unbarrier t) = tt
no_earlier time (call.Remove f) = tt
no_earlier time (call.Quit safe now) = tt
no_earlier time (call.Next now) = tt
no_earlier time (call.Advance now) = tt
no_earlier time (call.Halt now) = tt

pub calls_by : (s : Script) (labels : List ℕ) (q : ℕ) (tokens : List ℕ) (ls : List TimedCommand) (es : List Entry)
    → planned_calls s labels q tokens ls es ≡ made_calls es → AreFor (IsPlanned in_lockstep s labels q) tokens ls es
calls_by s labels q tokens [] [] same = tt
calls_by s labels q tokens [] (e ∷ es) same = cc
calls_by s labels q tokens (l ∷ ls) [] same = cc
calls_by s labels q tokens (l ∷ ls) (e ∷ es) same =
    let first : option_map (call_of tokens) (planned s labels q l.time l.command) ≡ Some (bare_call e.call) = cc in
    let rest : planned_calls s labels q (tokens ++ token_in e.reply) ls es ≡ made_calls es = cc in
    (record { uptime = l.time; allowed = refl; call = first; no_earlier = no_earlier l.time e.call }, calls_by s labels q (tokens ++ token_in e.reply) ls es rest)

-- the lines of a thread that make a call on the queue
abbrev pub thread_lines : Script → ℕ → ℕ → List TimedCommand
thread_lines s q thread = lines_on s (labels_on q (lines_of thread s.blocks)) q (lines_of thread s.blocks)

-- the thread's entries there are those calls
abbrev pub MakesThem : Script → QueueRecord → ℕ → Type 0
MakesThem s r thread =
    planned_calls s (labels_on r.looper (lines_of thread s.blocks)) r.looper [] (thread_lines s r.looper thread) (entries_by thread (history_of r)) ≡ made_calls (entries_by thread (history_of r))
