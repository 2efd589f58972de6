-- A thread runs a command.
use Rattle.std.proofs.Common.{◌≡◌, ℕ, ◌≤◌, ◌==◌, Bool, true, false, cond, List, [], ◌∷◌, ◌++◌, map, refl, sym, ap, ◌∙◌, ◌<◌, set, length, get_or, Option, Some, None, subst, arith, inl, inr, ◌≢◌, eq-eqb, ◌+◌}
use Rattle.std.specs.Prelude.{filter, is_some, is_err, OnOk, Result, Ok, Err, ◌⊎◌, if◌then◌else◌, MatchBool}
use Rattle.std.specs.List.{list_all, flat_map, cons_option}
use Rattle.std.proofs.lemmas.Bool.{and_parts, and_from, leb-true, eqb-true, MatchBool-at_false, ltb-true}
use Rattle.std.proofs.lemmas.List.Folds.{list_all-append}
use Rattle.dash_script.specs.declared.form.LineKind.TheVariants as kind
use Rattle.dash_script.specs.declared.script.Line.{Line}
use Rattle.dash_script.specs.declared.script.Block.{Block}
use Rattle.dash_script.specs.declared.script.Script.{Script}
use Rattle.dash_script.specs.declared.statement.Statement.{Statement}
use Rattle.dash_script.specs.Text.{say, command_line, line_statement, block_lines, script_lines}
use Rattle.dash_script.specs.Causes.{each_number, numbers_pass, is_within, is_declared, phase_count}
use Rattle.dash_script.specs.Reading.{HasText}
use Rattle.dash_script.proofs.Sections.{both, sections_pass}
use Rattle.run_model.specs.Planned.{TimedCommand, lines_of, bare_call, call_of, planned, lines_on, IsNoEarlier, token_in, label_on, labels_on, frame_message, frame_due, on}
use Rattle.run_model.specs.Parts.{lines_in, MakeCalls}
use Rattle.std.specs.Option.{option_map}
use Rattle.std.proofs.lemmas.List.{get_or_read, get_or-set_same, get_or-set_other, length-set, append-nil, length-append, map-append}
use Rattle.loop_model.specs.declared.entry.Entry.{Entry}
use Rattle.looper_run.specs.Holding.{Sender}
use Rattle.run_model.specs.AskedSoFar.{tokens_in, lines_ask}
use Rattle.run_model.specs.Moments.{Mode, IfFree, IsUptime, IsMomentOf}
use Rattle.run_model.proofs.RunLaws.{MakeCalls-line, MakeCalls-skip}
use Rattle.dash_hall.specs.declared.calls.QueueCall.{QueueCall}
use Rattle.dash_hall.specs.declared.hall.Hall.{Hall}
use Rattle.dash_hall.proofs.Clocking.{if_free, IfTimed, clocked_call, no_earlier_call, clocked_same}
use Rattle.dash_hall.proofs.PassesHearing.{passes_heard_self}
use Rattle.dash_threads.specs.declared.thread.PostingThread.{PostingThread}
use Rattle.dash_threads.specs.AtWork.{WorksOn, RingsBells}
use Rattle.dash_threads.specs.Threads.{IsThread, Performs, CallsAt, rungs_of, HasCalled, AreByClock, HasAsked, HasTurned, labels_kept, tokens_kept, KeepsBarriers, IsUpTo, RunsLine, TakesAt, with_barrier, Called, CalledIf, MakesPlanned, Progress}
use Rattle.dash_threads.proofs.ThreadLabels.{at_each_uptime, is_some_mapped, call_at, as_planned, is_kept, unbarrier_plan, asked_if}
use Rattle.std.proofs.lemmas.List.Concat.{flat_map-append}
use Rattle.std.proofs.lemmas.List.Elements.{filter_map-append}
use Rattle.dash_script.specs.declared.script.Command.{Command}
use Rattle.dash_script.specs.declared.script.Command.TheVariants.{Post, PostAsync, Front, Callback, Set, Remove, RemoveCallback, RemoveAll, Barrier, Unbarrier, Quit, QuitSafely, Idle, Watch, Event, Frame, Unframe}
use Rattle.choreographer.specs.Known.{Pass, IsFrameTurn, SharedFrames, IsPassOf}
use Rattle.run_model.specs.FrameRecords.{FrameAsk, as_told, line_asks, Removes, asked_in, asks_in, Posts}
use Rattle.dash_threads.specs.declared.labels.Labelled.{Labelled}
use Rattle.dash_threads.specs.declared.planned.PlannedCall.{PlannedCall}
use Rattle.dash_hall.specs.declared.calls.QueueCall.TheVariants as on_queue
use Rattle.dash_hall.specs.Growth.{own, GoesOn, Makes}
use Rattle.dash_hall.specs.ByClock.{IsByClock, IsInMode}
use Rattle.dash_hall.specs.QueueCalls.{call_made, tokens_of, posts_barrier}
use Rattle.dash_threads.specs.Planning.{removal_of}
use Rattle.message_pool.specs.Passes.{Tally}
use Rattle.frame_phases.specs.declared.entry.FrameEntry.TheVariants as frame
use Rattle.frame_phases.specs.State.{removed, past}
use Rattle.frame_phases.specs.Frames.{removed_count}
use Rattle.choreographer.specs.declared.state.StampedFrames.{StampedFrames}
use Rattle.choreographer.proofs.Recorded.{turn_records}
use Rattle.dash_hall.specs.Hosts.{HostOrigin, IsHost, sends_by, PlacesBy, PostsFrame, AsksFor, pass_asks}
use Rattle.dash_hall.proofs.FramePosts.{posts_frame_by}
use Rattle.loop_model.specs.declared.call.Call.TheVariants as call
use mathlib.Core.List.{IsPrefix}
use Rattle.std.proofs.Math.Seq.{map-set_same}
use Rattle.atomic_table.specs.Seated.{TableId}
use Rattle.shared_queue.specs.Constants.{Constants}
use Rattle.shared_queue.specs.Known.{Shared, IsOf}
use Rattle.choreographer.specs.declared.view.Constants.{Constants as FrameConstants}
use Rattle.dash_hall.specs.Kits.{IsHall, badge_of, badge_for, frame_badge_of, queue_constants, ArePostersOf, ArePassesOf}
use Rattle.dash_hall.proofs.Badges.{alike_length, poster_at, queue_at, poster_is, pass_is, posters_kept, gone_badge, passes_kept, queue_count, queue_is, choreographer_count, choreographer_at}

-- ==== what the limits of a text say of a thread's commands

-- at most eight loopers
pub few_loopers : (s : Script) → HasText s → s.loopers ≤ 8
unfolding each_number
few_loopers s text =
    let first = (sections_pass (numbers_pass (is_within s)) s text.limits).first in
    let second = (and_parts _ _ (and_parts _ _ first).1).0 in
    leb-true s.loopers 8 (and_parts _ _ (and_parts _ _ second).0).1

-- a test of a thread's line
abbrev pub passes : (Statement → Bool) → ℕ → TimedCommand → Bool
passes p thread l = p (command_line thread l.command)

abbrev timed : ℕ → ℕ → List Line → List TimedCommand
timed thread time ls = map (λ l. record { time = time; command = l.command }) (filter (λ l. l.thread == thread) ls)

one_passes : (p : Statement → Bool) (thread time : ℕ) (l : Line) (ls : List Line) (b : Bool) → (l.thread == thread) ≡ b → p (line_statement l) ≡ true → list_all (passes p thread) (timed thread time ls) ≡ true
    → list_all (passes p thread) (map (λ x. record { time = time; command = x.command }) (cond b (l ∷ filter (λ x. x.thread == thread) ls) (filter (λ x. x.thread == thread) ls))) ≡ true
one_passes p thread time l ls true is mine rest = and_from _ _ (ap (λ (n : ℕ). p (command_line n l.command)) (sym (eqb-true l.thread thread is)) ∙ mine) rest
one_passes p thread time l ls false is mine rest = rest

timed_pass : (p : Statement → Bool) (thread time : ℕ) (ls : List Line) → list_all p (map line_statement ls) ≡ true → list_all (passes p thread) (timed thread time ls) ≡ true
timed_pass p thread time [] all = refl
timed_pass p thread time (l ∷ ls) all =
    let parts = and_parts (p (line_statement l)) (list_all p (map line_statement ls)) all in
    one_passes p thread time l ls (l.thread == thread) refl parts.0 (timed_pass p thread time ls parts.1)

pub lines_pass : (p : Statement → Bool) (thread : ℕ) (bs : List Block) → list_all p (flat_map block_lines bs) ≡ true → list_all (passes p thread) (lines_of thread bs) ≡ true
lines_pass p thread [] all = refl
lines_pass p thread (b ∷ bs) all =
    let parts = both p (block_lines b) (flat_map block_lines bs) all in
    let own = and_parts (p (say kind.At (b.time ∷ []))) (list_all p (map line_statement b.lines)) parts.0 in
    list_all-append (passes p thread) (lines_in thread b) (lines_of thread bs) ∙ and_from _ _ (timed_pass p thread b.time b.lines own.1) (lines_pass p thread bs parts.1)

-- each line of a thread passes what all lines pass
pub line_passes : (p : Statement → Bool) (s : Script) (thread : ℕ) (past rest : List TimedCommand) (l : TimedCommand) → list_all p (script_lines s) ≡ true → past ++ (l ∷ rest) ≡ lines_of thread s.blocks → p (command_line thread l.command) ≡ true
line_passes p s thread past rest l all are =
    let each : list_all (passes p thread) (past ++ (l ∷ rest)) ≡ true = ap (list_all (passes p thread)) are ∙ lines_pass p thread s.blocks (sections_pass p s all).blocks in
    let behind = and_parts (list_all (passes p thread) past) (list_all (passes p thread) (l ∷ rest)) (sym (list_all-append (passes p thread) past (l ∷ rest)) ∙ each) in
    (and_parts _ _ behind.1).0

-- ==== a thread's own entries, one line further

pub on_ok : {A E : Type 0} (r : Result A E) (P Q : Type 0) → (P → Q) → OnOk r P → OnOk r Q
on_ok (Ok x) P Q f h = f h
on_ok (Err e) P Q f h = tt

-- a thread that did nothing works on, and rang no bell
pub works_still : (s : Script) (h : Hall) (t : PostingThread) → IsThread s h t → WorksOn s h t t
works_still s h t is = record { thread = is; number = refl; passed = refl; goes = refl; bells = refl }

pub rings_none : (s : Script) (h : Hall) (t : PostingThread) (rungs : List ℕ) → IsThread s h t → rungs_of t ≡ rungs → RingsBells s h rungs t t
rings_none s h t rungs is same = record {
  thread = is;
  kept = record { number = refl; posters = refl; pass = refl; frames = passes_heard_self t.kit.frames.items; barriers = refl; passed = refl; gave_up = refl };
  rung = same;
}

pub ok_is : {A E : Type 0} (r : Result A E) (P : Type 0) → is_err r ≡ false → OnOk r P → P
ok_is (Ok x) P is h = h
ok_is (Err e) P is h = absurd cc

pub calls_at_set : (ps : List Sender) (i : ℕ) (p q : Sender) (c : QueueCall) (token : Option ℕ) → p ≡ get_or ps i p → i < length ps → Performs c token p q → CallsAt i c token ps (set ps i q)
calls_at_set ps i p q c token is near made = record {
  long = length-set ps i q;
  here = λ d near'. subst (λ (z : Sender). Performs c token z (get_or (set ps i q) i d)) (get_or_read ps i p near is d) (subst (λ (z : Sender). Performs c token p z) (sym (get_or-set_same ps i q d near)) made);
  elsewhere = λ k d other. get_or-set_other ps i k q d other;
}

pub calls_nowhere : (ps : List Sender) (i : ℕ) (c : QueueCall) (token : Option ℕ) → length ps ≤ i → CallsAt i c token ps ps
calls_nowhere ps i c token far = record { long = refl; here = λ d near. absurd (omega (arith, near, far)); elsewhere = λ k d other. refl }

-- an uptime that a line may have is in free mode no earlier than its block, and a moment of the clock
pub late_of : (m : Mode) (time u : ℕ) → IsUptime m time u → IfFree m (time ≤ u)
late_of m time u up = if_free m.lockstep (time ≤ u) (λ free. (MatchBool-at_false (u ≡ time) ((time ≤ u) × IsMomentOf m u) free up).0)

pub moment_of_uptime : (m : Mode) (time u : ℕ) → IsUptime m time u → IfFree m (IsMomentOf m u)
moment_of_uptime m time u up = if_free m.lockstep (IsMomentOf m u) (λ free. (MatchBool-at_false (u ≡ time) ((time ≤ u) × IsMomentOf m u) free up).1)

-- what a line does at this uptime to the thread's entries on a queue: nothing, where it plans no call there, or it makes that call, no earlier than its block
abbrev pub StepOn : Mode → Script → List ℕ → ℕ → ℕ → TimedCommand → List Entry → List Entry → Type 0
StepOn m s labels q u l es fs =
    ((planned s labels q u l.command ≡ None) × (fs ≡ es))
    ⊎ ((e : Entry) × (fs ≡ es ++ e ∷ []) × (option_map (call_of (tokens_in es)) (planned s labels q u l.command) ≡ Some (bare_call e.call)) × IsNoEarlier m l.time e.call)

on_here : (s : Script) (labels : List ℕ) (q u : ℕ) (l : TimedCommand) (b : Bool) → is_some (planned s labels q u l.command) ≡ b → lines_on s labels q (l ∷ []) ≡ cond b (l ∷ []) []
on_here s labels q u l b is = ap (λ (t : Bool). cond t (l ∷ []) []) (at_each_uptime s labels q u l.command ∙ is)

pub step_calls : (m : Mode) (s : Script) (labels : List ℕ) (q u : ℕ) (past : List TimedCommand) (l : TimedCommand) (es fs : List Entry) → IsUptime m l.time u → MakeCalls m s labels q past es → StepOn m s labels q u l es fs → MakeCalls m s labels q (past ++ l ∷ []) fs
step_calls m s labels q u past l es fs allowed made (inl (none, same)) =
    subst (λ (z : List Entry). MakeCalls m s labels q (past ++ l ∷ []) z) (sym same)
    (MakeCalls-skip m s labels q past l es made (on_here s labels q u l false (ap is_some none)))
step_calls m s labels q u past l es fs allowed made (inr (e, more, is, late)) =
    let some : is_some (planned s labels q u l.command) ≡ true = sym (is_some_mapped (call_of (tokens_in es)) (planned s labels q u l.command)) ∙ ap is_some is in
    subst (λ (z : List Entry). MakeCalls m s labels q (past ++ l ∷ []) z) (sym more)
    (MakeCalls-line m s labels q past l es e made (on_here s labels q u l true some)
    (record { uptime = u; allowed = allowed; call = is; no_earlier = late }))

-- ==== a thread that runs one line more

-- a line at this time
abbrev pub line : ℕ → Command → TimedCommand
line u c = record { time = u; command = c }

map_none : {A B : Type 0} (f : A → B) (o : Option A) → option_map f o ≡ None → o ≡ None
map_none f None none = refl
map_none f (Some x) none = absurd cc

apart_from : (p q : ℕ) → (p == q) ≡ false → q ≢ p
apart_from p q isnt same = absurd (let wrong : true ≡ false = sym (eq-eqb p q (sym same)) ∙ isnt in cc wrong)

-- ---- one queue

its_call : (ps ps' : List Sender) (p : PlannedCall) (token : Option ℕ) (q : ℕ) (d : Sender) → CallsAt p.looper p.call token ps ps' → q < length ps → (p.looper == q) ≡ true
    → Performs p.call token (get_or ps q d) (get_or ps' q d)
its_call ps ps' p token q d calls near is =
    let here : p.looper ≡ q = eqb-true p.looper q is in
    let far : p.looper < length ps = omega (arith, here, near) in
    subst (λ (n : ℕ). Performs p.call token (get_or ps n d) (get_or ps' n d)) here (calls.here d far)

tokens_after : (ps ps' : List Sender) (p : PlannedCall) (token : Option ℕ) (q : ℕ) (d : Sender) → CallsAt p.looper p.call token ps ps' → q < length ps → (b : Bool) → (p.looper == q) ≡ b
    → tokens_in (own (get_or ps' q d)) ≡ tokens_in (own (get_or ps q d)) ++ (if b then tokens_of token else [])
tokens_after ps ps' p token q d calls near true is =
    let made = (its_call ps ps' p token q d calls near is).made in
    ap tokens_in made.made
    ∙ (flat_map-append (λ (e : Entry). token_in e.reply) (own (get_or ps q d)) (made.entry ∷ [])
    ∙ ap (λ (ts : List ℕ). tokens_in (own (get_or ps q d)) ++ ts) (append-nil (token_in made.entry.reply) ∙ made.answered))
tokens_after ps ps' p token q d calls near false is =
    ap (λ (z : Sender). tokens_in (own z)) (calls.elsewhere q d (apart_from p.looper q is)) ∙ sym (append-nil (tokens_in (own (get_or ps q d))))

-- the posters of a thread's queues are in the mode
abbrev pub AreInMode : Mode → List Sender → Type 0
AreInMode m ps = (q : ℕ) (d : Sender) → q < length ps → IsInMode m (get_or ps q d)

-- what is so of an uptime is so of the moment that the call names
abbrev pub IsAtUptime : ℕ → PlannedCall → Type 1
IsAtUptime u p = (P : ℕ → Type 0) → P u → IfTimed P p.call

module _ (m : Mode) (s : Script) (u : ℕ) (l : TimedCommand) (ps ps' : List Sender) (p : PlannedCall) (token : Option ℕ) (allowed : IsUptime m l.time u) (mode : AreInMode m ps) (at : IsAtUptime u p) (calls : CallsAt p.looper p.call token ps ps') where
  step_at : (labels : List ℕ) (q : ℕ) (d : Sender) → q < length ps → option_map (call_of (tokens_in (own (get_or ps q d)))) (planned s labels q u l.command) ≡ call_at p q → (b : Bool) → (p.looper == q) ≡ b
      → StepOn m s labels q u l (own (get_or ps q d)) (own (get_or ps' q d))
  step_at labels q d near plan true is =
      let call = its_call ps ps' p token q d calls near is in
      inr (
        call.made.entry,
        call.made.made,
        plan ∙ (ap (λ (b : Bool). if b then Some (call_made p.call) else None) is ∙ ap Some (sym call.made.makes)),
        no_earlier_call m l.time p.call token (get_or ps q d) (get_or ps' q d) (mode q d near) (at (λ n. IfFree m (l.time ≤ n)) (late_of m l.time u allowed)) call.made call.moment,
      )
  step_at labels q d near plan false is =
      inl (map_none _ _ (plan ∙ ap (λ (b : Bool). if b then Some (call_made p.call) else None) is), ap own (calls.elsewhere q d (apart_from p.looper q is)))

  clocked_at : (q : ℕ) (d : Sender) → q < length ps → IsByClock m (get_or ps q d) → (b : Bool) → (p.looper == q) ≡ b → IsByClock m (get_or ps' q d)
  clocked_at q d near by true is =
      let call = its_call ps ps' p token q d calls near is in
      clocked_call m p.call token (get_or ps q d) (get_or ps' q d) (mode q d near) (at (λ n. IfFree m (IsMomentOf m n)) (moment_of_uptime m l.time u allowed)) call.sender call.seen call.made call.moment by
  clocked_at q d near by false is = subst (IsByClock m) (sym (calls.elsewhere q d (apart_from p.looper q is))) by

  -- ---- one line more

  pub called_more : (past : List TimedCommand) (n n' : ℕ) → n' ≡ n → HasCalled m s past n ps
      → ((q : ℕ) (d : Sender) → q < length ps → option_map (call_of (tokens_in (own (get_or ps q d)))) (planned s (labels_on q (lines_of n s.blocks)) q u l.command) ≡ call_at p q)
      → HasCalled m s (past ++ l ∷ []) n' ps'
  called_more past n n' number has plan =
      subst (λ (k : ℕ). HasCalled m s (past ++ l ∷ []) k ps') (sym number)
      (λ q d near'. (
      let near : q < length ps = omega (arith, near', calls.long) in
      step_calls m s (labels_on q (lines_of n s.blocks)) q u past l (own (get_or ps q d)) (own (get_or ps' q d)) allowed (has q d near)
      (step_at (labels_on q (lines_of n s.blocks)) q d near (plan q d near) (p.looper == q) refl)))

  pub clocked_more : AreByClock m ps → AreByClock m ps'
  clocked_more by = λ q d near'. (let near : q < length ps = omega (arith, near', calls.long) in clocked_at q d near (by q d near) (p.looper == q) refl)

labels_more : (q : ℕ) (past : List TimedCommand) (l : TimedCommand) → labels_on q (past ++ l ∷ []) ≡ labels_on q past ++ cons_option (label_on q l.command) []
labels_more q past l = filter_map-append (λ (t : TimedCommand). label_on q t.command) past (l ∷ [])

pub labels_none : (q : ℕ) (past : List TimedCommand) (l : TimedCommand) → label_on q l.command ≡ None → labels_on q (past ++ l ∷ []) ≡ labels_on q past
labels_none q past l none = labels_more q past l ∙ (ap (λ (o : Option ℕ). labels_on q past ++ cons_option o []) none ∙ append-nil (labels_on q past))

none_if : (xs ts : List ℕ) (b : Bool) → (b ≡ true → ts ≡ []) → xs ++ (if b then ts else []) ≡ xs
none_if xs ts true none = ap (λ (l : List ℕ). xs ++ l) (none refl) ∙ append-nil xs
none_if xs ts false none = append-nil xs

no_tokens : (token : Option ℕ) → is_some token ≡ false → tokens_of token ≡ []
no_tokens None is = refl
no_tokens (Some k) is = absurd cc

pub kept_same : (past : List TimedCommand) (l : TimedCommand) (bs bs' : List Labelled) (ps ps' : List Sender) (p : PlannedCall) (token : Option ℕ) → CallsAt p.looper p.call token ps ps' → KeepsBarriers past bs ps
    → bs' ≡ bs → ((q : ℕ) → label_on q l.command ≡ None) → (p.looper < length ps → is_some token ≡ false) → KeepsBarriers (past ++ l ∷ []) bs' ps'
kept_same past l bs bs' ps ps' p token calls kept same none no_token = record {
  labels = λ q. ap (labels_kept q) same ∙ (kept.labels q ∙ sym (labels_more q past l ∙ (ap (λ (o : Option ℕ). labels_on q past ++ cons_option o []) (none q) ∙ append-nil (labels_on q past))));
  tokens = λ q d near'. (
      let near : q < length ps = omega (arith, near', calls.long) in
      ap (tokens_kept q) same ∙ (kept.tokens q d near
      ∙ sym (tokens_after ps ps' p token q d calls near (p.looper == q) refl
      ∙ none_if (tokens_in (own (get_or ps q d))) (tokens_of token) (p.looper == q) (λ is. (let here : p.looper ≡ q = eqb-true p.looper q is in no_tokens token (no_token (omega (arith, here, near))))))));
}

as_option : (k : ℕ) (b : Bool) → cons_option (if b then Some k else None) [] ≡ (if b then k ∷ [] else [])
as_option k true = refl
as_option k false = refl

kept_more : (past : List TimedCommand) (u lo b k : ℕ) (bs : List Labelled) (ps ps' : List Sender) (p : PlannedCall) → p.looper ≡ lo → CallsAt p.looper p.call (Some k) ps ps' → KeepsBarriers past bs ps
    → KeepsBarriers (past ++ line u (Barrier lo b) ∷ []) (bs ++ record { label = b; looper = lo; token = k } ∷ []) ps'
kept_more past u lo b k bs ps ps' p here calls kept = record {
  labels = λ q. filter_map-append (λ (x : Labelled). if x.looper == q then Some x.label else None) bs (record { label = b; looper = lo; token = k } ∷ [])
      ∙ (ap (λ (ls : List ℕ). ls ++ cons_option (if lo == q then Some b else None) []) (kept.labels q) ∙ sym (labels_more q past (line u (Barrier lo b))));
  tokens = λ q d near'. (
      let near : q < length ps = omega (arith, near', calls.long) in
      filter_map-append (λ (x : Labelled). if x.looper == q then Some x.token else None) bs (record { label = b; looper = lo; token = k } ∷ [])
      ∙ ((λ i. kept.tokens q d near i ++ as_option k (lo == q) i)
      ∙ (ap (λ (n : ℕ). tokens_in (own (get_or ps q d)) ++ (if n == q then k ∷ [] else [])) (sym here)
      ∙ sym (tokens_after ps ps' p (Some k) q d calls near (p.looper == q) refl))));
}

pub asks_more : (q : ℕ) (past : List TimedCommand) (l : TimedCommand) → lines_ask q (past ++ l ∷ []) ≡ lines_ask q past ++ cons_option (line_asks q l) []
asks_more q past l = filter_map-append (line_asks q) past (l ∷ [])

asks_none : (q : ℕ) (past : List TimedCommand) (l : TimedCommand) → line_asks q l ≡ None → lines_ask q (past ++ l ∷ []) ≡ lines_ask q past
asks_none q past l none = asks_more q past l ∙ (ap (λ (o : Option FrameAsk). lines_ask q past ++ cons_option o []) none ∙ append-nil (lines_ask q past))

asked_same : (m : Mode) (past : List TimedCommand) (l : TimedCommand) (fr fr' : List Pass) → fr' ≡ fr → HasAsked m past fr → ((q : ℕ) → line_asks q l ≡ None) → HasAsked m (past ++ l ∷ []) fr'
asked_same m past l fr fr' same has none = subst (HasAsked m (past ++ l ∷ [])) (sym same) (λ q d near. has q d near ∙ sym (ap (map (as_told m.lockstep)) (asks_none q past l (none q))))

turned_same : (past : List TimedCommand) (l : TimedCommand) (fr fr' : List Pass) → fr' ≡ fr → HasTurned past fr → ((q : ℕ) → line_asks q l ≡ None) → HasTurned (past ++ l ∷ []) fr'
turned_same past l fr fr' same has none = subst (HasTurned (past ++ l ∷ [])) (sym same) (λ q d near. has q d near ∙ sym (ap length (asks_none q past l (none q))))

-- ---- by the command

plain_call : (m : Mode) (s : Script) (time u : ℕ) (c : Command) (t t' : PostingThread) (p : PlannedCall) (past : List TimedCommand) → IsUptime m time u → AreInMode m t.kit.posters.items → IsAtUptime u p
    → t'.number ≡ t.number → (call : Called c p t t') → IsUpTo m s past t
    → ((q : ℕ) (d : Sender) → q < length t.kit.posters.items → option_map (call_of (tokens_in (own (get_or t.kit.posters.items q d)))) (planned s (labels_on q (lines_of t.number s.blocks)) q u c) ≡ call_at p q)
    → ((q : ℕ) → label_on q c ≡ None) → with_barrier t.barriers.items c call.token ≡ t.barriers.items → posts_barrier p.call ≡ false
    → ((q : ℕ) → line_asks q (line time c) ≡ None)
    → IsUpTo m s (past ++ line time c ∷ []) t'
plain_call m s time u c t t' p past allowed mode at number call up plan no_label same no_token no_ask =
    let frames : t'.kit.frames.items ≡ t.kit.frames.items = ap (λ v. v.items) call.frames in
    record {
      called = called_more m s u (line time c) t.kit.posters.items t'.kit.posters.items p call.token allowed mode at call.calls past t.number t'.number number up.called plan;
      clocked = clocked_more m s u (line time c) t.kit.posters.items t'.kit.posters.items p call.token allowed mode at call.calls up.clocked;
      barriers = kept_same past (line time c) t.barriers.items t'.barriers.items t.kit.posters.items t'.kit.posters.items p call.token call.calls up.barriers (call.barriers ∙ same) no_label (λ near. call.answered near ∙ no_token);
      asked = asked_same m past (line time c) t.kit.frames.items t'.kit.frames.items frames up.asked no_ask;
      turned = turned_same past (line time c) t.kit.frames.items t'.kit.frames.items frames up.turned no_ask;
    }

some_of : (o : Option ℕ) → is_some o ≡ true → (k : ℕ) × (o ≡ Some k)
some_of None is = absurd cc
some_of (Some k) is = (k, refl)

its_looper : (s : Script) (n time lo b : ℕ) (past rest : List TimedCommand) → HasText s → past ++ (line time (Barrier lo b) ∷ rest) ≡ lines_of n s.blocks → lo < s.loopers
unfolding each_number
its_looper s n time lo b past rest text are =
    let all = line_passes (numbers_pass (is_declared s)) s n past rest (line time (Barrier lo b)) text.names are in
    ltb-true lo s.loopers (and_parts _ _ (and_parts _ _ all).1).0

barrier_call : (m : Mode) (s : Script) (time u lo b : ℕ) (t t' : PostingThread) (past rest : List TimedCommand) → IsUptime m time u → AreInMode m t.kit.posters.items → HasText s → length t.kit.posters.items ≡ s.loopers → t'.number ≡ t.number
    → Called (Barrier lo b) (record { looper = lo; call = on_queue.PostBarrier u }) t t' → past ++ (line time (Barrier lo b) ∷ rest) ≡ lines_of t.number s.blocks → IsUpTo m s past t → IsUpTo m s (past ++ line time (Barrier lo b) ∷ []) t'
barrier_call m s time u lo b t t' past rest allowed mode text long number call are up =
    let p : PlannedCall = record { looper = lo; call = on_queue.PostBarrier u } in
    let near : lo < length t.kit.posters.items = (let lt = its_looper s t.number time lo b past rest text are in omega (arith, lt, long)) in
    let found = some_of call.token (call.answered near) in
    let calls : CallsAt lo p.call (Some found.0) t.kit.posters.items t'.kit.posters.items =
    subst (λ (o : Option ℕ). CallsAt lo p.call o t.kit.posters.items t'.kit.posters.items) found.1 call.calls in
    let barriers : t'.barriers.items ≡ t.barriers.items ++ record { label = b; looper = lo; token = found.0 } ∷ [] =
    call.barriers ∙ ap (with_barrier t.barriers.items (Barrier lo b)) found.1 in
    let frames : t'.kit.frames.items ≡ t.kit.frames.items = ap (λ v. v.items) call.frames in
    record {
      called = called_more m s u (line time (Barrier lo b)) t.kit.posters.items t'.kit.posters.items p call.token allowed mode (λ P h. h) call.calls past t.number t'.number number up.called
          (λ q d near. as_planned s t.barriers.items (labels_on q (lines_of t.number s.blocks)) (tokens_in (own (get_or t.kit.posters.items q d))) q u (Barrier lo b) p refl refl);
      clocked = clocked_more m s u (line time (Barrier lo b)) t.kit.posters.items t'.kit.posters.items p call.token allowed mode (λ P h. h) call.calls up.clocked;
      barriers = subst (λ (bs : List Labelled). KeepsBarriers (past ++ line time (Barrier lo b) ∷ []) bs t'.kit.posters.items) (sym barriers)
          (kept_more past time lo b found.0 t.barriers.items t.kit.posters.items t'.kit.posters.items p refl calls up.barriers);
      asked = asked_same m past (line time (Barrier lo b)) t.kit.frames.items t'.kit.frames.items frames up.asked (λ q. refl);
      turned = turned_same past (line time (Barrier lo b)) t.kit.frames.items t'.kit.frames.items frames up.turned (λ q. refl);
    }

-- a line that makes no call and posts and removes no frame callback
nothing_more : (m : Mode) (s : Script) (time u : ℕ) (c : Command) (t : PostingThread) (past : List TimedCommand) → IsUptime m time u → IsUpTo m s past t → ((q : ℕ) (labels : List ℕ) → planned s labels q u c ≡ None) → ((q : ℕ) → label_on q c ≡ None)
    → ((q : ℕ) → line_asks q (line time c) ≡ None) → IsUpTo m s (past ++ line time c ∷ []) t
nothing_more m s time u c t past allowed up none no_label no_ask = record {
  called = λ q d near. step_calls m s (labels_on q (lines_of t.number s.blocks)) q u past (line time c) (own (get_or t.kit.posters.items q d)) (own (get_or t.kit.posters.items q d)) allowed (up.called q d near) (inl (none q (labels_on q (lines_of t.number s.blocks)), refl));
  clocked = up.clocked;
  barriers = record {
    labels = λ q. up.barriers.labels q ∙ sym (labels_more q past (line time c) ∙ (ap (λ (o : Option ℕ). labels_on q past ++ cons_option o []) (no_label q) ∙ append-nil (labels_on q past)));
    tokens = up.barriers.tokens;
  };
  asked = asked_same m past (line time c) t.kit.frames.items t.kit.frames.items refl up.asked no_ask;
  turned = turned_same past (line time c) t.kit.frames.items t.kit.frames.items refl up.turned no_ask;
}

unbarrier_call : (m : Mode) (s : Script) (time u b : ℕ) (t t' : PostingThread) (past rest : List TimedCommand) → IsUptime m time u → AreInMode m t.kit.posters.items → HasText s → t'.number ≡ t.number → MakesPlanned s u (Unbarrier b) t t'
    → past ++ (line time (Unbarrier b) ∷ rest) ≡ lines_of t.number s.blocks → IsUpTo m s past t → IsUpTo m s (past ++ line time (Unbarrier b) ∷ []) t'
unbarrier_call m s time u b t t' past rest allowed mode text number made are up =
    let kept = is_kept s t.number text past rest (line time (Unbarrier b)) b are refl t.barriers.items up.barriers.labels in
    let call : Called (Unbarrier b) (removal_of kept.0) t t' = subst (λ (o : Option Labelled). CalledIf (Unbarrier b) (option_map removal_of o) t t') kept.1 made in
    plain_call m s time u (Unbarrier b) t t' (removal_of kept.0) past allowed mode (λ P h. tt) number call up
    (λ q d near. unbarrier_plan s t.number text past rest (line time (Unbarrier b)) b are refl t.barriers.items up.barriers.labels kept.0 q u (tokens_in (own (get_or t.kit.posters.items q d))) kept.1 (sym (up.barriers.tokens q d near)))
    (λ q. refl) refl refl (λ q. refl)

-- what a command planned was made: the thread has run its line
pub made_takes : (m : Mode) (s : Script) (time u : ℕ) (c : Command) (t t' : PostingThread) → IsUptime m time u → AreInMode m t.kit.posters.items → HasText s → length t.kit.posters.items ≡ s.loopers → t'.number ≡ t.number
    → ((l p i d : ℕ) → c ≡ Frame l p i d → ⊥) → ((l p i : ℕ) → c ≡ Unframe l p i → ⊥) → MakesPlanned s u c t t' → RunsLine m s (line time c) t t'
made_takes m s time u (Post h w d) t t' allowed mode text long number frame unframe call = λ past rest are up. plain_call m s time u (Post h w d) t t' _ past allowed mode (λ P h. tt) number call up (λ q z near. as_planned s t.barriers.items (labels_on q (lines_of t.number s.blocks)) (tokens_in (own (get_or t.kit.posters.items q z))) q u (Post h w d) _ refl refl) (λ q. refl) refl refl (λ q. refl)
made_takes m s time u (PostAsync h w d) t t' allowed mode text long number frame unframe call = λ past rest are up. plain_call m s time u (PostAsync h w d) t t' _ past allowed mode (λ P h. tt) number call up (λ q z near. as_planned s t.barriers.items (labels_on q (lines_of t.number s.blocks)) (tokens_in (own (get_or t.kit.posters.items q z))) q u (PostAsync h w d) _ refl refl) (λ q. refl) refl refl (λ q. refl)
made_takes m s time u (Front h w) t t' allowed mode text long number frame unframe call = λ past rest are up. plain_call m s time u (Front h w) t t' _ past allowed mode (λ P h. tt) number call up (λ q z near. as_planned s t.barriers.items (labels_on q (lines_of t.number s.blocks)) (tokens_in (own (get_or t.kit.posters.items q z))) q u (Front h w) _ refl refl) (λ q. refl) refl refl (λ q. refl)
made_takes m s time u (Callback h i d) t t' allowed mode text long number frame unframe call = λ past rest are up. plain_call m s time u (Callback h i d) t t' _ past allowed mode (λ P h. tt) number call up (λ q z near. as_planned s t.barriers.items (labels_on q (lines_of t.number s.blocks)) (tokens_in (own (get_or t.kit.posters.items q z))) q u (Callback h i d) _ refl refl) (λ q. refl) refl refl (λ q. refl)
made_takes m s time u (Set g v) t t' allowed mode text long number frame unframe call = λ past rest are up. plain_call m s time u (Set g v) t t' _ past allowed mode (λ P h. tt) number call up (λ q z near. as_planned s t.barriers.items (labels_on q (lines_of t.number s.blocks)) (tokens_in (own (get_or t.kit.posters.items q z))) q u (Set g v) _ refl refl) (λ q. refl) refl refl (λ q. refl)
made_takes m s time u (Remove h w) t t' allowed mode text long number frame unframe call = λ past rest are up. plain_call m s time u (Remove h w) t t' _ past allowed mode (λ P h. tt) number call up (λ q z near. as_planned s t.barriers.items (labels_on q (lines_of t.number s.blocks)) (tokens_in (own (get_or t.kit.posters.items q z))) q u (Remove h w) _ refl refl) (λ q. refl) refl refl (λ q. refl)
made_takes m s time u (RemoveCallback h i) t t' allowed mode text long number frame unframe call = λ past rest are up. plain_call m s time u (RemoveCallback h i) t t' _ past allowed mode (λ P h. tt) number call up (λ q z near. as_planned s t.barriers.items (labels_on q (lines_of t.number s.blocks)) (tokens_in (own (get_or t.kit.posters.items q z))) q u (RemoveCallback h i) _ refl refl) (λ q. refl) refl refl (λ q. refl)
made_takes m s time u (RemoveAll h) t t' allowed mode text long number frame unframe call = λ past rest are up. plain_call m s time u (RemoveAll h) t t' _ past allowed mode (λ P h. tt) number call up (λ q z near. as_planned s t.barriers.items (labels_on q (lines_of t.number s.blocks)) (tokens_in (own (get_or t.kit.posters.items q z))) q u (RemoveAll h) _ refl refl) (λ q. refl) refl refl (λ q. refl)
made_takes m s time u (Quit l) t t' allowed mode text long number frame unframe call = λ past rest are up. plain_call m s time u (Quit l) t t' _ past allowed mode (λ P h. h) number call up (λ q z near. as_planned s t.barriers.items (labels_on q (lines_of t.number s.blocks)) (tokens_in (own (get_or t.kit.posters.items q z))) q u (Quit l) _ refl refl) (λ q. refl) refl refl (λ q. refl)
made_takes m s time u (QuitSafely l) t t' allowed mode text long number frame unframe call = λ past rest are up. plain_call m s time u (QuitSafely l) t t' _ past allowed mode (λ P h. h) number call up (λ q z near. as_planned s t.barriers.items (labels_on q (lines_of t.number s.blocks)) (tokens_in (own (get_or t.kit.posters.items q z))) q u (QuitSafely l) _ refl refl) (λ q. refl) refl refl (λ q. refl)
made_takes m s time u (Barrier l b) t t' allowed mode text long number frame unframe call = λ past rest are up. barrier_call m s time u l b t t' past rest allowed mode text long number call are up
made_takes m s time u (Unbarrier b) t t' allowed mode text long number frame unframe call = λ past rest are up. unbarrier_call m s time u b t t' past rest allowed mode text number call are up
made_takes m s time u (Idle l i k) t t' allowed mode text long number frame unframe same = subst (RunsLine m s (line time (Idle l i k)) t) (sym same) (λ past rest are up. nothing_more m s time u (Idle l i k) t past allowed up (λ q labels. refl) (λ q. refl) (λ q. refl))
made_takes m s time u (Watch l f n a) t t' allowed mode text long number frame unframe same = subst (RunsLine m s (line time (Watch l f n a)) t) (sym same) (λ past rest are up. nothing_more m s time u (Watch l f n a) t past allowed up (λ q labels. refl) (λ q. refl) (λ q. refl))
made_takes m s time u (Event l f n) t t' allowed mode text long number frame unframe same = subst (RunsLine m s (line time (Event l f n)) t) (sym same) (λ past rest are up. nothing_more m s time u (Event l f n) t past allowed up (λ q labels. refl) (λ q. refl) (λ q. refl))
made_takes m s time u (Frame l p i d) t t' allowed mode text long number frame unframe same = absurd (frame l p i d refl)
made_takes m s time u (Unframe l p i) t t' allowed mode text long number frame unframe same = absurd (unframe l p i refl)

pub idle_takes : (m : Mode) (s : Script) (time u : ℕ) (c : Command) (t : PostingThread) (l i : ℕ) (k : Bool) → c ≡ Idle l i k → IsUptime m time u → RunsLine m s (line time c) t t
idle_takes m s time u c t l i k is allowed = subst (λ (z : Command). RunsLine m s (line time z) t t) (sym is) (λ past rest are up. nothing_more m s time u (Idle l i k) t past allowed up (λ q labels. refl) (λ q. refl) (λ q. refl))

pub watch_takes : (m : Mode) (s : Script) (time u : ℕ) (c : Command) (t : PostingThread) (l f n a : ℕ) → c ≡ Watch l f n a → IsUptime m time u → RunsLine m s (line time c) t t
watch_takes m s time u c t l f n a is allowed = subst (λ (z : Command). RunsLine m s (line time z) t t) (sym is) (λ past rest are up. nothing_more m s time u (Watch l f n a) t past allowed up (λ q labels. refl) (λ q. refl) (λ q. refl))

pub event_takes : (m : Mode) (s : Script) (time u : ℕ) (c : Command) (t : PostingThread) (l f n : ℕ) → c ≡ Event l f n → IsUptime m time u → RunsLine m s (line time c) t t
event_takes m s time u c t l f n is allowed = subst (λ (z : Command). RunsLine m s (line time z) t t) (sym is) (λ past rest are up. nothing_more m s time u (Event l f n) t past allowed up (λ q labels. refl) (λ q. refl) (λ q. refl))

-- a command that hands something to its looper makes no call
pub hands_in : {A E : Type 0} (r : Result A E) (lockstep : Bool) (s : Script) (u : ℕ) (c : Command) (t : PostingThread) → ((m : Mode) (time : ℕ) → IsUptime m time u → RunsLine m s (line time c) t t) → OnOk r (TakesAt lockstep s u c t t)
hands_in (Ok x) lockstep s u c t takes = λ m time mode allowed. takes m time allowed
hands_in (Err e) lockstep s u c t takes = tt

-- ==== the frame callbacks that a thread posts and removes

-- a frame callback was posted by a host that was made of this poster
pub frame_made : {A E U : Type 0} (r : Result A E) (o o' : HostOrigin U) (p q q' : Sender) (b : Tally) (f g : Pass) (u phase i id delay : ℕ) → i ≡ id → o' ≡ o → IsHost o' q b → o.poster ≡ p → q' ≡ q
    → OnOk r (PlacesBy f g u (sends_by o.handler p) (sends_by o'.handler q) phase i delay) → OnOk r (PostsFrame o.handler u phase id delay p q' f g)
frame_made (Ok x) o o' p q q' b f g u phase i id delay alike same is began ends turn =
    let goes : GoesOn p q o.pass b = subst (λ (z : Sender). GoesOn z q o.pass b) began (subst (λ z. IsHost z q b) same is).on in
    let placed_by : PlacesBy f g u (sends_by o.handler p) (sends_by o.handler q) phase i delay = subst (λ (h : ℕ). PlacesBy f g u (sends_by o.handler p) (sends_by h q) phase i delay) (ap (λ z. z.handler) same) turn in
    subst (λ (n : ℕ). PostsFrame o.handler u phase n delay p q' f g) alike
    (subst (λ (z : Sender). PostsFrame o.handler u phase i delay p z f g) (sym ends) (posts_frame_by o.handler u phase i delay p q o.pass b f g goes placed_by))
frame_made (Err e) o o' p q q' b f g u phase i id delay alike same is began ends turn = tt

-- ---- a frame callback is removed

pub removal_asks : (phase id : ℕ) (f g : Pass) (x y : StampedFrames) → IsFrameTurn f g x y → y ≡ record x { frames = removed x.frames phase id None } → AsksFor (Removes phase id None) f g
removal_asks phase id f g x y t is =
    let e = frame.Removed phase id None (removed_count (past x.frames) phase id None) in
    let left : x.frames.entries ++ e ∷ [] ≡ y.frames.entries = sym (ap (λ (z : StampedFrames). z.frames.entries) is) in
    ap asks_in (turn_records f g x y (e ∷ []) t left) ∙ filter_map-append asked_in f.view.own (e ∷ [])

-- ---- what is told in lockstep is all that was asked for

-- ==== a thread that runs a line of frame callbacks

-- a relation of each element before and after one was replaced
at_place : {A : Type 0} (P : A → A → Type 0) (xs : List A) (i k : ℕ) (x y d : A) → x ≡ get_or xs i x → i < length xs → ((i == k) ≡ true → P x y) → ((i == k) ≡ false → P (get_or xs k d) (get_or xs k d)) → (b : Bool) → (i == k) ≡ b → P (get_or xs k d) (get_or (set xs i y) k d)
at_place P xs i k x y d is near here there true same =
    let k_is : i ≡ k = eqb-true i k same in
    subst (λ (n : ℕ). P (get_or xs n d) (get_or (set xs i y) n d)) k_is
    (subst (λ z. P z (get_or (set xs i y) i d)) (get_or_read xs i x near is d) (subst (λ z. P x z) (sym (get_or-set_same xs i y d near)) (here same)))
at_place P xs i k x y d is near here there false other =
    let apart : k ≢ i = λ e. absurd (let wrong : true ≡ false = sym (eq-eqb i k (sym e)) ∙ other in cc wrong) in
    subst (λ z. P (get_or xs k d) z) (sym (get_or-set_other xs i k y d apart)) (there other)

-- the call that a frame line plans, where it is for later
abbrev due_call : ℕ → ℕ → ℕ → ℕ → PlannedCall
due_call u lo phase delay = record { looper = lo; call = on_queue.Send (frame_message lo 2 phase (frame_due u delay)) }

-- in free mode the due time of what a line asks for is left open
told_due : (m : Mode) (time u phase id delay : ℕ) → IsUptime m time u → as_told m.lockstep (Posts phase (frame_due u delay) id None) ≡ as_told m.lockstep (Posts phase (frame_due time delay) id None)
told_due m time u phase id delay up = by_mode m.lockstep up
  where
    by_mode : (b : Bool) → MatchBool b (u ≡ time) ((time ≤ u) × IsMomentOf m u) → as_told b (Posts phase (frame_due u delay) id None) ≡ as_told b (Posts phase (frame_due time delay) id None)
    by_mode true is = ap (λ (n : ℕ). Posts phase (frame_due n delay) id None) is
    by_mode false is = refl

module _ (m : Mode) (s : Script) (time u lo phase id delay n : ℕ) (bs : List Labelled) (ps : List Sender) (past : List TimedCommand) (p q : Sender) (allowed : IsUptime m time u) (mode : AreInMode m ps) (is : p ≡ get_or ps lo p) (near : lo < length ps) (sender : q.sender ≡ p.sender) (seen : IsPrefix p.view.seen q.view.seen) (called : HasCalled m s past n ps) (clocked : AreByClock m ps) (kept : KeepsBarriers past bs ps) where
  same_own : own q ≡ own p → (k : ℕ) (d : Sender) → own (get_or (set ps lo q) k d) ≡ own (get_or ps k d)
  same_own same k d = at_place (λ (a b : Sender). own b ≡ own a) ps lo k p q d is near (λ here. same) (λ there. refl) (lo == k) refl

  calls_by : (z : Bool) → (delay == 0) ≡ z → MatchBool z (own q ≡ own p) (Makes p q (call_made (due_call u lo phase delay).call) [])
      → HasCalled m s (past ++ line time (Frame lo phase id delay) ∷ []) n (set ps lo q) × AreByClock m (set ps lo q) × KeepsBarriers (past ++ line time (Frame lo phase id delay) ∷ []) bs (set ps lo q)
  calls_by false some made =
      let pc = due_call u lo phase delay in
      let l = line time (Frame lo phase id delay) in
      let calls : CallsAt lo pc.call None ps (set ps lo q) = calls_at_set ps lo p q pc.call None is near (record { sender = sender; seen = seen; made = made; moment = tt }) in (
        called_more m s u l ps (set ps lo q) pc None allowed mode (λ P h. tt) calls past n n refl called
            (λ k d near'. ap (λ (z : Bool). option_map (call_of (tokens_in (own (get_or ps k d)))) (if z then None else on k lo (call.Post (frame_message lo 2 phase (frame_due u delay))))) some
            ∙ asked_if (tokens_in (own (get_or ps k d))) (call.Post (frame_message lo 2 phase (frame_due u delay))) (lo == k)),
        clocked_more m s u l ps (set ps lo q) pc None allowed mode (λ P h. tt) calls clocked,
        kept_same past l bs bs ps (set ps lo q) pc None calls kept refl (λ k. refl) (λ near'. refl),
      )
  calls_by true none same = (
    (λ k d near'. (
        let near'' : k < length ps = omega (arith, near', length-set ps lo q) in
        step_calls m s (labels_on k (lines_of n s.blocks)) k u past (line time (Frame lo phase id delay)) (own (get_or ps k d)) (own (get_or (set ps lo q) k d)) allowed (called k d near'')
        (inl (ap (λ (z : Bool). if z then None else on k lo (call.Post (frame_message lo 2 phase (frame_due u delay)))) none, same_own same k d)))),
    (λ k d near'. (
        let near'' : k < length ps = omega (arith, near', length-set ps lo q) in
        at_place (λ (a b : Sender). IsByClock m a → IsByClock m b) ps lo k p q d is near (λ here. clocked_same m p q sender seen same) (λ there h. h) (lo == k) refl (clocked k d near''))),
    record {
      labels = λ k. kept.labels k ∙ sym (labels_none k past (line time (Frame lo phase id delay)) refl);
      tokens = λ k d near'. (let near'' : k < length ps = omega (arith, near', length-set ps lo q) in kept.tokens k d near'' ∙ ap tokens_in (sym (same_own same k d)));
    },
  )

asked_if_here : (ask : FrameAsk) (k : ℕ) (l : TimedCommand) (b : Bool) → line_asks k l ≡ (if b then Some ask else None) → cons_option (line_asks k l) [] ≡ (if b then ask ∷ [] else [])
asked_if_here ask k l true plan = ap (λ (o : Option FrameAsk). cons_option o []) plan
asked_if_here ask k l false plan = ap (λ (o : Option FrameAsk). cons_option o []) plan

-- one pass has asked for what a line asks for, as it is told in the mode, in one turn
module _ (m : Mode) (l : TimedCommand) (lo : ℕ) (ask did : FrameAsk) (told : as_told m.lockstep did ≡ as_told m.lockstep ask) (past : List TimedCommand) (fs : List Pass) (f g : Pass) (is : f ≡ get_or fs lo f) (near : lo < length fs) (plan : (k : ℕ) → line_asks k l ≡ (if lo == k then Some ask else None)) where
  planned_here : (k : ℕ) → lines_ask k (past ++ l ∷ []) ≡ lines_ask k past ++ (if lo == k then ask ∷ [] else [])
  planned_here k = asks_more k past l ∙ ap (λ (xs : List FrameAsk). lines_ask k past ++ xs) (asked_if_here ask k l (lo == k) (plan k))

  told_if : (b : Bool) → map (as_told m.lockstep) (if b then did ∷ [] else []) ≡ map (as_told m.lockstep) (if b then ask ∷ [] else [])
  told_if true = ap (λ (a : FrameAsk). a ∷ []) told
  told_if false = refl

  asked_more : AsksFor did f g → HasAsked m past fs → HasAsked m (past ++ l ∷ []) (set fs lo g)
  asked_more asks has k d near' =
      let near'' : k < length fs = omega (arith, near', length-set fs lo g) in
      let told_of = map (as_told m.lockstep) in
      let grown : pass_asks (get_or (set fs lo g) k d) ≡ pass_asks (get_or fs k d) ++ (if lo == k then did ∷ [] else []) =
      at_place (λ (a b : Pass). pass_asks b ≡ pass_asks a ++ (if lo == k then did ∷ [] else [])) fs lo k f g d is near
      (λ here. asks ∙ ap (λ (b : Bool). pass_asks f ++ (if b then did ∷ [] else [])) (sym here))
      (λ there. sym (append-nil (pass_asks (get_or fs k d))) ∙ ap (λ (b : Bool). pass_asks (get_or fs k d) ++ (if b then did ∷ [] else [])) (sym there))
      (lo == k) refl in
      ap told_of grown
      ∙ (map-append (as_told m.lockstep) (pass_asks (get_or fs k d)) (if lo == k then did ∷ [] else [])
      ∙ ((λ i. has k d near'' i ++ told_if (lo == k) i)
      ∙ (sym (map-append (as_told m.lockstep) (lines_ask k past) (if lo == k then ask ∷ [] else [])) ∙ sym (ap told_of (planned_here k)))))

  turned_more : g.view.turns ≡ f.view.turns + 1 → HasTurned past fs → HasTurned (past ++ l ∷ []) (set fs lo g)
  turned_more turn has k d near' =
      let near'' : k < length fs = omega (arith, near', length-set fs lo g) in
      let grown : (get_or (set fs lo g) k d).view.turns ≡ (get_or fs k d).view.turns + (if lo == k then 1 else 0) =
      at_place (λ (a b : Pass). b.view.turns ≡ a.view.turns + (if lo == k then 1 else 0)) fs lo k f g d is near
      (λ here. turn ∙ ap (λ (b : Bool). f.view.turns + (if b then 1 else 0)) (sym here))
      (λ there. (let none : ◌≡◌ {A = ℕ} (if lo == k then 1 else 0) 0 = ap (λ (b : Bool). if b then 1 else 0) there in omega (arith, none)))
      (lo == k) refl in
      let long = ap length (planned_here k) in
      let both = length-append (lines_ask k past) (if lo == k then ask ∷ [] else []) in
      let one : length (if lo == k then ask ∷ [] else []) ≡ (if lo == k then 1 else 0) = one_long (lo == k) in
      let had = has k d near'' in
      omega (arith, grown, long, both, one, had)
    where
      one_long : (b : Bool) → length (if b then ask ∷ [] else []) ≡ (if b then 1 else 0)
      one_long true = refl
      one_long false = refl

pub frame_progress : (m : Mode) (s : Script) (time u lo phase id delay n : ℕ) (bs : List Labelled) (ps : List Sender) (fs : List Pass) (p q : Sender) (f g : Pass) (past : List TimedCommand) → IsUptime m time u → AreInMode m ps
    → p ≡ get_or ps lo p → f ≡ get_or fs lo f → lo < length ps → lo < length fs → q.sender ≡ p.sender → IsPrefix p.view.seen q.view.seen
    → PostsFrame (64 + lo) u phase id delay p q f g → Progress m s past n bs ps fs → Progress m s (past ++ line time (Frame lo phase id delay) ∷ []) n bs (set ps lo q) (set fs lo g)
frame_progress m s time u lo phase id delay n bs ps fs p q f g past allowed mode is is' near near' sender seen made up =
    let calls = calls_by m s time u lo phase id delay n bs ps past p q allowed mode is near sender seen up.called up.clocked up.barriers (delay == 0) refl made.calls in
    let l = line time (Frame lo phase id delay) in
    let ask = Posts phase (frame_due time delay) id None in
    let did = Posts phase (frame_due u delay) id None in
    let told : as_told m.lockstep did ≡ as_told m.lockstep ask = told_due m time u phase id delay allowed in
    record {
      called = calls.0;
      clocked = calls.1;
      barriers = calls.2;
      asked = asked_more m l lo ask did told past fs f g is' near' (λ k. refl) made.asks up.asked;
      turned = turned_more m l lo ask did told past fs f g is' near' (λ k. refl) made.turn up.turned;
    }

pub unframe_progress : (m : Mode) (s : Script) (time u lo phase id n : ℕ) (bs : List Labelled) (ps : List Sender) (fs : List Pass) (f g : Pass) (past : List TimedCommand) → IsUptime m time u → f ≡ get_or fs lo f → lo < length fs
    → AsksFor (Removes phase id None) f g → g.view.turns ≡ f.view.turns + 1 → Progress m s past n bs ps fs → Progress m s (past ++ line time (Unframe lo phase id) ∷ []) n bs ps (set fs lo g)
unframe_progress m s time u lo phase id n bs ps fs f g past allowed is near asks turn up =
    let l = line time (Unframe lo phase id) in
    let ask = Removes phase id None in
    record {
      called = λ k d near'. step_calls m s (labels_on k (lines_of n s.blocks)) k u past l (own (get_or ps k d)) (own (get_or ps k d)) allowed (up.called k d near') (inl (refl, refl));
      clocked = up.clocked;
      barriers = record {
        labels = λ k. up.barriers.labels k ∙ sym (labels_none k past l refl);
        tokens = up.barriers.tokens;
      };
      asked = asked_more m l lo ask ask refl past fs f g is near (λ k. refl) asks up.asked;
      turned = turned_more m l lo ask ask refl past fs f g is near (λ k. refl) turn up.turned;
    }

-- a line of a text names a looper and a phase that are there
pub frame_within : (s : Script) (n u lo phase id delay : ℕ) (past rest : List TimedCommand) → HasText s → past ++ (line u (Frame lo phase id delay) ∷ rest) ≡ lines_of n s.blocks → (lo < s.loopers) × (phase < phase_count s.edition)
unfolding each_number
frame_within s n u lo phase id delay past rest text are =
    let declared = line_passes (numbers_pass (is_declared s)) s n past rest (line u (Frame lo phase id delay)) text.names are in
    let within = line_passes (numbers_pass (is_within s)) s n past rest (line u (Frame lo phase id delay)) text.limits are in
    let place = ltb-true lo s.loopers (and_parts _ _ (and_parts _ _ declared).1).0 in
    let least = ltb-true phase (phase_count s.edition) (and_parts _ _ within).0 in
    (place, least)

pub unframe_within : (s : Script) (n u lo phase id : ℕ) (past rest : List TimedCommand) → HasText s → past ++ (line u (Unframe lo phase id) ∷ rest) ≡ lines_of n s.blocks → (lo < s.loopers) × (phase < phase_count s.edition)
unfolding each_number
unframe_within s n u lo phase id past rest text are =
    let declared = line_passes (numbers_pass (is_declared s)) s n past rest (line u (Unframe lo phase id)) text.names are in
    let within = line_passes (numbers_pass (is_within s)) s n past rest (line u (Unframe lo phase id)) text.limits are in
    let place = ltb-true lo s.loopers (and_parts _ _ (and_parts _ _ declared).1).0 in
    let least = ltb-true phase (phase_count s.edition) (and_parts _ _ within).0 in
    (place, least)

-- ==== the posters and passes of a thread, by the place of their looper

-- what a thread takes out of the hall and of its own at a place
module _ (s : Script) (hall : Hall) (t : PostingThread) (h : IsHall s hall) (own : IsThread s hall t) (i : ℕ) where
  pub its_poster : (q : Shared TableId) (p : Sender) → q ≡ get_or hall.queues.items i q → p ≡ get_or t.kit.posters.items i p → i < length t.kit.posters.items → IsOf p q
  its_poster q p is is' near = (poster_is t.number hall.queues.items t.kit.posters.items own.posters i p q near is' is).0

  pub its_home : (q : Shared TableId) → q ≡ get_or hall.queues.items i q → i < length hall.queues.items → q.constants.home ≡ hall.pool
  its_home q is near =
      let within : i < s.loopers = omega (arith, near, queue_count hall.lockstep s hall.pool hall.queues.items h.queues) in
      ap (λ (c : Constants TableId). c.home) (queue_is hall.lockstep s hall.pool hall.queues.items h.queues i q within is)

  pub its_pass : (c : SharedFrames) (p : Pass) → c ≡ get_or hall.choreographers.items i c → p ≡ get_or t.kit.frames.items i p → i < length t.kit.frames.items → IsPassOf p c
  its_pass c p is is' near = pass_is t.number hall.choreographers.items t.kit.frames.items own.frames i p c near is' is

  pub its_phases : (c : SharedFrames) → c ≡ get_or hall.choreographers.items i c → i < length hall.choreographers.items → c.constants.phases ≡ phase_count s.edition
  its_phases c is near =
      let within : i < s.loopers = omega (arith, near, choreographer_count s hall.choreographers.items h.choreographers) in
      ap (λ (z : SharedFrames). z.constants.phases) is ∙ ap (λ (k : FrameConstants). k.phases) (choreographer_at s hall.choreographers.items h.choreographers i c within)

-- in free mode its posters' queues are in free mode, as the hall is
pub its_mode : (m : Mode) (s : Script) (hall : Hall) (t : PostingThread) → IsHall s hall → IsThread s hall t → IfFree m (hall.lockstep ≡ false) → AreInMode m t.kit.posters.items
its_mode m s hall t h own mode = λ q d near. (
    let other : Shared TableId = record { table = d.table; constants = queue_constants hall.lockstep s hall.pool q } in
    let within : q < s.loopers = omega (arith, near, alike_length badge_of (badge_for t.number) t.kit.posters.items hall.queues.items own.posters, queue_count hall.lockstep s hall.pool hall.queues.items h.queues) in
    let of_queue = (poster_at t.number hall.queues.items t.kit.posters.items own.posters q d other near).0 in
    let is = queue_at hall.lockstep s hall.pool hall.queues.items h.queues q other within in
    if_free m.lockstep _ (λ free. (queue_constants hall.lockstep s hall.pool q, of_queue.1 ∙ ap Some is, MatchBool-at_false (Unit {0}) (hall.lockstep ≡ false) free mode)))

-- a thread whose pass at a place took a turn is the thread still
pub thread_with_pass : (s : Script) (hall : Hall) (t t' : PostingThread) → IsThread s hall t → t'.number ≡ t.number → t'.kit.posters.items ≡ t.kit.posters.items → t'.kit.pass.home ≡ t.kit.pass.home
    → (i : ℕ) (f h : Pass) → t'.kit.frames.items ≡ set t.kit.frames.items i h → f ≡ get_or t.kit.frames.items i f → frame_badge_of h ≡ frame_badge_of f → IsThread s hall t'
thread_with_pass s hall t t' is number posters pass i f h frames read same = record {
  number = subst (λ (n : ℕ). n < s.threads) (sym number) is.number;
  posters = subst (λ (n : ℕ). ArePostersOf n hall.queues.items t'.kit.posters.items) (sym number) (subst (λ (ps : List Sender). ArePostersOf t.number hall.queues.items ps) (sym posters) is.posters);
  frames = subst (λ (n : ℕ). ArePassesOf n hall.choreographers.items t'.kit.frames.items) (sym number)
      (subst (λ (fs : List Pass). ArePassesOf t.number hall.choreographers.items fs) (sym frames) (passes_kept t.number hall.choreographers.items t.kit.frames.items is.frames i h f (same ∙ ap frame_badge_of read)));
  pass = pass ∙ is.pass;
}

-- a thread whose poster at a place made a call works on
pub works_called : (s : Script) (hall : Hall) (t t' : PostingThread) (i : ℕ) (p q : Sender) → IsThread s hall t → p ≡ get_or t.kit.posters.items i p → GoesOn p q t.kit.pass t'.kit.pass
    → t'.kit.posters.items ≡ set t.kit.posters.items i q → t'.kit.frames ≡ t.kit.frames → t'.number ≡ t.number → t'.passed ≡ t.passed → t'.gave_up ≡ t.gave_up → WorksOn s hall t t'
works_called s hall t t' i p q is read on posters frames number passed goes = record {
  thread = record {
    number = subst (λ (n : ℕ). n < s.threads) (sym number) is.number;
    posters = subst (λ (n : ℕ). ArePostersOf n hall.queues.items t'.kit.posters.items) (sym number)
        (subst (λ (ps : List Sender). ArePostersOf t.number hall.queues.items ps) (sym posters) (posters_kept t.number hall.queues.items t.kit.posters.items is.posters i q p (gone_badge _ _ _ _ on ∙ ap badge_of read)));
    frames = subst (λ (n : ℕ). ArePassesOf n hall.choreographers.items t'.kit.frames.items) (sym number)
        (subst (λ (fs : List Pass). ArePassesOf t.number hall.choreographers.items fs) (sym (ap (λ v. v.items) frames)) is.frames);
    pass = on.home ∙ is.pass;
  };
  number = number;
  passed = passed;
  goes = goes;
  bells = ap (map (λ (z : Sender). z.view.rung)) posters ∙ map-set_same (λ (z : Sender). z.view.rung) t.kit.posters.items i q p (on.rung ∙ ap (λ (z : Sender). z.view.rung) read);
}
