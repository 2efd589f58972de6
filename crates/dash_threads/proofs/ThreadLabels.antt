-- What a thread's lines plan, and the labels of its barriers.
use Rattle.std.proofs.Common.{◌≡◌, ℕ, ◌==◌, Bool, true, false, List, Option, Some, None, refl, subst, ◌≢◌, suc, ◌+◌, ◌≤◌, not, cond, [], ◌∷◌, ◌++◌, map, sym, ap, ◌∙◌, arith, append_assoc, eq-eqb}
use Rattle.std.specs.Prelude.{is_some, if◌then◌else◌, ◌&&◌, ◌||◌, filter, slice_index, position}
use Rattle.std.specs.Option.{option_map}
use Rattle.loop_model.specs.declared.call.Call.{Call}
use Rattle.dash_script.specs.declared.script.Command.{Command}
use Rattle.dash_script.specs.declared.script.Command.TheVariants.{Post, PostAsync, Front, Callback, Set, Remove, RemoveCallback, RemoveAll, Barrier, Unbarrier, Quit, QuitSafely, Idle, Watch, Event, Frame, Unframe}
use Rattle.dash_script.specs.declared.script.Script.{Script}
use Rattle.run_model.specs.Planned.{looper_of, gauge_handler, Makes, call_of, planned, Unbars, TimedCommand, lines_of, label_on, labels_on}
use Rattle.dash_threads.specs.declared.labels.Labelled.{Labelled}
use Rattle.dash_threads.specs.declared.planned.PlannedCall.{PlannedCall}
use Rattle.dash_hall.specs.QueueCalls.{call_made}
use Rattle.dash_threads.specs.Planning.{call_planned, removal_of}
use Rattle.std.specs.List.{list_any, flat_map, cons_option, find, position_from}
use Rattle.std.proofs.lemmas.Bool.{and_parts, or_left, or_right, eqb-true}
use Rattle.std.proofs.lemmas.List.{append-nil, map-append}
use Rattle.std.proofs.lemmas.List.Elements.{filter-append, filter_map-append}
use Rattle.std.proofs.lemmas.List.Folds.{list_any-append}
use Rattle.std.proofs.lemmas.Iterator.Adapters.{position_from-zero}
use Rattle.loop_model.specs.declared.call.Call.TheVariants as call
use Rattle.dash_script.specs.declared.script.Line.{Line}
use Rattle.dash_script.specs.declared.script.Block.{Block}
use Rattle.dash_script.specs.Causes.{commands, is_label, has_barrier}
use Rattle.dash_script.specs.Reading.{HasText, label_fits, labels_fit}
use Rattle.run_model.specs.Parts.{lines_in}
use Rattle.dash_threads.specs.Threads.{labels_kept, tokens_kept}

-- ==== the call that is made for a command is the call that the command plans

-- the call, where it is to be made on this queue
abbrev pub call_at : PlannedCall → ℕ → Option Call
call_at p q = if p.looper == q then Some (call_made p.call) else None

pub asked_if : (tokens : List ℕ) (c : Call) (b : Bool) → option_map (call_of tokens) (if b then Some (Makes c) else None) ≡ (if b then Some c else None)
asked_if tokens c true = refl
asked_if tokens c false = refl

-- commands other than the removal of a barrier, by their kind
abbrev pub is_unbarrier : Command → Bool
is_unbarrier (Unbarrier b) = true
is_unbarrier _ = false

at_this : (s : Script) (labels tokens : List ℕ) (q u : ℕ) (c : Command) (x p : PlannedCall) → Some x ≡ Some p → option_map (call_of tokens) (planned s labels q u c) ≡ call_at x q → option_map (call_of tokens) (planned s labels q u c) ≡ call_at p q
at_this s labels tokens q u c x p is made = let same : x ≡ p = cc is in subst (λ (z : PlannedCall). option_map (call_of tokens) (planned s labels q u c) ≡ call_at z q) same made

pub as_planned : (s : Script) (bs : List Labelled) (labels tokens : List ℕ) (q u : ℕ) (c : Command) (p : PlannedCall) → is_unbarrier c ≡ false → call_planned s bs u c ≡ Some p → option_map (call_of tokens) (planned s labels q u c) ≡ call_at p q
as_planned s bs labels tokens q u (Post h w d) p other is = at_this s labels tokens q u (Post h w d) _ p is (asked_if tokens _ (looper_of s h == q))
as_planned s bs labels tokens q u (PostAsync h w d) p other is = at_this s labels tokens q u (PostAsync h w d) _ p is (asked_if tokens _ (looper_of s h == q))
as_planned s bs labels tokens q u (Front h w) p other is = at_this s labels tokens q u (Front h w) _ p is (asked_if tokens _ (looper_of s h == q))
as_planned s bs labels tokens q u (Callback h i d) p other is = at_this s labels tokens q u (Callback h i d) _ p is (asked_if tokens _ (looper_of s h == q))
as_planned s bs labels tokens q u (Set g v) p other is = at_this s labels tokens q u (Set g v) _ p is (asked_if tokens _ (looper_of s (gauge_handler s g) == q))
as_planned s bs labels tokens q u (Remove h w) p other is = at_this s labels tokens q u (Remove h w) _ p is (asked_if tokens _ (looper_of s h == q))
as_planned s bs labels tokens q u (RemoveCallback h i) p other is = at_this s labels tokens q u (RemoveCallback h i) _ p is (asked_if tokens _ (looper_of s h == q))
as_planned s bs labels tokens q u (RemoveAll h) p other is = at_this s labels tokens q u (RemoveAll h) _ p is (asked_if tokens _ (looper_of s h == q))
as_planned s bs labels tokens q u (Barrier l b) p other is = at_this s labels tokens q u (Barrier l b) _ p is (asked_if tokens _ (l == q))
as_planned s bs labels tokens q u (Unbarrier b) p other is = absurd cc
as_planned s bs labels tokens q u (Quit l) p other is = at_this s labels tokens q u (Quit l) _ p is (asked_if tokens _ (l == q))
as_planned s bs labels tokens q u (QuitSafely l) p other is = at_this s labels tokens q u (QuitSafely l) _ p is (asked_if tokens _ (l == q))
as_planned s bs labels tokens q u (Idle l i k) p other is = absurd cc
as_planned s bs labels tokens q u (Watch l f m a) p other is = absurd cc
as_planned s bs labels tokens q u (Event l f m) p other is = absurd cc
as_planned s bs labels tokens q u (Frame l p' i d) p other is = absurd cc
as_planned s bs labels tokens q u (Unframe l p' i) p other is = absurd cc

some_if : {A : Type 0} (x y : A) (b : Bool) → is_some (if b then Some x else None) ≡ is_some (if b then Some y else None)
some_if x y true = refl
some_if x y false = refl

-- whether a command makes a call on a queue is the same at each uptime
pub at_each_uptime : (s : Script) (labels : List ℕ) (q u : ℕ) (c : Command) → is_some (planned s labels q 0 c) ≡ is_some (planned s labels q u c)
at_each_uptime s labels q u (Post h w d) = some_if _ _ (looper_of s h == q)
at_each_uptime s labels q u (PostAsync h w d) = some_if _ _ (looper_of s h == q)
at_each_uptime s labels q u (Front h w) = some_if _ _ (looper_of s h == q)
at_each_uptime s labels q u (Callback h i d) = some_if _ _ (looper_of s h == q)
at_each_uptime s labels q u (Set g v) = some_if _ _ (looper_of s (gauge_handler s g) == q)
at_each_uptime s labels q u (Remove h w) = some_if _ _ (looper_of s h == q)
at_each_uptime s labels q u (RemoveCallback h i) = some_if _ _ (looper_of s h == q)
at_each_uptime s labels q u (RemoveAll h) = some_if _ _ (looper_of s h == q)
at_each_uptime s labels q u (Barrier l b) = refl
at_each_uptime s labels q u (Unbarrier b) = refl
at_each_uptime s labels q u (Quit l) = refl
at_each_uptime s labels q u (QuitSafely l) = refl
at_each_uptime s labels q u (Idle l i k) = refl
at_each_uptime s labels q u (Watch l f m a) = refl
at_each_uptime s labels q u (Event l f m) = refl
at_each_uptime s labels q u (Frame l p i d) = frame_at (d == 0) (l == q) _ _
  where
    frame_at : {A : Type 0} (b t : Bool) (x y : A) → is_some (if b then None else (if t then Some x else None)) ≡ is_some (if b then None else (if t then Some y else None))
    frame_at true t x y = refl
    frame_at false t x y = some_if x y t
at_each_uptime s labels q u (Unframe l p i) = refl

pub is_some_mapped : {A B : Type 0} (f : A → B) (o : Option A) → is_some (option_map f o) ≡ is_some o
is_some_mapped f None = refl
is_some_mapped f (Some x) = refl

-- ==== a thread's labels: each barrier's is new, and what is removed was posted

-- ---- one thread's commands

-- a barrier of this label is among the commands
abbrev has_label : ℕ → List Command → Bool
has_label b cs = list_any (is_label b) cs

abbrev fits_one : List Command → Command → Bool
fits_one before (Barrier l b) = not (has_label b before)
fits_one before (Unbarrier b) = has_label b before
fits_one before _ = true

abbrev fits : List Command → List Command → Bool
fits before [] = true
fits before (c ∷ cs) = fits_one before c && fits (before ++ c ∷ []) cs

abbrev own_commands : ℕ → List Line → List Command
own_commands thread ls = map (λ l. l.command) (filter (λ l. l.thread == thread) ls)

its_labels : (thread b : ℕ) (ls : List Line) → has_barrier ls thread b ≡ has_label b (own_commands thread ls)
its_labels thread b [] = refl
its_labels thread b (l ∷ ls) = one_more (l.thread == thread) (its_labels thread b ls)
  where
    one_more : (t : Bool) → has_barrier ls thread b ≡ has_label b (own_commands thread ls)
        → ((t && is_label b l.command) || has_barrier ls thread b) ≡ has_label b (map (λ x. x.command) (cond t (l ∷ filter (λ x. x.thread == thread) ls) (filter (λ x. x.thread == thread) ls)))
    one_more true rest = ap (λ (t : Bool). is_label b l.command || t) rest
    one_more false rest = rest

its_fit : (thread : ℕ) (before : List Line) (c : Command) → label_fits before thread c ≡ fits_one (own_commands thread before) c
its_fit thread before (Barrier l b) = ap not (its_labels thread b before)
its_fit thread before (Unbarrier b) = its_labels thread b before
its_fit thread before (Post h w d) = refl
its_fit thread before (PostAsync h w d) = refl
its_fit thread before (Front h w) = refl
its_fit thread before (Callback h i d) = refl
its_fit thread before (Set g v) = refl
its_fit thread before (Remove h w) = refl
its_fit thread before (RemoveCallback h i) = refl
its_fit thread before (RemoveAll h) = refl
its_fit thread before (Quit l) = refl
its_fit thread before (QuitSafely l) = refl
its_fit thread before (Idle l i k) = refl
its_fit thread before (Watch l f m a) = refl
its_fit thread before (Event l f m) = refl
its_fit thread before (Frame l p i d) = refl
its_fit thread before (Unframe l p i) = refl

own_more : (thread : ℕ) (before : List Line) (l : Line) (t : Bool) → (l.thread == thread) ≡ t → own_commands thread (before ++ l ∷ []) ≡ own_commands thread before ++ cond t (l.command ∷ []) []
own_more thread before l t is =
    ap (map (λ x. x.command)) (filter-append (λ x. x.thread == thread) before (l ∷ []) ∙ ap (λ (b : Bool). filter (λ x. x.thread == thread) before ++ cond b (l ∷ []) []) is)
    ∙ (map-append (λ x. x.command) (filter (λ x. x.thread == thread) before) (cond t (l ∷ []) []) ∙ ap (λ (cs : List Command). own_commands thread before ++ cs) (last t))
  where
    last : (b : Bool) → map (λ x. x.command) (cond b (l ∷ []) []) ≡ cond b (l.command ∷ []) []
    last true = refl
    last false = refl

one_fits : (thread : ℕ) (before ls : List Line) (l : Line) (t : Bool) → (l.thread == thread) ≡ t → label_fits before l.thread l.command ≡ true → fits (own_commands thread (before ++ l ∷ [])) (own_commands thread ls) ≡ true
    → fits (own_commands thread before) (map (λ x. x.command) (cond t (l ∷ filter (λ x. x.thread == thread) ls) (filter (λ x. x.thread == thread) ls))) ≡ true
one_fits thread before ls l true is one rest =
    let first : fits_one (own_commands thread before) l.command ≡ true =
    sym (its_fit thread before l.command) ∙ (ap (λ (n : ℕ). label_fits before n l.command) (sym (eqb-true l.thread thread is)) ∙ one) in
    let more : fits (own_commands thread before ++ l.command ∷ []) (own_commands thread ls) ≡ true =
    subst (λ (cs : List Command). fits cs (own_commands thread ls) ≡ true) (own_more thread before l true is) rest in
    ap (λ (b : Bool). b && fits (own_commands thread before ++ l.command ∷ []) (own_commands thread ls)) first ∙ more
one_fits thread before ls l false is one rest =
    subst (λ (cs : List Command). fits cs (own_commands thread ls) ≡ true) (own_more thread before l false is ∙ append-nil (own_commands thread before)) rest

they_fit : (thread : ℕ) (before ls : List Line) → labels_fit before ls ≡ true → fits (own_commands thread before) (own_commands thread ls) ≡ true
they_fit thread before [] all = refl
they_fit thread before (l ∷ ls) all =
    let parts = and_parts (label_fits before l.thread l.command) (labels_fit (before ++ l ∷ []) ls) all in
    one_fits thread before ls l (l.thread == thread) refl parts.0 (they_fit thread (before ++ l ∷ []) ls parts.1)

pub its_commands : List TimedCommand → List Command
its_commands ts = map (λ t. t.command) ts

-- a line of a block, at its time
abbrev pub at_time : ℕ → Line → TimedCommand
at_time time l = record { time = time; command = l.command }

timed_commands : (time : ℕ) (ls : List Line) → map (λ (t : TimedCommand). t.command) (map (at_time time) ls) ≡ map (λ l. l.command) ls
timed_commands time [] = refl
timed_commands time (l ∷ ls) = ap (λ (cs : List Command). l.command ∷ cs) (timed_commands time ls)

block_commands : (thread : ℕ) (bs : List Block) → its_commands (lines_of thread bs) ≡ own_commands thread (flat_map (λ b. b.lines) bs)
unfolding its_commands
block_commands thread [] = refl
block_commands thread (b ∷ bs) =
    let rest = flat_map (λ (x : Block). x.lines) bs in
    map-append (λ t. t.command) (lines_in thread b) (lines_of thread bs)
    ∙ ((λ i. timed_commands b.time (filter (λ l. l.thread == thread) b.lines) i ++ block_commands thread bs i)
    ∙ sym (ap (map (λ l. l.command)) (filter-append (λ l. l.thread == thread) b.lines rest) ∙ map-append (λ l. l.command) (filter (λ l. l.thread == thread) b.lines) (filter (λ l. l.thread == thread) rest)))

-- the commands of a script's thread fit
all_fit : (s : Script) (thread : ℕ) → HasText s → fits [] (its_commands (lines_of thread s.blocks)) ≡ true
all_fit s thread text = ap (fits []) (block_commands thread s.blocks) ∙ they_fit thread [] (commands s) text.labels

-- ---- a label is used once

fits_at : (before xs ys : List Command) (c : Command) → fits before (xs ++ c ∷ ys) ≡ true → fits_one (before ++ xs) c ≡ true
fits_at before [] ys c all = ap (λ (l : List Command). fits_one l c) (append-nil before) ∙ (and_parts _ _ all).0
fits_at before (x ∷ xs) ys c all =
    ap (λ (l : List Command). fits_one l c) (sym (append_assoc before (x ∷ []) xs)) ∙ fits_at (before ++ x ∷ []) xs ys c (and_parts (fits_one before x) (fits (before ++ x ∷ []) (xs ++ c ∷ ys)) all).1

-- how many barriers of the label, and of the label on the queue, are posted
abbrev uses : ℕ → List Command → ℕ
uses b [] = 0
uses b (c ∷ cs) = cond (is_label b c) 1 0 + uses b cs

abbrev is_one : Option ℕ → ℕ → Bool
is_one None b = false
is_one (Some x) b = x == b

abbrev uses_on : ℕ → ℕ → List Command → ℕ
uses_on q b [] = 0
uses_on q b (c ∷ cs) = cond (is_one (label_on q c) b) 1 0 + uses_on q b cs

is_new : (before : List Command) (b : ℕ) (c : Command) → is_label b c ≡ true → fits_one before c ≡ true → not (has_label b before) ≡ true
is_new before b (Barrier l x) is fit = ap (λ (n : ℕ). not (has_label n before)) (sym (eqb-true x b is)) ∙ fit
is_new before b (Post h w d) is fit = absurd cc
is_new before b (PostAsync h w d) is fit = absurd cc
is_new before b (Front h w) is fit = absurd cc
is_new before b (Callback h i d) is fit = absurd cc
is_new before b (Set g v) is fit = absurd cc
is_new before b (Remove h w) is fit = absurd cc
is_new before b (RemoveCallback h i) is fit = absurd cc
is_new before b (RemoveAll h) is fit = absurd cc
is_new before b (Unbarrier u) is fit = absurd cc
is_new before b (Quit l) is fit = absurd cc
is_new before b (QuitSafely l) is fit = absurd cc
is_new before b (Idle l i k) is fit = absurd cc
is_new before b (Watch l f m a) is fit = absurd cc
is_new before b (Event l f m) is fit = absurd cc
is_new before b (Frame l p i d) is fit = absurd cc
is_new before b (Unframe l p i) is fit = absurd cc

not_both : (a : Bool) → a ≡ true → not a ≡ true → ⊥
not_both true is isnt = absurd cc
not_both false is isnt = absurd cc

no_more_uses : (b : ℕ) (before cs : List Command) → fits before cs ≡ true → has_label b before ≡ true → uses b cs ≡ 0
no_more_uses b before [] fit has = refl
no_more_uses b before (c ∷ cs) fit has = by_label (is_label b c) refl (no_more_uses b (before ++ c ∷ []) cs parts.1 (list_any-append (is_label b) before (c ∷ []) ∙ or_left (has_label b before) (has_label b (c ∷ [])) has))
  where
    parts : (fits_one before c ≡ true) × (fits (before ++ c ∷ []) cs ≡ true)
    parts = and_parts (fits_one before c) (fits (before ++ c ∷ []) cs) fit

    by_label : (t : Bool) → is_label b c ≡ t → uses b cs ≡ 0 → cond t 1 0 + uses b cs ≡ 0
    by_label true is rest = absurd (not_both (has_label b before) has (is_new before b c is parts.0))
    by_label false is rest = omega (arith, rest)

once : (b : ℕ) (before cs : List Command) → fits before cs ≡ true → uses b cs ≤ 1
once b before [] fit = omega arith
once b before (c ∷ cs) fit = by_label (is_label b c) refl (once b (before ++ c ∷ []) cs parts.1)
  where
    parts : (fits_one before c ≡ true) × (fits (before ++ c ∷ []) cs ≡ true)
    parts = and_parts (fits_one before c) (fits (before ++ c ∷ []) cs) fit

    by_label : (t : Bool) → is_label b c ≡ t → uses b cs ≤ 1 → cond t 1 0 + uses b cs ≤ 1
    by_label true is rest =
        let has : has_label b (before ++ c ∷ []) ≡ true = list_any-append (is_label b) before (c ∷ []) ∙ or_right (has_label b before) (has_label b (c ∷ [])) (or_left (is_label b c) false is) in
        let none : uses b cs ≡ 0 = no_more_uses b (before ++ c ∷ []) cs parts.1 has in
        omega (arith, none)
    by_label false is rest = omega (arith, rest)

-- a label that is used on one queue is used on no other
one_apart : (q o b : ℕ) (c : Command) → q ≢ o → cond (is_one (label_on q c) b) 1 0 + cond (is_one (label_on o c) b) 1 0 ≤ cond (is_label b c) 1 0
one_apart q o b (Barrier l x) apart = at (l == q) (l == o) (x == b) refl refl
  where
    at : (s t u : Bool) → (l == q) ≡ s → (l == o) ≡ t → cond (is_one (if s then Some x else None) b) 1 0 + cond (is_one (if t then Some x else None) b) 1 0 ≤ cond (x == b) 1 0
    at true true u is is' = absurd (apart (sym (eqb-true l q is) ∙ eqb-true l o is'))
    at true false u is is' = omega arith
    at false true u is is' = omega arith
    at false false u is is' = omega arith
one_apart q o b (Post h w d) apart = omega arith
one_apart q o b (PostAsync h w d) apart = omega arith
one_apart q o b (Front h w) apart = omega arith
one_apart q o b (Callback h i d) apart = omega arith
one_apart q o b (Set g v) apart = omega arith
one_apart q o b (Remove h w) apart = omega arith
one_apart q o b (RemoveCallback h i) apart = omega arith
one_apart q o b (RemoveAll h) apart = omega arith
one_apart q o b (Unbarrier u) apart = omega arith
one_apart q o b (Quit l) apart = omega arith
one_apart q o b (QuitSafely l) apart = omega arith
one_apart q o b (Idle l i k) apart = omega arith
one_apart q o b (Watch l f m a) apart = omega arith
one_apart q o b (Event l f m) apart = omega arith
one_apart q o b (Frame l p i d) apart = omega arith
one_apart q o b (Unframe l p i) apart = omega arith

uses_apart : (q o b : ℕ) (cs : List Command) → q ≢ o → uses_on q b cs + uses_on o b cs ≤ uses b cs
uses_apart q o b [] apart = omega arith
uses_apart q o b (c ∷ cs) apart = omega (arith, one_apart q o b c apart, uses_apart q o b cs apart)

-- ---- labels among the lines of one queue

abbrev is_in : ℕ → List ℕ → Bool
is_in b xs = list_any (λ x. x == b) xs

in_option : (b : ℕ) (o : Option ℕ) (xs : List ℕ) → is_in b (cons_option o xs) ≡ (is_one o b || is_in b xs)
in_option b None xs = refl
in_option b (Some x) xs = refl

in_if_used : (q b : ℕ) (ts : List TimedCommand) → is_in b (labels_on q ts) ≡ true → 1 ≤ uses_on q b (its_commands ts)
unfolding its_commands
in_if_used q b [] is = absurd cc
in_if_used q b (t ∷ ts) is = by_head (is_one (label_on q t.command) b) (sym (in_option b (label_on q t.command) (labels_on q ts)) ∙ is) (in_if_used q b ts)
  where
    by_head : (o : Bool) → (o || is_in b (labels_on q ts)) ≡ true → (is_in b (labels_on q ts) ≡ true → 1 ≤ uses_on q b (map (λ t. t.command) ts)) → 1 ≤ cond o 1 0 + uses_on q b (map (λ t. t.command) ts)
    by_head true is rest = omega arith
    by_head false is rest = (let some = rest is in omega (arith, some))

used_not_in : (q b : ℕ) (ts : List TimedCommand) (t : Bool) → is_in b (labels_on q ts) ≡ t → uses_on q b (its_commands ts) ≡ 0 → is_in b (labels_on q ts) ≡ false
used_not_in q b ts true is none = absurd (let some = in_if_used q b ts is in omega (arith, some, none))
used_not_in q b ts false is none = is

position_none : (b i : ℕ) (xs : List ℕ) → is_in b xs ≡ false → position_from (λ x. x == b) i xs ≡ None
position_none b i [] none = refl
position_none b i (x ∷ xs) none = at (x == b) none (position_none b (i + 1) xs)
  where
    at : (t : Bool) → (t || is_in b xs) ≡ false → (is_in b xs ≡ false → position_from (λ x. x == b) (i + 1) xs ≡ None) → cond t (Some i) (position_from (λ x. x == b) (i + 1) xs) ≡ None
    at true none rest = absurd cc
    at false none rest = rest none

position_in : (b i k : ℕ) (xs ys : List ℕ) → position_from (λ x. x == b) i xs ≡ Some k → (position_from (λ x. x == b) i (xs ++ ys) ≡ Some k) × (is_in b xs ≡ true)
position_in b i k [] ys is = absurd cc
position_in b i k (x ∷ xs) ys is = at (x == b) is (position_in b (i + 1) k xs ys)
  where
    at : (t : Bool) → cond t (Some i) (position_from (λ x. x == b) (i + 1) xs) ≡ Some k
        → (position_from (λ x. x == b) (i + 1) xs ≡ Some k → (position_from (λ x. x == b) (i + 1) (xs ++ ys) ≡ Some k) × (is_in b xs ≡ true))
        → (cond t (Some i) (position_from (λ x. x == b) (i + 1) (xs ++ ys)) ≡ Some k) × ((t || is_in b xs) ≡ true)
    at true is rest = (is, refl)
    at false is rest = rest is

-- ---- the barriers that are kept

-- the label stands at the same place among these labels as the token among these tokens
abbrev Stands : ℕ → ℕ → List ℕ → List ℕ → ℕ → Type 0
Stands b i labels tokens token = (k : ℕ) × (position_from (λ l. l == b) i labels ≡ Some (i + k)) × (slice_index tokens k ≡ token)

deeper : (b i label other : ℕ) (t : Bool) (labels tokens : List ℕ) (token : ℕ) → (label == b) ≡ false → Stands b (i + 1) labels tokens token → Stands b i labels tokens token
    → Stands b i (cons_option (if t then Some label else None) labels) (cons_option (if t then Some other else None) tokens) token
deeper b i label other true labels tokens token isnt (k, place, here) below =
    let next : i + 1 + k ≡ i + suc k = omega arith in
    (suc k, ap (λ (t : Bool). cond t (Some i) (position_from (λ l. l == b) (i + 1) labels)) isnt ∙ (place ∙ ap Some next), here)
deeper b i label other false labels tokens token isnt above below = below

first_here : (b i label other : ℕ) (t : Bool) (labels tokens : List ℕ) (token : ℕ) → (label == b) ≡ true → t ≡ true → other ≡ token
    → Stands b i (cons_option (if t then Some label else None) labels) (cons_option (if t then Some other else None) tokens) token
first_here b i label other true labels tokens token is mine same =
    let place : i ≡ i + 0 = omega arith in
    (0, ap (λ (t : Bool). cond t (Some i) (position_from (λ l. l == b) (i + 1) labels)) is ∙ ap Some place, same)
first_here b i label other false labels tokens token is mine same = absurd cc

one_found : (b i : ℕ) (y : Labelled) (bs : List Labelled) (x : Labelled) (t : Bool) → (y.label == b) ≡ t → cond t (Some y) (find (λ (z : Labelled). z.label == b) bs) ≡ Some x
    → (find (λ (z : Labelled). z.label == b) bs ≡ Some x → Stands b (i + 1) (labels_kept x.looper bs) (tokens_kept x.looper bs) x.token)
    → (find (λ (z : Labelled). z.label == b) bs ≡ Some x → Stands b i (labels_kept x.looper bs) (tokens_kept x.looper bs) x.token)
    → Stands b i (labels_kept x.looper (y ∷ bs)) (tokens_kept x.looper (y ∷ bs)) x.token
one_found b i y bs x true is here above below =
    let same : y ≡ x = cc here in
    first_here b i y.label y.token (y.looper == x.looper) (labels_kept x.looper bs) (tokens_kept x.looper bs) x.token is (eq-eqb y.looper x.looper (ap (λ (z : Labelled). z.looper) same)) (ap (λ (z : Labelled). z.token) same)
one_found b i y bs x false isnt here above below =
    deeper b i y.label y.token (y.looper == x.looper) (labels_kept x.looper bs) (tokens_kept x.looper bs) x.token isnt (above here) (below here)

-- the barrier that is found stands at the same place among the labels and the tokens of its queue
found_at : (b i : ℕ) (bs : List Labelled) (x : Labelled) → find (λ (y : Labelled). y.label == b) bs ≡ Some x → Stands b i (labels_kept x.looper bs) (tokens_kept x.looper bs) x.token
found_at b i [] x is = absurd cc
found_at b i (y ∷ bs) x is = one_found b i y bs x (y.label == b) refl is (found_at b (i + 1) bs x) (found_at b i bs x)

-- where no barrier is found, no queue's labels hold it
not_found : (b q : ℕ) (bs : List Labelled) → find (λ (y : Labelled). y.label == b) bs ≡ None → is_in b (labels_kept q bs) ≡ false
not_found b q [] none = refl
not_found b q (y ∷ bs) none = at (y.label == b) (y.looper == q) refl none (not_found b q bs)
  where
    at : (t u : Bool) → (y.label == b) ≡ t → cond t (Some y) (find (λ (z : Labelled). z.label == b) bs) ≡ None
        → (find (λ (z : Labelled). z.label == b) bs ≡ None → is_in b (labels_kept q bs) ≡ false)
        → is_in b (cons_option (if u then Some y.label else None) (labels_kept q bs)) ≡ false
    at true u is none rest = absurd cc
    at false true is none rest = ap (λ (t : Bool). t || is_in b (labels_kept q bs)) is ∙ rest none
    at false false is none rest = rest none

-- a label that no queue's lines have is no barrier's
on_its_own : (b : ℕ) (c : Command) → is_label b c ≡ true → (q : ℕ) × (is_one (label_on q c) b ≡ true)
on_its_own b (Barrier l x) is = (l, ap (λ (t : Bool). is_one (if t then Some x else None) b) (eq-eqb l l refl) ∙ is)
on_its_own b (Post h w d) is = absurd cc
on_its_own b (PostAsync h w d) is = absurd cc
on_its_own b (Front h w) is = absurd cc
on_its_own b (Callback h i d) is = absurd cc
on_its_own b (Set g v) is = absurd cc
on_its_own b (Remove h w) is = absurd cc
on_its_own b (RemoveCallback h i) is = absurd cc
on_its_own b (RemoveAll h) is = absurd cc
on_its_own b (Unbarrier u) is = absurd cc
on_its_own b (Quit l) is = absurd cc
on_its_own b (QuitSafely l) is = absurd cc
on_its_own b (Idle l i k) is = absurd cc
on_its_own b (Watch l f m a) is = absurd cc
on_its_own b (Event l f m) is = absurd cc
on_its_own b (Frame l p i d) is = absurd cc
on_its_own b (Unframe l p i) is = absurd cc

in_first : (b q : ℕ) (t : TimedCommand) (ts : List TimedCommand) → is_one (label_on q t.command) b ≡ true → is_in b (labels_on q (t ∷ ts)) ≡ true
in_first b q t ts is = in_option b (label_on q t.command) (labels_on q ts) ∙ or_left (is_one (label_on q t.command) b) (is_in b (labels_on q ts)) is

in_later : (b q : ℕ) (t : TimedCommand) (ts : List TimedCommand) → is_in b (labels_on q ts) ≡ true → is_in b (labels_on q (t ∷ ts)) ≡ true
in_later b q t ts is = in_option b (label_on q t.command) (labels_on q ts) ∙ or_right (is_one (label_on q t.command) b) (is_in b (labels_on q ts)) is

on_some : (b : ℕ) (ts : List TimedCommand) → has_label b (its_commands ts) ≡ true → (q : ℕ) × (is_in b (labels_on q ts) ≡ true)
unfolding its_commands
on_some b [] has = absurd cc
on_some b (t ∷ ts) has = at (is_label b t.command) refl has (on_some b ts)
  where
    at : (u : Bool) → is_label b t.command ≡ u → (u || has_label b (map (λ t. t.command) ts)) ≡ true
        → (has_label b (map (λ t. t.command) ts) ≡ true → (q : ℕ) × (is_in b (labels_on q ts) ≡ true))
        → (q : ℕ) × (is_in b (labels_on q (t ∷ ts)) ≡ true)
    at true is has rest = (let own = on_its_own b t.command is in (own.0, in_first b own.0 t ts own.1))
    at false is has rest = (let r = rest has in (r.0, in_later b r.0 t ts r.1))

-- ---- the removal of a barrier

module _ (s : Script) (thread : ℕ) (text : HasText s) (past rest : List TimedCommand) (l : TimedCommand) (b : ℕ) (are : past ++ (l ∷ rest) ≡ lines_of thread s.blocks) (is : l.command ≡ Unbarrier b)
    (bs : List Labelled) (labels : (q : ℕ) → labels_kept q bs ≡ labels_on q past) where
  all_labels : (q : ℕ) → labels_on q (lines_of thread s.blocks) ≡ labels_kept q bs ++ labels_on q (l ∷ rest)
  all_labels q = ap (labels_on q) (sym are) ∙ (filter_map-append (λ (t : TimedCommand). label_on q t.command) past (l ∷ rest) ∙ ap (λ (xs : List ℕ). xs ++ labels_on q (l ∷ rest)) (sym (labels q)))

  was_posted : has_label b (its_commands past) ≡ true
  unfolding its_commands
  was_posted =
      let split : its_commands (lines_of thread s.blocks) ≡ its_commands past ++ (l.command ∷ its_commands rest) = ap its_commands (sym are) ∙ map-append (λ t. t.command) past (l ∷ rest) in
      let fit : fits_one (its_commands past) l.command ≡ true = fits_at [] (its_commands past) (its_commands rest) l.command (ap (fits []) (sym split) ∙ all_fit s thread text) in
      ap (fits_one (its_commands past)) (sym is) ∙ fit

  -- the thread keeps the barrier
  pub is_kept : (x : Labelled) × (find (λ (y : Labelled). y.label == b) bs ≡ Some x)
  is_kept = at (find (λ (y : Labelled). y.label == b) bs) refl
    where
      at : (o : Option Labelled) → find (λ (y : Labelled). y.label == b) bs ≡ o → (x : Labelled) × (o ≡ Some x)
      at (Some x) found = (x, refl)
      at None found =
          let on = on_some b past was_posted in
          let out : is_in b (labels_on on.0 past) ≡ false = ap (is_in b) (sym (labels on.0)) ∙ not_found b on.0 bs found in
          absurd (let wrong : true ≡ false = sym on.1 ∙ out in cc wrong)

  -- and the call is its removal, on its queue alone
  pub unbarrier_plan : (x : Labelled) (q u : ℕ) (tokens : List ℕ) → find (λ (y : Labelled). y.label == b) bs ≡ Some x → tokens ≡ tokens_kept q bs
      → option_map (call_of tokens) (planned s (labels_on q (lines_of thread s.blocks)) q u (Unbarrier b)) ≡ call_at (removal_of x) q
  unbarrier_plan x q u tokens found same = at (x.looper == q) refl
    where
      kept : Stands b 0 (labels_kept x.looper bs) (tokens_kept x.looper bs) x.token
      kept = found_at b 0 bs x found

      at : (t : Bool) → (x.looper == q) ≡ t → option_map (call_of tokens) (option_map Unbars (position (λ l. l == b) (labels_on q (lines_of thread s.blocks)))) ≡ (if t then Some (call.Unbarrier x.token) else None)
      at true here =
          let zero : 0 + kept.0 ≡ kept.0 = omega arith in
          let queue : x.looper ≡ q = eqb-true x.looper q here in
          let place : position_from (λ l. l == b) 0 (labels_kept q bs) ≡ Some kept.0 = ap (λ (n : ℕ). position_from (λ l. l == b) 0 (labels_kept n bs)) (sym queue) ∙ (kept.1 ∙ ap Some zero) in
          let all = labels_on q (lines_of thread s.blocks) in
          let whole : position (λ l. l == b) all ≡ Some kept.0 =
          position_from-zero (λ l. l == b) all ∙ (ap (position_from (λ l. l == b) 0) (all_labels q) ∙ (position_in b 0 kept.0 (labels_kept q bs) (labels_on q (l ∷ rest)) place).0) in
          let token : slice_index tokens kept.0 ≡ x.token = ap (λ (ts : List ℕ). slice_index ts kept.0) (same ∙ ap (λ (n : ℕ). tokens_kept n bs) (sym queue)) ∙ kept.2 in
          ap (λ (o : Option ℕ). option_map (call_of tokens) (option_map Unbars o)) whole ∙ ap (λ (n : ℕ). Some (call.Unbarrier n)) token
      at false there =
          let apart : q ≢ x.looper = λ same. absurd (let wrong : true ≡ false = sym (eq-eqb x.looper q (sym same)) ∙ there in cc wrong) in
          let all = labels_on q (lines_of thread s.blocks) in
          let cs = its_commands (lines_of thread s.blocks) in
          let most : uses b cs ≤ 1 = once b [] cs (all_fit s thread text) in
          let both : uses_on q b cs + uses_on x.looper b cs ≤ uses b cs = uses_apart q x.looper b cs apart in
          let mine : is_in b (labels_on x.looper (lines_of thread s.blocks)) ≡ true =
          ap (is_in b) (all_labels x.looper) ∙ (list_any-append (λ n. n == b) (labels_kept x.looper bs) (labels_on x.looper (l ∷ rest)) ∙ or_left _ _ (position_in b 0 (0 + kept.0) (labels_kept x.looper bs) [] kept.1).1) in
          let used : 1 ≤ uses_on x.looper b cs = in_if_used x.looper b (lines_of thread s.blocks) mine in
          let none : uses_on q b cs ≡ 0 = omega (arith, most, both, used) in
          let out : is_in b all ≡ false = used_not_in q b (lines_of thread s.blocks) (is_in b all) refl none in
          let nowhere : position (λ l. l == b) all ≡ None = position_from-zero (λ l. l == b) all ∙ position_none b 0 all out in
          ap (λ (o : Option ℕ). option_map (call_of tokens) (option_map Unbars o)) nowhere
