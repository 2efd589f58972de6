-- Trace events as values, one after the other.
use Rattle.std.proofs.Common.{◌≡◌, ◌<◌, ◌+◌, ℕ, List, [], ◌∷◌, ◌++◌, length, get_or, take, drop, map, false, Vec, Global, refl, sym, ap, ◌∙◌, append_assoc}
use Rattle.std.proofs.lemmas.List.{take_more, drop_more}
use Rattle.serde_json.specs.Data.{Data, array}
use Rattle.serde_json.specs.View.{view, items_of}
use Rattle.serde_json.specs.Written.{has_float, items_have_float, members_have_float, compact_text}
use Rattle.serde_json.specs.declared.value.Value.{Value, Array}
use Rattle.serde_json.proofs.Views.{view-Array}
use Rattle.run_picture.specs.declared.report.Looper.{Looper}
use Rattle.run_picture.specs.declared.report.Report.{Report}
use Rattle.run_picture.specs.declared.mark.Mark.{Mark}
use Rattle.run_picture.specs.declared.mark.MarkKind.{MarkKind}
use Rattle.run_picture.specs.declared.mark.MarkKind.TheVariants.{Dispatch, Frame, Run, Paint}
use Rattle.run_picture.specs.Marks.{marks}
use Rattle.run_picture.specs.Events.{event, process, thread, threads_from, trace, kind_members, moment_members, naming}

-- what is seen of a list with one value more
map_more : {A B : Type 0} (f : A → B) (xs : List A) (x : A) → map f (xs ++ x ∷ []) ≡ map f xs ++ f x ∷ []
map_more f [] x = refl
map_more f (y ∷ xs) x = ap (λ l. f y ∷ l) (map_more f xs x)

-- one event more
pub event_more : (ms : List Mark) (i period : ℕ) (d : Mark) (was : List Data) (out now : List Value) (v : Value) → i < length ms
    → now ≡ out ++ v ∷ [] → map view out ≡ was ++ map (event period) (take i ms) → view v ≡ event period (get_or ms i d) → map view now ≡ was ++ map (event period) (take (i + 1) ms)
event_more ms i period d was out now v lt push before e =
    ap (λ l. map view l) push ∙ map_more view out v ∙ ap (λ l. l ++ view v ∷ []) before ∙ ap (λ x. was ++ map (event period) (take i ms) ++ x ∷ []) e
    ∙ append_assoc was (map (event period) (take i ms)) (event period (get_or ms i d) ∷ [])
    ∙ ap (λ l. was ++ l) (sym (map_more (event period) (take i ms) (get_or ms i d)))
    ∙ ap (λ l. was ++ map (event period) l) (sym (take_more ms i d lt))

-- one thread's name more
pub thread_more : (ls : List Looper) (i lane : ℕ) (d : Looper) (out now : List Value) (v : Value) (whole : List Data) → i < length ls
    → now ≡ out ++ v ∷ [] → map view out ++ threads_from lane (drop i ls) ≡ whole → view v ≡ thread lane → map view now ++ threads_from (lane + 1) (drop (i + 1) ls) ≡ whole
thread_more ls i lane d out now v whole lt push before e =
    ap (λ l. l ++ threads_from (lane + 1) (drop (i + 1) ls)) (ap (λ l. map view l) push ∙ map_more view out v ∙ ap (λ x. map view out ++ x ∷ []) e)
    ∙ append_assoc (map view out) (thread lane ∷ []) (threads_from (lane + 1) (drop (i + 1) ls))
    ∙ ap (λ x. map view out ++ threads_from lane x) (sym (drop_more ls i d lt)) ∙ before

-- no event has a float
kind_whole : (period : ℕ) (m : Mark) (k : MarkKind) → members_have_float (kind_members period k (moment_members m)) ≡ false
unfolding kind_members moment_members
kind_whole period m (Dispatch n handler subject) = refl
kind_whole period m Frame = refl
kind_whole period m (Run r) = refl
kind_whole period m (Paint gauge value) = refl

event_whole : (period : ℕ) (m : Mark) → has_float (event period m) ≡ false
unfolding event
event_whole period m = kind_whole period m m.kind

thread_whole : (lane : ℕ) → has_float (thread lane) ≡ false
unfolding thread naming
thread_whole lane = refl

process_whole : has_float process ≡ false
unfolding process naming
process_whole = refl

item_whole : (d : Data) (ds : List Data) → has_float d ≡ false → items_have_float (items_of ds) ≡ false → items_have_float (items_of (d ∷ ds)) ≡ false
item_whole d ds a b = rw (a, b)

events_whole : (period : ℕ) (ms : List Mark) → items_have_float (items_of (map (event period) ms)) ≡ false
events_whole period [] = refl
events_whole period (m ∷ ms) = item_whole (event period m) (map (event period) ms) (event_whole period m) (events_whole period ms)

threads_whole : (lane : ℕ) (ls : List Looper) (more : List Data) → items_have_float (items_of more) ≡ false → items_have_float (items_of (threads_from lane ls ++ more)) ≡ false
threads_whole lane [] more e = e
threads_whole lane (l ∷ ls) more e = item_whole (thread lane) (threads_from (lane + 1) ls ++ more) (thread_whole lane) (threads_whole (lane + 1) ls more e)

trace_whole : (period : ℕ) (r : Report) → items_have_float (items_of (trace period r)) ≡ false
trace_whole period r =
    item_whole process (threads_from 0 r.loopers ++ map (event period) (marks r)) process_whole
    (threads_whole 0 r.loopers (map (event period) (marks r)) (events_whole period (marks r)))

-- the text of the values of a trace
pub traced : (period : ℕ) (r : Report) (v : Vec Value Global) (text : List ℕ) → map view v.items ≡ trace period r
    → (has_float (view (Array v)) ≡ false → text ≡ compact_text (view (Array v))) → text ≡ compact_text (array (items_of (trace period r)))
traced period r v text e says =
    let seen : view (Array v) ≡ array (items_of (trace period r)) = view-Array v ∙ ap (λ ds. array (items_of ds)) e in
    says (ap has_float seen ∙ trace_whole period r) ∙ ap compact_text seen
