-- The events of arrows as values.
use Rattle.std.proofs.Common.{◌≡◌, ◌<◌, ◌+◌, ℕ, List, [], ◌∷◌, ◌++◌, length, get_or, drop, map, false, Vec, Global, refl, sym, ap, ◌∙◌, append_assoc}
use Rattle.std.proofs.lemmas.List.{drop_more, map-append}
use Rattle.serde_json.specs.Data.{Data, array}
use Rattle.serde_json.specs.View.{view, items_of}
use Rattle.serde_json.specs.Written.{has_float, items_have_float, compact_text}
use Rattle.serde_json.specs.declared.value.Value.{Value, Array}
use Rattle.serde_json.proofs.Views.{view-Array}
use Rattle.run_picture.specs.Events.{naming}
use Rattle.trace_check.specs.declared.trace.Trace.{Trace}
use Rattle.run_flows.specs.declared.flow.Flow.{Flow}
use Rattle.run_flows.specs.Flows.{flows}
use Rattle.run_flows.specs.Events.{arrows_from, dispatch_event, arrow_end, events, placed_slice, post_event, process}

-- one value more
value_more : (out now : List Value) (v : Value) (d : Data) → now ≡ out ++ v ∷ [] → view v ≡ d → map view now ≡ map view out ++ d ∷ []
value_more out now v d push e = ap (λ l. map view l) push ∙ map-append view out (v ∷ []) ∙ ap (λ x. map view out ++ x ∷ []) e

-- both ends of one arrow more
pub arrow_more : (fs : List Flow) (i arrow : ℕ) (d : Flow) (out between now : List Value) (v w : Value) (whole : List Data) → i < length fs
    → between ≡ out ++ v ∷ [] → view v ≡ post_event arrow (get_or fs i d) → now ≡ between ++ w ∷ [] → view w ≡ dispatch_event arrow (get_or fs i d)
    → map view out ++ arrows_from arrow (drop i fs) ≡ whole → map view now ++ arrows_from (arrow + 1) (drop (i + 1) fs) ≡ whole
arrow_more fs i arrow d out between now v w whole lt first e second f before =
    ap (λ l. l ++ arrows_from (arrow + 1) (drop (i + 1) fs))
    (value_more between now w (dispatch_event arrow (get_or fs i d)) second f
    ∙ ap (λ l. l ++ dispatch_event arrow (get_or fs i d) ∷ []) (value_more out between v (post_event arrow (get_or fs i d)) first e))
    ∙ append_assoc (map view out ++ post_event arrow (get_or fs i d) ∷ []) (dispatch_event arrow (get_or fs i d) ∷ []) (arrows_from (arrow + 1) (drop (i + 1) fs))
    ∙ append_assoc (map view out) (post_event arrow (get_or fs i d) ∷ []) (dispatch_event arrow (get_or fs i d) ∷ arrows_from (arrow + 1) (drop (i + 1) fs))
    ∙ ap (λ l. map view out ++ arrows_from arrow l) (sym (drop_more fs i d lt)) ∙ before

-- no event has a float
post_whole : (arrow : ℕ) (f : Flow) → has_float (post_event arrow f) ≡ false
unfolding arrow_end placed_slice
post_whole arrow f = refl

dispatch_whole : (arrow : ℕ) (f : Flow) → has_float (dispatch_event arrow f) ≡ false
unfolding arrow_end placed_slice
dispatch_whole arrow f = refl

process_whole : has_float process ≡ false
unfolding process naming
process_whole = refl

item_whole : (d : Data) (ds : List Data) → has_float d ≡ false → items_have_float (items_of ds) ≡ false → items_have_float (items_of (d ∷ ds)) ≡ false
item_whole d ds a b = rw (a, b)

arrows_whole : (arrow : ℕ) (fs : List Flow) → items_have_float (items_of (arrows_from arrow fs)) ≡ false
arrows_whole arrow [] = refl
arrows_whole arrow (f ∷ fs) =
    item_whole (post_event arrow f) (dispatch_event arrow f ∷ arrows_from (arrow + 1) fs) (post_whole arrow f)
    (item_whole (dispatch_event arrow f) (arrows_from (arrow + 1) fs) (dispatch_whole arrow f) (arrows_whole (arrow + 1) fs))

events_whole : (t : Trace) → items_have_float (items_of (events t)) ≡ false
events_whole t = item_whole process (arrows_from 0 (flows t)) process_whole (arrows_whole 0 (flows t))

-- the text of the values of a trace's arrows
pub written : (t : Trace) (v : Vec Value Global) (text : List ℕ) → map view v.items ≡ events t
    → (has_float (view (Array v)) ≡ false → text ≡ compact_text (view (Array v))) → text ≡ compact_text (array (items_of (events t)))
written t v text e says =
    let seen : view (Array v) ≡ array (items_of (events t)) = view-Array v ∙ ap (λ ds. array (items_of ds)) e in
    says (ap has_float seen ∙ events_whole t) ∙ ap compact_text seen
