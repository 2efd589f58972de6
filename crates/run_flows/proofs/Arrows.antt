-- Posts and arrows, one entry more.
use Rattle.std.proofs.Common.{◌≡◌, ◌<◌, ◌+◌, ℕ, max, List, [], ◌∷◌, ◌++◌, Option, Some, None, option_to_list, length, get_or, take, drop, refl, sym, ap, subst, ◌∙◌, append_assoc}
use Rattle.std.specs.List.{cons_option, filter_map}
use Rattle.std.proofs.lemmas.List.{take_more, drop_more}
use Rattle.std.proofs.lemmas.List.Elements.{filter_map-append}
use Rattle.loop_model.specs.declared.entry.Entry.{Entry}
use Rattle.loop_model.specs.Entries.{moment_of}
use Rattle.run_flows.specs.declared.flow.Sent.{Sent}
use Rattle.run_flows.specs.declared.flow.Flow.{Flow}
use Rattle.run_flows.specs.Flows.{flow_to, added_post, sent_from}

-- the posts of one entry more
pub sent_more : (es : List Entry) (i : ℕ) (d : Entry) (time later : ℕ) (was now whole : List Sent) → i < length es
    → now ≡ was ++ option_to_list (added_post time (get_or es i d)) → later ≡ max time (moment_of (get_or es i d).call)
    → was ++ sent_from time (drop i es) ≡ whole → now ++ sent_from later (drop (i + 1) es) ≡ whole
sent_more es i d time later was now whole lt push clock before =
    ap (λ l. l ++ sent_from later (drop (i + 1) es)) push
    ∙ ap (λ t. was ++ option_to_list (added_post time (get_or es i d)) ++ sent_from t (drop (i + 1) es)) clock
    ∙ append_assoc was (option_to_list (added_post time (get_or es i d))) (sent_from (max time (moment_of (get_or es i d).call)) (drop (i + 1) es))
    ∙ ap (λ l. was ++ sent_from time l) (sym (drop_more es i d lt)) ∙ before

single : {A B : Type 0} (h : A → Option B) (x : A) → filter_map h (x ∷ []) ≡ option_to_list (h x)
single h x = elim (h x) as (λ o. cons_option o [] ≡ option_to_list o) [ None ↦ refl | Some y ↦ refl ]

-- what is picked of one element more
picked_more : {A B : Type 0} (h : A → Option B) (xs : List A) (i : ℕ) (d : A) (was out now : List B) → i < length xs
    → now ≡ out ++ option_to_list (h (get_or xs i d)) → out ≡ was ++ filter_map h (take i xs) → now ≡ was ++ filter_map h (take (i + 1) xs)
picked_more h xs i d was out now lt push before =
    push ∙ ap (λ l. l ++ option_to_list (h (get_or xs i d))) before ∙ append_assoc was (filter_map h (take i xs)) (option_to_list (h (get_or xs i d)))
    ∙ ap (λ l. was ++ (filter_map h (take i xs) ++ l)) (sym (single h (get_or xs i d)))
    ∙ ap (λ l. was ++ l) (sym (filter_map-append h (take i xs) (get_or xs i d ∷ [])) ∙ ap (filter_map h) (sym (take_more xs i d lt)))

-- the arrows of one entry more of a queue
pub flow_more : (q es : List Entry) (i looper : ℕ) (d : Entry) (posts found : List Sent) (o : Option Flow) (was out now : List Flow)
    → es ≡ q → i < length es → found ≡ sent_from 0 es → posts ≡ found → o ≡ flow_to posts looper (get_or es i d) → now ≡ out ++ option_to_list o
    → out ≡ was ++ filter_map (flow_to (sent_from 0 q) looper) (take i q) → now ≡ was ++ filter_map (flow_to (sent_from 0 q) looper) (take (i + 1) q)
flow_more q es i looper d posts found o was out now same lt all is to push before =
    let arrow : o ≡ flow_to (sent_from 0 es) looper (get_or es i d) = to ∙ ap (λ ps. flow_to ps looper (get_or es i d)) (is ∙ all) in
    subst (λ l. out ≡ was ++ filter_map (flow_to (sent_from 0 l) looper) (take i l) → now ≡ was ++ filter_map (flow_to (sent_from 0 l) looper) (take (i + 1) l))
    same (picked_more (flow_to (sent_from 0 es) looper) es i d was out now lt (push ∙ ap (λ x. out ++ option_to_list x) arrow)) before
