-- What a dispatcher was asked, put together.
use Rattle.std.proofs.Common.{◌≡◌, List, [], ◌∷◌, ◌++◌, map, Option, Some, None, refl, sym, ap, subst, ◌∙◌, append_assoc, arith}
use mathlib.Core.List.{map-append}
use Rattle.std.proofs.lemmas.List.{append-nil}
use Rattle.std.specs.List.{filter_map, cons_option}
use Rattle.std.proofs.lemmas.List.Elements.{All-push, filter_map-append}
use Rattle.loop_model.specs.declared.journal.Act.{Act}
use Rattle.looper_run.specs.declared.dispatcher.Did.{Did}
use Rattle.looper_run.specs.declared.dispatcher.Did.TheVariants.{Yes, No, NoMemory}
use Rattle.looper_run.specs.Tests.{Unless}
use Rattle.looper_run.specs.Asked.{Asked, Listen, Listening, with_asked, IsMask, event_act, TellsOf}

pub with_none : (told : Option (List Asked)) → told ≡ with_asked told []
with_none None = refl
with_none (Some told) = ap Some (sym (append-nil told))

pub with_more : (told : Option (List Asked)) (xs ys : List Asked) → with_asked (with_asked told xs) ys ≡ with_asked told (xs ++ ys)
with_more None xs ys = refl
with_more (Some told) xs ys = ap Some (append_assoc told xs ys)

-- nothing was asked
pub tells_none : (told : Option (List Asked)) (acts : List Act) → TellsOf (λ heard. told ≡ with_asked told (map Listen heard)) acts acts
tells_none told acts = ([], sym (append-nil acts), λ k d near. absurd (omega (arith, near)), with_none told)

-- one more listener was asked, and told
pub tells_more : (before now after : Option (List Asked)) (h : Listening) (xs ys zs : List Act) → TellsOf (λ heard. now ≡ with_asked before (map Listen heard)) xs ys
    → after ≡ with_asked now (Listen h ∷ []) → zs ≡ ys ++ event_act h ∷ [] → IsMask h → TellsOf (λ heard. after ≡ with_asked before (map Listen heard)) xs zs
tells_more before now after h xs ys zs told is acts mask =
    let heard = told.0 in (
      heard ++ h ∷ [],
      acts ∙ (ap (λ l. l ++ event_act h ∷ []) told.1 ∙ (append_assoc xs (map event_act heard) (event_act h ∷ []) ∙ ap (λ l. xs ++ l) (sym (map-append event_act heard (h ∷ []))))),
      All-push IsMask heard h told.2 mask,
      is ∙ (ap (λ t. with_asked t (Listen h ∷ [])) told.3 ∙ (with_more before (map Listen heard) (Listen h ∷ []) ∙ ap (with_asked before) (sym (map-append Listen heard (h ∷ []))))),
    )

-- the same acts, of which something else holds
pub tells_as : (P Q : List Listening → Type 0) (xs ys : List Act) → ((heard : List Listening) → P heard → Q heard) → TellsOf P xs ys → TellsOf Q xs ys
tells_as P Q xs ys weaker told = (told.0, told.1, told.2, weaker told.0 told.3)

pub unless_weaker : (P Q : Type 0) (r : Did) → (P → Q) → Unless r P → Unless r Q
unless_weaker P Q Yes weaker h = weaker h
unless_weaker P Q No weaker h = weaker h
unless_weaker P Q NoMemory weaker h = tt

without : {X Y : Type 0} (f : X → Option Y) (xs ys : List X) (x : X) → ys ≡ xs ++ x ∷ [] → f x ≡ None → filter_map f ys ≡ filter_map f xs
without f xs ys x noted none =
    ap (filter_map f) noted ∙ (filter_map-append f xs (x ∷ []) ∙ (ap (λ o. filter_map f xs ++ cons_option o []) none ∙ append-nil (filter_map f xs)))

-- what is not looked for makes no difference, whether it was noted or not
pub same_kept : {X Y : Type 0} (f : X → Option Y) (r : Did) (xs ys : List X) (x : X) → Unless r (ys ≡ xs ++ x ∷ []) → (r ≡ NoMemory → ys ≡ xs) → f x ≡ None → filter_map f ys ≡ filter_map f xs
same_kept f Yes xs ys x noted lost none = without f xs ys x noted none
same_kept f No xs ys x noted lost none = without f xs ys x noted none
same_kept f NoMemory xs ys x noted lost none = ap (filter_map f) (lost refl)

-- a test of acts that is true of them with one more
pub passes_on : (M : List Act → Type 0) (xs ys : List Act) (a : Act) → ys ≡ xs ++ a ∷ [] → M (xs ++ a ∷ []) → M ys
passes_on M xs ys a told h = subst M (sym told) h
