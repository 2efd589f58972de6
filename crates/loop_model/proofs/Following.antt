-- Entries each of which fits what stands before it.
use Rattle.std.proofs.Common.{List, [], ◌∷◌, ◌++◌, sym, subst, append_assoc}
use Rattle.std.proofs.lemmas.List.{append-nil}
use Rattle.loop_model.specs.declared.entry.Entry.{Entry}
use Rattle.loop_model.specs.Legal.{EachFollows}

module _ (Fits : List Entry → Entry → Type 0) where
  -- the entries of two stretches, one behind the other
  pub follows-append : (es fs gs : List Entry) → EachFollows Fits es fs → EachFollows Fits (es ++ fs) gs → EachFollows Fits es (fs ++ gs)
  follows-append es [] gs h k = subst (λ l. EachFollows Fits l gs) (append-nil es) k
  follows-append es (f ∷ fs) gs h k =
      (h.0, follows-append (es ++ f ∷ []) fs gs h.1 (subst (λ l. EachFollows Fits l gs) (sym (append_assoc es (f ∷ []) fs)) k))

  pub follows-front : (es fs gs : List Entry) → EachFollows Fits es (fs ++ gs) → EachFollows Fits es fs
  follows-front es [] gs h = tt
  follows-front es (f ∷ fs) gs h = (h.0, follows-front (es ++ f ∷ []) fs gs h.1)

  pub follows-back : (es fs gs : List Entry) → EachFollows Fits es (fs ++ gs) → EachFollows Fits (es ++ fs) gs
  follows-back es [] gs h = subst (λ l. EachFollows Fits l gs) (sym (append-nil es)) h
  follows-back es (f ∷ fs) gs h = subst (λ l. EachFollows Fits l gs) (append_assoc es (f ∷ []) fs) (follows-back (es ++ f ∷ []) fs gs h.1)

  -- the last entry fits those before it
  pub follows-last : (es : List Entry) (e : Entry) → EachFollows Fits [] (es ++ e ∷ []) → Fits es e
  follows-last es e h = (follows-back [] es (e ∷ []) h).0

-- behind these entries what fits is told without them
module _ (Fits Goes : List Entry → Entry → Type 0) (es : List Entry) where
  follows_whole : ((gs : List Entry) (e : Entry) → Goes gs e → Fits (es ++ gs) e) → (gs fs : List Entry) → EachFollows Goes gs fs → EachFollows Fits (es ++ gs) fs
  follows_whole whole gs [] h = tt
  follows_whole whole gs (f ∷ fs) h =
      (whole gs f h.0, subst (λ l. EachFollows Fits l fs) (sym (append_assoc es gs (f ∷ []))) (follows_whole whole (gs ++ f ∷ []) fs h.1))

  follows_part : ((gs : List Entry) (e : Entry) → Fits (es ++ gs) e → Goes gs e) → (gs fs : List Entry) → EachFollows Fits (es ++ gs) fs → EachFollows Goes gs fs
  follows_part part gs [] h = tt
  follows_part part gs (f ∷ fs) h =
      (part gs f h.0, follows_part part (gs ++ f ∷ []) fs (subst (λ l. EachFollows Fits l fs) (append_assoc es gs (f ∷ [])) h.1))

  -- entries behind these fit where they fit without them
  pub follows-join : ((gs : List Entry) (e : Entry) → Goes gs e → Fits (es ++ gs) e) → (fs : List Entry) → EachFollows Fits [] es → EachFollows Goes [] fs → EachFollows Fits [] (es ++ fs)
  follows-join whole fs h k = follows-append Fits [] es fs h (subst (λ l. EachFollows Fits l fs) (append-nil es) (follows_whole whole [] fs k))

  pub follows-rest : ((gs : List Entry) (e : Entry) → Fits (es ++ gs) e → Goes gs e) → (fs : List Entry) → EachFollows Fits [] (es ++ fs) → EachFollows Goes [] fs
  follows-rest part fs h = follows_part part [] fs (subst (λ l. EachFollows Fits l fs) (sym (append-nil es)) (follows-back Fits [] es fs h))
