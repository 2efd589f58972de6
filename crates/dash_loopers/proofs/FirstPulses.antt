-- No pulse is told behind a dispatch of its own millisecond: how a pulse and a dispatch keep that.
use Rattle.std.proofs.Common.{◌≡◌, ℕ, ◌<◌, ◌≤◌, ◌⊎◌, inl, inr, true, List, [], ◌∷◌, ◌++◌, Option, Some, None, refl, sym, ◌∙◌, subst, arith}
use Rattle.std.specs.Prelude.{nat_le, nat_lt}
use Rattle.std.specs.List.{list_all}
use Rattle.std.proofs.lemmas.Bool.{and_parts, and_from, lt-ltb, leb-true, le-leb}
use Rattle.std.proofs.lemmas.List.{append-nil}
use Rattle.loop_model.specs.declared.journal.Act.{Act}
use Rattle.loop_model.specs.declared.journal.Act.TheVariants.{Dispatch, Idle, Event, Vsync, Paint}
use Rattle.loop_model.specs.declared.journal.Route.{Route}
use Rattle.loop_model.specs.Dispatches.{dispatches}
use Rattle.run_model.specs.FrameRecords.{millis_up}
use Rattle.run_model.specs.Loopers.{pulses_are_later}
use Rattle.run_model.proofs.RunLaws.{ArePaints}
use Rattle.dash_loopers.specs.Played.{pulse_acts}
use Rattle.dash_loopers.proofs.PulsesOnTime.{ComesThen}
use Rattle.dash_loopers.specs.PulsesFirst.{TellsPulsesFirst, tells_more}

-- as it begins it has told nothing
pub tells_none : (d : ℕ) (acts : List Act) → acts ≡ [] → TellsPulsesFirst d acts
tells_none d acts still = subst (TellsPulsesFirst d) (sym still) (record { first = refl; up_to = refl })

-- a pulse that comes now, where all dispatches were told with earlier times, or nothing is told
pub first_pulsed : (d now : ℕ) (o : Option ℕ) (acts acts' : List Act) → (d < now) ⊎ (acts' ≡ acts) → acts' ≡ acts ++ pulse_acts o → ComesThen now o → TellsPulsesFirst d acts → TellsPulsesFirst d acts'
first_pulsed d now o acts acts' (inr same) told at a = subst (TellsPulsesFirst d) (sym same) a
first_pulsed d now None acts acts' (inl lt) told at a = subst (TellsPulsesFirst d) (sym (told ∙ append-nil acts)) a
first_pulsed d now (Some stamp) acts acts' (inl lt) told at a =
    subst (TellsPulsesFirst d) (sym told) (tells_more d acts (Vsync stamp ∷ []) later a (record { first = refl; up_to = refl }))
  where
    later : pulses_are_later d (Vsync stamp ∷ []) ≡ true
    later = and_from (nat_lt d (millis_up stamp)) true (subst (λ (n : ℕ). nat_lt d n ≡ true) (sym at) (lt-ltb d now lt)) refl

-- what was told by a time was told by a later one
all_up_to : (d d' : ℕ) (l : List (ℕ × ℕ)) → d ≤ d' → list_all (λ (n, now). nat_le now d) l ≡ true → list_all (λ (n, now). nat_le now d') l ≡ true
all_up_to d d' [] le is = refl
all_up_to d d' ((n, now) ∷ l) le is =
    let p = and_parts (nat_le now d) (list_all (λ (k, z). nat_le z d) l) is in
    and_from (nat_le now d') (list_all (λ (k, z). nat_le z d') l) (le-leb now d' (let was = leb-true now d p.0 in omega (arith, was, le))) (all_up_to d d' l le p.1)

-- paints tell neither
paints_tell : (d : ℕ) (ps : List Act) → ArePaints ps → (pulses_are_later d ps ≡ true) × TellsPulsesFirst d ps
paints_tell d [] are = (refl, record { first = refl; up_to = refl })
paints_tell d (Paint g v ∷ ps) are = let rest = paints_tell d ps are in (rest.0, record { first = rest.1.first; up_to = rest.1.up_to })
paints_tell d (Dispatch n now route ∷ ps) are = absurd are
paints_tell d (Idle i k ∷ ps) are = absurd are
paints_tell d (Event f e m ∷ ps) are = absurd are
paints_tell d (Vsync v ∷ ps) are = absurd are

-- a dispatch at a time that is kept, behind what it painted
pub first_dispatched : (d d' n time : ℕ) (route : Route) (acts acts' painted : List Act) → d ≤ d' → time ≤ d' → acts' ≡ acts ++ painted → ArePaints painted → TellsPulsesFirst d acts
    → TellsPulsesFirst d' (acts' ++ Dispatch n time route ∷ [])
first_dispatched d d' n time route acts acts' painted rises kept told are a =
    let was : TellsPulsesFirst d' acts = record { first = a.first; up_to = all_up_to d d' (dispatches acts) rises a.up_to } in
    let paints = paints_tell d' painted are in
    let before : TellsPulsesFirst d' acts' = subst (TellsPulsesFirst d') (sym told) (tells_more d' acts painted paints.0 was paints.1) in
    tells_more d' acts' (Dispatch n time route ∷ []) refl before (record { first = refl; up_to = and_from (nat_le time d') true (le-leb time d' kept) refl })
