-- What a call carries on of a dispatcher, and of the looper that it works for.
use Rattle.std.specs.Prelude.{◌≡◌, ℕ, List, Option, None}
use Rattle.loop_model.specs.declared.journal.Act.{Act}
use Rattle.loop_model.specs.declared.journal.Journal.{Journal}
use Rattle.loop_model.specs.declared.entry.Entry.{Entry}
use Rattle.looper_run.specs.declared.own.Own.{Own}
use Rattle.looper_run.specs.Holding.{Holding, Workplace, held, IsSameOwn}
use Rattle.looper_run.specs.Asked.{Asked}
use Rattle.looper_run.specs.Tests.{Rings}

-- of a dispatcher that is lent nothing: it serves what it served, awaits what it awaited, and its origin, its rings and what it tells stay; and its test is
-- carried from these acts to those
pub record CarriesOver {D : Type 0} {O : Type 0} (Works : D → Workplace → Type 0) (source : D → O) (count : D → ℕ) (told : D → Option (List Asked))
    (Awaiting : D → Option ℕ → Type 0) (Passing : D → ℕ → List Entry → List Act → Type 0) (before after : D) (acts acts' : List Act) : Type 0 where
  pub serves : (w : Workplace) → Works before w → Works after w
  pub origin : source after ≡ source before
  pub nudges : count after ≡ count before
  pub asked : told after ≡ told before
  pub awaits : (awaited : Option ℕ) → Awaiting before awaited → Awaiting after awaited
  pub meets : (s : ℕ) (es : List Entry) → Passing before s es acts → Passing after s es acts'

-- the same over any acts
abbrev pub Carries : {D : Type 0} {O : Type 0} → (D → Workplace → Type 0) → (D → O) → (D → ℕ) → (D → Option (List Asked))
    → (D → Option ℕ → Type 0) → (D → ℕ → List Entry → List Act → Type 0) → D → D → Type 0
Carries Works source count told Awaiting Passing before after = (acts : List Act) → CarriesOver Works source count told Awaiting Passing before after acts acts

-- of a journal, over which a dispatcher is carried: it is the same looper's, and acts were appended so
pub record TellsOn {D : Type 0} {O : Type 0} (Grows : List Act → List Act → Type 0) (Works : D → Workplace → Type 0) (source : D → O) (count : D → ℕ)
    (told : D → Option (List Asked)) (Awaiting : D → Option ℕ → Type 0) (Passing : D → ℕ → List Entry → List Act → Type 0)
    (before after : D) (j j' : Journal) : Type 0 where
  pub looper : j'.looper ≡ j.looper
  pub grows : Grows j.acts j'.acts
  pub carries : CarriesOver Works source count told Awaiting Passing before after j.acts j'.acts

-- in place of what a dispatcher tells, where a call adds to it
abbrev pub unasked : {D : Type 0} → D → Option (List Asked)
unasked d = None

-- in place of what it awaits, where a call changes that
abbrev pub unawaited : {D : Type 0} → D → Option ℕ → Type 0
unawaited d awaited = Unit {0}

-- of a dispatcher and its looper: it serves what it served, its origin and what it tells stay, the poster rang as often as its count rose, and so stands what
-- the looper works with to what it was
pub record KeepsLooper {D : Type 0} {O : Type 0} (Works : D → Workplace → Type 0) (source : D → O) (count : D → ℕ) (told : D → Option (List Asked))
    (Stands : Holding → Holding → Type 0) (before after : D) (h h' : Holding) : Type 0 where
  pub serves : (w : Workplace) → Works before w → Works after w
  pub origin : source after ≡ source before
  pub nudges : Rings h.poster h'.poster (count before) (count after)
  pub asked : told after ≡ told before
  pub same : Stands h h'

-- the same of a dispatcher that is lent its looper's poster, pass and journal, which come back by the same references
pub record KeepsLent {D : Type 0} {O : Type 0} {R : Type 0} {P : Type 0} (Works : D → Workplace → Type 0) (source : D → O) (count : D → ℕ)
    (told : D → Option (List Asked)) (Stands : Holding → Holding → Type 0) (before after : D) (lends lends' : Own R P) : Type 0 where
  pub serves : (w : Workplace) → Works before w → Works after w
  pub origin : source after ≡ source before
  pub nudges : Rings lends.poster.now lends'.poster.now (count before) (count after)
  pub asked : told after ≡ told before
  pub own : IsSameOwn lends lends'
  pub lent : Stands (held lends) (held lends')
