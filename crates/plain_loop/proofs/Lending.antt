-- What is kept of what a looper lends its handlers.
use Rattle.std.proofs.Common.{◌≡◌, ℕ, List, Option}
use Rattle.atomic_table.specs.Seated.{TableId}
use Rattle.shared_queue.specs.Known.{Shared}
use Rattle.looper_run.specs.declared.own.Own.{Own}
use Rattle.looper_run.specs.Holding.{Holding, Workplace, workplace, IsAt, IsSameOwn, held}
use Rattle.looper_run.specs.Asked.{Asked}
use Rattle.looper_run.specs.Tests.{IsLent}
use Rattle.looper_run.specs.Carried.{KeepsLent}
use Rattle.looper_run.proofs.Rings.{no_rings}
use Rattle.plain_loop.specs.Handling.{IsWorkplaceOf}

-- a looper of this queue and this pool has its place there
pub place_at : (queue : Shared TableId) (pool : TableId) (h : Holding) → IsAt queue pool h → IsWorkplaceOf queue pool (workplace h)
place_at queue pool h at = record { table = at.poster.0; constants = at.poster.1; pass = at.pass; home = at.home }

module _ {D : Type 0} {O : Type 0} {R : Type 0} {P : Type 0} (Works : D → Workplace → Type 0) (source : D → O) (count : D → ℕ) (told : D → Option (List Asked)) where
  -- a handler's call that went on as the calls of a dispatcher may, and rang no bell
  pub lent_quietly : (d e : D) (x y : Own R P) → ((w : Workplace) → Works d w → Works e w) → source e ≡ source d → count e ≡ count d → told e ≡ told d → IsSameOwn x y
      → IsLent (held x) (held y) × (y.poster.now.view.rung ≡ x.poster.now.view.rung) → KeepsLent Works source count told IsLent d e x y
  lent_quietly d e x y serves origin nudges asked own kept = record {
    serves = serves;
    origin = origin;
    nudges = no_rings x.poster.now y.poster.now (count d) (count e) kept.1 nudges;
    asked = asked;
    own = own;
    lent = kept.0;
  }
