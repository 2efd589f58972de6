-- What the steps of a looper's code leave, one after another.
use Rattle.std.proofs.Common.{◌≡◌, ℕ, refl, sym, ap, ◌∙◌, subst}
use Rattle.message_pool.specs.Passes.{Tally}
use Rattle.loop_model.specs.declared.journal.Journal.{Journal}
use Rattle.looper_run.specs.Holding.{KeptOwn as Own}
use Rattle.looper_run.specs.Holding.{Sender, held, IsSameOwn}
use Rattle.looper_run.specs.Tests.{IsLent}
use Rattle.looper_run.proofs.Working.{lent_self, lent_then}
use Rattle.dash_hall.specs.declared.host.Host.{Host}
use Rattle.dash_hall.specs.Hosts.{origin_now, IsHostNow, IsSameHost}
use Rattle.dash_hall.specs.ByClock.{AddsAt}
use Rattle.dash_hall.proofs.HostClock.{adds_hosted, begins_by_clock}
use Rattle.dash_loopers.specs.declared.player.Parts.{Parts}
use Rattle.dash_loopers.specs.Players.{AreSameParts}
use Rattle.dash_loopers.specs.Played.{AreAllButCounts}
use Rattle.dash_loopers.specs.Steps.{LeavesOwn, Leaves, KeepsToQueue, OnlyCalls, TellsMore, IsHostFor}
use Rattle.dash_loopers.proofs.LooperClock.{calls_untimed_self, calls_untimed_then, calls_untimed_from}
use Rattle.dash_loopers.proofs.LooperLent.{holding, lent_grown, grows_none, grows_then, host_leaves, host_rung, own_then}
use Rattle.dash_loopers.proofs.LooperPlaces.{parts_self, parts_then}

-- ---- nothing was done

pub own_left : (own : Own) → LeavesOwn own own
own_left own = record { own = record { poster = refl; pass = refl; journal = refl }; lent = lent_self (held own); rung = refl }

pub all_left : (parts : Parts) (own : Own) → Leaves parts parts own own
all_left parts own = record { parts = parts_self parts; own = own_left own }

pub queue_left : (now : ℕ) (parts : Parts) (own : Own) → KeepsToQueue now parts parts own own
queue_left now parts own = record { leaves = all_left parts own; clocked = begins_by_clock now own.poster.now own.poster.now refl; others = refl }

pub none_called : (parts : Parts) (own : Own) → OnlyCalls parts parts own own
none_called parts own = record {
  leaves = all_left parts own;
  untimed = calls_untimed_self own.poster.now own.poster.now parts parts refl refl;
  acts = refl;
  frames = refl;
  root = refl;
  awaits = refl;
}

-- ---- one step and another

pub calls_then : (a b c : Parts) (x y z : Own) → OnlyCalls a b x y → OnlyCalls b c y z → OnlyCalls a c x z
calls_then a b c x y z f g = record {
  leaves = record {
    parts = parts_then a b c f.leaves.parts g.leaves.parts;
    own = record {
      own = own_then x y z f.leaves.own.own g.leaves.own.own;
      lent = lent_then (held x) (held y) (held z) f.leaves.own.lent g.leaves.own.lent;
      rung = g.leaves.own.rung ∙ f.leaves.own.rung;
    };
  };
  untimed = calls_untimed_then x.poster.now y.poster.now z.poster.now a b c f.leaves.own.lent.same.sender f.untimed g.untimed;
  acts = g.acts ∙ f.acts;
  frames = g.frames ∙ f.frames;
  root = g.root ∙ f.root;
  awaits = g.awaits ∙ f.awaits;
}

-- the rule counts changed before
pub calls_counted : (a b c : Parts) (x y : Own) → AreAllButCounts a b → AreSameParts a b → OnlyCalls b c x y → OnlyCalls a c x y
calls_counted a b c x y all same f = record {
  leaves = record { parts = parts_then a b c same f.leaves.parts; own = f.leaves.own };
  untimed = calls_untimed_from x.poster.now y.poster.now a b c all.0 f.untimed;
  acts = f.acts;
  frames = f.frames ∙ all.1;
  root = f.root ∙ all.2;
  awaits = f.awaits ∙ all.4;
}

-- ---- a step by a host that was made of what was lent

module _ {R U : Type 0} (q now : ℕ) (uptime : U) (p : Sender) (t : Tally) (pn tn : ℕ) (h k : Host R U) (made : IsHostFor q now uptime pn p tn t h) (ready : IsHostNow k) (same : IsSameHost h k) where
  pub lent_hosted : (j : Journal) → IsLent (holding p t j) (holding k.poster.now k.pass.now j)
  lent_hosted j = host_leaves (origin_now h) (origin_now k) p k.poster.now t k.pass.now j made.began.0 made.began.1 same ready

  pub rung_hosted : k.poster.now.view.rung ≡ p.view.rung
  rung_hosted = host_rung (origin_now h) (origin_now k) p k.poster.now k.pass.now made.began.0 same ready

  -- what was lent came back by these references, and the journal told more
  pub keeps_hosted : (before after : Parts) (lends lends' : Own) → lends.poster.now ≡ p → lends.pass.now ≡ t → lends'.poster.now ≡ k.poster.now → lends'.pass.now ≡ k.pass.now → IsSameOwn lends lends'
      → TellsMore lends.journal.now lends'.journal.now → AreSameParts before after → after.others ≡ before.others → KeepsToQueue now before after lends lends'
  keeps_hosted before after lends lends' is_p is_t is_q is_u own more parts others =
      let j = lends.journal.now in
      let j' = lends'.journal.now in
      let lent : IsLent (holding p t j) (holding k.poster.now k.pass.now j') = lent_then (holding p t j) (holding k.poster.now k.pass.now j) (holding k.poster.now k.pass.now j') (lent_hosted j)
      (lent_grown k.poster.now k.pass.now j j' more.looper more.grew) in
      record {
        leaves = record {
          parts = parts;
          own = record {
            own = own;
            lent = subst (λ (x : Sender). IsLent (holding x lends.pass.now j) (held lends')) (sym is_p) (subst (λ (x : Tally). IsLent (holding p x j) (held lends')) (sym is_t)
                (subst (λ (x : Sender). IsLent (holding p t j) (holding x lends'.pass.now j')) (sym is_q) (subst (λ (x : Tally). IsLent (holding p t j) (holding k.poster.now x j')) (sym is_u) lent)));
            rung = ap (λ (x : Sender). x.view.rung) is_q ∙ (rung_hosted ∙ ap (λ (x : Sender). x.view.rung) (sym is_p));
          };
        };
        clocked = subst (λ (x : Sender). AddsAt now x lends'.poster.now) (sym is_p) (subst (λ (x : Sender). AddsAt now p x) (sym is_q)
            (adds_hosted (origin_now h) (origin_now k) now p k.poster.now k.pass.now same ready made.began.0 made.moment.0));
        others = others;
      }

pub tells_none : (j : Journal) → TellsMore j j
tells_none j = record { looper = refl; grew = grows_none j.acts }

pub tells_then : (a b c : Journal) → TellsMore a b → TellsMore b c → TellsMore a c
tells_then a b c f g = record { looper = g.looper ∙ f.looper; grew = grows_then a.acts b.acts c.acts f.grew g.grew }
