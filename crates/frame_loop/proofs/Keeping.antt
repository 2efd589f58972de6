-- What the calls on a screen and the steps of its dispatcher keep.
use Rattle.std.proofs.Common.{◌≡◌, ℕ, ◌+◌, [], refl, sym, ap, ◌∙◌, subst, Some}
use Rattle.std.specs.Prelude.{Result, Ok, Err, OnOk}
use Rattle.atomic_table.specs.Seated.{TableId}
use Rattle.loop_model.specs.declared.journal.Journal.{Journal}
use Rattle.loop_model.specs.declared.memory.NoMemory.{NoMemory}
use Rattle.message_pool.specs.Passes.{Tally}
use Rattle.shared_queue.specs.Known.{Shared, IsOf}
use Rattle.choreographer.specs.Known.{SharedFrames, Pass, IsPassOf}
use Rattle.choreographer.specs.declared.frame.Framed.{Framed}
use Rattle.choreographer.specs.declared.frame.Framed.TheVariants as framed
use Rattle.choreographer.specs.Done.{UnlessNoMemory}
use Rattle.handler_post.specs.Ways.{PlainWay as Way}
use Rattle.handler_post.specs.Ways.{IsReady}
use Rattle.looper_run.specs.declared.own.Own.{Own}
use Rattle.looper_run.specs.Holding.{Sender, Holding, Workplace, workplace, held, IsSameOwn}
use Rattle.looper_run.specs.declared.dispatcher.Did.{Did}
use Rattle.looper_run.specs.declared.dispatcher.Did.TheVariants.{Yes, No, NoMemory as Lost}
use Rattle.looper_run.specs.Tests.{IsLent, IsSameLooper, Unless}
use Rattle.looper_run.proofs.Rings.{no_rings, rings_then}
use Rattle.looper_run.proofs.Working.{lent_self, lent_then}
use Rattle.plain_loop.specs.Lines.{KeepsLine}
use Rattle.frame_loop.specs.declared.dispatching.FrameHandling.{FrameHandling}
use Rattle.frame_loop.specs.declared.screen.Screen.{Screen}
use Rattle.frame_loop.specs.Screens.{KeepsScreen}
use Rattle.frame_loop.specs.Paintings.{PaintingOrigin, ServesPainting, lending}
use Rattle.frame_loop.specs.Dispatching.{ServesFrames, KeepsServing, KeepsOwn, KeepsHandlers, KeepsBell, KeepsRings, FoundMemory}

-- a way keeps itself
pub keeps_self : {E : Type 0} (v : Way E) → IsReady v → KeepsLine v v
keeps_self v ready = record {
  ready = ready;
  same = record { queue = refl; pool = refl; poster = refl; pass = refl };
  lent = λ start h. h;
}

-- two calls
pub keeps_then : {E : Type 0} (u v w : Way E) → KeepsLine u v → KeepsLine v w → KeepsLine u w
keeps_then u v w a b = record {
  ready = b.ready;
  same = record { queue = b.same.queue ∙ a.same.queue; pool = b.same.pool ∙ a.same.pool; poster = b.same.poster ∙ a.same.poster; pass = b.same.pass ∙ a.same.pass };
  lent = λ start h. b.lent start (a.lent start h);
}

-- what was lent and not touched
pub own_self : {E P : Type 0} (o : Own E P) → KeepsOwn o o
own_self o = record { same = record { poster = refl; pass = refl; journal = refl }; lent = lent_self (held o); rung = refl }

module _ {R C E H P : Type 0} where
  -- what keeps the handlers rang no bell
  pub handlers_bell : (a b : FrameHandling R C E H) (o p : Own E P) → KeepsHandlers a b → KeepsOwn o p → KeepsBell a b o p
  handlers_bell a b o p k own = record { serves = k.serves; own = own; nudged = k.nudged }

  -- a handler's call that went on as the calls of a dispatcher may
  pub lent_bell : (a b : FrameHandling R C E H) (o p : Own E P) → KeepsServing a b → IsSameOwn o p → IsLent (held o) (held p) × (p.poster.now.view.rung ≡ o.poster.now.view.rung) → b.nudged ≡ a.nudged
      → KeepsBell a b o p
  lent_bell a b o p serves same kept nudged = record { serves = serves; own = record { same = same; lent = kept.0; rung = kept.1 }; nudged = nudged }

  -- what rang no bell counted its rings
  pub bell_rings : (a b : FrameHandling R C E H) (o p : Own E P) → KeepsBell a b o p → KeepsRings a b o p
  bell_rings a b o p k = record {
    serves = k.serves;
    origin = refl;
    nudges = no_rings o.poster.now p.poster.now a.nudged b.nudged k.own.rung k.nudged;
    asked = refl;
    own = k.own.same;
    lent = k.own.lent;
  }

  -- two calls that count their rings
  pub rings_both : (a b c : FrameHandling R C E H) (o p q : Own E P) → KeepsRings a b o p → KeepsRings b c p q → KeepsRings a c o q
  rings_both a b c o p q k l = record {
    serves = λ w s. l.serves w (k.serves w s);
    origin = refl;
    nudges = rings_then o.poster.now p.poster.now q.poster.now a.nudged b.nudged c.nudged k.nudges l.nudges;
    asked = refl;
    own = record { poster = l.own.poster ∙ k.own.poster; pass = l.own.pass ∙ k.own.pass; journal = l.own.journal ∙ k.own.journal };
    lent = lent_then (held o) (held p) (held q) k.lent l.lent;
  }

-- the place of a looper that goes on as a dispatcher's calls may
pub place_after : (a b : Holding) → IsSameLooper a b → workplace b ≡ workplace a
place_after a b same = λ i. record { table = same.table i; constants = same.constants i; pool = same.home i }

module _ (queue : Shared TableId) (pool : TableId) (c : SharedFrames) (frames asks : Pass) where
  -- a dispatcher serves the same place
  pub serves_place : (w v : Workplace) → v ≡ w → ServesFrames queue pool c frames asks w → ServesFrames queue pool c frames asks v
  serves_place w v same serves = subst (λ (x : Workplace). ServesFrames queue pool c frames asks x) (sym same) serves

  -- and the looper behind what it kept
  pub serves_after : (a b : Holding) → IsSameLooper a b → ServesFrames queue pool c frames asks (workplace a) → ServesFrames queue pool c frames asks (workplace b)
  serves_after a b same = serves_place (workplace a) (workplace b) (place_after a b same)

  -- a dispatcher serves what it served once a frame ran by its passes
  pub serves_framed : (frames' asks' : Pass) (w : Workplace) → frames'.table ≡ frames.table → frames'.number ≡ frames.number → frames'.view.constants ≡ frames.view.constants → IsPassOf asks' c
      → ServesFrames queue pool c frames asks w → ServesFrames queue pool c frames' asks' w
  serves_framed frames' asks' w table number constants asking serves = record {
    place = serves.place;
    has = record {
      framing = (table ∙ serves.has.framing.0, constants ∙ serves.has.framing.1);
      asking = asking;
      last = ap (λ (n : ℕ). n + 1) number ∙ serves.has.last;
      phases = serves.has.phases;
      seals = serves.has.seals;
      pulses = serves.has.pulses;
    };
  }

  -- as a frame opens its client serves
  pub opens : (o : PaintingOrigin) (poster : Sender) (pass : Tally) (j : Journal) → ServesFrames queue pool c frames asks (workplace (lending poster pass j)) → o.queue ≡ queue → o.pool ≡ pool
      → o.choreographer ≡ c → o.poster ≡ poster → o.pass ≡ pass → ServesPainting o poster pass asks c
  opens o poster pass j serves oq op oc began pass_began = record {
    of_queue = (serves.place.table ∙ ap (λ (q : Shared TableId). q.table) (sym oq), serves.place.constants ∙ ap (λ (q : Shared TableId). Some q.constants) (sym oq));
    of_pool = serves.place.pass ∙ sym op;
    home = ap (λ (q : Shared TableId). q.constants.home) oq ∙ (serves.place.home ∙ sym op);
    of_frames = sym oc;
    asking = serves.has.asking;
    phases = serves.has.phases;
    lent = λ k. subst (λ (p : Sender). IsLent (lending p o.pass k) (lending poster pass k)) (sym began)
        (subst (λ (a : Tally). IsLent (lending poster a k) (lending poster pass k)) (sym pass_began) (lent_self (lending poster pass k)));
    rung = ap (λ (p : Sender). p.view.rung) (sym began);
  }

-- as it closes, what was lent has gone on
pub closes : (o' : PaintingOrigin) (poster poster' : Sender) (pass pass' : Tally) (asks : Pass) (c : SharedFrames) (j : Journal) → o'.poster ≡ poster → o'.pass ≡ pass
    → ServesPainting o' poster' pass' asks c → IsLent (lending poster pass j) (lending poster' pass' j) × (poster'.view.rung ≡ poster.view.rung)
closes o' poster poster' pass pass' asks c j began pass_began s = (
  subst (λ (a : Tally). IsLent (lending poster a j) (lending poster' pass' j)) pass_began (subst (λ (p : Sender). IsLent (lending p o'.pass j) (lending poster' pass' j)) began (s.lent j)),
  s.rung ∙ ap (λ (p : Sender). p.view.rung) began,
)

module _ {R C E : Type 0} where
  -- a call that kept its screen leaves a pass of the same choreographer
  pub asked_still : (s t : Screen R C E) → KeepsScreen s t → IsPassOf t.asks.now s.choreographer.now
  asked_still s t k = subst (λ (q : SharedFrames). IsPassOf t.asks.now q) k.same.choreographer k.screen.asks

  -- a callback that kept its screen leaves a client that serves what it served
  pub paints : (o : PaintingOrigin) (s t : Screen R C E) (q : SharedFrames) → KeepsScreen s t → o.queue ≡ s.queue.now → o.pool ≡ s.pool.now → o.choreographer ≡ s.choreographer.now
      → ServesPainting o s.poster.now s.pass.now s.asks.now q → ServesPainting o t.poster.now t.pass.now t.asks.now q
  paints o s t q k oq op oc h = record {
    of_queue = subst (λ (x : Shared TableId). IsOf t.poster.now x) (k.line.same.queue ∙ sym oq) k.line.ready.poster;
    of_pool = k.line.ready.pass ∙ (k.line.same.pool ∙ sym op);
    home = h.home;
    of_frames = h.of_frames;
    asking = subst (λ (x : SharedFrames). IsPassOf t.asks.now x) (k.same.choreographer ∙ (sym oc ∙ sym h.of_frames)) k.screen.asks;
    phases = h.phases;
    lent = λ j. (k.line.lent (lending o.poster o.pass j) (h.lent j, h.rung)).0;
    rung = (k.line.lent (lending o.poster o.pass (record { looper = 0; acts = [] })) (h.lent (record { looper = 0; acts = [] }), h.rung)).1;
  }

-- what holds unless a frame found no memory holds where its code ended well
pub found : (f : Framed) (r : Result (Unit {0}) NoMemory) (P : Type 0) → OnOk r (FoundMemory f) → UnlessNoMemory f P → OnOk r P
found f (Err e) P is h = tt
found framed.Done (Ok done) P is h = h
found (framed.Elsewhere next) (Ok done) P is h = h
found framed.Unscheduled (Ok done) P is h = h
found (framed.Backwards last) (Ok done) P is h = h
found framed.NoMemory (Ok done) P is h = absurd is

-- what holds in any case holds unless memory ran out
pub unless_holds : (d : Did) (P : Type 0) → P → Unless d P
unless_holds Yes P h = h
unless_holds No P h = h
unless_holds Lost P h = tt
