-- What the calls of a looper's code leave of what they were lent.
use Rattle.std.proofs.Common.{◌≡◌, ℕ, ◌≤◌, List, [], ◌∷◌, ◌++◌, Some, refl, sym, ap, ◌∙◌, subst, arith}
use Rattle.std.proofs.lemmas.List.{append-nil}
use Rattle.std.proofs.lemmas.List.Elements.{All-append, All-push}
use Rattle.atomic_table.specs.Seated.{TableId}
use Rattle.dash_script.specs.declared.script.Script.{Script}
use Rattle.std.specs.List.{slice_get}
use Rattle.loop_model.specs.declared.journal.Act.{Act}
use Rattle.loop_model.specs.declared.journal.Journal.{Journal}
use Rattle.message_pool.specs.Passes.{Tally}
use Rattle.shared_queue.specs.Known.{Shared}
use Rattle.looper_run.specs.Holding.{KeptOwn as Own}
use Rattle.looper_run.specs.Acts.{IsOfDispatcher, GrowsBy}
use Rattle.looper_run.specs.Holding.{Sender, Holding, IsSameOwn}
use Rattle.looper_run.specs.Tests.{IsLent}
use Rattle.looper_run.proofs.Working.{behind}
use Rattle.dash_hall.specs.declared.hall.Hall.{Hall}
use Rattle.dash_hall.specs.Growth.{GoesOn}
use Rattle.dash_hall.proofs.Growing.{goes_nowhere}
use Rattle.dash_hall.proofs.HostClock.{begins_by_clock}
use Rattle.dash_hall.specs.Hosts.{HostOrigin, IsHost}
use Rattle.dash_loopers.specs.Loopers.{IsPlaceOf, IsLooperOf}
use Rattle.dash_loopers.proofs.LooperPlaces.{queue_home}

abbrev pub holding : Sender → Tally → Journal → Holding
holding p t j = record { poster = p; pass = t; journal = j }

-- a poster and a pass that went on, beside the journal as it was
pub lent_on : (p q : Sender) (t u : Tally) (j : Journal) → GoesOn p q t u → IsLent (holding p t j) (holding q u j)
lent_on p q t u j g = record {
  same = record { table = g.table; sender = g.sender; constants = g.constants; heard = g.heard; turns = g.turns; home = g.home; looper = refl };
  more = g.more;
  did = [];
  seen = g.seen;
  acts = sym (append-nil j.acts);
  no_looks = g.no_looks;
  told = λ k d near. absurd (omega (arith, near));
  back = g.back;
}

-- the poster of another queue went on, with the pass
pub lent_pass : (p : Sender) (t u : Tally) (j : Journal) → u.home ≡ t.home → t.back ≤ u.back → IsLent (holding p t j) (holding p u j)
lent_pass p t u j home back = record {
  same = record { table = refl; sender = refl; constants = refl; heard = refl; turns = omega arith; home = home; looper = refl };
  more = [];
  did = [];
  seen = sym (append-nil p.view.seen);
  acts = sym (append-nil j.acts);
  no_looks = λ k d near. absurd (omega (arith, near));
  told = λ k d near. absurd (omega (arith, near));
  back = back;
}

-- acts of the dispatcher were appended, beside the poster and the pass as they were
pub lent_grown : (p : Sender) (t : Tally) (j k : Journal) → k.looper ≡ j.looper → GrowsBy IsOfDispatcher j.acts k.acts → IsLent (holding p t j) (holding p t k)
lent_grown p t j k looper grew = record {
  same = record { table = refl; sender = refl; constants = refl; heard = refl; turns = omega arith; home = refl; looper = looper };
  more = [];
  did = grew.0;
  seen = sym (append-nil p.view.seen);
  acts = grew.1;
  no_looks = λ k d near. absurd (omega (arith, near));
  told = grew.2;
  back = omega arith;
}

pub grows_none : (acts : List Act) → GrowsBy IsOfDispatcher acts acts
grows_none acts = ([], sym (append-nil acts), λ k d near. absurd (omega (arith, near)))

pub grows_one : (acts more : List Act) (act : Act) → IsOfDispatcher act → more ≡ acts ++ act ∷ [] → GrowsBy IsOfDispatcher acts more
grows_one acts more act is e = (act ∷ [], e, All-push IsOfDispatcher [] act (λ k d near. absurd (omega (arith, near))) is)

pub grows_then : (a b c : List Act) → GrowsBy IsOfDispatcher a b → GrowsBy IsOfDispatcher b c → GrowsBy IsOfDispatcher a c
grows_then a b c p q = (p.0 ++ q.0, behind a b c p.0 q.0 p.1 q.1, All-append IsOfDispatcher p.0 q.0 p.2 q.2)

-- a host as it begins
pub host_begins : {U : Type 0} (s : Script) (hall : Hall) (n : ℕ) (q : Shared TableId) (p a : Sender) (t u : Tally) (b c handler now : ℕ) (uptime : U) → IsLooperOf s hall n → slice_get hall.queues.items n ≡ Some q
    → IsPlaceOf hall n (record { table = p.table; constants = p.view.constants; pool = t.home }) → a ≡ p → u ≡ t
    → IsHost (record { queue = q; pool = hall.pool; poster_name = b; pass_name = c; poster = a; pass = u; handler = handler; now = now; uptime = uptime }) p t
host_begins s hall n q p a t u b c handler now uptime l at place e f = record {
  of_queue = place.queue q at;
  of_pool = place.pool;
  home = queue_home s hall n l n q at;
  on = goes_nowhere a p u t e f;
  clocked = begins_by_clock now a p e;
}

-- how a host leaves what it was made with
pub host_leaves : {U : Type 0} (o k : HostOrigin U) (p q : Sender) (t u : Tally) (j : Journal) → o.poster ≡ p → o.pass ≡ t → k ≡ o → IsHost k q u → IsLent (holding p t j) (holding q u j)
host_leaves o k p q t u j is_p is_t e h =
    lent_on p q t u j (subst (λ (a : Sender). GoesOn a q t u) (ap (λ x. x.poster) e ∙ is_p) (subst (λ (a : Tally). GoesOn k.poster q a u) (ap (λ x. x.pass) e ∙ is_t) h.on))

pub host_rung : {U : Type 0} (o k : HostOrigin U) (p q : Sender) (u : Tally) → o.poster ≡ p → k ≡ o → IsHost k q u → q.view.rung ≡ p.view.rung
host_rung o k p q u is_p e h = h.on.rung ∙ ap (λ (a : Sender). a.view.rung) (ap (λ x. x.poster) e ∙ is_p)

pub own_then : (a b c : Own) → IsSameOwn a b → IsSameOwn b c → IsSameOwn a c
own_then a b c p q = record { poster = q.poster ∙ p.poster; pass = q.pass ∙ p.pass; journal = q.journal ∙ p.journal }
