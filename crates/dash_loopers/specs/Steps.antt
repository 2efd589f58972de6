-- What each step of a looper's code needs, and what it leaves as it is.
use Rattle.std.specs.Prelude.{◌≡◌, ◌<◌, ℕ, Some, reverse}
use mathlib.Core.List.{IsPrefix}
use Rattle.loop_model.specs.declared.journal.Journal.{Journal}
use Rattle.message_pool.specs.Passes.{Tally}
use Rattle.looper_run.specs.Holding.{KeptOwn as Own}
use Rattle.looper_run.specs.Holding.{Sender, Workplace, held, IsSameOwn}
use Rattle.looper_run.specs.Tests.{IsLent}
use Rattle.looper_run.specs.Acts.{IsOfDispatcher, GrowsBy}
use Rattle.choreographer.specs.Frame.{begin_place}
use Rattle.choreographer.specs.Known.{SharedFrames, Pass, IsPassOf, SeesQuietly}
use Rattle.choreographer.specs.Within.{InFrame}
use Rattle.run_model.specs.Planned.{frame_handler}
use Rattle.dash_script.specs.declared.script.Script.{Script}
use Rattle.dash_hall.specs.declared.hall.Hall.{Hall}
use Rattle.dash_hall.specs.declared.host.Host.{Host}
use Rattle.dash_hall.specs.ByClock.{AddsAt}
use Rattle.dash_hall.specs.Hosts.{pass_asks, IsHostNow, IsSameHost}
use Rattle.dash_hall.specs.Kits.{frame_badge_of}
use Rattle.dash_loopers.specs.declared.player.Parts.{Parts}
use Rattle.dash_loopers.specs.Loopers.{IsPlaceOf, IsLooperOf}
use Rattle.dash_loopers.specs.Players.{AreSameParts}
use Rattle.dash_loopers.specs.Played.{calls_of, KeepsLatest}
use Rattle.dash_loopers.specs.Clocked.{CallsUntimed}

-- ---- what a looper lends

-- the code works for this looper of the script, at its queue and with the hall's pool
pub record IsAtPlace (s : Script) (hall : Hall) (number : ℕ) (w : Workplace) : Type 0 where
  pub looper : IsLooperOf s hall number
  pub place : IsPlaceOf hall number w

-- the queue of a poster, and the pool of a pass
abbrev pub workplace_of : Sender → Tally → Workplace
workplace_of poster pass = record { table = poster.table; constants = poster.view.constants; pool = pass.home }

-- what was lent came back by the same references and only grew, and its poster rang no bell
pub record LeavesOwn (lends lends' : Own) : Type 0 where
  pub own : IsSameOwn lends lends'
  pub lent : IsLent (held lends) (held lends')
  pub rung : lends'.poster.now.view.rung ≡ lends.poster.now.view.rung

-- so it is, and the looper's parts are the same posters and the same pass
pub record Leaves (before after : Parts) (lends lends' : Own) : Type 0 where
  pub parts : AreSameParts before after
  pub own : LeavesOwn lends lends'

-- so it is, what was called on the looper's own queue has this moment or the queue's time, and the other posters are as before
pub record KeepsToQueue (now : ℕ) (before after : Parts) (lends lends' : Own) : Type 0 where
  pub leaves : Leaves before after lends lends'
  pub clocked : AddsAt now lends.poster.now lends'.poster.now
  pub others : after.others ≡ before.others

-- what was lent and the parts are left so, and no call on any queue has a moment of its own; no act was told, and frames and gauges are as before
pub record OnlyCalls (before after : Parts) (lends lends' : Own) : Type 0 where
  pub leaves : Leaves before after lends lends'
  pub untimed : CallsUntimed lends.poster.now lends'.poster.now before after
  pub acts : lends'.journal.now.acts ≡ lends.journal.now.acts
  pub frames : after.frames ≡ before.frames
  pub root : after.root ≡ before.root
  pub awaits : after.awaits ≡ before.awaits

-- neither a call was made on the looper's queue nor an act told
pub record TellsNothing (lends lends' : Own) : Type 0 where
  pub calls : calls_of lends'.poster.now ≡ calls_of lends.poster.now
  pub acts : lends'.journal.now.acts ≡ lends.journal.now.acts

-- the pass has a frame in progress with this phase next, the one that began where the pass had seen it begin
abbrev pub IsStillInFrame : ℕ → ℕ → Pass → Pass → Type 0
IsStillInFrame phases next before after =
    InFrame phases after (Some next) × (begin_place (reverse after.view.seen) ≡ begin_place (reverse before.view.seen))

-- the pass has seen all that it had, asked for nothing more, and its latest pulse is the latest still, its frame to begin or not as before; and what it saw
-- more was quiet
pub record AsksNothing (before after : Pass) : Type 0 where
  pub seen : IsPrefix before.view.seen after.view.seen
  pub asks : pass_asks after ≡ pass_asks before
  pub latest : KeepsLatest before after
  pub quiet : SeesQuietly before after

-- the pass went on by what it posted: it is the same one and has seen all that it had; its latest pulse is the latest still, its frame to begin or not as before;
-- what it saw more was quiet; and a frame that it has in progress is in progress still, at the same phase
pub record PostsOn (before after : Pass) : Type 0 where
  pub badge : frame_badge_of after ≡ frame_badge_of before
  pub seen : IsPrefix before.view.seen after.view.seen
  pub latest : KeepsLatest before after
  pub quiet : SeesQuietly before after
  pub frame : (phases next : ℕ) → InFrame phases before (Some next) → IsStillInFrame phases next before after

-- the journal is the same looper's, and acts of its code were appended
pub record TellsMore (before after : Journal) : Type 0 where
  pub looper : after.looper ≡ before.looper
  pub grew : GrowsBy IsOfDispatcher before.acts after.acts

-- ---- by a host

-- the host is made of this poster and this pass, by their references and as they are, for the choreographer of this looper, at this moment and with this uptime
pub record IsHostFor {R U : Type 0} (q now : ℕ) (uptime : U) (poster_name : ℕ) (poster : Sender) (pass_name : ℕ) (pass : Tally) (h : Host R U) : Type 0 where
  pub by_poster : (h.poster.ghost_name ≡ poster_name) × (h.poster.now ≡ poster)
  pub by_pass : (h.pass.ghost_name ≡ pass_name) × (h.pass.now ≡ pass)
  pub began : (h.began.now.value ≡ poster) × (h.pass_began.now.value ≡ pass)
  pub moment : (h.now ≡ now) × (h.handler.id ≡ frame_handler q)
  pub uptime_is : h.uptime.now ≡ uptime
  pub ready : IsHostNow h

-- the view root works by this host, and with this pass of the choreographer, which has a phase for all that it posts
pub record ShowsBy {R U : Type 0} (c : SharedFrames) (host : Host R U) (pass : Pass) : Type 0 where
  pub ready : IsHostNow host
  pub pass_of : IsPassOf pass c × (3 < c.constants.phases)

-- the host is the same, and the pass went on by what it posted
pub record PostsByHost {R U : Type 0} (host host' : Host R U) (pass pass' : Pass) : Type 0 where
  pub ready : IsHostNow host'
  pub origin : IsSameHost host host'
  pub posts : PostsOn pass pass'

-- the host and the pass are the same, where a frame began or went on
pub record LeavesHost {R U : Type 0} (host host' : Host R U) (pass pass' : Pass) : Type 0 where
  pub ready : IsHostNow host'
  pub origin : IsSameHost host host'
  pub badge : frame_badge_of pass' ≡ frame_badge_of pass
