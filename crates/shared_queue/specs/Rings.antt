-- Which answers wake the looper, so that a ring of the bell is owed for them.
use Rattle.std.specs.Prelude.{◌≡◌, Bool, true, false, Some}
use Rattle.queue_state.specs.declared.answers.Posted.{Posted}
use Rattle.queue_state.specs.declared.answers.Posted.TheVariants as posted
use Rattle.queue_state.specs.declared.answers.BarrierGone.{BarrierGone}
use Rattle.queue_state.specs.declared.answers.BarrierGone.TheVariants as gone
use Rattle.queue_state.specs.declared.answers.Quitting.{Quitting}
use Rattle.queue_state.specs.declared.answers.Quitting.TheVariants as quitting
use Rattle.queue_state.specs.Queue.{Queue}
use Rattle.shared_queue.specs.declared.desk.Desk.{Desk}

module _ {H K : Type 0} where
  -- an accepted post wakes where it says so
  abbrev pub wakes_by_post : Posted K H → Bool
  wakes_by_post (posted.Accepted number wake) = wake
  wakes_by_post (posted.Refused place node) = false
  wakes_by_post (posted.NoMemory node) = false

  -- a removed barrier wakes where it says so
  abbrev pub wakes_by_removal : BarrierGone K H → Bool
  wakes_by_removal (gone.Unbarriered node wake) = wake
  wakes_by_removal gone.NotPosted = false
  wakes_by_removal gone.NoMemory = false

  -- a quit that is done wakes always
  abbrev pub wakes_by_quit : Quitting K H → Bool
  wakes_by_quit (quitting.Done list) = true
  wakes_by_quit (quitting.AlreadyQuit place) = false
  wakes_by_quit quitting.NotAllowed = false
  wakes_by_quit quitting.NoMemory = false

  -- where the looper is woken now, it was before
  abbrev pub WakesNone : Queue H K → Queue H K → Type 0
  WakesNone x y = (y.woken ≡ true) → x.woken ≡ true

  -- the turn leaves a looper woken only where it found it so
  abbrev pub LeavesUnwoken : Desk (Queue H K) H K → Queue H K → Type 0
  LeavesUnwoken d y = (x : Queue H K) × (d.seat.me.0.found ≡ Some x) × WakesNone x y
