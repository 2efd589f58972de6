-- What a line carries, and what its calls keep.
use Rattle.std.specs.Prelude.{◌≡◌, ℕ, Bool, IsTrue}
use Rattle.loop_model.specs.declared.journal.Journal.{Journal}
use Rattle.loop_model.specs.declared.post.Post.{Post}
use Rattle.handler_post.specs.declared.way.Way.{Way}
use Rattle.handler_post.specs.Ways.{IsReady, IsSameWay}
use Rattle.looper_run.specs.Holding.{Holding}
use Rattle.looper_run.specs.Tests.{IsLent}
use Rattle.plain_loop.specs.declared.lines.Line.{Line}

-- the same for this moment
abbrev pub post_for : Post → ℕ → Post
post_for p when = record p { when = when }

-- this holds of a moment that the clock shows
abbrev pub AtNow : (ℕ → Bool) → (ℕ → Type 0) → Type 0
AtNow shows P = (now : ℕ) × IsTrue (shows now) × P now

-- the way that a line posts by
abbrev pub way_of : {R C E P : Type 0} → Line R C E P → Way E P
way_of l = record { queue = l.queue; poster = l.poster; pool = l.pool; pass = l.pass }

-- what a way works on, beside this journal
abbrev pub holding : {E P : Type 0} → Way E P → Journal → Holding
holding w j = record { poster = w.poster.now; pass = w.pass.now; journal = j }

-- the way goes on from what a looper lent as the calls of a dispatcher may, and rang no bell
abbrev pub IsLentSince : {E P : Type 0} → Holding → Way E P → Type 0
IsLentSince start w = IsLent start (holding w start.journal) × (w.poster.now.view.rung ≡ start.poster.view.rung)

-- what each call on a line keeps: it is a line to the same queue, and where a looper lent its way, the call did no more than a dispatcher may
pub record KeepsLine {E P : Type 0} (before after : Way E P) : Type 0 where
  pub ready : IsReady after
  pub same : IsSameWay before after
  pub lent : (start : Holding) → IsLentSince start before → IsLentSince start after
