-- The whole history of a queue, with the parts of it that were handed out.
use Rattle.std.specs.Prelude.{◌≡◌, List, ◌++◌, Option, Some}
use Rattle.loop_model.specs.declared.entry.Entry.{Entry}
use Rattle.loop_model.specs.declared.base.Base.{Base}
use Rattle.loop_model.specs.declared.segment.Segment.{Segment}
use Rattle.loop_model.specs.Base.{empty_base}
use Rattle.loop_model.specs.Answers.{Setting}
use Rattle.loop_model.specs.Legal.{IsLegal, AreNumbered}
use Rattle.loop_model.specs.Chain.{after, entries_of}
use Rattle.queue_state.specs.Queue.{Queue}

-- the parts that were handed out, the entries since, and the claims of all accepted posts, by number
pub record Course (K : Type 0) : Type 0 where
  pub parts : List Segment
  pub since : List Entry
  pub claims : List (Option K)

-- all entries since the queue was made
abbrev pub whole_of : {K : Type 0} → Course K → List Entry
whole_of c = entries_of c.parts ++ c.since

-- these entries are legal from an empty start, and numbered, and have left the base
pub record Leave (s : Setting) (before : List Entry) (b : Base) : Type 0 where
  pub legal : IsLegal s (empty_base s.senders) before
  pub numbered : AreNumbered s (empty_base s.senders) before
  pub left : b ≡ after (empty_base s.senders) before

module _ {H K : Type 0} where
  -- the history is that of the state, behind entries that have left its base
  abbrev pub Spans : Setting → List Entry → Queue H K → Type 0
  Spans s whole x = (before : List Entry) × (whole ≡ before ++ x.entries) × Leave s before x.start

  -- the state with the entries before its base put back
  abbrev pub whole_queue : List Entry → Queue H K → Queue H K
  whole_queue before x = record x { start = empty_base x.setting.senders; entries = before ++ x.entries }

  -- the state, which is this one over its whole history
  abbrev pub ShowsWhole : Option (Queue H K) → Queue H K → Type 0
  ShowsWhole state whole = (x : Queue H K) × (before : List Entry) × (state ≡ Some x) × Leave x.setting before x.start × (whole ≡ whole_queue before x)
