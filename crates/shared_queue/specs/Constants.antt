-- What stays the same in a queue, and the counts of its history.
use Rattle.std.specs.Prelude.{◌≡◌, ℕ, ◌-◌, ◌==◌, List, count_by}
use Rattle.loop_model.specs.declared.entry.Entry.{Entry}
use Rattle.loop_model.specs.Answers.{Setting}
use Rattle.loop_model.specs.Base.{empty_base}
use Rattle.queue_state.specs.Queue.{Queue}
use Rattle.shared_queue.specs.declared.traits.Traits.{Traits}

-- the home of its messages, the number of its looper, and whether it is the main one's, is in lockstep, and how many senders it has
pub record Constants (H : Type 0) : Type 0 where
  pub home : H
  pub looper : ℕ
  pub setting : Setting

-- the setting of a queue with these marks
abbrev pub traits_setting : Traits → Setting
traits_setting t = record { main = t.main; lockstep = t.lockstep; senders = t.senders }

abbrev pub constants_of : {H : Type 0} → H → Traits → Constants H
constants_of home t = record { home = home; looper = t.looper; setting = traits_setting t }

-- how many entries of the sender stand in the list
abbrev pub made_in : ℕ → List Entry → ℕ
made_in sender entries = count_by (λ e. e.sender == sender) entries

-- the state is one of a queue with these constants
pub record IsFor {H K : Type 0} (key : Constants H) (x : Queue H K) : Type 0 where
  pub home : x.home ≡ key.home
  pub setting : x.setting ≡ key.setting

-- the number of the last sender, the controller
abbrev pub last_of : {H : Type 0} → Constants H → ℕ
last_of key = key.setting.senders - 1

-- the state is one of a queue with these constants, and has all entries since the queue was made
pub record IsStateOf {H K : Type 0} (key : Constants H) (x : Queue H K) : Type 0 where
  pub home : x.home ≡ key.home
  pub setting : x.setting ≡ key.setting
  pub start : x.start ≡ empty_base key.setting.senders
