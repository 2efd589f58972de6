-- Which histories pass a check, and which entry is named where one does not.
use Rattle.std.specs.Prelude.{◌≡◌, ◌+◌, ◌<◌, ◌≤◌, ◌⊎◌, ℕ, true, List, [], Option, Some, None, take, unwrap_or, slice_index_or}
use Rattle.std.specs.Ordering.{nat_cmp}
use Rattle.std.specs.BTreeMap as tree
use Rattle.loop_model.specs.declared.base.Base.{Base}
use Rattle.loop_model.specs.declared.entry.Entry.{Entry}
use Rattle.trace_check.specs.declared.trace.TraceQueue.{TraceQueue}
use Rattle.loop_model.specs.declared.reply.Reply.{Reply}
use Rattle.loop_model.specs.Answers.{answer, clock}
use Rattle.loop_model.specs.Base.{empty_base}
use Rattle.loop_model.specs.Counters.{left_with, setting}
use Rattle.loop_model.specs.Legal.{CallFitsTime, is_control, made_count}
use Rattle.loop_model.specs.Listed.{listed_answer}
use Rattle.trace_check.specs.declared.checker.Checked.{Checked}
use Rattle.trace_check.specs.declared.checker.Checked.TheVariants as checked
use Rattle.trace_check.specs.declared.fault.Fault.{Fault}
use Rattle.trace_check.specs.declared.fault.Fault.TheVariants as fault
use Rattle.trace_check.specs.declared.checker.Explained.{Explained}
use Rattle.trace_check.specs.declared.checker.Explained.TheVariants as explained
use Rattle.trace_check.specs.declared.counts.Counts.{Counts}
use Rattle.trace_check.specs.declared.past.Past.{Past}
use Rattle.trace_check.specs.Ranks.{listed}
use Rattle.trace_check.specs.Good.{trace_setting, IsGood, IsFirstBad}

-- ---- what is promised

-- legal is answered only of a good history
abbrev pub IsCheckedLegal : Checked → TraceQueue → Type 0
IsCheckedLegal c q = c ≡ checked.Legal → IsGood q q.entries

-- and of each one, unless memory ran out
abbrev pub AllLegal : Checked → TraceQueue → Type 0
AllLegal c q = IsGood q q.entries → (c ≡ checked.Legal) ⊎ (c ≡ checked.NoMemory)

-- a place is answered only where it is the least bad one
abbrev pub IsCheckedFirst : Checked → TraceQueue → Type 0
IsCheckedFirst c q = (place : ℕ) → c ≡ checked.First place → IsFirstBad q place

-- and always then, unless memory ran out
abbrev pub AllFirst : Checked → TraceQueue → Type 0
AllFirst c q = (place : ℕ) → IsFirstBad q place → (c ≡ checked.First place) ⊎ (c ≡ checked.NoMemory)

-- ---- why an entry is bad

-- what is wrong with an entry, first of all: where this reply was wanted at this time of a sender that has made so many
abbrev pub IsFault : TraceQueue → Option Reply → ℕ → ℕ → Entry → Fault → Type 0
IsFault q wanted time made e (fault.Reply w) = (w ≡ wanted) × (wanted ≡ Some e.reply → ⊥)
IsFault q wanted time made e (fault.Moment t) = (t ≡ time) × (wanted ≡ Some e.reply) × (CallFitsTime q.lockstep time e.call → ⊥)
IsFault q wanted time made e fault.Sender = (wanted ≡ Some e.reply) × CallFitsTime q.lockstep time e.call × (q.senders ≤ e.sender)
IsFault q wanted time made e (fault.Number n) =
    (n ≡ made) × (wanted ≡ Some e.reply) × CallFitsTime q.lockstep time e.call × (e.sender < q.senders) × (e.seq ≡ made → ⊥)
IsFault q wanted time made e fault.Control =
    (wanted ≡ Some e.reply) × CallFitsTime q.lockstep time e.call × (e.sender < q.senders) × (e.seq ≡ made) × (is_control e.call ≡ true)
    × (e.sender + 1 ≡ q.senders → ⊥)

-- what is wrong with an entry after these
abbrev pub IsFaultAfter : TraceQueue → List Entry → Entry → Fault → Type 0
IsFaultAfter q es e f =
    IsFault q (answer (trace_setting q) (empty_base q.senders) es e.call) (clock (empty_base q.senders) es) (made_count (empty_base q.senders) es e.sender) e f

-- a check's answer, without the fault
abbrev pub checked_of : Explained → Checked
checked_of explained.Legal = checked.Legal
checked_of (explained.First place f) = checked.First place
checked_of explained.NoMemory = checked.NoMemory

-- the fault that is named is that of the entry at the place
abbrev pub IsExplained : Explained → TraceQueue → Type 0
IsExplained (explained.First place f) q = (d : Entry) → IsFaultAfter q (take place q.entries) (slice_index_or q.entries place d) f
IsExplained explained.Legal q = Unit {0}
IsExplained explained.NoMemory q = Unit {0}

-- ---- what is kept

-- how many entries a sender has made
abbrev pub made_in : Counts → ℕ → ℕ
made_in c sender = unwrap_or (tree.get nat_cmp c.by_sender sender) 0

-- what is kept, as what a history has left; senders are counted apart
abbrev pub past_base : Past → Base
past_base p = left_with p.length p.counters [] (listed p.items)

-- the entry is the next of its sender, which has made so many
pub record IsNumberedSo (senders made : ℕ) (e : Entry) : Type 0 where
  pub known : e.sender < senders
  pub counted : e.seq ≡ made
  pub controller : is_control e.call ≡ true → e.sender + 1 ≡ senders

-- the entry may come next, by what the entries before it have left
pub record Follows (q : TraceQueue) (b : Base) (made : ℕ) (e : Entry) : Type 0 where
  pub reply : listed_answer (setting q.main q.lockstep) b e.call ≡ Some e.reply
  pub timely : CallFitsTime q.lockstep b.time e.call
  pub numbered : IsNumberedSo q.senders made e

-- what is wrong with an entry, by what the entries before it have left, where anything is
abbrev pub IsFaultBy : Option Fault → TraceQueue → Base → ℕ → Entry → Type 0
IsFaultBy None q b made e = Follows q b made e
IsFaultBy (Some f) q b made e = IsFault q (listed_answer (setting q.main q.lockstep) b e.call) b.time made e f

-- what is wrong with the sender, or its number, where anything is, and all else is right
abbrev pub IsSenderFault : Option Fault → TraceQueue → ℕ → Entry → Type 0
IsSenderFault None q made e = IsNumberedSo q.senders made e
IsSenderFault (Some f) q made e = (time : ℕ) → CallFitsTime q.lockstep time e.call → IsFault q (Some e.reply) time made e f
