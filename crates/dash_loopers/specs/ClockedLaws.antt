-- What a looper by a clock has come to stays so by what it doesn't do itself. These are the laws of its code, with their proofs.
use Rattle.std.proofs.Common.{◌≡◌, ℕ, Bool, false, List, [], ◌∷◌, ◌++◌, ap, ◌∙◌, append_assoc, ne_eqb}
use Rattle.std.specs.Prelude.{◌==◌, ◌&&◌, not}
use Rattle.std.proofs.Math.Bool.{and-false}
use Rattle.loop_model.specs.declared.call.Call.{Call}
use Rattle.loop_model.specs.declared.call.Call.TheVariants.{Next}
use Rattle.loop_model.specs.declared.reply.Reply.TheVariants.{Disposed}
use Rattle.loop_model.specs.declared.entry.Entry.{Entry}
use Rattle.loop_model.specs.declared.journal.Act.{Act}
use Rattle.loop_model.specs.Entries.{is_next}
use Rattle.loop_model.specs.Base.{empty_base}
use Rattle.loop_model.specs.Answers.{clock}
use Rattle.dash_script.specs.declared.script.Script.{Script}
use Rattle.looper_run.specs.Acts.{IsQuietAct}
use Rattle.run_model.specs.Moments.{Mode, IsOfClock}
use Rattle.dash_hall.proofs.Clocking.{unless, clock_more}
use Rattle.dash_loopers.specs.declared.player.Parts.{Parts}
use Rattle.dash_loopers.specs.declared.looper.StageLooper.{StageLooper}
use Rattle.dash_loopers.specs.PlayingLaws.{playing_by_others, playing_by_disposed, playing_by_quiet}
use Rattle.dash_loopers.specs.Clocked.{is_call_by, CallsByClock, IsPlayingAt}

-- an entry that is no call of the sender
pub calls_beside : (m : Mode) (k : ℕ) (past es : List Entry) (e : Entry) → is_call_by k e ≡ false → CallsByClock m k past es
    → CallsByClock m k past (es ++ e ∷ [])
calls_beside m k past es e isnt c = record {
  more = c.more ++ e ∷ [];
  seen = ap (λ (l : List Entry). l ++ e ∷ []) c.seen ∙ append_assoc past c.more (e ∷ []);
  clocked = clock_more m (is_call_by k) past c.more (e ∷ []) c.clocked
      (unless (is_call_by k e) (IsOfClock m (clock (empty_base 0) (past ++ c.more)) e.call) isnt, tt);
}

pub no_call_by_others : (k : ℕ) (e : Entry) → (e.sender ≡ k → ⊥) → is_call_by k e ≡ false
no_call_by_others k e apart = ap (λ (b : Bool). b && not (is_next e.call)) (ne_eqb e.sender k apart)

pub no_call_by_look : (k : ℕ) (e : Entry) (now : ℕ) → e.call ≡ Next now → is_call_by k e ≡ false
no_call_by_look k e now call = ap (λ (c : Call). (e.sender == k) && not (is_next c)) call ∙ and-false (e.sender == k)

module _ (m : Mode) (s : Script) (q : ℕ) (began : StageLooper) where
  -- another sender's entry
  pub playing_at_others : (k : ℕ) (es : List Entry) (e : Entry) (acts : List Act) (parts : Parts) → (e.sender ≡ k → ⊥) → IsPlayingAt m s q began k es acts parts
      → IsPlayingAt m s q began k (es ++ e ∷ []) acts parts
  playing_at_others k es e acts parts apart at = record {
    plays = playing_by_others s q began k es e acts parts apart at.plays;
    calls = calls_beside m k began.looper.held.poster.view.seen es e (no_call_by_others k e apart) at.calls;
    others = at.others;
  }

  -- the looper's look that ends the queue
  pub playing_at_disposed : (k : ℕ) (es : List Entry) (e : Entry) (time : ℕ) (acts : List Act) (parts : Parts) → e.sender ≡ k → e.call ≡ Next time
      → e.reply ≡ Disposed → IsPlayingAt m s q began k es acts parts
      → IsPlayingAt m s q began k (es ++ e ∷ []) acts parts
  playing_at_disposed k es e time acts parts mine call reply at = record {
    plays = playing_by_disposed s q began k es e time acts parts mine call reply at.plays;
    calls = calls_beside m k began.looper.held.poster.view.seen es e (no_call_by_look k e time call) at.calls;
    others = at.others;
  }

  -- an idle handler ran, or a listener was told of an event
  pub playing_at_quiet : (k : ℕ) (es : List Entry) (x : Act) (acts : List Act) (parts : Parts) → IsQuietAct x → IsPlayingAt m s q began k es acts parts
      → IsPlayingAt m s q began k es (acts ++ x ∷ []) parts
  playing_at_quiet k es x acts parts is at = record { plays = playing_by_quiet s q began k es x acts parts is at.plays; calls = at.calls; others = at.others }
