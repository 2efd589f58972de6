-- Where the loopers of a run stand at its end, told by their journals and kits, in each mode.
use Rattle.std.proofs.Common.{◌≡◌, ◌<◌, ◌+◌, ℕ, Bool, true, false, List, length, sym, subst, slice_index_or}
use Rattle.std.specs.Prelude.{MatchBool}
use Rattle.loop_model.specs.declared.journal.Journal.{Journal}
use Rattle.dash_script.specs.declared.script.Script.{Script}
use Rattle.choreographer.specs.Known.{Pass}
use Rattle.run_model.specs.Loopers.{LooperState}
use Rattle.dash_hall.specs.declared.kit.Kit.{Kit}
use Rattle.dash_loopers.specs.declared.looper.StageLooper.{StageLooper}
use Rattle.dash_loopers.specs.Played.{StandsBetweenRounds, HasLeft}
use Rattle.dash_stage.specs.declared.control.Controller.{Controller}
use Rattle.dash_stage.specs.Leaving.{HaveGiven}
use Rattle.dash_stage.specs.Playing.{AreCallsOnTime, IsTimelyLooper, EachStandsBetweenLoops}
use Rattle.dash_stage.proofs.Ends.HallEnds.{some_of}
use Rattle.dash_stage.proofs.Played.Asked.{HasAskedInTurn}

-- the looper at this place stands at a state that its journal and its kit tell, whose calls came at their times in lockstep, and what was
-- asked of its choreographer was asked in turn
pub record StandsAt (lockstep : Bool) (s : Script) (c : Controller) (js : List Journal) (kits : List Kit) (k : ℕ) : Type 0 where
  pub state : LooperState
  pub left : (j : Journal) (d : Kit) → HasLeft lockstep s k (slice_index_or js k j) (slice_index_or kits (s.threads + k) d) state
  pub on_time : MatchBool lockstep (AreCallsOnTime s c k state) (Unit {0})
  pub in_turn : MatchBool lockstep ((p : Pass) → HasAskedInTurn s k (slice_index_or c.kit.frames.items k p) state) (Unit {0})

module _ (s : Script) (c : Controller) (js : List Journal) (kits : List Kit) (ls : List StageLooper) (given : HaveGiven s ls js kits) (many : length ls ≡ s.loopers) (told : length js ≡ s.loopers) where
  in_loopers : (k : ℕ) → k < s.loopers → k < length ls
  in_loopers k lt = subst (λ (n : ℕ). k < n) (sym many) lt

  in_journals : (k : ℕ) → k < s.loopers → k < length js
  in_journals k lt = subst (λ (n : ℕ). k < n) (sym told) lt

  pub stands_in_step : ((k : ℕ) (d : StageLooper) → k < length ls → (slice_index_or ls k d).number ≡ k) → ((k : ℕ) (d : StageLooper) → k < length ls → IsTimelyLooper s c (slice_index_or ls k d))
      → ((k : ℕ) (d : StageLooper) → k < length ls → (a : LooperState) → StandsBetweenRounds s (slice_index_or ls k d) a → (p : Pass) → HasAskedInTurn s k (slice_index_or c.kit.frames.items k p) a)
      → (k : ℕ) → k < s.loopers → StandsAt true s c js kits k
  stands_in_step places played asked k lt =
      let near = in_loopers k lt in
      let l = some_of ls k near in
      let st = played k l near in
      record {
        state = st.state;
        left = λ j d. (given k l j d (in_journals k lt)).left st.state st.come;
        on_time = subst (λ (n : ℕ). AreCallsOnTime s c n st.state) (places k l near) st.on_time;
        in_turn = asked k l near st.state st.come;
      }

  pub stands_by_clock : EachStandsBetweenLoops s ls → (k : ℕ) → k < s.loopers → StandsAt false s c js kits k
  stands_by_clock come k lt =
      let near = in_loopers k lt in
      let l = some_of ls k near in
      let st = come k l near in
      record {
        state = st.0;
        left = λ j d. (given k l j d (in_journals k lt)).left_by st.0 st.1;
        on_time = tt;
        in_turn = tt;
      }
