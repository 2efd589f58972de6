use Rattle.std.proofs.Common.{ℕ, ap, inl, inr, refl}
use Rattle.dash_script.specs.declared.script.Script.{Script}
use Rattle.dash_stage.specs.declared.control.Controller.{Controller}
use Rattle.dash_stage.specs.Controllers.{CallsNone, IsMoving}
use Rattle.dash_stage.specs.ControlSteps.{KeepsPace}
use Rattle.loop_model.specs.declared.call.Call.TheVariants.{Advance}
use Rattle.loop_model.specs.declared.reply.Reply.TheVariants.{Advanced}
use Rattle.looper_run.specs.Holding.{State}
use Rattle.dash_stage.proofs.Controller.Controlling.{in_queues, in_posters, own_poster, is_last, in_step}
use Rattle.dash_stage.proofs.Controller.Controls.{by_kept, moving_kept, reached_kept}
use Rattle.dash_stage.proofs.Controller.ControlTurns.{turned_none, turned_by, turned_to, turned_reached, turned_kept, turned_over, turned_late, still_over, still_stuck, turns_none, turns_one, turns_here, turned_alone}
use Rattle.dash_stage.proofs.control.Controller.advance_one.Goals as goal

pub index_mut-requires : goal.index_mut-requires
index_mut-requires g c = in_posters c.requires.at

pub index-requires : goal.index-requires
index-requires g c = in_queues c.requires.at

pub advance-requires-clause-queue : goal.advance-requires-clause-queue
advance-requires-clause-queue g c κs within =
    (own_poster c.requires.at c.index_mut.ensures.value c.index.ensures).0

pub advance-requires-clause-sender : goal.advance-requires-clause-sender
advance-requires-clause-sender g c κs within =
    is_last c.requires.at c.index_mut.ensures.value c.index.ensures

pub advance-requires-clause-lockstep : goal.advance-requires-clause-lockstep
advance-requires-clause-lockstep g c κs within =
    in_step c.requires.at c.index.ensures

-- a turn that made no entry keeps the pace
still_pace : (s : Script) (now : ℕ) (c c' : Controller) → CallsNone c c' → IsMoving s c → KeepsPace s now c c'
still_pace s now c c' none moving = record { moving = moving_kept s c c' none moving; reached = reached_kept s c c' none now; by = λ time le. by_kept c c' none time }

pub returns-in-Advanced : goal.returns-in-Advanced
returns-in-Advanced g c =
    let at = c.requires.at in
    let is_p = c.index_mut.ensures.value in
    let is_q = c.index.ensures in
    let t = c.in-Advanced.ensures.2 in
    let is = c.in-Advanced.ensures.3.1 in
    let pass = c.args.self.now.kit.pass in
    let now = c.args.now in
    let come = turned_to at is_p is_q t pass now is in
    record {
      alone = turned_alone at pass is_p t;
      pace = record {
        moving = turned_by at is_p is_q t pass now c.args.script.now.end c.requires.within is c.requires.moving;
        reached = turned_kept at is_p is_q t pass now now is;
        by = λ time le. turned_by at is_p is_q t pass now time le is;
      };
      one = record {
        here = turns_here at pass is_p (turns_one t (Advance now) Advanced (ap (λ (z : State). z.entries) is) refl);
        reached = λ _ first. turned_reached at is_p is_q t pass now first come;
        come = λ _ d. inl (come d);
        stuck = λ wrong. absurd cc;
      };
    }

pub returns-in-Over : goal.returns-in-Over
returns-in-Over g c =
    let at = c.requires.at in
    let is_p = c.index_mut.ensures.value in
    let is_q = c.index.ensures in
    let t = c.in-Over.ensures.2 in
    let over = c.in-Over.ensures.3.0 in
    let same = c.in-Over.ensures.3.1 in
    let pass = c.args.self.now.kit.pass in
    record {
      alone = turned_alone at pass is_p t;
      pace = still_pace c.args.script.now c.args.now c.args.self.now _ (turned_none at is_p is_q t pass same) c.requires.moving;
      one = record {
        here = turns_here at pass is_p (turns_none t same);
        reached = λ _ first. turned_over at is_p is_q t first (c.requires.moving 0) over;
        come = λ _ d. inr (still_over at is_p is_q t pass same over d);
        stuck = λ wrong. absurd cc;
      };
    }

pub returns-in-Reached : goal.returns-in-Reached
returns-in-Reached g c =
    let at = c.requires.at in
    let is_p = c.index_mut.ensures.value in
    let is_q = c.index.ensures in
    let t = c.in-Reached.ensures.2 in
    let same = c.in-Reached.ensures.3.3 in
    let pass = c.args.self.now.kit.pass in
    let now = c.args.now in
    let come = turned_late at is_p is_q t pass now same c.in-Reached.ensures.3.1 in
    record {
      alone = turned_alone at pass is_p t;
      pace = still_pace c.args.script.now now c.args.self.now _ (turned_none at is_p is_q t pass same) c.requires.moving;
      one = record {
        here = turns_here at pass is_p (turns_none t same);
        reached = λ _ first. turned_reached at is_p is_q t pass now first come;
        come = λ _ d. inl (come d);
        stuck = λ wrong. absurd cc;
      };
    }

pub returns-in-NotDrained : goal.returns-in-NotDrained
returns-in-NotDrained g c =
    let at = c.requires.at in
    let is_p = c.index_mut.ensures.value in
    let is_q = c.index.ensures in
    let t = c.in-NotDrained.ensures.2 in
    let found = c.in-NotDrained.ensures.3 in
    let pass = c.args.self.now.kit.pass in
    record {
      alone = turned_alone at pass is_p t;
      pace = still_pace c.args.script.now c.args.now c.args.self.now _ (turned_none at is_p is_q t pass found.3) c.requires.moving;
      one = record {
        here = turns_here at pass is_p (turns_none t found.3);
        reached = λ wrong. absurd cc;
        come = λ wrong. absurd cc;
        stuck = λ _. still_stuck at is_p is_q t pass c.args.now _ found.3 found.0 found.1 found.2;
      };
    }

pub returns-in-NoMemory : goal.returns-in-NoMemory
returns-in-NoMemory g c =
    let at = c.requires.at in
    let is_p = c.index_mut.ensures.value in
    let t = c.in-NoMemory.ensures.2 in
    let pass = c.args.self.now.kit.pass in
    record {
      alone = turned_alone at pass is_p t;
      pace = still_pace c.args.script.now c.args.now c.args.self.now _ (turned_none at is_p c.index.ensures t pass c.in-NoMemory.ensures.3) c.requires.moving;
      one = tt;
    }
