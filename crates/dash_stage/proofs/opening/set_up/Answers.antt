use Rattle.std.proofs.Common.{◌≡◌, ◌+◌, ℕ, refl, subst, arith}
use Rattle.std.specs.Prelude.{slice_index_or}
use Rattle.dash_hall.specs.Kits.{IsKitOf}
use Rattle.dash_stage.specs.declared.control.Controller.{Controller}
use Rattle.dash_stage.specs.declared.stage.Stage.{Stage}
use Rattle.dash_stage.proofs.Ends.Carried.{unused_kits}
use Rattle.dash_stage.proofs.Sharing.{controller_of, last_kit}
use Rattle.dash_stage.proofs.Controller.Controls.{unused_by, unused_moves}
use Rattle.dash_stage.proofs.Stages.StageTurns.{begins_timely, begins_rested, begins_in_step}
use Rattle.dash_stage.proofs.Played.InTurn.{begins_in_turn}
use Rattle.dash_stage.proofs.opening.set_up.Goals as goal

pub threads-requires-clause-kits : goal.threads-requires-clause-kits
threads-requires-clause-kits c =
    let s = c.args.script.now in
    let hall = c.in_ok-hall.hall in
    let kits = c.in_ok-hall.ensures.kits in
    record {
      from = record {
        count = (let all = kits.count in omega (arith, all));
        each = λ k d lt. (let same : k ≡ k + 0 = omega arith in subst (λ (n : ℕ). IsKitOf s hall n (slice_index_or c.in_ok-hall.kits.items k d)) same (kits.each k d lt));
      };
      unused = unused_kits c.in_ok-hall.kits.items c.in_ok-hall.ensures.new;
    }

pub returns : goal.returns
returns c =
    let s = c.args.script.now in
    let opened = c.in_ok-hall.ensures in
    let ts = c.in_ok-threads.ensures.opened in
    let ls = c.in_ok-loopers.ensures.opened in
    let left = c.in_ok-loopers.ensures.kits in
    let last = last_kit s c.in_ok-hall.hall c.loopers.new.kits.items c.remove.result c.remove.ensures.value left.from left.unused in
    let control : Controller = record { kit = c.remove.result; sealed = c.in_ok-sealed.sealed; sealed_frames = c.in_ok-sealed_frames.sealed_frames } in
    let st : Stage = record { hall = c.in_ok-hall.hall; threads = c.in_ok-threads.threads; loopers = c.in_ok-loopers.loopers; controller = control; pass = c.in_ok-hall.pass; time = 0 } in
    let timely = begins_timely s st _ opened.hall ts.threads ls.loopers last.1.posters ts.unseen ls.unseen last.0.posters in
    record {
      opened = record {
        stage = record {
          text = c.requires;
          hall = opened.hall;
          threads = ts.threads;
          loopers = ls.loopers;
          controller = controller_of s c.in_ok-hall.hall opened.mode c.remove.result c.in_ok-sealed.sealed c.in_ok-sealed_frames.sealed_frames opened.hall last.1 last.0 c.in_ok-sealed.ensures c.in_ok-sealed_frames.ensures;
          pass = opened.pass;
        };
        run = ts.run;
        loopers = ls.begun;
        moving = unused_moves s control last.0;
        by = unused_by 0 control last.0;
        zero = refl;
        timely = timely;
        rested = begins_rested s st _ opened.hall ls.loopers last.1.posters last.0.posters ls.waits;
        step = begins_in_step s st _ opened.hall timely ls.loopers last.1.posters last.0.posters refl ls.begun;
        unseen = record { threads = ts.unseen; loopers = ls.unseen; controller = last.0.posters };
        turn = begins_in_turn s st ts.unheard ls.unheard last.0;
      };
    }
