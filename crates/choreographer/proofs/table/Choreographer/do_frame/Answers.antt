use Rattle.std.proofs.Common.{rules, refl, ◌∙◌, ℕ, Bool, subst, inl, inr}
use Rattle.frame_phases.specs.declared.entry.Beginning.TheVariants as begin
use Rattle.choreographer.specs.Done.{GivenUpBy}
use Rattle.choreographer.specs.Turn.{stamp_of, stamp_by, awaits_frame, awaits_by}
use Rattle.choreographer.specs.Within.{PhasesRan}
use Rattle.choreographer.proofs.Phases.{done}
use Rattle.choreographer.proofs.Recorded.{frame_records, running_records, unscheduled_records, backwards_records, wanting_records, begin_hands}
use Rattle.choreographer.proofs.Latest.{stamp_goes_on, awaits_goes_on, each_keeps, given_up_keeps, frame_begins, none_begins}
use Rattle.choreographer.proofs.Pulsing.{frame_ends_wait, backwards_ends_wait, running_waits, never_unscheduled}
use Rattle.choreographer.proofs.table.Choreographer.do_frame.Goals as goal

pub run_phases-requires-clause-may : goal.run_phases-requires-clause-may
run_phases-requires-clause-may g c =
    let read = c.begin_frame.ensures.reads in record {
      serves = search rules;
      meets = g.met.L.FrameClient.stays c.args.client.now c.args.host.now read.0 c.begin_frame.new.host read.1 c.requires.may.meets;
      ready = search rules;
    }

pub returns-in-Ok-clause-framed : goal.returns-in-Ok-clause-framed
returns-in-Ok-clause-framed g c =
    let key = c.args.self.now.constants in
    let at = c.in-Began.ensures.turn in
    let t = at.2 in (
      at.0,
      c.in-Began.time,
      c.begin_frame.new.pass,
      at.1,
      t,
      done key.phases t.0.stamp at.0 c.in-Began.time key c.args.pass.now c.begin_frame.new.pass t.0 t.1 refl c.requires.pass.1 t.2 t.3.0 t.3.4 (g.H.FrameHost.is_moment c.args.host.now) c.run_phases.new.pass _ _
          (subst (λ (m : ℕ → Bool). PhasesRan m key.phases key.phases c.begin_frame.new.pass c.run_phases.new.pass (g.L.FrameClient.ran c.args.client.now) (g.L.FrameClient.ran c.run_phases.new.client)) c.begin_frame.ensures.keeps.moments c.in-Ok.ensures.ran),
    )

pub returns-in-Err-clause-framed : goal.returns-in-Err-clause-framed
returns-in-Err-clause-framed g c =
    let at = c.in-Began.ensures.turn in (
      at.0,
      at.1,
      inr (
        c.in-Began.time,
        c.begin_frame.new.pass,
        at.2,
        subst (λ (m : ℕ → Bool). GivenUpBy m c.begin_frame.new.pass c.run_phases.new.pass (g.L.FrameClient.ran c.args.client.now) (g.L.FrameClient.ran c.run_phases.new.client)) c.begin_frame.ensures.keeps.moments c.in-Err.ensures.part,
      ),
    )

pub returns-in-Running-clause-framed : goal.returns-in-Running-clause-framed
returns-in-Running-clause-framed g c =
    let at = c.in-Running.ensures.turn in (at.0, at.1, at.2, refl)

pub returns-in-Unscheduled-clause-framed : goal.returns-in-Unscheduled-clause-framed
returns-in-Unscheduled-clause-framed g c =
    let at = c.in-Unscheduled.ensures.turn in (at.0, at.1, at.2, refl)

pub returns-in-Backwards-clause-framed : goal.returns-in-Backwards-clause-framed
returns-in-Backwards-clause-framed g c =
    let at = c.in-Backwards.ensures.turn in (at.0, at.1, at.2, refl, at.3)

pub returns-in-NoMemory-clause-framed : goal.returns-in-NoMemory-clause-framed
returns-in-NoMemory-clause-framed g c =
    let at = c.in-NoMemory.ensures.turn in (at.0, at.1, inl (at.2, refl))

pub returns-in-Ok-clause-turns : goal.returns-in-Ok-clause-turns
returns-in-Ok-clause-turns g c =
    let at = c.in-Began.ensures.turn in
    let turns = c.run_phases.ensures.turns in
    let middle = c.begin_frame.new.pass in
    let after = c.run_phases.new.pass in
    record {
      same = search rules;
      records = frame_records (g.H.FrameHost.is_moment c.args.host.now) c.args.pass.now middle after at.0 _ at.1 at.2 turns.adds;
      stamp = frame_begins c.args.pass.now middle after at.0 _ at.2 turns.adds (each_keeps stamp_of stamp_by stamp_goes_on 0 c.in-Ok.ensures.ran.0 middle after c.in-Ok.ensures.ran.5);
      awaits = frame_ends_wait c.args.pass.now middle after at.0 _ at.2 (each_keeps awaits_frame awaits_by awaits_goes_on 0 c.in-Ok.ensures.ran.0 middle after c.in-Ok.ensures.ran.5);
      sends = λ none. turns.sends (begin_hands c.args.pass.now middle after at.0 c.in-Began.time at.2 none) ∙ c.begin_frame.ensures.sends;
    }

pub returns-in-Err-clause-turns : goal.returns-in-Err-clause-turns
returns-in-Err-clause-turns g c =
    let at = c.in-Began.ensures.turn in
    let turns = c.run_phases.ensures.turns in
    let middle = c.begin_frame.new.pass in
    let after = c.run_phases.new.pass in
    record {
      same = search rules;
      records = inr (frame_records (g.H.FrameHost.is_moment c.args.host.now) c.args.pass.now middle after at.0 _ at.1 at.2 turns.adds);
      stamp = frame_begins c.args.pass.now middle after at.0 _ at.2 turns.adds (given_up_keeps stamp_of stamp_by stamp_goes_on _ middle after _ _ c.in-Err.ensures.part);
      awaits = λ k e named. tt;
      sends = λ none. turns.sends (begin_hands c.args.pass.now middle after at.0 c.in-Began.time at.2 none) ∙ c.begin_frame.ensures.sends;
    }

pub returns-in-Running-clause-turns : goal.returns-in-Running-clause-turns
returns-in-Running-clause-turns g c =
    let at = c.in-Running.ensures.turn in
    let none = running_records c.args.pass.now c.begin_frame.new.pass at.0 _ at.2 in record {
      same = search rules;
      records = none;
      stamp = none_begins c.args.pass.now c.begin_frame.new.pass at.0 (begin.Running c.in-Running.next) at.2 none;
      awaits = running_waits c.args.pass.now c.begin_frame.new.pass at.0 c.in-Running.next at.2;
      sends = λ handed. c.begin_frame.ensures.sends;
    }

pub returns-in-Unscheduled-clause-turns : goal.returns-in-Unscheduled-clause-turns
returns-in-Unscheduled-clause-turns g c =
    let at = c.in-Unscheduled.ensures.turn in
    let none = unscheduled_records c.args.pass.now c.begin_frame.new.pass at.0 at.2 in record {
      same = search rules;
      records = none;
      stamp = none_begins c.args.pass.now c.begin_frame.new.pass at.0 begin.Unscheduled at.2 none;
      awaits = never_unscheduled c.args.self.now c.args.pass.now c.begin_frame.new.pass at.0 c.requires.begins at.2;
      sends = λ handed. c.begin_frame.ensures.sends;
    }

pub returns-in-Backwards-clause-turns : goal.returns-in-Backwards-clause-turns
returns-in-Backwards-clause-turns g c =
    let at = c.in-Backwards.ensures.turn in
    let none = backwards_records c.args.pass.now c.begin_frame.new.pass at.0 _ at.2 in record {
      same = search rules;
      records = none;
      stamp = none_begins c.args.pass.now c.begin_frame.new.pass at.0 (begin.Backwards c.in-Backwards.last) at.2 none;
      awaits = backwards_ends_wait c.args.pass.now c.begin_frame.new.pass at.0 c.in-Backwards.last at.2;
      sends = λ handed. c.begin_frame.ensures.sends;
    }

pub returns-in-NoMemory-clause-turns : goal.returns-in-NoMemory-clause-turns
returns-in-NoMemory-clause-turns g c =
    let at = c.in-NoMemory.ensures.turn in
    let none = wanting_records c.args.pass.now c.begin_frame.new.pass at.0 at.2 in record {
      same = search rules;
      records = inl none;
      stamp = none_begins c.args.pass.now c.begin_frame.new.pass at.0 begin.NoMemory at.2 none;
      awaits = λ k e named. tt;
      sends = λ handed. c.begin_frame.ensures.sends;
    }
