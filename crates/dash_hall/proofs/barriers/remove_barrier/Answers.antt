use Rattle.std.proofs.Common.{rules, refl, sym, ◌∙◌, arith}
use Rattle.dash_hall.proofs.Growing.{Keeps, one_turn}
use Rattle.dash_hall.proofs.Calling.{unbars, unbars_none, unbars_not, unbars_still, returned_back}
use Rattle.dash_hall.proofs.barriers.remove_barrier.Goals as goal

pub returns-in-Unbarriered : goal.returns-in-Unbarriered
returns-in-Unbarriered g c =
    let w = c.args.way.now in
    let kept : Keeps w.pass.now c.recycle.new.pass = record { home = c.recycle.ensures.home ∙ sym c.requires.pass; back = returned_back _ _ _ c.recycle.ensures.back } in
    let done = unbars _ _ _ _ _ _ _ kept c.recycle.ensures.back c.in-Unbarriered.ensures.done in
    record { called = record { ready = search rules; same = search rules; by = record { on = done.0; once = one_turn _ _ _ _ c.in-Unbarriered.ensures.done.2; made = done.1; none = tt; still = tt } } }

pub returns-in-NotPosted : goal.returns-in-NotPosted
returns-in-NotPosted g c =
    let w = c.args.way.now in
    let kept : Keeps w.pass.now w.pass.now = record { home = refl; back = omega arith } in
    let done = unbars_none _ _ _ _ _ kept refl c.in-NotPosted.ensures.done in
    record { called = record { ready = search rules; same = search rules; by = record { on = done.0; once = one_turn _ _ _ _ c.in-NotPosted.ensures.done.2; made = done.1; none = tt; still = tt } } }

pub returns-in-NoMemory : goal.returns-in-NoMemory
returns-in-NoMemory g c =
    let w = c.args.way.now in
    let kept : Keeps w.pass.now w.pass.now = record { home = refl; back = omega arith } in
    let done = unbars_not c.args.token _ _ _ _ kept refl c.in-NoMemory.ensures.done in
    record { called = record { ready = search rules; same = search rules; by = record { on = done.0; once = one_turn _ _ _ _ c.in-NoMemory.ensures.done.2; made = tt; none = done.1; still = unbars_still c.args.token _ _ c.in-NoMemory.ensures.done } } }
