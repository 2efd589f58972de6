use Rattle.std.proofs.Common.{rules, refl, sym, ◌∙◌, arith}
use Rattle.dash_hall.proofs.Growing.{Keeps, one_turn}
use Rattle.dash_hall.proofs.Calling.{quits, quits_twice, quits_main, quits_not, quits_still}
use Rattle.dash_hall.proofs.barriers.quit.Goals as goal

pub returns-in-Done-clause-called : goal.returns-in-Done-clause-called
returns-in-Done-clause-called g c =
    let w = c.args.way.now in
    let kept : Keeps w.pass.now c.recycle_all.new.pass = record { home = c.recycle_all.ensures.home ∙ sym c.requires.pass; back = omega (arith, c.recycle_all.ensures.back.0) } in
    let done = quits _ _ _ _ _ _ _ kept c.recycle_all.ensures.back c.in-Done.ensures.done in
    record { ready = search rules; same = search rules; by = record { on = done.0; once = one_turn _ _ _ _ c.in-Done.ensures.done.2; made = done.1; none = tt; still = tt } }

pub returns-in-AlreadyQuit-clause-called : goal.returns-in-AlreadyQuit-clause-called
returns-in-AlreadyQuit-clause-called g c =
    let w = c.args.way.now in
    let kept : Keeps w.pass.now w.pass.now = record { home = refl; back = omega arith } in
    let done = quits_twice _ _ _ _ _ _ _ kept refl c.in-AlreadyQuit.ensures.done in
    record { ready = search rules; same = search rules; by = record { on = done.0; once = one_turn _ _ _ _ c.in-AlreadyQuit.ensures.done.2; made = done.1; none = tt; still = tt } }

pub returns-in-NotAllowed-clause-called : goal.returns-in-NotAllowed-clause-called
returns-in-NotAllowed-clause-called g c =
    let w = c.args.way.now in
    let kept : Keeps w.pass.now w.pass.now = record { home = refl; back = omega arith } in
    let done = quits_main _ _ _ _ _ _ kept refl c.in-NotAllowed.ensures.done in
    record { ready = search rules; same = search rules; by = record { on = done.0; once = one_turn _ _ _ _ c.in-NotAllowed.ensures.done.2; made = done.1; none = tt; still = tt } }

pub returns-in-NoMemory-clause-called : goal.returns-in-NoMemory-clause-called
returns-in-NoMemory-clause-called g c =
    let w = c.args.way.now in
    let kept : Keeps w.pass.now w.pass.now = record { home = refl; back = omega arith } in
    let done = quits_not c.args.safe c.args.now _ _ _ _ kept refl c.in-NoMemory.ensures.done in
    record { ready = search rules; same = search rules; by = record { on = done.0; once = one_turn _ _ _ _ c.in-NoMemory.ensures.done.2; made = tt; none = done.1; still = quits_still c.args.safe c.args.now _ _ c.in-NoMemory.ensures.done } }

pub returns-in-NoMemory-clause-refused : goal.returns-in-NoMemory-clause-refused
returns-in-NoMemory-clause-refused g c = (c.in-NoMemory.ensures.done, refl)
