use Rattle.std.proofs.lemmas.List.{append-nil}
use Rattle.dash_report.proofs.history.write_entry.Goals as goal

pub returns-in_ok-writeln-in-Unbarrier-NotPosted : goal.returns-in_ok-writeln-in-Unbarrier-NotPosted
returns-in_ok-writeln-in-Unbarrier-NotPosted c = rw (c.in-Unbarrier-NotPosted.is-0, c.in-Unbarrier-NotPosted.is-1, append-nil) c.in_ok-writeln-in-Unbarrier-NotPosted.ensures.bytes

pub returns-in_ok-writeln-in-Quit-NotAllowed : goal.returns-in_ok-writeln-in-Quit-NotAllowed
returns-in_ok-writeln-in-Quit-NotAllowed c = rw (c.in-Quit-NotAllowed.is-0, c.in-Quit-NotAllowed.is-1, append-nil) c.in_ok-writeln-in-Quit-NotAllowed.ensures.bytes

pub returns-in_ok-writeln-in-Quit-AlreadyQuit : goal.returns-in_ok-writeln-in-Quit-AlreadyQuit
returns-in_ok-writeln-in-Quit-AlreadyQuit c = rw (c.in-Quit-AlreadyQuit.is-0, c.in-Quit-AlreadyQuit.is-1, append-nil) c.in_ok-writeln-in-Quit-AlreadyQuit.ensures.bytes

pub returns-in_ok-write_dispatch-in-Next-Dispatched : goal.returns-in_ok-write_dispatch-in-Next-Dispatched
returns-in_ok-write_dispatch-in-Next-Dispatched c = rw (c.in-Next-Dispatched.is-0, c.in-Next-Dispatched.is-1, ← c.post_at.ensures, c.in-Some.is, append-nil) c.in_ok-write_dispatch-in-Next-Dispatched.ensures
