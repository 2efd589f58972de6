use Rattle.std.proofs.Common.{rules, ◌≡◌, false, subst}
use mathlib.Core.List.{IsPrefix}
use Rattle.choreographer.specs.Plays.{Sat}
use Rattle.choreographer.specs.Known.{Pass, HasHeardWho, HasOnlyHeard}
use Rattle.choreographer.proofs.Turns.{notes, joins_in, learns}
use Rattle.choreographer.proofs.Heard.{knows_own, entries_begin}
use Rattle.choreographer.proofs.Hearing.{heard_begins, still_idle, only_heard}
use Rattle.choreographer.proofs.pass.FramePass.hear.Goals as goal

pub split_seat-note-requires : goal.split_seat-note-requires
split_seat-note-requires c = (search rules, search rules, notes c.choreographer.inside.table.shared.key _ _ c.other.invariant.0)

pub join_seat-requires : goal.join_seat-requires
join_seat-requires c =
    let m : Sat = c.split_seat-note.result.me in
    let no_turn : m.0.has_turn ≡ false = search rules in
    (search rules, search rules, search rules, search rules, joins_in c.choreographer.inside.table.shared.key _ _ _ _ c.self.invariant.0 no_turn)

pub load-requires : goal.load-requires
load-requires c = let m : Sat = c.join_seat.new.seat.me in (search rules, search rules, learns c.choreographer.inside.table.shared.key _ 0 _ m)

pub invariant_of-self : goal.invariant_of-self
invariant_of-self c =
    let l = c.load.ensures.2 in
    still_idle c.self.inside.number c.self.inside.seat.me c.other.inside.seat.me.0 c.join_seat.new.seat.me c.load.new.seat.me c.self.invariant (search rules) l.0 l.1 l.2 l.3 l.4 l.5

pub returns-clause-begins : goal.returns-clause-begins
returns-clause-begins c =
    let l = c.load.ensures.2 in
    subst (λ (z : Pass × Pass). IsPrefix z.0.view.heard c.load.new.seat.me.0.heard × IsPrefix z.1.view.heard c.load.new.seat.me.0.heard) (λ i. (c.self.view_is i, c.other.view_is i))
    (heard_begins c.self.inside.number c.self.inside.seat.me c.other.inside.seat.me.0 c.join_seat.new.seat.me c.load.new.seat.me c.self.invariant (search rules) l.0 l.1 l.2 l.3 l.4 l.5)

pub returns-clause-knows : goal.returns-clause-knows
returns-clause-knows c =
    let l = c.load.ensures.2 in
    let idle = still_idle c.self.inside.number c.self.inside.seat.me c.other.inside.seat.me.0 c.join_seat.new.seat.me c.load.new.seat.me c.self.invariant (search rules) l.0 l.1 l.2 l.3 l.4 l.5 in (
      subst HasHeardWho c.self.view_is (knows_own (record { table = c.self.inside.seat.table_id; number = c.self.inside.number; view = c.self.inside.seat.me.0 }) c.self.invariant.2 c.self.invariant.3),
      subst HasHeardWho c.other.view_is (knows_own (record { table = c.other.inside.seat.table_id; number = c.other.inside.number; view = c.other.inside.seat.me.0 }) c.other.invariant.2 c.other.invariant.3),
      knows_own _ idle.2 idle.3,
    )

pub returns-clause-grows : goal.returns-clause-grows
returns-clause-grows c =
    let b = returns-clause-begins c in
    let k = returns-clause-knows c in (
      entries_begin c.args.self.now.view.heard c.load.new.seat.me.0.heard c.args.self.now.view.seen c.load.new.seat.me.0.seen b.0 k.0.seen k.2.seen,
      entries_begin c.args.other.now.view.heard c.load.new.seat.me.0.heard c.args.other.now.view.seen c.load.new.seat.me.0.seen b.1 k.1.seen k.2.seen,
    )

pub returns-clause-same : goal.returns-clause-same
returns-clause-same c =
    let l = c.load.ensures.2 in
    let same = only_heard c.self.inside.number c.self.inside.seat.me c.other.inside.seat.me.0 c.join_seat.new.seat.me c.load.new.seat.me c.self.invariant (search rules) l.0 l.1 l.2 l.3 l.4 l.5 c.self.inside.seat.table_id c.load.new.seat.table_id (search rules) in
    subst (λ (z : Pass). HasOnlyHeard z (record { table = c.load.new.seat.table_id; number = c.self.inside.number; view = c.load.new.seat.me.0 })) c.self.view_is same
