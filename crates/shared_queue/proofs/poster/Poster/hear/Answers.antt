use Rattle.std.proofs.Common.{rules, ◌≡◌, ℕ, max, false, refl, ap, sym, ◌∙◌, subst}
use mathlib.Core.List.{IsPrefix}
use Rattle.queue_state.specs.Queue.{Queue}
use Rattle.shared_queue.specs.declared.desk.Desk.{Desk}
use Rattle.shared_queue.specs.Known.{Known, IsSamePoster}
use Rattle.shared_queue.specs.Plays.{Sat}
use Rattle.shared_queue.proofs.Knows.{known}
use Rattle.shared_queue.proofs.Hears.{heard_idle, heard_begins, heard_claims_begin, heard_same}
use Rattle.shared_queue.proofs.Turns.{notes, joins_in, learns}
use Rattle.shared_queue.proofs.poster.Poster.hear.Goals as goal

pub split_seat-note-requires : goal.split_seat-note-requires
split_seat-note-requires g c = (search rules, search rules, notes c.queue.inside.table.shared.key _ _ c.other.invariant.0)

pub join_seat-requires : goal.join_seat-requires
join_seat-requires g c =
    let m : Sat g.row.K-Home.Denot g.row.K.Denot = c.split_seat-note.result.me in
    let no_turn : m.0.has_turn ≡ false = search rules in
    (search rules, search rules, search rules, search rules, joins_in c.queue.inside.table.shared.key _ _ _ _ c.self.invariant.0 no_turn)

pub load-self-inside-requires : goal.load-self-inside-requires
load-self-inside-requires g c = (search rules, search rules, learns c.queue.inside.table.shared.key _ 0 _ _)

pub invariant_of-self : goal.invariant_of-self
invariant_of-self g c =
    let d = c.self.inside.desk in
    let o = c.other.inside.desk.seat.me.0 in
    let l = c.load-self-inside.ensures.2 in
    heard_idle d o c.join_seat.new.seat.me c.load-self-inside.new.seat.me c.self.invariant (search rules) l.0 l.1 l.2 l.3
    (record { seat = c.load-self-inside.new.seat; sender = d.sender; made = d.made; seen = c.max-self-inside.result; heard = d.heard }) refl refl refl
    (c.max-self-inside.ensures ∙ ap (λ (k : ℕ). max d.seen k) (sym c.other.invariant.2.seen)) refl

pub returns-clause-begins : goal.returns-clause-begins
returns-clause-begins g c =
    let P : Type 0 = Known g.row.K-Home.Denot g.row.K.Denot in
    let l = c.load-self-inside.ensures.2 in
    subst (λ (z : P × P). IsPrefix z.0.view.seen c.load-self-inside.new.seat.me.0.seen × IsPrefix z.1.view.seen c.load-self-inside.new.seat.me.0.seen) (λ i. (c.self.view_is i, c.other.view_is i))
    (heard_begins c.self.inside.desk c.other.inside.desk.seat.me.0 c.join_seat.new.seat.me c.load-self-inside.new.seat.me c.self.invariant (search rules) l.0 l.1 l.2 l.3)

pub returns-clause-claims_begin : goal.returns-clause-claims_begin
returns-clause-claims_begin g c =
    let P : Type 0 = Known g.row.K-Home.Denot g.row.K.Denot in
    let l = c.load-self-inside.ensures.2 in
    subst (λ (z : P × P). IsPrefix z.0.view.claims c.load-self-inside.new.seat.me.0.claims × IsPrefix z.1.view.claims c.load-self-inside.new.seat.me.0.claims) (λ i. (c.self.view_is i, c.other.view_is i))
    (heard_claims_begin c.self.inside.desk c.other.inside.desk.seat.me.0 c.join_seat.new.seat.me c.load-self-inside.new.seat.me c.self.invariant (search rules) l.0 l.1 l.2 l.3)

pub returns-clause-same : goal.returns-clause-same
returns-clause-same g c =
    let P : Type 0 = Known g.row.K-Home.Denot g.row.K.Denot in
    let d = c.self.inside.desk in
    let l = c.load-self-inside.ensures.2 in
    let e : Desk (Queue g.row.K-Home.Denot g.row.K.Denot) g.row.K-Home.Denot g.row.K.Denot = record { seat = c.load-self-inside.new.seat; sender = d.sender; made = d.made; seen = c.max-self-inside.result; heard = d.heard } in
    subst (λ (before : P). IsSamePoster before (known e) × (e.seat.me.0.rung ≡ before.view.rung) × (e.seat.me.0.heard ≡ before.view.heard)) c.self.view_is
    (heard_same d c.other.inside.desk.seat.me.0 c.join_seat.new.seat.me c.load-self-inside.new.seat.me c.self.invariant (search rules) l.0 l.1 l.2 l.3 e (search rules) refl refl)
