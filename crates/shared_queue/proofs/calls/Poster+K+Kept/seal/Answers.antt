use Rattle.std.proofs.Common.{◌≡◌, ◌+◌, refl, inl, sym, subst, ◌∷◌, []}
use Rattle.queue_state.specs.Queue.{Queue}
use Rattle.shared_queue.specs.Known.{Known, StepsBy, IsTurn, IsTurnWith}
use Rattle.shared_queue.specs.Whole.{whole_queue}
use Rattle.shared_queue.proofs.Claims.{keeps_found}
use Rattle.shared_queue.proofs.Desks.{lent, may_end, may_hand_over}
use Rattle.shared_queue.proofs.Knows.{known, is_turn, is_sealing, is_part}
use Rattle.shared_queue.proofs.Quiet.{quiet, as_found}
use Rattle.shared_queue.proofs.calls.Poster+K+Kept.seal.Goals as goal

pub end_sealed-requires-clause-turn : goal.end_sealed-requires-clause-turn
end_sealed-requires-clause-turn g c κs within =
    let P : Type 0 = Known g.row.K-Home.Denot g.row.K.Denot in
    let last = subst (λ (p : P). p.sender + 1 ≡ c.args.queue.now.constants.setting.senders) (sym c.self.view_is) c.requires.last in
    may_hand_over c.args.queue.now.constants c.self.inside.desk c.begin-state.new.self c.value_mut.result.now c.seal.new.self (lent _ _ _ _ _ c.value_mut.ensures.value c.begin-state.ensures) last c.in-Ok.ensures.1

pub end-requires-clause-turn : goal.end-requires-clause-turn
end-requires-clause-turn g c κs within =
    let d = c.self.inside.desk in
    let x : Queue g.row.K-Home.Denot g.row.K.Denot = c.value_mut.result.now in
    may_end c.args.queue.now.constants d c.begin-state.new.self x c.seal.new.self (lent _ _ _ _ _ c.value_mut.ensures.value c.begin-state.ensures) (subst (StepsBy d.sender x) (sym c.in-Err.ensures) (refl, refl, refl, inl refl)) (keeps_found x c.seal.new.self c.in-Err.ensures)

pub end-requires-clause-quiet : goal.end-requires-clause-quiet
end-requires-clause-quiet g c κs within =
    let x : Queue g.row.K-Home.Denot g.row.K.Denot = c.value_mut.result.now in
    quiet c.args.queue.now.constants c.self.inside.desk c.begin-state.new.self x c.seal.new.self (lent _ _ _ _ _ c.value_mut.ensures.value c.begin-state.ensures) (as_found x c.seal.new.self c.in-Err.ensures)

pub returns-in-Ok : goal.returns-in-Ok
returns-in-Ok g c =
    let P : Type 0 = Known g.row.K-Home.Denot g.row.K.Denot in
    let key = c.args.queue.now.constants in
    let d = c.self.inside.desk in
    let e = c.begin-state.new.self in
    let n = c.end_sealed.new.self in
    let x : Queue g.row.K-Home.Denot g.row.K.Denot = c.value_mut.result.now in
    let y : Queue g.row.K-Home.Denot g.row.K.Denot = c.seal.new.self in
    let b = lent _ _ _ _ _ c.value_mut.ensures.value c.begin-state.ensures in
    let p = c.in-Ok.part in
    let last = subst (λ (z : P). z.sender + 1 ≡ key.setting.senders) (sym c.self.view_is) c.requires.last in
    let may = may_hand_over key d e x y b last c.in-Ok.ensures.1 in
    let whole : Queue g.row.K-Home.Denot g.row.K.Denot = whole_queue b.spans.0 x in
    let turn = is_sealing key d e x c.self.invariant b n y p c.in-Ok.ensures.1 c.in-Ok.ensures.0 may.same c.end_sealed.ensures in
    (whole, (subst (λ (before : P). IsTurnWith (p ∷ []) before (known n) whole whole) c.self.view_is turn, is_part key d e x c.self.invariant b n y p c.in-Ok.ensures.1 c.in-Ok.ensures.0 may.same c.end_sealed.ensures))

pub returns-in-Err : goal.returns-in-Err
returns-in-Err g c =
    let P : Type 0 = Known g.row.K-Home.Denot g.row.K.Denot in
    let Q : Type 0 = Queue g.row.K-Home.Denot g.row.K.Denot in
    let key = c.args.queue.now.constants in
    let d = c.self.inside.desk in
    let n = c.end.new.self in
    let x : Q = c.value_mut.result.now in
    let b = lent _ _ _ _ _ c.value_mut.ensures.value c.begin-state.ensures in
    let is = c.in-Err.ensures in
    let turn = is_turn key d c.begin-state.new.self x c.self.invariant b n c.seal.new.self (subst (StepsBy d.sender x) (sym is) (refl, refl, refl, inl refl)) (keeps_found x c.seal.new.self is) c.end.ensures in
    let whole : Q = whole_queue b.spans.0 x in
    (whole, subst (λ (before : P). IsTurn before (known n) whole whole) c.self.view_is (subst (λ (z : Q). IsTurn (known d) (known n) whole (whole_queue b.spans.0 z)) is turn))
