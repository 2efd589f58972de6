-- A round that ended a looper has seen its queue over, and one that ended with a wait tells until when.
use Rattle.std.proofs.Common.{◌≡◌, ℕ, max, ◌||◌, Bool, true, false, List, ◌∷◌, [], ◌++◌, Option, Some, refl, sym, ap, ◌∙◌, subst, inl, inr}
use Rattle.std.proofs.Math.Bool.{or-true}
use Rattle.std.specs.Prelude.{if◌then◌else◌}
use Rattle.std.specs.Option.{option_map}
use mathlib.Core.List.{IsPrefix}
use Rattle.loop_model.specs.Items.{when_of}
use Rattle.loop_model.specs.Pick.{first_eligible}
use Rattle.atomic_table.specs.Seated.{TableId}
use Rattle.loop_model.specs.declared.base.Base.{Base}
use Rattle.loop_model.specs.Base.{empty_base}
use Rattle.loop_model.specs.Answers.{Setting, clock, is_over, has_disposed, has_halted}
use Rattle.loop_model.specs.Entries.{is_disposed}
use Rattle.loop_model.specs.declared.entry.Entry.{Entry}
use Rattle.loop_model.specs.declared.reply.Reply.TheVariants.{Disposed}
use Rattle.loop_model.proofs.AfterLaws.{has_disposed-snoc}
use Rattle.message_pool.specs.Passes.{Claimed, Node}
use Rattle.queue_state.specs.Queue.{Queue}
use Rattle.queue_state.specs.declared.answers.Nexted.TheVariants as nexted
use Rattle.shared_queue.specs.Constants.{Constants}
use Rattle.shared_queue.specs.Calls.{NextedBy}
use Rattle.looper_run.specs.declared.looper.Round.{Round}
use Rattle.looper_run.specs.declared.looper.Round.TheVariants.{Drained, Ended, NoMemory}
use Rattle.looper_run.specs.Holding.{Sender, Holding}
use Rattle.looper_run.specs.Round.{RoundBy, LastLookEnds, is_ended}
use Rattle.dash_loopers.specs.Loopers.{is_given_up, until_of, HasNoneDue}

over_with : (b : Base) (es : List Entry) (e : Entry) → e.reply ≡ Disposed → is_over b (es ++ e ∷ []) ≡ true
over_with b es e is =
    let disposed : has_disposed b (es ++ e ∷ []) ≡ true = has_disposed-snoc b es e ∙ (ap (λ r. has_disposed b es || is_disposed r) is ∙ or-true (has_disposed b es)) in
    ap (λ (d : Bool). d || has_halted b (es ++ e ∷ [])) disposed

pub over_by_end : (now : ℕ) (p q : Sender) (idle : Bool) (left : List Node) (b : Base) → NextedBy p q now idle (nexted.End left) → is_over b q.view.seen ≡ true
over_by_end now p q idle left b n =
    let x = n.0 in
    let seen = n.2.seen ∙ ap (λ (y : Queue TableId Claimed). y.entries) n.3.2 in
    subst (λ (es : List Entry). is_over b es ≡ true) (sym seen) (over_with b x.entries _ refl)

pub over_by_over : (now : ℕ) (p q : Sender) (idle : Bool) (c : Constants TableId) → q.view.constants ≡ Some c → NextedBy p q now idle nexted.Over → is_over (empty_base c.setting.senders) q.view.seen ≡ true
over_by_over now p q idle c is n =
    let x = n.0 in
    let start = (n.2.own c (sym n.2.constants ∙ is)).0.start in
    let seen = n.2.seen ∙ ap (λ (y : Queue TableId Claimed). y.entries) n.3.1 in
    subst (λ (es : List Entry). is_over (empty_base c.setting.senders) es ≡ true) (sym seen) (subst (λ (b : Base). is_over b x.entries ≡ true) start n.3.0)

over_by_look : (now : ℕ) (p q : Sender) (c : Constants TableId) → q.view.constants ≡ Some c → LastLookEnds now p q → is_over (empty_base c.setting.senders) q.view.seen ≡ true
over_by_look now p q c is (inl a) = over_by_end now a.1.0 q a.1.1 a.0 (empty_base c.setting.senders) a.1.3
over_by_look now p q c is (inr a) = over_by_over now a.0 q a.1 c is a.3

pub over_by_round : (s : Setting) (now : ℕ) (before after : Holding) (last : Round) (c : Constants TableId) → after.poster.view.constants ≡ Some c → RoundBy s now before after last → is_ended last ≡ true → is_over (empty_base c.setting.senders) after.poster.view.seen ≡ true
over_by_round s now before after (Drained dispatched until) c is r e = absurd cc
over_by_round s now before after (Ended dispatched) c is r e = over_by_look now before.poster after.poster c is r.1
over_by_round s now before after NoMemory c is r e = absurd cc

-- the moment that a look uses which names this one, on a queue of this setting at this time
abbrev pub moment_of : Setting → ℕ → ℕ → ℕ
moment_of set now time = if set.lockstep then time else max now time

-- a look that was answered to wait tells when the first message is due that no barrier holds back
waits_by_look : (now : ℕ) (p q : Sender) (idle : Bool) (until : Option ℕ) (c : Constants TableId) → q.view.constants ≡ Some c → NextedBy p q now idle (nexted.Wait until) → until ≡ option_map when_of (first_eligible (empty_base c.setting.senders) q.view.seen)
waits_by_look now p q idle until c is n =
    let x = n.0 in
    let start = (n.2.own c (sym n.2.constants ∙ is)).0.start in
    let seen = n.2.seen ∙ ap (λ (y : Queue TableId Claimed). y.entries) n.3.3 in
    subst (λ (es : List Entry). until ≡ option_map when_of (first_eligible (empty_base c.setting.senders) es)) (sym seen)
    (subst (λ (b : Base). until ≡ option_map when_of (first_eligible b x.entries)) start n.3.2)

-- such a look found a queue that is neither over nor quitting, and none due at the moment that it used
none_due_by_look : (now : ℕ) (p q : Sender) (idle : Bool) (until : Option ℕ) (c : Constants TableId) → q.view.constants ≡ Some c → NextedBy p q now idle (nexted.Wait until)
    → HasNoneDue (empty_base c.setting.senders) q.view.seen (moment_of c.setting now (clock (empty_base c.setting.senders) q.view.seen))
none_due_by_look now p q idle until c is n =
    let x = n.0 in
    let own = (n.2.own c (sym n.2.constants ∙ is)).0 in
    let seen = n.2.seen ∙ ap (λ (y : Queue TableId Claimed). y.entries) n.3.3 in
    subst (λ (es : List Entry). HasNoneDue (empty_base c.setting.senders) es (moment_of c.setting now (clock (empty_base c.setting.senders) es))) (sym seen)
    (subst (λ (b : Base). HasNoneDue b x.entries (moment_of c.setting now (clock b x.entries))) own.start
    (subst (λ (s : Setting). HasNoneDue x.start x.entries (moment_of s now (clock x.start x.entries))) own.setting
    (record { going = n.3.0.0; not_quitting = n.3.0.2; none = n.3.0.1 })))

-- what a round that ended with a wait tells: it forgot nothing, it knows when the first message is due, and none is due by then
abbrev pub WaitsBy : Setting → ℕ → Round → List Entry → List Entry → Type 0
WaitsBy set now last before seen = IsPrefix before seen × (until_of last ≡ option_map when_of (first_eligible (empty_base set.senders) seen))
    × HasNoneDue (empty_base set.senders) seen (moment_of set now (clock (empty_base set.senders) seen))

pub waits_by_round : (s : Setting) (now : ℕ) (before after : Holding) (last : Round) (c : Constants TableId) → after.poster.view.constants ≡ Some c → RoundBy s now before after last → is_ended last ≡ false → is_given_up last ≡ false
    → WaitsBy c.setting now last before.poster.view.seen after.poster.view.seen
waits_by_round s now before after (Drained dispatched until) c is r e g = ((r.0.more, sym r.0.seen), waits_by_look now r.1.0 after.poster r.1.1 until c is r.1.3, none_due_by_look now r.1.0 after.poster r.1.1 until c is r.1.3)
waits_by_round s now before after (Ended dispatched) c is r e g = absurd cc
waits_by_round s now before after NoMemory c is r e g = absurd cc
