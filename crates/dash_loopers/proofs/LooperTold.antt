-- The messages that a looper took, and its Dispatch acts.
use Rattle.std.proofs.Common.{◌≡◌, ℕ, ◌==◌, Bool, true, false, List, [], ◌∷◌, ◌++◌, refl, sym, ap, ap₂, ◌∙◌}
use Rattle.std.specs.List.{filter_map}
use Rattle.std.proofs.lemmas.List.Elements.{filter_map-append}
use Rattle.loop_model.specs.declared.entry.Entry.{Entry}
use Rattle.loop_model.specs.declared.journal.Journal.{Journal}
use Rattle.loop_model.specs.Answers.{Setting}
use Rattle.looper_run.specs.Acts.{entry_dispatch, taken_messages}
use Rattle.loop_model.specs.Dispatches.{act_dispatch, dispatches, call_dispatch}
use Rattle.looper_run.specs.Holding.{Holding}
use Rattle.looper_run.specs.declared.looper.Round.{Round}
use Rattle.looper_run.specs.declared.looper.Round.TheVariants.{Drained, Ended, NoMemory}
use Rattle.looper_run.specs.Round.{Works, RoundBy}
use Rattle.run_model.specs.Planned.{entries_by}
use Rattle.dash_loopers.specs.Loopers.{is_given_up}

-- what a sender takes is told by its own entries
pub taken_own : (sender : ℕ) (es : List Entry) → taken_messages sender es ≡ filter_map (λ e. call_dispatch e.call e.reply) (entries_by sender es)
taken_own sender [] = refl
taken_own sender (e ∷ es) = go (taken_own sender es) (e.sender == sender) refl
  where
    go : taken_messages sender es ≡ filter_map (λ e. call_dispatch e.call e.reply) (entries_by sender es) → (b : Bool) → (e.sender == sender) ≡ b
        → taken_messages sender (e ∷ es) ≡ filter_map (λ e. call_dispatch e.call e.reply) (entries_by sender (e ∷ es))
    go rest true t = rw (t, rest) refl
    go rest false t = rw t rest

-- the same journal tells of what a poster took that has the sender's entries as before
pub told_same : (before after : Journal) (k n : ℕ) (es fs : List Entry) → after ≡ before → entries_by n fs ≡ entries_by k es → dispatches before.acts ≡ taken_messages k es → dispatches after.acts ≡ taken_messages n fs
told_same before after k n es fs same entries told =
    ap (λ (j : Journal). dispatches j.acts) same ∙ told ∙ (taken_own k es ∙ ap (filter_map (λ (e : Entry). call_dispatch e.call e.reply)) (sym entries) ∙ sym (taken_own n fs))

told_on : (s : Setting) (now : ℕ) (before after : Holding) (count : ℕ) → Works s now before after count → dispatches before.journal.acts ≡ taken_messages before.poster.sender before.poster.view.seen
    → dispatches after.journal.acts ≡ taken_messages before.poster.sender after.poster.view.seen
told_on s now before after count w told =
    ap dispatches w.acts ∙ (filter_map-append act_dispatch before.journal.acts w.did
    ∙ (ap₂ (λ a b. a ++ b) told w.told
    ∙ (sym (filter_map-append (entry_dispatch before.poster.sender) before.poster.view.seen w.more) ∙ ap (taken_messages before.poster.sender) (sym w.seen))))

-- a round that found memory tells what it took
pub told_by_round : (s : Setting) (now : ℕ) (before after : Holding) (last : Round) → RoundBy s now before after last → is_given_up last ≡ false
    → dispatches before.journal.acts ≡ taken_messages before.poster.sender before.poster.view.seen → dispatches after.journal.acts ≡ taken_messages before.poster.sender after.poster.view.seen
told_by_round s now before after (Drained dispatched until) r going told = told_on s now before after dispatched r.0 told
told_by_round s now before after (Ended dispatched) r going told = told_on s now before after dispatched r.0 told
told_by_round s now before after NoMemory r going told = absurd cc
