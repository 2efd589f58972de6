use Rattle.std.proofs.Common.{◌≡◌, ◌++◌, ◌∷◌, [], ◌∙◌, List, length, ap, sym, subst}
use Rattle.shared_queue.specs.Ends.{AreInOrder, HasCalls, HaveSealed}
use Rattle.run_model.specs.Planned.{history_of}
use Rattle.inbox_queue.specs.Turned.{Sender}
use Rattle.inbox_queue.proofs.Ending.{last_sealed, all_in_order, as_kept}
use Rattle.inbox_queue.proofs.run.keep.Goals as goal

pub retire-requires-clause-posters : goal.retire-requires-clause-posters
retire-requires-clause-posters c _ =
    let o = c.args.opened in
    let are = c.in_ok-push-2.ensures.items ∙ ap (λ (l : List Sender). l ++ o.hands.controller ∷ []) c.in_ok-push.ensures.items in
    subst (λ (l : List Sender). (length l ≡ o.place.queue.constants.setting.senders) × AreInOrder o.place.queue l) (sym are) (all_in_order o.place o.hands o.threads.items c.requires.at c.requires.idle c.requires.posters)

pub retire-requires-clause-sealed : goal.retire-requires-clause-sealed
retire-requires-clause-sealed c _ =
    let o = c.args.opened in
    let are = c.in_ok-push-2.ensures.items ∙ ap (λ (l : List Sender). l ++ o.hands.controller ∷ []) c.in_ok-push.ensures.items in
    subst (λ (l : List Sender). HaveSealed l c.new.result.items) (sym are) (last_sealed o.threads.items o.hands.looper o.hands.controller c.new.result.items (c.requires.at.whole ∙ sym c.new.ensures.items))

pub returns : goal.returns
returns c =
    let o = c.args.opened in
    let kept = c.in_ok-retired.retired.kept in
    let end = c.in_ok-retired.ensures in
    let are = c.in_ok-push-2.ensures.items ∙ ap (λ (l : List Sender). l ++ o.hands.controller ∷ []) c.in_ok-push.ensures.items in
    as_kept o.place o.hands o.threads.items kept c.requires.at c.requires.idle c.requires.posters c.requires.looper end.kept.looper end.kept.setting end.end.chain end.end.sound.legal end.end.sound.numbered
    (subst (HasCalls (history_of kept)) are end.end.calls)
