use Rattle.std.proofs.Common.{rules, ◌≡◌, ℕ, List, ◌∙◌, sym, subst}
use Rattle.loop_model.proofs.Prefixes.{prefix_self}
use Rattle.looper_run.specs.Holding.{Sender}
use Rattle.loop_model.specs.declared.entry.Entry.{Entry}
use Rattle.dash_hall.specs.Hearing.{AtEach, HasHeard, HaveHeardAt, AreKept, AreReady, AreKnown}
use Rattle.dash_hall.proofs.Sharing.{each_then}
use Rattle.dash_threads.specs.Threads.{ThreadKeeps}
use Rattle.dash_loopers.specs.Loopers.{LooperKeeps}
use Rattle.dash_stage.specs.Sharing.{OfLoopers}
use Rattle.dash_hall.proofs.Hearing.{ready_kept, known_kept, heard_then}
use Rattle.dash_threads.proofs.ThreadShares.{thread_then}
use Rattle.dash_stage.proofs.Sharing.{of_threads_then, of_loopers_then, loopers_within}
use Rattle.dash_loopers.proofs.LooperShares.{looper_then}
use Rattle.dash_stage.proofs.share.share_by.Goals as goal

pub threads_hear-requires-clause-at : goal.threads_hear-requires-clause-at
threads_hear-requires-clause-at c =
    let p = AreReady c.args.place c.args.queue.now in
    record { ready = of_threads_then p p AreKept (ready_kept c.args.place c.args.queue.now) c.args.threads.now c.threads_tell.new.threads c.threads_tell.ensures.kept c.requires.threads; poster = search rules }

pub threads_hear-requires-clause-known : goal.threads_hear-requires-clause-known
threads_hear-requires-clause-known c =
    let was = c.threads_tell.new.other.view.seen in
    let is = c.loopers_tell.new.other.view.seen in
    of_threads_then (AreKnown c.args.place was) (AreKnown c.args.place is) AreKept (known_kept c.args.place was is c.loopers_tell.ensures.heard.more)
    c.args.threads.now c.threads_tell.new.threads c.threads_tell.ensures.kept c.threads_tell.ensures.told

pub loopers_hear-requires-clause-at : goal.loopers_hear-requires-clause-at
loopers_hear-requires-clause-at c =
    let p = AreReady c.args.place c.args.queue.now in
    let after = c.loopers_tell.new.loopers in
    record {
      ready = of_loopers_then p p AreKept (ready_kept c.args.place c.args.queue.now) c.args.loopers.now after c.loopers_tell.ensures.kept c.requires.loopers;
      within = loopers_within c.args.loopers.now after c.loopers_tell.ensures.kept c.requires.within;
      poster = search rules;
    }

pub loopers_hear-requires-clause-known : goal.loopers_hear-requires-clause-known
loopers_hear-requires-clause-known c =
    let is = c.loopers_tell.new.other.view.seen in
    let after = c.loopers_tell.new.loopers in
    subst (λ (o : Sender). OfLoopers (AreKnown c.args.place o.view.seen) after) (sym c.threads_hear.ensures.other)
    (of_loopers_then (AreKnown c.args.place is) (AreKnown c.args.place is) AreKept (known_kept c.args.place is is (prefix_self is)) c.args.loopers.now after c.loopers_tell.ensures.kept c.loopers_tell.ensures.told)

-- posters that were kept heard as those after them did
kept_then : (place : ℕ) (whole : List Entry) (a b c : List Sender) → AreKept a b → HaveHeardAt place whole b c → HaveHeardAt place whole a c
kept_then place whole a b c same heard = subst (λ (ps : List Sender). HaveHeardAt place whole ps c) same heard

pub returns : goal.returns
returns c =
    let place = c.args.place in
    let told = c.loopers_tell.new.other in
    let last = c.loopers_hear.new.other in
    let same : last ≡ told = c.loopers_hear.ensures.other ∙ c.threads_hear.ensures.other in
    let heard = HaveHeardAt place told.view.seen in
    let after = kept_then place told.view.seen in
    let loopers = subst (λ (p : Sender). AtEach (LooperKeeps (HaveHeardAt place p.view.seen)) c.loopers_tell.new.loopers c.loopers_hear.new.loopers) c.threads_hear.ensures.other c.loopers_hear.ensures.kept in
    record {
      threads = subst (λ (p : Sender). AtEach (ThreadKeeps (HaveHeardAt place p.view.seen)) c.args.threads.now c.threads_hear.new.threads) (sym same)
          (each_then (ThreadKeeps AreKept) (ThreadKeeps heard) (ThreadKeeps heard) c.args.threads.now c.threads_tell.new.threads c.threads_hear.new.threads (thread_then AreKept heard heard after) c.threads_tell.ensures.kept c.threads_hear.ensures.kept);
      loopers = subst (λ (p : Sender). AtEach (LooperKeeps (HaveHeardAt place p.view.seen)) c.args.loopers.now c.loopers_hear.new.loopers) (sym same)
          (each_then (LooperKeeps AreKept) (LooperKeeps heard) (LooperKeeps heard) c.args.loopers.now c.loopers_tell.new.loopers c.loopers_hear.new.loopers (looper_then AreKept heard heard after) c.loopers_tell.ensures.kept loopers);
      poster = subst (HasHeard c.args.poster.now) (sym same) (heard_then c.args.poster.now c.threads_tell.new.other told c.threads_tell.ensures.heard c.loopers_tell.ensures.heard);
    }
