use Rattle.std.proofs.Common.{◌∙◌, sym, subst}
use mathlib.Core.List.{IsPrefix}
use Rattle.choreographer.specs.Known.{Pass, IsPassOf, HasHeardWho}
use Rattle.dash_hall.specs.Hearing.{AtEach, PassHasHeard, ArePassesReady, ArePassesKnown}
use Rattle.dash_hall.proofs.PassesHearing.{pass_heard_then, passes_known_more}
use Rattle.dash_hall.proofs.Sharing.{each_then}
use Rattle.dash_threads.specs.Threads.{TellsPass, HearsPass}
use Rattle.dash_loopers.specs.Loopers.{OfItsPass, LooperHearsPass}
use Rattle.dash_loopers.proofs.LooperPasses.{parts_there}
use Rattle.dash_stage.proofs.Sharing.{still_of, told_of, of_weaker, tells_hears, looper_told, looper_tells_hears}
use Rattle.dash_stage.proofs.share.share_passes.Goals as goal

pub tell_pass-requires-clause-other : goal.tell_pass-requires-clause-other
tell_pass-requires-clause-other c = still_of c.args.pass.now c.threads_tell_pass.new.other c.args.choreographer.now c.threads_tell_pass.ensures.heard c.requires.pass

pub threads_hear_pass-requires-clause-at : goal.threads_hear_pass-requires-clause-at
threads_hear_pass-requires-clause-at c = record {
  ready = told_of (ArePassesReady c.args.place c.args.choreographer.now) c.args.threads.now c.threads_tell_pass.new.threads c.threads_tell_pass.ensures.kept c.requires.threads;
  pass = still_of c.args.pass.now c.tell_pass.new.other c.args.choreographer.now
      (pass_heard_then c.args.pass.now c.threads_tell_pass.new.other c.tell_pass.new.other c.threads_tell_pass.ensures.heard c.tell_pass.ensures.heard) c.requires.pass;
}

pub threads_hear_pass-requires-clause-known : goal.threads_hear_pass-requires-clause-known
threads_hear_pass-requires-clause-known c =
    let was = c.threads_tell_pass.new.other.view.heard in
    let is = c.tell_pass.new.other.view.heard in
    told_of (ArePassesKnown c.args.place is) c.args.threads.now c.threads_tell_pass.new.threads c.threads_tell_pass.ensures.kept
    (of_weaker (ArePassesKnown c.args.place was) (ArePassesKnown c.args.place is) (λ ps k. passes_known_more ps c.args.place was is c.tell_pass.ensures.heard.more k) c.args.threads.now c.threads_tell_pass.ensures.told)

pub hear_pass-requires-clause-parts : goal.hear_pass-requires-clause-parts
hear_pass-requires-clause-parts c = parts_there c.args.looper.now.parts c.tell_pass.new.self.parts c.tell_pass.ensures.kept.1 c.requires.parts

pub hear_pass-requires-clause-passes : goal.hear_pass-requires-clause-passes
hear_pass-requires-clause-passes c = looper_told (λ p. IsPassOf p c.args.choreographer.now) c.args.looper.now c.tell_pass.new.self c.tell_pass.ensures.kept c.requires.looper

pub hear_pass-requires-clause-other : goal.hear_pass-requires-clause-other
hear_pass-requires-clause-other c = subst (λ (p : Pass). IsPassOf p c.args.choreographer.now) (sym c.threads_hear_pass.ensures.other)
    (still_of c.args.pass.now c.tell_pass.new.other c.args.choreographer.now
    (pass_heard_then c.args.pass.now c.threads_tell_pass.new.other c.tell_pass.new.other c.threads_tell_pass.ensures.heard c.tell_pass.ensures.heard) c.requires.pass)

pub hear_pass-requires-clause-known : goal.hear_pass-requires-clause-known
hear_pass-requires-clause-known c =
    subst (λ (p : Pass). OfItsPass (λ q. IsPrefix q.view.heard p.view.heard) c.tell_pass.new.self) (sym c.threads_hear_pass.ensures.other)
    (looper_told (λ q. IsPrefix q.view.heard c.tell_pass.new.other.view.heard) c.args.looper.now c.tell_pass.new.self c.tell_pass.ensures.kept c.tell_pass.ensures.told)

pub returns : goal.returns
returns c =
    let one = c.threads_tell_pass.new.threads in
    let told = c.tell_pass.new.other in
    let hears = HearsPass c.args.place told.view.heard in
    let same = c.hear_pass.ensures.other ∙ c.threads_hear_pass.ensures.other in
    record {
      threads = subst (λ (p : Pass). AtEach (HearsPass c.args.place p.view.heard) c.args.threads.now c.threads_hear_pass.new.threads) (sym same)
          (each_then TellsPass hears hears c.args.threads.now one c.threads_hear_pass.new.threads (tells_hears c.args.place told.view.heard) c.threads_tell_pass.ensures.kept c.threads_hear_pass.ensures.kept);
      looper = subst (λ (p : Pass). LooperHearsPass p.view.heard c.args.looper.now c.hear_pass.new.self) (sym c.hear_pass.ensures.other)
          (looper_tells_hears c.threads_hear_pass.new.other.view.heard c.args.looper.now c.tell_pass.new.self c.hear_pass.new.self c.tell_pass.ensures.kept c.hear_pass.ensures.kept);
      pass = subst (PassHasHeard c.args.pass.now) (sym same)
          (pass_heard_then c.args.pass.now c.threads_tell_pass.new.other told c.threads_tell_pass.ensures.heard c.tell_pass.ensures.heard);
      who = subst HasHeardWho (sym same) c.tell_pass.ensures.knows;
    }
