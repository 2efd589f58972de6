-- What a loop that found memory kept, and what a dispatcher's answer tells.
use Rattle.std.proofs.Common.{◌≡◌, ℕ, suc, Bool, true, false, refl, sym, ◌∙◌, subst, Option, Some, None}
use Rattle.std.specs.Prelude.{Result, Ok, Err, OnOk}
use Rattle.loop_model.specs.declared.memory.NoMemory.{NoMemory}
use Rattle.looper_run.specs.declared.by_clock.Loop.{Loop}
use Rattle.looper_run.specs.declared.by_clock.Loop.TheVariants as loop
use Rattle.looper_run.specs.Loops.{LoopsOrGoes, UnlessLostThen, is_over_then}
use Rattle.looper_run.specs.declared.dispatcher.Did.{Did}
use Rattle.looper_run.specs.Tests.{Unless}
use Rattle.atomic_table.specs.Seated.{TableId}
use Rattle.loop_model.specs.Answers.{Setting}
use Rattle.shared_queue.specs.Known.{Shared}
use Rattle.looper_run.specs.Holding.{Looping, Workplace}
use Rattle.plain_loop.specs.Handling.{IsWorkplaceOf, did_of}
use Rattle.plain_loop.specs.Looping.{EndsOrLetsGo, LoopsTimes}

-- what holds unless memory ran out holds where it was not
pub kept : (answer : Option Loop) (P : Type 0) → (answer ≡ Some loop.NoMemory → ⊥) → UnlessLostThen answer P → P
kept None P found h = h
kept (Some loop.Ended) P found h = h
kept (Some (loop.Cap now)) P found h = h
kept (Some loop.Nudged) P found h = h
kept (Some loop.NoMemory) P found h = absurd (found refl)

did_well : (r : Result (Unit {0}) NoMemory) (P : Type 0) → OnOk r P → Unless (did_of r) P
did_well (Ok done) P h = h
did_well (Err e) P h = tt

-- what holds where handlers found memory holds unless the dispatcher answers that none was found
pub did_unless : (d : Did) (r : Result (Unit {0}) NoMemory) (P : Type 0) → d ≡ did_of r → OnOk r P → Unless d P
did_unless d r P is h = subst (λ (x : Did). Unless x P) (sym is) (did_well r P h)

-- a loop more, which did not end the looper
pub times_more : (keeps : Bool) (shows : ℕ → Bool) (s : Setting) (until : Option ℕ) (n : ℕ) (a b d : Looping) (over : Bool) → over ≡ false → LoopsTimes keeps shows s until n a b
    → EndsOrLetsGo keeps shows s until over b d → (m : ℕ) × LoopsTimes keeps shows s until m a d
times_more keeps shows s until n a b d over going times once = (suc n, (b, times, subst (λ (o : Bool). EndsOrLetsGo keeps shows s until o b d) going once))

-- the same place
pub place_still : (queue : Shared TableId) (pool : TableId) (w v : Workplace) → v ≡ w → IsWorkplaceOf queue pool w → IsWorkplaceOf queue pool v
place_still queue pool w v same is = subst (λ (x : Workplace). IsWorkplaceOf queue pool x) (sym same) is

-- a loop that ended the looper, where it waits as long as it is to
pub loops_ended : (shows : ℕ → Bool) (s : Setting) (until : Option ℕ) (answer : Option Loop) (before after : Looping) (over : Bool) → over ≡ is_over_then answer → over ≡ true
    → LoopsOrGoes shows 0 until s before.held after.held answer → EndsOrLetsGo false shows s until true before after
loops_ended shows s until (Some loop.Ended) before after over is ended loops = (until, refl, loops)
loops_ended shows s until None before after over is ended loops = let wrong : false ≡ true = sym is ∙ ended in cc
loops_ended shows s until (Some (loop.Cap now)) before after over is ended loops = let wrong : false ≡ true = sym is ∙ ended in cc
loops_ended shows s until (Some loop.Nudged) before after over is ended loops = let wrong : false ≡ true = sym is ∙ ended in cc
loops_ended shows s until (Some loop.NoMemory) before after over is ended loops = let wrong : false ≡ true = sym is ∙ ended in cc
