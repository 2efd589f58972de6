use Rattle.std.proofs.Common.{ap, refl, sym, ◌∙◌, ◌++◌}
use Rattle.value_animator.proofs.Going.{run_is}
use Rattle.value_animator.proofs.run.run.Goals as goal

pub returns : goal.returns
returns c =
    run_is c.args.values.now _ _ c.into_bytes.result.items c.in_ok-frames.frames c.into_kept.result c.in_ok-frames.ensures
    (c.in_ok-writeln.ensures.bytes ∙ rw c.new-out.ensures.bytes refl)
    (ap (λ v. v.items) c.into_bytes.ensures.value ∙ c.in_ok-writeln-2.ensures.bytes)
    c.into_kept.ensures.looper c.into_kept.ensures.interval c.into_kept.ensures.phases (sym (c.into_kept.ensures.entries ∙ ap (λ l. l ++ c.into_kept.result.entries) c.in_ok-frames.ensures.sealed))
