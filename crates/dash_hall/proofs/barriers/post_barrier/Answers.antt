use Rattle.std.proofs.Common.{rules, refl, sym, ◌∙◌, subst, arith, None, inl}
use Rattle.message_pool.specs.Passes.{Node}
use Rattle.handler_post.specs.Supply.{Obtains}
use Rattle.handler_post.proofs.Supplies.{none_was_free, of_pooled, of_fresh}
use Rattle.dash_hall.proofs.Slots.{in_vain_gives_back}
use Rattle.dash_hall.proofs.Growing.{Keeps, one_turn, stays}
use Rattle.dash_hall.proofs.Calling.{posts_barrier, posts_no_barrier, bars_still, answers_back, returned_back}
use Rattle.dash_hall.proofs.barriers.post_barrier.Goals as goal
use Rattle.dash_hall.proofs.barriers.post_barrier.Goals.{in-Pooled, in-Fresh}

pub returns-in-Token-clause-called : goal.returns-in-Token-clause-called
returns-in-Token-clause-called g c =
    let w = c.args.way.now in
    let kept : Keeps w.pass.now c.obtain.new.pass = record { home = c.obtain.ensures.home ∙ sym c.requires.pass; back = answers_back w.pool.now w.pass.now c.obtain.new.pass _ c.obtain.ensures.answer } in
    let Has : Node → Type 0 = λ x. Obtains w.pool.now x.claim w.pass.now c.obtain.new.pass in
    let has : Has c.match-obtain.node = elim c.match-obtain.branch [
      | in-Pooled b ↦ subst Has (sym b.node-is) (of_pooled _ _ w.pass.now c.obtain.new.pass b.in-Pooled.ensures.answer)
      | in-Fresh b ↦ subst Has (sym b.node-is) (of_fresh _ _ w.pass.now c.obtain.new.pass _ _ b.in-Fresh.ensures.answer)
    ] in
    let done = posts_barrier w.pool.now c.args.now c.match-obtain.node _ _ _ _ _ kept has c.in-Token.ensures in
    record { ready = search rules; same = search rules; by = record { on = done.0; once = one_turn _ _ _ _ c.in-Token.ensures.2; made = done.1; none = tt; still = tt } }

pub returns-in-NoMemory-post_barrier-clause-called : goal.returns-in-NoMemory-post_barrier-clause-called
returns-in-NoMemory-post_barrier-clause-called g c =
    let w = c.args.way.now in
    let least = answers_back w.pool.now w.pass.now c.obtain.new.pass _ c.obtain.ensures.answer in
    let more = returned_back c.in-NoMemory-post_barrier.node.claim c.obtain.new.pass c.recycle.new.pass c.recycle.ensures.back in
    let kept : Keeps w.pass.now c.recycle.new.pass = record { home = c.recycle.ensures.home ∙ sym c.requires.pass; back = omega (arith, least, more) } in
    let Has : Node → Type 0 = λ x. Obtains w.pool.now x.claim w.pass.now c.obtain.new.pass in
    let has : Has c.match-obtain.node = elim c.match-obtain.branch [
      | in-Pooled b ↦ subst Has (sym b.node-is) (of_pooled _ _ w.pass.now c.obtain.new.pass b.in-Pooled.ensures.answer)
      | in-Fresh b ↦ subst Has (sym b.node-is) (of_fresh _ _ w.pass.now c.obtain.new.pass _ _ b.in-Fresh.ensures.answer)
    ] in
    let done = posts_no_barrier w.pool.now c.args.now c.match-obtain.node c.in-NoMemory-post_barrier.node _ _ _ _ _ kept has c.recycle.ensures.back c.in-NoMemory-post_barrier.ensures in
    record {
      ready = search rules;
      same = search rules;
      by = record {
        on = done.0;
        once = one_turn _ _ _ _ c.in-NoMemory-post_barrier.ensures.2;
        made = tt;
        none = done.1;
        still = bars_still c.args.now c.match-obtain.node c.in-NoMemory-post_barrier.node _ _ c.in-NoMemory-post_barrier.ensures;
      };
    }

pub returns-in-NoMemory-clause-called : goal.returns-in-NoMemory-clause-called
returns-in-NoMemory-clause-called g c =
    let w = c.args.way.now in
    let free = c.in-NoMemory.ensures.answer in
    let kept : Keeps w.pass.now c.obtain.new.pass = record { home = c.obtain.ensures.home ∙ sym c.requires.pass; back = answers_back w.pool.now w.pass.now c.obtain.new.pass _ c.obtain.ensures.answer } in
    let on = stays w.poster.now w.pass.now c.obtain.new.pass kept (in_vain_gives_back w.pool.now None w.pass.now c.obtain.new.pass (none_was_free w.pass.now c.obtain.new.pass free.0 free.1 free.2)) in
    record { ready = search rules; same = search rules; by = record { on = on; once = search rules; made = tt; none = refl; still = inl refl } }
