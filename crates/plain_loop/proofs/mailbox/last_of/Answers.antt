use Rattle.std.proofs.Common.{◌≡◌, ◌+◌, ◌∙◌, ap, sym}
use Rattle.shared_queue.specs.Known.{IsOf}
use Rattle.shared_queue.specs.Ends.{IsNewPoster}
use Rattle.plain_loop.proofs.Popped.{popped}
use Rattle.plain_loop.proofs.mailbox.last_of.Goals as goal

pub returns-clause-poster : goal.returns-clause-poster
returns-clause-poster g c = (popped (λ k p. IsOf p c.args.queue.now × (p.sender ≡ k)) _ _ _ _ c.pop.ensures.items c.unwrap.ensures c.requires.0.0).0.0

pub returns-clause-unused : goal.returns-clause-unused
returns-clause-unused g c = (popped (λ k p. IsNewPoster p) _ _ _ _ c.pop.ensures.items c.unwrap.ensures c.requires.0.1).0

pub returns-clause-rest : goal.returns-clause-rest
returns-clause-rest g c = (
  (popped (λ k p. IsOf p c.args.queue.now × (p.sender ≡ k)) _ _ _ _ c.pop.ensures.items c.unwrap.ensures c.requires.0.0).1,
  (popped (λ k p. IsNewPoster p) _ _ _ _ c.pop.ensures.items c.unwrap.ensures c.requires.0.1).1,
)

pub returns-clause-count : goal.returns-clause-count
returns-clause-count g c = (popped (λ k p. IsOf p c.args.queue.now × (p.sender ≡ k)) _ _ _ _ c.pop.ensures.items c.unwrap.ensures c.requires.0.0).2

pub returns-clause-sender : goal.returns-clause-sender
returns-clause-sender g c =
    let last = popped (λ k p. IsOf p c.args.queue.now × (p.sender ≡ k)) _ _ _ _ c.pop.ensures.items c.unwrap.ensures c.requires.0.0 in
    ap (λ n. n + 1) last.0.1 ∙ sym last.2
