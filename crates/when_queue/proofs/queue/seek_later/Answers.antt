use Rattle.std.proofs.Common.{◌≡◌, ℕ, suc, ◌-◌, ◌≤◌, ◌<◌, List, [], true, false, length, take, drop, slice_get, Some, sym, ap, subst, ◌∙◌, arith}
use Rattle.std.specs.List.{AllByRecursion}
use Rattle.std.proofs.lemmas.Bool.{lt-ltb}
use Rattle.loop_model.specs.Items.{when_of}
use Rattle.message_slot.specs.Letter.{Letter}
use Rattle.when_queue.specs.Queue.{IsRising, is_later, those, others}
use Rattle.when_queue.proofs.Lists.{cut_at, one_later, low_front}
use Rattle.when_queue.proofs.queue.seek_later.Goals as goal

cut : {K : Type 0} (now : ℕ) (old xs seen : List (Letter K)) (count : ℕ) (m : Letter K) → xs ≡ old → IsRising old → seen ≡ xs → slice_get seen (count - 1) ≡ Some m → 0 < count → when_of m.item ≤ now → AllByRecursion (λ y. is_later now y ≡ true) (drop count xs)
    → (take count old ≡ others (is_later now) old) × (drop count old ≡ those (is_later now) old)
cut {K} now old xs seen count m same rising at got some low all =
    let is : slice_get xs (count - 1) ≡ Some m = subst (λ (l : List (Letter K)). slice_get l (count - 1) ≡ Some m) at got in
    let whole : suc (count - 1) ≡ count = omega arith in
    let front = low_front now xs (count - 1) m (subst IsRising (sym same) rising) is low in
    subst (λ (l : List (Letter K)). (take count l ≡ others (is_later now) l) × (drop count l ≡ those (is_later now) l)) same
    (cut_at (is_later now) xs count (subst (λ (n : ℕ). AllByRecursion (λ y. is_later now y ≡ false) (take n xs)) whole front) all)

none : {K : Type 0} (now : ℕ) (old xs : List (Letter K)) (count : ℕ) → xs ≡ old → count ≤ 0 → AllByRecursion (λ y. is_later now y ≡ true) (drop count xs) → ([] ≡ others (is_later now) old) × (old ≡ those (is_later now) old)
none {K} now old xs count same le all =
    let zero_is : count ≡ 0 = omega arith in
    subst (λ (l : List (Letter K)). ([] ≡ others (is_later now) l) × (l ≡ those (is_later now) l)) same
    (cut_at (is_later now) xs 0 tt (subst (λ (n : ℕ). AllByRecursion (λ y. is_later now y ≡ true) (drop n xs)) zero_is all))

pub returns-then-when-now-clause-kept : goal.returns-then-when-now-clause-kept
returns-then-when-now-clause-kept g c = let le = c.if-when-now.true in (cut c.args.now c.args.list.now c.loop-count.list c.seek.new.self c.loop-count.count c.get.result.now c.loop-count.invariant.0 c.requires c.seek.ensures c.get.ensures c.loop-count-test.true (omega arith) c.loop-count.invariant.2).0

pub returns-then-when-now-clause-later : goal.returns-then-when-now-clause-later
returns-then-when-now-clause-later g c = let le = c.if-when-now.true in (cut c.args.now c.args.list.now c.loop-count.list c.seek.new.self c.loop-count.count c.get.result.now c.loop-count.invariant.0 c.requires c.seek.ensures c.get.ensures c.loop-count-test.true (omega arith) c.loop-count.invariant.2).1

pub loop-count-preserved : goal.loop-count-preserved
loop-count-preserved g c =
    let L : Type 0 = List (Letter g.row.K.Denot) in
    let some = c.loop-count-test.true in let late = c.if-when-now.false in let most = c.loop-count.invariant.1 in let long = ap length c.seek.ensures in
    let is : slice_get c.loop-count.list (c.loop-count.count - 1) ≡ Some c.get.result.now = subst (λ (l : L). slice_get l (c.loop-count.count - 1) ≡ Some c.get.result.now) c.seek.ensures c.get.ensures in
    let later : is_later c.args.now c.get.result.now ≡ true = lt-ltb _ _ (omega arith) in
    let more = one_later (λ y. is_later c.args.now y ≡ true) c.loop-count.list c.loop-count.count (c.loop-count.count - 1) c.get.result.now is later (omega arith) c.loop-count.invariant.2 in
    (c.seek.ensures ∙ c.loop-count.invariant.0, omega arith, subst (λ (l : L). AllByRecursion (λ y. is_later c.args.now y ≡ true) (drop (c.loop-count.count - 1) l)) (sym c.seek.ensures) more)

pub returns-clause-kept : goal.returns-clause-kept
returns-clause-kept g c = (none c.args.now c.args.list.now c.loop-count.list c.loop-count.count c.loop-count.invariant.0 c.loop-count-test.false c.loop-count.invariant.2).0

pub returns-clause-later : goal.returns-clause-later
returns-clause-later g c = (none c.args.now c.args.list.now c.loop-count.list c.loop-count.count c.loop-count.invariant.0 c.loop-count-test.false c.loop-count.invariant.2).1
