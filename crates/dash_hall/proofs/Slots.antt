-- Slots over a turn, and over turns one after the other.
use Rattle.std.proofs.Common.{◌≡◌, ℕ, zero, suc, ◌+◌, cond, List, [], ◌∷◌, Option, Some, None, refl, ap, ◌∙◌, subst, arith}
use Rattle.std.specs.Prelude.{is_some, not}
use Rattle.std.proofs.lemmas.List.Sums.{sum_by-insert, sum_by-cons}
use Rattle.std.proofs.lemmas.List.Filters.{sum_by-filter_both}
use Rattle.atomic_table.specs.Seated.{TableId}
use Rattle.loop_model.specs.declared.call.Call.{Call}
use Rattle.loop_model.specs.declared.reply.Reply.{Reply}
use Rattle.loop_model.specs.Entries.{ends_by}
use Rattle.message_pool.specs.Passes.{Claimed, Node, Tally}
use Rattle.message_pool.specs.Obtain.{IsReturned}
use Rattle.queue_state.specs.Calls.{with_message}
use Rattle.queue_state.specs.Ended.{ended, left}
use Rattle.handler_post.specs.Supply.{slots_in, Obtains, ObtainsInVain, BringsBack}
use Rattle.looper_run.specs.Holding.{Sender, State}
use Rattle.dash_hall.specs.Slots.{GivesBackAll, KeepsSlots, LosesNoSlot}

-- how many slots a message with this claim has
abbrev pub slots_by : Option Claimed → ℕ
slots_by claim = cond {A = ℕ} (is_some claim) 1 0

slots_put : (m : Node) (xs : List Node) → slots_in (with_message m xs) ≡ slots_in xs + slots_by m.claim
slots_put m xs = sum_by-insert (λ (n : Node). slots_by n.claim) xs _ m

slots_parted : (c : Call) (r : Reply) (xs : List Node) → slots_in (ended c r xs) + slots_in (left c r xs) ≡ slots_in xs
slots_parted c r xs = sum_by-filter_both (λ (m : Node). ends_by c r m.item) (λ (m : Node). not (ends_by c r m.item)) (λ m. refl) (λ (n : Node). slots_by n.claim) xs

-- what a message that was obtained counts, and what one that went back
obtained_counts : (home : TableId) (claim : Option Claimed) (a b : Tally) → Obtains home claim a b → (b.taken ≡ a.taken + slots_by claim) × (b.back ≡ a.back)
obtained_counts home None a b o = (let same : b.taken ≡ a.taken = o.3 in let all : b.taken ≡ a.taken + 0 = omega (arith, same) in all, o.2)
obtained_counts home (Some c) a b (at, near, taken) = (taken.2, taken.3)

returned_counts : (claim : Option Claimed) (a b : Tally) → IsReturned claim a b → (b.taken ≡ a.taken) × (b.back ≡ a.back + slots_by claim)
returned_counts None a b same =
    let back : b.back ≡ a.back = ap (λ (t : Tally). t.back) same in
    (ap (λ (t : Tally). t.taken) same, let all : b.back ≡ a.back + 0 = omega (arith, back) in all)
returned_counts (Some c) a b one = (ap (λ (t : Tally). t.taken) one, ap (λ (t : Tally). t.back) one)

-- nothing was obtained, or in vain
pub gives_back_none : (a : Tally) → GivesBackAll a a
gives_back_none a = refl

pub in_vain_gives_back : (home : TableId) (claim : Option Claimed) (a b : Tally) → ObtainsInVain home claim a b → GivesBackAll a b
in_vain_gives_back home None a b o =
    let taken : b.taken ≡ a.taken = o.3 in
    let back : b.back ≡ a.back = o.2 in
    let all : b.taken + a.back ≡ a.taken + b.back = omega (arith, taken, back) in
    all
in_vain_gives_back home (Some c) a b o =
    let taken : b.taken ≡ a.taken + 1 = o.5 in
    let back : b.back ≡ a.back + 1 = o.2 in
    let all : b.taken + a.back ≡ a.taken + b.back = omega (arith, taken, back) in
    all

pub returned_gives_back : (home : TableId) (claim : Option Claimed) (a b c : Tally) → Obtains home claim a b → IsReturned claim b c → GivesBackAll a c
returned_gives_back home claim a b c o r =
    let had = obtained_counts home claim a b o in
    let gave = returned_counts claim b c r in
    let n = slots_by claim in
    let taken : b.taken ≡ a.taken + n = had.0 in
    let back : b.back ≡ a.back = had.1 in
    let same : c.taken ≡ b.taken = gave.0 in
    let more : c.back ≡ b.back + n = gave.1 in
    let all : c.taken + a.back ≡ a.taken + c.back = omega (arith, taken, back, same, more) in
    all

-- the messages stayed as they were
pub same_messages : (x y : State) (a b : Tally) → y.messages ≡ x.messages → GivesBackAll a b → KeepsSlots x y a b
same_messages x y a b same given =
    let e : slots_in y.messages ≡ slots_in x.messages = ap slots_in same in
    let all : slots_in x.messages + b.taken + a.back ≡ slots_in y.messages + a.taken + b.back = omega (arith, e, given) in
    all

-- a message that was obtained lies among them
pub one_put : (home : TableId) (x y : State) (m : Node) (a b : Tally) → y.messages ≡ with_message m x.messages → Obtains home m.claim a b → KeepsSlots x y a b
one_put home x y m a b put o =
    let had = obtained_counts home m.claim a b o in
    let n = slots_by m.claim in
    let taken : b.taken ≡ a.taken + n = had.0 in
    let back : b.back ≡ a.back = had.1 in
    let more : slots_in y.messages ≡ slots_in x.messages + n = ap slots_in put ∙ slots_put m x.messages in
    let all : slots_in x.messages + b.taken + a.back ≡ slots_in y.messages + a.taken + b.back = omega (arith, taken, back, more) in
    all

-- those that an entry ended went back
pub some_gone : (c : Call) (r : Reply) (x y : State) (nodes : List Node) (a b : Tally) → nodes ≡ ended c r x.messages → y.messages ≡ left c r x.messages → BringsBack nodes a b → KeepsSlots x y a b
some_gone c r x y nodes a b gone rest brought =
    let gone_slots : slots_in nodes ≡ slots_in (ended c r x.messages) = ap slots_in gone in
    let left_slots : slots_in y.messages ≡ slots_in (left c r x.messages) = ap slots_in rest in
    let parted = slots_parted c r x.messages in
    let back : b.back ≡ a.back + slots_in nodes = brought.0 in
    let taken : b.taken ≡ a.taken = brought.3 in
    let all : slots_in x.messages + b.taken + a.back ≡ slots_in y.messages + a.taken + b.back = omega (arith, gone_slots, left_slots, parted, back, taken) in
    all

-- the one that an entry ended went back
pub one_gone : (c : Call) (r : Reply) (x y : State) (m : Node) (a b : Tally) → ended c r x.messages ≡ m ∷ [] → y.messages ≡ left c r x.messages → IsReturned m.claim a b → KeepsSlots x y a b
one_gone c r x y m a b gone rest back =
    let gave = returned_counts m.claim a b back in
    let n = slots_by m.claim in
    let one : slots_in (m ∷ []) ≡ n + 0 = sum_by-cons (λ (k : Node). slots_by k.claim) m [] in
    let gone_slots : slots_in (ended c r x.messages) ≡ slots_in (m ∷ []) = ap slots_in gone in
    let left_slots : slots_in y.messages ≡ slots_in (left c r x.messages) = ap slots_in rest in
    let parted = slots_parted c r x.messages in
    let same : b.taken ≡ a.taken = gave.0 in
    let more : b.back ≡ a.back + n = gave.1 in
    let all : slots_in x.messages + b.taken + a.back ≡ slots_in y.messages + a.taken + b.back = omega (arith, one, gone_slots, left_slots, parted, same, more) in
    all

-- beside the turns the pass gave back what it took
earlier : (n : ℕ) (p q : Sender) (a b c : Tally) → GivesBackAll a b → LosesNoSlot n p q b c → LosesNoSlot n p q a c
earlier zero p q a b c given (same, after) = (same, let all : c.taken + a.back ≡ a.taken + c.back = omega (arith, given, after) in all)
earlier (suc n) p q a b c given (next, kept, x, y, turn, keeps, rest) =
    (next, kept, x, y, turn, (let all : slots_in x.messages + kept.taken + a.back ≡ slots_in y.messages + a.taken + kept.back = omega (arith, given, keeps) in all), rest)

pub slots_then : (m n : ℕ) (p q r : Sender) (a b c : Tally) → LosesNoSlot m p q a b → LosesNoSlot n q r b c → (k : ℕ) × LosesNoSlot k p r a c
slots_then zero n p q r a b c (same, given) rest = (n, earlier n p r a b c given (subst (λ (z : Sender). LosesNoSlot n z r b c) same rest))
slots_then (suc m) n p q r a b c (next, kept, x, y, turn, keeps, more) rest =
    let all = slots_then m n next q r kept b c more rest in
    (suc all.0, (next, kept, x, y, turn, keeps, all.1))
