-- A history that is gone through from its last entry to its first.
use Rattle.std.proofs.Common.{◌≡◌, ◌+◌, ◌-◌, ◌<◌, ◌≤◌, ℕ, Bool, true, false, List, [], ◌∷◌, ◌++◌, length, Option, Some, None, refl, sym, ap, ◌∙◌, subst, arith, take, drop, slice_index_or, length-append, append_assoc}
use Rattle.std.specs.Prelude.{◌&&◌, ◌||◌, nat_lt, not, find, slice_get, filter, map, reverse, if◌then◌else◌}
use Rattle.std.specs.Option.{option_to_list}
use Rattle.std.proofs.Math.Seq.{drop-append-add}
use Rattle.std.proofs.lemmas.List.{map-append, reverse-append, drop_more, take-append-drop, length-take-le}
use Rattle.std.proofs.lemmas.List.Sums.{sum_by-drop_more, sum_by-take-drop}
use Rattle.std.proofs.lemmas.List.Elements.{filter-append}
use Rattle.loop_model.specs.declared.post.Post.{Post as PostData}
use Rattle.loop_model.specs.declared.call.Call.{Call}
use Rattle.loop_model.specs.declared.call.Call.TheVariants.{Post, Barrier, Unbarrier, Remove, Quit, Next, Advance, Halt}
use Rattle.loop_model.specs.declared.reply.Reply.{Reply}
use Rattle.loop_model.specs.declared.reply.Reply.TheVariants.{Accepted, Refused, Token, Unbarriered, NotPosted, Removed, QuitDone, AlreadyQuit, NotAllowed, Dispatched, Disposed, Advanced, Halted}
use Rattle.loop_model.specs.declared.entry.Entry.{Entry}
use Rattle.loop_model.specs.declared.fate.Fate.{Fate}
use Rattle.loop_model.specs.declared.item.Item.TheVariants.{Post as Message}
use Rattle.loop_model.specs.Entries.{is_accepted, is_disposed, is_unbarriered, is_quit_done, posts_in, barriers_in, dispatches_item, made_by, ends_by, ends}
use Rattle.loop_model.specs.Live.{placed, made_items}
use Rattle.loop_model.specs.Fates.{fate_of, fate_in, fates}
use Rattle.loop_model.specs.Posts.{accepted_by}
use Rattle.loop_model.proofs.FateLaws.{is_message, posted_message, made_message}
use Rattle.fate_ledger.specs.declared.ending.Ending.TheVariants.{Everything, SafeQuit, Nothing}
use Rattle.fate_ledger.specs.Endings.{ending_of, ending_of_look}
use Rattle.fate_ledger.specs.Behind.{ends_post, first_at}
use Rattle.fate_ledger.specs.Ledgers.{posts_of, endings_of, posted_fate, fates_from}
use Rattle.fate_ledger.proofs.Firsts.{first_found}

-- an entry ends a post just where what it ends takes the post
ended_by_look : (n : ℕ) (p : PostData) (r : Reply) → (is_disposed r || dispatches_item r (Message n p)) ≡ ends_post n p (ending_of_look r)
ended_by_look n p (Accepted m) = refl
ended_by_look n p (Refused m) = refl
ended_by_look n p (Token m) = refl
ended_by_look n p Unbarriered = refl
ended_by_look n p NotPosted = refl
ended_by_look n p (Removed m) = refl
ended_by_look n p QuitDone = refl
ended_by_look n p (AlreadyQuit m) = refl
ended_by_look n p NotAllowed = refl
ended_by_look n p (Dispatched m) = refl
ended_by_look n p Disposed = refl
ended_by_look n p Advanced = refl
ended_by_look n p Halted = refl

ended_by : (n : ℕ) (p : PostData) (c : Call) (r : Reply) → ends_by c r (Message n p) ≡ ends_post n p (ending_of c r)
ended_by n p (Post q) r = refl
ended_by n p (Barrier now) r = refl
ended_by n p (Unbarrier t) r = never (is_unbarriered r)
  where
    never : (u : Bool) → (u && false) ≡ false
    never u = grind arith
ended_by n p (Remove f) r = refl
ended_by n p (Quit safe now) r = go (is_quit_done r) safe
  where
    go : (d s : Bool) → (d && (not s || nat_lt now p.when)) ≡ ends_post n p (if d then (if s then SafeQuit now else Everything) else Nothing)
    go true true = refl
    go true false = refl
    go false true = refl
    go false false = refl
ended_by n p (Next now) r = ended_by_look n p r
ended_by n p (Advance now) r = refl
ended_by n p (Halt now) r = refl

-- the entry at the place of the first ending is the first that ends the post
pub found_behind : (n : ℕ) (p : PostData) (front es : List Entry) → slice_get (front ++ es) (first_at (ends_post n p) (length front) (endings_of es)) ≡ find (λ e. ends e (Message n p)) es
found_behind n p front es = first_found (ends_post n p) (λ (e : Entry). ending_of e.call e.reply) (λ e. ends e (Message n p)) (λ e. ended_by n p e.call e.reply) front es

-- its fate is that by the entries behind it
message_fate : (whole es : List Entry) (o : Option PostData) (n k : ℕ) → drop (k + 1) whole ≡ es → map (fate_in whole) (posted_message o n k) ≡ posted_fate n o es
message_fate whole es None n k h = refl
message_fate whole es (Some p) n k h = rw h refl

fates_of_rest : (front es : List Entry) (n t : ℕ) → map (fate_in (front ++ es)) (filter is_message (made_items n t (length front) es)) ≡ fates_from n es
fates_of_rest front [] n t = refl
fates_of_rest front (e ∷ es) n t =
    let whole = front ++ e ∷ es in
    let n' = n + posts_in e.call e.reply in
    let t' = t + barriers_in e.call in
    let k = length front in
    let made = placed k (made_by n t e.call e.reply) in
    let later = made_items n' t' (k + 1) es in
    let behind : drop (k + 1) whole ≡ es = drop-append-add front (e ∷ es) 1 in
    let first : map (fate_in whole) (filter is_message made) ≡ posted_fate n (accepted_by e.call e.reply) es = ap (map (fate_in whole)) (made_message n t k e.call e.reply).0 ∙ message_fate whole es (accepted_by e.call e.reply) n k behind in
    let place : length (front ++ e ∷ []) ≡ k + 1 = length-append front (e ∷ []) in
    let rest : map (fate_in whole) (filter is_message later) ≡ fates_from n' es = subst (λ j. map (fate_in whole) (filter is_message (made_items n' t' j es)) ≡ fates_from n' es) place (subst (λ l. map (fate_in l) (filter is_message (made_items n' t' (length (front ++ e ∷ [])) es)) ≡ fates_from n' es) (append_assoc front (e ∷ []) es) (fates_of_rest (front ++ e ∷ []) es n' t')) in
    ap (map (fate_in whole)) (filter-append is_message made later) ∙ (map-append (fate_in whole) (filter is_message made) (filter is_message later) ∙ (ap (λ l. l ++ map (fate_in whole) (filter is_message later)) first ∙ ap (λ l. posted_fate n (accepted_by e.call e.reply) es ++ l) rest))

-- the fates of a history are those that the ledger goes through
pub fates_by_rest : (es : List Entry) → fates es ≡ fates_from 0 es
unfolding fates
fates_by_rest es = fates_of_rest [] es 0 0

-- how many messages an entry posts
posts_by : (c : Call) (r : Reply) → posts_in c r ≡ length (option_to_list (accepted_by c r))
posts_by (Post p) r = go (is_accepted r)
  where
    go : (b : Bool) → (if b then 1 else 0) ≡ length (option_to_list (if b then Some p else None))
    go true = refl
    go false = refl
posts_by (Barrier now) r = refl
posts_by (Unbarrier t) r = refl
posts_by (Remove f) r = refl
posts_by (Quit safe now) r = refl
posts_by (Next now) r = refl
posts_by (Advance now) r = refl
posts_by (Halt now) r = refl

-- the entry at a place, at any default
abbrev entry_at : List Entry → ℕ → Entry → Entry
entry_at es k d = slice_index_or es k d

abbrev posted_at : List Entry → ℕ → Entry → Option PostData
posted_at es k d = accepted_by (entry_at es k d).call (entry_at es k d).reply

count_at : (es : List Entry) (k : ℕ) (d : Entry) (o : Option PostData) → posted_at es k d ≡ o → posts_in (entry_at es k d).call (entry_at es k d).reply ≡ length (option_to_list o)
count_at es k d o posted = posts_by (entry_at es k d).call (entry_at es k d).reply ∙ ap (λ x. length (option_to_list x)) posted

posts_at : (es : List Entry) (k : ℕ) (d : Entry) (o : Option PostData) → k < length es → posted_at es k d ≡ o → posts_of (drop k es) ≡ length (option_to_list o) + posts_of (drop (k + 1) es)
posts_at es k d o lt posted =
    let more = sum_by-drop_more (λ e. posts_in e.call e.reply) es k d lt in
    let here = count_at es k d o posted in
    omega (arith, more, here)

-- a message that is posted is one of those that are left
pub posts_left : (es : List Entry) (k : ℕ) (d : Entry) (p : PostData) (n : ℕ) → k < length es → posted_at es k d ≡ Some p → n + posts_of (drop (k + 1) es) ≡ posts_of es → 1 ≤ n
posts_left es k d p n lt posted number =
    let at = posts_at es k d (Some p) lt posted in
    let parts = sum_by-take-drop (λ e. posts_in e.call e.reply) es k in
    omega (arith, at, parts, number)

pub post_counted : (es : List Entry) (k : ℕ) (d : Entry) (p : PostData) (n : ℕ) → k < length es → posted_at es k d ≡ Some p → n + posts_of (drop (k + 1) es) ≡ posts_of es → n - 1 + posts_of (drop k es) ≡ posts_of es
post_counted es k d p n lt posted number =
    let at = posts_at es k d (Some p) lt posted in
    let some = posts_left es k d p n lt posted number in
    omega (arith, at, some, number)

-- the endings from a place on
pub endings_at : (es : List Entry) (k : ℕ) (d : Entry) → k < length es → ending_of (entry_at es k d).call (entry_at es k d).reply ∷ endings_of (drop (k + 1) es) ≡ endings_of (drop k es)
endings_at es k d lt = ap endings_of (sym (drop_more es k d lt))

-- the fates from a place on
fates_at : (es : List Entry) (k : ℕ) (d : Entry) (o : Option PostData) (n m : ℕ) → k < length es → posted_at es k d ≡ o → n + length (option_to_list o) ≡ m → fates_from n (drop k es) ≡ posted_fate n o (drop (k + 1) es) ++ fates_from m (drop (k + 1) es)
fates_at es k d o n m lt posted next =
    let es' = drop (k + 1) es in
    let e = entry_at es k d in
    let count : n + posts_in e.call e.reply ≡ m = (let here = count_at es k d o posted in omega (arith, here, next)) in
    ap (fates_from n) (drop_more es k d lt) ∙ (ap (λ x. posted_fate n x es' ++ fates_from (n + posts_in e.call e.reply) es') posted ∙ ap (λ j. posted_fate n o es' ++ fates_from j es') count)

pub none_passed : (es : List Entry) (k : ℕ) (d : Entry) (n : ℕ) → k < length es → posted_at es k d ≡ None → fates_from n (drop (k + 1) es) ≡ fates_from n (drop k es)
none_passed es k d n lt none = sym (fates_at es k d None n n lt none (omega arith))

pub post_passed : (es : List Entry) (k : ℕ) (d : Entry) (p : PostData) (n : ℕ) (fs : List Fate) (end : ℕ) → k < length es → posted_at es k d ≡ Some p → 1 ≤ n → reverse fs ≡ fates_from n (drop (k + 1) es)
    → end ≡ first_at (ends_post (n - 1) p) (k + 1) (endings_of (drop (k + 1) es)) → reverse (fs ++ fate_of (slice_get es end) ∷ []) ≡ fates_from (n - 1) (drop k es)
post_passed es k d p n fs end lt posted some was at =
    let es' = drop (k + 1) es in
    let test = λ (x : Entry). ends x (Message (n - 1) p) in
    let front : length (take (k + 1) es) ≡ k + 1 = length-take-le (k + 1) es (omega (arith, lt)) in
    let found : slice_get es end ≡ find test es' = subst (λ l. slice_get l end ≡ find test es') (take-append-drop (k + 1) es) (ap (slice_get (take (k + 1) es ++ es')) (at ∙ ap (λ j. first_at (ends_post (n - 1) p) j (endings_of es')) (sym front)) ∙ found_behind (n - 1) p (take (k + 1) es) es') in
    let goal = fates_at es k d (Some p) (n - 1) n lt posted (omega (arith, some)) in
    reverse-append fs (fate_of (slice_get es end) ∷ []) ∙ (ap (λ l. fate_of (slice_get es end) ∷ l) was ∙ (ap (λ o. fate_of o ∷ fates_from n es') found ∙ sym goal))

-- at the first entry the ledger has the fates of the whole history
pub all_passed : (es : List Entry) (k n : ℕ) (fs : List Fate) → k ≡ 0 → n + posts_of (drop k es) ≡ posts_of es → reverse fs ≡ fates_from n (drop k es) → reverse fs ≡ fates es
all_passed es k n fs first number passed =
    let all : posts_of (drop k es) ≡ posts_of es = ap (λ j. posts_of (drop j es)) first in
    let zero : n ≡ 0 = omega (arith, number, all) in
    passed ∙ (ap (λ j. fates_from n (drop j es)) first ∙ (ap (λ j. fates_from j es) zero ∙ sym (fates_by_rest es)))
