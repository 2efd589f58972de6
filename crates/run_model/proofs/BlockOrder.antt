-- The threads' calls on a queue come in the order of their blocks.
use Rattle.std.proofs.Common.{◌≡◌, ℕ, ◌<◌, ◌≤◌, ◌+◌, zero, suc, Bool, true, false, List, [], ◌∷◌, ◌++◌, Some, map, length, refl, sym, ap, ◌∙◌, subst, arith, append_assoc}
use Rattle.std.specs.Prelude.{◌==◌, not, nat_lt, filter, count_by, slice_get, if◌then◌else◌, IsTrue}
use Rattle.std.specs.List.{AllByRecursion, list_all, range_with_len}
use Rattle.std.specs.Option.{option_map_or}
use Rattle.std.proofs.lemmas.Bool.{and_parts, and_from, or_left, or_right, false_from_ne_true, eq-eqb, le-leb, ltb-true}
use Rattle.std.proofs.lemmas.List.{length-append, length-map, map-append}
use Rattle.std.proofs.lemmas.List.Elements.{filter-append}
use Rattle.std.proofs.lemmas.List.FromFn.{length-range_with_len, get_or-range_with_len}
use Rattle.std.proofs.lemmas.List.Sums.{length-filter, count_by-le-length, list_all-from_AllPass}
use Rattle.std.proofs.lemmas.Grind.{flat_map-append}
use Rattle.loop_model.specs.declared.entry.Entry.{Entry}
use Rattle.loop_model.proofs.Sorting.{AllByRecursion-filter, AllByRecursion-append}
use Rattle.dash_script.specs.declared.script.Block.{Block}
use Rattle.dash_script.specs.declared.script.Line.{Line}
use Rattle.dash_script.specs.declared.script.Script.{Script}
use Rattle.dash_script.specs.Reading.{times_rise}
use Rattle.run_model.specs.Planned.{entries_by, TimedCommand, lines_of, labels_on, lines_on, times_on}
use Rattle.run_model.specs.Parts.{lines_in, comes_in_order}
use Rattle.run_model.specs.Control.{each_behind}
use Rattle.run_model.specs.Run.{has_called_before, are_in_order}
use Rattle.run_model.proofs.ControlLaws.{each_behind-append}
use Rattle.run_model.proofs.RunLaws.{entries_by-append, lines_on-append}

-- ---- lists of times

-- none of these times is before one that each of them has come to
none_earlier : (time : ℕ) (ts : List ℕ) → AllByRecursion (λ t. time ≤ t) ts → filter (λ t. nat_lt t time) ts ≡ []
none_earlier time [] h = refl
none_earlier time (t ∷ ts) h =
    let late : nat_lt t time ≡ false = false_from_ne_true (nat_lt t time) (λ lt. let less = ltb-true t time lt in let from = h.0 in absurd (omega (arith, less, from))) in
    ap (λ (b : Bool). if b then t ∷ filter (λ t. nat_lt t time) ts else filter (λ t. nat_lt t time) ts) late ∙ none_earlier time ts h.1

-- so those before it are among the first ones
earlier_are_first : (time : ℕ) (ts us : List ℕ) → AllByRecursion (λ t. time ≤ t) us → count_by (λ t. nat_lt t time) (ts ++ us) ≤ length ts
earlier_are_first time ts us late =
    let p : ℕ → Bool = λ t. nat_lt t time in
    let whole : count_by p (ts ++ us) ≡ length (filter p ts ++ filter p us) = sym (length-filter p (ts ++ us)) ∙ ap length (filter-append p ts us) in
    let none : length (filter p us) ≡ 0 = ap length (none_earlier time us late) in
    let first : length (filter p ts) ≡ count_by p ts = length-filter p ts in
    let long = length-append (filter p ts) (filter p us) in
    let least = count_by-le-length p ts in
    omega (arith, whole, none, first, long, least)

-- a member behind the first list and within the second is the second's
in_the_middle : (time : ℕ) (xs ys zs : List ℕ) (i : ℕ) → length xs ≤ i → i < length xs + length ys → AllByRecursion (λ t. t ≡ time) ys → slice_get (xs ++ (ys ++ zs)) i ≡ Some time
in_the_middle time [] [] zs i from to same = absurd (omega (arith, to))
in_the_middle time [] (y ∷ ys) zs zero from to same = ap Some same.0
in_the_middle time [] (y ∷ ys) zs (suc i) from to same = in_the_middle time [] ys zs i (omega arith) (omega (arith, to)) same.1
in_the_middle time (x ∷ xs) ys zs zero from to same = absurd (omega (arith, from))
in_the_middle time (x ∷ xs) ys zs (suc i) from to same = in_the_middle time xs ys zs i (omega (arith, from)) (omega (arith, to)) same

-- what holds of all members holds of the members of a mapped list
all_mapped : {X Y : Type 0} (P : Y → Type 0) (f : X → Y) (xs : List X) → AllByRecursion (λ x. P (f x)) xs → AllByRecursion P (map f xs)
all_mapped P f [] h = tt
all_mapped P f (x ∷ xs) h = (h.0, all_mapped P f xs h.1)

-- ---- entries

-- a sender's entries in a longer history are those before and those behind
entries_more : (k : ℕ) (es more : List Entry) → length (entries_by k (es ++ more)) ≡ length (entries_by k es) + length (entries_by k more)
entries_more k es more = ap length (entries_by-append k es more) ∙ length-append (entries_by k es) (entries_by k more)

-- an entry is one more of its sender's
one_more : (e : Entry) (es more : List Entry) → length (entries_by e.sender es) < length (entries_by e.sender (es ++ e ∷ more))
one_more e es more =
    let own : entries_by e.sender (e ∷ more) ≡ e ∷ entries_by e.sender more =
    ap (λ (b : Bool). if b then e ∷ entries_by e.sender more else entries_by e.sender more) (eq-eqb e.sender e.sender refl) in
    let grown = entries_more e.sender es (e ∷ more) in
    let long : length (entries_by e.sender (e ∷ more)) ≡ suc (length (entries_by e.sender more)) = ap length own in
    omega (arith, grown, long)

-- ---- blocks

-- where times rise, the blocks behind one come later than it
rising_behind : (past rest : List Block) (b : Block) → IsTrue (times_rise (past ++ b ∷ rest)) → IsTrue (list_all (λ later. nat_lt b.time later.time) rest)
rising_behind [] rest b h = (and_parts _ _ h).0
rising_behind (a ∷ past) rest b h = rising_behind past rest b (and_parts _ _ h).1

-- blocks that come later are not earlier
not_earlier : (time : ℕ) (bs : List Block) → list_all (λ (later : Block). nat_lt time later.time) bs ≡ true → AllByRecursion (λ (b : Block). time ≤ b.time) bs
not_earlier time [] h = tt
not_earlier time (b ∷ bs) h =
    let parts = and_parts (nat_lt time b.time) (list_all (λ (later : Block). nat_lt time later.time) bs) h in
    let less = ltb-true time b.time parts.0 in
    (omega (arith, less), not_earlier time bs parts.1)

-- what holds of a block's time holds of the times of its lines
all_at : (P : ℕ → Type 0) (time : ℕ) (ls : List Line) → P time → AllByRecursion (λ (t : TimedCommand). P t.time) (map (λ (l : Line). record { time = time; command = l.command }) ls)
all_at P time [] h = tt
all_at P time (l ∷ ls) h = (h, all_at P time ls h)

-- what holds of the blocks' times holds of their lines' times
lines_hold : (P : ℕ → Type 0) (k : ℕ) (bs : List Block) → AllByRecursion (λ (b : Block). P b.time) bs → AllByRecursion (λ (t : TimedCommand). P t.time) (lines_of k bs)
lines_hold P k [] h = tt
lines_hold P k (b ∷ bs) h =
    AllByRecursion-append (λ (t : TimedCommand). P t.time) (lines_in k b) (lines_of k bs) (all_at P b.time (filter (λ l. l.thread == k) b.lines) h.0) (lines_hold P k bs h.1)

-- the times of the calls on a queue that a thread's lines of these blocks make
abbrev pub times_in : Script → ℕ → ℕ → List Block → List ℕ
times_in s q k bs = map (λ l. l.time) (lines_on s (labels_on q (lines_of k s.blocks)) q (lines_of k bs))

-- how many they are
abbrev pub called_in : Script → ℕ → ℕ → List Block → ℕ
called_in s q k bs = length (lines_on s (labels_on q (lines_of k s.blocks)) q (lines_of k bs))

module _ (s : Script) (q : ℕ) where
  -- there is a time for each
  times_count : (k : ℕ) (bs : List Block) → length (times_in s q k bs) ≡ called_in s q k bs
  times_count k bs = length-map (lines_on s (labels_on q (lines_of k s.blocks)) q (lines_of k bs)) (λ (l : TimedCommand). l.time)

  -- what holds of the blocks' times holds of the times of the calls
  times_hold : (P : ℕ → Type 0) (k : ℕ) (bs : List Block) → AllByRecursion (λ (b : Block). P b.time) bs → AllByRecursion P (times_in s q k bs)
  times_hold P k bs h =
      all_mapped P (λ (l : TimedCommand). l.time) (lines_on s (labels_on q (lines_of k s.blocks)) q (lines_of k bs)) (AllByRecursion-filter (λ (t : TimedCommand). P t.time) _ (lines_of k bs) (lines_hold P k bs h))

  -- the calls of more blocks come behind
  times_append : (k : ℕ) (bs cs : List Block) → times_in s q k (bs ++ cs) ≡ times_in s q k bs ++ times_in s q k cs
  times_append k bs cs =
      let labels = labels_on q (lines_of k s.blocks) in
      ap (λ ls. map (λ (l : TimedCommand). l.time) (lines_on s labels q ls)) (flat_map-append (lines_in k) bs cs)
      ∙ ap (map (λ (l : TimedCommand). l.time)) (lines_on-append s labels q (lines_of k bs) (lines_of k cs))
      ∙ map-append (λ (l : TimedCommand). l.time) (lines_on s labels q (lines_of k bs)) (lines_on s labels q (lines_of k cs))

  -- and are so many more
  called_append : (k : ℕ) (bs cs : List Block) → called_in s q k (bs ++ cs) ≡ called_in s q k bs + called_in s q k cs
  called_append k bs cs =
      let whole = ap length (times_append k bs cs) in
      let long = length-append (times_in s q k bs) (times_in s q k cs) in
      let a = times_count k (bs ++ cs) in
      let b = times_count k bs in
      let c = times_count k cs in
      omega (arith, whole, long, a, b, c)

  -- where a block comes next among the script's, whose times rise
  module _ (past rest : List Block) (b : Block) (whole : past ++ b ∷ rest ≡ s.blocks) (rising : IsTrue (times_rise s.blocks)) where
    -- the times of a thread's calls are those of the blocks before, of this one, and of those behind
    times_are : (k : ℕ) → times_on s q k ≡ times_in s q k past ++ (times_in s q k (b ∷ []) ++ times_in s q k rest)
    times_are k =
        ap (λ bs. times_in s q k bs) (sym whole) ∙ times_append k past (b ∷ rest) ∙ ap (λ ts. times_in s q k past ++ ts) (times_append k (b ∷ []) rest)

    -- the blocks behind are not earlier
    later : AllByRecursion (λ (c : Block). b.time ≤ c.time) rest
    later = not_earlier b.time rest (rising_behind past rest b (subst (λ (bs : List Block). IsTrue (times_rise bs)) (sym whole) rising))

    -- a thread that has made its calls of the blocks before has made all those for earlier times
    called_before : (k : ℕ) (es : List Entry) → called_in s q k past ≤ length (entries_by k es) → has_called_before s q b.time es k ≡ true
    called_before k es le =
        let early : count_by (λ t. nat_lt t b.time) (times_in s q k past ++ (times_in s q k (b ∷ []) ++ times_in s q k rest)) ≤ length (times_in s q k past) =
        earlier_are_first b.time (times_in s q k past) (times_in s q k (b ∷ []) ++ times_in s q k rest)
        (AllByRecursion-append (λ t. b.time ≤ t) (times_in s q k (b ∷ [])) (times_in s q k rest) (times_hold (λ t. b.time ≤ t) k (b ∷ []) (omega arith, tt)) (times_hold (λ t. b.time ≤ t) k rest later)) in
        let those : count_by (λ t. nat_lt t b.time) (times_on s q k) ≤ length (times_in s q k past) =
        subst (λ ts. count_by (λ t. nat_lt t b.time) ts ≤ length (times_in s q k past)) (sym (times_are k)) early in
        let long = times_count k past in
        le-leb (count_by (λ t. nat_lt t b.time) (times_on s q k)) (length (entries_by k es)) (omega (arith, those, long, le))

    -- a thread's call behind those of the blocks before and within this one has the block's time
    call_at : (k i : ℕ) → called_in s q k past ≤ i → i < called_in s q k (past ++ b ∷ []) → slice_get (times_on s q k) i ≡ Some b.time
    call_at k i from to =
        let before = times_count k past in
        let here = times_count k (b ∷ []) in
        let both = called_append k past (b ∷ []) in
        ap (λ ts. slice_get ts i) (times_are k)
        ∙ in_the_middle b.time (times_in s q k past) (times_in s q k (b ∷ [])) (times_in s q k rest) i (omega (arith, before, from)) (omega (arith, before, here, both, to)) (times_hold (λ t. t ≡ b.time) k (b ∷ []) (refl, tt))

    -- a thread's entry of this block, where all have made their calls of the blocks before
    comes_now : (es : List Entry) (e : Entry) → ((k : ℕ) → k < s.threads → called_in s q k past ≤ length (entries_by k es))
        → (e.sender < s.threads → length (entries_by e.sender es) < called_in s q e.sender (past ++ b ∷ [])) → comes_in_order s q es e ≡ true
    comes_now es e had has = go (nat_lt e.sender s.threads) refl
      where
        all_had : list_all (has_called_before s q b.time es) (range_with_len 0 s.threads) ≡ true
        all_had = list_all-from_AllPass (has_called_before s q b.time es) (range_with_len 0 s.threads) (λ i d lt.
            let below : i < s.threads = subst (λ (n : ℕ). i < n) (length-range_with_len 0 s.threads) lt in
            let counted : 0 + i ≡ i = omega arith in
            ap (has_called_before s q b.time es) (get_or-range_with_len 0 s.threads i d below ∙ counted) ∙ called_before i es (had i below))

        go : (t : Bool) → nat_lt e.sender s.threads ≡ t → comes_in_order s q es e ≡ true
        go false above = or_left _ _ (ap not above)
        go true below =
            let lt = ltb-true e.sender s.threads below in
            or_right _ _ (ap (λ o. option_map_or (λ (time : ℕ). list_all (has_called_before s q time es) (range_with_len 0 s.threads)) o false) (call_at e.sender (length (entries_by e.sender es)) (had e.sender lt) (has lt)) ∙ all_had)

    -- entries among which the threads make their calls of this block and no others, in whatever order
    block_behind : (es more : List Entry) → ((k : ℕ) → k < s.threads → called_in s q k past ≤ length (entries_by k es))
        → ((k : ℕ) → k < s.threads → length (entries_by k (es ++ more)) ≤ called_in s q k (past ++ b ∷ [])) → each_behind (comes_in_order s q) es more ≡ true
    block_behind es [] had has = refl
    block_behind es (e ∷ more) had has =
        and_from _ _ (comes_now es e had (λ lt. let own = one_more e es more in let most = has e.sender lt in omega (arith, own, most)))
        (block_behind (es ++ e ∷ []) more
        (λ k lt. let grown = entries_more k es (e ∷ []) in let were = had k lt in omega (arith, grown, were))
        (λ k lt. subst (λ (l : List Entry). length (entries_by k l) ≤ called_in s q k (past ++ b ∷ [])) (sym (append_assoc es (e ∷ []) more)) (has k lt)))

    -- so the calls of a block more come in the order of the blocks
    pub in_order_block : (es more : List Entry) → ((k : ℕ) → k < s.threads → called_in s q k past ≡ length (entries_by k es))
        → ((k : ℕ) → k < s.threads → called_in s q k (past ++ b ∷ []) ≡ length (entries_by k (es ++ more))) → are_in_order s q es ≡ true → are_in_order s q (es ++ more) ≡ true
    unfolding are_in_order
    in_order_block es more had has h =
        each_behind-append (comes_in_order s q) [] es more
        ∙ and_from _ _ h (block_behind es more (λ k lt. let were = had k lt in omega (arith, were)) (λ k lt. let are = has k lt in omega (arith, are)))

  -- ---- entries of no thread

  -- an entry that is no thread's comes in order
  other_comes : (es : List Entry) (e : Entry) → nat_lt e.sender s.threads ≡ false → comes_in_order s q es e ≡ true
  other_comes es e above = or_left _ _ (ap not above)

  -- so do more of them
  others_behind : (es more : List Entry) → AllByRecursion (λ e. nat_lt e.sender s.threads ≡ false) more → each_behind (comes_in_order s q) es more ≡ true
  others_behind es [] others = refl
  others_behind es (e ∷ more) others = and_from _ _ (other_comes es e others.0) (others_behind (es ++ e ∷ []) more others.1)

  -- more entries, of which no thread has one, change nothing of the order
  pub in_order_others : (es more : List Entry) → AllByRecursion (λ e. nat_lt e.sender s.threads ≡ false) more → are_in_order s q es ≡ true → are_in_order s q (es ++ more) ≡ true
  unfolding are_in_order
  in_order_others es more others h = each_behind-append (comes_in_order s q) [] es more ∙ and_from _ _ h (others_behind es more others)

  -- nor does one more entry, which is no thread's
  pub in_order_one : (es : List Entry) (e : Entry) → s.threads ≤ e.sender → are_in_order s q es ≡ true → are_in_order s q (es ++ e ∷ []) ≡ true
  in_order_one es e above h =
      in_order_others es (e ∷ []) (false_from_ne_true (nat_lt e.sender s.threads) (λ lt. let less = ltb-true e.sender s.threads lt in absurd (omega (arith, less, above))), tt) h
