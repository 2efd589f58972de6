-- The least line that an inbox run doesn't know.
use Rattle.std.proofs.Common.{◌≡◌, ◌<◌, ◌≤◌, ◌+◌, ℕ, suc, Bool, true, false, cond, List, [], ◌∷◌, ◌++◌, map, length, take, drop, get_or, refl, sym, ap, ◌∙◌, arith, append_assoc, length-append, Option, Some, None}
use Rattle.std.specs.Prelude.{nat_lt, ◌==◌, if◌then◌else◌, is_some}
use Rattle.std.specs.List.{position_from, flat_map, enumerate_from}
use Rattle.std.proofs.lemmas.Bool.{lt-ltb, false_from_ne_true, ltb-true}
use Rattle.std.proofs.lemmas.List.{append-nil, take_more, take_all, take-append-drop, length-take, map-append, length-map}
use Rattle.std.proofs.lemmas.List.Folds.{length-flat_map-take}
use Rattle.std.proofs.lemmas.Grind.{flat_map-append}
use Rattle.dash_script.specs.declared.form.LineKind.TheVariants as kind
use Rattle.dash_script.specs.declared.script.HandlerLine.{HandlerLine}
use Rattle.dash_script.specs.declared.script.GaugeLine.{GaugeLine}
use Rattle.dash_script.specs.declared.script.Rule.{Rule}
use Rattle.dash_script.specs.declared.script.Line.{Line}
use Rattle.dash_script.specs.declared.script.Block.{Block}
use Rattle.dash_script.specs.declared.script.Script.{Script}
use Rattle.dash_script.specs.declared.statement.Statement.{Statement}
use Rattle.dash_script.specs.Text.{say, script_lines, lines_before_end, opening_lines, handler_statement, gauge_statement, rule_line, line_statement, block_lines}
use Rattle.dash_script.specs.Reading.{HasText}
use Rattle.inbox_queue.specs.Bad.{is_bad, bad_line}

abbrev pub find_bad : ℕ → List Statement → Option ℕ
find_bad n xs = position_from is_bad n xs

-- over two lists, where the first has none
pub find_bad-append : (n : ℕ) (xs ys : List Statement) → find_bad n xs ≡ None → find_bad n (xs ++ ys) ≡ find_bad (n + length xs) ys
find_bad-append n [] ys none = ap (λ k. find_bad k ys) (let e : n ≡ n + 0 = omega arith in e)
find_bad-append n (x ∷ xs) ys none = go (is_bad x) (find_bad-append (n + 1) xs ys) none
  where
    go : (b : Bool) → (find_bad (n + 1) xs ≡ None → find_bad (n + 1) (xs ++ ys) ≡ find_bad (n + 1 + length xs) ys) → cond b (Some n) (find_bad (n + 1) xs) ≡ None → cond b (Some n) (find_bad (n + 1) (xs ++ ys)) ≡ find_bad (n + suc (length xs)) ys
    go true rest h = absurd (cc h)
    go false rest h = rest h ∙ ap (λ k. find_bad k ys) (let e : n + 1 + length xs ≡ n + suc (length xs) = omega arith in e)

-- and where it has one
pub find_bad-first : (n k : ℕ) (xs ys : List Statement) → find_bad n xs ≡ Some k → find_bad n (xs ++ ys) ≡ Some k
find_bad-first n k [] ys h = absurd (cc h)
find_bad-first n k (x ∷ xs) ys h = go (is_bad x) (find_bad-first (n + 1) k xs ys) h
  where
    go : (b : Bool) → (find_bad (n + 1) xs ≡ Some k → find_bad (n + 1) (xs ++ ys) ≡ Some k) → cond b (Some n) (find_bad (n + 1) xs) ≡ Some k → cond b (Some n) (find_bad (n + 1) (xs ++ ys)) ≡ Some k
    go true rest h = h
    go false rest h = rest h

-- one line more
pub find_bad-one : (n k : ℕ) (xs : List Statement) (x : Statement) → find_bad n xs ≡ None → k ≡ n + length xs → is_bad x ≡ true → find_bad n (xs ++ x ∷ []) ≡ Some k
find_bad-one n k xs x none is bad = find_bad-append n xs (x ∷ []) none ∙ ap (λ b. cond b (Some (n + length xs)) None) bad ∙ ap Some (sym is)

pub find_bad-good : (n : ℕ) (xs : List Statement) (x : Statement) → find_bad n xs ≡ None → is_bad x ≡ false → find_bad n (xs ++ x ∷ []) ≡ None
find_bad-good n xs x none good = find_bad-append n xs (x ∷ []) none ∙ ap (λ b. cond b (Some (n + length xs)) None) good

-- ---- the parts of a script

handlers_good : (n h : ℕ) (ls : List HandlerLine) → find_bad n (map handler_statement (enumerate_from h ls)) ≡ None
handlers_good n h [] = refl
handlers_good n h (l ∷ ls) = go l.asynchronous (handlers_good (n + 1) (h + 1) ls)
  where
    go : (b : Bool) → find_bad (n + 1) (map handler_statement (enumerate_from (h + 1) ls)) ≡ None → cond (is_bad (say (if b then kind.AsyncHandler else kind.Handler) (h ∷ l.looper ∷ []))) (Some n) (find_bad (n + 1) (map handler_statement (enumerate_from (h + 1) ls))) ≡ None
    go true rest = rest
    go false rest = rest

handlers_count : (h : ℕ) (ls : List HandlerLine) → length (map handler_statement (enumerate_from h ls)) ≡ length ls
handlers_count h [] = refl
handlers_count h (l ∷ ls) = ap suc (handlers_count (h + 1) ls)

first_good : (s : Script) → nat_lt 1 s.loopers ≡ false → find_bad 1 (opening_lines s) ≡ None
first_good s few = go (s.edition == 2)
  where
    go : (b : Bool) → find_bad 1 (say (if b then kind.Edition2 else kind.Edition1) [] ∷ say kind.Loopers (s.loopers ∷ []) ∷ say kind.Threads (s.threads ∷ []) ∷ []) ≡ None
    go true = ap (λ t. cond t (Some 2) None) few
    go false = ap (λ t. cond t (Some 2) None) few

first_bad : (s : Script) → nat_lt 1 s.loopers ≡ true → find_bad 1 (opening_lines s) ≡ Some 2
first_bad s many = go (s.edition == 2)
  where
    go : (b : Bool) → find_bad 1 (say (if b then kind.Edition2 else kind.Edition1) [] ∷ say kind.Loopers (s.loopers ∷ []) ∷ say kind.Threads (s.threads ∷ []) ∷ []) ≡ Some 2
    go true = ap (λ t. cond t (Some 2) None) many
    go false = ap (λ t. cond t (Some 2) None) many

-- the lines as they stand
abbrev after_first : Script → List Statement
after_first s = map handler_statement (enumerate_from 0 s.handlers) ++ (map gauge_statement (enumerate_from 0 s.gauges) ++ (say kind.Vsync (s.period ∷ []) ∷ (map rule_line s.rules ++ (flat_map block_lines s.blocks ++ say kind.End (s.end ∷ []) ∷ []))))

lines_parted : (s : Script) → script_lines s ≡ opening_lines s ++ after_first s
unfolding lines_before_end
lines_parted s =
    let f = opening_lines s in
    let h = map handler_statement (enumerate_from 0 s.handlers) in
    let g = map gauge_statement (enumerate_from 0 s.gauges) in
    let v = say kind.Vsync (s.period ∷ []) ∷ [] in
    let r = map rule_line s.rules in
    let b = flat_map block_lines s.blocks in
    let e = say kind.End (s.end ∷ []) ∷ [] in
    append_assoc (f ++ h ++ g ++ v ++ r) b e ∙ append_assoc (f ++ h ++ g ++ v) r (b ++ e) ∙ append_assoc (f ++ h ++ g) v (r ++ (b ++ e)) ∙ append_assoc (f ++ h) g (v ++ (r ++ (b ++ e))) ∙ append_assoc f h (g ++ (v ++ (r ++ (b ++ e))))

-- the last line is known
end_good : (n : ℕ) (xs e : List Statement) → ((k : ℕ) → find_bad k e ≡ None) → find_bad n (xs ++ e) ≡ find_bad n xs
end_good n [] e good = good n
end_good n (x ∷ xs) e good = ap (λ r. cond (is_bad x) (Some n) r) (end_good (n + 1) xs e good)

-- more loopers than one
pub bad_loopers : (s : Script) → 1 < s.loopers → bad_line s ≡ Some 2
bad_loopers s many = ap (find_bad 1) (lines_parted s) ∙ find_bad-first 1 2 (opening_lines s) (after_first s) (first_bad s (lt-ltb 1 s.loopers many))

few_loopers : (s : Script) → (1 < s.loopers → ⊥) → nat_lt 1 s.loopers ≡ false
few_loopers s few = false_from_ne_true (nat_lt 1 s.loopers) (λ h. few (ltb-true 1 s.loopers h))

behind_handlers : (s : Script) → (1 < s.loopers → ⊥)
    → bad_line s ≡ find_bad (4 + length s.handlers) (map gauge_statement (enumerate_from 0 s.gauges) ++ (say kind.Vsync (s.period ∷ []) ∷ (map rule_line s.rules ++ (flat_map block_lines s.blocks ++ say kind.End (s.end ∷ []) ∷ []))))
behind_handlers s few =
    let h = map handler_statement (enumerate_from 0 s.handlers) in
    let rest = map gauge_statement (enumerate_from 0 s.gauges) ++ (say kind.Vsync (s.period ∷ []) ∷ (map rule_line s.rules ++ (flat_map block_lines s.blocks ++ say kind.End (s.end ∷ []) ∷ []))) in
    ap (find_bad 1) (lines_parted s) ∙ find_bad-append 1 (opening_lines s) (h ++ rest) (first_good s (few_loopers s few)) ∙ find_bad-append 4 h rest (handlers_good 4 0 s.handlers)
    ∙ ap (λ n. find_bad (4 + n) rest) (handlers_count 0 s.handlers)

-- a gauge
pub bad_gauge : (s : Script) (n : ℕ) → (1 < s.loopers → ⊥) → (length s.gauges ≡ 0 → ⊥) → n ≡ 4 + length s.handlers → bad_line s ≡ Some n
bad_gauge s n few some is = behind_handlers s few ∙ go s.gauges some ∙ ap Some (sym is)
  where
    rest : List Statement
    rest = say kind.Vsync (s.period ∷ []) ∷ (map rule_line s.rules ++ (flat_map block_lines s.blocks ++ say kind.End (s.end ∷ []) ∷ []))

    go : (gs : List GaugeLine) → (length gs ≡ 0 → ⊥) → find_bad (4 + length s.handlers) (map gauge_statement (enumerate_from 0 gs) ++ rest) ≡ Some (4 + length s.handlers)
    go [] some = absurd (some refl)
    go (g ∷ gs) some = refl

behind_vsync : (s : Script) → (1 < s.loopers → ⊥) → length s.gauges ≡ 0 → bad_line s ≡ find_bad (5 + length s.handlers) (map rule_line s.rules ++ (flat_map block_lines s.blocks ++ say kind.End (s.end ∷ []) ∷ []))
behind_vsync s few none = behind_handlers s few ∙ go s.gauges none
  where
    rest : List Statement
    rest = map rule_line s.rules ++ (flat_map block_lines s.blocks ++ say kind.End (s.end ∷ []) ∷ [])

    go : (gs : List GaugeLine) → length gs ≡ 0 → find_bad (4 + length s.handlers) (map gauge_statement (enumerate_from 0 gs) ++ say kind.Vsync (s.period ∷ []) ∷ rest) ≡ find_bad (5 + length s.handlers) rest
    go [] none = ap (λ k. find_bad k rest) (let e : 4 + length s.handlers + 1 ≡ 5 + length s.handlers = omega arith in e)
    go (g ∷ gs) none = absurd (omega arith)

-- a reaction
pub bad_rule : (s : Script) (n : ℕ) → (1 < s.loopers → ⊥) → length s.gauges ≡ 0 → (length s.rules ≡ 0 → ⊥) → n ≡ 5 + length s.handlers → bad_line s ≡ Some n
bad_rule s n few none some is = behind_vsync s few none ∙ go s.rules some ∙ ap Some (sym is)
  where
    rest : List Statement
    rest = flat_map block_lines s.blocks ++ say kind.End (s.end ∷ []) ∷ []

    go : (rs : List Rule) → (length rs ≡ 0 → ⊥) → find_bad (5 + length s.handlers) (map rule_line rs ++ rest) ≡ Some (5 + length s.handlers)
    go [] some = absurd (some refl)
    go (r ∷ rs) some = refl

-- else a command
pub bad_command : (s : Script) (n : ℕ) (found : Option ℕ) → (1 < s.loopers → ⊥) → length s.gauges ≡ 0 → length s.rules ≡ 0 → n ≡ 4 + length s.handlers → found ≡ find_bad (n + 1) (flat_map block_lines s.blocks) → found ≡ bad_line s
bad_command s n found few none none' is found_is =
    let bs = flat_map block_lines s.blocks in
    let e = say kind.End (s.end ∷ []) ∷ [] in
    found_is ∙ ap (λ k. find_bad k bs) (let q : n + 1 ≡ 5 + length s.handlers = omega (arith, is) in q) ∙ sym (end_good (5 + length s.handlers) bs e (λ k. refl)) ∙ sym (go s.rules none') ∙ sym (behind_vsync s few none)
  where
    rest : List Statement
    rest = flat_map block_lines s.blocks ++ say kind.End (s.end ∷ []) ∷ []

    go : (rs : List Rule) → length rs ≡ 0 → find_bad (5 + length s.handlers) (map rule_line rs ++ rest) ≡ find_bad (5 + length s.handlers) rest
    go [] none = refl
    go (r ∷ rs) none = absurd (omega arith)

-- ---- line by line

-- the lines so far are known, and so is the next one
pub line_more : (n i : ℕ) (ls : List Line) (d : Line) → i < length ls → find_bad n (map line_statement (take i ls)) ≡ None → is_bad (line_statement (get_or ls i d)) ≡ false → find_bad n (map line_statement (take (i + 1) ls)) ≡ None
line_more n i ls d lt none good =
    let x = get_or ls i d in
    ap (λ l. find_bad n (map line_statement l)) (take_more ls i d lt) ∙ ap (find_bad n) (map-append line_statement (take i ls) (x ∷ [])) ∙ find_bad-good n (map line_statement (take i ls)) (line_statement x) none good

-- the lines so far are known, and the next one is not
pub line_found : (n k i : ℕ) (ls : List Line) (d : Line) → i < length ls → find_bad n (map line_statement (take i ls)) ≡ None → is_bad (line_statement (get_or ls i d)) ≡ true → k ≡ n + i → Some k ≡ find_bad n (map line_statement ls)
line_found n k i ls d lt none bad is =
    let x = get_or ls i d in
    let front = length-take i ls in
    let short : length (take i ls) ≡ i = omega (arith, lt, front) in
    let count : length (map line_statement (take i ls)) ≡ length (take i ls) = length-map (take i ls) line_statement in
    let here : find_bad n (map line_statement (take (i + 1) ls)) ≡ Some k =
    ap (λ l. find_bad n (map line_statement l)) (take_more ls i d lt) ∙ ap (find_bad n) (map-append line_statement (take i ls) (x ∷ []))
    ∙ find_bad-one n k (map line_statement (take i ls)) (line_statement x) none (let e : k ≡ n + length (map line_statement (take i ls)) = omega (arith, is, count, short) in e) bad in
    sym (ap (λ l. find_bad n (map line_statement l)) (sym (take-append-drop (i + 1) ls)) ∙ ap (find_bad n) (map-append line_statement (take (i + 1) ls) (drop (i + 1) ls))
    ∙ find_bad-first n k (map line_statement (take (i + 1) ls)) (map line_statement (drop (i + 1) ls)) here)

-- all lines are known
pub lines_good : (n i : ℕ) (ls : List Line) → length ls ≤ i → find_bad n (map line_statement (take i ls)) ≡ None → None ≡ find_bad n (map line_statement ls)
lines_good n i ls le none = sym (ap (λ l. find_bad n (map line_statement l)) (sym (take_all i ls le)) ∙ none)

-- ---- block by block

-- the lines of one block more
block_next : (n i : ℕ) (bs : List Block) (d : Block) → i < length bs → find_bad n (flat_map block_lines (take i bs)) ≡ None
    → find_bad n (flat_map block_lines (take (i + 1) bs)) ≡ find_bad (n + length (flat_map block_lines (take i bs)) + 1) (map line_statement (get_or bs i d).lines)
block_next n i bs d lt none =
    let b = get_or bs i d in
    ap (λ l. find_bad n (flat_map block_lines l)) (take_more bs i d lt)
    ∙ ap (find_bad n) (flat_map-append block_lines (take i bs) (b ∷ []))
    ∙ find_bad-append n (flat_map block_lines (take i bs)) (flat_map block_lines (b ∷ [])) none
    ∙ ap (λ l. find_bad (n + length (flat_map block_lines (take i bs))) l) (append-nil (block_lines b))

pub block_more : (start here i : ℕ) (bs : List Block) (d : Block) (found : Option ℕ) → i < length bs → find_bad (start + 1) (flat_map block_lines (take i bs)) ≡ None
    → here ≡ start + length (flat_map block_lines (take i bs)) + 1 → found ≡ find_bad (here + 1) (map line_statement (get_or bs i d).lines) → found ≡ find_bad (start + 1) (flat_map block_lines (take (i + 1) bs))
block_more start here i bs d found lt none is found_is =
    found_is ∙ ap (λ k. find_bad k (map line_statement (get_or bs i d).lines)) (let e : here + 1 ≡ start + 1 + length (flat_map block_lines (take i bs)) + 1 = omega (arith, is) in e)
    ∙ sym (block_next (start + 1) i bs d lt none)

-- what is found among the first blocks is found among all
pub blocks_found : (n i : ℕ) (bs : List Block) (found : Option ℕ) → found ≡ find_bad n (flat_map block_lines (take i bs)) → is_some found ≡ true → found ≡ find_bad n (flat_map block_lines bs)
blocks_found n i bs None is some = absurd (cc some)
blocks_found n i bs (Some k) is some =
    sym (ap (λ l. find_bad n (flat_map block_lines l)) (sym (take-append-drop i bs)) ∙ ap (find_bad n) (flat_map-append block_lines (take i bs) (drop i bs))
    ∙ find_bad-first n k (flat_map block_lines (take i bs)) (flat_map block_lines (drop i bs)) (sym is))

pub is_none_of : (found : Option ℕ) → is_some found ≡ false → found ≡ None
is_none_of None h = refl
is_none_of (Some k) h = absurd (cc h)

pub blocks_good : (n i : ℕ) (bs : List Block) → length bs ≤ i → find_bad n (flat_map block_lines (take i bs)) ≡ None → None ≡ find_bad n (flat_map block_lines bs)
blocks_good n i bs le none = sym (ap (λ l. find_bad n (flat_map block_lines l)) (sym (take_all i bs le)) ∙ none)

-- how many lines there are
pub block_count : (i : ℕ) (bs : List Block) (d : Block) → i < length bs → length (flat_map block_lines (take (i + 1) bs)) ≡ length (flat_map block_lines (take i bs)) + 1 + length (get_or bs i d).lines
block_count i bs d lt =
    let b = get_or bs i d in
    let whole : length (flat_map block_lines (take (i + 1) bs)) ≡ length (flat_map block_lines (take i bs) ++ block_lines b) =
    ap (λ l. length (flat_map block_lines l)) (take_more bs i d lt) ∙ ap length (flat_map-append block_lines (take i bs) (b ∷ [])) ∙ ap (λ l. length (flat_map block_lines (take i bs) ++ l)) (append-nil (block_lines b)) in
    let sum = length-append (flat_map block_lines (take i bs)) (block_lines b) in
    let own : length (map line_statement b.lines) ≡ length b.lines = length-map b.lines line_statement in
    let e : length (flat_map block_lines (take (i + 1) bs)) ≡ length (flat_map block_lines (take i bs)) + 1 + length b.lines = omega (arith, whole, sum, own) in e

pub block_fits : (i : ℕ) (bs : List Block) (d : Block) → i < length bs → length (flat_map block_lines (take i bs)) + 1 + length (get_or bs i d).lines ≤ length (flat_map block_lines bs)
block_fits i bs d lt =
    let b = get_or bs i d in
    let within = length-flat_map-take block_lines bs i d lt in
    let own : length (map line_statement b.lines) ≡ length b.lines = length-map b.lines line_statement in
    let e : length (flat_map block_lines (take i bs)) + 1 + length b.lines ≤ length (flat_map block_lines bs) = omega (arith, within, own) in e

-- the blocks have no more lines than a script may have
pub few_lines : (s : Script) → HasText s → length (flat_map block_lines s.blocks) ≤ 20000
few_lines s h =
    let hs = map handler_statement (enumerate_from 0 s.handlers) in
    let gs = map gauge_statement (enumerate_from 0 s.gauges) in
    let rs = map rule_line s.rules in
    let bs = flat_map block_lines s.blocks in
    let e = say kind.End (s.end ∷ []) ∷ [] in
    let v = say kind.Vsync (s.period ∷ []) in
    let most = h.lines in
    let whole : length (script_lines s) ≡ length (opening_lines s ++ after_first s) = ap length (lines_parted s) in
    let l1 = length-append (opening_lines s) (after_first s) in
    let l2 = length-append hs (gs ++ v ∷ (rs ++ (bs ++ e))) in
    let l3 = length-append gs (v ∷ (rs ++ (bs ++ e))) in
    let l4 = length-append rs (bs ++ e) in
    let l5 = length-append bs e in
    let r : length bs ≤ 20000 = omega (arith, most, whole, l1, l2, l3, l4, l5) in r
