-- A thread that runs the lines of a block, one after another.
use Rattle.std.proofs.Common.{◌≡◌, ◌≢◌, ℕ, zero, suc, ◌+◌, ◌<◌, ◌≤◌, ◌==◌, Bool, false, cond, List, [], ◌∷◌, ◌++◌, map, length, take, drop, get_or, sym, ap, ◌∙◌, subst, arith, append_assoc, length-append, eq-eqb, ne_eqb}
use Rattle.std.specs.Prelude.{filter}
use Rattle.std.proofs.lemmas.List.{append-nil, map-append, take_all, take_more, drop_more, take-append-drop, flat_map_more}
use Rattle.std.proofs.lemmas.List.Elements.{filter-append}
use Rattle.dash_script.specs.declared.script.Line.{Line}
use Rattle.dash_script.specs.declared.script.Command.TheVariants.{Post}
use Rattle.dash_script.specs.declared.script.Script.{Script}
use Rattle.run_model.specs.Moments.{Mode}
use Rattle.run_model.specs.Planned.{TimedCommand, lines_of}
use Rattle.run_model.specs.Parts.{lines_in}
use Rattle.dash_script.specs.declared.script.Block.{Block}
use Rattle.std.proofs.lemmas.Grind.{flat_map-append}
use Rattle.dash_hall.specs.declared.hall.Hall.{Hall}
use Rattle.dash_threads.specs.declared.thread.PostingThread.{PostingThread}
use Rattle.dash_threads.specs.Threads.{IsUpTo, RunsLine, Continues, one_pass_more, passes_more}
use Rattle.dash_threads.specs.AtWork.{RunsUnlessGivenUp, RunsLines}
use Rattle.dash_threads.proofs.ThreadLabels.{at_time}

-- the lines of a thread among these, at a time
abbrev pub timed_in : ℕ → ℕ → List Line → List TimedCommand
timed_in thread time ls = map (λ l. record { time = time; command = l.command }) (filter (λ l. l.thread == thread) ls)

-- where all these lines come next, the thread has run those of them that are done
abbrev pub HasRun : Mode → Script → ℕ → List Line → List Line → PostingThread → PostingThread → Type 0
HasRun m s time all done before now = (past rest : List TimedCommand) → past ++ (timed_in before.number time all ++ rest) ≡ lines_of before.number s.blocks
    → IsUpTo m s past before → IsUpTo m s (past ++ timed_in before.number time done) now

timed_append : (n time : ℕ) (xs ys : List Line) → timed_in n time (xs ++ ys) ≡ timed_in n time xs ++ timed_in n time ys
timed_append n time xs ys =
    ap (map (at_time time)) (filter-append (λ (l : Line). l.thread == n) xs ys) ∙ map-append (at_time time) (filter (λ (l : Line). l.thread == n) xs) (filter (λ (l : Line). l.thread == n) ys)

timed_own : (n time : ℕ) (l : Line) (ls : List Line) → l.thread ≡ n → timed_in n time (l ∷ ls) ≡ at_time time l ∷ timed_in n time ls
timed_own n time l ls is = ap (λ (b : Bool). map (at_time time) (cond b (l ∷ filter (λ (x : Line). x.thread == n) ls) (filter (λ (x : Line). x.thread == n) ls))) (eq-eqb l.thread n is)

timed_other : (n time : ℕ) (l : Line) (ls : List Line) → l.thread ≢ n → timed_in n time (l ∷ ls) ≡ timed_in n time ls
timed_other n time l ls isnt = ap (λ (b : Bool). map (at_time time) (cond b (l ∷ filter (λ (x : Line). x.thread == n) ls) (filter (λ (x : Line). x.thread == n) ls))) (ne_eqb l.thread n isnt)

pub begins : (m : Mode) (s : Script) (time : ℕ) (all : List Line) (t : PostingThread) → HasRun m s time all [] t t
begins m s time all t = λ past rest are up. subst (λ (ls : List TimedCommand). IsUpTo m s ls t) (sym (append-nil past)) up

regroup : (a b c d : List TimedCommand) (x : TimedCommand) → (a ++ b) ++ (x ∷ (c ++ d)) ≡ a ++ ((b ++ (x ∷ c)) ++ d)
regroup a b c d x = append_assoc a b (x ∷ (c ++ d)) ∙ ap (λ (l : List TimedCommand). a ++ l) (sym (append_assoc b (x ∷ c) d))

-- the thread's lines, parted at one of them
pub split_at : (n time : ℕ) (all : List Line) (i : ℕ) (d l : Line) (past rest : List TimedCommand) → i < length all → l ≡ get_or all i d → l.thread ≡ n
    → (past ++ timed_in n time (take i all)) ++ (at_time time l ∷ (timed_in n time (drop (i + 1) all) ++ rest)) ≡ past ++ (timed_in n time all ++ rest)
split_at n time all i d l past rest near is own =
    let before = timed_in n time (take i all) in
    let after = timed_in n time (drop (i + 1) all) in
    let here : drop i all ≡ l ∷ drop (i + 1) all = drop_more all i d near ∙ ap (λ (x : Line). x ∷ drop (i + 1) all) (sym is) in
    let whole : timed_in n time all ≡ before ++ (at_time time l ∷ after) =
    ap (timed_in n time) (sym (take-append-drop i all)) ∙ (timed_append n time (take i all) (drop i all)
    ∙ ap (λ (x : List TimedCommand). before ++ x) (ap (timed_in n time) here ∙ timed_own n time l (drop (i + 1) all) own)) in
    regroup past before after rest (at_time time l) ∙ ap (λ (x : List TimedCommand). past ++ (x ++ rest)) (sym whole)

pub own_more : (n time : ℕ) (all : List Line) (i : ℕ) (d l : Line) → i < length all → l ≡ get_or all i d → l.thread ≡ n → timed_in n time (take (i + 1) all) ≡ timed_in n time (take i all) ++ at_time time l ∷ []
own_more n time all i d l near is own =
    let before = timed_in n time (take i all) in
    ap (timed_in n time) (take_more all i d near ∙ ap (λ (x : Line). take i all ++ x ∷ []) (sym is)) ∙ (timed_append n time (take i all) (l ∷ []) ∙ ap (λ (x : List TimedCommand). before ++ x) (timed_own n time l [] own))

pub other_more : (n time : ℕ) (all : List Line) (i : ℕ) (d l : Line) → i < length all → l ≡ get_or all i d → l.thread ≢ n → timed_in n time (take (i + 1) all) ≡ timed_in n time (take i all)
other_more n time all i d l near is other =
    let before = timed_in n time (take i all) in
    ap (timed_in n time) (take_more all i d near ∙ ap (λ (x : Line). take i all ++ x ∷ []) (sym is)) ∙ (timed_append n time (take i all) (l ∷ []) ∙ (ap (λ (x : List TimedCommand). before ++ x) (timed_other n time l [] other) ∙ append-nil before))

-- one line more of the thread, and one of another
pub goes_on : (m : Mode) (s : Script) (time : ℕ) (all : List Line) (i : ℕ) (d l : Line) (t u v : PostingThread) → i < length all → l ≡ get_or all i d → l.thread ≡ t.number → u.number ≡ t.number
    → HasRun m s time all (take i all) t u → RunsLine m s (at_time time l) u v → HasRun m s time all (take (i + 1) all) t v
goes_on m s time all i d l t u v near is own number has takes = λ past rest are up. (
    let n = t.number in
    let before = timed_in n time (take i all) in
    let after = timed_in n time (drop (i + 1) all) in
    let split : (past ++ before) ++ (at_time time l ∷ (after ++ rest)) ≡ lines_of u.number s.blocks =
    split_at n time all i d l past rest near is own ∙ (are ∙ ap (λ (k : ℕ). lines_of k s.blocks) (sym number)) in
    let done : IsUpTo m s ((past ++ before) ++ at_time time l ∷ []) v = takes (past ++ before) (after ++ rest) split (has past rest are up) in
    subst (λ (ls : List TimedCommand). IsUpTo m s ls v) (append_assoc past before (at_time time l ∷ []) ∙ ap (λ (x : List TimedCommand). past ++ x) (sym (own_more n time all i d l near is own))) done)

pub goes_by : (m : Mode) (s : Script) (time : ℕ) (all : List Line) (i : ℕ) (d l : Line) (t u : PostingThread) → i < length all → l ≡ get_or all i d → l.thread ≢ t.number → HasRun m s time all (take i all) t u → HasRun m s time all (take (i + 1) all) t u
goes_by m s time all i d l t u near is other has = λ past rest are up.
    subst (λ (ls : List TimedCommand). IsUpTo m s (past ++ ls) u) (sym (other_more t.number time all i d l near is other)) (has past rest are up)

-- one line more is one pass more
longer : (xs ys : List TimedCommand) (x : TimedCommand) → ys ≡ xs ++ x ∷ [] → length ys ≡ suc (length xs)
longer xs ys x more =
    let all = length-append xs (x ∷ []) in
    let same : length ys ≡ length (xs ++ x ∷ []) = ap length more in
    let next : length ys ≡ suc (length xs) = omega (arith, all, same) in
    next

pub passes_then : (m n p : ℕ) → passes_more m (passes_more n p) ≡ passes_more (n + m) p
passes_then zero n p = (let e : n ≡ n + 0 = omega arith in ap (λ (k : ℕ). passes_more k p) e)
passes_then (suc m) n p =
    let e : suc (n + m) ≡ n + suc m = omega arith in
    ap (λ (k : ℕ). one_pass_more k) (passes_then m n p) ∙ ap (λ (k : ℕ). passes_more k p) e

-- what runs on from a thread that has run on
pub runs_on : (s : Script) (hall : Hall) (t z v : PostingThread) → RunsUnlessGivenUp s hall t z → RunsUnlessGivenUp s hall z v → RunsUnlessGivenUp s hall t v
runs_on s hall t z v was is = record {
  thread = is.thread;
  number = is.number ∙ was.number;
  goes = λ going. was.goes (is.goes going);
  stays = λ gone. (let still = was.stays gone in is.stays (ap (λ (x : PostingThread). x.gave_up) still ∙ gone) ∙ still);
}

-- how far a thread has come in the lines of a block
abbrev pub IsAtLine : Mode → Script → Hall → Block → ℕ → PostingThread → PostingThread → Type 0
IsAtLine m s hall b i t z = RunsLines s hall (timed_in t.number b.time (take i b.lines)) (HasRun m s b.time b.lines (take i b.lines)) t z

abbrev pub no_line : Line
no_line = record { thread = 0; command = Post 0 0 0 }

module _ (m : Mode) (s : Script) (hall : Hall) (b : Block) (i : ℕ) (t z : PostingThread) (ls : List Line) (same : ls ≡ b.lines) (near : i < length ls) (at : IsAtLine m s hall b i t z) where
  within : i < length b.lines
  within = subst (λ (xs : List Line). i < length xs) same near

  is_line : get_or ls i no_line ≡ get_or b.lines i no_line
  is_line = ap (λ (xs : List Line). get_or xs i no_line) same

  -- the next line is another's
  pub by_line : (get_or ls i no_line).thread ≢ z.number → IsAtLine m s hall b (i + 1) t z
  by_line other = record {
    runs = at.runs;
    made = λ going. goes_by m s b.time b.lines i no_line (get_or ls i no_line) t z within is_line (λ own. other (own ∙ sym at.runs.number)) (at.made going);
    passed = λ going. at.passed going
        ∙ ap (λ (xs : List TimedCommand). passes_more (length xs) t.passed) (sym (other_more t.number b.time b.lines i no_line (get_or ls i no_line) within is_line (λ own. other (own ∙ sym at.runs.number))));
  }

  -- the next line is its own
  pub on_line : (v : PostingThread) → (get_or ls i no_line).thread ≡ z.number → RunsUnlessGivenUp s hall z v
      → (v.gave_up ≡ false → RunsLine m s (at_time b.time (get_or ls i no_line)) z v) → (v.gave_up ≡ false → v.passed ≡ one_pass_more z.passed) → IsAtLine m s hall b (i + 1) t v
  on_line v own runs takes once = record {
    runs = runs_on s hall t z v at.runs runs;
    made = λ going. goes_on m s b.time b.lines i no_line (get_or ls i no_line) t z v within is_line (own ∙ at.runs.number) at.runs.number (at.made (runs.goes going)) (takes going);
    passed = λ going. once going ∙ (ap (λ (n : ℕ). one_pass_more n) (at.passed (runs.goes going))
        ∙ ap (λ (n : ℕ). passes_more n t.passed) (sym (longer _ _ _ (own_more t.number b.time b.lines i no_line (get_or ls i no_line) within is_line (own ∙ at.runs.number)))));
  }

-- all lines of the block
pub past_lines : (m : Mode) (s : Script) (hall : Hall) (b : Block) (i : ℕ) (t z : PostingThread) (ls : List Line) → ls ≡ b.lines → length ls ≤ i → IsAtLine m s hall b i t z
    → RunsLines s hall (lines_in t.number b) (Continues m s b) t z
past_lines m s hall b i t z ls same far at =
    let all = take_all i b.lines (subst (λ (xs : List Line). length xs ≤ i) same far) in
    record {
      runs = at.runs;
      made = λ going past rest are up. subst (λ (xs : List Line). IsUpTo m s (past ++ timed_in t.number b.time xs) z) all (at.made going past rest are up);
      passed = λ going. at.passed going ∙ ap (λ (xs : List Line). passes_more (length (timed_in t.number b.time xs)) t.passed) all;
    }

-- one block more of all
pub block_goes_on : (m : Mode) (s : Script) (i : ℕ) (d b : Block) (t u v : PostingThread) → i < length s.blocks → b ≡ get_or s.blocks i d → u.number ≡ t.number
    → (IsUpTo m s [] t → IsUpTo m s (lines_of t.number (take i s.blocks)) u) → Continues m s b u v → IsUpTo m s [] t → IsUpTo m s (lines_of t.number (take (i + 1) s.blocks)) v
block_goes_on m s i d b t u v near is number so_far on begun =
    let bs = s.blocks in
    let n = t.number in
    let rest = drop (i + 1) bs in
    let here : take i bs ++ (b ∷ rest) ≡ bs = ap (λ (x : List Block). take i bs ++ x) (ap (λ (x : Block). x ∷ rest) is ∙ sym (drop_more bs i d near)) ∙ take-append-drop i bs in
    let whole : lines_of n (take i bs) ++ (lines_in n b ++ lines_of n rest) ≡ lines_of n bs = sym (flat_map-append (lines_in n) (take i bs) (b ∷ rest)) ∙ ap (lines_of n) here in
    let goes : (p r : List TimedCommand) → p ++ (lines_in n b ++ r) ≡ lines_of n bs → IsUpTo m s p u → IsUpTo m s (p ++ lines_in n b) v =
    subst (λ (k : ℕ). (p r : List TimedCommand) → p ++ (lines_in k b ++ r) ≡ lines_of k bs → IsUpTo m s p u → IsUpTo m s (p ++ lines_in k b) v) number on in
    let more : lines_of n (take i bs) ++ lines_in n b ≡ lines_of n (take (i + 1) bs) = flat_map_more (lines_in n) [] (take i bs) b ∙ ap (lines_of n) (ap (λ (x : Block). take i bs ++ x ∷ []) is ∙ sym (take_more bs i d near)) in
    subst (λ (ls : List TimedCommand). IsUpTo m s ls v) more (goes (lines_of n (take i bs)) (lines_of n rest) whole (so_far begun))

pub block_passed : (s : Script) (i : ℕ) (d b : Block) (t u v : PostingThread) → i < length s.blocks → b ≡ get_or s.blocks i d → u.number ≡ t.number
    → u.passed ≡ passes_more (length (lines_of t.number (take i s.blocks))) t.passed → v.passed ≡ passes_more (length (lines_in u.number b)) u.passed
    → v.passed ≡ passes_more (length (lines_of t.number (take (i + 1) s.blocks))) t.passed
block_passed s i d b t u v near is number so_far on =
    let bs = s.blocks in
    let n = t.number in
    let xs = lines_of n (take i bs) in
    let ys = lines_in n b in
    let more : xs ++ ys ≡ lines_of n (take (i + 1) bs) = flat_map_more (lines_in n) [] (take i bs) b ∙ ap (lines_of n) (ap (λ (x : Block). take i bs ++ x ∷ []) is ∙ sym (take_more bs i d near)) in
    on ∙ ((λ j. passes_more (length (lines_in (number j) b)) (so_far j))
    ∙ (passes_then (length ys) (length xs) t.passed ∙ ap (λ (k : ℕ). passes_more k t.passed) (sym (length-append xs ys) ∙ ap length more)))
