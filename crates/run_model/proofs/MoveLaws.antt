-- The moves of a queue's time as its history goes on, and how all queues' moves stay together.
use Rattle.std.proofs.Common.{◌≡◌, ◌<◌, ◌+◌, inl, inr, ℕ, zero, suc, Bool, true, false, List, [], ◌∷◌, ◌++◌, length, Option, Some, refl, sym, ap, ◌∙◌, subst, arith, append_assoc}
use Rattle.std.specs.Prelude.{slice_index_or, slice_get, ◌==◌, ◌&&◌, if◌then◌else◌}
use Rattle.std.specs.List.{AllByRecursion, list_any, enumerate_from}
use Rattle.std.specs.Option.{option_map, option_map_or}
use Rattle.std.proofs.lemmas.Bool.{and_from, or_cases, or_left, or_right, eq-eqb}
use Rattle.std.proofs.lemmas.List.{append-nil, length-map, map-append}
use Rattle.std.proofs.lemmas.List.Folds.{Any-from_list_any, list_any_at}
use mathlib.Core.List.{IsPrefix}
use Rattle.loop_model.specs.declared.entry.Entry.{Entry}
use Rattle.loop_model.specs.declared.call.Call.TheVariants.{Advance}
use Rattle.loop_model.specs.Items.{when_of}
use Rattle.loop_model.specs.Entries.{moment_of}
use Rattle.loop_model.specs.Base.{empty_base}
use Rattle.loop_model.specs.Pick.{first_eligible}
use Rattle.loop_model.proofs.WellFormedLaws.{All_recursive, All_indexed}
use Rattle.loop_model.proofs.Prefixes.{prefix_self, prefix_trans}
use Rattle.dash_script.specs.declared.script.Script.{Script}
use Rattle.run_model.specs.Control.{is_advance, Move, moves, moves_after, move_times, is_planned_time, was_due_at, MayMoveTo, main_moves, AreMovedTogether}

-- ---- the moves of one queue

-- the move to this time behind these entries
abbrev pub move_to : ℕ → List Entry → Move
move_to now past = record { to = now; due = option_map when_of (first_eligible (empty_base 0) past) }

-- the move that an entry makes behind these
abbrev pub move_by : List Entry → Entry → Move
move_by past e = move_to (moment_of e.call) past

-- the moves of a history and of what comes behind it
pub moves_after-append : (k : ℕ) (past xs ys : List Entry) → moves_after k past (xs ++ ys) ≡ moves_after k past xs ++ moves_after k (past ++ xs) ys
moves_after-append k past [] ys = ap (λ l. moves_after k l ys) (sym (append-nil past))
moves_after-append k past (x ∷ xs) ys =
    ap (λ l. (if x.sender == k && is_advance x.call then move_by past x ∷ [] else []) ++ l)
    (moves_after-append k (past ++ x ∷ []) xs ys ∙ ap (λ l. moves_after k (past ++ x ∷ []) xs ++ moves_after k l ys) (append_assoc past (x ∷ []) xs))
    ∙ sym (append_assoc (if x.sender == k && is_advance x.call then move_by past x ∷ [] else []) (moves_after k (past ++ x ∷ []) xs) (moves_after k (past ++ x ∷ xs) ys))

-- the entry doesn't move the time for this sender
abbrev pub MakesNoMove : ℕ → Entry → Type 0
MakesNoMove k e = (e.sender == k && is_advance e.call) ≡ false

-- entries that make no move
pub no_moves : (k : ℕ) (past es : List Entry) → AllByRecursion (MakesNoMove k) es → moves_after k past es ≡ []
no_moves k past [] h = refl
no_moves k past (e ∷ es) h = let first = h.0 in let rest = no_moves k (past ++ e ∷ []) es h.1 in rw (first, rest) refl

-- change nothing of the moves
pub moves_stay : (k : ℕ) (es more : List Entry) → AllByRecursion (MakesNoMove k) more → moves k (es ++ more) ≡ moves k es
unfolding moves
moves_stay k es more h = moves_after-append k [] es more ∙ (ap (λ l. moves_after k [] es ++ l) (no_moves k es more h) ∙ append-nil (moves_after k [] es))

-- one Advance of the sender is one move more
pub one_move : (k now : ℕ) (es : List Entry) (e : Entry) → e.sender ≡ k → e.call ≡ Advance now
    → moves k (es ++ e ∷ []) ≡ moves k es ++ move_to now es ∷ []
unfolding moves
one_move k now es e own is =
    let mine : (e.sender == k && is_advance e.call) ≡ true = and_from _ _ (eq-eqb e.sender k own) (ap is_advance is) in
    let made : moves_after k es (e ∷ []) ≡ move_by es e ∷ [] = ap (λ (b : Bool). (if b then move_by es e ∷ [] else []) ++ []) mine in
    moves_after-append k [] es (e ∷ [])
    ∙ (ap (λ l. moves_after k [] es ++ l) made
    ∙ ap (λ c. moves_after k [] es ++ move_to (moment_of c) es ∷ []) is)

-- ---- the moves of all queues

-- a test that the element at a place passes, in a longer list
got_in_longer : {X : Type 0} (p : X → Bool) (number : ℕ) (xs more : List X) → option_map_or p (slice_get xs number) false ≡ true → option_map_or p (slice_get (xs ++ more) number) false ≡ true
got_in_longer p number [] more h = absurd cc
got_in_longer p zero (x ∷ xs) more h = h
got_in_longer p (suc number) (x ∷ xs) more h = got_in_longer p number xs more h

-- the element behind others
got_last : {X : Type 0} (xs : List X) (x : X) → slice_get (xs ++ x ∷ []) (length xs) ≡ Some x
got_last [] x = refl
got_last (y ∷ xs) x = got_last xs x

-- a message was due at this time before a move still where there are moves more
pub was_due_on : (number t : ℕ) (ms ms' : List Move) → IsPrefix ms ms' → was_due_at number t ms ≡ true → was_due_at number t ms' ≡ true
was_due_on number t ms ms' front h =
    subst (λ l. was_due_at number t l ≡ true) front.1 (got_in_longer (λ m. option_map_or (λ d. d == t) m.due false) number ms front.0 h)

-- each queue's moves go on
abbrev pub EachGoesOn : List (List Move) → List (List Move) → Type 0
EachGoesOn all all' = (q : ℕ) (d : List Move) → q < length all → IsPrefix (slice_index_or all q d) (slice_index_or all' q d)

module _ (s : Script) (all all' : List (List Move)) (long : length all' ≡ length all) (on : EachGoesOn all all') where
  -- a message was due on one of the queues
  due_on_one : (number t : ℕ) → list_any (was_due_at number t) all ≡ true → list_any (was_due_at number t) all' ≡ true
  due_on_one number t h =
      let at = Any-from_list_any (was_due_at number t) all h in
      list_any_at (was_due_at number t) all' at.0 at.1 (subst (λ (n : ℕ). at.0 < n) (sym long) at.2)
      (was_due_on number t at.1 (slice_index_or all' at.0 at.1) (subst (λ (l : List Move). IsPrefix l (slice_index_or all' at.0 at.1)) at.3 (on at.0 at.1 at.2)) at.4)

  -- an earlier move may still go where it went
  pub may_move_on : (number t : ℕ) → MayMoveTo s all number t → MayMoveTo s all' number t
  may_move_on number t (inr pulse) = inr pulse
  may_move_on number t (inl h) = elim (or_cases (is_planned_time s t) (list_any (was_due_at number t) all) h) [
    | inl planned ↦ inl (or_left _ _ planned)
    | inr due ↦ inl (or_right (is_planned_time s t) _ (due_on_one number t due))
  ]

-- what is so of numbered times is so with one time more
each_numbered : (P : ℕ × ℕ → Type 0) (n : ℕ) (ts : List ℕ) (t : ℕ) → AllByRecursion P (enumerate_from n ts) → P (n + length ts, t) → AllByRecursion P (enumerate_from n (ts ++ t ∷ []))
each_numbered P n [] t h one = (subst (λ (m : ℕ). P (m, t)) (let at : n + 0 ≡ n = omega arith in at) one, tt)
each_numbered P n (x ∷ ts) t h one = (h.0, each_numbered P (n + 1) ts t h.1 (subst (λ (m : ℕ). P (m, t)) (let at : n + suc (length ts) ≡ n + 1 + length ts = omega arith in at) one))

-- and what is so is so where it follows
each_weaker : (P Q : ℕ × ℕ → Type 0) → ((n t : ℕ) → P (n, t) → Q (n, t)) → (n : ℕ) (ts : List ℕ) → AllByRecursion P (enumerate_from n ts) → AllByRecursion Q (enumerate_from n ts)
each_weaker P Q f n [] h = tt
each_weaker P Q f n (t ∷ ts) h = (f n t h.0, each_weaker P Q f (n + 1) ts h.1)

-- main's moves are the first ones
pub main_at : (all : List (List Move)) (d : List Move) → 0 < length all → slice_index_or all 0 d ≡ main_moves all
main_at [] d some = absurd (omega (arith, some))
main_at (ms ∷ all) d some = refl

-- a queue's moves are as they were, or there is one more, to this time, where it was moved as often as main
pub data MayGoOn (now : ℕ) (main : List Move) (ms ms' : List Move) : Type 0 where
  Stays : (same : ms' ≡ ms) → MayGoOn now main ms ms'
  Goes : (m : Move) → (more : ms' ≡ ms ++ m ∷ []) → (to : m.to ≡ now) → (together : move_times ms ≡ move_times main) → MayGoOn now main ms ms'

-- so its moves go on
goes_on : (now : ℕ) (main ms ms' : List Move) → MayGoOn now main ms ms' → IsPrefix ms ms'
goes_on now main ms ms' (Stays same) = ([], append-nil ms ∙ sym same)
goes_on now main ms ms' (Goes m more to together) = (m ∷ [], sym more)

-- one move more is one time more
pub one_time : (ms ms' : List Move) (m : Move) (now : ℕ) → ms' ≡ ms ++ m ∷ [] → m.to ≡ now → move_times ms' ≡ move_times ms ++ now ∷ []
one_time ms ms' m now more to = ap move_times more ∙ map-append (λ (x : Move). x.to) ms (m ∷ []) ∙ ap (λ (t : ℕ). move_times ms ++ t ∷ []) to

-- a queue's times begin main's, as main goes on
times_begin : (now : ℕ) (main main' ms ms' : List Move) → move_times main' ≡ move_times main ++ now ∷ [] → IsPrefix (move_times ms) (move_times main) → MayGoOn now main ms ms' → IsPrefix (move_times ms') (move_times main')
times_begin now main main' ms ms' goes begins (Stays same) =
    subst (λ (l : List Move). IsPrefix (move_times l) (move_times main')) (sym same)
    (prefix_trans (move_times ms) (move_times main) (move_times main') begins (now ∷ [], sym goes))
times_begin now main main' ms ms' goes begins (Goes m more to together) =
    let same : move_times ms' ≡ move_times main' = one_time ms ms' m now more to ∙ ap (λ l. l ++ now ∷ []) together ∙ sym goes in
    subst (IsPrefix (move_times ms')) same (prefix_self (move_times ms'))

-- main is moved to a time to which it may move, and each other queue that was moved as often with it, or not at all
pub moved_together : (s : Script) (now : ℕ) (all all' : List (List Move)) → 0 < length all → length all' ≡ length all
    → ((q : ℕ) (d : List Move) → q < length all → MayGoOn now (main_moves all) (slice_index_or all q d) (slice_index_or all' q d))
    → move_times (main_moves all') ≡ move_times (main_moves all) ++ now ∷ [] → MayMoveTo s all' (length (main_moves all)) now
    → AreMovedTogether s all → AreMovedTogether s all'
moved_together s now all all' some long each goes may h =
    let main = main_moves all in
    let on : EachGoesOn all all' = λ q d lt. goes_on now main (slice_index_or all q d) (slice_index_or all' q d) (each q d lt) in
    let P : ℕ × ℕ → Type 0 = λ (p : ℕ × ℕ). MayMoveTo s all' p.0 p.1 in
    record {
      due = subst (λ (ts : List ℕ). AllByRecursion P (enumerate_from 0 ts)) (sym goes)
          (each_numbered P 0 (move_times main) now
          (each_weaker (λ (p : ℕ × ℕ). MayMoveTo s all p.0 p.1) P (λ n t w. may_move_on s all all' long on n t w) 0 (move_times main) h.due)
          (subst (λ (n : ℕ). MayMoveTo s all' n now) (let at : length main ≡ 0 + length (move_times main) = omega (arith, length-map main (λ (x : Move). x.to)) in at) may));
      together = All_recursive (λ (ms : List Move). IsPrefix (move_times ms) (move_times (main_moves all'))) all' (λ q d lt'.
          let lt : q < length all = subst (λ (n : ℕ). q < n) long lt' in
          times_begin now main (main_moves all') (slice_index_or all q d) (slice_index_or all' q d) goes
          (All_indexed (λ (ms : List Move). IsPrefix (move_times ms) (move_times main)) all h.together q d lt) (each q d lt));
    }

-- the message that was due first on a queue that was moved as often as main and now moves with it
pub due_before : (now : ℕ) (all all' : List (List Move)) (q : ℕ) (d : List Move) (m : Move) → length all' ≡ length all → q < length all → slice_index_or all' q d ≡ slice_index_or all q d ++ m ∷ []
    → move_times (slice_index_or all q d) ≡ move_times (main_moves all) → m.due ≡ Some now → list_any (was_due_at (length (main_moves all)) now) all' ≡ true
due_before now all all' q d m long lt more together due =
    let ms = slice_index_or all q d in
    let as_often : length ms ≡ length (main_moves all) =
    sym (length-map ms (λ (x : Move). x.to)) ∙ ap length together ∙ length-map (main_moves all) (λ (x : Move). x.to) in
    let here : slice_get (ms ++ m ∷ []) (length (main_moves all)) ≡ Some m = ap (slice_get (ms ++ m ∷ [])) (sym as_often) ∙ got_last ms m in
    let was : was_due_at (length (main_moves all)) now (ms ++ m ∷ []) ≡ true =
    ap (λ (o : Option Move). option_map_or (λ x. option_map_or (λ t. t == now) x.due false) o false) here ∙ (ap (λ o. option_map_or (λ t. t == now) o false) due ∙ eq-eqb now now refl) in
    list_any_at (was_due_at (length (main_moves all)) now) all' q d (subst (λ (n : ℕ). q < n) (sym long) lt)
    (ap (was_due_at (length (main_moves all)) now) more ∙ was)
