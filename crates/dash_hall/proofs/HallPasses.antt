-- Which passes of the choreographers each sender has.
use Rattle.std.proofs.Common.{◌≡◌, ◌≢◌, ℕ, zero, suc, ◌+◌, ◌-◌, ◌<◌, ◌≤◌, List, [], ◌∷◌, ◌++◌, map, length, cond, eqb, ltb, refl, sym, ap, ◌∙◌, arith, append_assoc, append-nil}
use Rattle.std.specs.Prelude.{slice_get}
use Rattle.std.proofs.lemmas.Bool.{eq-eqb, ne_eqb, lt-ltb, le-ltb}
use mathlib.Core.Logic.{dite}
use native.Mathlib.Decide.{ℕ_discrete, dec_lt}
use Rattle.dash_script.specs.declared.script.Script.{Script}
use Rattle.choreographer.specs.Known.{SharedFrames}
use Rattle.dash_hall.specs.Kits.{FrameBadge, frame_badge_for, looper_frames, frames_for}
use Rattle.dash_hall.specs.Dealing.{holder_of, given, given_of}

-- what the sender has of the pass of this number
abbrev pub given_one : Script → ℕ → SharedFrames → ℕ → ℕ → List FrameBadge
given_one s looper c k number = cond (eqb (holder_of s looper number) k) (frame_badge_for number c ∷ []) []

-- one number more at the end
pub given_more : (s : Script) (looper : ℕ) (c : SharedFrames) (k from count : ℕ) → given s looper c k from (count + 1) ≡ given s looper c k from count ++ given_one s looper c k (from + count)
given_more s looper c k from zero =
    let one : 0 + 1 ≡ suc 0 = omega arith in
    let same : from + 0 ≡ from = omega arith in
    ap (given s looper c k from) one ∙ (append-nil _ ∙ ap (given_one s looper c k) (sym same))
given_more s looper c k from (suc count) =
    let one : suc count + 1 ≡ suc (count + 1) = omega arith in
    let same : (from + 1) + count ≡ from + suc count = omega arith in
    ap (given s looper c k from) one
    ∙ (ap (λ l. given_one s looper c k from ++ l) (given_more s looper c k (from + 1) count ∙ ap (λ n. given s looper c k (from + 1) count ++ given_one s looper c k n) same)
    ∙ sym (append_assoc (given_one s looper c k from) _ _))

-- numbers in two parts
pub given_parts : (s : Script) (looper : ℕ) (c : SharedFrames) (k from a b : ℕ) → given s looper c k from (a + b) ≡ given s looper c k from a ++ given s looper c k (from + a) b
given_parts s looper c k from zero b =
    let none : 0 + b ≡ b = omega arith in
    let same : from + 0 ≡ from = omega arith in
    ap (given s looper c k from) none ∙ ap (λ n. given s looper c k n b) (sym same)
given_parts s looper c k from (suc a) b =
    let one : suc a + b ≡ suc (a + b) = omega arith in
    let same : (from + 1) + a ≡ from + suc a = omega arith in
    ap (given s looper c k from) one
    ∙ (ap (λ l. given_one s looper c k from ++ l) (given_parts s looper c k (from + 1) a b ∙ ap (λ n. given s looper c k (from + 1) a ++ given s looper c k n b) same)
    ∙ sym (append_assoc (given_one s looper c k from) _ _))

-- a pass of another sender, and one of its own
pub not_given : (s : Script) (looper : ℕ) (c : SharedFrames) (k number h : ℕ) → holder_of s looper number ≡ h → h ≢ k → given_one s looper c k number ≡ []
not_given s looper c k number h is not = ap (λ b. cond b (frame_badge_for number c ∷ []) []) (ap (λ n. eqb n k) is ∙ ne_eqb h k not)

pub is_given : (s : Script) (looper : ℕ) (c : SharedFrames) (k number : ℕ) → holder_of s looper number ≡ k → given_one s looper c k number ≡ frame_badge_for number c ∷ []
is_given s looper c k number is = ap (λ b. cond b (frame_badge_for number c ∷ []) []) (eq-eqb (holder_of s looper number) k is)

-- who has which pass
pub thread_holds : (s : Script) (looper number : ℕ) → number < s.threads → holder_of s looper number ≡ number
thread_holds s looper number lt = ap (λ b. cond b number (cond (ltb number (s.threads + 1)) (s.threads + looper) (s.threads + s.loopers))) (lt-ltb number s.threads lt)

pub looper_holds : (s : Script) (looper number : ℕ) → s.threads ≤ number → number < s.threads + 1 → holder_of s looper number ≡ s.threads + looper
looper_holds s looper number le lt =
    ap (λ b. cond b number (cond (ltb number (s.threads + 1)) (s.threads + looper) (s.threads + s.loopers))) (le-ltb number s.threads le)
    ∙ ap (λ b. cond b (s.threads + looper) (s.threads + s.loopers)) (lt-ltb number (s.threads + 1) lt)

pub controller_holds : (s : Script) (looper number : ℕ) → s.threads + 1 ≤ number → holder_of s looper number ≡ s.threads + s.loopers
controller_holds s looper number le =
    let past : s.threads ≤ number = omega (arith, le) in
    ap (λ b. cond b number (cond (ltb number (s.threads + 1)) (s.threads + looper) (s.threads + s.loopers))) (le-ltb number s.threads past)
    ∙ ap (λ b. cond b (s.threads + looper) (s.threads + s.loopers)) (le-ltb number (s.threads + 1) le)

-- the numbers of the threads: none of them is this sender's
pub given_none : (s : Script) (looper : ℕ) (c : SharedFrames) (k n : ℕ) → n ≤ s.threads → n ≤ k → given s looper c k 0 n ≡ []
given_none s looper c k zero le most = refl
given_none s looper c k (suc n) le most =
    let one : suc n ≡ n + 1 = omega arith in
    let lt : n < s.threads = omega (arith, le) in
    let le' : n ≤ s.threads = omega (arith, le) in
    let most' : n ≤ k = omega (arith, most) in
    let not : n ≢ k = λ e. absurd (omega (arith, e, most)) in
    let zeroth : 0 + n ≡ n = omega arith in
    ap (given s looper c k 0) one
    ∙ (given_more s looper c k 0 n
    ∙ (ap (λ l. l ++ given_one s looper c k (0 + n)) (given_none s looper c k n le' most')
    ∙ (ap (given_one s looper c k) zeroth ∙ not_given s looper c k n n (thread_holds s looper n lt) not)))

-- those of a thread's
pub given_thread : (s : Script) (looper : ℕ) (c : SharedFrames) (k n : ℕ) → n ≤ s.threads → k < n → given s looper c k 0 n ≡ frame_badge_for k c ∷ []
given_thread s looper c k zero le lt = absurd (omega (arith, lt))
given_thread s looper c k (suc n) le lt =
    let one : suc n ≡ n + 1 = omega arith in
    let below : n < s.threads = omega (arith, le) in
    let le' : n ≤ s.threads = omega (arith, le) in
    let zeroth : 0 + n ≡ n = omega arith in
    let more = ap (given s looper c k 0) one ∙ (given_more s looper c k 0 n ∙ ap (λ m. given s looper c k 0 n ++ given_one s looper c k m) zeroth) in
    dite (ℕ_discrete k n)
    (λ is. more ∙ (ap (λ l. l ++ given_one s looper c k n) (given_none s looper c k n le' (omega (arith, is))) ∙ (is_given s looper c k n (thread_holds s looper n below ∙ sym is) ∙ ap (λ m. frame_badge_for m c ∷ []) (sym is))))
    (λ not. more ∙ (ap (λ l. l ++ given_one s looper c k n) (given_thread s looper c k n le' (omega (arith, lt, not))) ∙ ap (λ l. frame_badge_for k c ∷ l) (not_given s looper c k n n (thread_holds s looper n below) (λ e. not (sym e)))))

-- the pass of the looper and the one of the controller
pub given_last : (s : Script) (looper : ℕ) (c : SharedFrames) (k : ℕ) → given s looper c k s.threads 2 ≡ given_one s looper c k s.threads ++ given_one s looper c k (s.threads + 1)
given_last s looper c k = ap (λ l. given_one s looper c k s.threads ++ l) (append-nil _)

given_all_parts : (s : Script) (looper : ℕ) (c : SharedFrames) (k : ℕ) → given_of s looper c k ≡ given s looper c k 0 s.threads ++ (given_one s looper c k s.threads ++ given_one s looper c k (s.threads + 1))
given_all_parts s looper c k =
    let zeroth : 0 + s.threads ≡ s.threads = omega arith in
    given_parts s looper c k 0 s.threads 2 ∙ ap (λ l. given s looper c k 0 s.threads ++ l) (ap (λ m. given s looper c k m 2) zeroth ∙ given_last s looper c k)

-- a thread has the one of its number
pub of_thread : (s : Script) (looper : ℕ) (c : SharedFrames) (k : ℕ) → k < s.threads → given_of s looper c k ≡ frame_badge_for k c ∷ []
of_thread s looper c k lt =
    let a = not_given s looper c k s.threads (s.threads + looper) (looper_holds s looper s.threads (omega arith) (omega arith)) (λ e. absurd (omega (arith, e, lt))) in
    let d = not_given s looper c k (s.threads + 1) (s.threads + s.loopers) (controller_holds s looper (s.threads + 1) (omega arith)) (λ e. absurd (omega (arith, e, lt))) in
    given_all_parts s looper c k ∙ (λ i. given_thread s looper c k s.threads (omega arith) lt i ++ (a i ++ d i))

-- a looper has one of its own choreographer
pub of_looper : (s : Script) (looper : ℕ) (c : SharedFrames) (k : ℕ) → k ≡ s.threads + looper → looper < s.loopers → given_of s looper c k ≡ frame_badge_for s.threads c ∷ []
of_looper s looper c k is lt =
    let a = is_given s looper c k s.threads (looper_holds s looper s.threads (omega arith) (omega arith) ∙ sym is) in
    let d = not_given s looper c k (s.threads + 1) (s.threads + s.loopers) (controller_holds s looper (s.threads + 1) (omega arith)) (λ e. absurd (omega (arith, e, is, lt))) in
    given_all_parts s looper c k ∙ (λ i. given_none s looper c k s.threads (omega arith) (omega (arith, is)) i ++ (a i ++ d i))

-- and none of another one
pub of_other : (s : Script) (looper : ℕ) (c : SharedFrames) (k : ℕ) → s.threads ≤ k → k ≢ s.threads + looper → k ≢ s.threads + s.loopers → given_of s looper c k ≡ []
of_other s looper c k le not not' =
    let a = not_given s looper c k s.threads (s.threads + looper) (looper_holds s looper s.threads (omega arith) (omega arith)) (λ e. not (sym e)) in
    let d = not_given s looper c k (s.threads + 1) (s.threads + s.loopers) (controller_holds s looper (s.threads + 1) (omega arith)) (λ e. not' (sym e)) in
    given_all_parts s looper c k ∙ (λ i. given_none s looper c k s.threads (omega arith) le i ++ (a i ++ d i))

-- the controller has the last
pub of_controller : (s : Script) (looper : ℕ) (c : SharedFrames) (k : ℕ) → k ≡ s.threads + s.loopers → looper < s.loopers → given_of s looper c k ≡ frame_badge_for (s.threads + 1) c ∷ []
of_controller s looper c k is lt =
    let a = not_given s looper c k s.threads (s.threads + looper) (looper_holds s looper s.threads (omega arith) (omega arith)) (λ e. absurd (omega (arith, e, is, lt))) in
    let d = is_given s looper c k (s.threads + 1) (controller_holds s looper (s.threads + 1) (omega arith) ∙ sym is) in
    given_all_parts s looper c k ∙ (λ i. given_none s looper c k s.threads (omega arith) (omega (arith, is)) i ++ (a i ++ d i))

-- what the sender has of these choreographers, of the loopers from `from` on
abbrev pub given_all : Script → ℕ → List SharedFrames → ℕ → List FrameBadge
given_all s from [] k = []
given_all s from (c ∷ cs) k = given_of s from c k ++ given_all s (from + 1) cs k

pub given_all-push : (s : Script) (from : ℕ) (cs : List SharedFrames) (c : SharedFrames) (k n : ℕ) → from + length cs ≡ n → given_all s from (cs ++ c ∷ []) k ≡ given_all s from cs k ++ given_of s n c k
given_all-push s from [] c k n is =
    let same : from ≡ n = omega (arith, is) in
    append-nil _ ∙ ap (λ m. given_of s m c k) same
given_all-push s from (x ∷ xs) c k n is =
    let same : (from + 1) + length xs ≡ n = omega (arith, is) in
    ap (λ l. given_of s from x k ++ l) (given_all-push s (from + 1) xs c k n same) ∙ sym (append_assoc (given_of s from x k) _ _)

all_thread : (s : Script) (from : ℕ) (cs : List SharedFrames) (k : ℕ) → k < s.threads → given_all s from cs k ≡ map (frame_badge_for k) cs
all_thread s from [] k lt = refl
all_thread s from (c ∷ cs) k lt = λ i. of_thread s from c k lt i ++ all_thread s (from + 1) cs k lt i

all_controller : (s : Script) (from : ℕ) (cs : List SharedFrames) (k : ℕ) → k ≡ s.threads + s.loopers → from + length cs ≤ s.loopers → given_all s from cs k ≡ map (frame_badge_for (s.threads + 1)) cs
all_controller s from [] k is le = refl
all_controller s from (c ∷ cs) k is le = λ i. of_controller s from c k is (omega (arith, le)) i ++ all_controller s (from + 1) cs k is (omega (arith, le)) i

-- the loopers behind this one have none of its passes
all_past : (s : Script) (from : ℕ) (cs : List SharedFrames) (looper : ℕ) → looper < s.loopers → looper < from → given_all s from cs (s.threads + looper) ≡ []
all_past s from [] looper lt past = refl
all_past s from (c ∷ cs) looper lt past = λ i. of_other s from c (s.threads + looper) (omega arith) (λ e. absurd (omega (arith, e, past))) (λ e. absurd (omega (arith, e, lt))) i ++ all_past s (from + 1) cs looper lt (omega (arith, past)) i

all_looper : (s : Script) (from : ℕ) (cs : List SharedFrames) (n : ℕ) → from + n < s.loopers → given_all s from cs (s.threads + (from + n)) ≡ looper_frames s.threads (slice_get cs n)
all_looper s from [] n lt = refl
all_looper s from (c ∷ cs) zero lt =
    let same : s.threads + (from + 0) ≡ s.threads + from = omega arith in
    ap (given_all s from (c ∷ cs)) same
    ∙ (λ i. of_looper s from c (s.threads + from) refl (omega (arith, lt)) i ++ all_past s (from + 1) cs from (omega (arith, lt)) (omega arith) i)
all_looper s from (c ∷ cs) (suc n) lt =
    let same : s.threads + (from + suc n) ≡ s.threads + ((from + 1) + n) = omega arith in
    let rest = all_looper s (from + 1) cs n (omega (arith, lt)) in
    ap (given_all s from (c ∷ cs)) same
    ∙ ((λ i. of_other s from c (s.threads + ((from + 1) + n)) (omega arith) (λ e. absurd (omega (arith, e))) (λ e. absurd (omega (arith, e, lt))) i ++ rest i))

-- these are the passes that a sender has
pub given_are : (s : Script) (cs : List SharedFrames) (k : ℕ) → length cs ≡ s.loopers → k < s.threads + s.loopers + 1 → given_all s 0 cs k ≡ frames_for s cs k
given_are s cs k count lt = dite (dec_lt k s.threads)
    (λ thread. all_thread s 0 cs k thread ∙ sym (ap (λ b. cond b (map (frame_badge_for k) cs) later) (lt-ltb k s.threads thread)))
    (λ not. dite (dec_lt k (s.threads + s.loopers))
    (λ looper.
    let zeroth : s.threads + (0 + (k - s.threads)) ≡ k = omega (arith, not) in
    ap (given_all s 0 cs) (sym zeroth)
    ∙ (all_looper s 0 cs (k - s.threads) (omega (arith, not, looper))
    ∙ sym (past (omega (arith, not)) ∙ ap (λ b. cond b (looper_frames s.threads (slice_get cs (k - s.threads))) (map (frame_badge_for (s.threads + 1)) cs)) (lt-ltb k (s.threads + s.loopers) looper))))
    (λ not'.
    all_controller s 0 cs k (omega (arith, not', lt)) (omega (arith, count))
    ∙ sym (past (omega (arith, not)) ∙ ap (λ b. cond b (looper_frames s.threads (slice_get cs (k - s.threads))) (map (frame_badge_for (s.threads + 1)) cs)) (le-ltb k (s.threads + s.loopers) (omega (arith, not'))))))
  where
    later : List FrameBadge
    later = cond (ltb k (s.threads + s.loopers)) (looper_frames s.threads (slice_get cs (k - s.threads))) (map (frame_badge_for (s.threads + 1)) cs)

    past : s.threads ≤ k → frames_for s cs k ≡ later
    past le = ap (λ b. cond b (map (frame_badge_for k) cs) later) (le-ltb k s.threads le)
