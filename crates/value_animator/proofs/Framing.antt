-- One frame, step by step.
use Rattle.std.proofs.Common.{◌≡◌, ℕ, ◌+◌, ◌/◌, ◌<◌, ◌≤◌, List, [], ◌∷◌, ◌++◌, refl, ap, arith, true, false, Bool, sym, ◌∙◌, ◌==◌, nat_le, nat_lt, cond, Option, Some, None, map, reverse, append_assoc}
use Rattle.std.specs.Prelude.{◌&&◌, not, is_some, filter}
use Rattle.std.proofs.lemmas.List.{reverse-append}
use Rattle.std.proofs.lemmas.Bool.Decides.{nat_tests}
use Rattle.frame_phases.specs.declared.entry.Callback.{Callback}
use Rattle.frame_phases.specs.declared.entry.FrameEntry.{FrameEntry}
use Rattle.frame_phases.specs.declared.entry.FrameEntry.TheVariants.{Posted, Begin, Take, Ran}
use Rattle.frame_phases.specs.Frames.{live_callbacks, next_phase, last_time, posted_count, taken_callbacks, take_time, commit_time, is_due, is_undue, in_due_order, before_later}
use Rattle.frame_phases.specs.Pulses.{pulse}
use Rattle.frame_phases.specs.State.{Frames, past, ran, delivered}
use Rattle.value_animator.specs.Framing.{begun, taken_at, posted_again, last_number, IsFrameReady, after_frame}
use Rattle.value_animator.specs.Run.{due_callback, again, frame_entries}

-- the state with more entries, and another schedule
abbrev pub grown : Frames → List FrameEntry → Bool → Option ℕ → Frames
grown s more scheduled asked = record s { entries = s.entries ++ more; scheduled = scheduled; asked = asked }

-- the phase to take, the callbacks in wait, the last frame time and the number of postings
pub record Stands (s : Frames) (at : Option ℕ) (time : ℕ) (alive : List Callback) (count : ℕ) : Type 0 where
  pub phases : s.phases ≡ 4
  pub next : next_phase 4 (past s) ≡ at
  pub last : last_time (past s) ≡ time
  pub live : live_callbacks (past s) ≡ alive
  pub posted : posted_count (past s) ≡ count

time_of_none : (b : Bool) (x y : ℕ) → cond (b && false) x y ≡ y
time_of_none true x y = refl
time_of_none false x y = refl

nothing_of : (es : List FrameEntry) (phase p : ℕ) (alive : List Callback) → live_callbacks es ≡ alive → filter (is_due phase (p / 1000000)) alive ≡ []
    → taken_callbacks es phase p ≡ []
unfolding in_due_order
nothing_of es phase p alive e none = rw (e, none) refl

time_of : (interval phases : ℕ) (es : List FrameEntry) (phase p time : ℕ) → taken_callbacks es phase p ≡ [] → last_time es ≡ time
    → take_time interval phases es phase p ≡ time
time_of interval phases es phase p time none last = rw (none, last) (time_of_none (phase + 1 == phases) (commit_time interval time p) time)

-- a phase that takes nothing
pub took_nothing : (s : Frames) (more : List FrameEntry) (scheduled : Bool) (asked : Option ℕ) (at : Option ℕ) (phase p time count : ℕ) (alive : List Callback)
    → Stands (grown s more scheduled asked) at time alive count → filter (is_due phase (p / 1000000)) alive ≡ []
    → taken_at (grown s more scheduled asked) phase p ≡ grown s (more ++ Take phase p time ∷ []) scheduled asked
took_nothing s more scheduled asked at phase p time count alive h none =
    let es : List FrameEntry = past (grown s more scheduled asked) in
    let nothing : taken_callbacks es phase p ≡ [] = nothing_of es phase p alive h.live none in
    let when : take_time s.interval s.phases es phase p ≡ time = time_of s.interval s.phases es phase p time nothing h.last in
    let entries : (s.entries ++ more) ++ Take phase p (take_time s.interval s.phases es phase p) ∷ map ran (taken_callbacks es phase p) ≡ s.entries ++ (more ++ Take phase p time ∷ []) =
    ap (λ t. (s.entries ++ more) ++ Take phase p t ∷ map ran (taken_callbacks es phase p)) when
    ∙ (ap (λ cs. (s.entries ++ more) ++ Take phase p time ∷ map ran cs) nothing ∙ append_assoc s.entries more (Take phase p time ∷ [])) in
    ap (λ (es : List FrameEntry). record s { entries = es; scheduled = scheduled; asked = asked }) entries

-- the animation phase takes the callback, which is due
pub took_callback : (s : Frames) (more : List FrameEntry) (scheduled : Bool) (asked : Option ℕ) (at : Option ℕ) (p time count number due : ℕ)
    → Stands (grown s more scheduled asked) at time (due_callback number due ∷ []) count → due ≤ p / 1000000
    → taken_at (grown s more scheduled asked) 1 p ≡ grown s (more ++ Take 1 p time ∷ Ran number ∷ []) scheduled asked
unfolding in_due_order before_later
took_callback s more scheduled asked at p time count number due h le =
    let es : List FrameEntry = past (grown s more scheduled asked) in
    let test : nat_le due (p / 1000000) ≡ true = grind (arith, nat_tests) in
    let one : taken_callbacks es 1 p ≡ due_callback number due ∷ [] = rw (h.live, test) refl in
    let when : take_time s.interval s.phases es 1 p ≡ time = rw h.phases h.last in
    let entries : (s.entries ++ more) ++ Take 1 p (take_time s.interval s.phases es 1 p) ∷ map ran (taken_callbacks es 1 p) ≡ s.entries ++ (more ++ Take 1 p time ∷ Ran number ∷ []) =
    ap (λ t. (s.entries ++ more) ++ Take 1 p t ∷ map ran (taken_callbacks es 1 p)) when
    ∙ (ap (λ cs. (s.entries ++ more) ++ Take 1 p time ∷ map ran cs) one ∙ append_assoc s.entries more (Take 1 p time ∷ Ran number ∷ [])) in
    ap (λ (es : List FrameEntry). record s { entries = es; scheduled = scheduled; asked = asked }) entries

-- the callback is posted again
pub posted_more : (s : Frames) (more : List FrameEntry) (asked : Option ℕ) (at : Option ℕ) (p time number : ℕ) (alive : List Callback)
    → Stands (grown s more false asked) at time alive (number + 1)
    → posted_again (grown s more false asked) false p ≡ grown s (more ++ Posted (due_callback (number + 1) (p / 1000000)) ∷ []) true (Some (pulse s.interval p))
posted_more s more asked at p time number alive h =
    let test : nat_lt (p / 1000000) (p / 1000000) ≡ false = grind (arith, nat_tests) in
    let entries : (s.entries ++ more) ++ Posted (due_callback (number + 1) (p / 1000000)) ∷ [] ≡ s.entries ++ (more ++ Posted (due_callback (number + 1) (p / 1000000)) ∷ []) =
    append_assoc s.entries more (Posted (due_callback (number + 1) (p / 1000000)) ∷ []) in
    rw (test, h.posted) (ap (λ (es : List FrameEntry). record s { entries = es; scheduled = true; asked = Some (pulse s.interval p) }) entries)

-- ---- the steps of a frame

-- the entries of a frame up to each step
abbrev pub two : ℕ → List FrameEntry
two p = Begin p p p ∷ []

abbrev pub three : ℕ → List FrameEntry
three p = Begin p p p ∷ Take 0 p p ∷ []

abbrev pub four : ℕ → ℕ → List FrameEntry
four p n = Begin p p p ∷ Take 0 p p ∷ Take 1 p p ∷ Ran n ∷ []

abbrev pub five : ℕ → ℕ → Bool → List FrameEntry
five p n ended = Begin p p p ∷ Take 0 p p ∷ Take 1 p p ∷ Ran n ∷ again p n ended

abbrev pub six : ℕ → ℕ → Bool → List FrameEntry
six p n ended = five p n ended ++ Take 2 p p ∷ []

-- the callbacks that wait behind the animation phase
abbrev pub waiting : ℕ → ℕ → Bool → List Callback
waiting p n true = []
waiting p n false = due_callback (n + 1) (p / 1000000) ∷ []

-- how many callbacks were posted by then
abbrev pub postings : ℕ → Bool → ℕ
postings n true = n + 1
postings n false = n + 2

past_more : (s : Frames) (more : List FrameEntry) → reverse (s.entries ++ more) ≡ reverse more ++ reverse s.entries
past_more s more = reverse-append s.entries more

count_is : (s : Frames) (p : ℕ) → IsFrameReady s p → posted_count (past s) ≡ last_number s + 1
count_is s p h = let some : 0 < posted_count (past s) = h.some_posted in omega arith

pub two_stands : (s : Frames) (p : ℕ) (a : Option ℕ) (h : IsFrameReady s p) → Stands (grown s (two p) false a) (Some 0) p (due_callback (last_number s) h.due ∷ []) (last_number s + 1)
unfolding next_phase last_time live_callbacks posted_count
two_stands s p a h = record {
  phases = h.phases;
  next = rw (past_more s (two p)) refl;
  last = rw (past_more s (two p)) refl;
  live = rw (past_more s (two p)) h.live;
  posted = rw (past_more s (two p)) (count_is s p h);
}

pub three_stands : (s : Frames) (p : ℕ) (a : Option ℕ) (h : IsFrameReady s p) → Stands (grown s (three p) false a) (Some 1) p (due_callback (last_number s) h.due ∷ []) (last_number s + 1)
unfolding next_phase last_time live_callbacks posted_count
three_stands s p a h = record {
  phases = h.phases;
  next = rw (past_more s (three p)) refl;
  last = rw (past_more s (three p)) refl;
  live = rw (past_more s (three p), h.live) refl;
  posted = rw (past_more s (three p)) (count_is s p h);
}

pub four_stands : (s : Frames) (p : ℕ) (a : Option ℕ) (h : IsFrameReady s p) → Stands (grown s (four p (last_number s)) false a) (Some 2) p [] (last_number s + 1)
unfolding next_phase last_time live_callbacks posted_count
four_stands s p a h =
    let due : ℕ = h.due in
    let le : due ≤ p / 1000000 = h.is_due in
    let test : nat_le due (p / 1000000) ≡ true = grind (arith, nat_tests) in
    record {
      phases = h.phases;
      next = rw (past_more s (four p (last_number s))) refl;
      last = rw (past_more s (four p (last_number s))) refl;
      live = rw (past_more s (four p (last_number s)), h.live, test) refl;
      posted = rw (past_more s (four p (last_number s))) (count_is s p h);
    }

-- without the callback all is as before the posting
pub five_is : (s : Frames) (p : ℕ) (a : Option ℕ) (ended : Bool) (h : IsFrameReady s p)
    → posted_again (grown s (four p (last_number s)) false None) ended p
    ≡ grown s (five p (last_number s) ended) (not ended) (cond ended None (Some (pulse s.interval p)))
five_is s p a true h = refl
five_is s p a false h = posted_more s (four p (last_number s)) None (Some 2) p p (last_number s) [] (four_stands s p None h)

pub five_stands : (s : Frames) (p : ℕ) (ended : Bool) (b : Bool) (a : Option ℕ) (h : IsFrameReady s p)
    → Stands (grown s (five p (last_number s) ended) b a) (Some 2) p (waiting p (last_number s) ended) (postings (last_number s) ended)
unfolding next_phase last_time live_callbacks posted_count
five_stands s p true b a h =
    let q = four_stands s p None h in record { phases = q.phases; next = q.next; last = q.last; live = q.live; posted = q.posted }
five_stands s p false b a h =
    let due : ℕ = h.due in
    let le : due ≤ p / 1000000 = h.is_due in
    let test : nat_le due (p / 1000000) ≡ true = grind (arith, nat_tests) in
    let count : posted_count (past s) ≡ last_number s + 1 = count_is s p h in
    let more : posted_count (past s) + 1 ≡ last_number s + 2 = omega arith in
    record {
      phases = h.phases;
      next = rw (past_more s (five p (last_number s) false)) refl;
      last = rw (past_more s (five p (last_number s) false)) refl;
      live = rw (past_more s (five p (last_number s) false), h.live, test) refl;
      posted = rw (past_more s (five p (last_number s) false)) more;
    }

pub six_stands : (s : Frames) (p : ℕ) (ended : Bool) (b : Bool) (a : Option ℕ) (h : IsFrameReady s p)
    → Stands (grown s (six p (last_number s) ended) b a) (Some 3) p (waiting p (last_number s) ended) (postings (last_number s) ended)
unfolding next_phase last_time live_callbacks posted_count
six_stands s p ended b a h =
    let q = five_stands s p ended b a h in
    let e : reverse (s.entries ++ six p (last_number s) ended) ≡ Take 2 p p ∷ reverse (s.entries ++ five p (last_number s) ended) =
    ap reverse (sym (append_assoc s.entries (five p (last_number s) ended) (Take 2 p p ∷ []))) ∙ reverse-append (s.entries ++ five p (last_number s) ended) (Take 2 p p ∷ []) in
    record {
      phases = q.phases;
      next = rw e refl;
      last = rw e refl;
      live = rw (e, q.live) (kept ended);
      posted = rw e q.posted;
    }
  where
    kept : (ended : Bool) → filter (is_undue 2 (p / 1000000)) (waiting p (last_number s) ended) ≡ waiting p (last_number s) ended
    kept true = refl
    kept false = refl

none_due : (phase p n : ℕ) (ended : Bool) → (1 == phase) ≡ false → filter (is_due phase (p / 1000000)) (waiting p n ended) ≡ []
none_due phase p n true other = refl
none_due phase p n false other = rw other refl

-- all that a frame leaves
pub frame_is : (s : Frames) (p : ℕ) (ended : Bool) (h : IsFrameReady s p)
    → taken_at (grown s (six p (last_number s) ended) (not ended) (cond ended None (Some (pulse s.interval p)))) 3 p ≡ after_frame s p ended
frame_is s p ended h =
    took_nothing s (six p (last_number s) ended) (not ended) (cond ended None (Some (pulse s.interval p))) (Some 3) 3 p p (postings (last_number s) ended)
    (waiting p (last_number s) ended) (six_stands s p ended (not ended) (cond ended None (Some (pulse s.interval p))) h) (none_due 3 p (last_number s) ended refl)
    ∙ by_end ended
  where
    by_end : (b : Bool) → grown s (six p (last_number s) b ++ Take 3 p p ∷ []) (not b) (cond b None (Some (pulse s.interval p))) ≡ after_frame s p b
    by_end true = refl
    by_end false = refl

-- ---- the steps of the code

pub step_one : (s x : Frames) (p : ℕ) (r : Option ℕ) → s.asked ≡ Some p → r ≡ delivered s.asked p → x ≡ cond (is_some r) (record s { asked = None }) s
    → x ≡ record s { asked = None }
step_one s x p r asked is new =
    let test : nat_le p p ≡ true = grind (arith, nat_tests) in
    let found : delivered (Some p) p ≡ Some p = rw test refl in
    let some : r ≡ Some p = is ∙ (ap (λ a. delivered a p) asked ∙ found) in
    new ∙ ap (λ o. cond (is_some o) (record s { asked = None }) s) some

pub step_two : (s x y : Frames) (p : ℕ) → x ≡ record s { asked = None } → y ≡ begun x p → y ≡ grown s (two p) false None
step_two s x y p e new = new ∙ ap (λ z. begun z p) e

pub step_three : (s x y : Frames) (p : ℕ) → IsFrameReady s p → x ≡ grown s (two p) false None → y ≡ taken_at x 0 p → y ≡ grown s (three p) false None
step_three s x y p h e new =
    new ∙ (ap (λ z. taken_at z 0 p) e ∙ took_nothing s (two p) false None (Some 0) 0 p p (last_number s + 1) (due_callback (last_number s) h.due ∷ []) (two_stands s p None h) refl)

pub step_four : (s x y : Frames) (p : ℕ) → IsFrameReady s p → x ≡ grown s (three p) false None → y ≡ taken_at x 1 p → y ≡ grown s (four p (last_number s)) false None
step_four s x y p h e new =
    new ∙ (ap (λ z. taken_at z 1 p) e ∙ took_callback s (three p) false None (Some 1) p p (last_number s + 1) (last_number s) h.due (three_stands s p None h) h.is_due)

-- what is asked for behind the posting
abbrev pub asked_for : Frames → ℕ → Bool → Option ℕ
asked_for s p ended = cond ended None (Some (pulse s.interval p))

pub step_five : (s x y : Frames) (p : ℕ) (ended : Bool) → IsFrameReady s p → x ≡ grown s (four p (last_number s)) false None → y ≡ posted_again x ended p
    → y ≡ grown s (five p (last_number s) ended) (not ended) (asked_for s p ended)
step_five s x y p ended h e new = new ∙ (ap (λ z. posted_again z ended p) e ∙ five_is s p None ended h)

pub step_six : (s x y : Frames) (p : ℕ) (ended : Bool) → IsFrameReady s p → x ≡ grown s (five p (last_number s) ended) (not ended) (asked_for s p ended) → y ≡ taken_at x 2 p
    → y ≡ grown s (six p (last_number s) ended) (not ended) (asked_for s p ended)
step_six s x y p ended h e new =
    new ∙ (ap (λ z. taken_at z 2 p) e ∙ took_nothing s (five p (last_number s) ended) (not ended) (asked_for s p ended) (Some 2) 2 p p (postings (last_number s) ended)
    (waiting p (last_number s) ended) (five_stands s p ended (not ended) (asked_for s p ended) h) (none_due 2 p (last_number s) ended refl))

pub step_seven : (s x y : Frames) (p : ℕ) (ended : Bool) → IsFrameReady s p → x ≡ grown s (six p (last_number s) ended) (not ended) (asked_for s p ended) → y ≡ taken_at x 3 p
    → y ≡ after_frame s p ended
step_seven s x y p ended h e new = new ∙ (ap (λ z. taken_at z 3 p) e ∙ frame_is s p ended h)

-- the phase to take next
pub next_at : (x y : Frames) (phase time count : ℕ) (alive : List Callback) → x ≡ y → Stands y (Some phase) time alive count → next_phase x.phases (past x) ≡ Some phase
next_at x y phase time count alive e st =
    ap (λ z. next_phase z.phases (past z)) e ∙ (ap (λ n. next_phase n (past y)) st.phases ∙ st.next)

-- ---- the next frame

pub again_stands : (s : Frames) (p : ℕ) (h : IsFrameReady s p)
    → Stands (after_frame s p false) None p (due_callback (last_number s + 1) (p / 1000000) ∷ []) (last_number s + 2)
unfolding next_phase last_time live_callbacks posted_count
again_stands s p h =
    let due : ℕ = h.due in
    let le : due ≤ p / 1000000 = h.is_due in
    let test : nat_le due (p / 1000000) ≡ true = grind (arith, nat_tests) in
    let count : posted_count (past s) ≡ last_number s + 1 = count_is s p h in
    let more : posted_count (past s) + 1 ≡ last_number s + 2 = omega arith in
    record {
      phases = h.phases;
      next = rw (past_more s (frame_entries p (last_number s) false)) refl;
      last = rw (past_more s (frame_entries p (last_number s) false)) refl;
      live = rw (past_more s (frame_entries p (last_number s) false), h.live, test) refl;
      posted = rw (past_more s (frame_entries p (last_number s) false)) more;
    }

-- the state after a frame that posts again is ready for the next pulse
pub ready_again : (s : Frames) (p q : ℕ) → IsFrameReady s p → q ≡ pulse s.interval p → p ≤ q → IsFrameReady (after_frame s p false) q
ready_again s p q h e le =
    let st = again_stands s p h in
    let count : posted_count (past (after_frame s p false)) ≡ last_number s + 2 = st.posted in
    let number : last_number (after_frame s p false) ≡ last_number s + 1 = omega arith in
    let last_is : last_time (past (after_frame s p false)) ≡ p = st.last in
    let alive : live_callbacks (past (after_frame s p false)) ≡ due_callback (last_number s + 1) (p / 1000000) ∷ [] = st.live in
    record {
      phases = h.phases;
      interval = h.interval;
      scheduled = refl;
      asked = ap (λ x. Some x) (sym e);
      next = rw h.phases st.next;
      last = omega arith;
      some_posted = omega arith;
      due = p / 1000000;
      is_due = omega arith;
      live = alive ∙ ap (λ n. due_callback n (p / 1000000) ∷ []) (sym number);
    }
