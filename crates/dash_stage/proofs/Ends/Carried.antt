-- What goes with the kits to the records.
use Rattle.std.proofs.Common.{◌≡◌, ◌<◌, ◌≤◌, ◌+◌, ℕ, suc, List, [], ◌∷◌, ◌++◌, map, length, sym, ap, ◌∙◌, subst, arith, slice_index_or, ◌-◌, get_or, drop, refl, length-append}
use Rattle.std.specs.List.{remove, AllByRecursion, range_with_len}
use Rattle.std.proofs.lemmas.List.{get_or-map, length-map}
use Rattle.std.proofs.lemmas.List.FromFn.{length-range_with_len, get_or-range_with_len}
use Rattle.run_model.specs.Planned.{history_of, entries_by, lines_of, labels_on}
use Rattle.loop_model.specs.declared.entry.Entry.{Entry}
use Rattle.loop_model.specs.declared.record.QueueRecord.{QueueRecord}
use Rattle.loop_model.proofs.WellFormedLaws.{All_recursive}
use Rattle.dash_script.specs.declared.script.Script.{Script}
use Rattle.run_model.specs.Moments.{Mode}
use Rattle.run_model.specs.Parts.{MakeCalls}
use Rattle.run_model.specs.AskedSoFar.{lines_ask}
use Rattle.run_model.specs.FrameRecords.{as_told}
use Rattle.run_model.specs.Run.{IsAsPlanned}
use Rattle.dash_hall.specs.declared.hall.Hall.{Hall}
use Rattle.dash_hall.specs.declared.kit.Kit.{Kit}
use Rattle.dash_hall.specs.Hosts.{pass_asks}
use Rattle.choreographer.specs.Known.{Pass}
use Rattle.dash_threads.specs.declared.thread.PostingThread.{PostingThread}
use Rattle.dash_hall.specs.Kits.{badge_of, badge_for, frame_badge_of, frame_badge_for, IsHall, IsKitOf, AreKitsOf, AreUnusedKits}
use Rattle.dash_threads.specs.Threads.{IsThread, IsUpTo, HasCalled, AreByClock}
use Rattle.dash_stage.specs.Records.{HaveAll, AreOfLoopers, HaveCalledByClock}
use Rattle.dash_hall.specs.Dealing.{AreUsedNowhere, EachGivesPoster}
use Rattle.dash_stage.specs.Runs.{HasRunAll, HaveRunAll, HaveRunFrom}
use Rattle.dash_stage.specs.Stages.{AreThreadsFrom, AreFirstKits, AreFirstThreads, AreKitsFrom, HaveRunBy}
use Rattle.dash_hall.proofs.Badges.{alike_length, queue_count, choreographer_count}
use Rattle.dash_stage.proofs.Ends.HallEnds.{some_of}
use Rattle.dash_stage.proofs.Sharing.{each_more, first_thread, other_threads, kit_of_thread, other_kits, frames_of_thread}
use Rattle.dash_stage.specs.Sharing.{OfKits}
use Rattle.std.specs.Global.{Vec}
use Rattle.loop_model.specs.declared.segment.Segment.{Segment}
use Rattle.looper_run.specs.Holding.{Sender}
use Rattle.shared_queue.specs.Ends.{HaveSealed}
use Rattle.dash_stage.specs.declared.control.Controller.{Controller}
use Rattle.dash_stage.specs.Controllers.{parts_handed_out, parts_in}
use Rattle.dash_stage.specs.Ending.{HavePosters, AreSealed, HasSealedNext, EachEndsPoster}
use Rattle.dash_stage.proofs.Played.KitsOver.{last_kit}

-- ==== what the threads have run is carried from their kits at the start to the records at the end

-- kits that were used nowhere
pub unused_kits : (kits : List Kit) → AreUsedNowhere kits → AreUnusedKits kits
unused_kits kits h = λ k d lt. record { posters = λ q p below. ((h k q d lt).0 p below).0; sealed = λ q p below. ((h k q d lt).0 p below).1; frames = λ q p below. ((h k q d lt).1 p below).0; turns = λ q p below. ((h k q d lt).1 p below).1; own = λ q p below. ((h k q d lt).1 p below).2; handed = λ q p below. ((h k q d lt).1 p below).3; heard = λ q p below. ((h k q d lt).1 p below).4; stamp = λ q p below. ((h k q d lt).1 p below).5; awaits = λ q p below. ((h k q d lt).1 p below).6 }

pub other_unused : (kits : List Kit) → AreUnusedKits kits → 0 < length kits → AreUnusedKits (remove kits 0)
other_unused [] h some = absurd (omega (arith, some))
other_unused (x ∷ kits) h some = λ k d lt. h (suc k) d (omega (arith, lt))

module _ (s : Script) (hall : Hall) where
  -- one thread more was made
  pub thread_made : (n : ℕ) (kits kits' : List Kit) (ts ts' : List PostingThread) (t : PostingThread) → AreKitsFrom s hall n kits → AreUnusedKits kits → 0 < length kits → kits' ≡ remove kits 0
      → length ts ≡ n → AreFirstThreads s hall ts → ((m : Mode) → HaveRunBy m s [] ts) → IsThread s hall t → t.number ≡ n → ((m : Mode) → IsUpTo m s [] t) → ts' ≡ ts ++ t ∷ []
      → AreKitsFrom s hall (n + 1) kits' × AreUnusedKits kits' × (length ts' ≡ n + 1) × AreFirstThreads s hall ts' × ((m : Mode) → HaveRunBy m s [] ts')
  thread_made n kits kits' ts ts' t are unused some rest count first run is number new grown =
      let more : length ts' ≡ length ts + 1 = ap length grown ∙ length-append ts (t ∷ []) in (
        subst (AreKitsFrom s hall (n + 1)) (sym rest) (other_kits s hall n kits are some),
        subst AreUnusedKits (sym rest) (other_unused kits unused some),
        omega (arith, more, count),
        subst (AreFirstThreads s hall) (sym grown) (each_more (λ k (z : PostingThread). IsThread s hall z × (z.number ≡ k)) ts t first (is, number ∙ sym count)),
        λ m. subst (HaveRunBy m s []) (sym grown) (each_more (λ k (z : PostingThread). IsUpTo m s [] z) ts t (run m) (new m)),
      )

  -- the threads' lines behind those of the first one
  other_run : (m : Mode) (n : ℕ) (ts : List PostingThread) → HaveRunFrom m s n ts → 0 < length ts → HaveRunFrom m s (n + 1) (remove ts 0)
  other_run m n [] h some = absurd (omega (arith, some))
  other_run m n (x ∷ ts) h some = λ k d lt. subst (λ i. IsUpTo m s (lines_of i s.blocks) (slice_index_or ts k d)) (let same : suc k + n ≡ k + (n + 1) = omega arith in same) (h (suc k) d (omega (arith, lt)))

  pub run_from : (m : Mode) (ts : List PostingThread) → HaveRunBy m s s.blocks ts → HaveRunFrom m s 0 ts
  run_from m ts h = λ k d lt. subst (λ i. IsUpTo m s (lines_of i s.blocks) (slice_index_or ts k d)) (let same : k ≡ k + 0 = omega arith in same) (h k d lt)

  pub threads_from : (ts : List PostingThread) → (length ts ≡ s.threads) × AreFirstThreads s hall ts → AreThreadsFrom s hall 0 ts
  threads_from ts are =
      let all = are.0 in record {
        count = omega (arith, all);
        each = λ k d lt. let is = are.1 k d lt in (is.0, is.1 ∙ (let same : k ≡ k + 0 = omega arith in same));
      }

  -- a thread that has run all its lines, told by its kit
  kit_has_run : (m : Mode) (n : ℕ) (t : PostingThread) → t.number ≡ n → IsUpTo m s (lines_of n s.blocks) t → HasRunAll m s n t.kit
  kit_has_run m n t number up = record {
    called = subst (λ i. HasCalled m s (lines_of n s.blocks) i t.kit.posters.items) number up.called;
    asked = up.asked;
  }

  -- one thread more has given its kit back
  pub thread_back : (kits kits' : List Kit) (ts ts' : List PostingThread) (t : PostingThread) (kit : Kit) → AreThreadsFrom s hall (length kits) ts → 0 < length ts
      → t ≡ slice_index_or ts 0 t → ts' ≡ remove ts 0 → AreFirstKits s hall kits → kit ≡ t.kit → kits' ≡ kits ++ kit ∷ []
      → AreThreadsFrom s hall (length kits') ts' × AreFirstKits s hall kits'
  thread_back kits kits' ts ts' t kit are some is_t rest first is_kit grown =
      let n = length kits in
      let more : length kits' ≡ n + 1 = ap length grown ∙ length-append kits (kit ∷ []) in
      let here = subst (λ (z : PostingThread). IsThread s hall z × (z.number ≡ n)) (sym is_t) (first_thread s hall n ts t are some) in
      let is_of = subst (IsKitOf s hall n) (sym is_kit) (kit_of_thread s hall n t here.0 here.1) in (
        subst (λ (z : List PostingThread). AreThreadsFrom s hall (length kits') z) (sym rest) (subst (λ i. AreThreadsFrom s hall i (remove ts 0)) (sym more) (other_threads s hall n ts are some)),
        subst (AreFirstKits s hall) (sym grown) (each_more (IsKitOf s hall) kits kit first is_of),
      )

  -- which tells that it has run all its lines, if it has
  pub thread_ran : (m : Mode) (kits kits' : List Kit) (ts ts' : List PostingThread) (t : PostingThread) (kit : Kit) → AreThreadsFrom s hall (length kits) ts → 0 < length ts
      → t ≡ slice_index_or ts 0 t → ts' ≡ remove ts 0 → kit ≡ t.kit → kits' ≡ kits ++ kit ∷ []
      → HaveRunFrom m s (length kits) ts × HaveRunAll m s kits → HaveRunFrom m s (length kits') ts' × HaveRunAll m s kits'
  thread_ran m kits kits' ts ts' t kit are some is_t rest is_kit grown run =
      let n = length kits in
      let more : length kits' ≡ n + 1 = ap length grown ∙ length-append kits (kit ∷ []) in
      let here = subst (λ (z : PostingThread). IsThread s hall z × (z.number ≡ n)) (sym is_t) (first_thread s hall n ts t are some) in
      let up = subst (λ (z : PostingThread). IsUpTo m s (lines_of n s.blocks) z) (sym is_t) (subst (λ i. IsUpTo m s (lines_of i s.blocks) (slice_index_or ts 0 t)) (let same : 0 + n ≡ n = omega arith in same) (run.0 0 t some)) in
      let has = subst (HasRunAll m s n) (sym is_kit) (kit_has_run m n t here.1 up) in (
        subst (λ (z : List PostingThread). HaveRunFrom m s (length kits') z) (sym rest) (subst (λ i. HaveRunFrom m s i (remove ts 0)) (sym more) (other_run m n ts run.0 some)),
        subst (HaveRunAll m s) (sym grown) (each_more (λ k (z : Kit). k < s.threads → HasRunAll m s k z) kits kit run.1 (λ lt. has)),
      )

  -- before the first thread has given its kit back
  pub threads_start : (kits : List Kit) (ts : List PostingThread) → kits ≡ [] → (length ts ≡ s.threads) × AreFirstThreads s hall ts → AreThreadsFrom s hall (length kits) ts × AreFirstKits s hall kits
  threads_start kits ts none are =
      subst (λ (l : List Kit). AreThreadsFrom s hall (length l) ts × AreFirstKits s hall l) (sym none) (threads_from ts are, (λ k d lt. absurd (omega (arith, lt))))

  pub ran_start : (m : Mode) (kits : List Kit) (ts : List PostingThread) → kits ≡ [] → HaveRunBy m s s.blocks ts → HaveRunFrom m s (length kits) ts × HaveRunAll m s kits
  ran_start m kits ts none run =
      subst (λ (l : List Kit). HaveRunFrom m s (length l) ts × HaveRunAll m s l) (sym none) (run_from m ts run, (λ k d lt below. absurd (omega (arith, lt))))

  -- a kit behind those of the threads tells nothing
  pub run_kept : (m : Mode) (kits kits' : List Kit) (kit : Kit) → s.threads ≤ length kits → kits' ≡ kits ++ kit ∷ [] → HaveRunAll m s kits → HaveRunAll m s kits'
  run_kept m kits kits' kit all grown ran =
      subst (HaveRunAll m s) (sym grown) (each_more (λ k (z : Kit). k < s.threads → HasRunAll m s k z) kits kit ran (λ lt. absurd (omega (arith, lt, all))))

module _ {X : Type 0} (f : X → ℕ) (n : ℕ) (xs : List X) (are : map f xs ≡ range_with_len 0 n) where
  -- there is one for each number
  pub numbered_count : length xs ≡ n
  numbered_count = sym (length-map xs f) ∙ ap length are ∙ length-range_with_len 0 n

  -- its number is its place
  pub numbered_at : (i : ℕ) (x : X) → i < length xs → f (slice_index_or xs i x) ≡ i
  numbered_at i x lt =
      sym (get_or-map f xs i x (f x) lt) ∙ ap (λ l. slice_index_or l i (f x)) are ∙ get_or-range_with_len 0 n i (f x) (subst (λ m. i < m) numbered_count lt)
      ∙ (let same : 0 + i ≡ i = omega arith in same)

module _ (s : Script) (hall : Hall) (h : IsHall s hall) (kits : List Kit) (are : AreKitsOf s hall kits) where
  -- each thread's entries in the records are as its lines plan them
  pub planned_records : (m : Mode) → HaveRunAll m s kits → (records : List QueueRecord) → AreOfLoopers s records → HaveAll kits records → AllByRecursion (IsAsPlanned m s) records
  planned_records m run records loopers all = All_recursive (IsAsPlanned m s) records (λ q r lt thread below.
      let count = are.count in
      let in_kits : thread < length kits = omega (arith, below, count) in
      let d = some_of kits thread in_kits in
      let kit = slice_index_or kits thread d in
      let lines = lines_of thread s.blocks in
      let few = numbered_count (λ (z : QueueRecord). z.looper) s.loopers records loopers in
      let long = alike_length badge_of (badge_for thread) kit.posters.items hall.queues.items (are.each thread d in_kits).posters ∙ queue_count hall.lockstep s hall.pool hall.queues.items h.queues in
      let in_posters : q < length kit.posters.items = omega (arith, lt, few, long) in
      let p = some_of kit.posters.items q in_posters in
      let is_q = numbered_at (λ (z : QueueRecord). z.looper) s.loopers records loopers q r lt in
      let made = (run thread d in_kits below).called q p in_posters in
      let same = (all thread q d p r in_kits lt).0 in
      subst (λ l. MakeCalls m s (labels_on l lines) l lines (entries_by thread (history_of (slice_index_or records q r)))) (sym is_q)
      (subst (λ (es : List Entry). MakeCalls m s (labels_on q lines) q lines es) (sym same) made))

  -- each thread's pass asked the looper's choreographer for what the thread's lines ask for, as the mode tells it
  pub threads_asked : (m : Mode) → HaveRunAll m s kits → (q thread : ℕ) (d : Kit) (p : Pass) → q < s.loopers → thread < s.threads
      → map (as_told m.lockstep) (pass_asks (slice_index_or (slice_index_or kits thread d).frames.items q p)) ≡ map (as_told m.lockstep) (lines_ask q (lines_of thread s.blocks))
  threads_asked m run q thread d p lt below =
      let count = are.count in
      let in_kits : thread < length kits = omega (arith, below, count) in
      let kit = slice_index_or kits thread d in
      let marks = (are.each thread d in_kits).frames ∙ frames_of_thread s hall.choreographers.items thread below in
      let long = alike_length frame_badge_of (frame_badge_for thread) kit.frames.items hall.choreographers.items marks ∙ choreographer_count s hall.choreographers.items h.choreographers in
      (run thread d in_kits below).asked q p (omega (arith, lt, long))

-- the moments of all posters in the kits are those of each queue's calls
pub called_by_clock : (m : Mode) (s : Script) (hall : Hall) (kits : List Kit) → IsHall s hall → AreKitsOf s hall kits → OfKits (AreByClock m) kits → HaveCalledByClock m s kits
called_by_clock m s hall kits h are by k q d p lt few =
    let kit = slice_index_or kits k d in
    let long = alike_length badge_of (badge_for k) kit.posters.items hall.queues.items (are.each k d lt).posters ∙ queue_count hall.lockstep s hall.pool hall.queues.items h.queues in
    by k d lt q p (omega (arith, few, long))

-- ==== the parts that the controller kept go with its posters, queue after queue

-- as many lists as posters
lists_count : (ps : List Sender) (lists : List (Vec Segment)) → parts_handed_out ps ≡ parts_in lists → length lists ≡ length ps
lists_count ps lists same =
    let posters = length-map ps (λ (p : Sender). p.view.sealed) in
    let many = length-map lists (λ (v : Vec Segment). v.items) in
    let all = ap length same in
    omega (arith, posters, many, all)

-- the first poster handed out what stands in the first list
first_parts : (ps : List Sender) (lists : List (Vec Segment)) → parts_handed_out ps ≡ parts_in lists → 0 < length ps → (p : Sender) (v : Vec Segment) → (get_or ps 0 p).view.sealed ≡ (get_or lists 0 v).items
first_parts [] lists same some p v = absurd (omega (arith, some))
first_parts (x ∷ ps) [] same some p v = let all = ap length same in absurd (omega (arith, all))
first_parts (x ∷ ps) (y ∷ lists) same some p v = ap (λ l. get_or l 0 []) same

-- and the others what stands in the others
other_parts : (x : Sender) (ps : List Sender) (lists : List (Vec Segment)) → parts_handed_out (x ∷ ps) ≡ parts_in lists → parts_handed_out ps ≡ parts_in (remove lists 0)
other_parts x ps [] same = let all = ap length same in absurd (omega (arith, all))
other_parts x ps (y ∷ lists) same = ap (drop 1) same

module _ (kits : List Kit) (lists : List (Vec Segment)) (sealed : AreSealed kits lists) (have : HavePosters kits) where
  -- there is a list for the next queue
  pub has_list : 0 < length kits → 0 < length lists
  has_list some =
      let k = length kits - 1 in
      let lt : k < length kits = omega (arith, some) in
      let d = some_of kits k lt in
      let many = lists_count (get_or kits k d).posters.items lists (sealed k d (omega (arith, some))) in
      let posters = have k d lt in
      omega (arith, many, posters)

  -- which the last kit's next poster handed out
  pub sealed_next : (v : Vec Segment) → v ≡ get_or lists 0 v → HasSealedNext kits v.items
  sealed_next v is k d p last =
      first_parts (get_or kits k d).posters.items lists (sealed k d last) (have k d (omega (arith, last))) p v ∙ ap (λ (z : Vec Segment). z.items) (sym is)

  -- behind that queue the others are left
  pub sealed_rest : (entries : List Entry) (kits' : List Kit) → EachEndsPoster entries kits kits' → AreSealed kits' (remove lists 0)
  sealed_rest entries kits' ends k d last =
      let same = ends.count in
      let e = ends.each k d (omega (arith, last, same)) in
      other_parts e.poster (get_or kits' k d).posters.items lists (ap parts_handed_out (sym e.posters) ∙ sealed k d (omega (arith, last, same)))

-- the last of the posters that were given handed these parts out
pub given_sealed : (before : List Kit) (posters : List Sender) (after : List Kit) (parts : List Segment) → EachGivesPoster before posters after → HasSealedNext before parts → HaveSealed posters parts
given_sealed before posters after parts gives next k p last =
    let count = gives.count in
    let lt : k < length before = omega (arith, last, count) in
    let d = some_of before k lt in
    let given = (gives.each k d p lt).posters in
    ap (λ l. (get_or l 0 p).view.sealed) (sym given) ∙ next k d p (omega (arith, last, count))

-- with the controller's kit behind all others
pub all_sealed : (kits kits' : List Kit) (c : Controller) → kits' ≡ kits ++ c.kit ∷ [] → parts_handed_out c.kit.posters.items ≡ parts_in c.sealed.items → AreSealed kits' c.sealed.items
all_sealed kits kits' c grown is k d last =
    let more = ap length grown ∙ length-append kits (c.kit ∷ []) in
    let at : k ≡ length kits = omega (arith, last, more) in
    ap (λ (z : Kit). parts_handed_out z.posters.items) (ap (λ m. get_or kits' m d) at ∙ last_kit kits kits' c.kit (length kits) refl grown d) ∙ is
