-- How all senders hear each other, and which kits they come from.
use Rattle.std.proofs.Common.{◌≡◌, ◌<◌, ℕ, arith, Bool, true, false, List, length, slice_index_or, sym, ap, ◌∙◌, subst, get_or, ◌+◌, ◌≤◌, refl, set, ◌≢◌, Some, ◌-◌, zero, suc, [], ◌∷◌, ◌++◌, map, if◌then◌else◌, nat_lt, slice_get}
use Rattle.std.specs.Prelude.{not, replicate}
use Rattle.std.proofs.lemmas.Bool.{ne_eqb, lt-ltb, le-ltb}
use Rattle.dash_loopers.specs.declared.looper.StageLooper.{StageLooper}
use Rattle.looper_run.specs.Round.{is_ended}
use Rattle.dash_hall.specs.Hearing.{HaveHeard, AtEach, AreKept, HaveHeardAt, AreReady, HaveSeenAt, PassHasHeard, PassesHaveHeardAt, ArePassesKnown, HaveSeenAll, HasHeardAll, HaveHeardAllAt, ArePassesReady, seen_by}
use Rattle.dash_loopers.specs.Loopers.{LooperKeeps, posters_of, OfItsPass, LooperTellsPass, LooperHearsPass, LooperRest, rest_in, IsLooper}
use Rattle.dash_stage.specs.declared.side.Turn.{Turn}
use Rattle.dash_stage.specs.declared.side.Turn.TheVariants.{All, Main, Others}
use Rattle.dash_stage.specs.Turns.{has_turn, AwaitTheirTurn, RunsInTurn, HaveRunRound}
use Rattle.dash_stage.specs.Stages.{AreLoopers, OthersHaveEnded, AreThreads, IsStageIn, HaveRunBy, AreKitsFrom, AreThreadsFrom, AreLoopersFrom, AreFirstKits, AreFirstLoopers, AreSenderKits}
use Rattle.dash_script.specs.declared.script.Script.{Script}
use Rattle.dash_hall.specs.declared.hall.Hall.{Hall}
use Rattle.dash_hall.proofs.Hearing.{have_heard_self, have_heard_then, have_heard, heard_badges, heard_parts, seen_here, seen_elsewhere, seen_same}
use Rattle.dash_loopers.proofs.LooperShares.{looper_self, looper_then, within_then, looper_weaker, looper_kept, looper_within, looper_posters, looper_parts}
use Rattle.looper_run.specs.Holding.{Sender}
use Rattle.dash_hall.proofs.OneByOne.{of_then}
use Rattle.dash_threads.specs.declared.thread.PostingThread.{PostingThread}
use Rattle.dash_threads.specs.Threads.{ThreadKeeps, TellsPass, HearsPass, IsThread}
use Rattle.dash_stage.specs.Sharing.{OfThreads, OfLoopers, AreWithin, HaveSeenTheSame, ControllerKeeps, StageKeeps, OfSenders, SharesAt, OfPasses, HavePassesHeard, SharesFramesAt}
use Rattle.std.specs.Global.{Vec}
use Rattle.std.proofs.lemmas.List.{get_or_past, get_or-set_same, get_or-set_other, get_or_default, length-set, length-append, map-append}
use mathlib.Core.Logic.{dite}
use native.Mathlib.Decide.{ℕ_discrete, dec_lt}
use Rattle.atomic_table.specs.Seated.{TableId}
use Rattle.loop_model.specs.declared.entry.Entry.{Entry}
use Rattle.frame_phases.specs.declared.entry.FrameEntry.{FrameEntry}
use Rattle.dash_script.specs.declared.script.Block.{Block}
use Rattle.shared_queue.specs.Known.{Shared, IsOf}
use Rattle.run_model.specs.Planned.{controller, lines_of}
use Rattle.run_model.specs.Moments.{Mode}
use Rattle.dash_stage.specs.declared.control.Controller.{Controller}
use Rattle.dash_stage.specs.declared.stage.Stage.{Stage}
use Rattle.dash_hall.specs.Growth.{own}
use Rattle.dash_hall.specs.Kits.{badge_of, badge_for, IsHall, ArePostersOf, FrameBadge, frame_badge_of, frame_badge_for, frames_for, looper_frames, IsKitOf, AreKitsOf, AreUnusedKits, IsUnusedKit}
use Rattle.dash_stage.specs.Controllers.{IsControllerIn, CallsNone, HaveHandedOut, parts_in, parts_handed_out}
use Rattle.dash_hall.proofs.Badges.{alike_length, poster_at, queue_count, pass_at, choreographer_count}
use Rattle.dash_hall.proofs.PassesHearing.{passes_heard_self, passes_heard_then, passes_heard_badges, pass_heard_then, passes_known_more, passes_heard_at}
use Rattle.dash_hall.proofs.Sharing.{each_weaker, each_self, each_then, FirstAre, next_within, first_more, first_weaker}
use Rattle.dash_stage.proofs.Controller.Controlling.{handed_heard, nothing_handed_out}
use Rattle.dash_threads.proofs.ThreadShares.{thread_self, thread_weaker, thread_then, thread_kept, up_to_kept}
use Rattle.choreographer.specs.Known.{SharedFrames, Pass, IsPassOf}
use Rattle.std.proofs.lemmas.Option.{same_Some, slice_get_read}
use Rattle.std.specs.List.{remove, range_with_len}
use Rattle.loop_model.specs.declared.journal.Journal.{Journal}
use Rattle.loop_model.specs.declared.segment.Segment.{Segment}
use Rattle.dash_hall.specs.declared.kit.Kit.{Kit}
use Rattle.dash_stage.proofs.Ends.HallEnds.{numbers_more}

-- ==== which loopers run a round, and what the others have heard

-- the same of the same loopers
pub of_same : (R : StageLooper → StageLooper → Type 0) (a b x y : StageLooper) → a ≡ x → b ≡ y → R a b → R x y
of_same R a b x y before after h = subst (λ (z : StageLooper). R z y) before (subst (R a) after h)

-- each has run in its turn
pub round_of : (turn : Turn) (s : Script) (hall : Hall) (now : ℕ) (xs ys : List StageLooper) → AreLoopers s hall xs → length ys ≡ length xs
    → ((k : ℕ) (d : StageLooper) → k < length xs → RunsInTurn turn s hall now (slice_index_or xs k d) (slice_index_or ys k d)) → HaveRunRound turn s hall now xs ys
round_of turn s hall now xs ys are long each =
    let at : (b : Bool) (k : ℕ) (d : StageLooper) → k < length xs → has_turn turn k ≡ b → has_turn turn (slice_index_or xs k d).number ≡ b =
    λ b k d lt h. subst (λ (n : ℕ). has_turn turn n ≡ b) (sym (are.1 k d lt).1) h in
    record {
      loopers = (long ∙ are.0, λ k d lt'. (let lt : k < length xs = subst (λ (n : ℕ). k < n) long lt' in ((each k d lt).0, (each k d lt).1 ∙ (are.1 k d lt).1)));
      waits = λ k d lt h. (each k d lt).3 (at true k d lt h);
      rounds = λ k d lt h. (each k d lt).4 (at true k d lt h);
      others = λ k d lt h. (each k d lt).5 (at false k d lt h);
      plays = λ k d lt. (each k d lt).6;
    }

-- all have their turn
pub all_have_turn : (turn : Turn) (k : ℕ) → turn ≡ All → has_turn turn k ≡ true
all_have_turn turn k all = ap (λ (t : Turn). has_turn t k) all

-- all but the main one have theirs
pub others_have_turn : (k : ℕ) → 0 < k → has_turn Others k ≡ true
others_have_turn k some = ap not (ne_eqb k 0 (λ e. absurd (omega (arith, e, some))))

-- as they are
pub awaited_self : (turn : Turn) (xs : List StageLooper) → AwaitTheirTurn turn xs xs
awaited_self turn xs k d lt other = looper_self HaveHeard have_heard_self (slice_index_or xs k d)

-- those that were as before have heard others since
pub awaited_heard : (turn : Turn) (xs ys zs : List StageLooper) → length ys ≡ length xs
    → ((k : ℕ) (d : StageLooper) → k < length xs → has_turn turn k ≡ false → slice_index_or ys k d ≡ slice_index_or xs k d)
    → AtEach (LooperKeeps HaveHeard) ys zs → AwaitTheirTurn turn xs zs
awaited_heard turn xs ys zs long stay heard k d lt other =
    subst (λ (l : StageLooper). LooperKeeps HaveHeard l (slice_index_or zs k d)) (stay k d lt other) (heard.each k d (subst (λ (n : ℕ). k < n) (sym long) lt))

-- one after the other
pub awaited_then : (turn : Turn) (xs ys zs : List StageLooper) → length ys ≡ length xs → AwaitTheirTurn turn xs ys → AwaitTheirTurn turn ys zs → AwaitTheirTurn turn xs zs
awaited_then turn xs ys zs long f g k d lt other =
    looper_then HaveHeard HaveHeard HaveHeard have_heard_then (slice_index_or xs k d) (slice_index_or ys k d) (slice_index_or zs k d) (f k d lt other) (g k d (subst (λ (n : ℕ). k < n) (sym long) lt) other)

-- where the main one ran, each other that had ended has done so still
pub awaited_ended : (xs ys : List StageLooper) → length ys ≡ length xs → AwaitTheirTurn Main xs ys → OthersHaveEnded xs → OthersHaveEnded ys
awaited_ended xs ys long others ended k d some lt =
    let within : k < length xs = subst (λ (n : ℕ). k < n) long lt in
    ap is_ended (others k d within (ne_eqb k 0 (λ e. absurd (omega (arith, e, some))))).last ∙ ended k d some within

-- ==== what stays of the posters of all threads, and of all loopers

-- what holds of the threads' posters before holds of them after
pub of_threads_then : (P Q : List Sender → Type 0) (R : List Sender → List Sender → Type 0) → ((a b : List Sender) → R a b → P a → Q b) → (xs ys : List PostingThread) → AtEach (ThreadKeeps R) xs ys → OfThreads P xs → OfThreads Q ys
of_threads_then P Q R h xs ys e of = of_then (λ (t : PostingThread). t.kit.posters.items) (ThreadKeeps R) P Q (λ x y k. h x.kit.posters.items y.kit.posters.items k.posters) xs ys e of

-- what holds of the loopers' posters before holds of them after
pub of_loopers_then : (P Q : List Sender → Type 0) (R : List Sender → List Sender → Type 0) → ((a b : List Sender) → R a b → P a → Q b) → (xs ys : List StageLooper) → AtEach (LooperKeeps R) xs ys → OfLoopers P xs → OfLoopers Q ys
of_loopers_then P Q R h xs ys e of = of_then posters_of (LooperKeeps R) P Q (λ x y k. h (posters_of x) (posters_of y) k.posters) xs ys e of

-- each looper's number stays that of one of its posters
pub loopers_within : (xs ys : List StageLooper) → AtEach (LooperKeeps AreKept) xs ys → AreWithin xs → AreWithin ys
loopers_within xs ys e w = λ k d lt.
    let long = e.long in
    let within : k < length xs = omega (arith, lt) in
    let same = e.each k d within in
    within_then (get_or xs k d) (get_or ys k d) same.number (ap length same.posters) (w k d within)

-- ==== a stage whose senders hear each other, queue after queue

-- the controller stays it
pub controller_kept : {lockstep : Bool} (s : Script) (hall : Hall) (a b : Controller) → ControllerKeeps HaveHeard a b → IsControllerIn lockstep s hall a → IsControllerIn lockstep s hall b
controller_kept s hall a b k is = record {
  posters = heard_badges a.kit.posters.items b.kit.posters.items k.posters ∙ is.posters;
  frames = passes_heard_badges a.kit.frames.items b.kit.frames.items k.frames ∙ is.frames;
  pass = ap (λ t. t.home) k.pass ∙ is.pass;
  mode = is.mode;
  sealed = heard_parts a.kit.posters.items b.kit.posters.items k.posters ∙ (is.sealed ∙ ap (λ v. parts_in v.items) (sym k.sealed));
  sealed_frames = subst (λ (v : Vec (Vec (List FrameEntry))). HaveHandedOut b.kit.frames.items v.items) (sym k.sealed_frames) (handed_heard a.kit.frames.items b.kit.frames.items a.sealed_frames.items k.frames is.sealed_frames);
  idle = λ q p lt.
      let many = k.frames.long in
      let near : q < length a.kit.frames.items = omega (arith, lt, many) in
      (k.frames.each q p near).same.own ∙ is.idle q p near;
}

-- it has called nothing
pub calls_none : (a b : Controller) → ControllerKeeps HaveHeard a b → CallsNone a b
calls_none a b k = record {
  long = k.posters.long;
  calls = λ q d. dite (dec_lt q (length a.kit.posters.items))
      (λ lt. (k.posters.each q d lt).called)
      (λ not.
      let past : length a.kit.posters.items ≤ q = omega arith in
      let past' : length b.kit.posters.items ≤ q = omega (arith, past, k.posters.long) in
      ap own (get_or_past b.kit.posters.items q d past' ∙ sym (get_or_past a.kit.posters.items q d past)));
}

-- each looper that has ended stays so
pub ended_kept : (R : List Sender → List Sender → Type 0) (xs ys : List StageLooper) → AtEach (LooperKeeps R) xs ys → OthersHaveEnded xs → OthersHaveEnded ys
ended_kept R xs ys e h = λ k d some lt.
    let long = e.long in
    let within : k < length xs = omega (arith, lt) in
    ap is_ended (e.each k d within).last ∙ h k d some within

-- each thread has come as far
pub run_kept : (m : Mode) (s : Script) (bs : List Block) (xs ys : List PostingThread) → AtEach (ThreadKeeps HaveHeard) xs ys → HaveRunBy m s bs xs → HaveRunBy m s bs ys
run_kept m s bs xs ys e h = λ k d lt.
    let long = e.long in
    let within : k < length xs = omega (arith, lt) in
    up_to_kept m s (lines_of k bs) (get_or xs k d) (get_or ys k d) (e.each k d within) (h k d within)

-- a stage is one of its hall's mode
pub stage_in_its_mode : {lockstep : Bool} (s : Script) (st : Stage) → IsStageIn lockstep s st → IsStageIn st.hall.lockstep s st
stage_in_its_mode s st is = subst (λ (b : Bool). IsStageIn b s st) (sym is.controller.mode) is

-- the stage stays the script's
pub stage_kept : {lockstep : Bool} (s : Script) (a b : Stage) → StageKeeps HaveHeard a b → IsStageIn lockstep s a → IsStageIn lockstep s b
stage_kept {lockstep} s a b k is =
    let hall = k.hall in
    let longs = k.threads.long in
    let longs' = k.loopers.long in
    record {
      text = is.text;
      hall = subst (IsHall s) (sym hall) is.hall;
      threads = subst (λ (h : Hall). AreThreads s h b.threads.items) (sym hall) (
        longs ∙ is.threads.0,
        λ j d lt.
            let within : j < length a.threads.items = omega (arith, lt) in
            let same = k.threads.each j d within in
            let was = is.threads.1 j d within in
            (thread_kept s a.hall (get_or a.threads.items j d) (get_or b.threads.items j d) same was.0, same.number ∙ was.1),
      );
      loopers = subst (λ (h : Hall). AreLoopers s h b.loopers.items) (sym hall) (
        longs' ∙ is.loopers.0,
        λ j d lt.
            let within : j < length a.loopers.items = omega (arith, lt) in
            let same = k.loopers.each j d within in
            let was = is.loopers.1 j d within in
            (looper_kept s a.hall is.hall (get_or a.loopers.items j d) was.0 (get_or b.loopers.items j d) same, same.number ∙ was.1),
      );
      controller = subst (λ (h : Hall). IsControllerIn lockstep s h b.controller) (sym hall) (controller_kept s a.hall a.controller b.controller k.controller is.controller);
      pass = ap (λ t. t.home) k.pass ∙ (is.pass ∙ ap (λ h. h.pool) (sym hall));
    }

-- a stage as it is
pub stage_self : (a : Stage) → StageKeeps HaveHeard a a
stage_self a = record {
  hall = refl;
  threads = each_self (ThreadKeeps HaveHeard) a.threads.items (thread_self HaveHeard have_heard_self);
  loopers = each_self (LooperKeeps HaveHeard) a.loopers.items (looper_self HaveHeard have_heard_self);
  controller = record { posters = have_heard_self a.controller.kit.posters.items; pass = refl; frames = passes_heard_self a.controller.kit.frames.items; sealed = refl; sealed_frames = refl };
  pass = refl;
  time = refl;
}

-- so with posters that are as they were
pub kept_self : (a : Stage) → StageKeeps AreKept a a
kept_self a = record {
  hall = refl;
  threads = each_self (ThreadKeeps AreKept) a.threads.items (thread_self AreKept (λ ps. refl));
  loopers = each_self (LooperKeeps AreKept) a.loopers.items (looper_self AreKept (λ ps. refl));
  controller = record { posters = refl; pass = refl; frames = passes_heard_self a.controller.kit.frames.items; sealed = refl; sealed_frames = refl };
  pass = refl;
  time = refl;
}

-- what follows from it for the posters
stage_weaker_by : (R S : List Sender → List Sender → Type 0) → ((ps qs : List Sender) → R ps qs → S ps qs) → (a b : Stage) → StageKeeps R a b → StageKeeps S a b
stage_weaker_by R S h a b k = record {
  hall = k.hall;
  threads = each_weaker (ThreadKeeps R) (ThreadKeeps S) a.threads.items b.threads.items (thread_weaker R S h) k.threads;
  loopers = each_weaker (LooperKeeps R) (LooperKeeps S) a.loopers.items b.loopers.items (looper_weaker R S h) k.loopers;
  controller = record { posters = h a.controller.kit.posters.items b.controller.kit.posters.items k.controller.posters; pass = k.controller.pass; frames = k.controller.frames; sealed = k.controller.sealed; sealed_frames = k.controller.sealed_frames };
  pass = k.pass;
  time = k.time;
}

pub kept_heard : (a b : Stage) → StageKeeps AreKept a b → StageKeeps HaveHeard a b
kept_heard a b k = stage_weaker_by AreKept HaveHeard (λ ps qs same. subst (HaveHeard ps) (sym same) (have_heard_self ps)) a b k

-- the posters of one queue heard others, and so those of each may have
pub stage_weaker : (place : ℕ) (whole : List Entry) (a b : Stage) → StageKeeps (HaveHeardAt place whole) a b → StageKeeps HaveHeard a b
stage_weaker place whole a b k = stage_weaker_by (HaveHeardAt place whole) HaveHeard (have_heard place whole) a b k

-- one after the other
stage_then_by : (R : List Sender → List Sender → Type 0) → ((ps qs rs : List Sender) → R ps qs → R qs rs → R ps rs) → (a b c : Stage) → StageKeeps R a b → StageKeeps R b c → StageKeeps R a c
stage_then_by R h a b c f g =
    record {
      hall = g.hall ∙ f.hall;
      threads = each_then (ThreadKeeps R) (ThreadKeeps R) (ThreadKeeps R) a.threads.items b.threads.items c.threads.items (thread_then R R R h) f.threads g.threads;
      loopers = each_then (LooperKeeps R) (LooperKeeps R) (LooperKeeps R) a.loopers.items b.loopers.items c.loopers.items (looper_then R R R h) f.loopers g.loopers;
      controller = record {
        posters = h a.controller.kit.posters.items b.controller.kit.posters.items c.controller.kit.posters.items f.controller.posters g.controller.posters;
        pass = g.controller.pass ∙ f.controller.pass;
        frames = passes_heard_then a.controller.kit.frames.items b.controller.kit.frames.items c.controller.kit.frames.items f.controller.frames g.controller.frames;
        sealed = g.controller.sealed ∙ f.controller.sealed;
        sealed_frames = g.controller.sealed_frames ∙ f.controller.sealed_frames;
      };
      pass = g.pass ∙ f.pass;
      time = g.time ∙ f.time;
    }

pub stage_then : (a b c : Stage) → StageKeeps HaveHeard a b → StageKeeps HaveHeard b c → StageKeeps HaveHeard a c
stage_then a b c f g = stage_then_by HaveHeard have_heard_then a b c f g

pub kept_then : (a b c : Stage) → StageKeeps AreKept a b → StageKeeps AreKept b c → StageKeeps AreKept a c
kept_then a b c f g = stage_then_by AreKept (λ ps qs rs one two. two ∙ one) a b c f g

-- what holds of all senders' posters before holds of them after
pub of_senders_then : (P Q : List Sender → Type 0) (R : List Sender → List Sender → Type 0) → ((ps qs : List Sender) → R ps qs → P ps → Q qs) → (a b : Stage) → StageKeeps R a b → OfSenders P a → OfSenders Q b
of_senders_then P Q R h a b k of = record {
  threads = of_threads_then P Q R h a.threads.items b.threads.items k.threads of.threads;
  loopers = of_loopers_then P Q R h a.loopers.items b.loopers.items k.loopers of.loopers;
  controller = h a.controller.kit.posters.items b.controller.kit.posters.items k.controller.posters of.controller;
}

-- all senders have seen the same of the first n queues' histories
abbrev pub ShareFirst : ℕ → Stage → Type 0
ShareFirst n st = (q : ℕ) → q < n → (whole : List Entry) × OfSenders (HaveSeenAt q whole) st

-- none of the queues
pub share_none : (st : Stage) → ShareFirst 0 st
share_none st = λ q lt. absurd (omega (arith, lt))

-- one queue more
pub share_more : (n : ℕ) (a b : Stage) → SharesAt n a b → ShareFirst n a → ShareFirst (n + 1) b
share_more n a b sh all = λ q lt. dite (ℕ_discrete q n)
    (λ e.
    let any : List Sender → Type 0 = λ ps. ps ≡ ps in
    let before : OfSenders any a = record { threads = λ k d near. refl; loopers = λ k d near. refl; controller = refl } in
    subst (λ (m : ℕ). (whole : List Entry) × OfSenders (HaveSeenAt m whole) b) (sym e)
    (sh.0, of_senders_then any (HaveSeenAt n sh.0) (HaveHeardAt n sh.0) (λ ps qs h u. seen_here n sh.0 ps qs h) a b sh.1 before))
    (λ not.
    let w = all q (omega (arith, lt)) in
    (w.0, of_senders_then (HaveSeenAt q w.0) (HaveSeenAt q w.0) (HaveHeardAt n sh.0) (seen_elsewhere n q sh.0 w.0 not) a b sh.1 w.1))

module _ (s : Script) (hall : Hall) (h : IsHall s hall) where
  -- one poster of each queue is as many as there are loopers
  count : (k : ℕ) (ps : List Sender) → ArePostersOf k hall.queues.items ps → length ps ≡ s.loopers
  count k ps are = alike_length badge_of (badge_for k) ps hall.queues.items are ∙ queue_count hall.lockstep s hall.pool hall.queues.items h.queues

  -- a sender's posters, one of each queue
  pub posters_ready : (place : ℕ) → place < s.loopers → (queue : Shared TableId) → queue ≡ get_or hall.queues.items place queue → (k : ℕ) (ps : List Sender) → ArePostersOf k hall.queues.items ps → AreReady place queue ps
  posters_ready place near queue at k ps are =
      let within : place < length ps = omega (arith, near, count k ps are) in
      (within, λ d. subst (λ (q : Shared TableId). IsOf (get_or ps place d) q) (sym at) (poster_at k hall.queues.items ps are place d queue within).0)

module _ {lockstep : Bool} (s : Script) (st : Stage) (is : IsStageIn lockstep s st) where
  -- each of the stage's senders has so many
  counts : OfSenders (λ ps. length ps ≡ s.loopers) st
  counts = record {
    threads = λ k d lt. count s st.hall is.hall (get_or st.threads.items k d).number (get_or st.threads.items k d).kit.posters.items (is.threads.1 k d lt).0.posters;
    loopers = λ k d lt. (let l = get_or st.loopers.items k d in count s st.hall is.hall (s.threads + l.number) (posters_of l) (looper_posters s st.hall is.hall l (is.loopers.1 k d lt).0));
    controller = count s st.hall is.hall (controller s) st.controller.kit.posters.items is.controller.posters;
  }

  -- all queues
  pub share_all : (n : ℕ) → s.loopers ≤ n → ShareFirst n st → HaveSeenTheSame st
  share_all n all shared =
      let c = counts in
      let cs = st.controller.kit.posters.items in
      record {
        threads = λ k d lt. seen_same s.loopers (get_or st.threads.items k d).kit.posters.items cs (c.threads k d lt) c.controller
            (λ q near. (let w = shared q (omega (arith, near, all)) in (w.0, w.1.threads k d lt, w.1.controller)));
        loopers = λ k d lt. seen_same s.loopers (posters_of (get_or st.loopers.items k d)) cs (c.loopers k d lt) c.controller
            (λ q near. (let w = shared q (omega (arith, near, all)) in (w.0, w.1.loopers k d lt, w.1.controller)));
        controller = refl;
      }

  module _ (place : ℕ) (near : place < s.loopers) (queue : Shared TableId) (at : queue ≡ get_or st.hall.queues.items place queue) where
    -- a sender's posters, one of each queue
    ready : (k : ℕ) (ps : List Sender) → ArePostersOf k st.hall.queues.items ps → AreReady place queue ps
    ready = posters_ready s st.hall is.hall place near queue at

    -- each thread has a poster of the queue at this place
    pub threads_ready : OfThreads (AreReady place queue) st.threads.items
    threads_ready k d lt = (let t = get_or st.threads.items k d in ready t.number t.kit.posters.items (is.threads.1 k d lt).0.posters)

    -- so has each looper
    pub loopers_ready : OfLoopers (AreReady place queue) st.loopers.items
    loopers_ready k d lt = (let l = get_or st.loopers.items k d in ready (s.threads + l.number) (posters_of l) (looper_posters s st.hall is.hall l (is.loopers.1 k d lt).0))

    -- and the controller
    pub controller_ready : AreReady place queue st.controller.kit.posters.items
    controller_ready = ready (controller s) st.controller.kit.posters.items is.controller.posters

  -- each looper's number is that of one of its posters
  pub are_within : AreWithin st.loopers.items
  are_within k d lt = looper_within s st.hall is.hall (get_or st.loopers.items k d) (is.loopers.1 k d lt).0

-- ==== passes of a choreographer that hear each other, thread after thread

-- a pass that heard others is still one of its choreographer
pub still_of : (p q : Pass) (c : SharedFrames) → PassHasHeard p q → IsPassOf p c → IsPassOf q c
still_of p q c h is = (h.same.table ∙ is.0, h.same.constants ∙ is.1)

-- a thread that let a pass hear, to which its own pass at this place is known
pub record TellsAll (place : ℕ) (whole : List (ℕ × FrameEntry)) (before after : PostingThread) : Type 0 where
  pub kept : TellsPass before after
  pub told : ArePassesKnown place whole before.kit.frames.items

module _ (xs ys : List PostingThread) (k : ℕ) where
  -- the next thread is as it was
  pub next_of : (R : PostingThread → PostingThread → Type 0) (P : List Pass → Type 0) → OfPasses P xs → FirstAre R k xs ys → (e : PostingThread) → k < length ys → P (get_or ys k e).kit.frames.items
  next_of R P of f e lt = subst (λ (t : PostingThread). P t.kit.frames.items) (sym (f.rest k e (omega arith))) (of k e (next_within R xs ys k f lt))

  -- it told what its pass had heard
  pub pass_told : (place : ℕ) (e y : PostingThread) (a b c : Pass) → FirstAre (TellsAll place b.view.heard) k xs ys × PassHasHeard a b → k < length ys → PassHasHeard b c
      → TellsPass (get_or ys k e) y → ArePassesKnown place c.view.heard (get_or ys k e).kit.frames.items → FirstAre (TellsAll place c.view.heard) (k + 1) xs (set ys k y) × PassHasHeard a c
  pass_told place e y a b c at lt heard kept told =
      let was = b.view.heard in
      let is = c.view.heard in
      let tells = first_weaker (TellsAll place was) (TellsAll place is) xs ys k
      (λ x x' t. record { kept = t.kept; told = passes_known_more x.kit.frames.items place was is heard.more t.told }) at.0 in (
        first_more (TellsAll place is) xs ys k e y tells lt (record { kept = kept; told = told }),
        pass_heard_then a b c at.1 heard,
      )

  -- its pass heard another one
  pub pass_heard_next : (place : ℕ) (e y : PostingThread) (a b c : Pass) → FirstAre (HearsPass place a.view.heard) k xs ys × (b ≡ a) → k < length ys
      → HearsPass place b.view.heard (get_or ys k e) y → c ≡ b → FirstAre (HearsPass place a.view.heard) (k + 1) xs (set ys k y) × (c ≡ a)
  pass_heard_next place e y a b c at lt kept same =
      (first_more (HearsPass place a.view.heard) xs ys k e y at.0 lt (subst (λ (o : Pass). HearsPass place o.view.heard (get_or ys k e) y) at.1 kept), same ∙ at.1)

-- none of the threads so far
pub first_none : (R : PostingThread → PostingThread → Type 0) (xs : List PostingThread) → FirstAre R 0 xs xs
first_none R xs = record { long = refl; done = λ j d lt. absurd (omega (arith, lt)); rest = λ j d le. refl }

-- threads that told have the passes that they had
pub told_of : (P : List Pass → Type 0) (xs ys : List PostingThread) → AtEach TellsPass xs ys → OfPasses P xs → OfPasses P ys
told_of P xs ys e of k d lt =
    let long = e.long in
    let within : k < length xs = omega (arith, lt, long) in
    subst P (sym (e.each k d within).1) (of k d within)

pub of_weaker : (P Q : List Pass → Type 0) → ((ps : List Pass) → P ps → Q ps) → (xs : List PostingThread) → OfPasses P xs → OfPasses Q xs
of_weaker P Q h xs of k d lt = h (get_or xs k d).kit.frames.items (of k d lt)

-- a thread told, and then heard
pub tells_hears : (place : ℕ) (whole : List (ℕ × FrameEntry)) (x y z : PostingThread) → TellsPass x y → HearsPass place whole y z → HearsPass place whole x z
tells_hears place whole x y z t h =
    (thread_then AreKept AreKept AreKept (λ a b c f g. g ∙ f) x y z t.0 h.0, subst (λ (fs : List Pass). PassesHaveHeardAt place whole fs z.kit.frames.items) t.1 h.1)

-- so did a looper
pub looper_told : (P : Pass → Type 0) (x y : StageLooper) → LooperTellsPass x y → OfItsPass P x → OfItsPass P y
looper_told P x y t of r is = of r (sym t.1 ∙ is)

pub looper_tells_hears : (whole : List (ℕ × FrameEntry)) (x y z : StageLooper) → LooperTellsPass x y → LooperHearsPass whole y z → LooperHearsPass whole x z
looper_tells_hears whole x y z t h = (looper_then AreKept AreKept AreKept (λ a b c f g. g ∙ f) x y z t.0 h.0, h.1)

-- ==== a stage whose passes hear each other, choreographer after choreographer

module _ {lockstep : Bool} (s : Script) (st : Stage) (is : IsStageIn lockstep s st) (place : ℕ) (near : place < s.loopers) (c : SharedFrames) (at : c ≡ get_or st.hall.choreographers.items place c) where
  -- each thread has a pass of the choreographer at this place
  pub passes_ready : OfPasses (ArePassesReady place c) st.threads.items
  passes_ready k d lt =
      let t = get_or st.threads.items k d in
      let are = (is.threads.1 k d lt).0.frames in
      let cs = st.hall.choreographers.items in
      let count = alike_length frame_badge_of (frame_badge_for t.number) t.kit.frames.items cs are in
      let all = choreographer_count s cs is.hall.choreographers in
      let within : place < length t.kit.frames.items = omega (arith, near, count, all) in
      (within, λ p. subst (IsPassOf (get_or t.kit.frames.items place p)) (sym at) (pass_at t.number cs t.kit.frames.items are place p c within))

  -- its looper's pass is of it
  pub looper_pass : (l : StageLooper) → IsLooper s st.hall l → l.number ≡ place → OfItsPass (λ p. IsPassOf p c) l
  looper_pass l is_l number r here =
      let cs = st.hall.choreographers.items in
      let parts = looper_parts s st.hall is.hall l is_l in
      let rest = same_Some _ _ (ap rest_in (sym parts.1) ∙ here) in
      let all = choreographer_count s cs is.hall.choreographers in
      let read : slice_get cs l.number ≡ Some c = ap (slice_get cs) number ∙ slice_get_read cs (length cs) place c refl (omega (arith, near, all)) at in
      let frames = ap (λ (z : LooperRest). frame_badge_of z.frames) (sym rest) ∙ parts.2.frames c read in
      (ap (λ (b : FrameBadge). b.table) frames, ap (λ (b : FrameBadge). b.constants) frames)

-- what a pass at one place has heard, where those at another one heard others
pub heard_elsewhere : (place q : ℕ) (here there : List (ℕ × FrameEntry)) (ps qs : List Pass) → q ≢ place → PassesHaveHeardAt place here ps qs → HaveHeardAllAt q there ps → HaveHeardAllAt q there qs
heard_elsewhere place q here there ps qs apart h all d lt =
    let long = h.heard.long in
    subst (HasHeardAll there) (sym (h.elsewhere q d apart)) (all d (omega (arith, lt, long)))

-- all passes of the first n choreographers have heard the same
abbrev pub HaveHeardFirst : ℕ → Stage → Type 0
HaveHeardFirst n st = (q : ℕ) → q < n → (whole : List (ℕ × FrameEntry)) × HavePassesHeard q whole st

pub heard_none : (st : Stage) → HaveHeardFirst 0 st
heard_none st q lt = absurd (omega (arith, lt))

pub heard_more : (n : ℕ) (a b : Stage) → SharesFramesAt n a b → HaveHeardFirst n a → HaveHeardFirst (n + 1) b
heard_more n a b sh all q lt = dite (ℕ_discrete q n)
    (λ e. subst (λ (m : ℕ). (whole : List (ℕ × FrameEntry)) × HavePassesHeard m whole b) (sym e) (sh.heard, sh.passes))
    (λ apart. let w = all q (omega (arith, lt, apart)) in (w.0, sh.elsewhere q w.0 apart w.1))

-- senders whose posters are kept have seen the same as before
pub same_kept : (a b : Stage) → StageKeeps AreKept a b → HaveSeenTheSame a → HaveSeenTheSame b
same_kept a b k same =
    let all = seen_by a.controller.kit.posters.items in
    subst (λ (ps : List Sender). OfSenders (HaveSeenAll (seen_by ps)) b) (sym k.controller.posters)
    (of_senders_then (HaveSeenAll all) (HaveSeenAll all) AreKept (λ ps qs e h. subst (HaveSeenAll all) (sym e) h) a b k same)

-- one of a list is so, and the others are as before
each_set : {X : Type 0} (R : X → X → Type 0) → ((x : X) → R x x) → (xs : List X) (i : ℕ) (x y : X) → i < length xs → x ≡ get_or xs i x → R x y → AtEach R xs (set xs i y)
each_set R self xs i x y lt is r = record {
  long = length-set xs i y;
  each = λ k d near. dite (ℕ_discrete k i)
      (λ at.
      let before : x ≡ get_or xs i d = is ∙ get_or_default xs i x d lt in
      let after : y ≡ get_or (set xs i y) i d = sym (get_or-set_same xs i y d lt) in
      subst (λ (n : ℕ). R (get_or xs n d) (get_or (set xs i y) n d)) (sym at) (subst (λ (a : _). R a (get_or (set xs i y) i d)) before (subst (R x) after r)))
      (λ apart. subst (R (get_or xs k d)) (sym (get_or-set_other xs i k y d apart)) (self (get_or xs k d)));
}

-- a stage whose passes of one choreographer heard each other
pub shares_frames : (place : ℕ) (a b : Stage) (whole : List (ℕ × FrameEntry)) → b.hall ≡ a.hall → AtEach (HearsPass place whole) a.threads.items b.threads.items
    → (l l' : StageLooper) → place < length a.loopers.items → l ≡ get_or a.loopers.items place l → b.loopers.items ≡ set a.loopers.items place l' → LooperHearsPass whole l l'
    → (p p' : Pass) → place < length a.controller.kit.frames.items → p ≡ get_or a.controller.kit.frames.items place p → b.controller.kit.frames.items ≡ set a.controller.kit.frames.items place p'
    → PassHasHeard p p' → HasHeardAll whole p' → b.controller.kit.posters.items ≡ a.controller.kit.posters.items → b.controller.kit.pass ≡ a.controller.kit.pass
    → b.controller.sealed ≡ a.controller.sealed → b.controller.sealed_frames ≡ a.controller.sealed_frames → b.pass ≡ a.pass → b.time ≡ a.time → SharesFramesAt place a b
shares_frames place a b whole hall threads l l' in_loopers is_l loopers hears p p' in_frames is_p frames heard all posters pass sealed sealed_frames pool_pass time =
    let ps = a.controller.kit.frames.items in
    let mine : PassesHaveHeardAt place whole ps b.controller.kit.frames.items = subst (PassesHaveHeardAt place whole ps) (sym frames) (passes_heard_at ps place p p' whole in_frames is_p heard all) in
    record {
      kept = record {
        hall = hall;
        threads = each_weaker (HearsPass place whole) (ThreadKeeps AreKept) a.threads.items b.threads.items (λ x y h. h.0) threads;
        loopers = subst (AtEach (LooperKeeps AreKept) a.loopers.items) (sym loopers) (each_set (LooperKeeps AreKept) (looper_self AreKept (λ qs. refl)) a.loopers.items place l l' in_loopers is_l hears.0);
        controller = record { posters = posters; pass = pass; frames = mine.heard; sealed = sealed; sealed_frames = sealed_frames };
        pass = pool_pass;
        time = time;
      };
      heard = whole;
      passes = record {
        threads = λ k d lt. (let long = threads.long in (threads.each k d (omega (arith, lt, long))).1.here);
        looper = λ d lt. subst (OfItsPass (HasHeardAll whole)) (sym (ap (λ (ls : List StageLooper). get_or ls place d) loopers ∙ get_or-set_same a.loopers.items place l' d in_loopers)) hears.1;
        controller = mine.here;
      };
      elsewhere = λ q there apart were. record {
        threads = λ k d lt. let long = threads.long in let near : k < length a.threads.items = omega (arith, lt, long) in
            heard_elsewhere place q whole there (get_or a.threads.items k d).kit.frames.items (get_or b.threads.items k d).kit.frames.items apart (threads.each k d near).1 (were.threads k d near);
        looper = λ d lt. let long = ap length loopers ∙ length-set a.loopers.items place l' in
            subst (OfItsPass (HasHeardAll there)) (sym (ap (λ (ls : List StageLooper). get_or ls q d) loopers ∙ get_or-set_other a.loopers.items place q l' d apart)) (were.looper d (omega (arith, lt, long)));
        controller = heard_elsewhere place q whole there ps b.controller.kit.frames.items apart mine were.controller;
      };
    }

-- ==== a sender's kit, and the sender that it makes

-- a thread's passes
pub frames_of_thread : (s : Script) (cs : List SharedFrames) (k : ℕ) → k < s.threads → frames_for s cs k ≡ map (frame_badge_for k) cs
frames_of_thread s cs k lt =
    ap (λ (b : Bool). if b then map (frame_badge_for k) cs else (if nat_lt k (s.threads + s.loopers) then looper_frames s.threads (slice_get cs (k - s.threads)) else map (frame_badge_for (s.threads + 1)) cs)) (lt-ltb k s.threads lt)

-- the controller's passes
frames_of_controller : (s : Script) (cs : List SharedFrames) → frames_for s cs (controller s) ≡ map (frame_badge_for (s.threads + 1)) cs
frames_of_controller s cs =
    ap (λ (b : Bool). if b then map (frame_badge_for (controller s)) cs else (if nat_lt (controller s) (s.threads + s.loopers) then looper_frames s.threads (slice_get cs (controller s - s.threads)) else map (frame_badge_for (s.threads + 1)) cs)) (le-ltb (controller s) s.threads (omega arith))
    ∙ ap (λ (b : Bool). if b then looper_frames s.threads (slice_get cs (controller s - s.threads)) else map (frame_badge_for (s.threads + 1)) cs) (le-ltb (controller s) (s.threads + s.loopers) (omega arith))

-- posters that handed nothing out
pub nothing_handed : (ps : List Sender) → ((q : ℕ) (p : Sender) → q < length ps → (slice_index_or ps q p).view.sealed ≡ []) → parts_handed_out ps ≡ replicate (length ps) []
nothing_handed [] none = refl
nothing_handed (p ∷ ps) none = λ i. none 0 p (omega arith) i ∷ nothing_handed ps (λ q d lt. none (suc q) d (omega (arith, lt))) i

-- one more of the same
same_more : {A : Type 0} (n : ℕ) (e : List A) → replicate n e ++ e ∷ [] ≡ replicate (n + 1) e
same_more zero e = refl
same_more (suc n) e = ap (λ l. e ∷ l) (same_more n e) ∙ (let one : suc (n + 1) ≡ suc n + 1 = omega arith in ap (λ m. replicate m e) one)

-- one empty list more
pub nothing_more : {A : Type 0} (n : ℕ) (lists : List (Vec A)) (v : Vec A) → parts_in lists ≡ replicate n [] → v.items ≡ [] → parts_in (lists ++ v ∷ []) ≡ replicate (n + 1) []
nothing_more {A} n lists v none empty =
    map-append (λ (z : Vec A). z.items) lists (v ∷ []) ∙ ((λ i. none i ++ empty i ∷ []) ∙ same_more n [])

module _ (s : Script) (hall : Hall) where
  -- a thread with the kit of its number
  pub thread_of : (n : ℕ) (kit : Kit) (t : PostingThread) → IsKitOf s hall n kit → n < s.threads → t.number ≡ n → t.kit ≡ kit → IsThread s hall t
  thread_of n kit t is lt number same = record {
    number = subst (λ k. k < s.threads) (sym number) lt;
    posters = subst (λ k. ArePostersOf k hall.queues.items t.kit.posters.items) (sym number) (subst (λ (z : Kit). ArePostersOf n hall.queues.items z.posters.items) (sym same) is.posters);
    frames = ap (λ (z : Kit). map frame_badge_of z.frames.items) same ∙ is.frames ∙ frames_of_thread s hall.choreographers.items n lt ∙ ap (λ k. map (frame_badge_for k) hall.choreographers.items) (sym number);
    pass = ap (λ (z : Kit). z.pass.home) same ∙ is.pass;
  }

  -- its kit again
  pub kit_of_thread : (n : ℕ) (t : PostingThread) → IsThread s hall t → t.number ≡ n → IsKitOf s hall n t.kit
  kit_of_thread n t is number =
      let lt = subst (λ k. k < s.threads) number is.number in record {
        posters = subst (λ k. ArePostersOf k hall.queues.items t.kit.posters.items) number is.posters;
        frames = is.frames ∙ ap (λ k. map (frame_badge_for k) hall.choreographers.items) number ∙ sym (frames_of_thread s hall.choreographers.items n lt);
        pass = is.pass;
      }

  -- the controller with the last kit
  pub controller_of : {lockstep : Bool} → hall.lockstep ≡ lockstep → (kit : Kit) (lists : Vec (Vec Segment)) (frames : Vec (Vec (List FrameEntry))) → IsHall s hall → IsKitOf s hall (controller s) kit → IsUnusedKit kit → parts_in lists.items ≡ replicate s.loopers []
      → parts_in frames.items ≡ replicate s.loopers [] → IsControllerIn lockstep s hall (record { kit = kit; sealed = lists; sealed_frames = frames })
  controller_of mode kit lists frames h is unused none no_frames = record {
    posters = is.posters;
    mode = mode;
    frames = is.frames ∙ frames_of_controller s hall.choreographers.items;
    pass = is.pass;
    idle = unused.own;
    sealed = nothing_handed kit.posters.items unused.sealed
        ∙ (ap (λ n. replicate n []) (alike_length badge_of (badge_for (controller s)) kit.posters.items hall.queues.items is.posters ∙ queue_count hall.lockstep s hall.pool hall.queues.items h.queues)
        ∙ sym none);
    sealed_frames = nothing_handed_out kit.frames.items frames.items
        (no_frames
        ∙ ap (λ n. replicate n [])
        (sym (alike_length frame_badge_of (frame_badge_for (s.threads + 1)) kit.frames.items hall.choreographers.items (is.frames ∙ frames_of_controller s hall.choreographers.items) ∙ choreographer_count s hall.choreographers.items h.choreographers)))
        unused.handed;
  }

  pub kit_of_controller : {lockstep : Bool} (c : Controller) → IsControllerIn lockstep s hall c → IsKitOf s hall (controller s) c.kit
  kit_of_controller c is = record { posters = is.posters; frames = is.frames ∙ sym (frames_of_controller s hall.choreographers.items); pass = is.pass }

  -- the first of the kits that are left, and the others
  pub first_kit : (n : ℕ) (kits : List Kit) (d : Kit) → AreKitsFrom s hall n kits → 0 < length kits → IsKitOf s hall n (slice_index_or kits 0 d)
  first_kit n kits d are some = subst (λ k. IsKitOf s hall k (slice_index_or kits 0 d)) (omega arith) (are.each 0 d some)

  -- the last kit, which nobody has used and which is the controller's
  pub last_kit : (kits : List Kit) (kit : Kit) → kit ≡ slice_index_or kits 0 kit → AreKitsFrom s hall (s.threads + s.loopers) kits → AreUnusedKits kits → IsUnusedKit kit × IsKitOf s hall (controller s) kit
  last_kit kits kit is are unused =
      let count = are.count in
      let some : 0 < length kits = omega (arith, count) in
      (subst IsUnusedKit (sym is) (unused 0 kit some), subst (IsKitOf s hall (controller s)) (sym is) (first_kit (controller s) kits kit are some))

  pub other_kits : (n : ℕ) (kits : List Kit) → AreKitsFrom s hall n kits → 0 < length kits → AreKitsFrom s hall (n + 1) (remove kits 0)
  other_kits n [] are some = absurd (omega (arith, some))
  other_kits n (x ∷ kits) are some =
      let all = are.count in record {
        count = omega (arith, all);
        each = λ k d lt. subst (λ m. IsKitOf s hall m (slice_index_or kits k d)) (omega arith) (are.each (suc k) d (omega (arith, lt)));
      }

  pub first_thread : (n : ℕ) (ts : List PostingThread) (d : PostingThread) → AreThreadsFrom s hall n ts → 0 < length ts → IsThread s hall (slice_index_or ts 0 d) × ((slice_index_or ts 0 d).number ≡ n)
  first_thread n ts d are some = let is = are.each 0 d some in (is.0, is.1 ∙ omega arith)

  pub other_threads : (n : ℕ) (ts : List PostingThread) → AreThreadsFrom s hall n ts → 0 < length ts → AreThreadsFrom s hall (n + 1) (remove ts 0)
  other_threads n [] are some = absurd (omega (arith, some))
  other_threads n (x ∷ ts) are some =
      let all = are.count in record {
        count = omega (arith, all);
        each = λ k d lt. let is = are.each (suc k) d (omega (arith, lt)) in (is.0, is.1 ∙ omega arith);
      }

  pub first_looper : (n : ℕ) (ls : List StageLooper) (d : StageLooper) → AreLoopersFrom s hall n ls → 0 < length ls → IsLooper s hall (slice_index_or ls 0 d) × ((slice_index_or ls 0 d).number ≡ n)
  first_looper n ls d are some = let is = are.each 0 d some in (is.0, is.1 ∙ omega arith)

  pub other_loopers : (n : ℕ) (ls : List StageLooper) → AreLoopersFrom s hall n ls → 0 < length ls → AreLoopersFrom s hall (n + 1) (remove ls 0)
  other_loopers n [] are some = absurd (omega (arith, some))
  other_loopers n (x ∷ ls) are some =
      let all = are.count in record {
        count = omega (arith, all);
        each = λ k d lt. let is = are.each (suc k) d (omega (arith, lt)) in (is.0, is.1 ∙ omega arith);
      }

-- one member more, at the end
pub each_more : {X : Type 0} (P : ℕ → X → Type 0) (xs : List X) (x : X) → ((k : ℕ) (d : X) → k < length xs → P k (slice_index_or xs k d)) → P (length xs) x
    → (k : ℕ) (d : X) → k < length (xs ++ x ∷ []) → P k (slice_index_or (xs ++ x ∷ []) k d)
each_more P [] x all at zero d lt = at
each_more P [] x all at (suc k) d lt = absurd (omega (arith, lt))
each_more P (y ∷ ys) x all at zero d lt = all 0 d (omega arith)
each_more P (y ∷ ys) x all at (suc k) d lt = each_more (λ n z. P (suc n) z) ys x (λ n e below. all (suc n) e (omega (arith, below))) at k d (omega (arith, lt))

module _ (s : Script) (hall : Hall) where
  -- one looper more has given its journal and its kit back
  pub looper_back : (js js' : List Journal) (ls ls' : List StageLooper) (kits kits' : List Kit) (l : StageLooper) (j : Journal) (kit : Kit)
      → AreLoopersFrom s hall (length js) ls → 0 < length ls → l ≡ slice_index_or ls 0 l → ls' ≡ remove ls 0 → length kits ≡ s.threads + length js → AreFirstKits s hall kits
      → map (λ (z : Journal). z.looper) js ≡ range_with_len 0 (length js) → j.looper ≡ l.number → IsKitOf s hall (s.threads + l.number) kit → js' ≡ js ++ j ∷ [] → kits' ≡ kits ++ kit ∷ []
      → AreLoopersFrom s hall (length js') ls' × (length kits' ≡ s.threads + length js') × AreFirstKits s hall kits' × (map (λ (z : Journal). z.looper) js' ≡ range_with_len 0 (length js'))
  looper_back js js' ls ls' kits kits' l j kit are some is_l rest count first numbers told is_kit grown grown' =
      let number : l.number ≡ length js = ap (λ (z : StageLooper). z.number) is_l ∙ (first_looper s hall (length js) ls l are some).1 in
      let more : length js' ≡ length js + 1 = ap length grown ∙ length-append js (j ∷ []) in
      let more' : length kits' ≡ length kits + 1 = ap length grown' ∙ length-append kits (kit ∷ []) in
      let here : s.threads + l.number ≡ length kits = omega (arith, number, count) in (
        subst (λ (z : List StageLooper). AreLoopersFrom s hall (length js') z) (sym rest) (subst (λ n. AreLoopersFrom s hall n (remove ls 0)) (sym more) (other_loopers s hall (length js) ls are some)),
        (omega (arith, more, more', count)),
        subst (AreFirstKits s hall) (sym grown') (each_more (IsKitOf s hall) kits kit first (subst (λ n. IsKitOf s hall n kit) here is_kit)),
        ap (map (λ (z : Journal). z.looper)) grown ∙ map-append (λ (z : Journal). z.looper) js (j ∷ []) ∙ ap (λ l. l ++ j.looper ∷ []) numbers
            ∙ ap (λ n. range_with_len 0 (length js) ++ n ∷ []) (told ∙ number ∙ (let same : length js ≡ 0 + length js = omega arith in same)) ∙ sym (numbers_more 0 (length js)) ∙ ap (range_with_len 0) (sym more),
      )

  -- with the controller's kit all kits are there
  pub all_kits : {lockstep : Bool} (kits kits' : List Kit) (c : Controller) → AreSenderKits s hall kits → IsControllerIn lockstep s hall c → kits' ≡ kits ++ c.kit ∷ [] → AreKitsOf s hall kits'
  all_kits kits kits' c are is grown =
      let count = are.0 in
      let more : length kits' ≡ length kits + 1 = ap length grown ∙ length-append kits (c.kit ∷ []) in record {
        count = omega (arith, more, count);
        each = subst (AreFirstKits s hall) (sym grown) (each_more (IsKitOf s hall) kits c.kit are.1 (subst (λ n. IsKitOf s hall n c.kit) (sym count) (kit_of_controller s hall c is)));
      }

  -- one looper more was made
  pub looper_made : (n : ℕ) (kits kits' : List Kit) (ls ls' : List StageLooper) (l : StageLooper) → AreKitsFrom s hall (s.threads + n) kits → 0 < length kits → kits' ≡ remove kits 0
      → length ls ≡ n → AreFirstLoopers s hall ls → IsLooper s hall l → l.number ≡ n → ls' ≡ ls ++ l ∷ []
      → AreKitsFrom s hall (s.threads + (n + 1)) kits' × (length ls' ≡ n + 1) × AreFirstLoopers s hall ls'
  looper_made n kits kits' ls ls' l are some rest count first is number grown =
      let more : length ls' ≡ length ls + 1 = ap length grown ∙ length-append ls (l ∷ []) in
      let next : s.threads + n + 1 ≡ s.threads + (n + 1) = omega arith in (
        subst (AreKitsFrom s hall (s.threads + (n + 1))) (sym rest) (subst (λ m. AreKitsFrom s hall m (remove kits 0)) next (other_kits s hall (s.threads + n) kits are some)),
        omega (arith, more, count),
        subst (AreFirstLoopers s hall) (sym grown) (each_more (λ k (z : StageLooper). IsLooper s hall z × (z.number ≡ k)) ls l first (is, number ∙ sym count)),
      )
