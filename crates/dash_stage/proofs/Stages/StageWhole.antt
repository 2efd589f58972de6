-- What all senders have seen of each queue, and where the controller moves its time next.
use Rattle.std.proofs.Common.{◌≡◌, ◌<◌, ℕ, Bool, true, max, false, List, length, subst, ◌+◌, [], refl, sym, ap, ap₂, ◌∙◌, ◌≢◌, ◌≤◌, ◌-◌, ◌⊎◌, inl, inr, zero, suc, true≢false, ◌∷◌, ◌++◌, Some, None, arith, append_assoc, Option}
use Rattle.std.specs.Prelude.{slice_index_or, nat_le, is_some, not, ◌||◌, ◌&&◌, ◌==◌, if◌then◌else◌}
use Rattle.loop_model.specs.declared.entry.Entry.{Entry}
use Rattle.dash_script.specs.declared.script.Script.{Script}
use Rattle.looper_run.specs.Holding.{Sender}
use Rattle.dash_hall.specs.Hearing.{AtEach, HaveHeard, seen_by}
use Rattle.dash_threads.specs.declared.thread.PostingThread.{PostingThread}
use Rattle.dash_threads.specs.Threads.{ThreadKeeps}
use Rattle.dash_loopers.specs.declared.looper.StageLooper.{StageLooper}
use Rattle.dash_loopers.specs.Loopers.{LooperKeeps, IsSoundOn, IsLooper, setting_for, others_in, posters_of, until_of, ComesToWait, HasNoneDue}
use Rattle.dash_stage.specs.declared.control.Controller.{Controller}
use Rattle.dash_stage.specs.declared.stage.Stage.{Stage}
use Rattle.dash_stage.specs.Playing.{IsInStep, AreStuck}
use Rattle.dash_stage.specs.Sharing.{HaveSeenTheSame, HaveShared}
use Rattle.dash_stage.specs.Stages.{IsStage, IsStageIn, AreLoopers, LoopersGoOn}
use Rattle.dash_stage.specs.Timeliness.{AreBy, AreRested, AreDue, TurnsOn, EachTurnsOn, MovesTo, HaveReachedTime, whole_on, AreSound, IsTimelyUpTo, AreTimelyUpTo, HasNoneBefore, NotLater}
use Rattle.std.proofs.lemmas.List.Edits.{get_or-insert_at}
use mathlib.Core.List.{IsPrefix}
use Rattle.atomic_table.specs.Seated.{TableId}
use Rattle.loop_model.specs.Base.{empty_base}
use Rattle.loop_model.specs.Legal.{IsLegal, AreNumbered}
use Rattle.loop_model.proofs.LegalLaws.{IsLegal-front, IsLegal-last}
use Rattle.loop_model.proofs.NumberLaws.{AreNumbered-front}
use Rattle.dash_script.specs.declared.script.Block.{Block}
use Rattle.shared_queue.specs.Known.{Shared}
use Rattle.run_model.specs.Planned.{controller, sender_count, entries_by}
use Rattle.dash_hall.specs.declared.hall.Hall.{Hall}
use Rattle.dash_hall.specs.Growth.{own}
use Rattle.dash_hall.specs.Kits.{Badge, badge_of, badge_for, ArePostersOf, IsHall}
use Rattle.dash_hall.proofs.Badges.{alike_length, alike_at}
use Rattle.run_model.proofs.FreshLaws.{all_reached_on}
use Rattle.dash_stage.proofs.Controller.Controlling.{poster_count}
use Rattle.dash_stage.proofs.Ends.HallEnds.{some_of}
use Rattle.dash_loopers.proofs.LooperShares.{looper_within, looper_posters}
use Rattle.run_model.proofs.BlockOrder.{in_order_others}
use Rattle.dash_stage.proofs.Stages.Timely.{none_of, in_time_more, no_threads, before_quit_more, timely_others, back_all, none_front, of_others, is_whole}
use Rattle.std.proofs.Math.Bool.{or-false}
use Rattle.std.proofs.lemmas.Bool.{and_parts, and_from, or_parts, or_from, false_from_ne_true, ne_eqb, le-leb, leb-true, cases_Bool, or_left, or_right, eq-eqb}
use Rattle.std.proofs.lemmas.List.{append-nil, length-append, length-map, get_or-map}
use mathlib.Core.Logic.{dite}
use native.Mathlib.Decide.{ℕ_discrete, dec_lt}
use Rattle.loop_model.specs.declared.base.Base.{Base}
use Rattle.loop_model.specs.declared.call.Call.{Call}
use Rattle.loop_model.specs.declared.call.Call.TheVariants.{Advance}
use Rattle.loop_model.specs.declared.reply.Reply.TheVariants.{Advanced}
use Rattle.loop_model.specs.Entries.{moment_of, is_next, is_disposed}
use Rattle.loop_model.specs.Live.{live}
use Rattle.loop_model.specs.Pick.{first_eligible, pick}
use Rattle.loop_model.specs.Answers.{Setting, clock, answer, is_over, has_disposed, has_halted, quit_place}
use Rattle.loop_model.proofs.Prefixes.{prefix_trans}
use Rattle.run_model.specs.Control.{is_advance, is_none_before, is_call_in_time, is_planned_time, IsPulseTime}
use Rattle.run_model.proofs.RunLaws.{entries_by-append, entries_by-unchanged}
use Rattle.dash_stage.specs.Controllers.{are_advances, calls_on}
use Rattle.dash_stage.proofs.Controller.Controls.{main_is_not_over, side_is_not_halted, looks_dispose}
use Rattle.loop_model.proofs.AfterLaws.{has_disposed-snoc}
use Rattle.std.specs.List.{sum_by}
use Rattle.std.specs.Option.{option_map}
use Rattle.std.proofs.lemmas.List.Sums.{sum_by-cons}
use Rattle.loop_model.specs.declared.item.Item.{Item}
use Rattle.loop_model.specs.Items.{when_of}
use Rattle.looper_run.specs.declared.looper.Round.{Round}
use Rattle.looper_run.specs.Round.{is_ended}
use Rattle.dash_hall.proofs.Hearing.{prefix_whole}
use Rattle.std.proofs.lemmas.List.Folds.{list_any_at}
use Rattle.dash_stage.specs.Moves.{MayBeMovedTo, IsPlanned, IsPulse, IsDue, WaitsUntil}

-- ==== the controller's turns on its queues, behind which all have seen the same again

-- from a stage in which all have seen the same, over turns of the controller that made such entries, to one in which all have seen the same again, where nobody
-- else has called anything
pub record Turned (lockstep : Bool) (P : Entry → Type 0) (s : Script) (st : Stage) (c : Controller) (st' : Stage) : Type 0 where
  pub is : IsStageIn lockstep s st
  pub is' : IsStageIn lockstep s st'
  pub same : HaveSeenTheSame st
  pub same' : HaveSeenTheSame st'
  pub threads : AtEach (ThreadKeeps HaveHeard) st.threads.items st'.threads.items
  pub loopers : AtEach (LooperKeeps HaveHeard) st.loopers.items st'.loopers.items
  pub heard : HaveHeard c.kit.posters.items st'.controller.kit.posters.items
  pub turns : EachTurnsOn P st.controller c

-- so it is where all shared behind the turns, before which the threads and the loopers were the same
pub turned_by : (P : Entry → Type 0) (s : Script) (st mid st' : Stage) → HaveShared s mid st' → IsStage s st → HaveSeenTheSame st → mid.threads.items ≡ st.threads.items → mid.loopers.items ≡ st.loopers.items
    → EachTurnsOn P st.controller mid.controller → Turned true P s st mid.controller st'
turned_by P s st mid st' shared is same threads loopers turns = record {
  is = is;
  is' = shared.stage;
  same = same;
  same' = shared.same;
  threads = subst (λ (l : List PostingThread). AtEach (ThreadKeeps HaveHeard) l st'.threads.items) threads shared.kept.threads;
  loopers = subst (λ (l : List StageLooper). AtEach (LooperKeeps HaveHeard) l st'.loopers.items) loopers shared.kept.loopers;
  heard = shared.kept.controller.posters;
  turns = turns;
}

-- over turns that moved the time on, from a stage that had come to rest, before whose time nothing was due
pub record MovedOn (s : Script) (time : ℕ) (st : Stage) (c : Controller) (st' : Stage) (drained : Bool) : Type 0 where
  pub over : Turned true (MovesTo time) s st c st'
  pub now : st'.time ≡ max st.time time
  pub by : AreBy st'.time c
  pub step : IsInStep s st
  pub rested : AreRested s st
  pub due : AreDue s time st
  pub come : drained ≡ true → HaveReachedTime s time c
  pub stuck : drained ≡ false → AreStuck s time s.loopers c

-- turns begin where they began, too, where the posters were the same before
pub turns_from : (P : Entry → Type 0) (c mid c' : Controller) → mid.kit.posters ≡ c.kit.posters → EachTurnsOn P mid c' → EachTurnsOn P c c'
turns_from P c mid c' posters turns = record {
  long = subst (λ z. length c'.kit.posters.items ≡ length z.items) posters turns.long;
  each = subst (λ z. (q : ℕ) (d : Sender) → q < length z.items → TurnsOn P (slice_index_or z.items q d) (slice_index_or c'.kit.posters.items q d)) posters turns.each;
}

-- ==== what all senders have seen of each queue tells what each of them has made, and stays timely where neither a thread nor the controller has made more

abbrev pub seen : Sender → List Entry
seen p = p.view.seen

-- a looper's own poster stands among all at its number
pub own_among : (s : Script) (hall : Hall) (l : StageLooper) → IsHall s hall → IsLooper s hall l → (d : Sender) → slice_index_or (posters_of l) l.number d ≡ l.looper.held.poster
own_among s hall l is_hall is d = get_or-insert_at (others_in l.parts) l.number l.looper.held.poster d (looper_within s hall is_hall l is)

-- posters that have seen the same as others are as many, and have seen the same at each place
pub as_many : (ps cs : List Sender) → seen_by ps ≡ seen_by cs → length ps ≡ length cs
as_many ps cs same = alike_length seen seen ps cs same

pub seen_at : (ps cs : List Sender) → seen_by ps ≡ seen_by cs → (q : ℕ) (p d : Sender) → q < length cs → (slice_index_or ps q p).view.seen ≡ (slice_index_or cs q d).view.seen
seen_at ps cs same q p d lt = alike_at seen seen ps cs same q p d (subst (λ (n : ℕ). q < n) (sym (as_many ps cs same)) lt)

-- the poster at a place is the sender's
pub sender_at : (k : ℕ) (qs : List (Shared TableId)) (ps : List Sender) → ArePostersOf k qs ps → (q : ℕ) (p : Sender) → q < length ps → (slice_index_or ps q p).sender ≡ k
sender_at k qs ps are q p lt =
    ap (λ (b : Badge). b.sender) (alike_at badge_of (badge_for k) ps qs are q p (some_of qs q (subst (λ (n : ℕ). q < n) (alike_length badge_of (badge_for k) ps qs are) lt)) lt)

-- a sender's entries in what all have seen are those that its poster has made
pub entries_own : (k : ℕ) (qs : List (Shared TableId)) (ps cs : List Sender) → ArePostersOf k qs ps → seen_by ps ≡ seen_by cs → (q : ℕ) (p d : Sender) → q < length cs
    → entries_by k (slice_index_or cs q d).view.seen ≡ own (slice_index_or ps q p)
entries_own k qs ps cs are same q p d lt =
    ap₂ entries_by (sym (sender_at k qs ps are q p (subst (λ (n : ℕ). q < n) (sym (as_many ps cs same)) lt))) (sym (seen_at ps cs same q p d lt))

module _ {lockstep : Bool} (s : Script) (st : Stage) (is : IsStageIn lockstep s st) where
  -- there is a poster of the controller for each looper
  pub queues_count : length st.controller.kit.posters.items ≡ length st.loopers.items
  queues_count = poster_count s st.hall st.controller is.hall is.controller ∙ sym is.loopers.0

  -- the controller's entries in what it has seen
  pub controller_entries : (q : ℕ) (d : Sender) → q < length st.controller.kit.posters.items → entries_by (controller s) (whole_on st.controller q d) ≡ own (slice_index_or st.controller.kit.posters.items q d)
  controller_entries q d lt = entries_own (controller s) st.hall.queues.items st.controller.kit.posters.items st.controller.kit.posters.items is.controller.posters refl q d d lt

  -- a thread's entries in what all have seen
  pub thread_entries : HaveSeenTheSame st → (k q : ℕ) (t : PostingThread) (p d : Sender) → k < length st.threads.items → q < length st.controller.kit.posters.items
      → entries_by k (whole_on st.controller q d) ≡ own (slice_index_or (slice_index_or st.threads.items k t).kit.posters.items q p)
  thread_entries same k q t p d lt within =
      let one = is.threads.1 k t lt in
      let x : PostingThread = slice_index_or st.threads.items k t in
      entries_own k st.hall.queues.items x.kit.posters.items st.controller.kit.posters.items (subst (λ (n : ℕ). ArePostersOf n st.hall.queues.items x.kit.posters.items) one.1 one.0.posters)
      (same.threads k t lt) q p d within

  -- a looper's entries in what all have seen
  pub looper_entries : HaveSeenTheSame st → (k q : ℕ) (l : StageLooper) (p d : Sender) → k < length st.loopers.items → q < length st.controller.kit.posters.items
      → entries_by (s.threads + k) (whole_on st.controller q d) ≡ own (slice_index_or (posters_of (slice_index_or st.loopers.items k l)) q p)
  looper_entries same k q l p d lt within =
      let one = is.loopers.1 k l lt in
      let x : StageLooper = slice_index_or st.loopers.items k l in
      entries_own (s.threads + k) st.hall.queues.items (posters_of x) st.controller.kit.posters.items
      (subst (λ (n : ℕ). ArePostersOf (s.threads + n) st.hall.queues.items (posters_of x)) one.1 (looper_posters s st.hall is.hall x one.0))
      (same.loopers k l lt) q p d within

  -- a looper's own poster has seen of its queue what all have seen
  pub looper_sees : HaveSeenTheSame st → (k : ℕ) (l : StageLooper) (d : Sender) → k < length st.loopers.items
      → (slice_index_or st.loopers.items k l).looper.held.poster.view.seen ≡ whole_on st.controller k d
  looper_sees same k l d lt =
      let one = is.loopers.1 k l lt in
      let x : StageLooper = slice_index_or st.loopers.items k l in
      let mine : slice_index_or (posters_of x) k d ≡ x.looper.held.poster = subst (λ (n : ℕ). slice_index_or (posters_of x) n d ≡ x.looper.held.poster) one.1 (own_among s st.hall x is.hall one.0 d) in
      ap seen (sym mine) ∙ seen_at (posters_of x) st.controller.kit.posters.items (same.loopers k l lt) k d d (subst (λ (n : ℕ). k < n) (sym queues_count) lt)

-- the beginning of a history that a queue may have is one too
pub sound_front : (s : Script) (q : ℕ) (es whole : List Entry) → IsPrefix es whole → IsSoundOn s q whole → IsSoundOn s q es
sound_front s q es whole front sound =
    let base = empty_base (sender_count s) in
    record {
      legal = IsLegal-front (setting_for s q) base es front.0 (subst (IsLegal (setting_for s q) base) (sym front.1) sound.legal);
      numbered = AreNumbered-front (setting_for s q) base es front.0 (subst (AreNumbered (setting_for s q) base) (sym front.1) sound.numbered);
    }

-- so it is with each queue
pub sound_grown : (s : Script) (c c' : Controller) → length c'.kit.posters.items ≡ length c.kit.posters.items
    → ((q : ℕ) (d : Sender) → q < length c.kit.posters.items → IsPrefix (whole_on c q d) (whole_on c' q d)) → AreSound s c' → AreSound s c
sound_grown s c c' long grown sound q d lt = sound_front s q (whole_on c q d) (whole_on c' q d) (grown q d lt) (sound q d (subst (λ (n : ℕ). q < n) (sym long) lt))

-- a sender that has made nothing more in a longer history has no entry in the rest
pub none_behind : (k : ℕ) (es whole : List Entry) (front : IsPrefix es whole) → entries_by k whole ≡ entries_by k es → entries_by k front.0 ≡ []
none_behind k es whole front same = none_of k es front.0 (ap (entries_by k) front.1 ∙ same)

-- a history stays timely where neither the controller nor a thread has made more
pub timely_stays : (s : Script) (past : List Block) (q : ℕ) (es whole : List Entry) → IsPrefix es whole → IsSoundOn s q whole → entries_by (controller s) whole ≡ entries_by (controller s) es
    → ((k : ℕ) → k < s.threads → entries_by k whole ≡ entries_by k es) → IsTimelyUpTo s past q es → IsTimelyUpTo s past q whole
timely_stays s past q es whole front sound controlled threads timely =
    subst (IsTimelyUpTo s past q) front.1 (record {
      controls = in_time_more (controller s) es front.0 (none_behind (controller s) es whole front controlled) ∙ timely.controls;
      before_quit = before_quit_more s.threads (controller s) es front.0 (λ k lt. none_behind k es whole front (threads k lt)) timely.before_quit;
      threads = λ k lt. timely_others k _ es front.0 (none_behind k es whole front (threads k lt)) (timely.threads k lt);
      in_order = in_order_others s q es front.0 (no_threads s.threads front.0 (λ k lt. none_behind k es whole front (threads k lt))) timely.in_order;
      reached = λ main. all_reached_on past es front.0 (timely.reached main);
    })

-- a thread has made no entry more, nor has another
pub record ThreadsCallNone (before after : List PostingThread) : Type 0 where
  pub long : length after ≡ length before
  pub calls : (k q : ℕ) (t : PostingThread) (p : Sender) → k < length before → q < length (slice_index_or before k t).kit.posters.items
      → own (slice_index_or (slice_index_or after k t).kit.posters.items q p) ≡ own (slice_index_or (slice_index_or before k t).kit.posters.items q p)

-- threads whose posters heard others have made none
pub threads_heard : (before after : List PostingThread) → AtEach (ThreadKeeps HaveHeard) before after → ThreadsCallNone before after
threads_heard before after kept = record {
  long = kept.long;
  calls = λ k q t p lt within. ((kept.each k t lt).posters.each q p within).called;
}

-- from a stage to a later one, each of which is one of the script and in which all have seen the same
module _ {lockstep : Bool} (s : Script) (st st' : Stage) (is : IsStageIn lockstep s st) (is' : IsStageIn lockstep s st') (same : HaveSeenTheSame st) (same' : HaveSeenTheSame st') where
  -- a thread that has made nothing has no entry more in what all have seen
  pub thread_made_none : ThreadsCallNone st.threads.items st'.threads.items → length st'.controller.kit.posters.items ≡ length st.controller.kit.posters.items
      → (q k : ℕ) (d : Sender) → q < length st.controller.kit.posters.items → k < s.threads → entries_by k (whole_on st'.controller q d) ≡ entries_by k (whole_on st.controller q d)
  thread_made_none none long q k d within lt =
      let lt0 : k < length st.threads.items = subst (λ (n : ℕ). k < n) (sym is.threads.0) lt in
      let t : PostingThread = some_of st.threads.items k lt0 in
      let many = as_many (slice_index_or st.threads.items k t).kit.posters.items st.controller.kit.posters.items (same.threads k t lt0) in
      thread_entries s st' is' same' k q t d d (subst (λ (n : ℕ). k < n) (sym is'.threads.0) lt) (subst (λ (n : ℕ). q < n) (sym long) within)
      ∙ none.calls k q t d lt0 (subst (λ (n : ℕ). q < n) (sym many) within)
      ∙ sym (thread_entries s st is same k q t d d lt0 within)

  -- the same of a looper
  pub looper_made_none : AtEach (LooperKeeps HaveHeard) st.loopers.items st'.loopers.items → length st'.controller.kit.posters.items ≡ length st.controller.kit.posters.items
      → (q k : ℕ) (d : Sender) → q < length st.controller.kit.posters.items → k < s.loopers → entries_by (s.threads + k) (whole_on st'.controller q d) ≡ entries_by (s.threads + k) (whole_on st.controller q d)
  looper_made_none kept long q k d within lt =
      let lt0 : k < length st.loopers.items = subst (λ (n : ℕ). k < n) (sym is.loopers.0) lt in
      let l : StageLooper = some_of st.loopers.items k lt0 in
      let many = as_many (posters_of (slice_index_or st.loopers.items k l)) st.controller.kit.posters.items (same.loopers k l lt0) in
      looper_entries s st' is' same' k q l d d (subst (λ (n : ℕ). k < n) (sym is'.loopers.0) lt) (subst (λ (n : ℕ). q < n) (sym long) within)
      ∙ ((kept.each k l lt0).posters.each q d (subst (λ (n : ℕ). q < n) (sym many) within)).called
      ∙ sym (looper_entries s st is same k q l d d lt0 within)

  -- where neither the threads nor the controller made anything, the histories stay timely
  pub kept_timely : (past : List Block) → ThreadsCallNone st.threads.items st'.threads.items → HaveHeard st.controller.kit.posters.items st'.controller.kit.posters.items
      → AreTimelyUpTo s past st → AreTimelyUpTo s past st'
  kept_timely past none heard timely = record {
    same = same';
    timely = λ sound q d lt.
        let within : q < length st.controller.kit.posters.items = subst (λ (n : ℕ). q < n) heard.long lt in
        let one = heard.each q d within in
        timely_stays s past q (whole_on st.controller q d) (whole_on st'.controller q d) one.more (sound q d lt)
        (controller_entries s st' is' q d lt ∙ one.called ∙ sym (controller_entries s st is q d within))
        (λ k few. thread_made_none none heard.long q k d within few)
        (timely.timely (sound_grown s st.controller st'.controller heard.long (λ r e here. (heard.each r e here).more) sound) q d within);
  }

-- ==== the controller's turn on each queue, where all senders have seen the same before it and after it

-- a sender that has made nothing from one history to the last has made nothing in between
pub none_between : (k : ℕ) (xs ys zs : List Entry) → IsPrefix xs ys → IsPrefix ys zs → entries_by k zs ≡ entries_by k xs → entries_by k ys ≡ entries_by k xs
none_between k xs ys zs p q same =
    let whole : xs ++ (p.0 ++ q.0) ≡ zs = sym (append_assoc xs p.0 q.0) ∙ (ap (λ (w : List Entry). w ++ q.0) p.1 ∙ q.1) in
    let more : entries_by k (p.0 ++ q.0) ≡ [] = none_of k xs (p.0 ++ q.0) (ap (entries_by k) whole ∙ same) in
    let none : entries_by k p.0 ≡ [] = none_front (entries_by k p.0) (entries_by k q.0) (sym (entries_by-append k p.0 q.0) ∙ more) in
    ap (entries_by k) (sym p.1) ∙ entries_by-unchanged k xs p.0 (of_others k p.0 none)

-- an entry of one sender is not another's
other_entry : (k n : ℕ) (e : Entry) → e.sender ≡ n → k ≢ n → (e.sender == k) ≡ false
other_entry k n e is apart = ne_eqb e.sender k (λ at. apart (sym at ∙ is))

module _ (set : Setting) (b : Base) (n : ℕ) (es whole : List Entry) (numbered : AreNumbered set b whole) (others : (k : ℕ) → k < set.senders → k ≢ n → entries_by k whole ≡ entries_by k es) where
  -- where the others have made nothing, the sender's turn found what all had seen
  turn_found : (found : List Entry) → IsPrefix es found → IsPrefix found whole → entries_by n found ≡ entries_by n es → found ≡ es
  turn_found found p q own =
      is_whole set b es found p (AreNumbered-front set b found q.0 (subst (AreNumbered set b) (sym q.1) numbered))
      (λ k lt. dite (ℕ_discrete k n)
      (λ at. subst (λ (m : ℕ). entries_by m found ≡ entries_by m es) (sym at) own)
      (λ apart. none_between k es found whole p q (others k lt apart)))

  -- what all have seen later is what the sender left, where it has made no more than that
  turn_left : (left : List Entry) → IsPrefix left whole → entries_by n whole ≡ entries_by n left → ((k : ℕ) → k ≢ n → entries_by k left ≡ entries_by k es) → whole ≡ left
  turn_left left p own rest =
      is_whole set b left whole p numbered
      (λ k lt. dite (ℕ_discrete k n)
      (λ at. subst (λ (m : ℕ). entries_by m whole ≡ entries_by m left) (sym at) own)
      (λ apart. others k lt apart ∙ sym (rest k apart)))

  -- after a sender's turn, and no other call, there is what all had seen, or that with its one entry
  pub turned_whole : (P : Entry → Type 0) (found left : List Entry) → IsPrefix es found → entries_by n found ≡ entries_by n es → (left ≡ found) ⊎ ((e : Entry) × (left ≡ found ++ e ∷ []) × P e × (e.sender ≡ n))
      → IsPrefix left whole → entries_by n whole ≡ entries_by n left → (whole ≡ es) ⊎ ((e : Entry) × (whole ≡ es ++ e ∷ []) × P e × (e.sender ≡ n))
  turned_whole P found left begins own (inl same) p called =
      let is : found ≡ es = turn_found found begins (subst (λ (l : List Entry). IsPrefix l whole) same p) own in
      inl (turn_left left p called (λ k apart. ap (entries_by k) (same ∙ is)) ∙ (same ∙ is))
  turned_whole P found left begins own (inr t) p called =
      let e : Entry = t.0 in
      let is : found ≡ es = turn_found found begins (prefix_trans found left whole (e ∷ [], sym t.1) p) own in
      let left_is : left ≡ es ++ e ∷ [] = t.1 ∙ ap (λ (l : List Entry). l ++ e ∷ []) is in
      inr (e, turn_left left p called (λ k apart. ap (entries_by k) left_is ∙ entries_by-unchanged k es (e ∷ []) (other_entry k n e t.3 apart, tt)) ∙ left_is, t.2, t.3)

-- the number of senders changes nothing of what is eligible
pub eligible_same : (m : ℕ) (es : List Entry) → first_eligible (empty_base m) es ≡ first_eligible (empty_base 0) es
unfolding first_eligible live
eligible_same m es = refl

-- nor of whether it is quitting
quit_same : (m : ℕ) (es : List Entry) → quit_place (empty_base m) es ≡ quit_place (empty_base 0) es
unfolding quit_place
quit_same m es = refl

-- the controller is no thread
pub controls_above : (s : Script) (e : Entry) → e.sender ≡ controller s → s.threads ≤ e.sender
controls_above s e is = omega (arith, is)

-- no Advance moves a queue that is over
pub over_moves_none : (set : Setting) (b : Base) (es : List Entry) (now : ℕ) → is_over b es ≡ true → answer set b es (Advance now) ≡ None
unfolding answer
over_moves_none set b es now over = ap (λ (t : Bool). if t || nat_le now (clock b es) || not set.lockstep || is_some (pick b es (clock b es)) then None else Some Advanced) over

-- a queue that the Advance moved was not over, so there was no message before
none_before : (set : Setting) (m : ℕ) (es : List Entry) (e : Entry) (now : ℕ) → e.call ≡ Advance now → IsLegal set (empty_base m) (es ++ e ∷ []) → (is_over (empty_base m) es ≡ true) ⊎ HasNoneBefore m now es
    → HasNoneBefore m now es
none_before set m es e now is legal (inl over) =
    let b = empty_base m in
    let reply : answer set b es (Advance now) ≡ Some e.reply = subst (λ (c : Call). answer set b es c ≡ Some e.reply) is (IsLegal-last set b es e legal).reply in
    let wrong : None ≡ Some e.reply = sym (over_moves_none set b es now over) ∙ reply in
    absurd cc
none_before set m es e now is legal (inr none) = none

-- nor is one disposed of that it moved
pub moved_is_open : (set : Setting) (m : ℕ) (es : List Entry) (e : Entry) (now : ℕ) → e.call ≡ Advance now → IsLegal set (empty_base m) (es ++ e ∷ []) → has_disposed (empty_base m) (es ++ e ∷ []) ≡ false
moved_is_open set m es e now is legal =
    let b = empty_base m in
    let reply : answer set b es (Advance now) ≡ Some e.reply = subst (λ (c : Call). answer set b es c ≡ Some e.reply) is (IsLegal-last set b es e legal).reply in
    let going : is_over b es ≡ false = false_from_ne_true (is_over b es) (λ over. let wrong : None ≡ Some e.reply = sym (over_moves_none set b es now over) ∙ reply in absurd cc) in
    let looks = back_all (λ f. is_disposed f.reply ≡ true → is_next f.call ≡ true) es (e ∷ []) (looks_dispose set m (es ++ e ∷ []) legal) in
    let keeps : is_disposed e.reply ≡ false = false_from_ne_true (is_disposed e.reply) (λ d. absurd (let wrong : false ≡ true = sym (ap is_next is) ∙ looks.0 d in cc)) in
    has_disposed-snoc b es e ∙ or_from _ _ (or_parts (has_disposed b es) (has_halted b es) going).0 keeps

-- an Advance past no message is in time
pub move_in_time : (s : Script) (q now : ℕ) (es : List Entry) → (is_over (empty_base (sender_count s)) es ≡ true) ⊎ HasNoneBefore (sender_count s) now es
    → (e : Entry) → IsSoundOn s q (es ++ e ∷ []) → MovesTo now e → is_call_in_time es e.call e.reply ≡ true
move_in_time s q now es due e sound moves =
    let none = none_before (setting_for s q) (sender_count s) es e now moves sound.legal due in
    let in_time : is_call_in_time es (Advance now) e.reply ≡ true = and_from _ _ (subst (λ o. is_none_before now o ≡ true) (eligible_same (sender_count s) es) none.0) (ap (λ o. not (is_some o)) (sym (quit_same (sender_count s) es) ∙ none.1)) in
    ap (λ c. is_call_in_time es c e.reply) moves ∙ in_time

-- a turn leaves what it found, and maybe more
pub step_on : (P : Entry → Type 0) (n : ℕ) (found left : List Entry) → (left ≡ found) ⊎ ((e : Entry) × (left ≡ found ++ e ∷ []) × P e × (e.sender ≡ n)) → IsPrefix found left
step_on P n found left (inl same) = ([], append-nil found ∙ sym same)
step_on P n found left (inr t) = (t.0 ∷ [], sym t.1)

-- from a stage in which all have seen the same, over the controller's turns, to one in which all have seen the same again
module _ {lockstep : Bool} {P : Entry → Type 0} {s : Script} {st : Stage} {c : Controller} {st' : Stage} (o : Turned lockstep P s st c st') where
  -- there are as many queues
  pub longer : length st'.controller.kit.posters.items ≡ length st.controller.kit.posters.items
  longer = o.heard.long ∙ o.turns.long

  -- no other sender has made anything
  others_none : (q : ℕ) (d : Sender) → q < length st.controller.kit.posters.items
      → (k : ℕ) → k < sender_count s → k ≢ controller s → entries_by k (whole_on st'.controller q d) ≡ entries_by k (whole_on st.controller q d)
  others_none q d lt k known apart = dite (dec_lt k s.threads)
      (λ thread. thread_made_none s st st' o.is o.is' o.same o.same' (threads_heard st.threads.items st'.threads.items o.threads) longer q k d lt thread)
      (λ no_thread.
      let at : s.threads + (k - s.threads) ≡ k = omega (arith, no_thread) in
      let looper : k - s.threads < s.loopers = omega (arith, no_thread, known, apart) in
      subst (λ (m : ℕ). entries_by m (whole_on st'.controller q d) ≡ entries_by m (whole_on st.controller q d)) at
      (looper_made_none s st st' o.is o.is' o.same o.same' o.loopers longer q (k - s.threads) d lt looper))

  -- on each queue there is what all had seen, or that with the controller's one entry
  pub turned_on : (q : ℕ) (d : Sender) → q < length st.controller.kit.posters.items → AreNumbered (setting_for s q) (empty_base (sender_count s)) (whole_on st'.controller q d)
      → (whole_on st'.controller q d ≡ whole_on st.controller q d) ⊎ ((e : Entry) × (whole_on st'.controller q d ≡ whole_on st.controller q d ++ e ∷ []) × P e × (e.sender ≡ controller s))
  turned_on q d lt numbered =
      let t = o.turns.each q d lt in
      let h = o.heard.each q d (subst (λ (m : ℕ). q < m) (sym o.turns.long) lt) in
      let lt' : q < length st'.controller.kit.posters.items = subst (λ (m : ℕ). q < m) (sym longer) lt in
      let n : (slice_index_or st.controller.kit.posters.items q d).sender ≡ controller s = sender_at (controller s) st.hall.queues.items st.controller.kit.posters.items o.is.controller.posters q d lt in
      let es = whole_on st.controller q d in
      let left = whole_on c q d in
      turned_whole (setting_for s q) (empty_base (sender_count s)) (controller s) es (whole_on st'.controller q d) numbered (others_none q d lt) P t.found left t.begins
      (subst (λ (m : ℕ). entries_by m t.found ≡ entries_by m es) n t.made)
      (subst (λ (m : ℕ). (left ≡ t.found) ⊎ ((e : Entry) × (left ≡ t.found ++ e ∷ []) × P e × (e.sender ≡ m))) n t.step)
      h.more
      (controller_entries s st' o.is' q d lt' ∙ h.called ∙ ap (λ (m : ℕ). entries_by m left) (t.sender ∙ n))

  -- all have seen what the controller left, and no more
  pub turned_left : (q : ℕ) (d : Sender) → q < length st.controller.kit.posters.items → AreNumbered (setting_for s q) (empty_base (sender_count s)) (whole_on st'.controller q d)
      → whole_on st'.controller q d ≡ whole_on c q d
  turned_left q d lt numbered =
      let within : q < length c.kit.posters.items = subst (λ (n : ℕ). q < n) (sym o.turns.long) lt in
      let h = o.heard.each q d within in
      let t = o.turns.each q d lt in
      let es = whole_on st.controller q d in
      let left = whole_on c q d in
      let whole = whole_on st'.controller q d in
      let n : (slice_index_or c.kit.posters.items q d).sender ≡ controller s = t.sender ∙ sender_at (controller s) st.hall.queues.items st.controller.kit.posters.items o.is.controller.posters q d lt in
      let mine : entries_by (controller s) whole ≡ entries_by (controller s) left =
      controller_entries s st' o.is' q d (subst (λ (m : ℕ). q < m) (sym longer) lt) ∙ h.called ∙ ap (λ (m : ℕ). entries_by m left) n in
      let begins : IsPrefix es left = prefix_trans es t.found left t.begins (step_on P _ t.found left t.step) in
      is_whole (setting_for s q) (empty_base (sender_count s)) left whole h.more numbered (λ k known. dite (ℕ_discrete k (controller s))
      (λ at. subst (λ (m : ℕ). entries_by m whole ≡ entries_by m left) (sym at) mine)
      (λ apart.
      let none = others_none q d lt k known apart in
      none ∙ sym (none_between k es left whole begins h.more none)))

  -- each history went on
  pub grown_by_turns : (q : ℕ) (d : Sender) → q < length st.controller.kit.posters.items → IsPrefix (whole_on st.controller q d) (whole_on st'.controller q d)
  grown_by_turns q d lt =
      let t = o.turns.each q d lt in
      let within : q < length c.kit.posters.items = subst (λ (m : ℕ). q < m) (sym o.turns.long) lt in
      prefix_trans (whole_on st.controller q d) t.found (whole_on st'.controller q d) t.begins
      (prefix_trans t.found (whole_on c q d) (whole_on st'.controller q d) (step_on P _ t.found (whole_on c q d) t.step) (o.heard.each q d within).more)

  -- and may be one only if what it was may be
  pub sound_by_turns : AreSound s st'.controller → AreSound s st.controller
  sound_by_turns = sound_grown s st.controller st'.controller longer grown_by_turns

-- moves of the time, none past a moment, nor past a later one
pub are_advances_later : (t u : ℕ) → t ≤ u → (es : List Entry) → are_advances t es ≡ true → are_advances u es ≡ true
are_advances_later t u le [] h = refl
are_advances_later t u le (e ∷ es) h =
    let parts = and_parts (is_advance e.call && nat_le (moment_of e.call) t) (are_advances t es) h in
    let one = and_parts (is_advance e.call) (nat_le (moment_of e.call) t) parts.0 in
    let early : moment_of e.call ≤ t = leb-true (moment_of e.call) t one.1 in
    and_from _ _ (and_from _ _ one.0 (le-leb (moment_of e.call) u (omega (arith, early, le)))) (are_advances_later t u le es parts.1)

-- a controller that has moved no queue past a moment has moved none past a later one
pub by_later : (t u : ℕ) (c : Controller) → t ≤ u → AreBy t c → AreBy u c
by_later t u c le by q d lt = are_advances_later t u le (calls_on c q d) (by q d lt)

-- a queue that is over, where the controller has only moved the time, was disposed of
pub over_is_disposed : (s : Script) (q time : ℕ) (es : List Entry) → IsSoundOn s q es → are_advances time (entries_by (controller s) es) ≡ true → is_over (empty_base (sender_count s)) es ≡ true
    → has_disposed (empty_base (sender_count s)) es ≡ true
over_is_disposed s zero time es sound moves over =
    absurd (true≢false (sym over ∙ main_is_not_over (setting_for s zero) (controller s) refl refl time es sound.legal sound.numbered moves))
over_is_disposed s (suc q) time es sound moves over =
    let base = empty_base (sender_count s) in
    let not_halted = side_is_not_halted (setting_for s (suc q)) (sender_count s) (ne_eqb (suc q) 0 (λ e. absurd (omega (arith, e)))) es sound.legal in
    sym (or-false (has_disposed base es)) ∙ ap (λ (t : Bool). has_disposed base es || t) (sym not_halted) ∙ over

-- ==== when messages are due, as told by how the loopers' last rounds ended

-- a time that is not later than another, where there is one, has nothing eligible before it
none_early : (t : ℕ) (o : Option Item) → NotLater t (option_map when_of o) → is_none_before t o ≡ true
none_early t None h = refl
none_early t (Some x) h = le-leb t (when_of x) h

-- where each looper waits for its first message, a time not later than they wait for is one before which no message is due
pub due_of_rest : (s : Script) (t : ℕ) (st : Stage) → AreRested s st
    → ((k : ℕ) (l : StageLooper) → k < length st.loopers.items → is_ended (slice_index_or st.loopers.items k l).last ≡ false → NotLater t (until_of (slice_index_or st.loopers.items k l).last)) → AreDue s t st
due_of_rest s t st rest h q d lt =
    let l : StageLooper = some_of st.loopers.items q lt in
    let one = rest q l d lt in
    let base = empty_base (sender_count s) in
    elim (cases_Bool (is_ended (slice_index_or st.loopers.items q l).last)) [
      | inl ended ↦ inl (one.ended ended)
      | inr waits ↦ inr (none_early t (first_eligible base (whole_on st.controller q d)) (subst (NotLater t) (one.waits waits) (h q l lt waits)), (one.quiet waits).not_quitting)
    ]

-- two lists of which each begins the other are one
begins_both : (xs ys : List Entry) → IsPrefix xs ys → IsPrefix ys xs → xs ≡ ys
begins_both xs ys p q =
    let long = ap length q.1 in
    prefix_whole xs ys p (omega (arith, long, length-append ys q.0))

-- what a round has come to is what all have seen after it, where no history has grown
module _ (s : Script) (st : Stage) (ls : List StageLooper) (st' : Stage) (is : IsStage s st) (is' : IsStage s st') (same : HaveSeenTheSame st) (same' : HaveSeenTheSame st')
    (loopers : AreLoopers s st.hall ls) (on : LoopersGoOn ls) (waits : (k : ℕ) (d : StageLooper) → k < length st.loopers.items → ComesToWait s (slice_index_or st.loopers.items k d) (slice_index_or ls k d))
    (kept : AtEach (LooperKeeps HaveHeard) ls st'.loopers.items) (still : seen_by st'.controller.kit.posters.items ≡ seen_by st.controller.kit.posters.items) where
  -- the loopers are as many as the queues, before and after
  counts : (length ls ≡ length st'.loopers.items) × (length st.loopers.items ≡ length st'.loopers.items)
  counts = (sym kept.long, is.loopers.0 ∙ sym is'.loopers.0)

  -- a looper that waits has seen all
  came_seen : (q : ℕ) (l : StageLooper) (d : Sender) → q < length st'.loopers.items → IsPrefix (slice_index_or st.loopers.items q l).looper.held.poster.view.seen (slice_index_or ls q l).looper.held.poster.view.seen
      → (slice_index_or ls q l).looper.held.poster.view.seen ≡ whole_on st'.controller q d
  came_seen q l d lt grown =
      let lt0 : q < length st.loopers.items = subst (λ (n : ℕ). q < n) (sym counts.1) lt in
      let lt1 : q < length ls = subst (λ (n : ℕ). q < n) (sym counts.0) lt in
      let x : StageLooper = slice_index_or ls q l in
      let z : StageLooper = slice_index_or st'.loopers.items q l in
      let within' : q < length st'.controller.kit.posters.items = subst (λ (n : ℕ). q < n) (sym (queues_count s st' is')) lt in
      let many : length (posters_of z) ≡ length st'.controller.kit.posters.items = as_many (posters_of z) st'.controller.kit.posters.items (same'.loopers q l lt) in
      let keeps = kept.each q l lt1 in
      let heard = keeps.posters.each q d (subst (λ (n : ℕ). q < n) (sym many ∙ keeps.posters.long) within') in
      let one = loopers.1 q l lt1 in
      let mine : slice_index_or (posters_of x) q d ≡ x.looper.held.poster = subst (λ (n : ℕ). slice_index_or (posters_of x) n d ≡ x.looper.held.poster) one.1 (own_among s st.hall x is.hall one.0 d) in
      let before : (slice_index_or st.loopers.items q l).looper.held.poster.view.seen ≡ whole_on st'.controller q d =
      looper_sees s st is same q l d lt0 ∙ sym (seen_at st'.controller.kit.posters.items st.controller.kit.posters.items still q d d (subst (λ (n : ℕ). q < n) (sym (queues_count s st is)) lt0)) in
      let after : IsPrefix x.looper.held.poster.view.seen (whole_on st'.controller q d) =
      subst (λ (p : Sender). IsPrefix p.view.seen (whole_on st'.controller q d)) mine
      (subst (IsPrefix (slice_index_or (posters_of x) q d).view.seen) (seen_at (posters_of z) st'.controller.kit.posters.items (same'.loopers q l lt) q d d within') heard.more) in
      begins_both x.looper.held.poster.view.seen (whole_on st'.controller q d) after (subst (λ (es : List Entry). IsPrefix es x.looper.held.poster.view.seen) before grown)

  -- each looper waits for the first message that no barrier holds back, or has seen its queue over
  pub come_to_rest : AreRested s st'
  come_to_rest q l d lt =
      let base = empty_base (sender_count s) in
      let lt0 : q < length st.loopers.items = subst (λ (n : ℕ). q < n) (sym counts.1) lt in
      let lt1 : q < length ls = subst (λ (n : ℕ). q < n) (sym counts.0) lt in
      let last = (kept.each q l lt1).last in
      record {
        quiet = subst (λ (r : Round). is_ended r ≡ false → HasNoneDue base (whole_on st'.controller q d) (clock base (whole_on st'.controller q d))) (sym last) (λ going.
            let come = waits q l lt0 going (on q l lt1) in
            subst (λ (es : List Entry). HasNoneDue base es (clock base es)) (came_seen q l d lt come.0) come.2);
        waits = subst (λ (r : Round). is_ended r ≡ false → until_of r ≡ option_map when_of (first_eligible base (whole_on st'.controller q d))) (sym last) (λ going.
            let come = waits q l lt0 going (on q l lt1) in
            subst (λ (es : List Entry). until_of (slice_index_or ls q l).last ≡ option_map when_of (first_eligible base es)) (came_seen q l d lt come.0) come.1);
        ended = λ ended. subst (λ (es : List Entry). is_over base es ≡ true) (looper_sees s st' is' same' q l d lt) ((is'.loopers.1 q l lt).0.over ended);
      }

-- histories of which none is shorter than before
grown_tail : (x y : List Entry) (xs ys : List (List Entry)) → AtEach IsPrefix (x ∷ xs) (y ∷ ys) → AtEach IsPrefix xs ys
grown_tail x y xs ys grown = record {
  long = (let long = grown.long in omega (arith, long));
  each = λ k d lt. grown.each (suc k) d (omega (arith, lt));
}

-- a list that begins another is not longer
begins_within : (x y : List Entry) → IsPrefix x y → length x ≤ length y
begins_within x y p = (let long = ap length p.1 in omega (arith, long, length-append x p.0))

head_within : (x y : List Entry) (xs ys : List (List Entry)) → AtEach IsPrefix (x ∷ xs) (y ∷ ys) → length x ≤ length y
head_within x y xs ys grown = begins_within x y (grown.each 0 x (omega arith))

grown_sum : (xs ys : List (List Entry)) → AtEach IsPrefix xs ys → sum_by length xs ≤ sum_by length ys
grown_sum [] ys grown = omega arith
grown_sum (x ∷ xs) [] grown = absurd (let long = grown.long in omega (arith, long))
grown_sum (x ∷ xs) (y ∷ ys) grown =
    let head = head_within x y xs ys grown in
    let rest = grown_sum xs ys (grown_tail x y xs ys grown) in
    let a : sum_by length (x ∷ xs) ≡ length x + sum_by length xs = sum_by-cons length x xs in
    let b : sum_by length (y ∷ ys) ≡ length y + sum_by length ys = sum_by-cons length y ys in
    omega (arith, head, rest, a, b)

-- where all of them together have no entry more, none has grown
pub grown_none : (xs ys : List (List Entry)) → AtEach IsPrefix xs ys → sum_by length ys ≡ sum_by length xs → ys ≡ xs
grown_none [] [] grown sum = refl
grown_none [] (y ∷ ys) grown sum = absurd (let long = grown.long in omega (arith, long))
grown_none (x ∷ xs) [] grown sum = absurd (let long = grown.long in omega (arith, long))
grown_none (x ∷ xs) (y ∷ ys) grown sum =
    let tail = grown_tail x y xs ys grown in
    let head = head_within x y xs ys grown in
    let rest = grown_sum xs ys tail in
    let a : sum_by length (x ∷ xs) ≡ length x + sum_by length xs = sum_by-cons length x xs in
    let b : sum_by length (y ∷ ys) ≡ length y + sum_by length ys = sum_by-cons length y ys in
    let fewer : length y ≤ length x = omega (arith, head, rest, a, b, sum) in
    let same : sum_by length ys ≡ sum_by length xs = omega (arith, head, rest, a, b, sum) in
    ap₂ (λ (z : List Entry) (zs : List (List Entry)). z ∷ zs) (sym (prefix_whole x y (grown.each 0 x (omega arith)) fewer)) (grown_none xs ys tail same)

-- what posters have seen that heard others goes on from what they had seen
pub heard_grown : (ps qs : List Sender) → HaveHeard ps qs → AtEach IsPrefix (seen_by ps) (seen_by qs)
heard_grown ps qs heard = record {
  long = length-map qs seen ∙ heard.long ∙ sym (length-map ps seen);
  each = λ k d lt.
      let lt0 : k < length ps = subst (λ (n : ℕ). k < n) (length-map ps seen) lt in
      let lt1 : k < length qs = subst (λ (n : ℕ). k < n) (sym heard.long) lt0 in
      let p : Sender = some_of ps k lt0 in
      subst (λ (es : List Entry). IsPrefix es (slice_index_or (seen_by qs) k d)) (sym (get_or-map seen ps k p d lt0))
      (subst (IsPrefix (slice_index_or ps k p).view.seen) (sym (get_or-map seen qs k p d lt1)) (heard.each k p lt0).more);
}

-- each of the first loopers that has not ended waits for no earlier time
abbrev pub WaitAfter : ℕ → ℕ → List StageLooper → Type 0
WaitAfter t n ls = (k : ℕ) (l : StageLooper) → k < n → is_ended (slice_index_or ls k l).last ≡ false → NotLater t (until_of (slice_index_or ls k l).last)

-- and one looper more
pub one_waits_more : (t n : ℕ) (ls ls' : List StageLooper) → ls' ≡ ls → WaitAfter t n ls
    → ((l : StageLooper) → is_ended (slice_index_or ls' n l).last ≡ false → NotLater t (until_of (slice_index_or ls' n l).last)) → WaitAfter t (n + 1) ls
one_waits_more t n ls ls' same first one k l lt going = dite (dec_lt k n)
    (λ below. first k l below going)
    (λ last.
    let at : n ≡ k = omega (arith, last, lt) in
    subst (λ (xs : List StageLooper). (m : ℕ) → n ≡ m → is_ended (slice_index_or xs m l).last ≡ false → NotLater t (until_of (slice_index_or xs m l).last)) same
    (λ m is. subst (λ (i : ℕ). is_ended (slice_index_or ls' i l).last ≡ false → NotLater t (until_of (slice_index_or ls' i l).last)) is (one l)) k at going)

-- ==== why the time that the stage moves to next is one to which the queues' times may be moved

-- one of these loopers waits until this time, or a pulse comes then
abbrev pub OneWaits : Script → ℕ → List StageLooper → Type 0
OneWaits s t ls = ((k : ℕ) × (k < length ls) × ((l : StageLooper) → WaitsUntil t (slice_index_or ls k l))) ⊎ IsPulseTime s.period t

-- the earlier of two times has the reason of one of them
pub one_waits : (s : Script) (t n : ℕ) (ls ls' : List StageLooper) (a b : Option ℕ) → n < length ls → ls' ≡ ls → (a ≡ Some t → OneWaits s t ls)
    → (b ≡ Some t → ((l : StageLooper) → WaitsUntil t (slice_index_or ls' n l)) ⊎ IsPulseTime s.period t) → (a ≡ Some t) ⊎ (b ≡ Some t) → OneWaits s t ls
one_waits s t n ls ls' a b lt same first one (inl is) = first is
one_waits s t n ls ls' a b lt same first one (inr is) = elim (one is) [
  | inl waits ↦ inl (n, lt, subst (λ (xs : List StageLooper). (l : StageLooper) → WaitsUntil t (slice_index_or xs n l)) same waits)
  | inr pulse ↦ inr pulse
]

-- so the queues' times may be moved to it where each looper waits for its first message
pub may_come : (s : Script) (t : ℕ) (st : Stage) → IsStage s st → AreRested s st → OneWaits s t st.loopers.items → MayBeMovedTo s t st.controller
may_come s t st is rest (inr pulse) = IsPulse pulse
may_come s t st is rest (inl w) =
    let k : ℕ = w.0 in
    let lt : k < length st.loopers.items = w.1 in
    IsDue k (subst (λ (n : ℕ). k < n) (sym (queues_count s st is)) lt) (λ d.
    let l : StageLooper = some_of st.loopers.items k lt in
    let waits = w.2 l in
    let one = rest k l d lt in
    record { going = (one.quiet waits.0).going; first = sym (one.waits waits.0) ∙ waits.1 })

-- and so they may to the time itself, which is a block's or the end
pub may_come_at : (s : Script) (time last : ℕ) (due : Option ℕ) (c : Controller) → is_planned_time s last ≡ true → (time ≡ last) ⊎ (due ≡ Some time) → (due ≡ Some time → MayBeMovedTo s time c) → MayBeMovedTo s time c
may_come_at s time last due c planned (inl is) reason = IsPlanned (ap (is_planned_time s) is ∙ planned)
may_come_at s time last due c planned (inr is) reason = reason is

-- the end is planned
pub end_is_planned : (s : Script) → is_planned_time s s.end ≡ true
end_is_planned s = or_left _ _ (eq-eqb s.end s.end refl)

-- and a block's time
pub block_is_planned : (s : Script) (i : ℕ) (b : Block) → i < length s.blocks → b ≡ slice_index_or s.blocks i b → is_planned_time s b.time ≡ true
block_is_planned s i b lt is =
    or_right (b.time == s.end) _ (list_any_at (λ (z : Block). z.time == b.time) s.blocks i b lt (ap (λ (z : Block). z.time == b.time) (sym is) ∙ eq-eqb b.time b.time refl))
