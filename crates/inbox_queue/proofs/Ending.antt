-- An inbox run's queue as it is opened and as it ends, and the whole run.
use Rattle.std.proofs.Common.{◌≡◌, ◌<◌, ◌+◌, ◌⊎◌, inl, inr, ℕ, List, [], ◌∷◌, ◌++◌, length, get_or, refl, sym, ap, ◌∙◌, subst, arith, length-append, suc, true, All, Option, Some}
use Rattle.std.specs.Prelude.{slice_index_or, ◌==◌}
use Rattle.std.proofs.Math.Seq.{get_or-append_seam}
use Rattle.std.proofs.lemmas.List.{nil_from_length, get_or_append_left}
use Rattle.std.proofs.lemmas.List.Sums.{length-filter}
use mathlib.Core.List.{IsPrefix}
use mathlib.Core.Logic.{dite}
use native.Mathlib.Decide.{dec_lt, ℕ_discrete}
use Rattle.atomic_table.specs.Seated.{TableId}
use Rattle.loop_model.specs.declared.entry.Entry.{Entry}
use Rattle.loop_model.specs.declared.base.Base.{Base}
use Rattle.loop_model.specs.declared.segment.Segment.{Segment}
use Rattle.loop_model.specs.Answers.{Setting}
use Rattle.loop_model.specs.Legal.{AreNumbered, IsLegal}
use Rattle.shared_queue.specs.Constants.{made_in, Constants}
use Rattle.shared_queue.specs.Known.{Shared, IsOf, own_count}
use Rattle.shared_queue.specs.Ends.{AreInOrder, HasCalls, HaveSealed, AreNew}
use Rattle.run_model.specs.Planned.{entries_by, history_of}
use Rattle.inbox_queue.specs.Turned.{Sender}
use Rattle.inbox_queue.specs.MainQueue.{AreSilent, HandsAreAt, threads_of, seen}
use Rattle.inbox_queue.specs.Opened.{AreIdle, IsInboxPlayed, IsKeptRecord}
use Rattle.inbox_queue.proofs.Handing.{same_by_count, none_before, is_whole}
use Rattle.std.specs.List.{AllByRecursion}
use Rattle.std.specs.Option.{option_to_list}
use Rattle.loop_model.specs.declared.record.QueueRecord.{QueueRecord}
use Rattle.loop_model.specs.Base.{empty_base}
use Rattle.loop_model.specs.Chain.{IsChainFrom}
use Rattle.dash_script.specs.declared.script.Script.{Script}
use Rattle.run_model.specs.Control.{is_controlled, is_called_in_time, ends_halted, each_behind, AreReached}
use Rattle.run_model.specs.Run.{record_setting}
use Rattle.inbox_queue.specs.declared.parcel.Parcel.{Parcel}
use Rattle.inbox_queue.specs.declared.main_queue.Place.{Place}
use Rattle.inbox_queue.specs.declared.main_queue.Hands.{Hands}
use Rattle.inbox_queue.specs.declared.run.InboxReport.{InboxReport}
use Rattle.inbox_queue.specs.InboxRun.{AreOfBlocks, IsInboxRun, IsPostOrLook, posts_made, post_comes_first, moves_as_planned}

-- ==== what is kept of the queue at its end

-- the element behind the first ones
at_seam : {A : Type 0} (xs : List A) (y : A) (zs : List A) (d : A) (k : ℕ) → k ≡ length xs → get_or (xs ++ y ∷ zs) k d ≡ y
at_seam xs y zs d k is = ap (λ n. get_or (xs ++ y ∷ zs) n d) is ∙ get_or-append_seam xs y zs d

-- the threads' posters, and then the looper's and the controller's
abbrev pub all_posters : List Sender → Sender → Sender → List Sender
all_posters threads looper controller = (threads ++ looper ∷ []) ++ controller ∷ []

module _ (threads : List Sender) (looper controller : Sender) where
  pub at_thread : (k : ℕ) (d : Sender) → k < length threads → slice_index_or (all_posters threads looper controller) k d ≡ slice_index_or threads k d
  at_thread k d lt =
      let l = length-append threads (looper ∷ []) in
      get_or_append_left (threads ++ looper ∷ []) (controller ∷ []) d k (let lt' : k < length (threads ++ looper ∷ []) = omega (arith, l, lt) in lt') ∙ get_or_append_left threads (looper ∷ []) d k lt

  pub at_looper : (k : ℕ) (d : Sender) → k ≡ length threads → slice_index_or (all_posters threads looper controller) k d ≡ looper
  at_looper k d is =
      let l = length-append threads (looper ∷ []) in
      get_or_append_left (threads ++ looper ∷ []) (controller ∷ []) d k (let lt' : k < length (threads ++ looper ∷ []) = omega (arith, l, is) in lt') ∙ at_seam threads looper [] d k is

  pub at_controller : (k : ℕ) (d : Sender) → k ≡ length threads + 1 → slice_index_or (all_posters threads looper controller) k d ≡ controller
  at_controller k d is = let l = length-append threads (looper ∷ []) in at_seam (threads ++ looper ∷ []) controller [] d k (let e : k ≡ length (threads ++ looper ∷ []) = omega (arith, l, is) in e)

  pub count_all : length (all_posters threads looper controller) ≡ length threads + 2
  count_all = let l = length-append threads (looper ∷ []) in let m = length-append (threads ++ looper ∷ []) (controller ∷ []) in let e : length (all_posters threads looper controller) ≡ length threads + 2 = omega (arith, l, m) in e

  which : (k : ℕ) → k < length threads + 2 → (k < length threads) ⊎ (k ≡ length threads) ⊎ (k ≡ length threads + 1)
  which k lt = dite (dec_lt k (length threads)) (λ below. inl below) (λ not. dite (ℕ_discrete k (length threads)) (λ is. inr (inl is)) (λ apart. inr (inr (let e : k ≡ length threads + 1 = omega arith in e))))

  -- the last of them is the controller's
  pub last_sealed : (parts : List Segment) → controller.view.sealed ≡ parts → HaveSealed (all_posters threads looper controller) parts
  last_sealed parts is k d last = ap (λ (p : Sender). p.view.sealed) (at_controller k d (let at : k ≡ length threads + 1 = omega (arith, count_all, last) in at)) ∙ is

  -- they are in order
  pub in_order : (queue : Shared TableId) → AreIdle queue threads → IsOf looper queue → looper.sender ≡ length threads → IsOf controller queue → controller.sender ≡ length threads + 1 → AreInOrder queue (all_posters threads looper controller)
  in_order queue idle l ln c cn k d lt = one (which k (let lt' : k < length threads + 2 = omega (arith, count_all, lt) in lt'))
    where
      Is : Sender → Type 0
      Is p = IsOf p queue × (p.sender ≡ k)

      one : (k < length threads) ⊎ (k ≡ length threads) ⊎ (k ≡ length threads + 1) → Is (slice_index_or (all_posters threads looper controller) k d)
      one (inl below) = let i = idle k d below in subst Is (sym (at_thread k d below)) (i.0, i.1)
      one (inr (inl is)) = subst Is (sym (at_looper k d is)) (l, ln ∙ sym is)
      one (inr (inr is)) = subst Is (sym (at_controller k d is)) (c, cn ∙ sym is)

  -- the whole history is what the looper and the controller have seen
  pub whole : (queue : Shared TableId) (set : Setting) (b : Base) (entries : List Entry) → set.senders ≡ length threads + 2 → AreIdle queue threads → looper.sender ≡ length threads → controller.sender ≡ length threads + 1
      → controller.view.seen ≡ looper.view.seen → AreNumbered set b entries → HasCalls entries (all_posters threads looper controller) → AreSilent (length threads) entries × (entries ≡ looper.view.seen)
  whole queue set b entries senders idle ln cn same numbered calls = (silent, is_whole set b looper.view.seen entries looper_sees.0 numbered (λ k lt. each k (which k (let lt' : k < length threads + 2 = omega (arith, senders, lt) in lt'))))
    where
      all : List Sender
      all = all_posters threads looper controller

      Has : Sender → Type 0
      Has p = IsPrefix p.view.seen entries × (made_in p.sender entries ≡ own_count p)

      looper_sees : Has looper
      looper_sees = subst Has (at_looper (length threads) looper refl) (calls (length threads) looper (let lt : length threads < length all = omega (arith, count_all) in lt))

      controller_sees : Has controller
      controller_sees = subst Has (at_controller (length threads + 1) controller refl) (calls (length threads + 1) controller (let lt : length threads + 1 < length all = omega (arith, count_all) in lt))

      silent : AreSilent (length threads) entries
      silent k lt =
          let i = idle k looper lt in
          let h : Has (slice_index_or threads k looper) = subst Has (at_thread k looper lt) (calls k looper (let lt' : k < length all = omega (arith, count_all, lt) in lt')) in
          let none : made_in k entries ≡ 0 = ap (λ n. made_in n entries) (sym i.1) ∙ h.1 ∙ i.2 in
          nil_from_length (entries_by k entries) (length-filter (λ (e : Entry). e.sender == k) entries ∙ none)

      each : (k : ℕ) → (k < length threads) ⊎ (k ≡ length threads) ⊎ (k ≡ length threads + 1) → entries_by k entries ≡ entries_by k looper.view.seen
      each k (inl below) = silent k below ∙ sym (none_before k looper.view.seen entries looper_sees.0 (silent k below))
      each k (inr (inl is)) = subst (λ n. entries_by n entries ≡ entries_by n looper.view.seen) (ln ∙ sym is) (same_by_count looper.sender looper.view.seen entries looper_sees.0 looper_sees.1)
      each k (inr (inr is)) = subst (λ n. entries_by n entries ≡ entries_by n looper.view.seen) (cn ∙ sym is)
          (same_by_count controller.sender looper.view.seen entries looper_sees.0 (controller_sees.1 ∙ ap (made_in controller.sender) same))

  -- as they are made
  pub parted : (queue : Shared TableId) → AreNew queue (all_posters threads looper controller) → AreIdle queue threads × (IsOf looper queue × (looper.sender ≡ length threads) × (looper.view.seen ≡ [])) × (IsOf controller queue × (controller.sender ≡ length threads + 1) × (controller.view.seen ≡ []) × (controller.view.sealed ≡ []))
  parted queue new = (
    (λ k d lt. let lt' : k < length (all_posters threads looper controller) = omega (arith, count_all, lt) in
        let i = new.0 k d lt' in let m = new.1 k d lt' in
        subst (λ (p : Sender). IsOf p queue × (p.sender ≡ k) × (own_count p ≡ 0)) (at_thread k d lt) (i.0, i.1, m.made)),
    (let lt' : length threads < length (all_posters threads looper controller) = omega (arith, count_all) in
        let i = new.0 (length threads) looper lt' in let m = new.1 (length threads) looper lt' in
        subst (λ (p : Sender). IsOf p queue × (p.sender ≡ length threads) × (p.view.seen ≡ [])) (at_looper (length threads) looper refl) (i.0, i.1, m.seen)),
    (let lt' : length threads + 1 < length (all_posters threads looper controller) = omega (arith, count_all) in
        let i = new.0 (length threads + 1) looper lt' in let m = new.1 (length threads + 1) looper lt' in
        subst (λ (p : Sender). IsOf p queue × (p.sender ≡ length threads + 1) × (p.view.seen ≡ []) × (p.view.sealed ≡ [])) (at_controller (length threads + 1) looper refl) (i.0, i.1, m.seen, m.sealed)),
  )

-- ==== an inbox run's queue as it is opened and as it ends, and the whole run

-- the last two of a list
pub two_popped : (all one two : List Sender) (a b : Option Sender) (looper controller : Sender) → all ≡ one ++ option_to_list a → a ≡ Some controller → one ≡ two ++ option_to_list b → b ≡ Some looper → all ≡ all_posters two looper controller
two_popped all one two a b looper controller p is q is' =
    p ∙ ap (λ (l : List Sender). l ++ option_to_list a) (q ∙ ap (λ (r : Option Sender). two ++ option_to_list r) is') ∙ ap (λ (r : Option Sender). (two ++ looper ∷ []) ++ option_to_list r) is

-- what is new is open
pub as_opened : (n : ℕ) (place : Place) (hands : Hands) (threads posters : List Sender) → posters ≡ all_posters threads hands.looper hands.controller → length posters ≡ n + 2 → AreNew place.queue posters
    → place.queue.constants ≡ record { home = place.pool; looper = 0; setting = record { main = true; lockstep = true; senders = n + 2 } } → hands.pass.home ≡ place.pool
    → HandsAreAt place hands × (threads_of hands ≡ n) × (place.queue.constants.looper ≡ 0) × AreIdle place.queue threads × (length threads ≡ n) × (seen hands ≡ [])
as_opened n place hands threads posters are count new constants pass =
    let p = parted threads hands.looper hands.controller place.queue (subst (AreNew place.queue) are new) in
    let all : length (all_posters threads hands.looper hands.controller) ≡ n + 2 = ap length (sym are) ∙ count in
    let few = count_all threads hands.looper hands.controller in
    let short : length threads ≡ n = omega (arith, all, few) in
    let own : threads_of hands ≡ n = p.1.1 ∙ short in (
      record {
        looper = p.1.0;
        controller = p.2.0;
        number = p.2.1 ∙ ap (λ k. k + 1) (short ∙ sym own);
        setting = ap (λ (c : Constants TableId). c.setting) constants ∙ ap (λ (k : ℕ). let s : Setting = record { main = true; lockstep = true; senders = k + 2 } in s) (sym own);
        pass = pass;
        home = ap (λ (c : Constants TableId). c.home) constants;
        same = p.2.2 ∙ sym p.1.2;
        whole = p.2.3;
      },
      own,
      ap (λ (c : Constants TableId). c.looper) constants,
      p.0,
      short,
      p.1.2,
    )

-- all posters are in order at the end
pub all_in_order : (place : Place) (hands : Hands) (threads : List Sender) → HandsAreAt place hands → AreIdle place.queue threads → length threads ≡ threads_of hands
    → (length (all_posters threads hands.looper hands.controller) ≡ place.queue.constants.setting.senders) × AreInOrder place.queue (all_posters threads hands.looper hands.controller)
all_in_order place hands threads at idle count = (
  (let all = count_all threads hands.looper hands.controller in let n : threads_of hands + 2 ≡ place.queue.constants.setting.senders = sym (ap (λ (s : Setting). s.senders) at.setting) in
      let r : length (all_posters threads hands.looper hands.controller) ≡ place.queue.constants.setting.senders = omega (arith, all, n, count) in r),
  in_order threads hands.looper hands.controller place.queue idle at.looper (sym count) at.controller (at.number ∙ ap (λ k. k + 1) (sym count)),
)

-- what is kept
pub as_kept : (place : Place) (hands : Hands) (threads : List Sender) (r : QueueRecord) → HandsAreAt place hands → AreIdle place.queue threads → length threads ≡ threads_of hands → place.queue.constants.looper ≡ 0
    → r.looper ≡ place.queue.constants.looper → record_setting r ≡ place.queue.constants.setting → IsChainFrom (empty_base place.queue.constants.setting.senders) r.segments
    → IsLegal place.queue.constants.setting (empty_base place.queue.constants.setting.senders) (history_of r) → AreNumbered place.queue.constants.setting (empty_base place.queue.constants.setting.senders) (history_of r)
    → HasCalls (history_of r) (all_posters threads hands.looper hands.controller) → IsKeptRecord (threads_of hands) (seen hands) r
as_kept place hands threads r at idle count main looper set chain legal numbered calls =
    let key = place.queue.constants.setting in
    let n : key.senders ≡ threads_of hands + 2 = ap (λ (s : Setting). s.senders) at.setting in
    let senders : key.senders ≡ length threads + 2 = omega (arith, n, count) in
    let w = whole threads hands.looper hands.controller place.queue key (empty_base key.senders) (history_of r) senders idle (sym count) (at.number ∙ ap (λ k. k + 1) (sym count)) at.same numbered calls in
    record {
      looper = looper ∙ main;
      setting = set ∙ at.setting;
      chain = subst (λ (s : Setting). IsChainFrom (empty_base s.senders) r.segments) (sym set) chain;
      legal = subst (λ (s : Setting). IsLegal s (empty_base s.senders) (history_of r)) (sym set) legal;
      numbered = subst (λ (s : Setting). AreNumbered s (empty_base s.senders) (history_of r)) (sym set) numbered;
      silent = subst (λ k. AreSilent k (history_of r)) count w.0;
      whole = w.1;
    }

-- the threads were silent to the end, so all was played
pub all_played : (s : Script) (n : ℕ) (es : List Entry) (r : QueueRecord) (lists : List (List Parcel)) → n ≡ s.threads → IsKeptRecord n es r → (AreSilent s.threads es → IsInboxPlayed s s.threads lists es) → IsKeptRecord s.threads es r × IsInboxPlayed s s.threads lists es
all_played s n es r lists is kept played =
    let own : IsKeptRecord s.threads es r = subst (λ k. IsKeptRecord k es r) is kept in
    (own, played (subst (AreSilent s.threads) own.whole own.silent))

-- the report is an inbox run
pub is_run : (s : Script) (report : InboxReport) (es : List Entry) → report.script ≡ s → AreOfBlocks s s.blocks report.admitted → IsKeptRecord s.threads es report.kept → IsInboxPlayed s s.threads report.admitted es → IsInboxRun s report
is_run s report es is blocks kept played = record {
  script = is;
  looper = kept.looper;
  setting = kept.setting;
  chain = kept.chain;
  legal = kept.legal;
  numbered = kept.numbered;
  threads = kept.silent;
  admitted = blocks;
  posts = ap (posts_made s.threads) kept.whole ∙ played.posts;
  looks = subst (λ (l : List Entry). AllByRecursion (λ e. IsPostOrLook e.call) (entries_by s.threads l)) (sym kept.whole) played.ended.looks;
  first = ap (λ l. each_behind post_comes_first [] l) kept.whole ∙ played.ended.first;
  planned = ap (λ l. each_behind (moves_as_planned s) [] l) kept.whole ∙ played.ended.planned;
  reached = subst (AreReached s.blocks) (sym kept.whole) played.reached;
  controlled = ap (λ l. is_controlled true true (s.threads + 1) s.end l) kept.whole ∙ played.ended.controlled;
  timely = ap (λ l. is_called_in_time (s.threads + 1) l) kept.whole ∙ played.ended.timely;
  halted = ap ends_halted kept.whole ∙ played.ended.halted;
}
