-- A looper of the stage: how it begins from its kit, what a round keeps, and its kit again.
use Rattle.std.proofs.Common.{◌≡◌, ℕ, ◌+◌, ◌-◌, ◌<◌, ◌≤◌, ◌⊎◌, Bool, true, false, ltb, List, [], ◌∷◌, map, length, get_or, Option, Some, None, refl, sym, ap, ap₂, ◌∙◌, subst, arith, inl, inr, lt-ltb, le-ltb}
use Rattle.std.specs.List.{insert, remove, slice_get, filter_map}
use Rattle.std.specs.Option.{IsSomeAnd, option_map}
use Rattle.std.proofs.lemmas.List.{length-map}
use Rattle.std.proofs.lemmas.List.Edits.{length-remove, get_or-insert_at}
use Rattle.std.proofs.lemmas.Option.{slice_get-map, slice_get_cases, slice_get_read}
use Rattle.atomic_table.specs.Seated.{TableId}
use Rattle.dash_script.specs.declared.script.Script.{Script}
use Rattle.loop_model.specs.Base.{empty_base}
use Rattle.loop_model.specs.Answers.{is_over}
use Rattle.run_model.specs.Planned.{sender_count, entries_by}
use Rattle.shared_queue.specs.Constants.{Constants}
use Rattle.shared_queue.specs.Known.{Shared}
use Rattle.choreographer.specs.Known.{SharedFrames}
use Rattle.looper_run.specs.declared.looper.Round.{Round}
use Rattle.looper_run.specs.Holding.{Sender, Looping, Workplace, workplace}
use Rattle.looper_run.specs.Tests.{IsSameLooper}
use Rattle.looper_run.specs.Asked.{any_heard}
use Rattle.looper_run.specs.Looks.{IsRound}
use Rattle.looper_run.specs.Round.{RoundBy, is_ended}
use Rattle.looper_run.specs.Acts.{taken_messages}
use Rattle.loop_model.specs.Dispatches.{dispatches, call_dispatch}
use Rattle.loop_model.specs.declared.entry.Entry.{Entry}
use Rattle.loop_model.specs.declared.journal.Journal.{Journal}
use Rattle.looper_run.proofs.Steps.{workplace_same}
use Rattle.dash_hall.specs.declared.hall.Hall.{Hall}
use Rattle.dash_hall.specs.declared.kit.Kit.{Kit}
use Rattle.dash_loopers.specs.declared.player.Parts.{Parts}
use Rattle.dash_loopers.specs.declared.looper.StageLooper.{StageLooper}
use Rattle.dash_hall.specs.Kits.{Badge, badge_of, badge_for, frame_badge_of, frame_badge_for, frames_for, IsHall, IsKitOf, IsUnusedKit, queue_constants}
use Rattle.dash_loopers.specs.Loopers.{ArePartsOf, IsPlaceOf, IsLooperOf, IsLooper, DisposesLast, setting_in, is_given_up}
use Rattle.dash_loopers.specs.Players.{Owner, ServesAt}
use Rattle.dash_loopers.proofs.LooperLists.{map-remove, map-insert, insert_removed, at_same}
use Rattle.dash_loopers.proofs.LooperPlaces.{queue_count, frames_count, queue_is}
use Rattle.dash_loopers.proofs.LooperDisposes.{disposes_by_round, disposes_none, disposes_so_far}
use Rattle.dash_loopers.proofs.LooperOver.{over_by_round, waits_by_round, WaitsBy}
use Rattle.dash_loopers.proofs.LooperTold.{taken_own, told_by_round}

pub looper_of : (s : Script) (hall : Hall) (l : StageLooper) → IsHall s hall → IsLooper s hall l → IsLooperOf s hall l.number
looper_of s hall l is_hall is = record { few = is.few; one = is.number; is_hall = is_hall }

pub parts_of : (s : Script) (hall : Hall) (l : StageLooper) (parts : Parts) → IsLooper s hall l → l.parts ≡ Some parts → ArePartsOf s hall l.number parts
parts_of s hall l parts is e = subst (λ (o : Option Parts). IsSomeAnd o (ArePartsOf s hall l.number)) e is.parts

module _ (s : Script) (hall : Hall) (n : ℕ) (l : IsLooperOf s hall n) where
  -- it has a queue and a choreographer
  pub its_queue : (q : Shared TableId) × (slice_get hall.queues.items n ≡ Some q)
  its_queue = found (slice_get_cases hall.queues.items n).1
    where
      found : ((x : Shared TableId) × (n < length hall.queues.items) × (slice_get hall.queues.items n ≡ Some x) × (get_or hall.queues.items n x ≡ x)) ⊎ ((length hall.queues.items ≤ n) × (slice_get hall.queues.items n ≡ None)) → (q : Shared TableId) × (slice_get hall.queues.items n ≡ Some q)
      found (inl a) = (a.0, a.2)
      found (inr b) = (let few = b.0 in let one = l.one in absurd (omega (arith, few, one, queue_count s hall n l)))

  pub its_frames : (c : SharedFrames) × (slice_get hall.choreographers.items n ≡ Some c)
  its_frames = found (slice_get_cases hall.choreographers.items n).1
    where
      found : ((x : SharedFrames) × (n < length hall.choreographers.items) × (slice_get hall.choreographers.items n ≡ Some x) × (get_or hall.choreographers.items n x ≡ x)) ⊎ ((length hall.choreographers.items ≤ n) × (slice_get hall.choreographers.items n ≡ None)) → (c : SharedFrames) × (slice_get hall.choreographers.items n ≡ Some c)
      found (inl a) = (a.0, a.2)
      found (inr b) = (let few = b.0 in let one = l.one in absurd (omega (arith, few, one, frames_count s hall n l)))

  -- the pass of its kit
  pub one_frame : (c : SharedFrames) → slice_get hall.choreographers.items n ≡ Some c → frames_for s hall.choreographers.items (s.threads + n) ≡ frame_badge_for s.threads c ∷ []
  one_frame c at =
      let one = l.one in
      let no_thread : ltb (s.threads + n) s.threads ≡ false = le-ltb (s.threads + n) s.threads (omega arith) in
      let looper : ltb (s.threads + n) (s.threads + s.loopers) ≡ true = lt-ltb (s.threads + n) (s.threads + s.loopers) (omega (arith, one)) in
      let place : s.threads + n - s.threads ≡ n = omega arith in
      rw (no_thread, looper, place, at) refl

  pub kit_many : (kit : Kit) → IsKitOf s hall (s.threads + n) kit → n < length kit.posters.items
  kit_many kit k =
      let one = l.one in
      let count = queue_count s hall n l in
      let same = ap length k.posters in
      omega (arith, one, count, same, length-map kit.posters.items badge_of, length-map hall.queues.items (badge_for (s.threads + n)))

  -- its kit has one pass
  pub kit_one : (kit : Kit) → IsKitOf s hall (s.threads + n) kit → length kit.frames.items ≡ 1
  kit_one kit k =
      let c = its_frames in
      let same : length (map frame_badge_of kit.frames.items) ≡ 1 = ap length (k.frames ∙ one_frame c.0 c.1) in
      omega (arith, same, length-map kit.frames.items frame_badge_of)

  pub others_many : (parts : Parts) → ArePartsOf s hall n parts → n ≤ length parts.others.items
  others_many parts are =
      let k : ℕ = s.threads + n in
      let one = l.one in
      let count = queue_count s hall n l in
      let many = length-map hall.queues.items (badge_for k) in
      let within : n < length (map (badge_for k) hall.queues.items) = omega (arith, one, count, many) in
      let same = ap length are.others in
      omega (arith, within, same, length-map parts.others.items badge_of, length-remove (map (badge_for k) hall.queues.items) n within)

-- the only one
pub only_is : {X Y : Type 0} (f : X → Y) (xs : List X) (x : X) (a : Y) → map f xs ≡ a ∷ [] → x ≡ get_or xs 0 x → f x ≡ a
only_is f [] x a e is = absurd cc
only_is f (y ∷ ys) x a e is = let head : f y ≡ a = cc in ap f is ∙ head

-- its code serves its queue
pub serves_now : (s : Script) (hall : Hall) (l : StageLooper) (parts : Parts) → IsHall s hall → IsLooper s hall l → l.parts ≡ Some parts → ServesAt s hall l.number parts (workplace l.looper.held)
serves_now s hall l parts is_hall is e = record { looper = looper_of s hall l is_hall is; place = is.place; are_parts = parts_of s hall l parts is e }

-- it is the looper with other parts that are its own
pub looper_with : (s : Script) (hall : Hall) (l : StageLooper) (parts : Parts) → ArePartsOf s hall l.number parts → IsLooper s hall l
    → IsLooper s hall (record { number = l.number; sender = l.sender; looper = l.looper; parts = Some parts; last = l.last; dispatched = l.dispatched })
looper_with s hall l parts are is = record {
  few = is.few;
  number = is.number;
  sender = is.sender;
  parts = are;
  place = is.place;
  own = is.own;
  journal = is.journal;
  ended = is.ended;
  told = is.told;
  over = is.over;
  disposes = is.disposes;
}

-- the parts that a round leaves are still the looper's
pub parts_left : (s : Script) (hall : Hall) (now : ℕ) (began l : StageLooper) (o : Owner) (parts parts' : Parts) → IsHall s hall → IsLooper s hall l
    → l.parts ≡ Some parts → o ≡ record { script = s; hall = hall; number = l.number; now = now; began = began }
    → ((w : Workplace) → ServesAt s hall l.number parts w → ServesAt o.script o.hall o.number parts' w) → ArePartsOf s hall l.number parts'
parts_left s hall now began l o parts parts' is_hall is e origin serves =
    (subst (λ (x : Owner). ServesAt x.script x.hall x.number parts' (workplace l.looper.held)) origin (serves (workplace l.looper.held) (serves_now s hall l parts is_hall is e))).are_parts

-- what a round leaves is still the looper
pub looper_then : (s : Script) (hall : Hall) (now : ℕ) (l : StageLooper) (d : ℕ) (q : Shared TableId) (parts' : Parts) (after : Looping) (last : Round) → IsHall s hall → IsLooper s hall l
    → slice_get hall.queues.items l.number ≡ Some q → ArePartsOf s hall l.number parts'
    → IsSameLooper l.looper.held after.held → after.ended ≡ is_ended last → RoundBy q.constants.setting now l.looper.held after.held last → IsRound any_heard now l.looper after last → is_ended l.last ≡ false → is_given_up l.last ≡ false
    → IsLooper s hall (record { number = l.number; sender = l.sender; looper = after; parts = Some parts'; last = last; dispatched = d })
looper_then s hall now l d q parts' after last is_hall is at are same ended round looks unended going =
    let of = looper_of s hall l is_hall is in
    record {
      few = is.few;
      number = is.number;
      sender = is.sender;
      parts = are;
      place = subst (λ (v : Workplace). IsPlaceOf hall l.number v) (sym (workplace_same l.looper.held after.held same)) is.place;
      own = same.sender ∙ is.own;
      journal = same.looper ∙ is.journal;
      ended = ended;
      told = λ on.
          let mine = is.own in
          let before = subst (λ (n : ℕ). dispatches l.looper.held.journal.acts ≡ taken_messages n l.looper.held.poster.view.seen) (sym mine) (is.told going) in
          subst (λ (n : ℕ). dispatches after.held.journal.acts ≡ taken_messages n after.held.poster.view.seen) mine (told_by_round q.constants.setting now l.looper.held after.held last round on before);
      over = λ over. subst (λ (c : Constants TableId). is_over (empty_base c.setting.senders) after.held.poster.view.seen ≡ true) (queue_is s hall l.number of l.number q at)
          (over_by_round q.constants.setting now l.looper.held after.held last q.constants (same.constants ∙ (is.place.queue q at).1) round over);
      disposes = disposes_by_round l.sender now l.looper after l.last last unended going is.own looks is.disposes;
    }

-- the round that was run, by the setting of the looper's queue
pub ran_on : (lockstep : Bool) (s : Script) (hall : Hall) (mode : hall.lockstep ≡ lockstep) (now : ℕ) (l : StageLooper) (q : Shared TableId) (after : Looping) (last : Round) → IsHall s hall → IsLooper s hall l → slice_get hall.queues.items l.number ≡ Some q
    → RoundBy q.constants.setting now l.looper.held after.held last → RoundBy (setting_in lockstep s l.number) now l.looper.held after.held last
ran_on lockstep s hall mode now l q after last is_hall is at round =
    subst (λ (c : Constants TableId). RoundBy c.setting now l.looper.held after.held last) (queue_is s hall l.number (looper_of s hall l is_hall is) l.number q at ∙ ap (λ b. queue_constants b s hall.pool l.number) mode) round

-- unless it ended or gave up, it has come to wait for the first message that no barrier holds back, and none is due
pub comes_to_wait : (lockstep : Bool) (s : Script) (hall : Hall) (mode : hall.lockstep ≡ lockstep) (now : ℕ) (l : StageLooper) (q : Shared TableId) (after : Looping) (last : Round) → IsHall s hall → IsLooper s hall l → slice_get hall.queues.items l.number ≡ Some q
    → IsSameLooper l.looper.held after.held → RoundBy q.constants.setting now l.looper.held after.held last → is_ended last ≡ false → is_given_up last ≡ false
    → WaitsBy (setting_in lockstep s l.number) now last l.looper.held.poster.view.seen after.held.poster.view.seen
comes_to_wait lockstep s hall mode now l q after last is_hall is at same round e g =
    subst (λ (c : Constants TableId). WaitsBy c.setting now last l.looper.held.poster.view.seen after.held.poster.view.seen)
    (queue_is s hall l.number (looper_of s hall l is_hall is) l.number q at ∙ ap (λ b. queue_constants b s hall.pool l.number) mode)
    (waits_by_round q.constants.setting now l.looper.held after.held last q.constants (same.constants ∙ (is.place.queue q at).1) round e g)

-- its posters are those of its kit
pub posters_begin : (kit : Kit) (n : ℕ) (poster mine : Sender) (others : List Sender) → n < length kit.posters.items → poster ≡ get_or kit.posters.items n poster → others ≡ remove kit.posters.items n → mine ≡ poster
    → insert others n mine ≡ kit.posters.items
posters_begin kit n poster mine others lt is rest same =
    ap₂ (λ xs (p : Sender). insert xs n p) rest same ∙ insert_removed kit.posters.items n poster (slice_get_read kit.posters.items (length kit.posters.items) n poster refl lt is)

-- a looper begins with what its kit has
pub looper_begins : (s : Script) (hall : Hall) (n : ℕ) (kit : Kit) (parts : Parts) (looping : Looping) (poster : Sender) (last : Round) → IsLooperOf s hall n → IsKitOf s hall (s.threads + n) kit → IsUnusedKit kit
    → poster ≡ get_or kit.posters.items n poster → parts.others.items ≡ remove kit.posters.items n
    → parts.frames ≡ get_or kit.frames.items 0 parts.frames
    → looping.held ≡ record { poster = poster; pass = kit.pass; journal = record { looper = n; acts = [] } } → looping.ended ≡ is_ended last → is_ended last ≡ false → parts.awaits ≡ false
    → IsLooper s hall (record { number = n; sender = s.threads + n; looper = looping; parts = Some parts; last = last; dispatched = 0 })
looper_begins s hall n kit parts looping poster last l k unused is others frames held ended going unawaited =
    let at : slice_get kit.posters.items n ≡ Some poster = slice_get_read kit.posters.items (length kit.posters.items) n poster refl (kit_many s hall n l kit k) is in
    let mine : (q : Shared TableId) → slice_get hall.queues.items n ≡ Some q → badge_of poster ≡ badge_for (s.threads + n) q = λ q at'. at_same badge_of (badge_for (s.threads + n)) kit.posters.items hall.queues.items n poster q k.posters at at' in
    let q = its_queue s hall n l in
    let none : entries_by (s.threads + n) poster.view.seen ≡ [] =
    ap (entries_by (s.threads + n)) (subst (λ (p : Sender). p.view.seen ≡ []) (sym is) (unused.posters n poster (kit_many s hall n l kit k))) in
    let taken_none : taken_messages (s.threads + n) poster.view.seen ≡ [] = taken_own (s.threads + n) poster.view.seen ∙ ap (filter_map (λ (e : Entry). call_dispatch e.call e.reply)) none in
    record {
      few = l.few;
      number = l.one;
      sender = refl;
      parts = record {
        others = ap (map badge_of) others ∙ (map-remove badge_of kit.posters.items n ∙ ap (λ xs. remove xs n) k.posters);
        frames = λ c at'. only_is frame_badge_of kit.frames.items parts.frames (frame_badge_for s.threads c) (k.frames ∙ one_frame s hall n l c at') frames;
        awaits = λ waits. absurd (let wrong : false ≡ true = sym unawaited ∙ waits in cc);
      };
      place = record {
        queue = λ q at'. (
          ap (λ h. h.poster.table) held ∙ ap (λ (b : Badge). b.table) (mine q at'),
          ap (λ h. h.poster.view.constants) held ∙ ap (λ (b : Badge). b.constants) (mine q at'),
        );
        pool = ap (λ h. h.pass.home) held ∙ k.pass;
      };
      own = ap (λ h. h.poster.sender) held ∙ ap (λ (b : Badge). b.sender) (mine q.0 q.1);
      journal = ap (λ h. h.journal.looper) held;
      ended = ended;
      told = λ on. ap (λ h. dispatches h.journal.acts) held ∙ sym (ap (λ h. taken_messages (s.threads + n) h.poster.view.seen) held ∙ taken_none);
      over = λ over. absurd (let wrong : false ≡ true = sym going ∙ over in cc);
      disposes = disposes_none last (entries_by (s.threads + n) looping.held.poster.view.seen) going (ap (λ h. entries_by (s.threads + n) h.poster.view.seen) held ∙ none);
    }

-- the looper's kit again
pub kit_again : (s : Script) (hall : Hall) (l : StageLooper) (parts : Parts) (kit : Kit) → IsHall s hall → IsLooper s hall l → l.parts ≡ Some parts
    → kit.posters.items ≡ insert parts.others.items l.number l.looper.held.poster → kit.frames.items ≡ parts.frames ∷ [] → kit.pass ≡ l.looper.held.pass
    → IsKitOf s hall (s.threads + l.number) kit
kit_again s hall l parts kit is_hall is e posters frames pass =
    let k : ℕ = s.threads + l.number in
    let of = looper_of s hall l is_hall is in
    let are = parts_of s hall l parts is e in
    let q = its_queue s hall l.number of in
    let c = its_frames s hall l.number of in
    let table = (is.place.queue q.0 q.1).0 in
    let constants = (is.place.queue q.0 q.1).1 in
    let sender = is.own ∙ is.sender in
    let badge : badge_of l.looper.held.poster ≡ badge_for k q.0 = λ i. record { table = table i; constants = constants i; sender = sender i } in
    let at : slice_get (map (badge_for k) hall.queues.items) l.number ≡ Some (badge_for k q.0) = slice_get-map (badge_for k) hall.queues.items l.number ∙ ap (option_map (badge_for k)) q.1 in
    record {
      posters = ap (map badge_of) posters ∙ (map-insert badge_of parts.others.items l.number l.looper.held.poster
          ∙ (ap₂ (λ xs b. insert xs l.number b) are.others badge ∙ insert_removed (map (badge_for k) hall.queues.items) l.number (badge_for k q.0) at));
      frames = ap (map frame_badge_of) frames ∙ (ap (λ b. b ∷ []) (are.frames c.0 c.1) ∙ sym (one_frame s hall l.number of c.0 c.1));
      pass = ap (λ t. t.home) pass ∙ is.place.pool;
    }

-- its own poster is again among all of them, at the looper's place
pub own_again : (s : Script) (hall : Hall) (l : StageLooper) (parts : Parts) (posters : List Sender) → IsHall s hall → IsLooper s hall l → l.parts ≡ Some parts
    → posters ≡ insert parts.others.items l.number l.looper.held.poster → (d : Sender) → get_or posters l.number d ≡ l.looper.held.poster
own_again s hall l parts posters is_hall is e back d =
    let of = looper_of s hall l is_hall is in
    ap (λ ps. get_or ps l.number d) back ∙ get_or-insert_at parts.others.items l.number l.looper.held.poster d (others_many s hall l.number of parts (parts_of s hall l parts is e))

-- where a round has ended the looper, its own poster has seen its queue over
pub seen_over : (s : Script) (hall : Hall) (l : StageLooper) (parts : Parts) (posters : List Sender) → IsHall s hall → IsLooper s hall l → l.parts ≡ Some parts
    → posters ≡ insert parts.others.items l.number l.looper.held.poster → is_ended l.last ≡ true
    → (d : Sender) → is_over (empty_base (sender_count s)) (get_or posters l.number d).view.seen ≡ true
seen_over s hall l parts posters is_hall is e back ended d =
    subst (λ (p : Sender). is_over (empty_base (sender_count s)) p.view.seen ≡ true) (sym (own_again s hall l parts posters is_hall is e back d)) (is.over ended)

-- and it has disposed of its queue by its last call, if at all
pub disposes_again : (s : Script) (hall : Hall) (l : StageLooper) (parts : Parts) (posters : List Sender) → IsHall s hall → IsLooper s hall l → l.parts ≡ Some parts
    → posters ≡ insert parts.others.items l.number l.looper.held.poster → is_given_up l.last ≡ false
    → (d : Sender) → DisposesLast (entries_by (s.threads + l.number) (get_or posters l.number d).view.seen)
disposes_again s hall l parts posters is_hall is e back on d =
    subst (λ (p : Sender). DisposesLast (entries_by (s.threads + l.number) p.view.seen)) (sym (own_again s hall l parts posters is_hall is e back d))
    (subst (λ (n : ℕ). DisposesLast (entries_by n l.looper.held.poster.view.seen)) is.sender (disposes_so_far l.last (entries_by l.sender l.looper.held.poster.view.seen) on is.disposes))

-- and what it has taken is told by the looper's journal
pub told_again : (s : Script) (hall : Hall) (l : StageLooper) (parts : Parts) (posters : List Sender) (j : Journal) → IsHall s hall → IsLooper s hall l → l.parts ≡ Some parts
    → posters ≡ insert parts.others.items l.number l.looper.held.poster → j ≡ l.looper.held.journal → is_given_up l.last ≡ false
    → (d : Sender) → dispatches j.acts ≡ taken_messages (s.threads + l.number) (get_or posters l.number d).view.seen
told_again s hall l parts posters j is_hall is e back same on d =
    ap (λ (k : Journal). dispatches k.acts) same
    ∙ (is.told on
    ∙ (ap (λ (n : ℕ). taken_messages n l.looper.held.poster.view.seen) is.sender
    ∙ ap (λ (p : Sender). taken_messages (s.threads + l.number) p.view.seen) (sym (own_again s hall l parts posters is_hall is e back d))))
