-- What contracts see of a turn.
use Rattle.std.proofs.Common.{◌≡◌, ℕ, ◌+◌, ◌-◌, List, [], ◌∷◌, ◌++◌, length, take, drop, refl, sym, ap, ◌∙◌, subst, ⊎_elim, inl, inr, arith, append_assoc, append-nil, Option, Some}
use Rattle.std.specs.Option.{option_map}
use mathlib.Core.List.{IsPrefix}
use Rattle.loop_model.specs.declared.entry.Entry.{Entry}
use Rattle.loop_model.specs.declared.base.Base.{Base}
use Rattle.loop_model.specs.declared.segment.Segment.{Segment}
use Rattle.loop_model.specs.Base.{empty_base}
use Rattle.loop_model.specs.Answers.{Setting}
use Rattle.loop_model.specs.Chain.{after}
use Rattle.queue_state.specs.Queue.{Queue, part_of, sealed}
use Rattle.shared_queue.specs.declared.view.View.{View}
use Rattle.shared_queue.specs.declared.desk.Desk.{Desk}
use Rattle.shared_queue.specs.Constants.{Constants, made_in, IsStateOf, IsFor}
use Rattle.shared_queue.specs.Whole.{Leave, whole_queue}
use Rattle.shared_queue.specs.Turn.{taking, giving, handing, seen_with}
use Rattle.shared_queue.specs.Plays.{Sat}
use Rattle.shared_queue.specs.Known.{Known, IsTurn, IsTurnWith, StepsBy, own_count}
use Rattle.shared_queue.specs.Calls.{IsPart}
use Rattle.shared_queue.specs.Desk.{IsIdle, Began, Ended, HandedOver}
use Rattle.loop_model.proofs.Prefixes.{prefix_front, prefix_trans}
use Rattle.shared_queue.proofs.Courses.{empty_length, take_front, drop_front}
use Rattle.shared_queue.proofs.Whole.{rest, whole_sound}
use Rattle.shared_queue.specs.Claims.{claims_at, claims_with, AreClaims, ClaimsGoOn}
use Rattle.shared_queue.proofs.Claims.{KeepsClaims, keeps_sealed, claims_whole}
use Rattle.shared_queue.proofs.Desks.{now_is}

-- what a clause sees of the desk
abbrev pub known : {H K : Type 0} → Desk (Queue H K) H K → Known H K
known d = record { table = d.seat.table_id; sender = d.sender; view = d.seat.me.0 }

-- one entry more of either
pub whole_steps : {H K : Type 0} (before : List Entry) (s : ℕ) (x y : Queue H K) → StepsBy s x y → StepsBy s (whole_queue before x) (whole_queue before y)
whole_steps {H} {K} before s x y step = (
  step.0,
  step.1,
  ap (λ (z : Setting). empty_base z.senders) step.1,
  ⊎_elim
      (λ (same : y.entries ≡ x.entries). inl (ap (λ l. before ++ l) same))
      (λ (t : (e : Entry) × (y.entries ≡ x.entries ++ e ∷ []) × (e.sender ≡ s)). inr (t.0, ap (λ l. before ++ l) t.1 ∙ sym (append_assoc before x.entries (t.0 ∷ [])), t.2))
      step.3,
)

module _ {H K : Type 0} (key : Constants H) (d e : Desk (Queue H K) H K) (x : Queue H K) (idle : IsIdle d) (b : Began key d e x) where
  -- what came before the base of the state found has left it
  pub leave_found : Leave x.setting b.spans.0 x.start
  leave_found = subst (λ (s : Setting). Leave s b.spans.0 x.start) (sym b.own.setting) b.spans.2

  abbrev pub whole_found : Queue H K
  whole_found = whole_queue b.spans.0 x

  own_whole : (c : Constants H) (z : Queue H K) → d.seat.me.0.constants ≡ Some c → IsFor key z → (before : List Entry) → IsStateOf c (whole_queue before z)
  own_whole c z is own before =
      let same : key ≡ c = let both : Some key ≡ Some c = sym b.live ∙ is in cc (both) in
      subst (λ (k : Constants H). IsStateOf k (whole_queue before z)) same (record { home = own.home; setting = own.setting; start = ap (λ (s : Setting). empty_base s.senders) own.setting })

  begins_whole : IsPrefix d.seat.me.0.seen (b.spans.0 ++ x.entries)
  begins_whole = subst (IsPrefix d.seat.me.0.seen) b.spans.1 b.begins

  -- what was seen of the claims goes on, where y keeps its messages theirs
  claims_go_on : (v : View (Queue H K) H K) (whole_y : Queue H K) (y : Queue H K) → v.claims ≡ claims_with b.claims y.messages → KeepsClaims x y → (AreClaims (claims_with b.claims y.messages) y → AreClaims (claims_with b.claims y.messages) whole_y)
      → whole_y.messages ≡ y.messages → ClaimsGoOn d.seat.me.0.claims v.claims whole_found whole_y
  claims_go_on v whole_y y is keeps lift same =
      let next : v.claims ≡ claims_with b.claims whole_y.messages = is ∙ ap (claims_with b.claims) (sym same) in
      record {
        grows = subst (IsPrefix d.seat.me.0.claims) (sym is) (prefix_trans d.seat.me.0.claims b.claims (claims_with b.claims y.messages) b.knows.0 (prefix_front b.claims (claims_at (length b.claims) y.messages)));
        found = b.claims;
        begins = b.knows.0;
        of_found = claims_whole b.spans.0 x b.claims leave_found b.knows.1;
        next = next;
        of_left = subst (λ (l : List (Option K)). AreClaims l whole_y) (sym is) (lift (keeps b.claims b.knows.1));
      }

  module _ (n : Desk (Queue H K) H K) (y : Queue H K) (step : StepsBy d.sender x y) (keeps : KeepsClaims x y) (f : Ended e n y) where
    after_ : n.seat.me.0 ≡ giving (taking d.seat.me.0 b.whole b.claims x) y
    after_ = ap (λ (z : Sat H K). z.0) f.me ∙ ap (λ (z : Sat H K). giving z.0 y) b.me

    now : seen_with (taking d.seat.me.0 b.whole b.claims x) y ≡ b.spans.0 ++ y.entries
    now = ap (λ (z : Sat H K). seen_with z.0 y) (sym b.me) ∙ now_is key d e x y b step.2

    pub found_is : n.seat.me.0.found ≡ Some x
    found_is = ap (λ (v : View (Queue H K) H K). v.found) after_

    made : own_count (known n) ≡ own_count (known d) + (length (b.spans.0 ++ y.entries) - length (b.spans.0 ++ x.entries))
    made =
        let is_now : own_count (known n) ≡ n.made = f.idle.2.made in
        let was : own_count (known d) ≡ d.made = idle.2.made in
        let found : length (b.spans.0 ++ x.entries) ≡ e.seen = ap length (sym b.spans.1) ∙ (ap (λ (z : Sat H K). length z.0.seen) (sym b.me) ∙ b.counted.seen) in
        let left : length (seen_with e.seat.me.0 y) ≡ length (b.spans.0 ++ y.entries) = ap length (now_is key d e x y b step.2) in
        is_now ∙ (f.made ∙ (λ i. (b.made ∙ sym was) i + (left i - sym found i)))

    leave_left : Leave y.setting b.spans.0 y.start
    leave_left = subst (λ (z : Setting × Base). Leave z.0 b.spans.0 z.1) (λ i. (sym step.1 i, sym step.2 i)) leave_found

    pub is_turn : IsTurn (known d) (known n) whole_found (whole_queue b.spans.0 y)
    is_turn = record {
      table = f.same.0 ∙ b.same.0;
      sender = f.same.1 ∙ b.same.1;
      constants = ap (λ (v : View (Queue H K) H K). v.constants) after_;
      turns = ap (λ (v : View (Queue H K) H K). v.turns) after_;
      found = (x, b.spans.0, ap (λ (v : View (Queue H K) H K). v.found) after_, leave_found, refl);
      left = (y, b.spans.0, ap (λ (v : View (Queue H K) H K). v.left) after_, leave_left, refl);
      start = (λ i. option_map (λ (z : Queue H K). z.start) (after_ i).left) ∙ (ap (λ (z : Base). Some z) step.2 ∙ (λ i. option_map (λ (z : Queue H K). z.start) (sym after_ i).found));
      sealed = ap (λ (v : View (Queue H K) H K). v.sealed) after_;
      own = λ c is. (own_whole c x is b.own b.spans.0, own_whole c y is (record { home = step.0 ∙ b.own.home; setting = step.1 ∙ b.own.setting }) b.spans.0);
      sound = (whole_sound b.spans.0 x leave_found b.sound, whole_sound b.spans.0 y leave_left f.sound);
      begins = begins_whole;
      found_made = ap (made_in d.sender) (sym b.spans.1) ∙ (b.found_made ∙ sym idle.2.made);
      step = whole_steps b.spans.0 d.sender x y step;
      seen = ap (λ (v : View (Queue H K) H K). v.seen) after_ ∙ now;
      made = made;
      claims = claims_go_on n.seat.me.0 (whole_queue b.spans.0 y) y (ap (λ (v : View (Queue H K) H K). v.claims) after_) keeps (claims_whole b.spans.0 y (claims_with b.claims y.messages) leave_left) refl;
      rung = ap (λ (v : View (Queue H K) H K). v.rung) after_;
      heard = ap (λ (v : View (Queue H K) H K). v.heard) after_;
      listens = ap (λ (v : View (Queue H K) H K). v.listens) after_;
    }

  -- a turn that hands out what it found
  module _ (n : Desk (Queue H K) H K) (y : Queue H K) (p : Segment) (is : y ≡ sealed x) (part : p ≡ part_of x) (same : seen_with e.seat.me.0 y ≡ e.seat.me.0.seen) (f : HandedOver e n y) where
    handed_ : n.seat.me.0 ≡ handing (taking d.seat.me.0 b.whole b.claims x) y
    handed_ = ap (λ (z : Sat H K). z.0) f.me ∙ ap (λ (z : Sat H K). handing z.0 y) b.me

    seen_now : n.seat.me.0.seen ≡ b.spans.0 ++ x.entries
    seen_now = ap (λ (z : Sat H K). z.0.seen) f.me ∙ (same ∙ (ap (λ (z : Sat H K). z.0.seen) b.me ∙ b.spans.1))

    leave_sealed : Leave y.setting (b.spans.0 ++ x.entries) y.start
    leave_sealed =
        let whole = whole_sound b.spans.0 x leave_found b.sound in
        subst (λ (z : Queue H K). Leave z.setting (b.spans.0 ++ x.entries) z.start) (sym is) (record { legal = whole.legal; numbered = whole.numbered; left = sym (rest b.spans.0 x leave_found) })

    same_whole : whole_found ≡ whole_queue (b.spans.0 ++ x.entries) y
    same_whole = ap (λ (l : List Entry). record x { start = empty_base x.setting.senders; entries = l }) (sym (append-nil (b.spans.0 ++ x.entries))) ∙ ap (whole_queue (b.spans.0 ++ x.entries)) (sym is)

    pub is_sealing : IsTurnWith (p ∷ []) (known d) (known n) whole_found whole_found
    is_sealing = record {
      table = f.same.0 ∙ b.same.0;
      sender = f.same.1 ∙ b.same.1;
      constants = ap (λ (v : View (Queue H K) H K). v.constants) handed_;
      turns = ap (λ (v : View (Queue H K) H K). v.turns) handed_;
      found = (x, b.spans.0, ap (λ (v : View (Queue H K) H K). v.found) handed_, leave_found, refl);
      left = (y, b.spans.0 ++ x.entries, ap (λ (v : View (Queue H K) H K). v.left) handed_, leave_sealed, same_whole);
      start = (λ i. option_map (λ (z : Queue H K). z.start) (handed_ i).left) ∙ (ap (λ (z : Queue H K). Some z.start) is ∙ ap (λ (q : Segment). Some (after q.base q.entries)) (sym part));
      sealed = ap (λ (v : View (Queue H K) H K). v.sealed) handed_ ∙ ap (λ (q : Segment). d.seat.me.0.sealed ++ q ∷ []) (sym part);
      own = λ c is_c. (own_whole c x is_c b.own b.spans.0, own_whole c x is_c b.own b.spans.0);
      sound = (whole_sound b.spans.0 x leave_found b.sound, whole_sound b.spans.0 x leave_found b.sound);
      begins = begins_whole;
      found_made = ap (made_in d.sender) (sym b.spans.1) ∙ (b.found_made ∙ sym idle.2.made);
      step = (refl, refl, refl, inl refl);
      seen = seen_now;
      made = let now : own_count (known n) ≡ n.made = f.idle.2.made in let was : own_count (known d) ≡ d.made = idle.2.made in omega (arith, now, was, f.made, b.made);
      claims = claims_go_on n.seat.me.0 whole_found y (ap (λ (v : View (Queue H K) H K). v.claims) handed_) (keeps_sealed x y is)
          (λ a. subst (AreClaims (claims_with b.claims y.messages)) (sym same_whole) (claims_whole (b.spans.0 ++ x.entries) y (claims_with b.claims y.messages) leave_sealed a)) (sym (ap (λ (z : Queue H K). z.messages) is));
      rung = ap (λ (v : View (Queue H K) H K). v.rung) handed_;
      heard = ap (λ (v : View (Queue H K) H K). v.heard) handed_;
      listens = ap (λ (v : View (Queue H K) H K). v.listens) handed_;
    }

    pub is_part : IsPart (known n) whole_found p
    is_part =
        let long : x.start.length ≡ length b.spans.0 = ap (λ (z : Base). z.length) b.spans.2.left ∙ empty_length key.setting.senders b.spans.0 in
        record {
          state = x;
          found = ap (λ (v : View (Queue H K) H K). v.found) handed_;
          left = ap (λ (v : View (Queue H K) H K). v.left) handed_ ∙ ap (λ (z : Queue H K). Some z) is;
          is = part;
          entries = ap (λ (q : Segment). q.entries) part ∙ sym ((λ i. drop (ap (λ (q : Segment). q.base.length) part i) (seen_now i)) ∙ ((λ i. drop (long i) (b.spans.0 ++ x.entries)) ∙ drop_front b.spans.0 x.entries));
          base = ap (λ (q : Segment). q.base) part ∙ (leave_found.left ∙ ap (after (empty_base x.setting.senders)) (sym ((λ i. take (ap (λ (q : Segment). q.base.length) part i) (seen_now i)) ∙ ((λ i. take (long i) (b.spans.0 ++ x.entries)) ∙ take_front b.spans.0 x.entries))));
        }
