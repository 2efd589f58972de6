-- The two ends of a turn, at a desk.
use Rattle.std.proofs.Common.{◌≡◌, ℕ, ◌+◌, ◌-◌, ◌<◌, ◌≤◌, ⊎_elim, inl, inr, cond, eqb, List, [], ◌∷◌, ◌++◌, ◌≢◌, length, sym, ap, ◌∙◌, subst, arith, Option, Some, length-append, append_assoc, eq-eqb, ne_eqb}
use Rattle.std.specs.Prelude.{All}
use mathlib.Core.Logic.{dite}
use native.Mathlib.Decide.{ℕ_discrete}
use Rattle.loop_model.specs.declared.entry.Entry.{Entry}
use Rattle.loop_model.specs.declared.base.Base.{Base}
use Rattle.queue_state.specs.Queue.{Queue, IsSound, sealed}
use Rattle.shared_queue.specs.declared.desk.Desk.{Desk}
use Rattle.loop_model.specs.Lists.{total}
use Rattle.shared_queue.specs.Constants.{Constants, last_of, made_in}
use Rattle.shared_queue.specs.Turn.{holds, counted, seen_with, giving, handing}
use Rattle.shared_queue.specs.Plays.{Sat, IsCountedSender}
use Rattle.shared_queue.specs.Known.{StepsBy}
use Rattle.shared_queue.specs.Seats.{HasTakenTurn}
use Rattle.shared_queue.specs.Desk.{Counted, IsIdle, IsSameDesk, Began, MayEnd, Ended, MayHandOver, HandedOver}
use Rattle.shared_queue.specs.Claims.{AreClaims, claims_with}
use Rattle.shared_queue.proofs.Claims.{KeepsClaims}
use Rattle.shared_queue.proofs.Courses.{empty_length, seen_is, sealed_seen, sealed_length}
use Rattle.shared_queue.proofs.Prefixes.{made_in_push, one_of-yes}

-- what holds of the only sender
pub only_sender : (P : ℕ × ℕ → Type 0) (senders : List (ℕ × ℕ)) (p : ℕ × ℕ) → senders ≡ p ∷ [] → All P senders → P p
only_sender P senders p is all = let all' : All P (p ∷ []) = subst (All P) is all in all' 0 p (omega arith)

-- the only sender is the one that is held
same_sender : (n : ℕ) (p : ℕ × ℕ) (senders : List (ℕ × ℕ)) → senders ≡ p ∷ [] → 0 < total (λ (q : ℕ × ℕ). cond (eqb q.0 n) 1 0) senders → n ≡ p.0
same_sender n p senders is here = dite (ℕ_discrete p.0 n)
    (λ e. sym e)
    (λ apart.
    let none : cond {A = ℕ} (eqb p.0 n) 1 0 ≡ 0 = ap (λ b. cond {A = ℕ} b 1 0) (ne_eqb p.0 n apart) in
    let all : total (λ (q : ℕ × ℕ). cond (eqb q.0 n) 1 0) senders ≡ total (λ (q : ℕ × ℕ). cond (eqb q.0 n) 1 0) (p ∷ []) = ap (total (λ (q : ℕ × ℕ). cond (eqb q.0 n) 1 0)) is in
    absurd (omega arith))

-- a desk that keeps its constants and what it handed out, and is not the last sender's, has handed out nothing
pub still_unsealed : {H K : Type 0} (d e : Desk (Queue H K) H K) → Counted d → e.sender ≡ d.sender → e.seat.me.0.constants ≡ d.seat.me.0.constants → e.seat.me.0.sealed ≡ d.seat.me.0.sealed
    → (c : Constants H) → e.seat.me.0.constants ≡ Some c → e.sender + 1 ≢ c.setting.senders → e.seat.me.0.sealed ≡ []
still_unsealed d e counts sender constants sealed_same c is apart = sealed_same ∙ counts.unsealed c (sym constants ∙ is) (λ last. apart (ap (λ n. n + 1) sender ∙ last))

module _ {H K : Type 0} (key : Constants H) (d e : Desk (Queue H K) H K) where
  pub begins : (x : Queue H K) → d.seat.me.0.constants ≡ Some key → IsIdle d → IsSameDesk d e → HasTakenTurn key d.seat.me e.seat.me x → IsSound x → e.made ≡ d.made → e.seen ≡ x.start.length + length x.entries → e.heard ≡ d.heard → Began key d e x
  begins x live idle same t sound made seen heard =
      let mine : IsCountedSender x.setting.senders t.whole (d.sender, d.made) = only_sender (IsCountedSender x.setting.senders t.whole) d.seat.me.0.senders (d.sender, d.made) idle.2.senders t.extends.1 in
      let before : List Entry = t.spans.0 in
      let start : x.start.length ≡ length before = ap (λ (b : Base). b.length) t.spans.2.left ∙ empty_length key.setting.senders before in
      let long : length t.whole ≡ x.start.length + length x.entries = omega (arith, ap length t.spans.1, length-append before x.entries, start) in
      record {
        whole = t.whole;
        claims = t.claims;
        same = same;
        me = t.me;
        live = live;
        own = t.own;
        spans = t.spans;
        sound = sound;
        begins = t.extends.0;
        knows = t.knows;
        below = mine.0;
        found_made = mine.1;
        counted = record {
          senders = ap (λ (z : Sat H K). z.0.senders) t.me ∙ (idle.2.senders ∙ (λ i. (sym same.1 i, sym made i) ∷ []));
          made = (λ i. made_in (same.1 i) (t.me i).0.seen) ∙ (mine.1 ∙ sym made);
          seen = ap (λ (z : Sat H K). length z.0.seen) t.me ∙ (long ∙ sym seen);
          heard = ap (λ (z : Sat H K). z.0.heard) t.me ∙ (idle.2.heard ∙ sym heard);
          unsealed = still_unsealed d e idle.2 same.1 (ap (λ (z : Sat H K). z.0.constants) t.me) (ap (λ (z : Sat H K). z.0.sealed) t.me);
        };
        made = made;
      }

  -- the whole history once y is left, which starts where x does
  pub now_is : (x y : Queue H K) (b : Began key d e x) → y.start ≡ x.start → seen_with e.seat.me.0 y ≡ b.spans.0 ++ y.entries
  now_is x y b start =
      let seen : e.seat.me.0.seen ≡ b.whole = ap (λ (z : Sat H K). z.0.seen) b.me in
      let long : y.start.length ≡ length b.spans.0 = ap (λ (z : Base). z.length) (start ∙ b.spans.2.left) ∙ empty_length key.setting.senders b.spans.0 in
      seen_is y.start.length b.spans.0 x.entries e.seat.me.0.seen y.entries long (seen ∙ b.spans.1)

  -- a state that has at most one entry more, of the desk's sender, may be given back
  pub may_end : (x y : Queue H K) → Began key d e x → StepsBy d.sender x y → KeepsClaims x y → MayEnd key e y
  may_end x y b step keeps =
      let seen : e.seat.me.0.seen ≡ b.whole = ap (λ (z : Sat H K). z.0.seen) b.me in
      let before : List Entry = b.spans.0 in
      let now = now_is x y b step.2 in
      let start : y.start.length ≡ length before = ap (λ (z : Base). z.length) (step.2 ∙ b.spans.2.left) ∙ empty_length key.setting.senders before in
      let holder : (en : Entry) → en.sender ≡ d.sender → 0 < holds en.sender e.seat.me.0 = λ en is.
      let one : cond {A = ℕ} (eqb e.sender en.sender) 1 0 ≡ 1 = ap (λ b. cond {A = ℕ} b 1 0) (eq-eqb e.sender en.sender (b.same.1 ∙ sym is)) in
      subst (λ (l : List (ℕ × ℕ)). 0 < total (λ (q : ℕ × ℕ). cond (eqb q.0 en.sender) 1 0) l) (sym b.counted.senders) (omega arith) in
      record {
        live = ap (λ (z : Sat H K). z.0.constants) b.me ∙ b.live;
        turn = ap (λ (z : Sat H K). z.0.has_turn) b.me;
        slot = ap (λ (z : Sat H K). z.1) b.me;
        counted = b.counted;
        own = record { home = step.0 ∙ b.own.home; setting = step.1 ∙ b.own.setting };
        may = (
          x,
          ap (λ (z : Sat H K). z.0.found) b.me,
          (
            step.2,
            ⊎_elim
                (λ (same : y.entries ≡ x.entries). inl same)
                (λ (t : (en : Entry) × (y.entries ≡ x.entries ++ en ∷ []) × (en.sender ≡ d.sender)). inr (t.0, t.1, holder t.0 t.2))
                step.3,
          ),
          subst (λ (l : List (Option K)). AreClaims (claims_with l y.messages) y) (sym (ap (λ (z : Sat H K). z.0.claims) b.me)) (keeps b.claims b.knows.1),
        );
        long = omega (arith, ap length now, length-append before y.entries, start);
        more = ⊎_elim
            (λ (same : y.entries ≡ x.entries). inl (now ∙ (ap (λ l. before ++ l) same ∙ (sym b.spans.1 ∙ sym seen))))
            (λ (t : (en : Entry) × (y.entries ≡ x.entries ++ en ∷ []) × (en.sender ≡ d.sender)).
            let joined : before ++ y.entries ≡ b.whole ++ t.0 ∷ [] = ap (λ l. before ++ l) t.1 ∙ (sym (append_assoc before x.entries (t.0 ∷ [])) ∙ ap (λ l. l ++ t.0 ∷ []) (sym b.spans.1)) in
            inr (t.0, now ∙ (joined ∙ ap (λ (l : List Entry). l ++ t.0 ∷ []) (sym seen)), holder t.0 t.2))
            step.3;
      }

  -- the state that was found may be given back sealed, by the last sender
  pub may_hand_over : (x y : Queue H K) → Began key d e x → d.sender + 1 ≡ key.setting.senders → y ≡ sealed x → MayHandOver key e y
  may_hand_over x y b last is =
      let seen : e.seat.me.0.seen ≡ b.whole = ap (λ (z : Sat H K). z.0.seen) b.me in
      let same : seen_with e.seat.me.0 y ≡ e.seat.me.0.seen = sealed_seen key.setting.senders b.spans.0 x.entries e.seat.me.0.seen x y is b.spans.2.left (λ i. x.entries) (seen ∙ b.spans.1) in
      let long : y.start.length ≡ length e.seat.me.0.seen = sealed_length key.setting.senders b.spans.0 x.entries e.seat.me.0.seen x y is b.spans.2.left (λ i. x.entries) (seen ∙ b.spans.1) in
      let none : length y.entries ≡ 0 = ap (λ (z : Queue H K). length z.entries) is in
      record {
        live = ap (λ (z : Sat H K). z.0.constants) b.me ∙ b.live;
        turn = ap (λ (z : Sat H K). z.0.has_turn) b.me;
        slot = ap (λ (z : Sat H K). z.1) b.me;
        counted = b.counted;
        last = ap (λ n. n + 1) b.same.1 ∙ last;
        own = record { home = ap (λ (z : Queue H K). z.home) is ∙ b.own.home; setting = ap (λ (z : Queue H K). z.setting) is ∙ b.own.setting };
        may = (x, ap (λ (z : Sat H K). z.0.found) b.me, is, b.sound.legal, b.sound.numbered);
        long = omega (arith, ap length same, long, none);
        same = same;
      }

module _ {H K : Type 0} (key : Constants H) (d e : Desk (Queue H K) H K) (y : Queue H K) (may : MayEnd key d y) where
  abbrev now : List Entry
  now = seen_with d.seat.me.0 y

  -- one entry more of the sender where the history grew
  left_made : made_in d.sender now ≡ d.made + (length now - d.seen)
  left_made =
      let counts = may.counted in
      let seen : length d.seat.me.0.seen ≡ d.seen = counts.seen in
      let old : made_in d.sender d.seat.me.0.seen ≡ d.made = counts.made in
      ⊎_elim
      (λ (is : now ≡ d.seat.me.0.seen). ap (made_in d.sender) is ∙ omega (arith, ap length is))
      (λ (t : (en : Entry) × (now ≡ d.seat.me.0.seen ++ en ∷ []) × (0 < holds en.sender d.seat.me.0)).
      let mine : t.0.sender ≡ d.sender = same_sender t.0.sender (d.sender, d.made) d.seat.me.0.senders counts.senders t.2 in
      let more : length now ≡ length d.seat.me.0.seen + 1 = ap length t.1 ∙ omega (arith, length-append d.seat.me.0.seen (t.0 ∷ [])) in
      ap (made_in d.sender) t.1 ∙ omega (arith, made_in_push d.sender d.seat.me.0.seen t.0, one_of-yes d.sender t.0 mine))
      may.more

  pub ends : IsSound y → IsSameDesk d e → e.seat.me ≡ (giving d.seat.me.0 y, []) → e.seen ≡ length now → e.made ≡ d.made + (length now - d.seen) → e.heard ≡ d.heard → Ended d e y
  ends sound same me seen more heard =
      let made : made_in d.sender now ≡ e.made = left_made ∙ sym more in
      record {
        same = same;
        me = me;
        sound = sound;
        idle = (
          ap (λ (z : Sat H K). z.0.has_turn) me,
          ap (λ (z : Sat H K). z.1) me,
          record {
            senders = ap (λ (z : Sat H K). z.0.senders) me ∙ (ap (counted now) may.counted.senders ∙ (λ i. (sym same.1 i, made i) ∷ []));
            made = (λ i. made_in (same.1 i) (me i).0.seen) ∙ made;
            seen = ap (λ (z : Sat H K). length z.0.seen) me ∙ sym seen;
            heard = ap (λ (z : Sat H K). z.0.heard) me ∙ (may.counted.heard ∙ sym heard);
            unsealed = still_unsealed d e may.counted same.1 (ap (λ (z : Sat H K). z.0.constants) me) (ap (λ (z : Sat H K). z.0.sealed) me);
          },
        );
        made = more;
      }

-- a desk of the last sender ends its turn with the state sealed
pub hands_over_ends : {H K : Type 0} (key : Constants H) (d e : Desk (Queue H K) H K) (y : Queue H K) → MayHandOver key d y → IsSound y → IsSameDesk d e → e.seat.me ≡ (handing d.seat.me.0 y, []) → e.seen ≡ y.start.length + length y.entries → e.made ≡ d.made → e.heard ≡ d.heard → HandedOver d e y
hands_over_ends {H} {K} key d e y may sound same me seen made heard =
    let old : made_in d.sender (seen_with d.seat.me.0 y) ≡ d.made = ap (made_in d.sender) may.same ∙ may.counted.made in
    record {
      same = same;
      me = me;
      sound = sound;
      idle = (
        ap (λ (z : Sat H K). z.0.has_turn) me,
        ap (λ (z : Sat H K). z.1) me,
        record {
          senders = ap (λ (z : Sat H K). z.0.senders) me ∙ (ap (counted (seen_with d.seat.me.0 y)) may.counted.senders ∙ (λ i. (sym same.1 i, (old ∙ sym made) i) ∷ []));
          made = (λ i. made_in (same.1 i) (me i).0.seen) ∙ (old ∙ sym made);
          seen = ap (λ (z : Sat H K). length z.0.seen) me ∙ (may.long ∙ sym seen);
          heard = ap (λ (z : Sat H K). z.0.heard) me ∙ (may.counted.heard ∙ sym heard);
          unsealed = λ c is apart.
              let both : Some key ≡ Some c = sym may.live ∙ (sym (ap (λ (z : Sat H K). z.0.constants) me) ∙ is) in
              let key_is : key ≡ c = cc (both) in
              absurd (apart (ap (λ n. n + 1) same.1 ∙ (may.last ∙ ap (λ (k : Constants H). k.setting.senders) key_is)));
        },
      );
      made = made;
    }

-- such a desk's seat holds the last sender
pub holds_last : {H K : Type 0} (key : Constants H) (d : Desk (Queue H K) H K) (y : Queue H K) → MayHandOver key d y → 0 < holds (last_of key) d.seat.me.0
holds_last key d y may =
    let last : d.sender ≡ last_of key = let l = may.last in omega arith in
    let one : cond {A = ℕ} (eqb d.sender (last_of key)) 1 0 ≡ 1 = ap (λ b. cond {A = ℕ} b 1 0) (eq-eqb d.sender (last_of key) last) in
    subst (λ (l : List (ℕ × ℕ)). 0 < total (λ (q : ℕ × ℕ). cond (eqb q.0 (last_of key)) 1 0) l) (sym may.counted.senders) (omega arith)

-- the history does not get shorter
pub no_shorter : {H K : Type 0} (key : Constants H) (d : Desk (Queue H K) H K) (y : Queue H K) → MayEnd key d y → d.seen ≤ y.start.length + length y.entries
no_shorter key d y may =
    let seen : length d.seat.me.0.seen ≡ d.seen = may.counted.seen in
    let long = may.long in
    ⊎_elim
    (λ (is : seen_with d.seat.me.0 y ≡ d.seat.me.0.seen). omega (arith, ap length is))
    (λ (t : (en : Entry) × (seen_with d.seat.me.0 y ≡ d.seat.me.0.seen ++ en ∷ []) × (0 < holds en.sender d.seat.me.0)). omega (arith, ap length t.1, length-append d.seat.me.0.seen (t.0 ∷ [])))
    may.more

-- the state under the turn, where it is lent
pub lent : {H K : Type 0} (key : Constants H) (d e : Desk (Queue H K) H K) (x z : Queue H K) → z ≡ x → Began key d e x → Began key d e z
lent key d e x z same began = subst (Began key d e) (sym same) began
