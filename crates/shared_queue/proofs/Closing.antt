-- A queue whose posters all came back.
use Rattle.std.proofs.Common.{◌≡◌, ℕ, suc, ◌+◌, ◌<◌, List, [], ◌∷◌, ◌++◌, length, get_or, refl, sym, ap, ◌∙◌, subst, arith, append-nil, Option, Some, All}
use Rattle.std.proofs.lemmas.List.{get_or-map, length-map}
use mathlib.Core.Option.{some}
use mathlib.Core.List.{IsPrefix}
use lib.ListN.{get_elem?}
use Rattle.atomic_table.specs.Table.{Final, Seen}
use Rattle.loop_model.specs.declared.entry.Entry.{Entry}
use Rattle.loop_model.specs.Answers.{Setting}
use Rattle.loop_model.specs.Base.{empty_base}
use Rattle.loop_model.specs.Legal.{IsLegal, AreNumbered}
use Rattle.loop_model.specs.Live.{live_in_order}
use Rattle.loop_model.specs.declared.segment.Segment.{Segment}
use Rattle.loop_model.specs.Chain.{after, IsChainFrom, entries_of}
use Rattle.when_queue.specs.Queue.{items_of}
use Rattle.message_slot.specs.Letter.{Letter, IsAtHome}
use Rattle.shared_queue.specs.Constants.{Constants, last_of, made_in, IsFor}
use Rattle.shared_queue.specs.Whole.{whole_of, Leave}
use Rattle.queue_state.specs.Queue.{Queue, IsSound, part_of}
use Rattle.shared_queue.specs.Claims.{IsAsAccepted, AreClaims}
use Rattle.shared_queue.specs.Turn.{ArePast, Counts, holds, Fits, AtHome, QueueTurn}
use Rattle.shared_queue.specs.Plays.{Sat}
use Rattle.shared_queue.specs.Known.{Shared, Known, KeepsNone, IsOf}
use Rattle.shared_queue.specs.Ends.{AreInOrder, HasCalls, BeginClaims, AreLeftAsAccepted, as_counted, HaveSealed, sealed_by, Gathered, IsSoundEnd, IsLeftBy, IsLast, IsWholeEnd}
use Rattle.loop_model.proofs.Prefixes.{prefix_trans}
use Rattle.shared_queue.proofs.Courses.{entries_more, chain_more}
use Rattle.shared_queue.proofs.Whole.{whole_sound}
use Rattle.shared_queue.proofs.Turns.{holds_at, all_rest}

-- of posters in order, from this number on, the last alone handed anything out
sealed_from : {H K : Type 0} (q : Shared H) (from : ℕ) (posters : List (Known H K)) (parts : List Segment)
    → ((k : ℕ) (d : Known H K) → k < length posters → IsOf (get_or posters k d) q × ((get_or posters k d).sender ≡ from + k)) → ((k : ℕ) (d : Known H K) → k < length posters → KeepsNone (get_or posters k d))
    → from + length posters ≡ q.constants.setting.senders → 0 < length posters → HaveSealed posters parts → sealed_by posters ≡ parts
sealed_from q from [] parts order keeps all some_poster sealed = absurd (omega arith)
sealed_from q from (p ∷ []) parts order keeps all some_poster sealed = append-nil p.view.sealed ∙ sealed 0 p refl
sealed_from {H} {K} q from (p ∷ p' ∷ posters) parts order keeps all some_poster sealed =
    let here = order 0 p (omega arith) in
    let nothing : p.view.sealed ≡ [] = keeps 0 p (omega arith) q.constants here.0.1 (λ last. let number = here.1 in omega arith) in
    let more = sealed_from q (from + 1) (p' ∷ posters) parts
    (λ k d l. let next = order (suc k) d (omega arith) in (next.0, next.1 ∙ omega arith))
    (λ k d l. keeps (suc k) d (omega arith)) (omega arith) (omega arith) (λ k d last. sealed (suc k) d (omega arith)) in
    ap (λ l. l ++ sealed_by (p' ∷ posters)) nothing ∙ more

-- a state whose base these parts have left, and whose whole history has these posters' calls
pub record Closes {H K : Type 0} (key : Constants H) (posters : List (Known H K)) (parts : List Segment) (x : Queue H K) : Type 0 where
  pub own : IsFor key x
  pub start : x.start ≡ after (empty_base key.setting.senders) (entries_of parts)
  pub past : ArePast key.setting parts
  pub calls : HasCalls (entries_of parts ++ x.entries) posters
  pub claims : (claims : List (Option K)) × BeginClaims claims posters × AreClaims claims x

module _ {H K : Type 0} (key : Constants H) (q : Shared H) (posters : List (Known H K)) (m : Sat H K) (is_key : q.constants ≡ key) (some_sender : 0 < key.setting.senders) (all : length posters ≡ key.setting.senders) (order : AreInOrder q posters) (g : Gathered q posters m) where
  numbers : (k : ℕ) (d : Known H K) → k < length posters → get_or m.0.senders k (as_counted d) ≡ as_counted (get_or posters k d)
  numbers k d l = ap (λ (ps : List (ℕ × ℕ)). get_or ps k (as_counted d)) g.1 ∙ get_or-map as_counted posters k d (as_counted d) l

  as_many : length m.0.senders ≡ length posters
  as_many = ap length g.1 ∙ length-map posters as_counted

  has_all : (n : ℕ) (d : Known H K) → n < key.setting.senders → 0 < holds n m.0
  has_all n d below = holds_at n m.0.senders n (as_counted d) (omega (arith, as_many)) (ap (λ (p : ℕ × ℕ). p.0) (numbers n d (omega arith)) ∙ (order n d (omega arith)).1)

  pub closes : (id : ℕ) (words : List ℕ) (slots : List (Option (Queue H K))) → Final (Seen (QueueTurn key) id m.0) words slots
      → (x : Queue H K) × (get_elem? slots 0 ≡ some (Some x)) × IsLast key posters x
  closes id words slots last =
      let d : Known H K = record { table = q.table; sender = 0; view = m.0 } in
      let s = last.0 in
      let r : QueueTurn key s = last.1.0 in
      let at = last.1.1 in
      let home : AtHome key r.course s = all_rest key s r id m.0 at g.0.1 (λ n below. has_all n d below) in
      let f : Fits key r.course m.0 = r.each id m.0 at in
      let x : Queue H K = home.0 in
      let long : 0 + length posters ≡ q.constants.setting.senders = omega (arith, all, ap (λ (c : Constants H). c.setting.senders) is_key) in
      let parts : List Segment = sealed_by posters in
      let these : r.course.parts ≡ parts = sym (f.sealed (has_all (last_of key) d (omega (arith, some_sender)))) ∙ g.3 in
      let whole : whole_of r.course ≡ entries_of parts ++ x.entries = (λ i. entries_of (these i) ++ sym home.3.1 i) in (
        x,
        last.4 0 (Some x) home.1,
        record {
          own = home.2;
          past = subst (ArePast key.setting) these r.past;
          start = home.3.0 ∙ ap (λ (ps : List Segment). after (empty_base key.setting.senders) (entries_of ps)) these;
          calls = λ k e l.
              let p : Known H K = get_or posters k e in
              let c : Counts (whole_of r.course) m.0.seen (as_counted p) = subst (Counts (whole_of r.course) m.0.seen) (numbers k e l) (f.mine k (as_counted e) (omega (arith, as_many))) in (
                subst (IsPrefix p.view.seen) whole (prefix_trans p.view.seen m.0.seen (whole_of r.course) (g.2 k e l) f.seen),
                ap (made_in p.sender) (sym whole) ∙ c.0,
              );
          claims = (r.course.claims, (λ k e l. prefix_trans (get_or posters k e).view.claims m.0.claims r.course.claims (g.5 k e l) f.claims), home.3.2);
          parts = λ handed sealed. sealed_from q 0 posters handed (λ k e l. let o = order k e l in (o.0, o.1 ∙ omega arith)) g.4 long (omega (arith, all, some_sender)) sealed;
        },
      )

  -- the state that is taken out of the slot is that one
  pub closes_with : (id : ℕ) (words : List ℕ) (slots : List (Option (Queue H K))) (y : Queue H K) → Final (Seen (QueueTurn key) id m.0) words slots → get_elem? slots 0 ≡ some (Some y) → IsLast key posters y
  closes_with id words slots y last here =
      let t = closes id words slots last in
      let both : some (Some t.0) ≡ some (Some y) = sym t.1 ∙ here in
      let same : t.0 ≡ y = cc (both) in
      subst (IsLast key posters) same t.2

-- so the last state stands where these parts were handed out
pub closing : {H K : Type 0} (key : Constants H) (posters : List (Known H K)) (x : Queue H K) (parts : List Segment) → IsLast key posters x → sealed_by posters ≡ parts → Closes key posters parts x
closing key posters x parts l are = record {
  own = l.own;
  start = l.start ∙ ap (λ (ps : List Segment). after (empty_base key.setting.senders) (entries_of ps)) are;
  past = subst (ArePast key.setting) are l.past;
  calls = subst (λ (ps : List Segment). HasCalls (entries_of ps ++ x.entries) posters) are l.calls;
  claims = l.claims;
}

-- a state of the queue that is sound ends soundly
module _ {H K : Type 0} (key : Constants H) (posters : List (Known H K)) (parts segments : List Segment) (x : Queue H K) (c : Closes key posters parts x) (sound : IsSound x) (are : segments ≡ parts ++ part_of x ∷ []) where
  all_entries : entries_of segments ≡ entries_of parts ++ x.entries
  all_entries = ap entries_of are ∙ entries_more parts (part_of x)

  ends_chain : IsChainFrom (empty_base key.setting.senders) segments
  ends_chain = subst (IsChainFrom (empty_base key.setting.senders)) (sym are) (chain_more (empty_base key.setting.senders) parts (part_of x) tt c.past.chain c.start)

  ends_calls : HasCalls (entries_of segments) posters
  ends_calls = subst (λ l. HasCalls l posters) (sym all_entries) c.calls

  ends_sound : (left : List (Letter K)) → left ≡ x.messages → IsSoundEnd key.setting (entries_of segments) left
  ends_sound left same =
      let before : List Entry = entries_of parts in
      let leaves : Leave x.setting before x.start = subst (λ (s : Setting). Leave s before x.start) (sym c.own.setting) (record { legal = c.past.legal; numbered = c.past.numbered; left = c.start }) in
      let whole = whole_sound before x leaves sound in
      record {
        legal = subst (IsLegal key.setting (empty_base key.setting.senders)) (sym all_entries) (subst (λ (s : Setting). IsLegal s (empty_base s.senders) (before ++ x.entries)) c.own.setting whole.legal);
        numbered = subst (AreNumbered key.setting (empty_base key.setting.senders)) (sym all_entries) (subst (λ (s : Setting). AreNumbered s (empty_base s.senders) (before ++ x.entries)) c.own.setting whole.numbered);
        live = ap items_of same ∙ (whole.live ∙ ((λ i. live_in_order (empty_base (c.own.setting i).senders) (before ++ x.entries)) ∙ ap (live_in_order (empty_base key.setting.senders)) (sym all_entries)));
      }

  pub left_claims : (left : List (Letter K)) → left ≡ x.messages → AreLeftAsAccepted posters left
  left_claims left same = (c.claims.0, c.claims.1, subst (All (IsAsAccepted c.claims.0)) (sym same) c.claims.2.each)

  pub ends : (of : K → H) (left : List (Letter K)) → left ≡ x.messages → All (IsAtHome of x.home) left → IsWholeEnd of key posters parts segments left
  ends of left same home = record {
    last = (part_of x, are);
    chain = ends_chain;
    sound = ends_sound left same;
    calls = ends_calls;
    claims = left_claims left same;
    home = subst (λ (h : H). All (IsAtHome of h) left) c.own.home home;
  }

  pub leaves : (left : List (Letter K)) → left ≡ x.messages → IsLeftBy key.setting posters left
  leaves left same = (entries_of segments, ends_sound left same, ends_calls)
