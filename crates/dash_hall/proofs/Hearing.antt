-- Posters that hear each other.
use Rattle.std.proofs.Common.{◌≡◌, ℕ, ◌+◌, ◌<◌, ◌≤◌, ◌≢◌, ◌==◌, List, [], ◌∷◌, ◌++◌, map, length, set, get_or, suc, refl, sym, ap, ap₂, ◌∙◌, subst, arith}
use Rattle.std.proofs.lemmas.List.{nil_from_length, append-nil, length-append, get_or-set_same, get_or-set_other, get_or_default, length-set, set-get_or}
use Rattle.std.proofs.lemmas.List.Elements.{filter-append}
use Rattle.std.proofs.lemmas.List.Sums.{length-filter}
use mathlib.Core.List.{IsPrefix}
use mathlib.Core.Logic.{dite}
use native.Mathlib.Decide.{ℕ_discrete, dec_lt}
use Rattle.atomic_table.specs.Seated.{TableId}
use Rattle.loop_model.specs.declared.entry.Entry.{Entry}
use Rattle.shared_queue.specs.Constants.{made_in}
use Rattle.loop_model.specs.Lists.{longer}
use Rattle.shared_queue.specs.Known.{Shared, IsOf, IsSamePoster}
use Rattle.loop_model.proofs.Prefixes.{prefix_self, prefix_trans, prefix_all, longer_first, longer_second}
use Rattle.shared_queue.proofs.Prefixes.{made_in-append}
use Rattle.run_model.specs.Planned.{entries_by}
use Rattle.looper_run.specs.Holding.{Sender}
use Rattle.dash_hall.specs.Kits.{badge_of}
use Rattle.dash_hall.specs.Hearing.{HasHeard, HaveHeard, HaveHeardAt, AreKept, AreReady, AreKnown, HaveSeenAt, HaveSeenAll, seen_by}
use Rattle.dash_hall.proofs.Sharing.{each_then, each_self}

-- where the sender has made as many entries in a history as in its beginning, it has made the same
own_goes_on : (s : ℕ) (xs ys : List Entry) → IsPrefix xs ys → made_in s ys ≡ made_in s xs → entries_by s ys ≡ entries_by s xs
own_goes_on s xs ys p same =
    let more : List Entry = p.0 in
    let whole : xs ++ more ≡ ys = p.1 in
    let sum : made_in s (xs ++ more) ≡ made_in s xs + made_in s more = made_in-append s xs more in
    let as_many : made_in s (xs ++ more) ≡ made_in s xs = ap (made_in s) whole ∙ same in
    let none : made_in s more ≡ 0 = omega (arith, sum, as_many) in
    let no_more : entries_by s more ≡ [] = nil_from_length (entries_by s more) (length-filter (λ (e : Entry). e.sender == s) more ∙ none) in
    ap (entries_by s) (sym whole) ∙ (filter-append (λ (e : Entry). e.sender == s) xs more ∙ (ap (λ (l : List Entry). entries_by s xs ++ l) no_more ∙ append-nil (entries_by s xs)))

-- a poster that is the same and has seen more has heard others
pub has_heard : (p q : Sender) → IsSamePoster p q × (q.view.rung ≡ p.view.rung) × (q.view.heard ≡ p.view.heard) → IsPrefix p.view.seen q.view.seen → HasHeard p q
has_heard p q is more = record {
  same = is.0;
  more = more;
  called = ap (λ s. entries_by s q.view.seen) is.0.sender ∙ own_goes_on p.sender p.view.seen q.view.seen more (ap (λ s. made_in s q.view.seen) (sym is.0.sender) ∙ is.0.made);
  rung = is.1;
  heard = is.2;
}

-- a poster as it is
pub heard_self : (p : Sender) → HasHeard p p
heard_self p = record {
  same = record { table = refl; sender = refl; constants = refl; turns = refl; found = refl; left = refl; sealed = refl; made = refl };
  more = prefix_self p.view.seen;
  called = refl;
  rung = refl;
  heard = refl;
}

-- one after the other
pub heard_then : (p q r : Sender) → HasHeard p q → HasHeard q r → HasHeard p r
heard_then p q r f g = record {
  same = record {
    table = g.same.table ∙ f.same.table;
    sender = g.same.sender ∙ f.same.sender;
    constants = g.same.constants ∙ f.same.constants;
    turns = g.same.turns ∙ f.same.turns;
    found = g.same.found ∙ f.same.found;
    left = g.same.left ∙ f.same.left;
    sealed = g.same.sealed ∙ f.same.sealed;
    made = g.same.made ∙ f.same.made;
  };
  more = prefix_trans p.view.seen q.view.seen r.view.seen f.more g.more;
  called = g.called ∙ f.called;
  rung = g.rung ∙ f.rung;
  heard = g.heard ∙ f.heard;
}

-- it keeps its badge
pub heard_badge : (p q : Sender) → HasHeard p q → badge_of q ≡ badge_of p
heard_badge p q h = λ i. record { table = h.same.table i; constants = h.same.constants i; sender = h.same.sender i }

-- a beginning that is as long is the whole
pub prefix_whole : (xs ys : List Entry) → IsPrefix xs ys → length ys ≤ length xs → xs ≡ ys
prefix_whole xs ys p le =
    let long = ap length p.1 in
    let none : p.0 ≡ [] = nil_from_length p.0 (omega (arith, long, length-append xs p.0, le)) in
    sym (append-nil xs) ∙ (ap (λ (l : List Entry). xs ++ l) (sym none) ∙ p.1)

-- the longer of a list and its beginning is the list
pub longer_whole : {X : Type 0} (xs ys : List X) → IsPrefix xs ys → longer xs ys ≡ ys
longer_whole xs ys p = dite (dec_lt (length xs) (length ys))
    (λ lt. longer_second xs ys lt)
    (λ not. (let le : length ys ≤ length xs = omega arith in longer_first xs ys le ∙ prefix_all xs ys p le))

-- one of the posters heard another one
pub heard_at : (ps : List Sender) (i : ℕ) (p q : Sender) (whole : List Entry) → i < length ps → p ≡ get_or ps i p → HasHeard p q → q.view.seen ≡ whole → HaveHeardAt i whole ps (set ps i q)
heard_at ps i p q whole lt is h e = record {
  long = length-set ps i q;
  here = λ d near.
      let before : p ≡ get_or ps i d = is ∙ get_or_default ps i p d near in
      let after : q ≡ get_or (set ps i q) i d = sym (get_or-set_same ps i q d near) in
      subst (λ (x : Sender). HasHeard x (get_or (set ps i q) i d) × ((get_or (set ps i q) i d).view.seen ≡ whole)) before
      (subst (λ (y : Sender). HasHeard p y × (y.view.seen ≡ whole)) after (h, e));
  elsewhere = λ k d not. get_or-set_other ps i k q d not;
}

-- a poster that is put back where it was
pub kept_at : (ps : List Sender) (i : ℕ) (p q : Sender) → p ≡ get_or ps i p → q ≡ p → AreKept ps (set ps i q)
kept_at ps i p q is same = ap (λ (x : Sender). set ps i x) (same ∙ is) ∙ set-get_or ps i p

-- what is known of the poster at a place
pub known_at : (ps : List Sender) (i : ℕ) (p : Sender) (whole : List Entry) → i < length ps → p ≡ get_or ps i p → IsPrefix p.view.seen whole → AreKnown i whole ps
known_at ps i p whole lt is k = λ d. subst (λ (x : Sender). IsPrefix x.view.seen whole) (is ∙ get_or_default ps i p d lt) k

-- more is known
pub known_more : (ps : List Sender) (i : ℕ) (xs ys : List Entry) → IsPrefix xs ys → AreKnown i xs ps → AreKnown i ys ps
known_more ps i xs ys p k = λ d. prefix_trans (get_or ps i d).view.seen xs ys (k d) p

-- a poster that was read at a place is of the queue
pub ready_is : (ps : List Sender) (i : ℕ) (p : Sender) (queue : Shared TableId) → AreReady i queue ps → p ≡ get_or ps i p → IsOf p queue
ready_is ps i p queue r is = subst (λ (x : Sender). IsOf x queue) (sym is) (r.1 p)

-- what is known of a poster that was read at a place
pub known_is : (ps : List Sender) (i : ℕ) (p : Sender) (whole : List Entry) → AreKnown i whole ps → p ≡ get_or ps i p → IsPrefix p.view.seen whole
known_is ps i p whole k is = subst (λ (x : Sender). IsPrefix x.view.seen whole) (sym is) (k p)

-- posters that are kept are ready
pub ready_kept : (place : ℕ) (queue : Shared TableId) (ps qs : List Sender) → AreKept ps qs → AreReady place queue ps → AreReady place queue qs
ready_kept place queue ps qs same r = subst (AreReady place queue) (sym same) r

-- and known, of a longer history too
pub known_kept : (place : ℕ) (xs ys : List Entry) → IsPrefix xs ys → (ps qs : List Sender) → AreKept ps qs → AreKnown place xs ps → AreKnown place ys qs
known_kept place xs ys p ps qs same k = known_more qs place xs ys p (subst (AreKnown place xs) (sym same) k)

-- one of the posters heard others, and so each of them may have
pub have_heard : (place : ℕ) (whole : List Entry) (ps qs : List Sender) → HaveHeardAt place whole ps qs → HaveHeard ps qs
have_heard place whole ps qs h = record {
  long = h.long;
  each = λ k d lt. dite (ℕ_discrete k place)
      (λ e. subst (λ (n : ℕ). HasHeard (get_or ps n d) (get_or qs n d)) (sym e) (h.here d (subst (λ (n : ℕ). n < length ps) e lt)).0)
      (λ not. subst (λ (x : Sender). HasHeard (get_or ps k d) x) (sym (h.elsewhere k d not)) (heard_self (get_or ps k d)));
}

-- one after the other, for each poster
pub have_heard_then : (ps qs rs : List Sender) → HaveHeard ps qs → HaveHeard qs rs → HaveHeard ps rs
have_heard_then ps qs rs f g = each_then HasHeard HasHeard HasHeard ps qs rs heard_then f g

-- posters as they are
pub have_heard_self : (ps : List Sender) → HaveHeard ps ps
have_heard_self ps = each_self HasHeard ps heard_self

-- lists that are mapped to the same at each place are mapped to the same
pub map_alike : {X Y : Type 0} (f : X → Y) (ps qs : List X) → length ps ≡ length qs → ((k : ℕ) (d : X) → k < length ps → f (get_or ps k d) ≡ f (get_or qs k d)) → map f ps ≡ map f qs
map_alike f [] [] long h = refl
map_alike f [] (q ∷ qs) long h = absurd (omega (arith, long))
map_alike f (p ∷ ps) [] long h = absurd (omega (arith, long))
map_alike f (p ∷ ps) (q ∷ qs) long h = ap₂ (λ x xs. x ∷ xs) (h 0 p (omega arith)) (map_alike f ps qs (omega (arith, long)) (λ k d lt. h (suc k) d (omega (arith, lt))))

-- the posters keep what they handed out
pub heard_parts : (ps qs : List Sender) → HaveHeard ps qs → map (λ (p : Sender). p.view.sealed) qs ≡ map (λ (p : Sender). p.view.sealed) ps
heard_parts ps qs h = sym (map_alike (λ (p : Sender). p.view.sealed) ps qs (sym h.long) (λ k d lt. sym (h.each k d lt).same.sealed))

-- the posters keep their badges
pub heard_badges : (ps qs : List Sender) → HaveHeard ps qs → map badge_of qs ≡ map badge_of ps
heard_badges ps qs h = sym (map_alike badge_of ps qs (sym h.long) (λ k d lt. sym (heard_badge (get_or ps k d) (get_or qs k d) (h.each k d lt))))

-- the poster at the place has seen the history
pub seen_here : (place : ℕ) (whole : List Entry) (ps qs : List Sender) → HaveHeardAt place whole ps qs → HaveSeenAt place whole qs
seen_here place whole ps qs h = λ d lt. (let long = h.long in (h.here d (omega (arith, lt))).1)

-- the poster at another place has seen what it had seen
pub seen_elsewhere : (place q : ℕ) (whole seen : List Entry) → q ≢ place → (ps qs : List Sender) → HaveHeardAt place whole ps qs → HaveSeenAt q seen ps → HaveSeenAt q seen qs
seen_elsewhere place q whole seen not ps qs h s = λ d lt. (let long = h.long in ap (λ (x : Sender). x.view.seen) (h.elsewhere q d not) ∙ s d (omega (arith, lt)))

-- posters of each queue that have seen the same
pub seen_same : (n : ℕ) (ps cs : List Sender) → length ps ≡ n → length cs ≡ n → ((q : ℕ) → q < n → (whole : List Entry) × HaveSeenAt q whole ps × HaveSeenAt q whole cs) → HaveSeenAll (seen_by cs) ps
seen_same n ps cs many many' h = map_alike (λ (p : Sender). p.view.seen) ps cs (many ∙ sym many')
    (λ k d lt.
    let within : k < n = omega (arith, lt, many) in
    let w = h k within in
    w.1 d lt ∙ sym (w.2 d (omega (arith, within, many'))))
