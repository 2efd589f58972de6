-- Groups in the order of their places.
use Rattle.std.proofs.Common.{◌≡◌, ◌<◌, ◌≤◌, ◌+◌, ℕ, suc, List, [], ◌∷◌, ◌++◌, length, get_or, take, true, false, map, refl, sym, ap, subst, ◌∙◌, append_assoc, arith}
use Rattle.std.specs.declared.cmp.Ordering.{Ordering}
use Rattle.std.specs.declared.cmp.Ordering.TheVariants.{Less, Equal, Greater}
use Rattle.std.specs.Ordering.{is_lt, nat_cmp, ordering_reverse}
use Rattle.std.specs.Cmp.Lexicographic.{slice_cmp}
use denote.Ref.{Bor}
use denote.Param.Members.{Mut}
use Rattle.std.specs.Fn.{Called, ComputesKey}
use Rattle.std.specs.Cmp.{IsTotalOrder}
use Rattle.std.specs.List.{AllByRecursion, flat_map}
use Rattle.std.specs.List.Sorted.{IsStrictlySortedBy, IsSortedByKey, IsStableByKey}
use Rattle.std.proofs.lemmas.List.{flat_map_more, get_or_default, length_push, take_all, take_more}
use Rattle.std.proofs.lemmas.Fn.{always_returns_same}
use Rattle.std.proofs.lemmas.Cmp.{nat_list_cmp_total}
use Rattle.std.proofs.lemmas.Map.Lookups.{exact_bytes}
use Rattle.loop_model.proofs.Sorting.{AllByRecursion-append}
use Rattle.run_picture.specs.declared.mark.Mark.{Mark}
use Rattle.run_picture.specs.declared.group.Row.{Row}
use Rattle.run_picture.specs.declared.group.Row.TheVariants.{Handler, Frames, Runs, Gauge}
use Rattle.run_picture.specs.declared.group.Place.{Place}
use Rattle.run_picture.specs.declared.group.Scale.{Scale}
use Rattle.run_picture.specs.declared.group.Group.{Group}
use Rattle.run_picture.specs.Groups.{AreCut, HasMarks, IsOfPlace, KeepOrder, GroupsRise, StandsAt, begun, key, marks_of, number, order, place, group_place, rank, with_mark}

-- the groups rise, and would with one more at this place
abbrev pub RiseTo : List Group → Place → Type 0
RiseTo gs p = IsStrictlySortedBy order (map group_place gs ++ p ∷ [])

-- a row is known by its rank and its number
row_again : (r s : Row) → rank r ≡ rank s → number r ≡ number s → r ≡ s
row_again (Handler h) (Handler k) e n = ap Handler n
row_again Frames Frames e n = refl
row_again Runs Runs e n = refl
row_again (Gauge h) (Gauge k) e n = ap Gauge n
row_again (Handler h) Frames e n = absurd (omega (arith, e))
row_again (Handler h) Runs e n = absurd (omega (arith, e))
row_again (Handler h) (Gauge k) e n = absurd (omega (arith, e))
row_again Frames (Handler k) e n = absurd (omega (arith, e))
row_again Frames Runs e n = absurd (omega (arith, e))
row_again Frames (Gauge k) e n = absurd (omega (arith, e))
row_again Runs (Handler k) e n = absurd (omega (arith, e))
row_again Runs Frames e n = absurd (omega (arith, e))
row_again Runs (Gauge k) e n = absurd (omega (arith, e))
row_again (Gauge h) (Handler k) e n = absurd (omega (arith, e))
row_again (Gauge h) Frames e n = absurd (omega (arith, e))
row_again (Gauge h) Runs e n = absurd (omega (arith, e))

-- places that tie are one
pub one_place : (p q : Place) → order p q ≡ Equal → p ≡ q
one_place p q tie =
    let e : key p ≡ key q = exact_bytes (key p) (key q) tie in
    let r : p.row ≡ q.row = row_again p.row q.row (ap (λ l. get_or l 1 0) e) (ap (λ l. get_or l 2 0) e) in
    let l : p.lane ≡ q.lane = ap (λ l. get_or l 0 0) e in
    let c : p.column ≡ q.column = ap (λ l. get_or l 3 0) e in
    λ i. record { lane = l i; row = r i; column = c i }

numbers : IsTotalOrder (slice_cmp nat_cmp)
numbers = nat_list_cmp_total

-- a place that is no other one and doesn't stand before it stands behind it
behind : (p q : Place) → is_lt (order q p) ≡ false → (p ≡ q → ⊥) → order p q ≡ Less
behind p q late other = go (order p q) refl
  where
    go : (o : Ordering) → order p q ≡ o → o ≡ Less
    go Less e = refl
    go Equal e = absurd (other (one_place p q e))
    go Greater e = let wrong : true ≡ false = sym (ap is_lt (numbers.antisymm (key q) (key p) ∙ ap ordering_reverse e)) ∙ late in cc

last_of : {X : Type 0} (P : X → Type 0) (xs : List X) (x : X) → AllByRecursion P (xs ++ x ∷ []) → P x
last_of P [] x h = h.0
last_of P (y ∷ xs) x h = last_of P xs x h.1

-- places that rise to p rise on to a place behind it
rise_on : (ps : List Place) (p q : Place) → IsStrictlySortedBy order (ps ++ p ∷ []) → order p q ≡ Less → IsStrictlySortedBy order ((ps ++ p ∷ []) ++ q ∷ [])
unfolding IsStrictlySortedBy
rise_on [] p q s lt = ((lt, tt), (tt, tt))
rise_on (k ∷ ps) p q s lt = (
  AllByRecursion-append (λ y. order k y ≡ Less) (ps ++ p ∷ []) (q ∷ []) s.0
      (numbers.trans (key k) (key p) (key q) (last_of (λ y. order k y ≡ Less) ps p s.0) lt, tt),
  rise_on ps p q s.1 lt,
)

map_more : (gs : List Group) (g : Group) → map group_place (gs ++ g ∷ []) ≡ map group_place gs ++ g.place ∷ []
map_more [] g = refl
map_more (h ∷ gs) g = ap (λ l. h.place ∷ l) (map_more gs g)

-- one group more
pub rise_more : (gs : List Group) (g : Group) (q : Place) → RiseTo gs g.place → is_lt (order q g.place) ≡ false → (g.place ≡ q → ⊥) → RiseTo (gs ++ g ∷ []) q
rise_more gs g q s late other =
    subst (λ ps. IsStrictlySortedBy order (ps ++ q ∷ [])) (sym (map_more gs g)) (rise_on (map group_place gs) g.place q s (behind g.place q late other))

-- all groups
pub rise_all : (gs : List Group) (g : Group) → RiseTo gs g.place → GroupsRise (gs ++ g ∷ [])
rise_all gs g s = subst (λ ps. IsStrictlySortedBy order ps) (sym (map_more gs g)) s

-- how far marks are cut: the groups that are whole, and the one of the last mark
pub record Cut (s : Scale) (first : Mark) (later : List Mark) (i : ℕ) (gs : List Group) (g : Group) : Type 0 where
  pub all : flat_map marks_of gs ++ g.marks ≡ first ∷ take i later
  pub settled : AllByRecursion (IsOfPlace s) gs
  pub marked : AllByRecursion HasMarks gs
  pub current : IsOfPlace s g
  pub some : HasMarks g
  pub rising : RiseTo gs g.place
  pub last : g.place ≡ place s (get_or (first ∷ later) i first)

alone : (p : Place) → IsStrictlySortedBy order (p ∷ [])
unfolding IsStrictlySortedBy
alone p = (tt, tt)

-- the first mark
pub cut_start : (s : Scale) (first : Mark) (later : List Mark) (gs : List Group) (g : Group) → gs ≡ [] → g ≡ with_mark (begun (place s first)) first → Cut s first later 0 gs g
cut_start s first later gs g none e = subst (λ x. Cut s first later 0 gs x) (sym e) (subst (λ x. Cut s first later 0 x (with_mark (begun (place s first)) first)) (sym none) start)
  where
    start : Cut s first later 0 [] (with_mark (begun (place s first)) first)
    start = record { all = refl; settled = tt; marked = tt; current = (refl, tt); some = omega arith; rising = alone (place s first); last = refl }

behind_first : (x : Mark) (xs : List Mark) (i : ℕ) → get_or (x ∷ xs) (i + 1) x ≡ get_or xs i x
behind_first x xs i = let e : i + 1 ≡ suc i = omega arith in ap (λ k. get_or (x ∷ xs) k x) e

one_flat : (gs : List Group) (g : Group) → flat_map marks_of gs ++ g.marks ≡ flat_map marks_of (gs ++ g ∷ [])
one_flat gs g = flat_map_more marks_of [] gs g

-- one mark more at the same place
pub cut_same : (s : Scale) (first : Mark) (later : List Mark) (i : ℕ) (gs hs : List Group) (g k h : Group) (m d : Mark) → Cut s first later i gs g → i < length later → m ≡ get_or later i d
    → g.place ≡ place s m → hs ≡ gs → k ≡ g → h ≡ with_mark k m → Cut s first later (i + 1) hs h
cut_same s first later i gs hs g k h m d c lt read same eg ek eh =
    subst (λ x. Cut s first later (i + 1) hs x) (sym (eh ∙ ap (λ x. with_mark x m) ek)) (subst (λ x. Cut s first later (i + 1) x (with_mark g m)) (sym eg) goes)
  where
    at : m ≡ get_or later i first
    at = read ∙ get_or_default later i d first lt

    goes : Cut s first later (i + 1) gs (with_mark g m)
    goes = record {
      all = sym (append_assoc (flat_map marks_of gs) g.marks (m ∷ [])) ∙ ap (λ l. l ++ m ∷ []) c.all ∙ ap (λ x. first ∷ (take i later ++ x ∷ [])) at ∙ ap (λ l. first ∷ l) (sym (take_more later i first lt));
      settled = c.settled;
      marked = c.marked;
      current = AllByRecursion-append (StandsAt s g.place) g.marks (m ∷ []) c.current (same, tt);
      some = let e = length_push g.marks m in omega (arith, e);
      rising = c.rising;
      last = same ∙ ap (place s) (at ∙ sym (behind_first first later i));
    }

-- one mark more at another place, which begins a group
pub cut_other : (s : Scale) (first : Mark) (later : List Mark) (i : ℕ) (gs hs : List Group) (g k h : Group) (m d : Mark) → IsSortedByKey (place s) order (first ∷ later) → Cut s first later i gs g
    → i < length later → m ≡ get_or later i d → (g.place ≡ place s m → ⊥) → hs ≡ gs ++ g ∷ [] → k ≡ begun (place s m) → h ≡ with_mark k m → Cut s first later (i + 1) hs h
cut_other s first later i gs hs g k h m d up c lt read other eg ek eh =
    subst (λ x. Cut s first later (i + 1) hs x) (sym (eh ∙ ap (λ x. with_mark x m) ek)) (subst (λ x. Cut s first later (i + 1) x (with_mark (begun (place s m)) m)) (sym eg) goes)
  where
    at : m ≡ get_or later i first
    at = read ∙ get_or_default later i d first lt

    here : m ≡ get_or (first ∷ later) (i + 1) first
    here = at ∙ sym (behind_first first later i)

    late : is_lt (order (place s m) g.place) ≡ false
    late = ap (λ p. is_lt (order p g.place)) (ap (place s) here) ∙ ap (λ p. is_lt (order (place s (get_or (first ∷ later) (i + 1) first)) p)) c.last ∙ up i first (omega arith) (omega arith)

    goes : Cut s first later (i + 1) (gs ++ g ∷ []) (with_mark (begun (place s m)) m)
    goes = record {
      all = ap (λ l. l ++ m ∷ []) (sym (one_flat gs g) ∙ c.all) ∙ ap (λ x. first ∷ (take i later ++ x ∷ [])) at ∙ ap (λ l. first ∷ l) (sym (take_more later i first lt));
      settled = AllByRecursion-append (IsOfPlace s) gs (g ∷ []) c.settled (c.current, tt);
      marked = AllByRecursion-append HasMarks gs (g ∷ []) c.marked (c.some, tt);
      current = (refl, tt);
      some = omega arith;
      rising = rise_more gs g (place s m) c.rising late other;
      last = ap (place s) here;
    }

rise_none : GroupsRise []
unfolding IsStrictlySortedBy
rise_none = tt

-- no marks
pub cut_none : (s : Scale) (ms : List Mark) (gs : List Group) → length ms ≡ 0 → gs ≡ [] → AreCut s ms gs
cut_none s [] gs e none = subst (λ x. AreCut s [] x) (sym none) record { all = refl; places = tt; marked = tt; rising = rise_none }
cut_none s (m ∷ ms) gs e none = absurd (omega (arith, e))

-- the last mark is cut
pub cut_end : (s : Scale) (first : Mark) (later : List Mark) (i : ℕ) (gs hs : List Group) (g : Group) → Cut s first later i gs g → length later ≤ i → hs ≡ gs ++ g ∷ [] → AreCut s (first ∷ later) hs
cut_end s first later i gs hs g c le eg = subst (λ x. AreCut s (first ∷ later) x) (sym eg) ends
  where
    ends : AreCut s (first ∷ later) (gs ++ g ∷ [])
    ends = record {
      all = sym (one_flat gs g) ∙ c.all ∙ ap (λ l. first ∷ l) (take_all i later le);
      places = AllByRecursion-append (IsOfPlace s) gs (g ∷ []) c.settled (c.current, tt);
      marked = AllByRecursion-append HasMarks gs (g ∷ []) c.marked (c.some, tt);
      rising = rise_all gs g c.rising;
    }

-- what `sort_by_key` ensures, where each call answers the key of the mark's place
pub stable_by_place : (s : Scale) {F : Type 0} {g : Mut F (Bor Mark × Unit {0}) (List ℕ)} {f : F} (xs ys : List Mark)
    → ((by : Mark → List ℕ) → ComputesKey g by f → IsStableByKey by (slice_cmp nat_cmp) xs ys)
    → ((a : Bor Mark × Unit {0}) (r : List ℕ) (f' : F) → Called g f a r f' → (r ≡ key (place s a.0.now)) × (f' ≡ f)) → KeepOrder s xs ys
stable_by_place s {g = g} {f = f} xs ys up h = up (λ m. key (place s m)) (always_returns_same g (λ a r. r ≡ key (place s a.0.now)) f h)

pub sorted_by_place : (s : Scale) {F : Type 0} {g : Mut F (Bor Mark × Unit {0}) (List ℕ)} {f : F} (xs : List Mark)
    → ((by : Mark → List ℕ) → ComputesKey g by f → IsSortedByKey by (slice_cmp nat_cmp) xs)
    → ((a : Bor Mark × Unit {0}) (r : List ℕ) (f' : F) → Called g f a r f' → (r ≡ key (place s a.0.now)) × (f' ≡ f)) → IsSortedByKey (place s) order xs
sorted_by_place s {g = g} {f = f} xs up h = up (λ m. key (place s m)) (always_returns_same g (λ a r. r ≡ key (place s a.0.now)) f h)
