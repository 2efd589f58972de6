-- How posts go through an inbox, and what its rule keeps.
use Rattle.std.proofs.Common.{◌≡◌, ◌≢◌, ℕ, suc, ◌+◌, ◌==◌, cond, List, [], ◌∷◌, ◌++◌, length, drop, refl, sym, ap, ◌∙◌, arith, length-append, eq-eqb, ne_eqb, Some, slice_get, zero, ◌<◌, ◌≤◌, ◌⊎◌, set, subst, append_assoc, ⊎_elim, inl, inr, Option, None, slice_set, take, get_or}
use Rattle.std.proofs.lemmas.List.{append-nil, get_or-set_same, get_or-set_other, map-append, take_more, take_all, take-append-drop, drop_all}
use Rattle.std.proofs.lemmas.List.Elements.{filter-append, filter_map-append}
use mathlib.Core.List.{IsPrefix}
use Rattle.loop_model.specs.declared.post.Post.{Post}
use Rattle.inbox_queue.specs.declared.parcel.Parcel.{Parcel}
use Rattle.inbox_queue.specs.Plans.{parcels_from, parcels_of, from_sender, planned_posts}
use mathlib.Core.Option.{some, some-injective, some-ne-none}
use mathlib.Core.Logic.{dite}
use native.Mathlib.Decide.{ℕ_discrete, dec_lt}
use lib.ListN.{get_elem?}
use Rattle.crossbeam_queue.specs.Fifo.{Pushes, Pops, Forks, Merges, Learns}
use Rattle.crossbeam_queue.proofs.Lists.{at_set}
use Rattle.inbox_queue.specs.declared.known.Known.{Known}
use Rattle.inbox_queue.specs.declared.known.Known.TheVariants.{Spent, Sends, Admits}
use Rattle.inbox_queue.specs.Taken.{put_by}
use Rattle.inbox_queue.specs.Carried.{Carried, Fits, start, puts_more, admits_more, Accounts, Foretells, deals, dealt, takes_in, spent, taken_of}
use Rattle.std.specs.Prelude.{slice_index_or, All}
use Rattle.std.proofs.Math.Seq.{drop-cons, set-append_seam, get_or-append_seam}
use Rattle.loop_model.proofs.Prefixes.{prefix_all}
use Rattle.dash_script.specs.declared.script.Block.{Block}
use Rattle.dash_script.specs.declared.script.Line.{Line}
use Rattle.dash_script.specs.declared.script.Script.{Script}
use Rattle.inbox_queue.specs.Handed.{PutPosts, Admitting, InboxId, AreNewSenders, AreInboxSenders, IsAllAdmitted, AreAllTakenIn, IsNextOfItsSender}
use Rattle.inbox_queue.specs.Gathered.{planned_for, post_of_line, EachPuts, PutBeginnings, HavePut, all_put}
use Rattle.inbox_queue.specs.InboxRun.{IsOfBlock}

-- ==== lists of parcels, sender by sender

abbrev pub parcel : ℕ → ℕ → Post → Parcel
parcel from index post = record { from = from; index = index; post = post }

-- one post more is one parcel more
pub parcels_from-snoc : (p i : ℕ) (xs : List Post) (x : Post) → parcels_from p i (xs ++ x ∷ []) ≡ parcels_from p i xs ++ parcel p (i + length xs) x ∷ []
parcels_from-snoc p i [] x = ap (λ n. parcel p n x ∷ []) (let e : i ≡ i + 0 = omega arith in e)
parcels_from-snoc p i (y ∷ ys) x = ap (λ l. parcel p i y ∷ l) (parcels_from-snoc p (suc i) ys x ∙ ap (λ n. parcels_from p (suc i) ys ++ parcel p n x ∷ []) (let e : suc i + length ys ≡ i + suc (length ys) = omega arith in e))

pub parcels_of-snoc : (p : ℕ) (xs : List Post) (x : Post) → parcels_of p (xs ++ x ∷ []) ≡ parcels_of p xs ++ parcel p (length xs) x ∷ []
parcels_of-snoc p xs x = parcels_from-snoc p 0 xs x ∙ ap (λ n. parcels_from p 0 xs ++ parcel p n x ∷ []) (let e : 0 + length xs ≡ length xs = omega arith in e)

-- there are as many parcels as posts
pub length-parcels_from : (p i : ℕ) (xs : List Post) → length (parcels_from p i xs) ≡ length xs
length-parcels_from p i [] = refl
length-parcels_from p i (x ∷ xs) = ap suc (length-parcels_from p (suc i) xs)

-- a sender's part of a list that got one parcel more
pub from_sender-own : (p : ℕ) (xs : List Parcel) (x : Parcel) → x.from ≡ p → from_sender p (xs ++ x ∷ []) ≡ from_sender p xs ++ x ∷ []
from_sender-own p xs x is = filter-append (λ (y : Parcel). y.from == p) xs (x ∷ []) ∙ ap (λ b. from_sender p xs ++ cond b (x ∷ []) []) (eq-eqb x.from p is)

pub from_sender-other : (p : ℕ) (xs : List Parcel) (x : Parcel) → x.from ≢ p → from_sender p (xs ++ x ∷ []) ≡ from_sender p xs
from_sender-other p xs x isn't = filter-append (λ (y : Parcel). y.from == p) xs (x ∷ []) ∙ ap (λ b. from_sender p xs ++ cond b (x ∷ []) []) (ne_eqb x.from p isn't) ∙ append-nil (from_sender p xs)

-- what stands in the middle of a sender's parcels is the parcel of that place
pub in_its_place : (p i : ℕ) (posts : List Post) (xs : List Parcel) (x : Parcel) (ys : List Parcel) → xs ++ x ∷ ys ≡ parcels_from p i posts → (x.index ≡ i + length xs) × (slice_get posts (length xs) ≡ Some x.post)
in_its_place p i [] [] x ys e = absurd (let l : suc (length ys) ≡ 0 = ap length e in omega arith)
in_its_place p i [] (w ∷ ws) x ys e = absurd (let l : suc (length (ws ++ x ∷ ys)) ≡ 0 = ap length e in omega arith)
in_its_place p i (y ∷ zs) [] x ys e = let same : x ≡ parcel p i y = first e in
    (ap (λ (z : Parcel). z.index) same ∙ (let f : i ≡ i + 0 = omega arith in f), ap (λ (z : Parcel). Some z.post) (sym same))
  where
    head_or : Parcel → List Parcel → Parcel
    head_or d [] = d
    head_or d (z ∷ zs) = z

    first : x ∷ ys ≡ parcel p i y ∷ parcels_from p (suc i) zs → x ≡ parcel p i y
    first e = ap (head_or x) e
in_its_place p i (y ∷ zs) (w ∷ ws) x ys e =
    let h = in_its_place p (suc i) zs ws x ys (ap (drop 1) e) in
    (h.0 ∙ (let f : suc i + length ws ≡ i + suc (length ws) = omega arith in f), h.1)

-- of a list that goes on, a sender's part begins with its part of the list
pub part_begins : (p : ℕ) (xs ys : List Parcel) (all : List Parcel) → from_sender p (xs ++ ys) ≡ all → IsPrefix (from_sender p xs) all
part_begins p xs ys all e = (from_sender p ys, sym (filter-append (λ (y : Parcel). y.from == p) xs ys) ∙ e)

-- a part that goes on isn't the whole
pub not_whole : (xs : List Parcel) (x : Parcel) (ys : List Parcel) → xs ≡ xs ++ x ∷ ys → ⊥
not_whole xs x ys e = let l : length xs ≡ length (xs ++ x ∷ ys) = ap length e in omega (arith, length-append xs (x ∷ ys))

-- ==== each step of an inbox keeps its rule

-- a number with another value at one place
abbrev with_at : {A : Type 0} → ℕ → A → (ℕ → A) → ℕ → A
with_at n a f p = cond (p == n) a (f p)

with_here : {A : Type 0} (n p : ℕ) (a : A) (f : ℕ → A) → p ≡ n → with_at n a f p ≡ a
with_here n p a f is = ap (λ b. cond b a (f p)) (eq-eqb p n is)

with_there : {A : Type 0} (n p : ℕ) (a : A) (f : ℕ → A) → p ≢ n → with_at n a f p ≡ f p
with_there n p a f isn't = ap (λ b. cond b a (f p)) (ne_eqb p n isn't)

-- ---- how an inbox begins

pub begins : Carried [] (start ∷ [])
begins = record {
  reader = 0;
  got = [];
  put = λ _. [];
  seat = λ _. 0;
  whole = λ _. refl;
  each = one;
}
  where
    one : (k : ℕ) (v : Known) → get_elem? (start ∷ []) k ≡ some v → Fits 0 [] (λ _. []) (λ _. 0) k v
    one zero v e = subst (Fits 0 [] (λ _. []) (λ _. 0) 0) (some-injective start v e) (refl, refl, λ p posts is. (refl, mine p posts is))
      where
        mine : (p : ℕ) (posts : List Post) → put_by [] p ≡ Some posts → [] ≡ posts
        mine p posts is = let same : [] ≡ posts = cc in same
    one (suc k) v e = absurd (some-ne-none v (sym e))

-- ---- a sender puts

-- a sender's view stays right where another sender puts
others_put : (reader : ℕ) (got : List Parcel) (put : ℕ → List Post) (seat : ℕ → ℕ) (n : ℕ) (more : List Post) (j : ℕ) (u : Known) → seat n ≢ j → Fits reader got put seat j u → Fits reader got (with_at n more put) seat j u
others_put reader got put seat n more j Spent other fits = tt
others_put reader got put seat n more j (Sends from posts) other fits = (fits.0, with_there n from more put (λ is. other (ap seat (sym is) ∙ fits.0)) ∙ fits.1)
others_put reader got put seat n more j (Admits taken admitted) other fits =
    (fits.0, fits.1, λ p posts is. let h = fits.2 p posts is in (h.0, with_there n p more put (λ same. other (ap seat (sym same) ∙ h.0)) ∙ h.1))

pub puts : (n k : ℕ) (from : ℕ) (posts : List Post) (x : Post) → Pushes Carried n k (Sends from posts) (parcel from (length posts) x) (λ w. w ≡ puts_more (Sends from posts) (parcel from (length posts) x))
puts n k from posts x items views room h at = (
  Sends from more,
  record {
    reader = h.reader;
    got = h.got;
    put = put;
    seat = h.seat;
    whole = whole;
    each = λ j u there. ⊎_elim (λ here. subst (λ (z : ℕ × Known). Fits h.reader h.got put h.seat z.0 z.1) (λ i. (sym here.0 i, here.1 i)) (mine.0, with_here from from more h.put refl))
        (λ else. others_put h.reader h.got h.put h.seat from more j u (λ is. else.0 (sym is ∙ mine.0)) (h.each j u else.1)) (at_set views k j (Sends from more) u there);
  },
  refl,
)
  where
    more : List Post
    more = posts ++ x ∷ []

    new : Parcel
    new = parcel from (length posts) x

    put : ℕ → List Post
    put = with_at from more h.put

    mine : (h.seat from ≡ k) × (h.put from ≡ posts)
    mine = h.each k (Sends from posts) at

    whole : (p : ℕ) → from_sender p (h.got ++ (items ++ new ∷ [])) ≡ parcels_of p (put p)
    whole p = dite (ℕ_discrete p from)
        (λ is. ap (from_sender p) (sym (append_assoc h.got items (new ∷ []))) ∙ from_sender-own p (h.got ++ items) new (sym is) ∙ ap (λ l. l ++ new ∷ []) (h.whole p ∙ ap (parcels_of p) (ap h.put is ∙ mine.1))
        ∙ ap (λ q. parcels_of p posts ++ parcel q (length posts) x ∷ []) (sym is) ∙ sym (parcels_of-snoc p posts x) ∙ ap (parcels_of p) (sym (with_here from p more h.put is)))
        (λ isn't. ap (from_sender p) (sym (append_assoc h.got items (new ∷ []))) ∙ from_sender-other p (h.got ++ items) new (λ e. isn't (sym e)) ∙ h.whole p ∙ ap (parcels_of p) (sym (with_there from p more h.put isn't)))

pub puts_as : (n k from count : ℕ) (v : Known) (posts : List Post) (x : Post) → v ≡ Sends from posts → count ≡ length posts → Pushes Carried n k v (parcel from count x) (λ w. w ≡ puts_more v (parcel from count x))
puts_as n k from count v posts x is counted = subst (λ (z : Known × ℕ). Pushes Carried n k z.0 (parcel from z.1 x) (λ w. w ≡ puts_more z.0 (parcel from z.1 x))) (λ i. (sym is i, sym counted i)) (puts n k from posts x)

-- ---- the admitter takes out

-- the other views stay right where the admitter takes a parcel out
others_take : (reader : ℕ) (got more : List Parcel) (put : ℕ → List Post) (seat : ℕ → ℕ) (j : ℕ) (u : Known) → j ≢ reader → Fits reader got put seat j u → Fits reader more put seat j u
others_take reader got more put seat j Spent other fits = tt
others_take reader got more put seat j (Sends from posts) other fits = fits
others_take reader got more put seat j (Admits taken admitted) other fits = absurd (other fits.0)

-- what the rule tells the admitter
accounts : (k : ℕ) (taken : List (Option (List Post))) (admitted items : List Parcel) (reader : ℕ) (got : List Parcel) (put : ℕ → List Post) (seat : ℕ → ℕ) → ((p : ℕ) → from_sender p (got ++ items) ≡ parcels_of p (put p)) → Fits reader got put seat k (Admits taken admitted) → Accounts (Admits taken admitted) items
accounts k taken admitted items reader got put seat whole fits p posts is = ap (λ l. from_sender p (l ++ items)) fits.1 ∙ whole p ∙ ap (parcels_of p) (fits.2 p posts is).1

pub takes : (k : ℕ) (taken : List (Option (List Post))) (admitted : List Parcel) → Pops Carried k (Admits taken admitted) (λ x w. (w ≡ admits_more (Admits taken admitted) x) × Foretells w)
takes k taken admitted x items views h at = (
  Admits taken more,
  record {
    reader = h.reader;
    got = got;
    put = h.put;
    seat = h.seat;
    whole = whole;
    each = λ j u there. ⊎_elim (λ here. subst (λ (z : ℕ × Known). Fits h.reader got h.put h.seat z.0 z.1) (λ i. (sym here.0 i, here.1 i)) now)
        (λ else. others_take h.reader h.got got h.put h.seat j u (λ is. else.0 (is ∙ sym mine.0)) (h.each j u else.1)) (at_set views k j (Admits taken more) u there);
  },
  (refl, (items, accounts k taken more items h.reader got h.put h.seat whole now)),
)
  where
    more : List Parcel
    more = admitted ++ x ∷ []

    got : List Parcel
    got = h.got ++ x ∷ []

    mine : Fits h.reader h.got h.put h.seat k (Admits taken admitted)
    mine = h.each k (Admits taken admitted) at

    whole : (p : ℕ) → from_sender p (got ++ items) ≡ parcels_of p (h.put p)
    whole p = ap (from_sender p) (append_assoc h.got (x ∷ []) items) ∙ h.whole p

    now : Fits h.reader got h.put h.seat k (Admits taken more)
    now = (mine.0, ap (λ l. l ++ x ∷ []) mine.1, mine.2)

pub learns : (k : ℕ) (taken : List (Option (List Post))) (admitted : List Parcel) → Learns Carried k (Admits taken admitted) (Accounts (Admits taken admitted))
learns k taken admitted items views h at = accounts k taken admitted items h.reader h.got h.put h.seat h.whole (h.each k (Admits taken admitted) at)

-- ---- a new sender

-- what was put by one sender more, of whom nothing is known yet
put_by-more : (taken : List (Option (List Post))) (p : ℕ) (posts : List Post) → put_by (taken ++ None ∷ []) p ≡ Some posts → (put_by taken p ≡ Some posts) × (p ≢ length taken)
put_by-more [] zero posts e = absurd (let e' : None ≡ Some posts = e in cc)
put_by-more [] (suc p) posts e = (e, λ h. omega arith)
put_by-more (x ∷ xs) zero posts e = (e, λ h. omega arith)
put_by-more (x ∷ xs) (suc p) posts e = let h = put_by-more xs p posts e in (h.0, λ s. h.1 (omega arith))

-- nobody beyond the list puts anything
pub put_by-beyond : (taken : List (Option (List Post))) (p : ℕ) → length taken ≤ p → put_by taken p ≡ Some []
put_by-beyond [] p le = refl
put_by-beyond (x ∷ xs) zero le = absurd (omega arith)
put_by-beyond (x ∷ xs) (suc p) le = put_by-beyond xs p (omega arith)

-- what stands in a list that got one more
at_end : {A : Type 0} (l : List A) (a b : A) (j : ℕ) → get_elem? (l ++ a ∷ []) j ≡ some b → (get_elem? l j ≡ some b) ⊎ ((j ≡ length l) × (a ≡ b))
at_end [] a b zero e = inr (refl, some-injective a b e)
at_end [] a b (suc j) e = absurd (some-ne-none b (sym e))
at_end (x ∷ xs) a b zero e = inl e
at_end (x ∷ xs) a b (suc j) e = ⊎_elim (λ h. inl h) (λ h. inr (ap suc h.0, h.1)) (at_end xs a b j e)

-- a view stays right where a sender that isn't its own comes to another place
others_move : (reader : ℕ) (got : List Parcel) (put : ℕ → List Post) (seat : ℕ → ℕ) (n to : ℕ) (j : ℕ) (u : Known) → seat n ≢ j → j ≢ reader → Fits reader got put seat j u → Fits reader got put (with_at n to seat) j u
others_move reader got put seat n to j Spent other not_reader fits = tt
others_move reader got put seat n to j (Sends from posts) other not_reader fits = (with_there n from to seat (λ is. other (ap seat (sym is) ∙ fits.0)) ∙ fits.0, fits.1)
others_move reader got put seat n to j (Admits taken admitted) other not_reader fits = absurd (not_reader fits.0)

pub forks : (k : ℕ) (taken : List (Option (List Post))) (admitted : List Parcel) → Forks Carried k (Admits taken admitted) (deals (Admits taken admitted)) (dealt (Admits taken admitted))
forks k taken admitted items views h at = record {
  reader = h.reader;
  got = h.got;
  put = h.put;
  seat = seat;
  whole = h.whole;
  each = λ j u there. ⊎_elim (λ old. before j u old) (λ new. subst (λ (z : ℕ × Known). Fits h.reader h.got h.put seat z.0 z.1) (λ i. (sym new.0 i, new.1 i)) last) (at_end views' (Sends n []) u j there);
}
  where
    n : ℕ
    n = length taken

    left : Known
    left = Admits (taken ++ None ∷ []) admitted

    views' : List Known
    views' = set views k left

    seat : ℕ → ℕ
    seat = with_at n (length views') h.seat

    mine : Fits h.reader h.got h.put h.seat k (Admits taken admitted)
    mine = h.each k (Admits taken admitted) at

    next : (h.seat n ≡ k) × (h.put n ≡ [])
    next = mine.2 n [] (put_by-beyond taken n (let le : n ≤ n = omega arith in le))

    last : Fits h.reader h.got h.put seat (length views') (Sends n [])
    last = (with_here n n (length views') h.seat refl, next.1)

    still : Fits h.reader h.got h.put seat k left
    still = (mine.0, mine.1, λ p posts is. let m = put_by-more taken p posts is in let f = mine.2 p posts m.0 in (with_there n p (length views') h.seat m.1 ∙ f.0, f.1))

    before : (j : ℕ) (u : Known) → get_elem? views' j ≡ some u → Fits h.reader h.got h.put seat j u
    before j u there = ⊎_elim (λ here. subst (λ (z : ℕ × Known). Fits h.reader h.got h.put seat z.0 z.1) (λ i. (sym here.0 i, here.1 i)) still)
        (λ else. others_move h.reader h.got h.put h.seat n (length views') j u (λ is. else.0 (sym is ∙ next.0)) (λ is. else.0 (is ∙ sym mine.0)) (h.each j u else.1)) (at_set views k j left u there)

-- ---- the admitter takes a sender in

pub merges : (k : ℕ) (taken : List (Option (List Post))) (admitted : List Parcel) (other from : ℕ) (posts : List Post) → Merges Carried k (Admits taken admitted) other (Sends from posts) (takes_in (Admits taken admitted) (Sends from posts)) spent
merges k taken admitted other from posts items views h at two there = record {
  reader = h.reader;
  got = h.got;
  put = h.put;
  seat = seat;
  whole = h.whole;
  each = λ j u e. ⊎_elim (λ gone. subst (λ z. Fits h.reader h.got h.put seat j z) gone.1 tt) (λ kept. rest j u kept.0 kept.1) (at_set (set views k both) other j Spent u e);
}
  where
    both : Known
    both = Admits (slice_set taken from (Some posts)) admitted

    seat : ℕ → ℕ
    seat = with_at from k h.seat

    mine : Fits h.reader h.got h.put h.seat k (Admits taken admitted)
    mine = h.each k (Admits taken admitted) at

    was : get_elem? views other ≡ some (Sends from posts)
    was = ⊎_elim (λ x. absurd (two x.0)) (λ x. x.1) (at_set views k other both (Sends from posts) there)

    theirs : (h.seat from ≡ other) × (h.put from ≡ posts)
    theirs = h.each other (Sends from posts) was

    below : from < length taken
    below = dite (dec_lt from (length taken)) (λ lt. lt) (λ not. absurd (two (sym theirs.0 ∙ (mine.2 from [] (put_by-beyond taken from (let le : length taken ≤ from = omega arith in le))).0)))

    now : (p : ℕ) (ps : List Post) → put_by (slice_set taken from (Some posts)) p ≡ Some ps → (seat p ≡ k) × (h.put p ≡ ps)
    now p ps is = dite (ℕ_discrete p from)
        (λ same. (with_here from p k h.seat same, ap h.put same ∙ theirs.1 ∙ same_posts (sym (get_or-set_same taken from (Some posts) (Some []) below) ∙ ap (put_by (slice_set taken from (Some posts))) (sym same) ∙ is)))
        (λ apart. let f = mine.2 p ps (sym (get_or-set_other taken from p (Some posts) (Some []) apart) ∙ is) in (with_there from p k h.seat apart ∙ f.0, f.1))
      where
        same_posts : Some posts ≡ Some ps → posts ≡ ps
        same_posts e = let r : posts ≡ ps = cc in r

    rest : (j : ℕ) (u : Known) → j ≢ other → get_elem? (set views k both) j ≡ some u → Fits h.reader h.got h.put seat j u
    rest j u apart e = ⊎_elim (λ here. subst (λ (z : ℕ × Known). Fits h.reader h.got h.put seat z.0 z.1) (λ i. (sym here.0 i, here.1 i)) (mine.0, mine.1, now))
        (λ else. others_move h.reader h.got h.put h.seat from k j u (λ is. apart (sym is ∙ theirs.0)) (λ is. else.0 (is ∙ sym mine.0)) (h.each j u else.1)) (at_set views k j both u e)

pub merges_as : (k : ℕ) (v w : Known) (taken : List (Option (List Post))) (admitted : List Parcel) (other from : ℕ) (posts : List Post) → v ≡ Admits taken admitted → w ≡ Sends from posts → Merges Carried k v other w (takes_in v w) spent
merges_as k v w taken admitted other from posts is theirs = subst (λ (z : Known × Known). Merges Carried k z.0 other z.1 (takes_in z.0 z.1) spent) (λ i. (sym is i, sym theirs i)) (merges k taken admitted other from posts)

pub forks_as : (k : ℕ) (v : Known) (taken : List (Option (List Post))) (admitted : List Parcel) → v ≡ Admits taken admitted → Forks Carried k v (deals v) (dealt v)
forks_as k v taken admitted is = subst (λ z. Forks Carried k z (deals z) (dealt z)) (sym is) (forks k taken admitted)

pub takes_as : (k : ℕ) (v : Known) (taken : List (Option (List Post))) (admitted : List Parcel) → v ≡ Admits taken admitted → Pops Carried k v (λ x w. (w ≡ admits_more v x) × Foretells w) × Learns Carried k v (Accounts v)
takes_as k v taken admitted is = subst (λ z. Pops Carried k z (λ x w. (w ≡ admits_more z x) × Foretells w) × Learns Carried k z (Accounts z)) (sym is) (takes k taken admitted, learns k taken admitted)

-- ==== how a block's posts go through an inbox

-- the posts of one line more
planned_next : (s : Script) (time thread : ℕ) (ls : List Line) (i : ℕ) (d : Line) → i < length ls → planned_posts s time thread (take (i + 1) ls) ≡ planned_posts s time thread (take i ls) ++ planned_posts s time thread (get_or ls i d ∷ [])
planned_next s time thread ls i d lt =
    ap (planned_posts s time thread) (take_more ls i d lt) ∙ filter_map-append (post_of_line s time thread) (take i ls) (get_or ls i d ∷ [])

pub planned_more : (s : Script) (time thread : ℕ) (ls : List Line) (i : ℕ) (d : Line) (old new : List Post) → i < length ls → old ≡ planned_posts s time thread (take i ls) → new ≡ old ++ planned_posts s time thread (get_or ls i d ∷ []) → new ≡ planned_posts s time thread (take (i + 1) ls)
planned_more s time thread ls i d old new lt was now = now ∙ ap (λ r. r ++ planned_posts s time thread (get_or ls i d ∷ [])) was ∙ sym (planned_next s time thread ls i d lt)

pub counted_more : (s : Script) (time thread : ℕ) (ls : List Line) (i : ℕ) (d : Line) (count weight : ℕ) → i < length ls → count ≡ length (planned_posts s time thread (take i ls)) → weight ≡ length (planned_posts s time thread (get_or ls i d ∷ [])) → count + weight ≡ length (planned_posts s time thread (take (i + 1) ls))
counted_more s time thread ls i d count weight lt was one =
    let next : length (planned_posts s time thread (take (i + 1) ls)) ≡ length (planned_posts s time thread (take i ls) ++ planned_posts s time thread (get_or ls i d ∷ [])) = ap length (planned_next s time thread ls i d lt) in
    let sum = length-append (planned_posts s time thread (take i ls)) (planned_posts s time thread (get_or ls i d ∷ [])) in
    let e : count + weight ≡ length (planned_posts s time thread (take (i + 1) ls)) = omega (arith, next, sum, was, one) in e

pub counted_all : (s : Script) (time thread : ℕ) (ls : List Line) (i count : ℕ) → length ls ≤ i → count ≡ length (planned_posts s time thread (take i ls)) → count ≡ length (planned_posts s time thread ls)
counted_all s time thread ls i count le is = is ∙ ap (λ l. length (planned_posts s time thread l)) (take_all i ls le)

-- what the first lines plan begins what all plan
pub planned-front : (s : Script) (time thread : ℕ) (i : ℕ) (ls : List Line) → IsPrefix (planned_posts s time thread (take i ls)) (planned_posts s time thread ls)
planned-front s time thread i ls = (planned_posts s time thread (drop i ls), sym (filter_map-append (post_of_line s time thread) (take i ls) (drop i ls)) ∙ ap (planned_posts s time thread) (take-append-drop i ls))

-- as many were taken in as there are senders
count_put : (ys : List PutPosts) → length (all_put ys) ≡ length ys
count_put [] = refl
count_put (y ∷ ys) = ap suc (count_put ys)

-- what was taken in is known of each
pub taken_more : (ys : List PutPosts) (s : PutPosts) (old : List (Option (List Post))) → s.number ≡ length ys → length ys < length old
    → slice_set (all_put ys ++ drop (length ys) old) s.number (Some s.put) ≡ all_put (ys ++ s ∷ []) ++ drop (length (ys ++ s ∷ [])) old
taken_more ys s old is lt =
    let f : PutPosts → Option (List Post) = λ x. Some x.put in
    let count : length (all_put ys) ≡ length ys = count_put ys in
    let more : length (ys ++ s ∷ []) ≡ suc (length ys) = (let l = length-append ys (s ∷ []) in omega (arith, l)) in
    ap (λ l. set (all_put ys ++ l) s.number (Some s.put)) (drop-cons old (length ys) None lt)
    ∙ ap (λ n. set (all_put ys ++ get_or old (length ys) None ∷ drop (suc (length ys)) old) n (Some s.put)) (is ∙ sym count)
    ∙ set-append_seam (all_put ys) (get_or old (length ys) None) (drop (suc (length ys)) old) (Some s.put)
    ∙ sym (append_assoc (all_put ys) (Some s.put ∷ []) (drop (suc (length ys)) old))
    ∙ (λ i. (sym (map-append f ys (s ∷ []))) i ++ drop (sym more i) old)

pub taken_all : (ys : List PutPosts) (old : List (Option (List Post))) → length old ≡ length ys → all_put ys ++ drop (length ys) old ≡ all_put ys
taken_all ys old is = ap (λ l. all_put ys ++ l) (drop_all (length ys) old (let le : length old ≤ length ys = omega (arith, is) in le)) ∙ append-nil (all_put ys)

-- every sender was taken in
pub all_taken : (senders : List PutPosts) → All (λ o. o ≢ None) (all_put senders)
all_taken [] k d lt = absurd (omega arith)
all_taken (s ∷ ss) zero d lt = λ e. absurd (let wrong : Some s.put ≡ None = e in cc wrong)
all_taken (s ∷ ss) (suc k) d lt = all_taken ss k d (omega arith)

put_of : (senders : List PutPosts) (k : ℕ) (d : PutPosts) → k < length senders → put_by (all_put senders) k ≡ Some (slice_index_or senders k d).put
put_of [] k d lt = absurd (omega arith)
put_of (s ∷ ss) zero d lt = refl
put_of (s ∷ ss) (suc k) d lt = put_of ss k d (omega arith)

-- so what was admitted is what the lines plan
pub of_block : (s : Script) (b : Block) (inbox : InboxId) (senders : List PutPosts) (a : Admitting) (parcels : List Parcel) → length senders ≡ s.threads → HavePut s b senders → a.taken ≡ all_put senders → IsAllAdmitted a → parcels ≡ a.admitted → IsOfBlock s b parcels
of_block s b inbox senders a parcels count put taken all same = record {
  threads = λ k lt. let lt' : k < length senders = omega (arith, count) in
      let d : PutPosts = record { inbox = inbox; number = 0; put = [] } in
      ap (from_sender k) same ∙ all k (planned_for s b k) (ap (λ l. put_by l k) taken ∙ put_of senders k d lt' ∙ ap Some (put k d lt'));
  others = λ k le. let le' : length (all_put senders) ≤ k = (let l = count_put senders in omega (arith, l, count)) in
      ap (from_sender k) same ∙ all k [] (ap (λ l. put_by l k) taken ∙ put_by-beyond (all_put senders) k le');
}

-- what has as many posts as are planned, and begins them, is all of them
pub put_whole : (put planned : List Post) (count want : ℕ) → IsPrefix put planned → count ≡ length put → want ≡ length planned → count ≡ want → put ≡ planned
put_whole put planned count want p is is' same = prefix_all put planned p (let le : length planned ≤ length put = omega (arith, is, is', same) in le)

-- at the end of the lines
pub planned_end : (s : Script) (time thread : ℕ) (ls : List Line) (i : ℕ) (put : List Post) → length ls ≤ i → put ≡ planned_posts s time thread (take i ls) → IsPrefix put (planned_posts s time thread ls)
planned_end s time thread ls i put le is = ([], append-nil put ∙ is ∙ ap (planned_posts s time thread) (take_all i ls le))

pub planned_early : (s : Script) (time thread : ℕ) (ls : List Line) (i : ℕ) (put : List Post) → put ≡ planned_posts s time thread (take i ls) → IsPrefix put (planned_posts s time thread ls)
planned_early s time thread ls i put is = subst (λ l. IsPrefix l (planned_posts s time thread ls)) (sym is) (planned-front s time thread i ls)

-- one sender goes from the rest to those before
pub regrouped : (before whole all rest : List PutPosts) (x : PutPosts) → all ≡ x ∷ rest → before ++ all ≡ whole → (before ++ x ∷ []) ++ rest ≡ whole
regrouped before whole all rest x is joins = append_assoc before (x ∷ []) rest ∙ (ap (λ l. before ++ l) (sym is) ∙ joins)

-- the sender that is taken in next
pub one_sender : (inbox : InboxId) (all yielded rest : List PutPosts) (s : PutPosts) → yielded ++ s ∷ rest ≡ all → AreInboxSenders inbox all → (s.inbox ≡ inbox) × (s.number ≡ length yielded) × (length yielded < length all)
one_sender inbox all yielded rest s parts senders =
    let l = length-append yielded (s ∷ rest) in
    let whole : length (yielded ++ s ∷ rest) ≡ length all = ap length parts in
    let lt : length yielded < length all = omega (arith, l, whole) in
    let here : slice_index_or all (length yielded) s ≡ s = ap (λ (z : List PutPosts). slice_index_or z (length yielded) s) (sym parts) ∙ get_or-append_seam yielded s rest s in
    let h = senders (length yielded) s lt in
    (ap (λ (x : PutPosts). x.inbox) (sym here) ∙ h.0, ap (λ (x : PutPosts). x.number) (sym here) ∙ h.1, lt)

-- one sender more has put all that its lines plan
pub put_next : (s : Script) (b : Block) (senders : List PutPosts) (i : ℕ) (item : PutPosts) (count planned : ℕ) → i < length senders → ((d : PutPosts) → slice_index_or senders i d ≡ item) → PutBeginnings s b senders → count ≡ length item.put → planned ≡ length (planned_for s b i) → count ≡ planned
    → ((k : ℕ) (d : PutPosts) → k < i → (slice_index_or senders k d).put ≡ planned_for s b k) → (k : ℕ) (d : PutPosts) → k < i + 1 → (slice_index_or senders k d).put ≡ planned_for s b k
put_next s b senders i item count planned lt at begins counted wanted same before k d less = dite (dec_lt k i) (λ below. before k d below)
    (λ not. let is : k ≡ i = omega arith in
    subst (λ n. (slice_index_or senders n d).put ≡ planned_for s b n) (sym is)
    (ap (λ (x : PutPosts). x.put) (at d) ∙ put_whole item.put (planned_for s b i) count planned (subst (λ (x : PutPosts). IsPrefix x.put (planned_for s b i)) (at d) (begins i d lt)) counted wanted same))

-- one line more, of the same list and the same thread
pub planned_more_by : (s : Script) (time thread n : ℕ) (ls ls' : List Line) (i : ℕ) (d : Line) (old new : List Post) → ls' ≡ ls → n ≡ thread → i < length ls' → old ≡ planned_posts s time thread (take i ls) → new ≡ old ++ planned_posts s time n (get_or ls' i d ∷ []) → new ≡ planned_posts s time thread (take (i + 1) ls)
planned_more_by s time thread n ls ls' i d old new same number lt was now =
    planned_more s time thread ls i d old new (subst (λ l. i < length l) same lt) was (now ∙ (λ j. old ++ planned_posts s time (number j) (get_or (same j) i d ∷ [])))

pub index_more : (ls ls' : List Line) (i : ℕ) → ls' ≡ ls → i < length ls' → i + 1 ≤ length ls
index_more ls ls' i same lt = let lt' : i < length ls = subst (λ l. i < length l) same lt in omega (arith, lt')

-- new senders are senders in order, and have put nothing
pub new_in_order : (inbox : InboxId) (senders : List PutPosts) → AreNewSenders inbox senders → AreInboxSenders inbox senders
new_in_order inbox senders new k d lt = let n = new k d lt in (n.0, n.1)

pub new_put_nothing : (inbox : InboxId) (senders : List PutPosts) → AreNewSenders inbox senders → (k : ℕ) (d : PutPosts) → k < length senders → (slice_index_or senders k d).put ≡ []
new_put_nothing inbox senders new k d lt = (new k d lt).2

-- the senders after each of them put a beginning of what its lines plan
pub puts_begin : (s : Script) (b : Block) (olds news : List PutPosts) → length news ≡ length olds → EachPuts s b olds news → PutBeginnings s b news
puts_begin s b olds news count puts k d lt = (puts k d (let lt' : k < length olds = omega (arith, lt, count) in lt')).put

-- none of those that were taken in is missing
pub taken_in : (senders : List PutPosts) (taken : List (Option (List Post))) → taken ≡ all_put senders → All (λ o. o ≢ None) taken
taken_in senders taken is = subst (All (λ (o : Option (List Post)). o ≢ None)) (sym is) (all_taken senders)

-- ==== what a parcel that comes out tells the admitter

-- where every sender was taken in, what each number put is known
pub known_put : (taken : List (Option (List Post))) → All (λ o. o ≢ None) taken → (p : ℕ) → (posts : List Post) × (put_by taken p ≡ Some posts)
known_put taken all p = dite (dec_lt p (length taken)) (λ lt. has (put_by taken p) (all p (Some []) lt)) (λ not. ([], put_by-beyond taken p (let le : length taken ≤ p = omega arith in le)))
  where
    has : (o : Option (List Post)) → o ≢ None → (posts : List Post) × (o ≡ Some posts)
    has None not_none = absurd (not_none refl)
    has (Some posts) not_none = (posts, refl)

-- where a parcel came out, its sender's part goes on with it
goes_on : (taken : List (Option (List Post))) (g : List Parcel) (x : Parcel) (items : List Parcel) → Accounts (Admits taken (g ++ x ∷ [])) items → (posts : List Post) → put_by taken x.from ≡ Some posts → from_sender x.from g ++ x ∷ from_sender x.from items ≡ parcels_of x.from posts
goes_on taken g x items accounts posts is =
    sym (append_assoc (from_sender x.from g) (x ∷ []) (from_sender x.from items)) ∙ ap (λ l. l ++ from_sender x.from items) (sym (from_sender-own x.from g x refl))
    ∙ sym (filter-append (λ (y : Parcel). y.from == x.from) (g ++ x ∷ []) items) ∙ accounts x.from posts is

-- it is its sender's next one
next_in : (taken : List (Option (List Post))) (g : List Parcel) (x : Parcel) → Foretells (Admits taken (g ++ x ∷ [])) → All (λ o. o ≢ None) taken → (x.index ≡ length (from_sender x.from g)) × ((posts : List Post) → put_by taken x.from ≡ Some posts → slice_get posts x.index ≡ Some x.post)
next_in taken g x told all = (index, λ posts is. ap (slice_get posts) index ∙ (in_its_place x.from 0 posts part x (from_sender x.from told.0) (goes_on taken g x told.0 told.1 posts is)).1)
  where
    part : List Parcel
    part = from_sender x.from g

    index : x.index ≡ length part
    index = let k = known_put taken all x.from in (in_its_place x.from 0 k.0 part x (from_sender x.from told.0) (goes_on taken g x told.0 told.1 k.0 k.1)).0 ∙ (let e : 0 + length part ≡ length part = omega arith in e)

-- so not everything was admitted before
not_all : (taken : List (Option (List Post))) (g : List Parcel) (x : Parcel) → Foretells (Admits taken (g ++ x ∷ [])) → All (λ o. o ≢ None) taken → ((p : ℕ) (posts : List Post) → put_by taken p ≡ Some posts → from_sender p g ≡ parcels_of p posts) → ⊥
not_all taken g x told all done = let k = known_put taken all x.from in not_whole (from_sender x.from g) x (from_sender x.from told.0) (done x.from k.0 k.1 ∙ sym (goes_on taken g x told.0 told.1 k.0 k.1))

-- of each sender what was admitted is a beginning
pub prefixes : (taken : List (Option (List Post))) (g : List Parcel) → Foretells (Admits taken g) → (p : ℕ) (posts : List Post) → put_by taken p ≡ Some posts → IsPrefix (from_sender p g) (parcels_of p posts)
prefixes taken g told p posts is = part_begins p g told.0 (parcels_of p posts) (told.1 p posts is)

-- all of that, of the admitter as contracts see it
pub admission : (a : Admitting) (v w : Known) (g : List Parcel) (x : Parcel) → a.taken ≡ taken_of v → a.admitted ≡ g → v ≡ Admits (taken_of v) g → (w ≡ admits_more v x) × Foretells w → AreAllTakenIn a
    → IsNextOfItsSender a x × ((p : ℕ) (posts : List Post) → put_by (taken_of w) p ≡ Some posts → IsPrefix (from_sender p (g ++ x ∷ [])) (parcels_of p posts)) × (IsAllAdmitted a → ⊥)
admission a v w g x taken admitted is step all = (
  (subst (λ (z : List (Option (List Post)) × List Parcel). (x.index ≡ length (from_sender x.from z.1)) × ((posts : List Post) → put_by z.0 x.from ≡ Some posts → slice_get posts x.index ≡ Some x.post)) (λ i. (sym taken i, sym admitted i)) (next_in t g x told all')),
  (λ p posts known. prefixes t (g ++ x ∷ []) told p posts (ap (λ z. put_by (taken_of z) p) (sym now) ∙ known)),
  λ done. not_all t g x told all' (λ p posts known. ap (from_sender p) (sym admitted) ∙ done p posts (ap (λ l. put_by l p) taken ∙ known)),
)
  where
    t : List (Option (List Post))
    t = taken_of v

    now : w ≡ Admits t (g ++ x ∷ [])
    now = step.0 ∙ ap (λ z. admits_more z x) is

    told : Foretells (Admits t (g ++ x ∷ []))
    told = subst Foretells now step.1

    all' : All (λ o. o ≢ None) t
    all' = subst (All (λ o. o ≢ None)) taken all
