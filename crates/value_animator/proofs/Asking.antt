-- Things that are asked one after the other.
use Rattle.std.proofs.Common.{◌≡◌, ℕ, ◌+◌, ◌<◌, List, [], ◌∷◌, ◌++◌, length, ap, arith, sym, ◌∙◌, map, take, drop, get_or, append_assoc, length-append, length-drop}
use Rattle.std.specs.List.{flat_map, enumerate_from}
use Rattle.std.proofs.Math.ListN.{set}
use Rattle.std.proofs.Math.Seq.{get_or-append_seam, set-append_seam}
use Rattle.std.proofs.lemmas.List.{take_more, drop_more, length-take, length-take-le, map-append, length-map, append-nil}
use Rattle.std.proofs.lemmas.List.FromFn.{get_or-enumerate_from, length-enumerate_from}
use Rattle.std.proofs.lemmas.Grind.{flat_map-append}

pub as_many : {T R : Type 0} (f g : T → R) (list : List T) (things : List R) (i : ℕ) → i < length things → things ≡ map g (take i list) ++ map f (drop i list)
    → i < length list
as_many f g list things i lt e =
    let n : length things ≡ length (map g (take i list)) + length (map f (drop i list)) = ap length e ∙ length-append (map g (take i list)) (map f (drop i list)) in
    omega (arith, length-map (take i list) g, length-map (drop i list) f, length-take i list, length-drop i list)

-- the things around a place
around : {T R : Type 0} (f g : T → R) (list : List T) (things : List R) (i : ℕ) (d : T) → i < length things → things ≡ map g (take i list) ++ map f (drop i list)
    → things ≡ map g (take i list) ++ f (get_or list i d) ∷ map f (drop (i + 1) list)
around f g list things i d lt e = e ∙ ap (λ l. map g (take i list) ++ map f l) (drop_more list i d (as_many f g list things i lt e))

front_is : {T R : Type 0} (f g : T → R) (list : List T) (things : List R) (i : ℕ) → i < length things → things ≡ map g (take i list) ++ map f (drop i list)
    → length (map g (take i list)) ≡ i
front_is f g list things i lt e =
    let within : i < length list = as_many f g list things i lt e in
    length-map (take i list) g ∙ length-take-le i list (omega arith)

-- the one at the place
pub asked_at : {T R : Type 0} (f g : T → R) (list : List T) (things : List R) (i : ℕ) (d : T) (r : R) → i < length things → things ≡ map g (take i list) ++ map f (drop i list)
    → get_or things i r ≡ f (get_or list i d)
asked_at f g list things i d r lt e =
    ap (λ n. get_or things n r) (sym (front_is f g list things i lt e))
    ∙ (ap (λ l. get_or l (length (map g (take i list))) r) (around f g list things i d lt e)
    ∙ get_or-append_seam (map g (take i list)) (f (get_or list i d)) (map f (drop (i + 1) list)) r)

-- when it was asked
pub asked_more : {T R : Type 0} (f g : T → R) (list : List T) (things : List R) (i : ℕ) (d : T) (r : R) → i < length things → things ≡ map g (take i list) ++ map f (drop i list)
    → r ≡ g (get_or list i d) → set things i r ≡ map g (take (i + 1) list) ++ map f (drop (i + 1) list)
asked_more f g list things i d r lt e is =
    let within : i < length list = as_many f g list things i lt e in
    let front : map g (take (i + 1) list) ≡ map g (take i list) ++ g (get_or list i d) ∷ [] =
    ap (map g) (take_more list i d within) ∙ map-append g (take i list) (get_or list i d ∷ []) in
    ap (λ n. set things n r) (sym (front_is f g list things i lt e))
    ∙ (ap (λ l. set l (length (map g (take i list))) r) (around f g list things i d lt e)
    ∙ (set-append_seam (map g (take i list)) (f (get_or list i d)) (map f (drop (i + 1) list)) r
    ∙ (ap (λ x. map g (take i list) ++ x ∷ map f (drop (i + 1) list)) is
    ∙ (sym (append_assoc (map g (take i list)) (g (get_or list i d) ∷ []) (map f (drop (i + 1) list)))
    ∙ ap (λ l. l ++ map f (drop (i + 1) list)) (sym front)))))

-- what was written with one more
pub written_one : {T L : Type 0} (h : ℕ × T → List L) (text : L → List ℕ) (list : List T) (i : ℕ) (d : T) (old now new : List ℕ) → i < length list
    → now ≡ old ++ flat_map text (flat_map h (take i (enumerate_from 0 list)))
    → new ≡ now ++ flat_map text (h (i, get_or list i d)) → new ≡ old ++ flat_map text (flat_map h (take (i + 1) (enumerate_from 0 list)))
written_one {T} h text list i d old now new lt so_far more =
    let start : ◌≡◌ {A = ℕ} (0 + i) i = omega arith in
    let within : i < length (enumerate_from 0 list) = omega (arith, length-enumerate_from 0 list) in
    let here : get_or (enumerate_from 0 list) i (0, d) ≡ (i, get_or list i d) =
    get_or-enumerate_from 0 list i (0, d) lt ∙ ap (λ n. (n, get_or list i d)) start in
    let front : take (i + 1) (enumerate_from 0 list) ≡ take i (enumerate_from 0 list) ++ (i, get_or list i d) ∷ [] =
    take_more (enumerate_from 0 list) i (0, d) within ∙ ap (λ x. take i (enumerate_from 0 list) ++ x ∷ []) here in
    let lines : flat_map h (take (i + 1) (enumerate_from 0 list)) ≡ flat_map h (take i (enumerate_from 0 list)) ++ h (i, get_or list i d) =
    ap (flat_map h) front ∙ (flat_map-append h (take i (enumerate_from 0 list)) ((i, get_or list i d) ∷ [])
    ∙ ap (λ l. flat_map h (take i (enumerate_from 0 list)) ++ l) (append-nil (h (i, get_or list i d)))) in
    more
    ∙ (ap (λ l. l ++ flat_map text (h (i, get_or list i d))) so_far
    ∙ (append_assoc old (flat_map text (flat_map h (take i (enumerate_from 0 list)))) (flat_map text (h (i, get_or list i d)))
    ∙ ap (λ l. old ++ l) (sym (ap (flat_map text) lines ∙ flat_map-append text (flat_map h (take i (enumerate_from 0 list))) (h (i, get_or list i d))))))
