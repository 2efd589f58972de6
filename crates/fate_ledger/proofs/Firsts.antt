-- The place of the first of some endings that passes a test.
use Rattle.std.proofs.Common.{◌≡◌, ◌≤◌, ◌+◌, ℕ, Bool, true, false, cond, List, [], ◌∷◌, ◌++◌, length, Option, Some, None, refl, sym, ap, ◌∙◌, subst, arith, min, append_assoc, length-append}
use Rattle.std.specs.Prelude.{◌==◌, ◌&&◌, ◌||◌, find, slice_get, map}
use Rattle.std.specs.Option.{unwrap_or, option_cmp, is_some}
use Rattle.std.specs.Ordering.{nat_cmp, is_eq, ordering_then}
use Rattle.std.specs.declared.cmp.Ordering.{Ordering}
use Rattle.std.specs.declared.cmp.Ordering.TheVariants.{Less, Equal, Greater}
use Rattle.std.proofs.lemmas.Option.{slice_get_past}
use Rattle.std.proofs.lemmas.Bool.Decides.{nat_tests}
use Rattle.loop_model.specs.declared.post.Post.{Post}
use Rattle.loop_model.specs.declared.post.Kind.{Kind}
use Rattle.loop_model.specs.declared.post.Kind.TheVariants.{What, Callback, All as AnyKind}
use Rattle.loop_model.specs.Items.{is_just, is_of_kind, has_object}
use Rattle.fate_ledger.specs.declared.ending.Ending.{Ending}
use Rattle.fate_ledger.specs.declared.ending.Ending.TheVariants.{Removal, Dispatch, Everything, SafeQuit, Nothing}
use Rattle.fate_ledger.specs.declared.keys.RemovalKey.{RemovalKey}
use Rattle.fate_ledger.specs.Keys.{key_cmp, removal_key, is_same, is_same_name}
use Rattle.fate_ledger.specs.Behind.{names, removes_with, removes, is_dispatch, is_everything, is_quit_before, ends_post, first_at}

first_past : (p : Ending → Bool) (k : ℕ) (cs : List Ending) → k ≤ first_at p k cs
first_past p k [] = omega arith
first_past p k (c ∷ cs) = go (p c) (first_past p (k + 1) cs)
  where
    go : (t : Bool) → k + 1 ≤ first_at p (k + 1) cs → k ≤ cond t k (first_at p (k + 1) cs)
    go true h = omega arith
    go false h = omega (arith, h)

-- the earlier of two firsts is the first that passes either test
pub first_either : (p q r : Ending → Bool) → ((c : Ending) → r c ≡ (p c || q c)) → (k : ℕ) (cs : List Ending) → min (first_at p k cs) (first_at q k cs) ≡ first_at r k cs
first_either p q r either k [] = omega arith
first_either p q r either k (c ∷ cs) = rw (either c) (go (p c) (q c) (first_either p q r either (k + 1) cs))
  where
    go : (s t : Bool) → min (first_at p (k + 1) cs) (first_at q (k + 1) cs) ≡ first_at r (k + 1) cs → min (cond s k (first_at p (k + 1) cs)) (cond t k (first_at q (k + 1) cs)) ≡ cond (s || t) k (first_at r (k + 1) cs)
    go true true h = omega arith
    go true false h = omega (arith, first_past q (k + 1) cs)
    go false true h = omega (arith, first_past p (k + 1) cs)
    go false false h = h

pub first_same : (p q : Ending → Bool) → ((c : Ending) → q c ≡ p c) → (k : ℕ) (cs : List Ending) → first_at p k cs ≡ first_at q k cs
first_same p q same k [] = refl
first_same p q same k (c ∷ cs) = rw (same c, first_same p q same (k + 1) cs) refl

-- keys that the order holds for equal name the same
nat_equal : (x y : ℕ) → is_eq (nat_cmp x y) ≡ (y == x)
nat_equal x y = grind (arith, nat_tests)

option_equal : (x y : Option ℕ) → is_eq (option_cmp nat_cmp x y) ≡ is_same y x
option_equal None None = refl
option_equal None (Some y) = refl
option_equal (Some x) None = refl
option_equal (Some x) (Some y) = nat_equal x y

then_equal : (o p : Ordering) → is_eq (ordering_then o p) ≡ (is_eq o && is_eq p)
then_equal Less p = refl
then_equal Equal p = refl
then_equal Greater p = refl

pub key_equal : (x y : RemovalKey) → is_eq (key_cmp x y) ≡ is_same_name y x
key_equal x y =
    let h = nat_cmp x.handler y.handler in
    let w = option_cmp nat_cmp x.what y.what in
    let c = option_cmp nat_cmp x.callback y.callback in
    let o = option_cmp nat_cmp x.obj y.obj in
    then_equal h (ordering_then w (ordering_then c o)) ∙ (ap (λ t. is_eq h && t) (then_equal w (ordering_then c o) ∙ ap (λ t. is_eq w && t) (then_equal c o)) ∙ turn (is_eq h) (y.handler == x.handler) (is_eq w) (is_same y.what x.what) (is_eq c) (is_same y.callback x.callback) (is_eq o) (is_same y.obj x.obj) (nat_equal x.handler y.handler) (option_equal x.what y.what) (option_equal x.callback y.callback) (option_equal x.obj y.obj))
  where
    turn : (a a' b b' c c' d d' : Bool) → a ≡ a' → b ≡ b' → c ≡ c' → d ≡ d' → (a && (b && (c && d))) ≡ (a' && b' && c' && d')
    turn a a' b b' c c' d d' e f g h = rw (e, f, g, h) (grind arith)

-- a place that is written to a map is the place at its key
pub written_place : (t s : Bool) (k d : ℕ) (o : Option ℕ) (n : ℕ) → t ≡ s → unwrap_or o d ≡ n → unwrap_or (cond t (Some k) o) d ≡ cond s k n
written_place true s k d o n same was = rw (sym same) refl
written_place false s k d o n same was = rw (sym same) was

-- the filters that take a post: with its what, its callback or neither ..
abbrev key_with : Post → Option ℕ → Option ℕ → Option ℕ → RemovalKey
key_with p w c o = record { handler = p.handler; what = w; callback = c; obj = o }

abbrev plainly : Post → Option ℕ → Ending → Bool
plainly p o c = names (key_with p None None o) c || names (key_with p (Some p.what) None o) c

pub with_what : (p : Post) (o : Option ℕ) → is_some p.callback ≡ false → (c : Ending) → removes_with o p c ≡ plainly p o c
with_what p o none (Removal f) = go f.kind
  where
    none_is : (o : Option ℕ) → is_some o ≡ false → o ≡ None
    none_is None h = refl
    none_is (Some y) h = absurd cc

    go : (k : Kind) → (p.handler == f.handler && is_of_kind k p && is_same o f.obj) ≡ (is_same_name (key_with p None None o) (removal_key (record { handler = f.handler; kind = k; obj = f.obj })) || is_same_name (key_with p (Some p.what) None o) (removal_key (record { handler = f.handler; kind = k; obj = f.obj })))
    go (What w) = grind arith
    go (Callback c) = rw (none_is p.callback none) (grind arith)
    go AnyKind = grind arith
with_what p o none (Dispatch m) = refl
with_what p o none Everything = refl
with_what p o none (SafeQuit now) = refl
with_what p o none Nothing = refl

some_is : (o : Option ℕ) → is_some o ≡ true → o ≡ Some (unwrap_or o 0)
some_is None h = absurd cc
some_is (Some y) h = refl

abbrev also_called : Post → Option ℕ → Ending → Bool
also_called p o c = plainly p o c || names (key_with p None p.callback o) c

with_callback : (p : Post) (o : Option ℕ) → is_some p.callback ≡ true → (c : Ending) → removes_with o p c ≡ also_called p o c
with_callback p o some (Removal f) = go f.kind p.callback (some_is p.callback some)
  where
    go : (k : Kind) (b : Option ℕ) → b ≡ Some (unwrap_or b 0) → (p.handler == f.handler && is_of_kind k (record { handler = p.handler; what = p.what; arg = p.arg; obj = p.obj; callback = b; when = p.when; asynchronous = p.asynchronous; slot = p.slot }) && is_same o f.obj) ≡ ((is_same_name (key_with p None None o) (removal_key (record { handler = f.handler; kind = k; obj = f.obj })) || is_same_name (key_with p (Some p.what) None o) (removal_key (record { handler = f.handler; kind = k; obj = f.obj }))) || is_same_name (key_with p None b o) (removal_key (record { handler = f.handler; kind = k; obj = f.obj })))
    go k None h = absurd cc
    go (What w) (Some y) h = grind arith
    go (Callback c) (Some y) h = grind arith
    go AnyKind (Some y) h = grind arith
with_callback p o some (Dispatch m) = refl
with_callback p o some Everything = refl
with_callback p o some (SafeQuit now) = refl
with_callback p o some Nothing = refl

pub first_plainly : (p : Post) (o : Option ℕ) → is_some p.callback ≡ false → (k : ℕ) (cs : List Ending) → min (first_at (names (key_with p None None o)) k cs) (first_at (names (key_with p (Some p.what) None o)) k cs) ≡ first_at (removes_with o p) k cs
first_plainly p o none k cs = first_either (names (key_with p None None o)) (names (key_with p (Some p.what) None o)) (removes_with o p) (with_what p o none) k cs

pub first_called : (p : Post) (o : Option ℕ) → is_some p.callback ≡ true → (k : ℕ) (cs : List Ending) → min (min (first_at (names (key_with p None None o)) k cs) (first_at (names (key_with p (Some p.what) None o)) k cs)) (first_at (names (key_with p None p.callback o)) k cs) ≡ first_at (removes_with o p) k cs
first_called p o some k cs =
    let plain = first_either (names (key_with p None None o)) (names (key_with p (Some p.what) None o)) (plainly p o) (λ c. refl) k cs in
    rw plain (first_either (plainly p o) (names (key_with p None p.callback o)) (removes_with o p) (with_callback p o some) k cs)

-- .. and with its object or none
with_object : (p : Post) (c : Ending) → removes p c ≡ (removes_with None p c || removes_with p.obj p c)
with_object p (Removal f) = go f.obj
  where
    just : (b : Option ℕ) (z : ℕ) → is_just b z ≡ is_same b (Some z)
    just None z = refl
    just (Some y) z = refl

    go : (o : Option ℕ) → (p.handler == f.handler && is_of_kind f.kind p && has_object o p) ≡ ((p.handler == f.handler && is_of_kind f.kind p && is_same None o) || (p.handler == f.handler && is_of_kind f.kind p && is_same p.obj o))
    go None = grind arith
    go (Some z) = rw (just p.obj z) (grind arith)
with_object p (Dispatch m) = refl
with_object p Everything = refl
with_object p (SafeQuit now) = refl
with_object p Nothing = refl

pub first_removal : (p : Post) (k : ℕ) (cs : List Ending) → min (first_at (removes_with None p) k cs) (first_at (removes_with p.obj p) k cs) ≡ first_at (removes p) k cs
first_removal p k cs = first_either (removes_with None p) (removes_with p.obj p) (removes p) (with_object p) k cs

abbrev one_by : ℕ → Post → Ending → Bool
one_by n p c = removes p c || is_dispatch n c

abbrev many_by : Post → Ending → Bool
many_by p c = is_everything c || is_quit_before p.when c

ends_by_either : (n : ℕ) (p : Post) (c : Ending) → ends_post n p c ≡ (one_by n p c || many_by p c)
ends_by_either n p (Removal f) = grind arith
ends_by_either n p (Dispatch m) = grind arith
ends_by_either n p Everything = refl
ends_by_either n p (SafeQuit now) = refl
ends_by_either n p Nothing = refl

-- the earliest of the four firsts is that of the first ending that ends the post
pub first_of_four : (n : ℕ) (p : Post) (k : ℕ) (cs : List Ending) → min (min (first_at (removes p) k cs) (first_at (is_dispatch n) k cs)) (min (first_at is_everything k cs) (first_at (is_quit_before p.when) k cs)) ≡ first_at (ends_post n p) k cs
first_of_four n p k cs =
    let one = first_either (removes p) (is_dispatch n) (one_by n p) (λ c. refl) k cs in
    let many = first_either is_everything (is_quit_before p.when) (many_by p) (λ c. refl) k cs in
    rw (one, many) (first_either (one_by n p) (many_by p) (ends_post n p) (ends_by_either n p) k cs)

at_seam : {E : Type 0} (front : List E) (e : E) (es : List E) → slice_get (front ++ e ∷ es) (length front) ≡ Some e
at_seam [] e es = refl
at_seam (x ∷ front) e es = at_seam front e es

-- the entry at that place is the first that ends the post
pub first_found : {E : Type 0} (p : Ending → Bool) (f : E → Ending) (test : E → Bool) → ((e : E) → test e ≡ p (f e)) → (front es : List E) → slice_get (front ++ es) (first_at p (length front) (map f es)) ≡ find test es
first_found p f test same front [] = slice_get_past (front ++ []) (length front) (omega (arith, length-append front []))
first_found {E} p f test same front (e ∷ es) = go (p (f e)) (same e) (first_found p f test same (front ++ e ∷ []) es)
  where
    go : (t : Bool) → test e ≡ t → slice_get ((front ++ e ∷ []) ++ es) (first_at p (length (front ++ e ∷ [])) (map f es)) ≡ find test es → slice_get (front ++ e ∷ es) (cond t (length front) (first_at p (length front + 1) (map f es))) ≡ find test (e ∷ es)
    go true h rest = rw h (at_seam front e es)
    go false h rest =
        let l : length (front ++ e ∷ []) ≡ length front + 1 = length-append front (e ∷ []) in
        rw h (subst (λ n. slice_get (front ++ e ∷ es) (first_at p n (map f es)) ≡ find test es) l (subst (λ x. slice_get x (first_at p (length (front ++ e ∷ [])) (map f es)) ≡ find test es) (append_assoc front (e ∷ []) es) rest))
