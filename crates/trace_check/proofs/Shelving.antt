-- The shelves keep step with the items.
use Rattle.std.proofs.Common.{◌≡◌, ◌+◌, ◌<◌, ℕ, zero, suc, Bool, true, false, cond, List, [], ◌∷◌, length, get_or, Option, Some, None, refl, sym, ap, subst, ◌∙◌, arith}
use Rattle.std.specs.Prelude.{◌↔◌, IfSome, IsSome, is_some, filter, find, not, slice_get, remove}
use Rattle.std.specs.BTreeMap as tree
use Rattle.std.proofs.lemmas.Map.Views.{All-found}
use Rattle.std.specs.List.{AllByRecursion, list_any}
use Rattle.std.specs.List.Sorted.{IsStrictlySortedBy}
use Rattle.std.specs.Option.{option_map}
use Rattle.std.specs.Map.{keys_of, values_of, lookup, remove_entry}
use Rattle.std.specs.Set.{remove_key}
use Rattle.std.specs.BTreeMap.{insert_entry, is_at}
use Rattle.std.specs.BTreeSet.{insert_key}
use Rattle.std.specs.Ordering.{is_eq}
use Rattle.std.proofs.lemmas.Bool.{false≢true}
use Rattle.std.proofs.lemmas.Option.{same_Some, none-some}
use Rattle.loop_model.specs.declared.item.Item.{Item}
use Rattle.trace_check.specs.declared.label.Shape.{Shape}
use Rattle.trace_check.specs.declared.shelves.Shelves.{Shelves}
use Rattle.trace_check.specs.Labels.{Label, label_of, bears}
use Rattle.loop_model.specs.declared.entry.Entry.{Entry}
use Rattle.loop_model.specs.declared.call.Call.TheVariants.{Next}
use Rattle.loop_model.specs.declared.reply.Reply.TheVariants.{Dispatched}
use Rattle.loop_model.specs.Entries.{ends}
use Rattle.loop_model.specs.Items.{number_of, is_just}
use Rattle.loop_model.specs.Listed.{kept_by}
use Rattle.loop_model.proofs.CallLaws.{kept_by-dispatched_at}
use Rattle.loop_model.proofs.WellFormedLaws.{AreDistinct-from_pairs, All_recursive}
use Rattle.trace_check.specs.declared.items.Items.{Items}
use Rattle.trace_check.specs.declared.shelf.Shelf.{Shelf}
use Rattle.trace_check.specs.Ranks.{AreApart, AreIndexed, IsOneEnded, IsRanked, StandsAtRank, listed}
use Rattle.trace_check.specs.Shelves.{by_rank, keys_passing, ranks_at, ranks_with, ranks_without, shelf_of, AreBare, AreShelved}
use Rattle.trace_check.proofs.Indexed.{put_passing, put_failing, take_passing, take_failing, first_passing, none_passing}
use Rattle.trace_check.proofs.Shelved.{by_rank_total}

abbrev Entries : Type 0
Entries = List ((ℕ × ℕ) × Item)

none_kept : (p : Item → Bool) (o : Option (List (ℕ × ℕ))) → IfSome o (λ ks. ks ≡ []) → IfSome o (λ ks. ks ≡ keys_passing p [])
none_kept p None h = tt
none_kept p (Some ks) h = h

pub none_shelved : (s : Shelves) (es : Entries) → es ≡ [] → AreBare s → AreShelved s es
unfolding AreShelved
none_shelved s es none_ bare = subst (λ fs. AreShelved s fs) (sym none_) (λ shape l. none_kept (bears shape l) (ranks_at (shelf_of shape s) l) (bare shape l))

put_kept : (p : Item → Bool) (rank : ℕ × ℕ) (x : Item) (es : Entries) (o : Option (List (ℕ × ℕ))) → IsStrictlySortedBy by_rank (keys_of es) → AllByRecursion (λ e. is_eq (by_rank rank e.0) ≡ false) es → IfSome o (λ ks. ks ≡ keys_passing p es)
    → IfSome (cond (p x) (option_map (λ ks. insert_key by_rank ks rank) o) o) (λ ks. ks ≡ keys_passing p (insert_entry by_rank es rank x))
put_kept p rank x es None sorted apart h = by (p x) refl
  where
    by : (b : Bool) → p x ≡ b → IfSome (cond (p x) (option_map (λ ks. insert_key by_rank ks rank) None) None) (λ ks. ks ≡ keys_passing p (insert_entry by_rank es rank x))
    by true e = rw e tt
    by false e = rw e tt
put_kept p rank x es (Some ks) sorted apart h = by (p x) refl
  where
    by : (b : Bool) → p x ≡ b → IfSome (cond (p x) (option_map (λ js. insert_key by_rank js rank) (Some ks)) (Some ks)) (λ js. js ≡ keys_passing p (insert_entry by_rank es rank x))
    by true e = rw e (ap (λ js. insert_key by_rank js rank) h ∙ put_passing by_rank_total p rank x es sorted apart e)
    by false e = rw e (h ∙ put_failing by_rank p rank x es apart e)

pub put_shelved : (s t : Shelves) (rank : ℕ × ℕ) (x : Item) (es fs : Entries) → IsStrictlySortedBy by_rank (keys_of es) → AllByRecursion (λ e. is_eq (by_rank rank e.0) ≡ false) es → fs ≡ insert_entry by_rank es rank x
    → ((shape : Shape) (l : Label) → ranks_at (shelf_of shape t) l ≡ ranks_with (label_of shape x) rank l (ranks_at (shelf_of shape s) l)) → AreShelved s es → AreShelved t fs
unfolding AreShelved
put_shelved s t rank x es fs sorted apart made moved kept =
    subst (λ gs. AreShelved t gs) (sym made)
    (λ shape l. subst (λ o. IfSome o (λ ks. ks ≡ keys_passing (bears shape l) (insert_entry by_rank es rank x))) (sym (moved shape l)) (put_kept (bears shape l) rank x es (ranks_at (shelf_of shape s) l) sorted apart (kept shape l)))

taken_kept : (p : Item → Bool) (rank : ℕ × ℕ) (x : Item) (es : Entries) (o : Option (List (ℕ × ℕ))) → lookup (is_at (by_rank rank)) es ≡ Some x → IfSome o (λ ks. ks ≡ keys_passing p es)
    → IfSome (cond (p x) (option_map (remove_key (is_at (by_rank rank))) o) o) (λ ks. ks ≡ keys_passing p (remove_entry (is_at (by_rank rank)) es))
taken_kept p rank x es None known h = by (p x) refl
  where
    by : (b : Bool) → p x ≡ b → IfSome (cond (p x) (option_map (remove_key (is_at (by_rank rank))) None) None) (λ ks. ks ≡ keys_passing p (remove_entry (is_at (by_rank rank)) es))
    by true e = rw e tt
    by false e = rw e tt
taken_kept p rank x es (Some ks) known h = by (p x) refl
  where
    by : (b : Bool) → p x ≡ b → IfSome (cond (p x) (option_map (remove_key (is_at (by_rank rank))) (Some ks)) (Some ks)) (λ js. js ≡ keys_passing p (remove_entry (is_at (by_rank rank)) es))
    by true e = rw e (ap (remove_key (is_at (by_rank rank))) h ∙ take_passing (is_at (by_rank rank)) p x es known e)
    by false e = rw e (h ∙ take_failing (is_at (by_rank rank)) p x es known e)

pub taken_shelved : (s t : Shelves) (rank : ℕ × ℕ) (x : Item) (es fs : Entries) → lookup (is_at (by_rank rank)) es ≡ Some x → fs ≡ remove_entry (is_at (by_rank rank)) es
    → ((shape : Shape) (l : Label) → ranks_at (shelf_of shape t) l ≡ ranks_without (label_of shape x) rank l (ranks_at (shelf_of shape s) l)) → AreShelved s es → AreShelved t fs
unfolding AreShelved
taken_shelved s t rank x es fs known made moved kept =
    subst (λ gs. AreShelved t gs) (sym made)
    (λ shape l. subst (λ o. IfSome o (λ ks. ks ≡ keys_passing (bears shape l) (remove_entry (is_at (by_rank rank)) es))) (sym (moved shape l)) (taken_kept (bears shape l) rank x es (ranks_at (shelf_of shape s) l) known (kept shape l)))

-- what is kept for a label, where it was named
pub shelved_at : (s : Shelves) (es : Entries) (shape : Shape) (l : Label) (ks : List (ℕ × ℕ)) → AreShelved s es → Some ks ≡ ranks_at (shelf_of shape s) l → ks ≡ keys_passing (bears shape l) es
unfolding AreShelved
shelved_at s es shape l ks kept is = subst (λ o. IfSome o (λ js. js ≡ keys_passing (bears shape l) es)) (sym is) (kept shape l)

-- tests that agree pass the same
pub passing_same : (p q : Item → Bool) → ((x : Item) → p x ≡ q x) → (es : Entries) → keys_passing p es ≡ keys_passing q es
passing_same p q same [] = refl
passing_same p q same (e ∷ es) = by (passing_same p q same es) (q e.1) refl
  where
    by : keys_passing p es ≡ keys_passing q es → (b : Bool) → q e.1 ≡ b → keys_passing p (e ∷ es) ≡ keys_passing q (e ∷ es)
    by rest true h = let g : p e.1 ≡ true = same e.1 ∙ h in rw (g, h) (ap (λ ks. e.0 ∷ ks) rest)
    by rest false h = let g : p e.1 ≡ false = same e.1 ∙ h in rw (g, h) rest

-- the ranks that are kept for a label are those of the items that pass a test which agrees with it
pub named_passing : (s : Items) (f : Shelf) (shape : Shape) (l : Label) (ks : List (ℕ × ℕ)) (p : Item → Bool) → AreIndexed s → f ≡ shelf_of shape s.shelves → Some ks ≡ ranks_at f l → ((x : Item) → bears shape l x ≡ p x)
    → ks ≡ keys_passing p s.by_rank.entries
named_passing s f shape l ks p indexed is found same =
    shelved_at s.shelves s.by_rank.entries shape l ks indexed.shelved (found ∙ ap (λ g. ranks_at g l) is) ∙ passing_same (bears shape l) p same s.by_rank.entries

pub any_found : (p : Item → Bool) (xs : List Item) → list_any p xs ≡ is_some (find p xs)
any_found p [] = refl
any_found p (x ∷ xs) = by (any_found p xs) (p x) refl
  where
    by : list_any p xs ≡ is_some (find p xs) → (b : Bool) → p x ≡ b → list_any p (x ∷ xs) ≡ is_some (find p (x ∷ xs))
    by rest true h = rw h refl
    by rest false h = rw h rest

-- ---- a look at each item

pub find_values : (p : Item → Bool) (es : Entries) → option_map (λ e. e.1) (find (λ e. p e.1) es) ≡ find p (values_of es)
find_values p [] = refl
find_values p (e ∷ es) = by (find_values p es) (p e.1) refl
  where
    by : option_map (λ d. d.1) (find (λ d. p d.1) es) ≡ find p (values_of es) → (b : Bool) → p e.1 ≡ b → option_map (λ d. d.1) (find (λ d. p d.1) (e ∷ es)) ≡ find p (values_of (e ∷ es))
    by rest true h = rw h refl
    by rest false h = rw h rest

find_passes : (p : Item → Bool) (xs : List Item) (x : Item) → find p xs ≡ Some x → p x ≡ true
find_passes p [] x h = absurd (none-some x h)
find_passes p (y ∷ xs) x h = by (λ there. find_passes p xs x there) (p y) refl
  where
    by : (find p xs ≡ Some x → p x ≡ true) → (b : Bool) → p y ≡ b → p x ≡ true
    by rest true e = let here : Some y ≡ Some x = sym (rw e refl) ∙ h in sym (ap p (same_Some y x here)) ∙ e
    by rest false e = let there : find p xs ≡ Some x = sym (rw e refl) ∙ h in rest there

found_in : (Q : (ℕ × ℕ) × Item → Type 0) (p : Item → Bool) (es : Entries) (e : (ℕ × ℕ) × Item) → AllByRecursion Q es → find (λ d. p d.1) es ≡ Some e → Q e
found_in Q p [] e all h = absurd (none-some e h)
found_in Q p (d ∷ es) e all h = by (λ there. found_in Q p es e all.1 there) (p d.1) refl
  where
    by : (find (λ c. p c.1) es ≡ Some e → Q e) → (b : Bool) → p d.1 ≡ b → Q e
    by rest true t = let here : Some d ≡ Some e = sym (rw t refl) ∙ h in subst Q (same_Some d e here) all.0
    by rest false t = let there : find (λ c. p c.1) es ≡ Some e = sym (rw t refl) ∙ h in rest there

-- what is found stands there
pub known_found : (s : Items) (p : Item → Bool) (o : Option ((ℕ × ℕ) × Item)) → AreIndexed s → o ≡ find (λ e. p e.1) s.by_rank.entries → IfSome o (StandsAtRank s)
known_found s p None indexed h = tt
known_found s p (Some e) indexed h = found_in (StandsAtRank s) p s.by_rank.entries e (All_recursive (StandsAtRank s) s.by_rank.entries (All-found by_rank_total s.by_rank indexed.ordered)) (sym h)

-- one that is found by the test is one that the entry ends
pub one_from : (s : Items) (e : Entry) (o : Option ((ℕ × ℕ) × Item)) → option_map (λ r. r.1) o ≡ find (ends e) (listed s) → IfSome o (StandsAtRank s) → IsOneEnded s e o
one_from s e None found known = sym found
one_from s e (Some r) found known = (known, find_passes (ends e) (listed s) r.1 (sym found))

-- ---- the first of the ranks

no_first : {A : Type 0} (r : Option A) (ks : List (ℕ × ℕ)) → IsSome r ↔ 0 < length ks → r ≡ None → slice_get ks 0 ≡ None
no_first r [] variant is = refl
no_first r (k ∷ ks) variant is = let some = variant.1 (omega arith) in absurd (false≢true (sym (ap is_some is) ∙ some))

pub first_on_none : {A : Type 0} (s : Items) (p : Item → Bool) (r : Option A) (ks : List (ℕ × ℕ)) → IsSome r ↔ 0 < length ks → r ≡ None → ks ≡ keys_passing p s.by_rank.entries → None ≡ find p (listed s)
first_on_none s p r ks variant is all = sym (none_passing p s.by_rank.entries (subst (λ js. slice_get js 0 ≡ None) all (no_first r ks variant is)))

pub first_on_some : (s : Items) (p : Item → Bool) (k : ℕ × ℕ) (ks : List (ℕ × ℕ)) (o : Option Item) → AreIndexed s → slice_get ks 0 ≡ Some k → o ≡ tree.get by_rank s.by_rank k → ks ≡ keys_passing p s.by_rank.entries → o ≡ find p (listed s)
first_on_some s p k ks o indexed first is all = is ∙ first_passing by_rank_total p k s.by_rank.entries indexed.ordered (subst (λ js. slice_get js 0 ≡ Some k) all first)

-- ---- what is taken out

pub removed_ranked : (n : ℕ) (test : ℕ × ℕ → Bool) (es : Entries) → AllByRecursion (IsRanked n) es → AllByRecursion (IsRanked n) (remove_entry test es)
removed_ranked n test [] r = tt
removed_ranked n test (e ∷ es) r = by (removed_ranked n test es r.1) (test e.0) refl
  where
    by : AllByRecursion (IsRanked n) (remove_entry test es) → (b : Bool) → test e.0 ≡ b → AllByRecursion (IsRanked n) (remove_entry test (e ∷ es))
    by rest true h = rw h (r.1)
    by rest false h = rw h (r.0, rest)

pub removed_less : (test : ℕ × ℕ → Bool) (es : Entries) (x : Item) → lookup test es ≡ Some x → length (remove_entry test es) + 1 ≡ length es
removed_less test [] x h = absurd (none-some x h)
removed_less test (e ∷ es) x h = by (λ there. removed_less test es x there) (test e.0) refl
  where
    by : (lookup test es ≡ Some x → length (remove_entry test es) + 1 ≡ length es) → (b : Bool) → test e.0 ≡ b → length (remove_entry test (e ∷ es)) + 1 ≡ length (e ∷ es)
    by rest true t = rw t (omega arith)
    by rest false t = let there : lookup test es ≡ Some x = sym (rw t refl) ∙ h in let less = rest there in rw t (omega (arith, less))

hit_gone : (test : ℕ × ℕ → Bool) (e : (ℕ × ℕ) × Item) (es : Entries) → test e.0 ≡ true → values_of (remove_entry test (e ∷ es)) ≡ values_of es
hit_gone test e es t = rw t refl

miss_stays : (test : ℕ × ℕ → Bool) (e : (ℕ × ℕ) × Item) (es : Entries) → test e.0 ≡ false → values_of (remove_entry test (e ∷ es)) ≡ e.1 ∷ values_of (remove_entry test es)
miss_stays test e es t = rw t refl

-- the place of what is taken out
taken_at : (test : ℕ × ℕ → Bool) (es : Entries) (x : Item) → lookup test es ≡ Some x → (i : ℕ) × (i < length (values_of es)) × (get_or (values_of es) i x ≡ x) × (values_of (remove_entry test es) ≡ remove (values_of es) i)
taken_at test [] x h = absurd (none-some x h)
taken_at test (e ∷ es) x h = by (λ there. taken_at test es x there) (test e.0) refl
  where
    by : (lookup test es ≡ Some x → (i : ℕ) × (i < length (values_of es)) × (get_or (values_of es) i x ≡ x) × (values_of (remove_entry test es) ≡ remove (values_of es) i)) → (b : Bool) → test e.0 ≡ b
        → (i : ℕ) × (i < length (values_of (e ∷ es))) × (get_or (values_of (e ∷ es)) i x ≡ x) × (values_of (remove_entry test (e ∷ es)) ≡ remove (values_of (e ∷ es)) i)
    by rest true t = let here : Some e.1 ≡ Some x = sym (rw t refl) ∙ h in (zero, omega arith, same_Some e.1 x here, hit_gone test e es t)
    by rest false t =
        let there : lookup test es ≡ Some x = sym (rw t refl) ∙ h in
        let r = rest there in (suc r.0, omega (arith, r.1), r.2, miss_stays test e es t ∙ ap (λ q. e.1 ∷ q) r.3)

pub one_dispatched : (e : Entry) (now n : ℕ) (test : ℕ × ℕ → Bool) (x : Item) (es fs : Entries) → e.call ≡ Next now → e.reply ≡ Dispatched n → lookup test es ≡ Some x → fs ≡ remove_entry test es → is_just (number_of x) n ≡ true → AreApart (values_of es)
    → values_of fs ≡ kept_by e.call e.reply (values_of es)
one_dispatched e now n test x es fs call reply known made is apart =
    let at = taken_at test es x known in
    ap values_of made ∙ at.3
    ∙ sym (ap (λ c. kept_by c e.reply (values_of es)) call ∙ ap (λ r. kept_by (Next now) r (values_of es)) reply
    ∙ kept_by-dispatched_at now n (values_of es) at.0 x (AreDistinct-from_pairs (values_of es) apart) at.1 (subst (λ y. is_just (number_of y) n ≡ true) (sym at.2) is))

-- nothing is ended
pub all_kept : (p : Item → Bool) → ((x : Item) → p x ≡ false) → (xs : List Item) → filter (λ x. not (p x)) xs ≡ xs
all_kept p none_ [] = refl
all_kept p none_ (x ∷ xs) = rw (none_ x) (ap (λ q. x ∷ q) (all_kept p none_ xs))
