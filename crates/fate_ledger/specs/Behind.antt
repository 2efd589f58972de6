-- What the entries behind a place end: the place of the first of them that ends messages in a given way.
use Rattle.std.specs.Prelude.{ℕ, ◌≡◌, ◌+◌, ◌==◌, Bool, true, false, ◌&&◌, nat_lt, List, [], ◌∷◌, Option, length, cond}
use Rattle.std.specs.Option.{unwrap_or}
use Rattle.std.specs.BTreeMap.{get}
use Rattle.loop_model.specs.declared.post.Post.{Post}
use Rattle.loop_model.specs.Items.{is_of_kind, matches_post}
use Rattle.fate_ledger.specs.declared.ending.Ending.{Ending}
use Rattle.fate_ledger.specs.declared.ending.Ending.TheVariants.{Removal, Dispatch, Everything, SafeQuit, Nothing}
use Rattle.fate_ledger.specs.declared.keys.RemovalKey.{RemovalKey}
use Rattle.fate_ledger.specs.declared.behind.Behind.{Behind}
use Rattle.fate_ledger.specs.Keys.{key_cmp, removal_key, is_same, is_same_name}
use Rattle.fate_ledger.specs.Quits.{first_quit}
use Rattle.fate_ledger.specs.Dispatches.{dispatch_at}

-- a removal that names just this
abbrev pub names : RemovalKey → Ending → Bool
names x (Removal f) = is_same_name x (removal_key f)
names x _ = false

-- a removal that takes the post and names just this object, or just no object
abbrev pub removes_with : Option ℕ → Post → Ending → Bool
removes_with o p (Removal f) = p.handler == f.handler && is_of_kind f.kind p && is_same o f.obj
removes_with o p _ = false

-- a removal that takes the post
abbrev pub removes : Post → Ending → Bool
removes p (Removal f) = matches_post f p
removes p _ = false

-- the dispatch of this number
abbrev pub is_dispatch : ℕ → Ending → Bool
is_dispatch n (Dispatch m) = n == m
is_dispatch n _ = false

-- a disposal, or a quit that isn't safe
abbrev pub is_everything : Ending → Bool
is_everything Everything = true
is_everything _ = false

-- a safe quit before the moment
abbrev pub is_quit_before : ℕ → Ending → Bool
is_quit_before w (SafeQuit now) = nat_lt now w
is_quit_before w _ = false

-- it ends the post of this number
abbrev pub ends_post : ℕ → Post → Ending → Bool
ends_post n p (Removal f) = matches_post f p
ends_post n p (Dispatch m) = n == m
ends_post n p Everything = true
ends_post n p (SafeQuit now) = nat_lt now p.when
ends_post n p Nothing = false

-- the place of the first that passes the test, where the first of all stands at place k; the end where none does
abbrev pub first_at : (Ending → Bool) → ℕ → List Ending → ℕ
first_at p k [] = k
first_at p k (c ∷ cs) = cond (p c) k (first_at p (k + 1) cs)

-- the places that are kept are those of these endings, the first of which stands at place k
pub record Tells (b : Behind) (k : ℕ) (cs : List Ending) : Type 0 where
  pub removals : (x : RemovalKey) → unwrap_or (get key_cmp b.removals x) b.end ≡ first_at (names x) k cs
  pub dispatches : (n : ℕ) → dispatch_at b.dispatches n ≡ first_at (is_dispatch n) k cs
  pub everything : b.everything ≡ first_at is_everything k cs
  pub safe_quits : (w : ℕ) → first_quit w b.end b.safe_quits.list.items ≡ first_at (is_quit_before w) k cs
  pub ended : b.end ≡ k + length cs
