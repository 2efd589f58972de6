-- A ledger that goes through a history from its last entry to its first.
use Rattle.std.specs.Prelude.{ℕ, ◌≡◌, ◌+◌, List, [], ◌∷◌, ◌++◌, Option, Some, None, find, map, drop, reverse, sum_by}
use Rattle.loop_model.specs.declared.post.Post.{Post as PostData}
use Rattle.loop_model.specs.declared.entry.Entry.{Entry}
use Rattle.loop_model.specs.declared.fate.Fate.{Fate}
use Rattle.loop_model.specs.declared.item.Item.TheVariants.{Post as Message}
use Rattle.loop_model.specs.Entries.{posts_in, ends}
use Rattle.loop_model.specs.Fates.{fate_of}
use Rattle.loop_model.specs.Posts.{accepted_by}
use Rattle.fate_ledger.specs.declared.ledger.Ledger.{Ledger}
use Rattle.fate_ledger.specs.declared.ending.Ending.{Ending}
use Rattle.fate_ledger.specs.Endings.{ending_of}
use Rattle.fate_ledger.specs.Quits.{AreQuitsRising}
use Rattle.fate_ledger.specs.Behind.{Tells}

-- how many messages the entries post
abbrev pub posts_of : List Entry → ℕ
posts_of es = sum_by (λ e. posts_in e.call e.reply) es

-- what each entry ends
abbrev pub endings_of : List Entry → List Ending
endings_of es = map (λ (e : Entry). ending_of e.call e.reply) es

-- the fate of a post, by the entries behind it
abbrev pub posted_fate : ℕ → Option PostData → List Entry → List Fate
posted_fate n None es = []
posted_fate n (Some p) es = fate_of (find (λ e. ends e (Message n p)) es) ∷ []

-- the fates of the messages that the entries post, where the first of them has number n
abbrev pub fates_from : ℕ → List Entry → List Fate
fates_from n [] = []
fates_from n (e ∷ es) = posted_fate n (accepted_by e.call e.reply) es ++ fates_from (n + posts_in e.call e.reply) es

-- the ledger stands at place k of the history
pub record StandsAtPlace (es : List Entry) (k : ℕ) (l : Ledger) : Type 0 where
  pub behind : Tells l.behind k (endings_of (drop k es))
  pub rising : AreQuitsRising l.behind.safe_quits.list.items
  pub number : l.number + posts_of (drop k es) ≡ posts_of es
  pub fates : reverse l.fates.items ≡ fates_from l.number (drop k es)
