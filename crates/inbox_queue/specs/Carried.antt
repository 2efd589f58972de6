-- The rule over what the queue of an inbox holds and what its passes know, and what each step makes of a view.
use Rattle.std.specs.Prelude.{◌≡◌, ℕ, List, [], ◌∷◌, ◌++◌, length, slice_set, Option, Some, None, ⊤}
use mathlib.Core.Option.{some}
use lib.ListN.{get_elem?}
use Rattle.loop_model.specs.declared.post.Post.{Post}
use Rattle.inbox_queue.specs.declared.parcel.Parcel.{Parcel}
use Rattle.inbox_queue.specs.declared.known.Known.{Known}
use Rattle.inbox_queue.specs.declared.known.Known.TheVariants.{Spent, Sends, Admits}
use Rattle.inbox_queue.specs.Plans.{parcels_of, from_sender}
use Rattle.inbox_queue.specs.Taken.{put_by}

-- what the rule says of the view at place k, where `seat` is the place of the view that answers for a sender
abbrev pub Fits : ℕ → List Parcel → (ℕ → List Post) → (ℕ → ℕ) → ℕ → Known → Type 0
Fits reader got put seat k Spent = ⊤
Fits reader got put seat k (Sends from posts) = (seat from ≡ k) × (put from ≡ posts)
Fits reader got put seat k (Admits taken admitted) =
    (k ≡ reader) × (admitted ≡ got) × ((p : ℕ) (posts : List Post) → put_by taken p ≡ Some posts → (seat p ≡ k) × (put p ≡ posts))

-- what each sender put is what was admitted of it, and then what the queue holds of it
pub record Carried (items : List Parcel) (views : List Known) : Type 0 where
  pub reader : ℕ
  pub got : List Parcel
  pub put : ℕ → List Post
  pub seat : ℕ → ℕ
  pub whole : (p : ℕ) → from_sender p (got ++ items) ≡ parcels_of p (put p)
  pub each : (k : ℕ) (v : Known) → get_elem? views k ≡ some v → Fits reader got put seat k v

-- the first view admits, and has no senders yet
abbrev pub start : Known
start = Admits [] []

abbrev pub spent : Known
spent = Spent

-- the view after its sender put this parcel
abbrev pub puts_more : Known → Parcel → Known
puts_more Spent x = Spent
puts_more (Sends from posts) x = Sends from (posts ++ x.post ∷ [])
puts_more (Admits taken admitted) x = Admits taken admitted

-- the view after its admitter took this parcel out
abbrev pub admits_more : Known → Parcel → Known
admits_more Spent x = Spent
admits_more (Sends from posts) x = Sends from posts
admits_more (Admits taken admitted) x = Admits taken (admitted ++ x ∷ [])

-- of each sender taken in, the admitted parcels and then these are what it put
abbrev pub Accounts : Known → List Parcel → Type 0
Accounts Spent items = ⊤
Accounts (Sends from posts) items = ⊤
Accounts (Admits taken admitted) items = (p : ℕ) (posts : List Post) → put_by taken p ≡ Some posts → from_sender p (admitted ++ items) ≡ parcels_of p posts

-- some parcels are still to come, so that this is so
abbrev pub Foretells : Known → Type 0
Foretells v = (items : List Parcel) × Accounts v items

-- the admitter makes one sender more
abbrev pub deals : Known → Known
deals Spent = Spent
deals (Sends from posts) = Sends from posts
deals (Admits taken admitted) = Admits (taken ++ None ∷ []) admitted

-- the new sender has the next number
abbrev pub dealt : Known → Known
dealt Spent = Spent
dealt (Sends from posts) = Spent
dealt (Admits taken admitted) = Sends (length taken) []

-- the admitter takes in a sender
abbrev pub takes_in : Known → Known → Known
takes_in (Admits taken admitted) (Sends from posts) = Admits (slice_set taken from (Some posts)) admitted
takes_in v w = v

-- what its sender has put
abbrev pub posts_of : Known → List Post
posts_of Spent = []
posts_of (Sends from posts) = posts
posts_of (Admits taken admitted) = []

-- what each sender had put that its admitter took in
abbrev pub taken_of : Known → List (Option (List Post))
taken_of Spent = []
taken_of (Sends from posts) = []
taken_of (Admits taken admitted) = taken

-- what its admitter has admitted
abbrev pub admitted_of : Known → List Parcel
admitted_of Spent = []
admitted_of (Sends from posts) = []
admitted_of (Admits taken admitted) = admitted
