-- What contracts see of an inbox, of a sender and of the admitter, and what each call answers.
use Rattle.std.specs.Prelude.{◌≡◌, ◌≢◌, ℕ, ◌<◌, List, [], ◌∷◌, ◌++◌, length, replicate, All, slice_set, slice_get, slice_index_or, Option, Some, None}
use base.Stored.{Coded, coded×, coded_ℕ}
use mathlib.Core.List.{IsPrefix}
use Rattle.atomic_blocks.specs.Laid.{WebId}
use Rattle.loop_model.specs.declared.post.Post.{Post}
use Rattle.inbox_queue.specs.declared.parcel.Parcel.{Parcel}
use Rattle.inbox_queue.specs.declared.sender.Put.{Put}
use Rattle.inbox_queue.specs.declared.sender.Put.TheVariants.{Put as Lies, NoMemory as Back}
use Rattle.inbox_queue.specs.declared.admitter.Admit.{Admit}
use Rattle.inbox_queue.specs.declared.admitter.Admit.TheVariants.{Parcel as Admitted, Empty, NoMemory as NoRoom}
use Rattle.inbox_queue.specs.Plans.{parcels_of, from_sender}
use Rattle.inbox_queue.specs.Taken.{put_by}

-- which inbox it is
abbrev pub InboxId : Type 0
InboxId = WebId

abbrev pub inbox_id_coded : Coded InboxId
inbox_id_coded = coded× coded_ℕ coded_ℕ

-- a sender: its inbox, its number, and the posts that it put, in order
pub record PutPosts : Type 0 where
  pub inbox : InboxId
  pub number : ℕ
  pub put : List Post

-- the admitter: its inbox, what each sender had put that was taken in (none for one that still puts), by its number, and the admitted parcels, in order
pub record Admitting : Type 0 where
  pub inbox : InboxId
  pub taken : List (Option (List Post))
  pub admitted : List Parcel

-- a sender of this number that has put nothing
abbrev pub IsNewSender : InboxId → ℕ → PutPosts → Type 0
IsNewSender inbox number s = (s.inbox ≡ inbox) × (s.number ≡ number) × (s.put ≡ [])

-- the first senders, in order
abbrev pub AreNewSenders : InboxId → List PutPosts → Type 0
AreNewSenders inbox senders = (k : ℕ) (d : PutPosts) → k < length senders → IsNewSender inbox k (slice_index_or senders k d)

-- so many senders, the first ones
abbrev pub AreManyNew : InboxId → ℕ → List PutPosts → Type 0
AreManyNew inbox count senders = (length senders ≡ count) × AreNewSenders inbox senders

-- the senders of an inbox, in the order of their numbers
abbrev pub AreInboxSenders : InboxId → List PutPosts → Type 0
AreInboxSenders inbox senders =
    (k : ℕ) (d : PutPosts) → k < length senders → ((slice_index_or senders k d).inbox ≡ inbox) × ((slice_index_or senders k d).number ≡ k)

-- an admitter of so many senders, each of which still puts, that has admitted nothing
abbrev pub IsNewAdmitter : InboxId → ℕ → Admitting → Type 0
IsNewAdmitter inbox senders a = (a.inbox ≡ inbox) × (a.taken ≡ replicate senders None) × (a.admitted ≡ [])

-- the sender after it put one post more
abbrev pub with_post : PutPosts → Post → PutPosts
with_post s post = record s { put = s.put ++ post ∷ [] }

-- the admitter after it took this sender in
abbrev pub with_sender : Admitting → PutPosts → Admitting
with_sender a s = record a { taken = slice_set a.taken s.number (Some s.put) }

-- the admitter after it admitted one parcel more
abbrev pub with_parcel : Admitting → Parcel → Admitting
with_parcel a parcel = record a { admitted = a.admitted ++ parcel ∷ [] }

-- every sender was taken in
abbrev pub AreAllTakenIn : Admitting → Type 0
AreAllTakenIn a = All (λ o. o ≢ None) a.taken

-- of each sender, what was admitted is all that it put, each once, in its order
abbrev pub IsAllAdmitted : Admitting → Type 0
IsAllAdmitted a = (p : ℕ) (posts : List Post) → put_by a.taken p ≡ Some posts → from_sender p a.admitted ≡ parcels_of p posts

-- of each sender, what was admitted is a beginning of what it put, each once, in its order
abbrev pub AdmitsPrefixes : Admitting → Type 0
AdmitsPrefixes a = (p : ℕ) (posts : List Post) → put_by a.taken p ≡ Some posts → IsPrefix (from_sender p a.admitted) (parcels_of p posts)

-- the parcel is the next one of its sender: as many came before it as its index says, and its post is the one that the sender put there
abbrev pub IsNextOfItsSender : Admitting → Parcel → Type 0
IsNextOfItsSender a x = (x.index ≡ length (from_sender x.from a.admitted))
    × ((posts : List Post) → put_by a.taken x.from ≡ Some posts → slice_get posts x.index ≡ Some x.post)

-- of each sender, the admitted parcels and then those that are left are what it put, each once, in its order
abbrev pub AccountsForAll : Admitting → List Parcel → Type 0
AccountsForAll a left = (p : ℕ) (posts : List Post) → put_by a.taken p ≡ Some posts → from_sender p (a.admitted ++ left) ≡ parcels_of p posts

-- a post was put, by its index, or none
abbrev pub MatchPut : Put → (ℕ → Type 0) → (Post → Type 0) → Type 0
MatchPut (Lies index) P Q = P index
MatchPut (Back post) P Q = Q post

-- a parcel was admitted, or everything is, or no memory was found
abbrev pub MatchAdmit : Admit → (Parcel → Type 0) → Type 0 → Type 0 → Type 0
MatchAdmit (Admitted parcel) P Q R = P parcel
MatchAdmit Empty P Q R = Q
MatchAdmit NoRoom P Q R = R
