-- What is private in a sender and in the admitter.
use Rattle.std.specs.Prelude.{◌≡◌, ℕ, List, length, None}
use Rattle.std.specs.Global.{Global}
use Rattle.atomic_blocks.specs.declared.web.Seat.{Seat}
use Rattle.atomic_blocks.specs.Laid.{WebId}
use Rattle.crossbeam_queue.specs.declared.seg_queue.Going.{Going}
use Rattle.std.specs.Prelude.{Option}
use Rattle.inbox_queue.specs.declared.parcel.Parcel.{Parcel}
use Rattle.inbox_queue.specs.declared.known.Known.{Known}
use Rattle.inbox_queue.specs.declared.known.Known.TheVariants.{Sends, Admits}
use Rattle.inbox_queue.specs.Carried.{posts_of, taken_of}

abbrev pub InboxPass : Type 0
InboxPass = Seat (Option Parcel) (Going Parcel Known) Global

-- what the pass knows
abbrev pub known : InboxPass → Known
known p = p.me.view.client

-- the inbox of the pass
abbrev pub home : InboxPass → WebId
home p = p.web

-- nothing is out with the pass
abbrev pub Rests : InboxPass → Type 0
Rests p = (p.me.hand ≡ None) × (p.me.spare ≡ None)

-- the pass of a sender of this number, which has put so many
abbrev pub SendsBy : InboxPass → ℕ → ℕ → Type 0
SendsBy p number count = (known p ≡ Sends number (posts_of (known p))) × (count ≡ length (posts_of (known p))) × Rests p

-- the pass of an admitter that has admitted these
abbrev pub AdmitsBy : InboxPass → List Parcel → Type 0
AdmitsBy p admitted = (known p ≡ Admits (taken_of (known p)) admitted) × Rests p
