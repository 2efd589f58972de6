-- What a call keeps of the host and the client that it works with, and what it asks of them.
use Rattle.std.specs.Prelude.{◌≡◌, ℕ, Bool}
use Rattle.choreographer.specs.Known.{SharedFrames}

-- of a host: what holds of it between its calls does, and its origin and its moments stay
pub record KeepsHost {H : Type 0} {O : Type 0} (Holds : H → Type 0) (source : H → O) (is_moment : H → ℕ → Bool) (before after : H) : Type 0 where
  pub ready : Holds after
  pub origin : source after ≡ source before
  pub moments : is_moment after ≡ is_moment before

-- of a client and its host: the client serves what it served, its origin stays, and the host is kept
pub record KeepsBoth {L : Type 0} {C : Type 0} {H : Type 0} {O : Type 0} (Works : L → SharedFrames → Type 0) (owner : L → C)
    (Holds : H → Type 0) (source : H → O) (is_moment : H → ℕ → Bool) (before after : L) (h h' : H) : Type 0 where
  pub serves : (q : SharedFrames) → Works before q → Works after q
  pub own : owner after ≡ owner before
  pub host : KeepsHost Holds source is_moment h h'

-- callbacks of this choreographer may run: the client serves it, the host is ready, and what holds of both between two callbacks does
pub record MayCallBack {L : Type 0} {H : Type 0} (Works : L → SharedFrames → Type 0) (Between : L → H → Type 0) (Holds : H → Type 0)
    (q : SharedFrames) (l : L) (h : H) : Type 0 where
  pub serves : Works l q
  pub meets : Between l h
  pub ready : Holds h
