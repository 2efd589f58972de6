-- The values that messages carry, as contracts see them.
use Rattle.std.specs.Prelude.{ℕ, List, Option, Some, None}
use Rattle.message_pool.specs.Passes.{Claimed, Node}

-- what is seen of a value, or None where there is none
abbrev pub content_of : {V : Type 0} → (V → List ℕ) → Option V → Option (List ℕ)
content_of content None = None
content_of content (Some value) = Some (content value)

-- the claim with a value of which this is seen
abbrev pub claim_with : Option (List ℕ) → Option Claimed → Option Claimed
claim_with content None = None
claim_with content (Some c) = Some (record c { content = content })

-- the message with a value of which this is seen; one without a slot carries none
abbrev pub with_content : Option (List ℕ) → Node → Node
with_content content m = record { item = m.item; claim = claim_with content m.claim }

-- what is seen of the value that a claim has
abbrev pub content_in : Option Claimed → Option (List ℕ)
content_in None = None
content_in (Some c) = c.content

-- all of a message but its value
abbrev pub without_value : Node → Node
without_value m = with_content None m
