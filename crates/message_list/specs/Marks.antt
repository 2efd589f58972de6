-- Marks on the nodes of a list.
use Rattle.std.specs.Prelude.{◌≡◌, ℕ, ◌+◌, ◌<◌, ◌≤◌, List, [], ◌∷◌, ◌++◌, length, take, drop, get_or, Option, MatchOption}
use denote.RawPtr.{Ptr}
use mathlib.Core.Option.{some}
use lib.ListN.{get_elem?}
use Rattle.message_list.specs.declared.group.Mark.{Mark}
use Rattle.message_list.specs.declared.group.Group.{Group}
use Rattle.message_list.specs.declared.marks.Marks.{Marks}

-- the gaps of the marks, added
abbrev pub gaps : List Mark → ℕ
gaps [] = 0
gaps (m ∷ ms) = m.gap + gaps ms

-- the counts of the groups, added
abbrev pub counts : List Group → ℕ
counts [] = 0
counts (g ∷ gs) = g.count + counts gs

-- the node of the number n lies at p, if there is one: the first has the number f
abbrev pub LeadsTo : ℕ → List Ptr → ℕ → Ptr → Type 0
LeadsTo f places n p = (k : ℕ) → n ≡ f + k → get_elem? places k ≡ some p

-- the marks lead to their nodes, of which the first has the number n
abbrev pub LeadFrom : ℕ → List Ptr → ℕ → List Mark → Type 0
LeadFrom f places n [] = Unit {0}
LeadFrom f places n (m ∷ ms) = LeadsTo f places n m.at.ptr × (0 < m.gap) × LeadFrom f places (n + m.gap) ms

-- the same of a group
abbrev pub IsGroupAt : ℕ → List Ptr → ℕ → Group → Type 0
IsGroupAt f places n g = LeadFrom f places n g.list.items × (g.count ≡ gaps g.list.items)

abbrev pub AreGroupsAt : ℕ → List Ptr → ℕ → List Group → Type 0
AreGroupsAt f places n [] = Unit {0}
AreGroupsAt f places n (g ∷ gs) = IsGroupAt f places n g × AreGroupsAt f places (n + g.count) gs

-- a node of the place i has come, and lies at p
abbrev pub with_node : ℕ → Ptr → List Ptr → List Ptr
with_node i p few = take i few ++ p ∷ drop i few

-- a node has come behind that which lies so far behind the first mark's, and the group leads past it
abbrev pub Widens : ℕ → Group → Group → Type 0
Widens far old new =
    (f n i : ℕ) (few : List Ptr) (p : Ptr) → n + far + 1 ≡ f + i → i ≤ length few
    → IsGroupAt f few n old → IsGroupAt f (with_node i p few) n new × (new.count ≡ old.count + 1)

-- the node so far behind the first mark's has gone, one that lies at `next` is in its place, and the group leads past it
abbrev pub Narrows : ℕ → Ptr → Group → Group → Type 0
Narrows far next old new =
    (f n i : ℕ) (few : List Ptr) (p : Ptr) → n + far ≡ f + i → i ≤ length few → get_elem? few i ≡ some next
    → IsGroupAt f (with_node i p few) n old → IsGroupAt f few n new × (old.count ≡ new.count + 1)

-- it leads as before, where the node so far behind the first mark's lies at this place
abbrev pub LeadsWith : ℕ → Ptr → Group → Group → Type 0
LeadsWith far at old new =
    (f n here : ℕ) (places : List Ptr) → n + far ≡ f + here → get_elem? places here ≡ some at
    → IsGroupAt f places n old → IsGroupAt f places n new

-- the first group leads as the whole did, and the second from where the first ends
abbrev pub IsCutInto : Group → Group → Option Group → Type 0
IsCutInto old new second =
    (f n : ℕ) (places : List Ptr) → IsGroupAt f places n old
    → MatchOption second (IsGroupAt f places n new)
    (λ g. IsGroupAt f places n new × IsGroupAt f places (n + new.count) g × (old.count ≡ new.count + g.count))

-- the number of the group `near` is right, and the marks begin before the list's first node
abbrev pub AreMarksSound : Marks → Type 0
AreMarksSound ms = (ms.start < ms.first) × (ms.near ≤ length ms.groups.items) × (ms.base ≡ ms.start + counts (take ms.near ms.groups.items))

-- the marks lead to their nodes
abbrev pub Lead : Marks → List Ptr → Type 0
Lead ms places = AreMarksSound ms × AreGroupsAt ms.first places ms.start ms.groups.items

-- the marks are as they were
abbrev pub IsSame : Marks → Marks → Type 0
IsSame old new = (new.first ≡ old.first) × (new.start ≡ old.start) × (new.groups.items ≡ old.groups.items)

-- the group near has the number n, or all lie before it
abbrev pub IsNear : ℕ → Marks → Type 0
IsNear n ms = (ms.base ≤ n) × (ms.near < length ms.groups.items → (d : Group) → n < ms.base + (get_or ms.groups.items ms.near d).count)

-- behind the group near, `far` behind the number of its first mark is `left` behind that of the group k, or behind all
abbrev pub IsPassed : Marks → ℕ → ℕ → ℕ → Type 0
IsPassed ms far k left =
    (k ≤ length ms.groups.items) × (ms.base + far ≡ ms.start + counts (take k ms.groups.items) + left)
    × (k < length ms.groups.items → (d : Group) → left < (get_or ms.groups.items k d).count)

-- the last of the marks that lies no more than `far` behind the first is that of the place k, and lies `left` less far
abbrev pub IsMarkFound : List Mark → ℕ → ℕ → ℕ → Type 0
IsMarkFound ms far k left = (k ≤ length ms) × (far ≡ gaps (take k ms) + left) × (k < length ms → (d : Mark) → left < (get_or ms k d).gap)

-- before the place i of these, which are `len` many, something was taken out, and there lies now p, if anything does
abbrev pub IsBehind : List Ptr → ℕ → ℕ → Ptr → Type 0
IsBehind few i len p = (len ≡ length few) × (i ≤ length few) × (i < length few → get_elem? few i ≡ some p)
