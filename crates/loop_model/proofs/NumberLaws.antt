-- The numbering of the senders' entries in a history that is kept in parts.
use Rattle.std.proofs.Common.{◌≡◌, ◌+◌, ◌<◌, ℕ, suc, List, [], ◌∷◌, ◌++◌, length, refl, sym, ap, ◌∙◌, subst, arith}
use Rattle.std.specs.List.{AllByRecursion}
use Rattle.loop_model.specs.declared.entry.Entry.{Entry}
use Rattle.loop_model.specs.declared.base.Base.{Base}
use Rattle.loop_model.specs.declared.segment.Segment.{Segment}
use Rattle.loop_model.specs.Answers.{Setting}
use Rattle.loop_model.specs.Legal.{IsNextOfSender, AreNumberedAfter, AreNumbered}
use Rattle.loop_model.specs.Chain.{raised, after, IsChainFrom, entries_of}
use Rattle.loop_model.specs.Parts.{ArePartsNumbered}
use Rattle.loop_model.proofs.Following.{follows-front, follows-last, follows-join, follows-rest}
use Rattle.loop_model.proofs.LegalLaws.{AreNumbered-none, made_count_from_after}

-- a history leaves one count per sender
raised_length : (k : ℕ) (ms : List ℕ) (es : List Entry) → length (raised k ms es) ≡ length ms
raised_length k [] es = refl
raised_length k (m ∷ ms) es = ap suc (raised_length (k + 1) ms es)

pub after_senders : (b : Base) (es : List Entry) → length (after b es).made ≡ length b.made
unfolding after
after_senders b es = raised_length 0 b.made es

-- an entry is the next of its sender in the continuation where it is so in the whole
pub IsNextOfSender-from_after : (s : Setting) (b : Base) (es fs : List Entry) (e : Entry) → length b.made ≡ s.senders → IsNextOfSender s (after b es) fs e → IsNextOfSender s b (es ++ fs) e
IsNextOfSender-from_after s b es fs e m h =
    record {
      known = h.known;
      counted = h.counted ∙ made_count_from_after b es fs e.sender (omega (arith, m, h.known));
      controller = h.controller;
    }

pub IsNextOfSender-to_after : (s : Setting) (b : Base) (es fs : List Entry) (e : Entry) → length b.made ≡ s.senders → IsNextOfSender s b (es ++ fs) e → IsNextOfSender s (after b es) fs e
IsNextOfSender-to_after s b es fs e m h =
    record {
      known = h.known;
      counted = h.counted ∙ sym (made_count_from_after b es fs e.sender (omega (arith, m, h.known)));
      controller = h.controller;
    }

-- a beginning of a numbered history is numbered, and its last entry was the next of its sender
pub AreNumbered-front : (s : Setting) (b : Base) (es fs : List Entry) → AreNumbered s b (es ++ fs) → AreNumbered s b es
unfolding AreNumbered
AreNumbered-front s b es fs h = follows-front (IsNextOfSender s b) [] es fs h

pub AreNumbered-last : (s : Setting) (b : Base) (es : List Entry) (e : Entry) → AreNumbered s b (es ++ e ∷ []) → IsNextOfSender s b es e
unfolding AreNumbered
AreNumbered-last s b es e h = follows-last (IsNextOfSender s b) es e h

-- a history is numbered where its beginning is, and the rest is after what the beginning leaves
pub AreNumbered-join : (s : Setting) (b : Base) (es fs : List Entry) → length b.made ≡ s.senders → AreNumbered s b es → AreNumbered s (after b es) fs → AreNumbered s b (es ++ fs)
unfolding AreNumbered
AreNumbered-join s b es fs m h k = follows-join (IsNextOfSender s b) (IsNextOfSender s (after b es)) es (λ gs e. IsNextOfSender-from_after s b es gs e m) fs h k

pub AreNumbered-rest : (s : Setting) (b : Base) (es fs : List Entry) → length b.made ≡ s.senders → AreNumbered s b (es ++ fs) → AreNumbered s (after b es) fs
unfolding AreNumbered
AreNumbered-rest s b es fs m h = follows-rest (IsNextOfSender s b) (IsNextOfSender s (after b es)) es (λ gs e. IsNextOfSender-to_after s b es gs e m) fs h

-- the senders of numbered entries have counts
known_after : (s : Setting) (b : Base) (es fs : List Entry) → length b.made ≡ s.senders → AreNumberedAfter s b es fs → AllByRecursion (λ e. e.sender < length b.made) fs
known_after s b es [] m h = tt
known_after s b es (f ∷ fs) m h = (omega (arith, m, h.0.known), known_after s b (es ++ f ∷ []) fs m h.1)

pub AreNumbered-known : (s : Setting) (b : Base) (es : List Entry) → length b.made ≡ s.senders → AreNumbered s b es → AllByRecursion (λ e. e.sender < length b.made) es
unfolding AreNumbered
AreNumbered-known s b es m h = known_after s b [] es m h

-- the history of a chain is numbered where each part is
pub chain_numbered : (s : Setting) (b : Base) (ps : List Segment) → length b.made ≡ s.senders → IsChainFrom b ps → ArePartsNumbered s ps → AreNumbered s b (entries_of ps)
chain_numbered s b [] m c h = AreNumbered-none s b
chain_numbered s b (p ∷ ps) m c h =
    let here : length p.base.made ≡ s.senders = ap (λ x. length x.made) c.0 ∙ m in
    let then_ : length (after p.base p.entries).made ≡ s.senders = after_senders p.base p.entries ∙ here in
    subst (λ x. AreNumbered s x (entries_of (p ∷ ps))) c.0 (AreNumbered-join s p.base p.entries (entries_of ps) here h.0 (chain_numbered s (after p.base p.entries) ps then_ c.1 h.1))

-- each part of a chain is numbered where its history is
pub parts_numbered : (s : Setting) (b : Base) (ps : List Segment) → length b.made ≡ s.senders → IsChainFrom b ps → AreNumbered s b (entries_of ps) → ArePartsNumbered s ps
parts_numbered s b [] m c h = tt
parts_numbered s b (p ∷ ps) m c h =
    let here : length p.base.made ≡ s.senders = ap (λ x. length x.made) c.0 ∙ m in
    let then_ : length (after p.base p.entries).made ≡ s.senders = after_senders p.base p.entries ∙ here in
    let whole = subst (λ x. AreNumbered s x (entries_of (p ∷ ps))) (sym c.0) h in
    (AreNumbered-front s p.base p.entries (entries_of ps) whole, parts_numbered s (after p.base p.entries) ps then_ c.1 (AreNumbered-rest s p.base p.entries (entries_of ps) here whole))
