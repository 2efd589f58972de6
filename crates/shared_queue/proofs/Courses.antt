-- What was handed out, and the entries since.
use Rattle.std.proofs.Common.{◌≡◌, ◌+◌, ℕ, List, [], ◌∷◌, ◌++◌, length, take, drop, refl, sym, ap, ◌∙◌, subst, arith, append_assoc, append-nil, length-append}
use Rattle.std.proofs.Math.Seq.{take-length}
use Rattle.loop_model.specs.declared.entry.Entry.{Entry}
use Rattle.loop_model.specs.declared.base.Base.{Base}
use Rattle.loop_model.specs.declared.segment.Segment.{Segment}
use Rattle.loop_model.specs.Base.{empty_base}
use Rattle.loop_model.specs.Answers.{Setting}
use Rattle.loop_model.specs.Legal.{IsLegal, AreNumbered}
use Rattle.loop_model.specs.Chain.{after, IsChainFrom, entries_of}
use Rattle.loop_model.proofs.AfterLaws.{after-after, after-none, after_rising}
use Rattle.loop_model.proofs.ListedLaws.{IsRising}
use Rattle.loop_model.proofs.LegalLaws.{IsLegal-join}
use Rattle.loop_model.proofs.NumberLaws.{AreNumbered-join}
use Rattle.queue_state.specs.Queue.{Queue, part_of, sealed}
use Rattle.shared_queue.specs.Whole.{Course}
use Rattle.shared_queue.proofs.Whole.{zeros}

-- the same parts, with these entries since
abbrev pub with_since : {K : Type 0} → Course K → List Entry → Course K
with_since c es = record { parts = c.parts; since = es; claims = c.claims }

pub after_length : (b : Base) (es : List Entry) → (after b es).length ≡ b.length + length es
unfolding after
after_length b es = refl

pub empty_length : (senders : ℕ) (es : List Entry) → (after (empty_base senders) es).length ≡ length es
unfolding after
empty_length senders es = omega arith

-- a list up to the length of its front
pub take_front : {A : Type 0} (xs ys : List A) → take (length xs) (xs ++ ys) ≡ xs
take_front [] ys = refl
take_front (x ∷ xs) ys = ap (λ l. x ∷ l) (take_front xs ys)

pub drop_front : {A : Type 0} (xs ys : List A) → drop (length xs) (xs ++ ys) ≡ ys
drop_front [] ys = refl
drop_front (x ∷ xs) ys = drop_front xs ys

-- what was seen up to a base, with other entries behind it
pub seen_is : (n : ℕ) (before since seen es : List Entry) → n ≡ length before → seen ≡ before ++ since → take n seen ++ es ≡ before ++ es
seen_is n before since seen es long is = ap (λ l. l ++ es) ((λ i. take (long i) (is i)) ∙ take_front before since)

-- one part more
pub entries_more : (ps : List Segment) (p : Segment) → entries_of (ps ++ p ∷ []) ≡ entries_of ps ++ p.entries
entries_more [] p = append-nil p.entries
entries_more (q ∷ ps) p = ap (λ l. q.entries ++ l) (entries_more ps p) ∙ sym (append_assoc q.entries (entries_of ps) p.entries)

pub chain_more : (b : Base) (ps : List Segment) (p : Segment) → IsRising b.items → IsChainFrom b ps → p.base ≡ after b (entries_of ps) → IsChainFrom b (ps ++ p ∷ [])
chain_more b [] p rising c is = (is ∙ after-none b rising, tt)
chain_more b (q ∷ ps) p rising c is =
    let back : after b (q.entries ++ entries_of ps) ≡ after (after q.base q.entries) (entries_of ps) = ap (λ (z : Base). after z (q.entries ++ entries_of ps)) (sym c.0) ∙ sym (after-after q.base q.entries (entries_of ps)) in
    (c.0, chain_more (after q.base q.entries) ps p (after_rising q.base q.entries) c.1 (is ∙ back))

module _ {H K : Type 0} (s : Setting) (ps : List Segment) (x : Queue H K) where
  abbrev nothing : Base
  nothing = empty_base s.senders

  pub past_legal : IsLegal s nothing (entries_of ps) → x.start ≡ after nothing (entries_of ps) → x.setting ≡ s → IsLegal x.setting x.start x.entries → IsLegal s nothing (entries_of (ps ++ part_of x ∷ []))
  past_legal legal base setting mine =
      let here : IsLegal s (after nothing (entries_of ps)) x.entries = subst (λ (b : Base). IsLegal s b x.entries) base (subst (λ (z : Setting). IsLegal z x.start x.entries) setting mine) in
      subst (IsLegal s nothing) (sym (entries_more ps (part_of x))) (IsLegal-join s nothing (entries_of ps) x.entries legal here)

  pub past_numbered : AreNumbered s nothing (entries_of ps) → x.start ≡ after nothing (entries_of ps) → x.setting ≡ s → AreNumbered x.setting x.start x.entries → AreNumbered s nothing (entries_of (ps ++ part_of x ∷ []))
  past_numbered numbered base setting mine =
      let here : AreNumbered s (after nothing (entries_of ps)) x.entries = subst (λ (b : Base). AreNumbered s b x.entries) base (subst (λ (z : Setting). AreNumbered z x.start x.entries) setting mine) in
      subst (AreNumbered s nothing) (sym (entries_more ps (part_of x))) (AreNumbered-join s nothing (entries_of ps) x.entries (zeros s.senders) numbered here)

-- a state that is sealed is as long as what was seen
pub sealed_length : {H K : Type 0} (senders : ℕ) (before since seen : List Entry) (x y : Queue H K) → y ≡ sealed x → x.start ≡ after (empty_base senders) before → x.entries ≡ since → seen ≡ before ++ since → y.start.length ≡ length seen
sealed_length {H} {K} senders before since seen x y is base rest all =
    let start : y.start.length ≡ x.start.length + length x.entries = ap (λ (z : Queue H K). z.start.length) is ∙ after_length x.start x.entries in
    let first : x.start.length ≡ length before = ap (λ (b : Base). b.length) base ∙ empty_length senders before in
    omega (arith, ap length rest, ap length all, length-append before since, start, first)

-- and has it
pub sealed_seen : {H K : Type 0} (senders : ℕ) (before since seen : List Entry) (x y : Queue H K) → y ≡ sealed x → x.start ≡ after (empty_base senders) before → x.entries ≡ since → seen ≡ before ++ since → take y.start.length seen ++ y.entries ≡ seen
sealed_seen {H} {K} senders before since seen x y is base rest all =
    let long = sealed_length senders before since seen x y is base rest all in
    let none : y.entries ≡ [] = ap (λ (z : Queue H K). z.entries) is in
    (λ i. take (long i) seen ++ none i) ∙ (append-nil (take (length seen) seen) ∙ take-length seen)
