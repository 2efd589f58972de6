-- The accepted posts of a history, part by part.
use Rattle.std.proofs.Common.{◌≡◌, ◌+◌, ◌<◌, ℕ, zero, suc, List, [], ◌∷◌, ◌++◌, length, take, get_or, refl, ap, sym, ◌∙◌, arith, append-nil, append_assoc}
use Rattle.std.specs.Prelude.{sum_by}
use Rattle.std.proofs.lemmas.List.Sums.{sum_by-append}
use Rattle.std.proofs.Math.Seq.{take-length}
use Rattle.loop_model.specs.declared.entry.Entry.{Entry}
use Rattle.loop_model.specs.declared.segment.Segment.{Segment}
use Rattle.loop_model.specs.Answers.{accepted_count}
use Rattle.loop_model.specs.Chain.{entries_of}
use Rattle.loop_model.specs.Entries.{posts_in}
use Rattle.loop_model.specs.Fates.{fates}
use Rattle.loop_model.proofs.FateLaws.{fates_counted}

abbrev pub posts : List Entry → ℕ
posts es = sum_by (λ e. posts_in e.call e.reply) es

fates_are_posts : (es : List Entry) → length (fates es) ≡ posts es
unfolding accepted_count
fates_are_posts es = fates_counted es ∙ omega arith

entries_taken : (ps : List Segment) (i : ℕ) (d : Segment) → i < length ps → entries_of (take (i + 1) ps) ≡ entries_of (take i ps) ++ (get_or ps i d).entries
entries_taken [] i d l = absurd (omega arith)
entries_taken (p ∷ ps) zero d l = append-nil p.entries
entries_taken (p ∷ ps) (suc i) d l =
    let one : suc i + 1 ≡ suc (i + 1) = omega arith in
    ap (λ n. entries_of (take n (p ∷ ps))) one ∙ (ap (λ es. p.entries ++ es) (entries_taken ps i d (omega arith)) ∙ sym (append_assoc p.entries (entries_of (take i ps)) (get_or ps i d).entries))

pub none : 0 ≡ length (fates [])
unfolding fates
none = refl

-- one part more, which accepted n posts
pub one_more : (ps : List Segment) (i n : ℕ) (p : Segment) → i < length ps → p ≡ get_or ps i p → n ≡ posts p.entries
    → length (fates (entries_of (take (i + 1) ps))) ≡ length (fates (entries_of (take i ps))) + n
one_more ps i n p lt is count =
    let es = entries_of (take i ps) in
    let more : entries_of (take (i + 1) ps) ≡ es ++ p.entries = entries_taken ps i p lt ∙ ap (λ (q : Segment). es ++ q.entries) (sym is) in
    let all : length (fates (entries_of (take (i + 1) ps))) ≡ posts (es ++ p.entries) = fates_are_posts (entries_of (take (i + 1) ps)) ∙ ap posts more in
    let before = fates_are_posts es in
    omega (arith, all, before, count, sum_by-append (λ (e : Entry). posts_in e.call e.reply) es p.entries)

-- all parts
pub all_parts : (ps : List Segment) (i : ℕ) → i ≡ length ps → length (fates (entries_of (take i ps))) ≡ length (fates (entries_of ps))
all_parts ps i all = ap (λ n. length (fates (entries_of (take n ps)))) all ∙ ap (λ qs. length (fates (entries_of qs))) (take-length ps)
