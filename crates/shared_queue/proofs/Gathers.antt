-- The seats of all posters are made one.
use Rattle.std.proofs.Common.{◌≡◌, ℕ, ◌<◌, List, [], ◌∷◌, ◌++◌, length, sym, ap, ◌∙◌, subst, arith, append_assoc, append-nil}
use Rattle.std.specs.Prelude.{All, ◌+◌, ◌-◌, drop}
use Rattle.std.proofs.Common.{get_or, length-append, suc}
use Rattle.std.proofs.Math.ListN.{get_or-append}
use Rattle.std.proofs.Math.Seq.{get_or-append_seam}
use mathlib.Core.Logic.{dite}
use native.Mathlib.Decide.{dec_lt}
use Rattle.std.proofs.lemmas.List.Elements.{All-push, All-weaker}
use mathlib.Core.List.{IsPrefix, map-append}
use Rattle.shared_queue.specs.Constants.{Constants}
use Rattle.queue_state.specs.Queue.{Queue}
use Rattle.shared_queue.specs.declared.view.View.{View}
use Rattle.shared_queue.specs.Turn.{joined, new_senders}
use Rattle.shared_queue.specs.Plays.{Sat}
use Rattle.shared_queue.specs.Known.{Shared, Known, KeepsNone, IsOf, Rests, own_count}
use Rattle.shared_queue.specs.Ends.{as_counted, sealed_by, TakenIn, Gathered, IsNewPoster, AreNew}
use Rattle.loop_model.proofs.Prefixes.{prefix_trans}

-- a seat takes in that of a poster
pub takes_in : {H K : Type 0} (c : Constants H) (s u m n : Sat H K) (p : Known H K) → Rests c s → Rests c u → u.0 ≡ p.view → u.0.senders ≡ (p.sender, own_count p) ∷ [] → KeepsNone p → m ≡ (joined s.0 u.0, s.1) → n ≡ m → All (λ t. IsPrefix t m.0.seen) m.0.told → All (λ t. IsPrefix t m.0.claims) m.0.told_claims → Rests c n × TakenIn s.0 p n.0
takes_in {H} {K} c s u m n p rests theirs is numbers keeps took_in same told told_claims =
    let now : n.0 ≡ joined s.0 u.0 = ap (λ (z : Sat H K). z.0) (same ∙ took_in) in
    let told' : All (λ t. IsPrefix t n.0.seen) (s.0.seen ∷ u.0.seen ∷ s.0.told) = subst (λ (z : Sat H K × Sat H K). All (λ t. IsPrefix t z.0.0.seen) z.1.0.told) (λ i. (sym same i, took_in i)) told in
    let claims' : All (λ t. IsPrefix t n.0.claims) (s.0.claims ∷ u.0.claims ∷ s.0.told_claims) = subst (λ (z : Sat H K × Sat H K). All (λ t. IsPrefix t z.0.0.claims) z.1.0.told_claims) (λ i. (sym same i, took_in i)) told_claims in (
      (ap (λ (z : View (Queue H K) H K). z.constants) now ∙ rests.0, ap (λ (z : View (Queue H K) H K). z.has_turn) now ∙ rests.1, ap (λ (z : Sat H K). z.1) (same ∙ took_in) ∙ rests.2),
      (
        ap (λ (z : View (Queue H K) H K). z.senders) now ∙ ap (λ l. s.0.senders ++ l) numbers,
        told' 0 [] (omega arith),
        subst (λ (z : View (Queue H K) H K). IsPrefix z.seen n.0.seen) is (told' 1 [] (omega arith)),
        ap (λ (z : View (Queue H K) H K). z.sealed) now ∙ ap (λ (z : View (Queue H K) H K). s.0.sealed ++ z.sealed) is,
        keeps,
        claims' 0 [] (omega arith),
        subst (λ (z : View (Queue H K) H K). IsPrefix z.claims n.0.claims) is (claims' 1 [] (omega arith)),
      ),
    )

-- what one more poster handed out
pub sealed_more : {H K : Type 0} (posters : List (Known H K)) (p : Known H K) → sealed_by (posters ++ p ∷ []) ≡ sealed_by posters ++ p.view.sealed
sealed_more [] p = append-nil p.view.sealed
sealed_more (q ∷ posters) p = ap (λ l. q.view.sealed ++ l) (sealed_more posters p) ∙ sym (append_assoc q.view.sealed (sealed_by posters) p.view.sealed)

-- one more poster
pub gathers : {H K : Type 0} (q : Shared H) (posters : List (Known H K)) (p : Known H K) (s n : Sat H K) → Gathered q posters s → Rests q.constants n → TakenIn s.0 p n.0 → Gathered q (posters ++ p ∷ []) n
gathers {H} {K} q posters p s n g rests t = (
  rests,
  t.0 ∙ (ap (λ l. l ++ as_counted p ∷ []) g.1 ∙ sym (map-append as_counted posters (p ∷ []))),
  All-push (λ (x : Known H K). IsPrefix x.view.seen n.0.seen) posters p (All-weaker (λ (x : Known H K). IsPrefix x.view.seen s.0.seen) (λ (x : Known H K). IsPrefix x.view.seen n.0.seen) (λ x h. prefix_trans x.view.seen s.0.seen n.0.seen h t.1) posters g.2) t.2,
  t.3 ∙ (ap (λ l. l ++ p.view.sealed) g.3 ∙ sym (sealed_more posters p)),
  All-push (λ (x : Known H K). KeepsNone x) posters p g.4 t.4,
  All-push (λ (x : Known H K). IsPrefix x.view.claims n.0.claims) posters p (All-weaker (λ (x : Known H K). IsPrefix x.view.claims s.0.claims) (λ (x : Known H K). IsPrefix x.view.claims n.0.claims) (λ x h. prefix_trans x.view.claims s.0.claims n.0.claims h t.5) posters g.5) t.6,
)

-- a new poster of that number
abbrev IsNewAt : {H K : Type 0} → Shared H → ℕ → Known H K → Type 0
IsNewAt q k x = (IsOf x q × (x.sender ≡ k)) × IsNewPoster x

-- one poster more, whose sender number comes next
pub deals_more : {H K : Type 0} (q : Shared H) (posters : List (Known H K)) (p : Known H K) (n : ℕ) → length posters ≡ n → AreNew q posters → IsOf p q → p.sender ≡ n → IsNewPoster p → AreNew q (posters ++ p ∷ [])
deals_more {H} {K} q posters p n long all of_queue number new = ((λ k d l. (at k d l).0), (λ k d l. (at k d l).1))
  where
    at : (k : ℕ) (d : Known H K) → k < length (posters ++ p ∷ []) → IsNewAt q k (get_or (posters ++ p ∷ []) k d)
    at k d l = dite (dec_lt k (length posters))
        (λ early. subst (IsNewAt q k) (sym (get_or-append posters (p ∷ []) d k early)) (all.0 k d early, all.1 k d early))
        (λ late.
        let whole : length (posters ++ p ∷ []) ≡ length posters + 1 = omega (arith, length-append posters (p ∷ [])) in
        let last : k ≡ length posters = omega arith in
        subst (IsNewAt q k) (sym (ap (λ (i : ℕ). get_or (posters ++ p ∷ []) i d) last ∙ get_or-append_seam posters p [] d)) ((of_queue, number ∙ (sym long ∙ sym last)), new))

-- the numbers without the first
pub numbers_rest : (from senders : ℕ) → from < senders → drop 1 (new_senders from (senders - from)) ≡ new_senders (from + 1) (senders - (from + 1))
numbers_rest from senders below =
    let more : senders - from ≡ suc (senders - (from + 1)) = omega arith in
    ap (λ (n : ℕ). drop 1 (new_senders from n)) more

-- one element goes from the rest to what came before
pub regrouped : {X : Type 0} (before whole all rest : List X) (x : X) → all ≡ x ∷ rest → before ++ all ≡ whole → (before ++ x ∷ []) ++ rest ≡ whole
regrouped before whole all rest x is joins = append_assoc before (x ∷ []) rest ∙ (ap (λ l. before ++ l) (sym is) ∙ joins)
