-- One poster, and one pass, more in the kits.
use Rattle.std.proofs.Common.{◌≡◌, ℕ, ◌+◌, ◌<◌, List, [], ◌∷◌, ◌++◌, map, length, set, get_or, cond, ltb, refl, sym, ap, ◌∙◌, subst, arith, length-append}
use Rattle.std.specs.Prelude.{All}
use Rattle.std.specs.List.{range_with_len}
use Rattle.std.proofs.lemmas.List.FromFn.{map-range_with_len_more}
use mathlib.Core.List.{map-append}
use Rattle.std.proofs.Math.Seq.{get_or-append_seam}
use Rattle.std.proofs.lemmas.Bool.{eq-eqb, ne_eqb, lt-ltb, le-ltb}
use mathlib.Core.Logic.{dite}
use native.Mathlib.Decide.{ℕ_discrete, dec_lt}
use Rattle.atomic_table.specs.Seated.{TableId}
use Rattle.dash_script.specs.declared.script.Script.{Script}
use Rattle.shared_queue.specs.Known.{Shared, IsOf}
use Rattle.shared_queue.specs.Ends.{AreNew, IsNewPoster}
use Rattle.looper_run.specs.Holding.{Sender}
use Rattle.choreographer.specs.Known.{SharedFrames, Pass, IsPassOf}
use Rattle.choreographer.specs.Ends.{AreNewPasses, IsNewPass}
use Rattle.dash_hall.specs.declared.kit.Kit.{Kit}
use Rattle.dash_hall.specs.Kits.{Badge, badge_of, badge_for, FrameBadge, frame_badge_of, frame_badge_for, frames_for}
use Rattle.dash_hall.specs.Dealing.{Gets, EachGets, nothing, IsEmptyKit, IsNewKit, DealsPosters, DealsPasses, holder_of, given, given_of, AreUsedNowhere}
use Rattle.dash_hall.proofs.HallGets.{each_more, each_same, each_one, only, only_none}
use Rattle.dash_hall.proofs.HallPasses.{given_more, given_one, given_all, given_all-push, given_are, thread_holds, looper_holds, controller_holds}

-- the first kits have got their posters of the queue
abbrev pub first_of : ℕ → Shared TableId → ℕ → List Badge
first_of place q k = cond (ltb k place) (badge_for k q ∷ []) []

abbrev pub PostersDealt : ℕ → List Sender → List Kit → List Kit → Type 0
PostersDealt place posters before after = (q : Shared TableId) → AreNew q posters → EachGets (first_of place q) nothing before after

first_more : (place : ℕ) (q : Shared TableId) (k : ℕ) (p : Sender) → badge_of p ≡ badge_for place q → first_of place q k ++ only place (badge_of p ∷ []) k ≡ first_of (place + 1) q k
first_more place q k p is = dite (dec_lt k place)
    (λ lt. (λ i. cond (lt-ltb k place lt i) (badge_for k q ∷ []) [] ++ cond (ne_eqb place k (λ e. absurd (omega (arith, e, lt))) i) (badge_of p ∷ []) []) ∙ sym (ap (λ b. cond b (badge_for k q ∷ []) []) (lt-ltb k (place + 1) (omega (arith, lt)))))
    (λ not. dite (ℕ_discrete k place)
    (λ here. (λ i. cond (le-ltb k place (omega (arith, not)) i) (badge_for k q ∷ []) [] ++ cond (eq-eqb place k (sym here) i) (badge_of p ∷ []) []) ∙ (ap (λ b. b ∷ []) (is ∙ ap (λ n. badge_for n q) (sym here)) ∙ sym (ap (λ b. cond b (badge_for k q ∷ []) []) (lt-ltb k (place + 1) (omega (arith, here))))))
    (λ there. (λ i. cond (le-ltb k place (omega (arith, not)) i) (badge_for k q ∷ []) [] ++ cond (ne_eqb place k (λ e. there (sym e)) i) (badge_of p ∷ []) []) ∙ sym (ap (λ b. cond b (badge_for k q ∷ []) []) (le-ltb k (place + 1) (omega (arith, not, there))))))

-- the place of the next one is within the list
pub within_parts : {X : Type 0} (yielded rest all : List X) (x : X) (n : ℕ) → yielded ++ x ∷ rest ≡ all → n ≡ length yielded → n < length all
within_parts yielded rest all x n parts is =
    let long = length-append yielded (x ∷ rest) in
    let same : length (yielded ++ x ∷ rest) ≡ length all = ap length parts in
    omega (arith, long, same, is)

pub at_parts : {X : Type 0} (yielded rest all : List X) (x : X) (n : ℕ) → yielded ++ x ∷ rest ≡ all → n ≡ length yielded → get_or all n x ≡ x
at_parts yielded rest all x n parts is = ap (λ l. get_or l n x) (sym parts) ∙ (ap (λ n. get_or (yielded ++ x ∷ rest) n x) is ∙ get_or-append_seam yielded x rest x)

-- what is known of the poster at this place of new ones
new_poster : (posters yielded rest : List Sender) (p : Sender) (place : ℕ) (q : Shared TableId) → yielded ++ p ∷ rest ≡ posters → place ≡ length yielded → AreNew q posters → IsNewPoster p × (badge_of p ≡ badge_for place q)
new_poster posters yielded rest p place q parts is new =
    let at = at_parts yielded rest posters p place parts is in
    let within = within_parts yielded rest posters p place parts is in
    let of_queue : IsOf p q × (p.sender ≡ place) = subst (λ (x : Sender). IsOf x q × (x.sender ≡ place)) at (new.0 place p within) in
    (subst (λ (x : Sender). IsNewPoster x) at (new.1 place p within), λ i. record { table = of_queue.0.0 i; constants = of_queue.0.1 i; sender = of_queue.1 i })

pub posters_more : (place : ℕ) (posters yielded rest : List Sender) (p : Sender) (orig a b : List Kit) (e kit : Kit)
    → yielded ++ p ∷ rest ≡ posters → place ≡ length yielded → place < length a → b ≡ set a place kit
    → (IsNewPoster p → Gets (badge_of p ∷ []) [] (get_or a place e) kit)
    → PostersDealt place posters orig a → PostersDealt (place + 1) posters orig b
posters_more place posters yielded rest p orig a b e kit parts is within wrote got dealt q new =
    let known = new_poster posters yielded rest p place q parts is new in
    let one = each_one a place kit e (badge_of p ∷ []) [] within (got known.0) in
    let both = each_more (first_of place q) (only place (badge_of p ∷ [])) nothing (only place []) orig a (set a place kit) (dealt q new) one in
    subst (λ l. EachGets (first_of (place + 1) q) nothing orig l) (sym wrote)
    (each_same _ (first_of (place + 1) q) _ nothing orig (set a place kit) (λ k lt. first_more place q k p known.1) (λ k lt. only_none place k) both)

pub posters_all : (place : ℕ) (posters : List Sender) (orig kits : List Kit) → place ≡ length orig → PostersDealt place posters orig kits → DealsPosters posters orig kits
posters_all place posters orig kits is dealt q new =
    each_same (first_of place q) (λ k. badge_for k q ∷ []) nothing nothing orig kits (λ k lt. ap (λ b. cond b (badge_for k q ∷ []) []) (lt-ltb k place (omega (arith, lt, is)))) (λ k lt. refl) (dealt q new)

-- the passes with the first numbers have got to their kits
abbrev pub PassesDealt : Script → ℕ → ℕ → List Pass → List Kit → List Kit → Type 0
PassesDealt s looper number passes before after = (c : SharedFrames) → AreNewPasses c passes → EachGets nothing (λ k. given s looper c k 0 number) before after

-- what is known of the pass at this place of new ones
new_pass : (passes yielded rest : List Pass) (p : Pass) (number : ℕ) (c : SharedFrames) → yielded ++ p ∷ rest ≡ passes → number ≡ length yielded → AreNewPasses c passes → IsNewPass p × (frame_badge_of p ≡ frame_badge_for number c)
new_pass passes yielded rest p number c parts is new =
    let at = at_parts yielded rest passes p number parts is in
    let within = within_parts yielded rest passes p number parts is in
    let of_frames : IsPassOf p c × (p.number ≡ number) = subst (λ (x : Pass). IsPassOf x c × (x.number ≡ number)) at (new.0 number p within) in
    (subst (λ (x : Pass). IsNewPass x) at (new.1 number p within), λ i. record { table = of_frames.0.0 i; constants = of_frames.0.1 i; number = of_frames.1 i })

given_next : (s : Script) (looper number k : ℕ) (c : SharedFrames) (p : Pass) → frame_badge_of p ≡ frame_badge_for number c → given s looper c k 0 number ++ only (holder_of s looper number) (frame_badge_of p ∷ []) k ≡ given s looper c k 0 (number + 1)
given_next s looper number k c p is =
    let zeroth : 0 + number ≡ number = omega arith in
    ap (λ b. given s looper c k 0 number ++ only (holder_of s looper number) (b ∷ []) k) is
    ∙ (ap (λ n. given s looper c k 0 number ++ given_one s looper c k n) (sym zeroth) ∙ sym (given_more s looper c k 0 number))

pub passes_more : (s : Script) (looper number : ℕ) (passes yielded rest : List Pass) (p : Pass) (orig a b : List Kit) (h : ℕ) (e kit : Kit)
    → yielded ++ p ∷ rest ≡ passes → number ≡ length yielded → h ≡ holder_of s looper number → h < length a → b ≡ set a h kit
    → (IsNewPass p → Gets [] (frame_badge_of p ∷ []) (get_or a h e) kit)
    → PassesDealt s looper number passes orig a → PassesDealt s looper (number + 1) passes orig b
passes_more s looper number passes yielded rest p orig a b h e kit parts is held within wrote got dealt c new =
    let known = new_pass passes yielded rest p number c parts is new in
    let one = each_one a h kit e [] (frame_badge_of p ∷ []) within (got known.0) in
    let both = each_more nothing (only h []) (λ k. given s looper c k 0 number) (only h (frame_badge_of p ∷ [])) orig a (set a h kit) (dealt c new) one in
    subst (λ l. EachGets nothing (λ k. given s looper c k 0 (number + 1)) orig l) (sym wrote)
    (each_same _ nothing _ (λ k. given s looper c k 0 (number + 1)) orig (set a h kit) (λ k lt. only_none h k)
    (λ k lt. ap (λ n. given s looper c k 0 number ++ only n (frame_badge_of p ∷ []) k) held ∙ given_next s looper number k c p known.1) both)

pub passes_all : (s : Script) (looper number : ℕ) (passes : List Pass) (orig kits : List Kit) → number ≡ s.threads + 2 → PassesDealt s looper number passes orig kits → DealsPasses s looper passes orig kits
passes_all s looper number passes orig kits is dealt = subst (λ n. PassesDealt s looper n passes orig kits) is dealt

-- within the kits
pub holder_within : (s : Script) (looper number : ℕ) → looper < s.loopers → holder_of s looper number < s.threads + s.loopers + 1
holder_within s looper number lt = dite (dec_lt number s.threads)
    (λ thread. let h = thread_holds s looper number thread in omega (arith, h, thread))
    (λ not. dite (dec_lt number (s.threads + 1))
    (λ own. let h = looper_holds s looper number (omega (arith, not)) own in omega (arith, h, lt))
    (λ not'. let h = controller_holds s looper number (omega (arith, not')) in omega (arith, h)))

-- one member more of a list that is known by what stays the same of its members
pub keyed_more : {X Y : Type 0} (key : X → Y) (f : ℕ → Y) (xs ys : List X) (x : X) (n : ℕ) → ys ≡ xs ++ x ∷ [] → map key xs ≡ map f (range_with_len 0 n) → key x ≡ f n → map key ys ≡ map f (range_with_len 0 (n + 1))
keyed_more key f xs ys x n is keyed one =
    ap (map key) is ∙ (map-append key xs (x ∷ []) ∙ ((λ i. keyed i ++ one i ∷ []) ∙ sym (map-range_with_len_more f 0 n n (omega arith))))

-- one queue more
pub queues_more : (qs qs' : List (Shared TableId)) (q : Shared TableId) (orig a b : List Kit) → qs' ≡ qs ++ q ∷ []
    → EachGets (λ k. map (badge_for k) qs) nothing orig a → EachGets (λ k. badge_for k q ∷ []) nothing a b → EachGets (λ k. map (badge_for k) qs') nothing orig b
queues_more qs qs' q orig a b is before one =
    each_same _ (λ k. map (badge_for k) qs') _ nothing orig b (λ k lt. sym (ap (map (badge_for k)) is ∙ map-append (badge_for k) qs (q ∷ []))) (λ k lt. refl)
    (each_more (λ k. map (badge_for k) qs) (λ k. badge_for k q ∷ []) nothing nothing orig a b before one)

-- one choreographer more
pub choreographers_more : (s : Script) (cs cs' : List SharedFrames) (c : SharedFrames) (n : ℕ) (orig a b : List Kit) → cs' ≡ cs ++ c ∷ [] → length cs ≡ n
    → EachGets nothing (given_all s 0 cs) orig a → EachGets nothing (given_of s n c) a b → EachGets nothing (given_all s 0 cs') orig b
choreographers_more s cs cs' c n orig a b is count before one =
    let next : 0 + length cs ≡ n = omega (arith, count) in
    each_same _ nothing _ (given_all s 0 cs') orig b (λ k lt. refl) (λ k lt. sym (ap (λ l. given_all s 0 l k) is ∙ given_all-push s 0 cs c k n next))
    (each_more nothing nothing (given_all s 0 cs) (given_of s n c) orig a b before one)

pub choreographers_all : (s : Script) (cs : List SharedFrames) (orig kits : List Kit) → length cs ≡ s.loopers → length orig ≡ s.threads + s.loopers + 1
    → EachGets nothing (given_all s 0 cs) orig kits → EachGets nothing (frames_for s cs) orig kits
choreographers_all s cs orig kits count senders dealt =
    each_same nothing nothing (given_all s 0 cs) (frames_for s cs) orig kits (λ k lt. refl) (λ k lt. given_are s cs k count (omega (arith, lt, senders))) dealt

empty_new : (pool : TableId) (kit : Kit) → IsEmptyKit pool kit → IsNewKit kit
empty_new pool kit e = record {
  posters = subst (λ (l : List Sender). All IsNewPoster l) (sym e.posters) (λ k d lt. absurd (omega (arith, lt)));
  frames = subst (λ (l : List Pass). All IsNewPass l) (sym e.frames) (λ k d lt. absurd (omega (arith, lt)));
  pass = e.counts;
}

-- empty kits are new with what they got
pub all_new : (pool : TableId) (bs bs' : ℕ → List Badge) (fs fs' : ℕ → List FrameBadge) (a b c : List Kit) → All (IsEmptyKit pool) a → EachGets bs fs a b → EachGets bs' fs' b c → All IsNewKit c
all_new pool bs bs' fs fs' a b c empty h g = λ k d lt. (
    let same = h.count in
    let same' = g.count in
    let within : k < length a = omega (arith, lt, same, same') in
    let within' : k < length b = omega (arith, lt, same') in
    (g.each k d within').unused ((h.each k d within).unused (empty_new pool (get_or a k d) (empty k d within))))

-- and were used nowhere
pub used_nowhere : (kits : List Kit) → All IsNewKit kits → AreUsedNowhere kits
used_nowhere kits new k q d lt =
    let kit = new k d lt in (
      λ p at. (let p' = kit.posters q p at in (p'.seen, p'.sealed)),
      λ p at. (let p' = kit.frames q p at in (p'.seen, p'.turns, p'.own, p'.handed, p'.heard, p'.stamp, p'.awaits)),
    )
