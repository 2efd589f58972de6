-- Messages that go back to the pool one after the other, until one carries a value.
use Rattle.std.proofs.Common.{◌≡◌, ℕ, ◌+◌, cond, List, [], ◌∷◌, ◌++◌, Option, Some, None, refl, sym, ap, ◌∙◌, arith, append_assoc}
use Rattle.std.specs.Prelude.{is_some}
use Rattle.std.specs.Option.{option_to_list}
use Rattle.std.proofs.lemmas.List.{append-nil}
use Rattle.message_pool.specs.Passes.{Claimed, Node, Tally}
use Rattle.message_pool.specs.Obtain.{IsReturned}
use Rattle.message_pool.specs.Values.{content_of, content_in}
use Rattle.std.proofs.lemmas.List.Sums.{sum_by-append}
use Rattle.handler_post.specs.Supply.{slots_in, BringsBack}
use Rattle.plain_loop.specs.Values.{contents}

pub contents-append : (a b : List Node) → contents (a ++ b) ≡ contents a ++ contents b
contents-append [] b = refl
contents-append (m ∷ ms) b =
    ap (λ l. option_to_list (content_in m.claim) ++ l) (contents-append ms b) ∙ sym (append_assoc (option_to_list (content_in m.claim)) (contents ms) (contents b))

-- these messages went, none of which carries a value, and the rest is left
pub record HavePassed (start rest : List Node) (before after : Tally) : Type 0 where
  pub gone : List Node
  pub parts : start ≡ gone ++ rest
  pub none : contents gone ≡ []
  pub back : BringsBack gone before after

pub passed_none : (start : List Node) (a : Tally) → HavePassed start start a a
passed_none start a = record { gone = []; parts = refl; none = refl; back = (omega arith, omega arith, omega arith, refl, refl) }

-- a pass that brought one message back
one_back : (claim : Option Claimed) (a b : Tally) → IsReturned claim a b
    → (b.back ≡ a.back + cond {A = ℕ} (is_some claim) 1 0) × (b.looks ≡ a.looks) × (b.lost ≡ a.lost) × (b.taken ≡ a.taken) × (b.share ≡ a.share)
one_back None a b same =
    (let e : b.back ≡ a.back = ap (λ (x : Tally). x.back) same in omega (arith, e), ap (λ (x : Tally). x.looks) same, ap (λ (x : Tally). x.lost) same, ap (λ (x : Tally). x.taken) same, ap (λ (x : Tally). x.share) same)
one_back (Some c) a b one =
    (ap (λ (x : Tally). x.back) one, ap (λ (x : Tally). x.looks) one, ap (λ (x : Tally). x.lost) one, ap (λ (x : Tally). x.taken) one, ap (λ (x : Tally). x.share) one)

brings_more : (gone : List Node) (m : Node) (a b d : Tally) → BringsBack gone a b → IsReturned m.claim b d → BringsBack (gone ++ m ∷ []) a d
brings_more gone m a b d brings back =
    let one = one_back m.claim b d back in
    let size : Node → ℕ = λ (x : Node). cond {A = ℕ} (is_some x.claim) 1 0 in
    let sum : slots_in (gone ++ m ∷ []) ≡ slots_in gone + slots_in (m ∷ []) = sum_by-append size gone (m ∷ []) in
    let last : slots_in (m ∷ []) ≡ 0 + cond {A = ℕ} (is_some m.claim) 1 0 = refl in
    let e0 = brings.0 in
    let e1 = one.0 in
    let looks = brings.1 in
    let looks' = one.1 in
    let lost = brings.2 in
    let lost' = one.2 in
    (omega (arith, sum, last, e0, e1), omega (arith, looks, looks'), omega (arith, lost, lost'), one.3 ∙ brings.3, one.4 ∙ brings.4)

-- one message more, which carries this
more_contents : (gone : List Node) (m : Node) (seen : Option (List ℕ)) → contents gone ≡ [] → seen ≡ content_in m.claim → contents (gone ++ m ∷ []) ≡ option_to_list seen
more_contents gone m seen none is =
    contents-append gone (m ∷ []) ∙ (ap (λ (l : List (List ℕ)). l ++ contents (m ∷ [])) none ∙ (append-nil (option_to_list (content_in m.claim)) ∙ ap option_to_list (sym is)))

more_parts : (start old rest gone : List Node) (m : Node) → start ≡ gone ++ old → old ≡ m ∷ rest → start ≡ (gone ++ m ∷ []) ++ rest
more_parts start old rest gone m parts is = parts ∙ (ap (λ l. gone ++ l) is ∙ sym (append_assoc gone (m ∷ []) rest))

-- what is no value is none
none_by : {P : Type 0} (r : Option P) → ((v : P) → r ≡ Some v → ⊥) → r ≡ None
none_by None apart = refl
none_by (Some v) apart = absurd (apart v refl)

-- a message that carries none
pub passed_more : {P : Type 0} (content : P → List ℕ) (start old rest : List Node) (m : Node) (a b d : Tally) → HavePassed start old a b → old ≡ m ∷ rest → IsReturned m.claim b d
    → (r : Option P) → ((v : P) → r ≡ Some v → ⊥) → content_of content r ≡ content_in m.claim → HavePassed start rest a d
passed_more content start old rest m a b d have is back r apart seen = record {
  gone = have.gone ++ m ∷ [];
  parts = more_parts start old rest have.gone m have.parts is;
  none = more_contents have.gone m None have.none (ap (content_of content) (sym (none_by r apart)) ∙ seen);
  back = brings_more have.gone m a b d have.back back;
}

-- a message that carries a value, beside a fact
pub handed_value : {P X : Type 0} (content : P → List ℕ) (start old rest : List Node) (m : Node) (a b d : Tally) → HavePassed start old a b → old ≡ m ∷ rest → IsReturned m.claim b d
    → (v : P) → content_of content (Some v) ≡ content_in m.claim → X
    → (gone : List Node) × (start ≡ gone ++ rest) × (contents gone ≡ content v ∷ []) × BringsBack gone a d × X
handed_value content start old rest m a b d have is back v seen x =
    (have.gone ++ m ∷ [], more_parts start old rest have.gone m have.parts is, more_contents have.gone m (Some (content v)) have.none seen, brings_more have.gone m a b d have.back back, x)
