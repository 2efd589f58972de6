-- The value that comes out with a number is the one that went in with it.
use Rattle.std.proofs.Common.{◌≡◌, ℕ, List, [], ◌∷◌, ◌++◌, Option, Some, slice_get, sym, ap, ◌∙◌, subst}
use Rattle.atomic_table.specs.Seated.{TableId}
use Rattle.loop_model.specs.declared.post.Post.{Post}
use Rattle.message_pool.specs.Passes.{Claimed, Tally}
use Rattle.message_pool.specs.Values.{content_in}
use Rattle.handler_post.specs.declared.values.SentWith.{SentWith}
use Rattle.handler_post.specs.declared.values.SentWith.TheVariants.{Accepted, Refused, Full, NoMemory}
use Rattle.handler_post.specs.Values.{SendingWith}
use Rattle.handler_post.specs.Ways.{Sender}
use Rattle.shared_queue.proofs.Claims.{at_seam, still_there}
use Rattle.plain_loop.specs.Values.{IsValueOf, IfAccepted, ValueIsSent}

-- a list has one element at a place
one_there : (claims : List (Option Claimed)) (n : ℕ) (c d : Option Claimed) → slice_get claims n ≡ Some c → slice_get claims n ≡ Some d → c ≡ d
one_there claims n c d is is' = let both : Some c ≡ Some d = sym is ∙ is' in cc (both)

pub value_is_sent : {P : Type 0} (content : P → List ℕ) → ValueIsSent content
value_is_sent content p q number sent given claims (c, is, same) (d, is', same') before after =
    same' ∙ ap content_in (one_there claims number d c (still_there q.view.claims claims number d after is') (still_there p.view.claims claims number c before is)) ∙ sym same

-- the sender of a value that was accepted knows it by its number
pub accepted_value : {P : Type 0} (content : P → List ℕ) (home : TableId) (p : Post) (value : P) (before after : Sender) (pass pass' : Tally) (r : SentWith P)
    → SendingWith content home p value before after pass pass' r → IfAccepted r (λ number. IsValueOf content after number (Some value))
accepted_value content home p value before after pass pass' (Accepted number wake) (c, posts, has, o) =
    let t = posts.4 in
    let here : slice_get (t.0 ++ Some c ∷ []) number ≡ Some (Some c) = subst (λ (n : ℕ). slice_get (t.0 ++ Some c ∷ []) n ≡ Some (Some c)) t.2 (at_seam t.0 (Some c)) in
    (Some c, subst (λ (l : List (Option Claimed)). slice_get l number ≡ Some (Some c)) (sym t.3) here, sym has)
accepted_value content home p value before after pass pass' (Refused place back) did = tt
accepted_value content home p value before after pass pass' (Full back) did = tt
accepted_value content home p value before after pass pass' (NoMemory back) did = tt
