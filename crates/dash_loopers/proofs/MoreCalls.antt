-- One call more of a looper: among the calls that it made, and among those that it is to make.
use Rattle.std.proofs.Common.{◌≡◌, ◌≢◌, ℕ, ◌<◌, Bool, false, cond, not, List, [], ◌∷◌, ◌++◌, inl, inr, refl, sym, ap, ◌∙◌, subst, arith, eq-eqb, ne_eqb}
use Rattle.std.specs.Prelude.{◌&&◌, filter, slice_index_or, None}
use Rattle.std.proofs.lemmas.List.{append-nil}
use Rattle.std.proofs.lemmas.List.Elements.{filter-append}
use Rattle.std.proofs.lemmas.Grind.{flat_map-append}
use Rattle.loop_model.specs.declared.call.Call.{Call}
use Rattle.loop_model.specs.declared.call.Call.TheVariants.{Post, Barrier, Unbarrier, Remove, Quit, Next, Advance, Halt}
use Rattle.loop_model.specs.declared.entry.Entry.{Entry}
use Rattle.loop_model.specs.Entries.{is_next, is_disposed}
use Rattle.dash_script.specs.declared.script.Script.{Script}
use Rattle.looper_run.specs.Holding.{Sender}
use Rattle.run_model.specs.Planned.{Makes as Asks, AreFor, bare_call, token_in}
use Rattle.run_model.specs.AskedSoFar.{tokens_in}
use Rattle.run_model.specs.Control.{Timing}
use Rattle.run_model.specs.Loopers.{LooperState, SentCall, IsSent}
use Rattle.run_model.specs.Parts.{sent_on}
use Rattle.run_model.proofs.RunLaws.{AreFor-snoc, sent_on-append}
use Rattle.dash_hall.specs.Growth.{own, Makes}
use Rattle.dash_loopers.specs.declared.player.Parts.{Parts}
use Rattle.dash_loopers.specs.Players.{PlaceWithout}
use Rattle.dash_loopers.specs.Played.{is_disposal, calls_of, IsRootOf, IsPlayed, with_call}

-- ---- among the calls that it made

next_plain : (c : Call) → is_next (bare_call c) ≡ is_next c
next_plain (Post p) = refl
next_plain (Barrier now) = refl
next_plain (Unbarrier token) = refl
next_plain (Remove f) = refl
next_plain (Quit safe now) = refl
next_plain (Next now) = refl
next_plain (Advance now) = refl
next_plain (Halt now) = refl

kept_one : (e : Entry) → is_next e.call ≡ false → filter (λ x. not (is_disposal x)) (e ∷ []) ≡ e ∷ []
kept_one e quiet = ap (λ (b : Bool). cond (not (b && is_disposed e.reply)) (e ∷ []) []) quiet

-- a call that is no look is one more of the calls
pub calls_more : (p q : Sender) (c : Call) (tokens : List ℕ) → is_next c ≡ false → (m : Makes p q c tokens) → calls_of q ≡ calls_of p ++ m.entry ∷ []
calls_more p q c tokens looks m =
    let quiet : is_next m.entry.call ≡ false = sym (next_plain m.entry.call) ∙ (ap is_next m.makes ∙ looks) in
    ap (filter (λ x. not (is_disposal x))) m.made
    ∙ (filter-append (λ x. not (is_disposal x)) (own p) (m.entry ∷ [])
    ∙ ap (λ (l : List Entry). calls_of p ++ l) (kept_one m.entry quiet))

pub calls_same : (p q : Sender) → own q ≡ own p → calls_of q ≡ calls_of p
calls_same p q same = ap (filter (λ x. not (is_disposal x))) same

pub tokens_more : (made : List Entry) (e : Entry) (tokens : List ℕ) → token_in e.reply ≡ tokens → tokens_in (made ++ e ∷ []) ≡ tokens_in made ++ tokens
tokens_more made e tokens is =
    flat_map-append (λ (x : Entry). token_in x.reply) made (e ∷ []) ∙ ap (λ (l : List ℕ). tokens_in made ++ l) (append-nil (token_in e.reply) ∙ is)

-- ---- among those that it is to make

pub sent_here : (q : ℕ) (xs : List SentCall) (x : SentCall) → x.queue ≡ q → sent_on q (xs ++ x ∷ []) ≡ sent_on q xs ++ x ∷ []
sent_here q xs x is = sent_on-append q xs (x ∷ []) ∙ ap (λ (b : Bool). sent_on q xs ++ cond b (x ∷ []) []) (eq-eqb x.queue q is)

pub sent_else : (k : ℕ) (xs : List SentCall) (x : SentCall) → x.queue ≢ k → sent_on k (xs ++ x ∷ []) ≡ sent_on k xs
sent_else k xs x isnt = sent_on-append k xs (x ∷ []) ∙ (ap (λ (b : Bool). sent_on k xs ++ cond b (x ∷ []) []) (ne_eqb x.queue k isnt) ∙ append-nil (sent_on k xs))

-- another looper's queue is not its own
pub without_self : (q k j : ℕ) → PlaceWithout q k j → q ≢ k
without_self q k j (inl p) is = (let lt : k < q = p.0 in absurd (omega (arith, is)))
without_self q k j (inr p) is = (let lt : q < k = p.0 in absurd (omega (arith, is)))

-- a call on the own queue was made
pub played_call : {lockstep : Bool} (s : Script) (q : ℕ) (call : Call) (timing : Timing) (p p' : Sender) (parts : Parts) → is_next call ≡ false → Makes p p' call []
    → (a : LooperState) → IsPlayed lockstep s q (calls_of p) parts a → IsPlayed lockstep s q (calls_of p') parts (with_call q call timing a)
played_call {lockstep} s q call timing p p' parts looks m a is =
    let x : SentCall = record { queue = q; ask = Asks call; reply = None; timing = timing } in
    let made = calls_of p in
    let root = is.shown.stands in
    let tokens : tokens_in made ≡ tokens_in (made ++ m.entry ∷ []) = sym (tokens_more made m.entry [] m.answered ∙ append-nil (tokens_in made)) in
    subst (λ (l : List Entry). IsPlayed lockstep s q l parts (with_call q call timing a)) (sym (calls_more p p' call [] looks m)) (record {
      shown = record {
        calls = subst (λ (l : List SentCall). AreFor IsSent [] l (made ++ m.entry ∷ [])) (sym (sent_here q a.sent x refl)) (AreFor-snoc IsSent (sent_on q a.sent) x made m.entry is.shown.calls (record { call = m.makes; reply = tt }));
        asked = is.shown.asked;
        stands = subst (λ (l : List ℕ). IsRootOf s q l (with_call q call timing a) parts.root) tokens (record { edition = root.edition; gauges = root.gauges; lines = root.lines; barrier = root.barrier; barriers = root.barriers; painted = root.painted });
      };
      elsewhere = λ k j d place near. subst (λ (l : List SentCall). AreFor IsSent [] l (own (slice_index_or parts.others.items j d))) (sym (sent_else k a.sent x (without_self q k j place))) (is.elsewhere k j d place near);
      fired = is.fired;
      counts = is.counts;
    })
