-- What the seats count, after a step.
use Rattle.std.proofs.Common.{◌≡◌, ℕ, zero, suc, ◌+◌, ◌*◌, ◌<◌, List, [], ◌∷◌, ◌++◌, set, sym, refl, ap, ◌∙◌, subst, arith, count_ones, slice_index, ⊎_elim}
use Rattle.std.proofs.lemmas.List.{set_comm}
use mathlib.Core.Option.{some, some-injective, some-ne-none}
use lib.ListN.{get_elem?}
use Rattle.atomic_table.proofs.Lists.{at_set, at_snoc, set_else}
use Rattle.message_pool.specs.declared.views.Share.{Share}
use Rattle.message_pool.specs.declared.views.SeatView.{SeatView}
use Rattle.message_pool.specs.Shares.{no_share, plus, IsEntire}
use Rattle.message_pool.specs.Seats.{newcomer, slots_taken, back_by, shares_of}
use Rattle.message_pool.specs.Pool.{IsSeatSound, IsBooked}
use Rattle.message_pool.proofs.Fractions.{nothing_more, plus_left, zero_factor, product_above}

-- who has no share counted nothing
abbrev pub IsQuiet : Share → ℕ → ℕ → Type 0
IsQuiet s taken back = (0 < s.whole) × (s.parts ≡ 0 → (taken ≡ 0) × (back ≡ 0))

abbrev AreSound : List SeatView → Type 0
AreSound vs = (id : ℕ) (v : SeatView) → get_elem? vs id ≡ some v → IsSeatSound v

pub both_quiet : (s t : Share) (a b c d : ℕ) → IsQuiet s a b → IsQuiet t c d → IsQuiet (plus s t) (a + c) (b + d)
both_quiet s t a b c d q r = (
  product_above s.whole t.whole q.0 r.0,
  λ none.
      let one = q.1 (zero_factor s.parts t.whole r.0 (omega arith)) in
      let two = r.1 (zero_factor t.parts s.whole q.0 (omega arith)) in
      (omega (arith, one.0, two.0), omega (arith, one.1, two.1)),
)

all_quiet : (vs : List SeatView) → AreSound vs → IsQuiet (shares_of vs) (slots_taken vs) (back_by vs)
all_quiet [] sound = (omega arith, λ _. (refl, refl))
all_quiet (v ∷ vs) sound = both_quiet v.share (shares_of vs) v.taken v.back (slots_taken vs) (back_by vs) (sound 0 v refl) (all_quiet vs (λ id w e. sound (suc id) w e))

-- what the seats together have where this view stands at that place
record Stands (vs : List SeatView) (w : SeatView) (share : Share) (taken back : ℕ) : Type 0 where
  pub shares : shares_of vs ≡ plus w.share share
  pub taken_is : slots_taken vs ≡ w.taken + taken
  pub back_is : back_by vs ≡ w.back + back

-- what all other seats have
record Others (id : ℕ) (vs : List SeatView) (v : SeatView) : Type 0 where
  pub share : Share
  pub taken : ℕ
  pub back : ℕ
  pub quiet : AreSound vs → IsQuiet share taken back
  pub was : Stands vs v share taken back
  pub becomes : (w : SeatView) → Stands (set vs id w) w share taken back

one_on : (x w : SeatView) (xs : List SeatView) (s : Share) (taken back : ℕ) → Stands xs w s taken back → Stands (x ∷ xs) w (plus x.share s) (x.taken + taken) (x.back + back)
one_on x w xs s taken back h = record {
  shares = ap (plus x.share) h.shares ∙ plus_left x.share w.share s;
  taken_is = omega (arith, h.taken_is);
  back_is = omega (arith, h.back_is);
}

others : (id : ℕ) (vs : List SeatView) (v : SeatView) → get_elem? vs id ≡ some v → Others id vs v
others id [] v e = absurd (some-ne-none v (sym e))
others zero (x ∷ xs) v e = record {
  share = shares_of xs;
  taken = slots_taken xs;
  back = back_by xs;
  quiet = λ sound. all_quiet xs (λ j w at. sound (suc j) w at);
  was = subst (λ (y : SeatView). Stands (x ∷ xs) y (shares_of xs) (slots_taken xs) (back_by xs)) (some-injective x v e) record { shares = refl; taken_is = refl; back_is = refl };
  becomes = λ w. record { shares = refl; taken_is = refl; back_is = refl };
}
others (suc id) (x ∷ xs) v e = let r = others id xs v e in record {
  share = plus x.share r.share;
  taken = x.taken + r.taken;
  back = x.back + r.back;
  quiet = λ sound. both_quiet x.share r.share x.taken x.back r.taken r.back (sound 0 x refl) (r.quiet (λ j w at. sound (suc j) w at));
  was = one_on x v xs r.share r.taken r.back r.was;
  becomes = λ w. one_on x w (set xs id w) r.share r.taken r.back (r.becomes w);
}

-- one seat more
one_more : (vs : List SeatView) (w : SeatView) → Stands (vs ++ w ∷ []) w (shares_of vs) (slots_taken vs) (back_by vs)
one_more [] w = record { shares = refl; taken_is = refl; back_is = refl }
one_more (x ∷ xs) w = one_on x w (xs ++ w ∷ []) (shares_of xs) (slots_taken xs) (back_by xs) (one_more xs w)

sound_set : (vs : List SeatView) (id : ℕ) (w : SeatView) → AreSound vs → IsSeatSound w → AreSound (set vs id w)
sound_set vs id w sound fine j u at = ⊎_elim (λ here. subst IsSeatSound here.1 fine) (λ there. sound j u there.1) (at_set vs id j w u at)

sound_more : (vs : List SeatView) (w : SeatView) → AreSound vs → IsSeatSound w → AreSound (vs ++ w ∷ [])
sound_more vs w sound fine j u at = ⊎_elim (λ there. sound j u there) (λ here. subst IsSeatSound here fine) (at_snoc vs w u j at)

-- a seat takes a slot, or gives one back, or neither
pub booked_step : (n m : ℕ) (vs : List SeatView) (id : ℕ) (v w : SeatView) → get_elem? vs id ≡ some v → IsBooked n vs → w.share ≡ v.share → IsSeatSound w
    → (count_ones m + w.taken) + v.back ≡ (count_ones n + v.taken) + w.back → IsBooked m (set vs id w)
booked_step n m vs id v w at b same fine move =
    let o = others id vs v at in let now = o.becomes w in record {
      seats = sound_set vs id w b.seats fine;
      shares = subst IsEntire (o.was.shares ∙ ap (λ (s : Share). plus s o.share) (sym same) ∙ sym now.shares) b.shares;
      counted = omega (arith, b.counted, o.was.taken_is, o.was.back_is, now.taken_is, now.back_is, move);
    }

-- a seat gives some of what it has to a new one
pub booked_split : (n : ℕ) (vs : List SeatView) (id : ℕ) (v w new : SeatView) → get_elem? vs id ≡ some v → IsBooked n vs → IsSeatSound w → IsSeatSound new
    → w.taken + new.taken ≡ v.taken → w.back + new.back ≡ v.back → ((s : Share) → IsEntire (plus v.share s) → IsEntire (plus new.share (plus w.share s)))
    → IsBooked n (set vs id w ++ new ∷ [])
booked_split n vs id v w new at b fine good taken back shares =
    let o = others id vs v at in let now = o.becomes w in let more = one_more (set vs id w) new in record {
      seats = sound_more (set vs id w) new (sound_set vs id w b.seats fine) good;
      shares = subst IsEntire (sym (more.shares ∙ ap (plus new.share) now.shares)) (shares o.share (subst IsEntire o.was.shares b.shares));
      counted = omega (arith, b.counted, o.was.taken_is, o.was.back_is, now.taken_is, now.back_is, more.taken_is, more.back_is, taken, back);
    }

-- a seat takes in what another has
pub booked_join : (n : ℕ) (vs : List SeatView) (id : ℕ) (v : SeatView) (other : ℕ) (w both : SeatView) → get_elem? vs id ≡ some v → ¬ (other ≡ id) → get_elem? (set vs id both) other ≡ some w → IsBooked n vs
    → IsSeatSound both → both.taken ≡ v.taken + w.taken → both.back ≡ v.back + w.back → ((s : Share) → IsEntire (plus w.share (plus v.share s)) → IsEntire (plus both.share s))
    → IsBooked n (set (set vs id both) other (newcomer no_share))
booked_join n vs id v other w both at apart at' b fine taken back shares =
    let gone = newcomer no_share in
    let there : get_elem? vs other ≡ some w = sym (set_else vs id other both apart) ∙ at' in
    let o = others other vs w there in let left = o.becomes gone in
    let here : get_elem? (set vs other gone) id ≡ some v = set_else vs other id gone (λ e. apart (sym e)) ∙ at in
    let q = others id (set vs other gone) v here in let now = q.becomes both in
    let rest : o.share ≡ plus v.share q.share = sym (nothing_more o.share) ∙ sym left.shares ∙ q.was.shares in
    subst (IsBooked n) (set_comm vs other id gone both apart) record {
      seats = sound_set (set vs other gone) id both (sound_set vs other gone b.seats (omega arith, λ _. (refl, refl))) fine;
      shares = subst IsEntire (sym now.shares) (shares q.share (subst IsEntire (o.was.shares ∙ ap (plus w.share) rest) b.shares));
      counted = omega (arith, b.counted, o.was.taken_is, o.was.back_is, left.taken_is, left.back_is, q.was.taken_is, q.was.back_is, now.taken_is, now.back_is, taken, back);
    }

-- who has the whole pool has all counts
pub booked_whole : (n : ℕ) (vs : List SeatView) (id : ℕ) (v : SeatView) → get_elem? vs id ≡ some v → IsBooked n vs → IsEntire v.share → count_ones n + v.taken ≡ 50 + v.back
booked_whole n vs id v at b entire =
    let o = others id vs v at in
    let sum : IsEntire (plus v.share o.share) = subst IsEntire o.was.shares b.shares in
    let none : o.share.parts ≡ 0 = zero_factor o.share.parts v.share.whole (b.seats id v at).0 (omega (arith, sum, ap (λ (k : ℕ). k * o.share.whole) entire)) in
    let quiet = (o.quiet b.seats).1 none in
    omega (arith, b.counted, o.was.taken_is, o.was.back_is, quiet.0, quiet.1)

pub first_is : (ws : List ℕ) (n : ℕ) → get_elem? ws 0 ≡ some n → slice_index ws 0 ≡ n
first_is [] n e = absurd (some-ne-none n (sym e))
first_is (w ∷ ws) n e = some-injective w n e
