-- The calls that a looper makes in a round are on time: the clocks stand still in it.
use Rattle.std.proofs.Common.{◌≡◌, ◌<◌, ◌≤◌, ◌+◌, ◌⊎◌, inl, inr, ℕ, zero, suc, Bool, true, false, List, [], ◌∷◌, ◌++◌, length, filter, Option, Some, None, refl, sym, ap, ◌∙◌, subst, arith, append_assoc}
use Rattle.std.specs.Prelude.{◌==◌, ◌&&◌, ◌||◌, not, slice_index_or, if◌then◌else◌}
use Rattle.std.specs.List.{AllByRecursion}
use Rattle.std.proofs.lemmas.Bool.{and_from, or_left, or_right, eq-eqb, le-leb}
use Rattle.std.proofs.lemmas.List.{append-nil, length-append}
use mathlib.Core.List.{IsPrefix}
use Rattle.loop_model.specs.declared.call.Call.TheVariants.{Next}
use Rattle.loop_model.specs.declared.reply.Reply.{Reply}
use Rattle.loop_model.specs.declared.entry.Entry.{Entry}
use Rattle.loop_model.specs.Base.{empty_base}
use Rattle.loop_model.specs.Answers.{Setting, clock, has_disposed, has_halted, answer}
use Rattle.loop_model.specs.Legal.{IsLegal, MayFollow, CallFitsTime, IsLegalAfter}
use Rattle.loop_model.proofs.LegalLaws.{IsLegal-front, IsLegalAfter-back}
use Rattle.loop_model.proofs.NumberLaws.{AreNumbered-front}
use Rattle.dash_script.specs.declared.script.Script.{Script}
use Rattle.run_model.specs.Planned.{entries_by, controller, sender_count}
use Rattle.run_model.specs.Control.{Before, before, befores_from, Timing, At, InBlock, Exactly, AnyTime, is_on_time, are_on_time}
use Rattle.run_model.proofs.RunLaws.{entries_by-others, befores_from-append}
use Rattle.dash_loopers.specs.Loopers.{IsSoundOn, setting_for}
use Rattle.dash_loopers.specs.Played.{is_disposal, calls_in, IsTimedBy}
use Rattle.dash_stage.specs.Timeliness.{IsAtTime}
use Rattle.dash_stage.specs.Playing.{befores_called, IsMet}
use Rattle.dash_stage.proofs.Stages.Timely.{of_others, none_of, befores_from-count, on_time_more, clock_same, has_disposed_same, clock_stays, stays_at}

-- the test of a sender's calls, but the looks that disposed of the queue
abbrev pub is_call_of : ℕ → Entry → Bool
is_call_of k e = e.sender == k && not (is_disposal e)

-- what stood before a sender's calls, in a longer history
pub befores_called-append : (k : ℕ) (es more : List Entry) → befores_called k (es ++ more) ≡ befores_called k es ++ befores_from (is_call_of k) es more
unfolding befores_called
befores_called-append k es more = befores_from-append (is_call_of k) [] es more

none_passes : (k : ℕ) (e : Entry) → (e.sender == k) ≡ false → is_call_of k e ≡ false
none_passes k e other = ap (λ b. b && not (is_disposal e)) other

-- entries of others
befores_from-others : (k : ℕ) (past more : List Entry) → AllByRecursion (λ e. (e.sender == k) ≡ false) more → befores_from (is_call_of k) past more ≡ []
befores_from-others k past [] others = refl
befores_from-others k past (e ∷ more) others =
    ap (λ b. (if b then before past ∷ [] else []) ++ befores_from (is_call_of k) (past ++ e ∷ []) more) (none_passes k e others.0) ∙ befores_from-others k (past ++ e ∷ []) more others.1

-- what stood before a sender's calls stays the same where it has made nothing more
pub befores_called_of_others : (k : ℕ) (es more : List Entry) → entries_by k more ≡ [] → befores_called k (es ++ more) ≡ befores_called k es
befores_called_of_others k es more none =
    befores_called-append k es more ∙ (ap (λ l. befores_called k es ++ l) (befores_from-others k es more (of_others k more none)) ∙ append-nil (befores_called k es))

filters_next : (k : ℕ) (e : Entry) (es : List Entry) (a b : Bool) → (e.sender == k) ≡ a → not (is_disposal e) ≡ b → filter (is_call_of k) es ≡ calls_in k es → filter (is_call_of k) (e ∷ es) ≡ calls_in k (e ∷ es)
filters_next k e es true true p q h = rw (p, q) (ap (λ l. e ∷ l) h)
filters_next k e es true false p q h = rw (p, q) h
filters_next k e es false b p q h = rw p h

both_filters : (k : ℕ) (es : List Entry) → filter (is_call_of k) es ≡ calls_in k es
both_filters k [] = refl
both_filters k (e ∷ es) = filters_next k e es (e.sender == k) (not (is_disposal e)) refl refl (both_filters k es)

-- for each call there is what stood before it
pub befores_called-count : (k : ℕ) (es : List Entry) → length (befores_called k es) ≡ length (calls_in k es)
unfolding befores_called
befores_called-count k es = befores_from-count (is_call_of k) [] es ∙ ap length (both_filters k es)

-- it stood at this clock, which was the time unless the queue was disposed of by then
abbrev StoodAt : ℕ → ℕ → Before → Type 0
StoodAt time at b = (b.clock ≡ at) × ((at ≡ time) ⊎ ((b.disposed ≡ true) × (at ≤ time)))

met_one : (time at : ℕ) (u : Timing) (b : Before) → IsMet time at u → StoodAt time at b → is_on_time u b ≡ true
met_one time at (At t) b met (clock_is, inl now) = or_left _ _ (eq-eqb b.clock t (clock_is ∙ now ∙ sym met))
met_one time at (At t) b met (clock_is, inr (gone, by)) = or_right _ _ (and_from _ _ gone (le-leb b.clock t (omega (arith, clock_is, by, met))))
met_one time at (InBlock t) b met either = absurd met
met_one time at (Exactly t) b met (clock_is, either) = eq-eqb b.clock t (clock_is ∙ sym met)
met_one time at AnyTime b met either = absurd met

all_met : (time at : ℕ) (us : List Timing) (bs : List Before) → length us ≡ length bs → AllByRecursion (IsMet time at) us → AllByRecursion (StoodAt time at) bs → are_on_time us bs ≡ true
all_met time at [] [] long met stood = refl
all_met time at [] (b ∷ bs) long met stood = absurd (omega (arith, long))
all_met time at (u ∷ us) [] long met stood = absurd (omega (arith, long))
all_met time at (u ∷ us) (b ∷ bs) long met stood = and_from _ _ (met_one time at u b met.0 stood.0) (all_met time at us bs (omega (arith, long)) met.1 stood.1)

stood_next : (time at : ℕ) (t : Bool) (b : Before) (bs : List Before) → StoodAt time at b → AllByRecursion (StoodAt time at) bs → AllByRecursion (StoodAt time at) ((if t then b ∷ [] else []) ++ bs)
stood_next time at true b bs one all = (one, all)
stood_next time at false b bs one all = all

module _ (s : Script) (q time : ℕ) where
  abbrev set : Setting
  set = setting_for s q

  -- while the controller calls nothing, each entry stands at the clock that was
  all_stood : (test : Entry → Bool) (es more : List Entry) → IsSoundOn s q (es ++ more) → entries_by (controller s) more ≡ [] → IsAtTime (sender_count s) time es
      → AllByRecursion (StoodAt time (clock (empty_base (sender_count s)) es)) (befores_from test es more)
  all_stood test es [] sound none at = tt
  all_stood test es (e ∷ more) sound none at =
      let base = empty_base (sender_count s) in
      let whole = sym (append_assoc es (e ∷ []) more) in
      let sound_on : IsSoundOn s q ((es ++ e ∷ []) ++ more) = subst (IsSoundOn s q) whole sound in
      let others = of_others (controller s) (e ∷ more) none in
      let legal_one = IsLegal-front set base (es ++ e ∷ []) more sound_on.legal in
      let numbered_one = AreNumbered-front set base (es ++ e ∷ []) more sound_on.numbered in
      let none_one = entries_by-others (controller s) (e ∷ []) (others.0, tt) in
      let then_at = stays_at set (controller s) refl refl time es (e ∷ []) legal_one numbered_one none_one at in
      let still = clock_stays set (controller s) refl refl es (e ∷ []) legal_one numbered_one none_one in
      let rest = subst (λ n. AllByRecursion (StoodAt time n) (befores_from test (es ++ e ∷ []) more)) still (all_stood test (es ++ e ∷ []) more sound_on (entries_by-others (controller s) more others.1) then_at) in
      stood_next time (clock base es) (test e) (before es) _ (sym (clock_same (sender_count s) es), here at) rest
    where
      here : IsAtTime (sender_count s) time es → (clock (empty_base (sender_count s)) es ≡ time) ⊎ (((before es).disposed ≡ true) × (clock (empty_base (sender_count s)) es ≤ time))
      here (inl now) = inl now
      here (inr (gone, by)) = inr (sym (has_disposed_same (sender_count s) es) ∙ gone, by)

  -- calls that came more, while the controller called nothing, are on time as those before
  pub calls_on_time : (k : ℕ) (es whole : List Entry) → IsPrefix es whole → IsSoundOn s q whole → entries_by (controller s) whole ≡ entries_by (controller s) es → IsAtTime (sender_count s) time es
      → (ts us : List Timing) → AllByRecursion (IsMet time (clock (empty_base (sender_count s)) es)) us → length (ts ++ us) ≡ length (befores_called k whole) → length ts ≡ length (befores_called k es)
      → are_on_time ts (befores_called k es) ≡ true → are_on_time (ts ++ us) (befores_called k whole) ≡ true
  calls_on_time k es whole front sound controlled at ts us met long were h =
      let none = none_of (controller s) es front.0 (ap (entries_by (controller s)) front.1 ∙ controlled) in
      let split = ap (befores_called k) (sym front.1) ∙ befores_called-append k es front.0 in
      let stood = all_stood (is_call_of k) es front.0 (subst (IsSoundOn s q) (sym front.1) sound) none at in
      let all : length ts + length us ≡ length (befores_called k es) + length (befores_from (is_call_of k) es front.0) =
      sym (length-append ts us) ∙ (long ∙ (ap length split ∙ length-append (befores_called k es) (befores_from (is_call_of k) es front.0))) in
      let count : length us ≡ length (befores_from (is_call_of k) es front.0) = omega (arith, all, were) in
      ap (are_on_time (ts ++ us)) split ∙ on_time_more ts us (befores_called k es) (befores_from (is_call_of k) es front.0) h (all_met time (clock (empty_base (sender_count s)) es) us _ count met stood)

  -- a look that came more, while the controller called nothing, came at the time
  look_timed : (es : List Entry) (e : Entry) (t : ℕ) → MayFollow set (empty_base (sender_count s)) es e → e.call ≡ Next t → IsAtTime (sender_count s) time es → t ≡ time
  unfolding answer
  look_timed es e t may is (inl now) = subst (CallFitsTime true (clock (empty_base (sender_count s)) es)) is may.timely ∙ now
  look_timed es e t may is (inr (gone, by)) =
      let none = sym (ap (λ c. answer set (empty_base (sender_count s)) es c) is) ∙ may.reply in
      absurd (over (has_disposed (empty_base (sender_count s)) es) (has_halted (empty_base (sender_count s)) es) gone _ _ none)
    where
      over : (a b : Bool) → a ≡ true → (o : Option Reply) (r : Reply) → (if a || b then None else o) ≡ Some r → ⊥
      over true b h o r is = cc
      over false b h o r is = cc

  legal_whole : (es : List Entry) → IsSoundOn s q es → IsLegalAfter set (empty_base (sender_count s)) [] es
  unfolding IsLegal
  legal_whole es h = h.legal

  looks_after : (es more : List Entry) → IsLegalAfter set (empty_base (sender_count s)) es more → IsSoundOn s q (es ++ more) → entries_by (controller s) more ≡ [] → IsAtTime (sender_count s) time es
      → (k t : ℕ) (d : Entry) → k < length more → (slice_index_or more k d).call ≡ Next t → t ≡ time
  looks_after es [] legal sound none at k t d lt is = absurd (omega (arith, lt))
  looks_after es (e ∷ more) legal sound none at zero t d lt is = look_timed es e t legal.0 is at
  looks_after es (e ∷ more) legal sound none at (suc k) t d lt is =
      let base = empty_base (sender_count s) in
      let sound_on : IsSoundOn s q ((es ++ e ∷ []) ++ more) = subst (IsSoundOn s q) (sym (append_assoc es (e ∷ []) more)) sound in
      let others = of_others (controller s) (e ∷ more) none in
      let then_at = stays_at set (controller s) refl refl time es (e ∷ []) (IsLegal-front set base (es ++ e ∷ []) more sound_on.legal) (AreNumbered-front set base (es ++ e ∷ []) more sound_on.numbered) (entries_by-others (controller s) (e ∷ []) (others.0, tt)) at in
      looks_after (es ++ e ∷ []) more legal.1 sound_on (entries_by-others (controller s) more others.1) then_at k t d (omega (arith, lt)) is

  -- so a timing by a look of a round is met at the round's time, by the clock that the queue had
  pub looks_at : (es looks : List Entry) (sender now clock_was queue : ℕ) (timing : Timing) → IsSoundOn s q (es ++ looks) → entries_by (controller s) looks ≡ [] → IsAtTime (sender_count s) time es → now ≡ clock_was
      → IsTimedBy q sender looks now queue timing → IsMet time clock_was timing
  looks_at es looks sender now clock_was queue (At t) sound none at same (e, (k, lt, is), own, call) =
      looks_after es looks (IsLegalAfter-back set (empty_base (sender_count s)) [] es looks (legal_whole (es ++ looks) sound)) sound none at k t e lt (ap (λ x. x.call) is ∙ call)
  looks_at es looks sender now clock_was queue (InBlock t) sound none at same h = absurd h
  looks_at es looks sender now clock_was queue (Exactly t) sound none at same h = h.0 ∙ same
  looks_at es looks sender now clock_was queue AnyTime sound none at same h = absurd h
