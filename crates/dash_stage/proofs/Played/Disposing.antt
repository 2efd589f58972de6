-- What stood before a looper's calls but the one that disposed of its queue.
use Rattle.std.proofs.Common.{◌≡◌, ℕ, Bool, true, false, List, [], ◌∷◌, ◌++◌, refl, ap, ◌∙◌}
use Rattle.std.specs.Prelude.{◌==◌, if◌then◌else◌}
use Rattle.loop_model.specs.declared.entry.Entry.{Entry}
use Rattle.run_model.specs.Planned.{entries_by}
use Rattle.run_model.specs.Parts.{befores_after}
use Rattle.run_model.specs.Control.{Before, before, befores, befores_from}
use Rattle.dash_loopers.specs.Loopers.{is_disposal}
use Rattle.dash_stage.specs.Playing.{befores_called}
use Rattle.dash_stage.proofs.Played.RoundTimes.{is_call_of}
use Rattle.dash_loopers.proofs.OwnLooks.{NoneDisposes}
use Rattle.dash_loopers.proofs.Disposing.{none_first}

module _ (k : ℕ) where
  same_befores : (past es : List Entry) → NoneDisposes (entries_by k es) → befores_after k past es ≡ befores_from (is_call_of k) past es
  same_befores past [] none = refl
  same_befores past (e ∷ es) none =
      let parts = none_first k e es none in
      first parts.0 (e.sender == k) refl (same_befores (past ++ e ∷ []) es parts.1)
    where
      first : ((e.sender == k) ≡ true → is_disposal e ≡ false) → (t : Bool) → (e.sender == k) ≡ t → befores_after k (past ++ e ∷ []) es ≡ befores_from (is_call_of k) (past ++ e ∷ []) es
          → befores_after k past (e ∷ es) ≡ befores_from (is_call_of k) past (e ∷ es)
      first free true own rest = let mine = free own in rw (own, mine) (ap (λ l. before past ∷ l) rest)
      first free false other rest = rw other rest

  no_befores : (past es : List Entry) → entries_by k es ≡ [] → (befores_after k past es ≡ []) × (befores_from (is_call_of k) past es ≡ [])
  no_befores past [] none = (refl, refl)
  no_befores past (e ∷ es) none = go (e.sender == k) refl none (λ h. no_befores (past ++ e ∷ []) es h)
    where
      go : (t : Bool) → (e.sender == k) ≡ t → (if t then e ∷ entries_by k es else entries_by k es) ≡ [] → (entries_by k es ≡ [] → (befores_after k (past ++ e ∷ []) es ≡ []) × (befores_from (is_call_of k) (past ++ e ∷ []) es ≡ []))
          → (befores_after k past (e ∷ es) ≡ []) × (befores_from (is_call_of k) past (e ∷ es) ≡ [])
      go true own none rest = absurd cc
      go false other none rest = let both = rest none in (rw other both.0, rw other both.1)

  -- one more stood before the last entry, which disposed of the queue
  last_before : (past es cs : List Entry) (e : Entry) → entries_by k es ≡ cs ++ e ∷ [] → NoneDisposes cs → is_disposal e ≡ true
      → (b : Before) × (befores_after k past es ≡ befores_from (is_call_of k) past es ++ b ∷ [])
  last_before past [] [] e whole none is = absurd cc
  last_before past [] (c ∷ cs) e whole none is = absurd cc
  last_before past (x ∷ es) cs e whole none is = go (x.sender == k) refl cs whole none (λ ds w n. last_before (past ++ x ∷ []) es ds e w n is)
    where
      go : (t : Bool) → (x.sender == k) ≡ t → (cs : List Entry) → (if t then x ∷ entries_by k es else entries_by k es) ≡ cs ++ e ∷ [] → NoneDisposes cs
          → ((ds : List Entry) → entries_by k es ≡ ds ++ e ∷ [] → NoneDisposes ds → (b : Before) × (befores_after k (past ++ x ∷ []) es ≡ befores_from (is_call_of k) (past ++ x ∷ []) es ++ b ∷ []))
          → (b : Before) × (befores_after k past (x ∷ es) ≡ befores_from (is_call_of k) past (x ∷ es) ++ b ∷ [])
      go true own [] whole none rest = (
          let same : x ≡ e = cc in
          let over : entries_by k es ≡ [] = cc in
          let both = no_befores (past ++ x ∷ []) es over in
          let gone : is_disposal x ≡ true = ap (λ z. is_disposal z) same ∙ is in
          let a = both.0 in
          let b = both.1 in
          (before past, rw (own, gone, a, b) refl))
      go true own (c ∷ cs) whole none rest = (
          let same : x ≡ c = cc in
          let later : entries_by k es ≡ cs ++ e ∷ [] = cc in
          let free : is_disposal x ≡ false = ap (λ z. is_disposal z) same ∙ none.0 in
          let more = rest cs later none.1 in
          (more.0, rw (own, free) (ap (λ l. before past ∷ l) more.1)))
      go false other cs whole none rest = let more = rest cs whole none in (more.0, rw other more.1)

  -- the same of a whole history
  pub befores_are : (es : List Entry) → NoneDisposes (entries_by k es) → befores k es ≡ befores_called k es
  unfolding befores befores_called
  befores_are es none = same_befores [] es none

  pub befores_end : (es cs : List Entry) (e : Entry) → entries_by k es ≡ cs ++ e ∷ [] → NoneDisposes cs → is_disposal e ≡ true → (b : Before) × (befores k es ≡ befores_called k es ++ b ∷ [])
  unfolding befores befores_called
  befores_end es cs e whole none is = last_before [] es cs e whole none is
