-- In a loop by a clock a looper goes on from where it stood: what keeps that it has.
use Rattle.std.proofs.Common.{◌≡◌, ℕ, Bool, true, false, List, [], ◌∷◌, ◌++◌, Some, sym, ap, ◌∙◌, subst}
use Rattle.std.specs.Prelude.{Result, Ok, Err, is_ok, OnOk}
use Rattle.loop_model.specs.declared.post.Post.{Post as PostData}
use Rattle.shared_queue.specs.Known.{IsSamePoster}
use Rattle.loop_model.specs.declared.entry.Entry.{Entry}
use Rattle.loop_model.specs.declared.journal.Act.{Act}
use Rattle.loop_model.specs.declared.journal.Act.TheVariants.{Dispatch}
use Rattle.loop_model.specs.declared.journal.Route.{Route}
use Rattle.loop_model.specs.Posts.{post_at}
use Rattle.message_slot.specs.Letter.{number_in, post_of}
use Rattle.message_pool.specs.Passes.{Node}
use Rattle.dash_script.specs.declared.script.Script.{Script}
use Rattle.looper_run.specs.Holding.{Sender, Holding}
use Rattle.looper_run.specs.Tests.{Passes, PassesWith, IsLent, IsTake, HasTakenMessage, Unless}
use Rattle.looper_run.specs.declared.dispatcher.Did.{Did}
use Rattle.looper_run.specs.declared.dispatcher.Did.TheVariants.{Yes, No, NoMemory}
use Rattle.dash_loopers.specs.declared.player.Parts.{Parts}
use Rattle.dash_loopers.specs.declared.looper.StageLooper.{StageLooper}
use Rattle.dash_loopers.specs.Loopers.{goes_to_rules}
use Rattle.dash_loopers.specs.Played.{calls_in, calls_of, MayTellDelivery, Delivers, looper_pulsed, Pulses, IsPlayingBy}
use Rattle.dash_loopers.proofs.LooperStands.{stands_pulse, by_dispatch, taken_delivers, stands_dispatch}
use Rattle.dash_loopers.proofs.LooperPlaying.{did_well}

-- a message that goes to the rules is delivered at the moment of its dispatch
abbrev IsAtOnce : ℕ → PostData → ℕ → ℕ → Type 0
IsAtOnce q m u now = goes_to_rules q m ≡ true → u ≡ now

-- so in free mode its delivery is told at the moment of its dispatch
in_free : (q u now : ℕ) (m : PostData) (is_moment : ℕ → Bool) → IsAtOnce q m u now → MayTellDelivery false q m u is_moment now
in_free q u now m is_moment once = record {
  rules = λ is. sym (once is);
  time = λ is. absurd (let wrong : false ≡ true = is in cc);
  frame = λ is. absurd (let wrong : false ≡ true = is in cc);
}

module _ (s : Script) (q : ℕ) (began : StageLooper) where
  -- a pulse was delivered and told, or none came
  pulsed_by : (now k k' : ℕ) (es es' more : List Entry) (acts acts' : List Act) (parts parts' : Parts) → k' ≡ k → es' ≡ es ++ more → Pulses s q now (calls_in k es) (calls_in k' es') parts parts' acts acts'
      → IsPlayingBy s q began k es acts parts → IsPlayingBy s q began k' es' acts' parts'
  pulsed_by now k k' es es' more acts acts' parts parts' same saw p meets =
      let here : Pulses s q now (calls_in k es) (calls_in k (es ++ more)) parts parts' acts acts' = subst (λ l. Pulses s q now (calls_in k es) l parts parts' acts acts') (λ i. calls_in (same i) (saw i)) p in
      subst (λ (n : ℕ). IsPlayingBy s q began n es' acts' parts') (sym same) (subst (λ (l : List Entry). IsPlayingBy s q began k l acts' parts') (sym saw) (λ text a come.
      (let c = meets text a come in
      (looper_pulsed q here.stamp c.0, stands_pulse s q k now es more acts acts' parts parts' c.0 text here c.1))))

  pub by_pulse : (now : ℕ) (before after : Holding) (parts parts' : Parts) → IsLent before after → Pulses s q now (calls_of before.poster) (calls_of after.poster) parts parts' before.journal.acts after.journal.acts
      → Passes (λ k es acts. IsPlayingBy s q began k es acts parts) before → Passes (λ k es acts. IsPlayingBy s q began k es acts parts') after
  by_pulse now before after parts parts' lent p meets =
      pulsed_by now before.poster.sender after.poster.sender before.poster.view.seen after.poster.view.seen lent.more before.journal.acts after.journal.acts parts parts' lent.same.sender lent.seen p meets

  -- a message that was taken is dispatched, and delivered at a moment that was read
  dispatched_by : (k k' n time u : ℕ) (is_moment : ℕ → Bool) (m : PostData) (past es es' more : List Entry) (e : Entry) (acts acts' : List Act) (route : Route) (parts parts' : Parts) → k' ≡ k → es ≡ past ++ e ∷ [] → es' ≡ es ++ more
      → IsTake k time n e → post_at past n ≡ Some m → IsAtOnce q m u time → Delivers s q u is_moment m (calls_in k es) (calls_in k' es') parts parts' acts acts'
      → IsPlayingBy s q began k past acts parts → IsPlayingBy s q began k' es' (acts' ++ Dispatch n time route ∷ []) parts'
  dispatched_by k k' n time u is_moment m past es es' more e acts acts' route parts parts' same seen saw take post once d meets =
      let whole : es' ≡ (past ++ e ∷ []) ++ more = saw ∙ ap (λ (l : List Entry). l ++ more) seen in
      let here = taken_delivers s q k k' u is_moment m past es es' more e acts acts' parts parts' same seen saw d in
      subst (λ (j : ℕ). IsPlayingBy s q began j es' (acts' ++ Dispatch n time route ∷ []) parts') (sym same)
      (subst (λ (l : List Entry). IsPlayingBy s q began k l (acts' ++ Dispatch n time route ∷ []) parts') (sym whole) (λ text a come.
      (let c = meets text a come in (
        by_dispatch s q k n time u is_moment m past more e take acts acts' parts parts' here c.0,
        stands_dispatch s q k n time u is_moment m past more e take acts acts' parts parts' here c.0 text (in_free q u time m is_moment once) c.1 route post,
      ))))

  pub by_delivery : (time u : ℕ) (is_moment : ℕ → Bool) (node : Node) (route : Route) (before after : Holding) (parts parts' : Parts) → IsLent before after
      → HasTakenMessage (λ k es acts. IsPlayingBy s q began k es acts parts) before node time → IsAtOnce q (post_of node.item) u time
      → Delivers s q u is_moment (post_of node.item) (calls_of before.poster) (calls_of after.poster) parts parts' before.journal.acts after.journal.acts
      → PassesWith (λ k es acts. IsPlayingBy s q began k es acts parts') after node time route
  by_delivery time u is_moment node route before after parts parts' lent t once d =
      dispatched_by before.poster.sender after.poster.sender (number_in node.item) time u is_moment (post_of node.item) t.past before.poster.view.seen after.poster.view.seen lent.more t.take before.journal.acts after.journal.acts route parts parts' lent.same.sender t.seen lent.seen t.is_take t.post once d t.passes

  -- a pulse was delivered, or none came, unless memory ran out
  pub pulse_or_none_by : (now : ℕ) (d : Did) (before after : Holding) (parts parts' : Parts) → IsLent before after → Unless d (Pulses s q now (calls_of before.poster) (calls_of after.poster) parts parts' before.journal.acts after.journal.acts)
      → Passes (λ k es acts. IsPlayingBy s q began k es acts parts) before → Unless d (Passes (λ k es acts. IsPlayingBy s q began k es acts parts') after)
  pulse_or_none_by now Yes before after parts parts' lent p meets = by_pulse now before after parts parts' lent p meets
  pulse_or_none_by now No before after parts parts' lent p meets = by_pulse now before after parts parts' lent p meets
  pulse_or_none_by now NoMemory before after parts parts' lent p meets = tt

  -- a message was dispatched, unless memory ran out
  pub dispatches_well_by : {A E : Type 0} (time u : ℕ) (is_moment : ℕ → Bool) (node : Node) (route : Route) (m : PostData) (r : Result A E) (d : Did) (before after : Holding) (parts parts' : Parts) → m ≡ post_of node.item → IsAtOnce q m u time → IsLent before after
      → HasTakenMessage (λ k es acts. IsPlayingBy s q began k es acts parts) before node time
      → OnOk r (Delivers s q u is_moment m (calls_of before.poster) (calls_of after.poster) parts parts' before.journal.acts after.journal.acts)
      → (d ≡ No → ⊥) → (d ≡ Yes → is_ok r ≡ true)
      → Unless d (PassesWith (λ k es acts. IsPlayingBy s q began k es acts parts') after node time route)
  dispatches_well_by time u is_moment node route m r d before after parts parts' is once lent t done never well = did_well r d _ never well (by_end r done)
    where
      by_end : {A E : Type 0} (r : Result A E) → OnOk r (Delivers s q u is_moment m (calls_of before.poster) (calls_of after.poster) parts parts' before.journal.acts after.journal.acts) → OnOk r (PassesWith (λ k es acts. IsPlayingBy s q began k es acts parts') after node time route)
      by_end (Ok x) h = by_delivery time u is_moment node route before after parts parts' lent t (subst (λ (p : PostData). IsAtOnce q p u time) is once) (subst (λ (p : PostData). Delivers s q u is_moment p (calls_of before.poster) (calls_of after.poster) parts parts' before.journal.acts after.journal.acts) is h)
      by_end (Err e) h = tt

-- ---- a bell that was rung behind a delivery

-- its calls are the same
pub calls_rung : (p p' : Sender) → IsSamePoster p p' → p'.view.seen ≡ p.view.seen → calls_of p' ≡ calls_of p
calls_rung p p' same seen = λ i. calls_in (same.sender i) (seen i)
