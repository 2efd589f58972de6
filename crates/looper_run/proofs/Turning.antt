-- What a look for a message does to the looper.
use Rattle.std.proofs.Common.{◌≡◌, ℕ, zero, suc, ◌+◌, ◌<◌, get_or, max, List, [], ◌∷◌, ◌++◌, length, All, Some, refl, sym, ap, ◌∙◌, subst, arith, append_assoc, if◌then◌else◌}
use Rattle.std.specs.List.{cons_option}
use Rattle.std.proofs.lemmas.List.{append-nil}
use Rattle.std.proofs.lemmas.List.Elements.{filter_map-append}
use Rattle.std.proofs.lemmas.List.Sums.{sum_by-cons}
use Rattle.atomic_table.specs.Seated.{TableId}
use Rattle.loop_model.specs.declared.journal.Act.{Act}
use Rattle.loop_model.specs.declared.journal.Act.TheVariants.{Dispatch}
use Rattle.loop_model.specs.declared.journal.Route.{Route}
use Rattle.loop_model.specs.declared.call.Call.TheVariants.{Next}
use Rattle.loop_model.specs.declared.reply.Reply.TheVariants.{Dispatched}
use Rattle.loop_model.specs.declared.entry.Entry.{Entry}
use Rattle.loop_model.specs.Answers.{Setting, clock}
use Rattle.queue_state.specs.Queue.{moment_at}
use Rattle.shared_queue.specs.Constants.{Constants, made_in, IsStateOf}
use Rattle.loop_model.specs.declared.segment.Segment.{Segment}
use Rattle.shared_queue.specs.Known.{IsTurnWith}
use Rattle.shared_queue.proofs.Prefixes.{one_of, made_in-append, one_of-yes}
use Rattle.looper_run.specs.Holding.{Sender, State, Holding}
use Rattle.looper_run.specs.Acts.{entry_dispatch, taken_messages, IsNoLookOf, IsQuietAct, moment_on, IsLookAt, AreLooksAt}
use Rattle.loop_model.specs.Dispatches.{act_dispatch, dispatches, call_dispatch}
use Rattle.looper_run.specs.Tests.{Test, IsSameLooper, IsLent}
use Rattle.looper_run.specs.Round.{Works}
use Rattle.looper_run.proofs.Working.{first_all, told_none, takes_none, no_looks_at, looks_append, entry_of_own, same_then, behind}

abbrev pub IsOther : ℕ → Entry → Type 0
IsOther sender e = e.sender ≡ sender → ⊥

at_each : {A : Type 0} (P : A → Type 0) (x : A) (xs : List A) → P x → All P xs → (k : ℕ) (d : A) → k < length (x ∷ xs) → P (get_or (x ∷ xs) k d)
at_each P x xs p all zero d near = p
at_each P x xs p all (suc k) d near = all k d (omega arith)

pub all_first : {A : Type 0} (P : A → Type 0) (x : A) (xs : List A) → P x → All P xs → All P (x ∷ xs)
all_first P x xs p all = at_each P x xs p all

-- entries among which none is the sender's
pub all_others : (sender : ℕ) (more : List Entry) → made_in sender more ≡ 0 → All (IsOther sender) more
all_others sender [] none = λ k d near. absurd (omega arith)
all_others sender (e ∷ more) none =
    let sum : made_in sender (e ∷ more) ≡ one_of sender e + made_in sender more = sum_by-cons (one_of sender) e more in
    let rest : made_in sender more ≡ 0 = omega (arith, sum, none) in
    let first : IsOther sender e = λ own. (let one : one_of sender e ≡ 1 = one_of-yes sender e own in omega (arith, sum, none, one)) in
    all_first (IsOther sender) e more first (all_others sender more rest)

-- what a turn found goes on from what the poster had seen, by entries of others
pub record Found (p : Sender) (x : State) : Type 0 where
  pub others : List Entry
  pub entries : x.entries ≡ p.view.seen ++ others
  pub all : All (IsOther p.sender) others

pub found : {parts : List Segment} (p q : Sender) (x y : State) → IsTurnWith parts p q x y → Found p x
found p q x y t =
    let more = t.begins.0 in
    let whole : p.view.seen ++ more ≡ x.entries = t.begins.1 in
    let count : made_in p.sender (p.view.seen ++ more) ≡ made_in p.sender p.view.seen + made_in p.sender more = made_in-append p.sender p.view.seen more in
    let same : made_in p.sender (p.view.seen ++ more) ≡ made_in p.sender p.view.seen = ap (made_in p.sender) whole ∙ t.found_made in
    let none : made_in p.sender more ≡ 0 = omega (arith, count, same) in
    record { others = more; entries = sym whole; all = all_others p.sender more none }

-- others make no looks of this sender
pub no_looks : (sender : ℕ) (more : List Entry) → All (IsOther sender) more → All (IsNoLookOf sender) more
no_looks sender more others = λ k d near. λ own. absurd (others k d near own)

-- a test that stays true where others make entries
pub with_others : (M : Test) (s : ℕ) (past more : List Entry) (acts : List Act) → ((es : List Entry) (e : Entry) → IsOther s e → M s es acts → M s (es ++ e ∷ []) acts) → All (IsOther s) more → M s past acts → M s (past ++ more) acts
with_others M s past [] acts law others h = subst (λ (l : List Entry). M s l acts) (sym (append-nil past)) h
with_others M s past (e ∷ more) acts law others h =
    let parts = first_all (IsOther s) e more others in
    subst (λ (l : List Entry). M s l acts) (append_assoc past (e ∷ []) more) (with_others M s (past ++ e ∷ []) more acts law parts.1 (law past e parts.0 h))

-- a test that stays true where such an act is appended
pub with_quiet : (M : Test) (s : ℕ) (es : List Entry) (acts did : List Act) → ((acts : List Act) (a : Act) → IsQuietAct a → M s es acts → M s es (acts ++ a ∷ [])) → All IsQuietAct did → M s es acts → M s es (acts ++ did)
with_quiet M s es acts [] law quiet h = subst (λ (l : List Act). M s es l) (sym (append-nil acts)) h
with_quiet M s es acts (a ∷ did) law quiet h =
    let parts = first_all IsQuietAct a did quiet in
    subst (λ (l : List Act). M s es l) (append_assoc acts (a ∷ []) did) (with_quiet M s es (acts ++ a ∷ []) did law parts.1 (law acts a parts.0 h))

-- in a state with these constants
pub moment_is : (key : Constants TableId) (x : State) (past : List Entry) (now : ℕ) → IsStateOf key x → x.entries ≡ past → moment_at x now ≡ moment_on key.setting past now
moment_is key x past now own is = λ i. if (own.setting i).lockstep then clock (own.start i) (is i) else max now (clock (own.start i) (is i))

module _ (s : Setting) (now : ℕ) where
  -- the poster took a turn that left this tail behind what it found, and the rest is at this act or acts
  pub works_turn : (a b : Holding) (x y : State) (tail : List Entry) (did : List Act) → IsSameLooper a b
      → Found a.poster x → y.entries ≡ x.entries ++ tail → b.poster.view.seen ≡ y.entries → b.journal.acts ≡ a.journal.acts ++ did
      → dispatches did ≡ taken_messages a.poster.sender tail → AreLooksAt s a.poster.sender now x.entries tail → Works s now a b (length (dispatches did))
  works_turn a b x y tail did same f left seen acts told looks =
      let behind : b.poster.view.seen ≡ a.poster.view.seen ++ (f.others ++ tail) =
      seen ∙ (left ∙ (ap (λ (l : List Entry). l ++ tail) f.entries ∙ append_assoc a.poster.view.seen f.others tail)) in
      let none : taken_messages a.poster.sender f.others ≡ [] = takes_none a.poster.sender f.others (no_looks a.poster.sender f.others f.all) in
      record {
        same = same;
        more = f.others ++ tail;
        did = did;
        seen = behind;
        acts = acts;
        told = told ∙ sym (filter_map-append (entry_dispatch a.poster.sender) f.others tail ∙ ap (λ (l : List (ℕ × ℕ)). l ++ taken_messages a.poster.sender tail) none);
        count_is = refl;
        looks = looks_append s a.poster.sender now a.poster.view.seen f.others tail
            (no_looks_at s a.poster.sender now a.poster.view.seen f.others (no_looks a.poster.sender f.others f.all))
            (subst (λ (l : List Entry). AreLooksAt s a.poster.sender now l tail) f.entries looks);
      }

  -- the poster took a turn that took this message, then it was dispatched, and told
  pub works_taken : (a b c d : Holding) (x y : State) (e : Entry) (n at : ℕ) (route : Route) → IsSameLooper a b → Found a.poster x → y.entries ≡ x.entries ++ e ∷ [] → b.poster.view.seen ≡ y.entries → b.journal.acts ≡ a.journal.acts
      → e.sender ≡ a.poster.sender → e.call ≡ Next at → e.reply ≡ Dispatched n → at ≡ moment_on s x.entries now
      → IsLent b c → IsSameLooper c d → d.poster.view.seen ≡ c.poster.view.seen → d.journal.acts ≡ c.journal.acts ++ Dispatch n at route ∷ [] → Works s now a d 1
  works_taken a b c d x y e n at route same f left seen acts own call reply moment lent same' seen' acts' =
      let sender = a.poster.sender in
      let pair : List (ℕ × ℕ) = (n, at) ∷ [] in
      let none : taken_messages sender f.others ≡ [] = takes_none sender f.others (no_looks sender f.others f.all) in
      let mine : All (IsNoLookOf sender) lent.more = subst (λ (k : ℕ). All (IsNoLookOf k) lent.more) same.sender lent.no_looks in
      let after : taken_messages sender lent.more ≡ [] = takes_none sender lent.more mine in
      let one : entry_dispatch sender e ≡ Some (n, at) = entry_of_own sender e own ∙ (λ i. call_dispatch (call i) (reply i)) in
      let first : taken_messages sender (f.others ++ e ∷ []) ≡ pair =
      filter_map-append (entry_dispatch sender) f.others (e ∷ []) ∙ (λ i. none i ++ cons_option (one i) []) in
      let taken : taken_messages sender ((f.others ++ e ∷ []) ++ lent.more) ≡ pair =
      filter_map-append (entry_dispatch sender) (f.others ++ e ∷ []) lent.more ∙ (λ i. first i ++ after i) in
      let told : dispatches (lent.did ++ Dispatch n at route ∷ []) ≡ pair =
      filter_map-append act_dispatch lent.did (Dispatch n at route ∷ []) ∙ ap (λ (l : List (ℕ × ℕ)). l ++ pair) (told_none lent.did lent.told) in
      let here : b.poster.view.seen ≡ a.poster.view.seen ++ (f.others ++ e ∷ []) =
      seen ∙ (left ∙ (ap (λ (l : List Entry). l ++ e ∷ []) f.entries ∙ append_assoc a.poster.view.seen f.others (e ∷ []))) in
      let look : AreLooksAt s sender now x.entries (e ∷ []) = (λ _. subst (λ c. IsLookAt (moment_on s x.entries now) c) (sym call) moment, tt) in
      let until : AreLooksAt s sender now a.poster.view.seen (f.others ++ e ∷ []) =
      looks_append s sender now a.poster.view.seen f.others (e ∷ []) (no_looks_at s sender now a.poster.view.seen f.others (no_looks sender f.others f.all))
      (subst (λ (l : List Entry). AreLooksAt s sender now l (e ∷ [])) f.entries look) in
      record {
        same = same_then a c d (same_then a b c same lent.same) same';
        more = (f.others ++ e ∷ []) ++ lent.more;
        did = lent.did ++ Dispatch n at route ∷ [];
        seen = seen' ∙ behind a.poster.view.seen b.poster.view.seen c.poster.view.seen (f.others ++ e ∷ []) lent.more here lent.seen;
        acts = acts' ∙ (ap (λ (l : List Act). l ++ Dispatch n at route ∷ []) (lent.acts ∙ ap (λ (l : List Act). l ++ lent.did) acts) ∙ append_assoc a.journal.acts lent.did (Dispatch n at route ∷ []));
        told = told ∙ sym taken;
        count_is = ap length told;
        looks = looks_append s sender now a.poster.view.seen (f.others ++ e ∷ []) lent.more until
            (no_looks_at s sender now (a.poster.view.seen ++ (f.others ++ e ∷ [])) lent.more mine);
      }
