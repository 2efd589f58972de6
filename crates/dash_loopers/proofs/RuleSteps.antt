-- A rule's message is one call more of the looper, and the rules of a message follow one after another.
use Rattle.std.proofs.Common.{◌≡◌, ◌≢◌, ℕ, ◌+◌, ◌<◌, ◌≤◌, ◌==◌, ◌&&◌, Bool, true, false, List, [], ◌∷◌, ◌++◌, map, length, get_or, set, take, Option, Some, None, inl, inr, refl, sym, ap, ◌∙◌, subst, arith, append_assoc, ne_eqb}
use Rattle.std.specs.Prelude.{◌⊎◌, slice_get, slice_set, slice_index_or, nat_lt, if◌then◌else◌}
use Rattle.std.specs.List.{zip, filter_map, cons_option}
use Rattle.std.specs.Option.{option_map_or}
use mathlib.Core.Logic.{dite}
use native.Mathlib.Decide.{ℕ_discrete}
use Rattle.std.proofs.Math.Bool.{and-false}
use Rattle.std.proofs.lemmas.Bool.{lt-ltb, le-ltb}
use Rattle.std.proofs.lemmas.List.{append-nil, get_or-set_same, get_or-set_other, length-set, length-append, set_at, take_more, length-take-le, take_all}
use Rattle.std.proofs.lemmas.Option.{slice_get-get_or, slice_get_within, get_or_from_slice_get}
use Rattle.loop_model.specs.declared.post.Post.{Post as PostData}
use Rattle.loop_model.specs.declared.call.Call.{Call}
use Rattle.loop_model.specs.declared.call.Call.TheVariants.{Post}
use Rattle.loop_model.specs.declared.entry.Entry.{Entry}
use Rattle.dash_script.specs.declared.script.Rule.{Rule}
use Rattle.dash_script.specs.declared.script.Script.{Script}
use Rattle.looper_run.specs.Holding.{Sender}
use Rattle.run_model.specs.Planned.{Makes as Asks, AreFor, bare_call, looper_of, sent_by}
use Rattle.run_model.specs.AskedSoFar.{tokens_in}
use Rattle.run_model.specs.Control.{Timing, At}
use Rattle.loop_model.specs.Posts.{moment_after}
use Rattle.run_model.specs.Loopers.{LooperState, SentCall, fires, reaction, reacted, IsSent}
use Rattle.run_model.specs.Parts.{sent_on}
use Rattle.run_model.proofs.RunLaws.{AreFor-snoc}
use Rattle.choreographer.specs.Known.{Pass}
use Rattle.run_model.specs.FrameRecords.{as_told}
use Rattle.dash_hall.specs.Growth.{own, Makes}
use Rattle.dash_hall.specs.Hosts.{pass_asks}
use Rattle.dash_loopers.specs.declared.view_root.ViewRoot.{ViewRoot}
use Rattle.dash_loopers.specs.declared.player.Parts.{Parts}
use Rattle.dash_loopers.specs.Players.{PlaceWithout}
use Rattle.dash_loopers.specs.Played.{calls_of, IsRootOf, IsShown, AreMadeElsewhere, IsPlayed, Plays, AreAllButCounts, FiresAt, with_call, rule_met}
use Rattle.dash_loopers.proofs.LooperLists.{at_seam}
use Rattle.dash_loopers.proofs.LooperSeats.{places_apart}
use Rattle.dash_loopers.proofs.MoreCalls.{sent_here, sent_else, without_self, played_call}

-- ---- one call more

-- the calls for what is sent, with one more
pub one_for : (k : ℕ) (xs : List SentCall) (call : Call) (timing : Timing) (es : List Entry) (e : Entry) → bare_call e.call ≡ call → AreFor IsSent [] (sent_on k xs) es
    → AreFor IsSent [] (sent_on k (xs ++ record { queue = k; ask = Asks call; reply = None; timing = timing } ∷ [])) (es ++ e ∷ [])
one_for k xs call timing es e is h =
    let x : SentCall = record { queue = k; ask = Asks call; reply = None; timing = timing } in
    subst (λ (l : List SentCall). AreFor IsSent [] l (es ++ e ∷ [])) (sym (sent_here k xs x refl))
    (AreFor-snoc IsSent (sent_on k xs) x es e h (record { call = is; reply = tt }))

-- a call elsewhere leaves what is sent on this queue
pub none_for : (k queue : ℕ) (xs : List SentCall) (call : Call) (timing : Timing) (es : List Entry) → queue ≢ k → AreFor IsSent [] (sent_on k xs) es
    → AreFor IsSent [] (sent_on k (xs ++ record { queue = queue; ask = Asks call; reply = None; timing = timing } ∷ [])) es
none_for k queue xs call timing es other h =
    subst (λ (l : List SentCall). AreFor IsSent [] l es) (sym (sent_else k xs (record { queue = queue; ask = Asks call; reply = None; timing = timing }) other)) h

-- a view root stands as it stood, whatever was sent
pub root_sent : (s : Script) (q : ℕ) (tokens : List ℕ) (a : LooperState) (xs : List SentCall) (root : ViewRoot) → IsRootOf s q tokens a root → IsRootOf s q tokens (record a { sent = xs }) root
root_sent s q tokens a xs root h = record { edition = h.edition; gauges = h.gauges; lines = h.lines; barrier = h.barrier; barriers = h.barriers; painted = h.painted }

-- a call on the own queue
pub called_here : (s : Script) (q : ℕ) (post : PostData) (timing : Timing) (p p' : Sender) (parts : Parts) → Makes p p' (bare_call (Post post)) []
    → Plays s q (with_call q (bare_call (Post post)) timing) (calls_of p) parts (calls_of p') parts
called_here s q post timing p p' parts m lockstep text a is = played_call s q (bare_call (Post post)) timing p p' parts refl m a is

-- which queue stands at which place
same_place : (q k k' j j' : ℕ) → PlaceWithout q k j → PlaceWithout q k' j' → k ≡ k' → j' ≡ j
same_place q k k' j j' (inl p) (inl p') is = p'.1 ∙ (sym is ∙ sym p.1)
same_place q k k' j j' (inl p) (inr p') is = (let a : k < q = p.0 in let b : q < k' = p'.0 in absurd (omega (arith, is)))
same_place q k k' j j' (inr p) (inl p') is = (let a : q < k = p.0 in let b : k' < q = p'.0 in absurd (omega (arith, is)))
same_place q k k' j j' (inr p) (inr p') is = (let a : k ≡ j + 1 = p.1 in let b : k' ≡ j' + 1 = p'.1 in omega (arith, is))

-- a call on another queue, by its poster at place j among the others
module _ (lockstep : Bool) (s : Script) (q k j : ℕ) (post : PostData) (timing : Timing) (p p' : Sender) (made : List Entry) (parts parts' : Parts) (place : PlaceWithout q k j) (at : slice_get parts.others.items j ≡ Some p) (m : Makes p p' (bare_call (Post post)) [])
    (others : parts'.others.items ≡ set parts.others.items j p') (frames : parts'.frames ≡ parts.frames) (root : parts'.root ≡ parts.root) (fired : parts'.fired.items ≡ parts.fired.items) (a : LooperState) (is : IsPlayed lockstep s q made parts a) where
  -- what is sent with this call more
  sent_more : List SentCall
  sent_more = a.sent ++ record { queue = k; ask = Asks (bare_call (Post post)); reply = None; timing = timing } ∷ []

  entries_there : (k' j' : ℕ) (d : Sender) → PlaceWithout q k' j' → j' < length parts.others.items → AreFor IsSent [] (sent_on k' sent_more) (own (slice_index_or (set parts.others.items j p') j' d))
  unfolding sent_more
  entries_there k' j' d place' near =
      let items = parts.others.items in
      let near_j : j < length items = slice_get_within items j p at in
      let hit : k ≡ k' → AreFor IsSent [] (sent_on k' sent_more) (own (slice_index_or (set items j p') j' d)) = λ same.
      (let here : get_or (set items j p') j' d ≡ p' = ap (λ (i : ℕ). get_or (set items j p') i d) (same_place q k k' j j' place place' same) ∙ get_or-set_same items j p' d near_j in
      let before : AreFor IsSent [] (sent_on k a.sent) (own p) = subst (λ (z : Sender). AreFor IsSent [] (sent_on k a.sent) (own z)) (get_or_from_slice_get items j p d at) (is.elsewhere k j d place near_j) in
      let after : AreFor IsSent [] (sent_on k sent_more) (own p') = subst (λ (l : List Entry). AreFor IsSent [] (sent_on k sent_more) l) (sym m.made) (one_for k a.sent (bare_call (Post post)) timing (own p) m.entry m.makes before) in
      subst (λ (n : ℕ). AreFor IsSent [] (sent_on n sent_more) (own (get_or (set items j p') j' d))) same (subst (λ (z : Sender). AreFor IsSent [] (sent_on k sent_more) (own z)) (sym here) after)) in
      let miss : k ≢ k' → AreFor IsSent [] (sent_on k' sent_more) (own (slice_index_or (set items j p') j' d)) = λ apart.
      (let there : get_or (set items j p') j' d ≡ get_or items j' d = get_or-set_other items j j' p' d (λ e. places_apart q k k' j j' place place' apart (sym e)) in
      subst (λ (z : Sender). AreFor IsSent [] (sent_on k' sent_more) (own z)) (sym there) (none_for k' k a.sent (bare_call (Post post)) timing (own (get_or items j' d)) apart (is.elsewhere k' j' d place' near))) in
      dite (ℕ_discrete k k') hit miss

  pub called_there : IsPlayed lockstep s q made parts' (with_call k (bare_call (Post post)) timing a)
  unfolding sent_more
  called_there =
      let items = parts.others.items in
      let as_many : length parts'.others.items ≡ length items = ap length others ∙ length-set items j p' in
      record {
        shown = subst (λ (v : ViewRoot). IsShown lockstep s q made parts'.frames v (with_call k (bare_call (Post post)) timing a)) (sym root) (record {
          calls = none_for q k a.sent (bare_call (Post post)) timing made (λ e. without_self q k j place (sym e)) is.shown.calls;
          asked = ap (λ (f : Pass). map (as_told lockstep) (pass_asks f)) frames ∙ is.shown.asked;
          stands = root_sent s q (tokens_in made) a sent_more parts.root is.shown.stands;
        });
        elsewhere = λ k' j' d place' near. subst (λ (l : List Sender). AreFor IsSent [] (sent_on k' sent_more) (own (slice_index_or l j' d))) (sym others) (entries_there k' j' d place' (omega (arith, near, as_many)));
        fired = fired ∙ is.fired;
        counts = ap length fired ∙ is.counts;
      }

-- ---- the rules of a message

-- what a rule's firing says of its count
fires_below : (m : PostData) (r : Rule) (n : ℕ) → (m.handler == r.handler) ≡ true → (m.what == r.what) ≡ true → n < r.times → fires m r n ≡ true
fires_below m r n h w lt = rw (h, w) (lt-ltb n r.times lt)

-- a rule of another message, or whose count is at its limit
fires_not : (m : PostData) (r : Rule) (n : ℕ) → ((m.handler ≢ r.handler) ⊎ (m.what ≢ r.what)) ⊎ (r.times ≤ n) → fires m r n ≡ false
fires_not m r n (inl (inl h)) = ap (λ (b : Bool). b && m.what == r.what && nat_lt n r.times) (ne_eqb m.handler r.handler h)
fires_not m r n (inl (inr w)) = ap (λ (b : Bool). m.handler == r.handler && b && nat_lt n r.times) (ne_eqb m.what r.what w) ∙ ap (λ (b : Bool). b && nat_lt n r.times) (and-false (m.handler == r.handler))
fires_not m r n (inr many) = ap (λ (b : Bool). m.handler == r.handler && m.what == r.what && b) (le-ltb n r.times many) ∙ and-false (m.handler == r.handler && m.what == r.what)

-- a rule that does not fire changes nothing
pub rule_missed : (s : Script) (now : ℕ) (m : PostData) (place : ℕ) (r : Rule) (a : LooperState) → ((n : ℕ) → slice_get a.fired place ≡ Some n → fires m r n ≡ false) → rule_met s now m place r a ≡ a
rule_missed s now m place r a never = by_count (slice_get a.fired place) never
  where
    by_count : (o : Option ℕ) → ((n : ℕ) → o ≡ Some n → fires m r n ≡ false)
        → option_map_or (λ n. if fires m r n then record a { fired = slice_set a.fired place (n + 1); sent = a.sent ++ reaction s now r ∷ [] } else a) o a ≡ a
    by_count None missed = refl
    by_count (Some n) missed = ap (λ (b : Bool). if b then record a { fired = slice_set a.fired place (n + 1); sent = a.sent ++ reaction s now r ∷ [] } else a) (missed n refl)

-- a rule that fires is counted and sends its message
pub rule_fired : (s : Script) (now : ℕ) (m : PostData) (place : ℕ) (r : Rule) (a : LooperState) (n : ℕ) → slice_get a.fired place ≡ Some n → fires m r n ≡ true
    → rule_met s now m place r a ≡ record a { fired = slice_set a.fired place (n + 1); sent = a.sent ++ reaction s now r ∷ [] }
rule_fired s now m place r a n at is =
    let met : ℕ → LooperState = λ x. record a { fired = slice_set a.fired place (x + 1); sent = a.sent ++ reaction s now r ∷ [] } in
    ap (λ (o : Option ℕ). option_map_or (λ x. if fires m r x then met x else a) o a) at ∙ ap (λ (b : Bool). if b then met n else a) is

-- the rules of a list one after another, the first of which stands at this place
abbrev pub rules_met : Script → ℕ → PostData → ℕ → List Rule → LooperState → LooperState
rules_met s now m place [] a = a
rules_met s now m place (r ∷ rs) a = rules_met s now m (place + 1) rs (rule_met s now m place r a)

-- one rule more
rules_more : (s : Script) (now : ℕ) (m : PostData) (place : ℕ) (rs : List Rule) (r : Rule) (a : LooperState) → rules_met s now m place (rs ++ r ∷ []) a ≡ rule_met s now m (place + length rs) r (rules_met s now m place rs a)
rules_more s now m place [] r a = ap (λ (n : ℕ). rule_met s now m n r a) (omega arith)
rules_more s now m place (x ∷ rs) r a =
    rules_more s now m (place + 1) rs r (rule_met s now m place x a) ∙ ap (λ (n : ℕ). rule_met s now m n r (rules_met s now m place (x ∷ rs) a)) (omega arith)

-- the rules up to the next place
pub rules_next : (s : Script) (now : ℕ) (m : PostData) (place : ℕ) (r : Rule) (a : LooperState) → slice_get s.rules place ≡ Some r
    → rule_met s now m place r (rules_met s now m 0 (take place s.rules) a) ≡ rules_met s now m 0 (take (place + 1) s.rules) a
rules_next s now m place r a at =
    let near : place < length s.rules = slice_get_within s.rules place r at in
    let few : place ≤ length s.rules = omega (arith, near) in
    let taken : take (place + 1) s.rules ≡ take place s.rules ++ r ∷ [] = take_more s.rules place r near ∙ ap (λ (x : Rule). take place s.rules ++ x ∷ []) (get_or_from_slice_get s.rules place r r at) in
    let long : place ≡ 0 + length (take place s.rules) = omega (arith, length-take-le place s.rules few) in
    ap (λ (n : ℕ). rule_met s now m n r (rules_met s now m 0 (take place s.rules) a)) long ∙ (sym (rules_more s now m 0 (take place s.rules) r a) ∙ ap (λ (l : List Rule). rules_met s now m 0 l a) (sym taken))

module _ (s : Script) (now : ℕ) (m : PostData) (a : LooperState) where
  -- the state with these counts and these calls
  with_both : List ℕ → List SentCall → LooperState
  with_both fired sent = record a { fired = fired; sent = sent }

  -- a rule's count once the message has met it, and what it sends then
  count_after : Rule × ℕ → ℕ
  count_after (r, n) = if fires m r n then n + 1 else n

  sent_after : Rule × ℕ → Option SentCall
  sent_after (r, n) = if fires m r n then Some (reaction s now r) else None

  -- the same as a list
  more_sent : Rule × ℕ → List SentCall
  more_sent (r, n) = if fires m r n then reaction s now r ∷ [] else []

  consed : (x : SentCall) (xs : List SentCall) (b : Bool) → (if b then x ∷ [] else []) ++ xs ≡ cons_option (if b then Some x else None) xs
  consed x xs true = refl
  consed x xs false = refl

  -- one rule, whose count stands behind those of the rules before
  one_met : (r : Rule) (n : ℕ) (ns done : List ℕ) (sent : List SentCall)
      → rule_met s now m (length done) r (with_both (done ++ n ∷ ns) sent) ≡ with_both ((done ++ count_after (r, n) ∷ []) ++ ns) (sent ++ more_sent (r, n))
  unfolding with_both count_after more_sent
  one_met r n ns done sent = by_test (fires m r n) refl
    where
      by_test : (b : Bool) → fires m r n ≡ b
          → rule_met s now m (length done) r (with_both (done ++ n ∷ ns) sent) ≡ with_both ((done ++ (if fires m r n then n + 1 else n) ∷ []) ++ ns) (sent ++ (if fires m r n then reaction s now r ∷ [] else []))
      by_test true is =
          rule_fired s now m (length done) r (with_both (done ++ n ∷ ns) sent) n (at_seam done n ns) is
          ∙ (ap (λ (l : List ℕ). with_both l (sent ++ reaction s now r ∷ [])) (set_at done n ns (n + 1) (length done) refl ∙ sym (append_assoc done ((n + 1) ∷ []) ns))
          ∙ ap (λ (b : Bool). with_both ((done ++ (if b then n + 1 else n) ∷ []) ++ ns) (sent ++ (if b then reaction s now r ∷ [] else []))) (sym is))
      by_test false is =
          rule_missed s now m (length done) r (with_both (done ++ n ∷ ns) sent) (λ k at. (let same : n ≡ k = (let e : Some n ≡ Some k = sym (at_seam done n ns) ∙ at in cc) in ap (fires m r) (sym same) ∙ is))
          ∙ (λ i. with_both (sym (append_assoc done (n ∷ []) ns) i) (sym (append-nil sent) i))
          ∙ ap (λ (b : Bool). with_both ((done ++ (if b then n + 1 else n) ∷ []) ++ ns) (sent ++ (if b then reaction s now r ∷ [] else []))) (sym is)

  rules_from : (rs : List Rule) (ns done : List ℕ) (sent : List SentCall) → length ns ≡ length rs
      → rules_met s now m (length done) rs (with_both (done ++ ns) sent) ≡ with_both (done ++ map count_after (zip rs ns)) (sent ++ filter_map sent_after (zip rs ns))
  unfolding with_both count_after sent_after more_sent
  rules_from [] [] done sent same = ap (λ (l : List SentCall). with_both (done ++ []) l) (sym (append-nil sent))
  rules_from [] (n ∷ ns) done sent same = absurd (omega (arith, same))
  rules_from (r ∷ rs) [] done sent same = absurd (omega (arith, same))
  rules_from (r ∷ rs) (n ∷ ns) done sent same =
      let n' = count_after (r, n) in
      let x = more_sent (r, n) in
      let ms = map count_after (zip rs ns) in
      let fs = filter_map sent_after (zip rs ns) in
      let long : length done + 1 ≡ length (done ++ n' ∷ []) = omega (arith, length-append done (n' ∷ [])) in
      let rest : length ns ≡ length rs = omega (arith, same) in
      ap (rules_met s now m (length done + 1) rs) (one_met r n ns done sent)
      ∙ (ap (λ (k : ℕ). rules_met s now m k rs (with_both ((done ++ n' ∷ []) ++ ns) (sent ++ x))) long
      ∙ (rules_from rs ns (done ++ n' ∷ []) (sent ++ x) rest
      ∙ (λ i. with_both (append_assoc done (n' ∷ []) ms i) ((append_assoc sent x fs ∙ ap (λ (l : List SentCall). sent ++ l) (consed (reaction s now r) fs (fires m r n))) i))))

  -- all rules one after another are what every other message causes
  pub rules_are : length a.fired ≡ length s.rules → rules_met s now m 0 s.rules a ≡ reacted s now m a
  unfolding with_both count_after sent_after
  rules_are many = rules_from s.rules a.fired [] a.sent many

-- ---- what the functions' clauses are put together from

-- the rule's own message is one call more
message_is : (s : Script) (now : ℕ) (r : Rule) (looper when : ℕ) (post : PostData) (a : LooperState) → looper ≡ looper_of s r.to_handler → post ≡ sent_by s r.to_handler r.to_what when → when ≡ moment_after now r.delay
    → with_call looper (bare_call (Post post)) (At now) a ≡ record a { sent = a.sent ++ reaction s now r ∷ [] }
message_is s now r looper when post a is_looper is_post is_when =
    λ i. with_call (is_looper i) (bare_call (Post ((is_post ∙ ap (sent_by s r.to_handler r.to_what) is_when) i))) (At now) a

-- a step of the same state in other words
pub played_as : (lockstep : Bool) (s : Script) (q : ℕ) (made : List Entry) (parts : Parts) (a b : LooperState) → a ≡ b → IsPlayed lockstep s q made parts a → IsPlayed lockstep s q made parts b
played_as lockstep s q made parts a b same is = subst (IsPlayed lockstep s q made parts) same is

-- the rule is counted
counted : (lockstep : Bool) (s : Script) (q place n : ℕ) (made : List Entry) (parts parts' : Parts) (a : LooperState) → parts'.fired.items ≡ slice_set parts.fired.items place (n + 1) → AreAllButCounts parts parts' → IsPlayed lockstep s q made parts a
    → IsPlayed lockstep s q made parts' (record a { fired = slice_set a.fired place (n + 1) })
counted lockstep s q place n made parts parts' a fired same is = record {
  shown = subst (λ (v : ViewRoot). IsShown lockstep s q made parts'.frames v (record a { fired = slice_set a.fired place (n + 1) })) (sym same.2) (record {
    calls = is.shown.calls;
    asked = ap (λ (f : Pass). map (as_told lockstep) (pass_asks f)) same.1 ∙ is.shown.asked;
    stands = record { edition = is.shown.stands.edition; gauges = is.shown.stands.gauges; lines = is.shown.stands.lines; barrier = is.shown.stands.barrier; barriers = is.shown.stands.barriers; painted = is.shown.stands.painted };
  });
  elsewhere = subst (λ (l : List Sender). AreMadeElsewhere q l (record a { fired = slice_set a.fired place (n + 1) })) (λ i. (sym same.0 i).items) is.elsewhere;
  fired = fired ∙ ap (λ (l : List ℕ). slice_set l place (n + 1)) is.fired;
  counts = ap length fired ∙ (length-set parts.fired.items place (n + 1) ∙ is.counts);
}

-- a rule of the message whose count is below its limit is counted, and its message is sent
pub plays_fired : (s : Script) (q now : ℕ) (m : PostData) (place : ℕ) (r : Rule) (made made' : List Entry) (parts parts' parts'' : Parts) → (m.handler == r.handler) ≡ true → (m.what == r.what) ≡ true → FiresAt place r.times parts parts' true
    → Plays s q (λ a. record a { sent = a.sent ++ reaction s now r ∷ [] }) made parts' made' parts'' → Plays s q (rule_met s now m place r) made parts made' parts''
plays_fired s q now m place r made made' parts parts' parts'' h w (n, at, lt, fired, same) sends lockstep text a is =
    let at_a : slice_get a.fired place ≡ Some n = ap (λ (l : List ℕ). slice_get l place) (sym is.fired) ∙ at in
    played_as lockstep s q made' parts'' _ _ (sym (rule_fired s now m place r a n at_a (fires_below m r n h w lt))) (sends lockstep text (record a { fired = slice_set a.fired place (n + 1) }) (counted lockstep s q place n made parts parts' a fired same is))

-- one whose count is at its limit does nothing
pub plays_used_up : (s : Script) (q now : ℕ) (m : PostData) (place : ℕ) (r : Rule) (made : List Entry) (parts parts' : Parts) → FiresAt place r.times parts parts' false → Plays s q (rule_met s now m place r) made parts made parts'
plays_used_up s q now m place r made parts parts' (same, used_up) lockstep text a is =
    let never : (n : ℕ) → slice_get a.fired place ≡ Some n → fires m r n ≡ false = λ n at.
    (let many = used_up n (ap (λ (l : List ℕ). slice_get l place) is.fired ∙ at) in fires_not m r n (inr many)) in
    subst (λ (z : Parts). IsPlayed lockstep s q made z (rule_met s now m place r a)) (sym same) (played_as lockstep s q made parts _ _ (sym (rule_missed s now m place r a never)) is)

-- one of another message does nothing
pub plays_other : (s : Script) (q now : ℕ) (m : PostData) (place : ℕ) (r : Rule) (made : List Entry) (parts : Parts) → (m.handler ≢ r.handler) ⊎ (m.what ≢ r.what) → Plays s q (rule_met s now m place r) made parts made parts
plays_other s q now m place r made parts other lockstep text a is =
    played_as lockstep s q made parts _ _ (sym (rule_missed s now m place r a (λ n at. fires_not m r n (inl other)))) is

-- the message of a rule was sent
pub plays_sent : (s : Script) (q now : ℕ) (r : Rule) (looper when : ℕ) (post : PostData) (made made' : List Entry) (parts parts' : Parts) → looper ≡ looper_of s r.to_handler → post ≡ sent_by s r.to_handler r.to_what when → when ≡ moment_after now r.delay
    → Plays s q (with_call looper (bare_call (Post post)) (At now)) made parts made' parts' → Plays s q (λ a. record a { sent = a.sent ++ reaction s now r ∷ [] }) made parts made' parts'
plays_sent s q now r looper when post made made' parts parts' is_looper is_post is_when plays lockstep text a is =
    played_as lockstep s q made' parts' _ _ (message_is s now r looper when post a is_looper is_post is_when) (plays lockstep text a is)

-- the rule at a place of the same list
pub rule_at : (xs ys : List Rule) (place : ℕ) (d : Rule) → ys ≡ xs → place < length ys → slice_get xs place ≡ Some (get_or ys place d)
rule_at xs ys place d same near = ap (λ (l : List Rule). slice_get l place) (sym same) ∙ slice_get-get_or ys place d near

-- one rule more
pub plays_next : (s : Script) (q now : ℕ) (m : PostData) (place : ℕ) (r : Rule) (made made' made'' : List Entry) (parts parts' parts'' : Parts) → slice_get s.rules place ≡ Some r → Plays s q (rules_met s now m 0 (take place s.rules)) made parts made' parts'
    → Plays s q (rule_met s now m place r) made' parts' made'' parts'' → Plays s q (rules_met s now m 0 (take (place + 1) s.rules)) made parts made'' parts''
plays_next s q now m place r made made' made'' parts parts' parts'' at before next lockstep text a is =
    played_as lockstep s q made'' parts'' _ _ (rules_next s now m place r a at) (next lockstep text (rules_met s now m 0 (take place s.rules) a) (before lockstep text a is))

-- all rules of the message have been met
pub plays_all : (s : Script) (q now : ℕ) (m : PostData) (place : ℕ) (made made' : List Entry) (parts parts' : Parts) → length s.rules ≤ place → Plays s q (rules_met s now m 0 (take place s.rules)) made parts made' parts' → Plays s q (reacted s now m) made parts made' parts'
plays_all s q now m place made made' parts parts' all plays lockstep text a is =
    let taken : take place s.rules ≡ s.rules = take_all place s.rules all in
    let many : length a.fired ≡ length s.rules = sym (ap length is.fired) ∙ is.counts in
    played_as lockstep s q made' parts' _ _ (ap (λ (l : List Rule). rules_met s now m 0 l a) taken ∙ rules_are s now m a many) (plays lockstep text a is)
