-- What a frame record was asked for is parted, in turn, among those who ask: the threads by their lines, and the looper by its acts.
use Rattle.std.proofs.Common.{◌≡◌, ◌<◌, ◌≤◌, ◌+◌, ◌-◌, ◌==◌, length, subst, ℕ, zero, suc, Bool, true, false, List, [], ◌∷◌, ◌++◌, Option, Some, None, map, refl, sym, ap, ◌∙◌, arith, slice_index_or, append_assoc, append-nil}
use Rattle.std.specs.Prelude.{if◌then◌else◌, MatchBool}
use Rattle.std.specs.List.{cons_option, filter_map, range_with_len}
use Rattle.std.specs.Option.{option_map}
use Rattle.std.proofs.Math.ListN.{get_or-append}
use Rattle.std.proofs.lemmas.Bool.{eq-eqb, ne_eqb}
use Rattle.std.proofs.lemmas.List.{append_cancel_left, get_or-append_right, length-append}
use Rattle.std.proofs.lemmas.List.Elements.{filter_map-append}
use Rattle.std.proofs.lemmas.List.FromFn.{get_or-map-range_with_len, length-map-range_with_len}
use mathlib.Core.Logic.{dite}
use native.Mathlib.Decide.{ℕ_discrete, dec_lt}
use Rattle.dash_hall.proofs.FramePosts.{told_whole}
use mathlib.Core.List.{IsPrefix, map-append}
use Rattle.frame_phases.specs.declared.entry.FrameEntry.{FrameEntry}
use Rattle.frame_phases.specs.Parting.{dealt_to, AreParted}
use Rattle.dash_script.specs.declared.script.Script.{Script}
use Rattle.choreographer.specs.Known.{Pass}
use Rattle.choreographer.specs.Ends.{AreHeard, own_of}
use Rattle.run_model.specs.Planned.{lines_of}
use Rattle.run_model.specs.Loopers.{LooperState, asked_then}
use Rattle.run_model.specs.FrameRecords.{FrameAsk, asked_in, asks_in, as_told, AreAskedInTurn}
use Rattle.run_model.specs.AskedSoFar.{lines_ask, HaveAsked, second, asked_so_far}
use Rattle.run_model.proofs.AskedInTurn.{AreAskedBy, asked_of, then_asks, parted_in_turn, all_asked}
use Rattle.dash_hall.specs.declared.kit.Kit.{Kit}
use Rattle.dash_hall.specs.Hosts.{pass_asks}
use Rattle.dash_stage.specs.Records.{passes_at}

-- the part of a number behind a map of parts
part_mapped : {X Y : Type 0} (f : List X → List Y) (parts : List (List X)) (k : ℕ) → f [] ≡ [] → f (slice_index_or parts k []) ≡ slice_index_or (map f parts) k []
part_mapped f [] k none = none
part_mapped f (p ∷ ps) zero none = refl
part_mapped f (p ∷ ps) (suc k) none = part_mapped f ps k none

module _ {X Y : Type 0} (f : X → Option Y) where
  -- what is dealt, where a map gives something of it
  abbrev given_of : ℕ × X → Option (ℕ × Y)
  given_of d = option_map (λ (y : Y). (d.0, y)) (f d.1)

  given_whole : (dealt : List (ℕ × X)) → map (λ (d : ℕ × Y). d.1) (filter_map given_of dealt) ≡ filter_map f (map (λ (d : ℕ × X). d.1) dealt)
  given_whole [] = refl
  given_whole ((n, x) ∷ dealt) = by_case (f x) (given_whole dealt)
    where
      by_case : (o : Option Y) → map (λ (d : ℕ × Y). d.1) (filter_map given_of dealt) ≡ filter_map f (map (λ (d : ℕ × X). d.1) dealt)
          → map (λ (d : ℕ × Y). d.1) (cons_option (option_map (λ (y : Y). (n, y)) o) (filter_map given_of dealt)) ≡ cons_option o (filter_map f (map (λ (d : ℕ × X). d.1) dealt))
      by_case None rest = rest
      by_case (Some y) rest = ap (λ l. y ∷ l) rest

  given_to : (k : ℕ) (dealt : List (ℕ × X)) → dealt_to k (filter_map given_of dealt) ≡ filter_map f (dealt_to k dealt)
  given_to k [] = refl
  given_to k ((n, x) ∷ dealt) = by_case (n == k) refl (f x) refl (given_to k dealt)
    where
      by_case : (b : Bool) → (n == k) ≡ b → (o : Option Y) → f x ≡ o → dealt_to k (filter_map given_of dealt) ≡ filter_map f (dealt_to k dealt)
          → dealt_to k (cons_option (option_map (λ (y : Y). (n, y)) o) (filter_map given_of dealt)) ≡ filter_map f (cons_option (if b then Some x else None) (dealt_to k dealt))
      by_case true is None same rest = rest ∙ ap (λ o. cons_option o (filter_map f (dealt_to k dealt))) (sym same)
      by_case true is (Some y) same rest =
          ap (λ (b : Bool). cons_option (if b then Some y else None) (dealt_to k (filter_map given_of dealt))) is ∙ (ap (λ l. y ∷ l) rest ∙ ap (λ o. cons_option o (filter_map f (dealt_to k dealt))) (sym same))
      by_case false is None same rest = rest
      by_case false is (Some y) same rest = ap (λ (b : Bool). cons_option (if b then Some y else None) (dealt_to k (filter_map given_of dealt))) is ∙ rest

  -- what a map gives of a parted list is parted
  parted_given : (xs : List X) (parts : List (List X)) → AreParted xs parts → AreParted (filter_map f xs) (map (filter_map f) parts)
  parted_given xs parts h = (
    filter_map given_of h.0,
    given_whole h.0 ∙ ap (filter_map f) h.1,
    λ k. given_to k h.0 ∙ (ap (filter_map f) (h.2 k) ∙ part_mapped (filter_map f) parts k refl),
  )

-- so is what a map makes of it
some_is_map : {X Y : Type 0} (f : X → Y) (xs : List X) → filter_map (λ (x : X). Some (f x)) xs ≡ map f xs
some_is_map f [] = refl
some_is_map f (x ∷ xs) = ap (λ l. f x ∷ l) (some_is_map f xs)

some_are_maps : {X Y : Type 0} (f : X → Y) (parts : List (List X)) → map (filter_map (λ (x : X). Some (f x))) parts ≡ map (map f) parts
some_are_maps f [] = refl
some_are_maps f (p ∷ ps) = λ i. some_is_map f p i ∷ some_are_maps f ps i

-- a part in which there is nothing may be left out at the end
empty_last : {X : Type 0} (parts : List (List X)) (k : ℕ) → slice_index_or (parts ++ [] ∷ []) k [] ≡ slice_index_or parts k []
empty_last [] zero = refl
empty_last [] (suc k) = refl
empty_last (p ∷ ps) zero = refl
empty_last (p ∷ ps) (suc k) = empty_last ps k

-- asks that each part lacks are none
no_asks : (made : List (ℕ × FrameEntry)) → ((k : ℕ) → asks_in (dealt_to k made) ≡ []) → asks_in (second made) ≡ []
no_asks [] none = refl
no_asks ((n, e) ∷ made) none = by_entry (asked_in e) refl (no_asks made others)
  where
    mine : cons_option (asked_in e) (asks_in (dealt_to n made)) ≡ []
    mine = ap (λ (b : Bool). asks_in (cons_option (if b then Some e else None) (dealt_to n made))) (sym (eq-eqb n n refl)) ∙ none n

    rest_of : (o : Option FrameAsk) (xs : List FrameAsk) → cons_option o xs ≡ [] → xs ≡ []
    rest_of None xs h = h
    rest_of (Some a) xs h = absurd (let long = ap length h in omega (arith, long))

    others : (k : ℕ) → asks_in (dealt_to k made) ≡ []
    others k = dite (ℕ_discrete n k)
        (λ same. subst (λ (m : ℕ). asks_in (dealt_to m made) ≡ []) same (rest_of (asked_in e) (asks_in (dealt_to n made)) mine))
        (λ apart. ap (λ (b : Bool). asks_in (cons_option (if b then Some e else None) (dealt_to k made))) (sym (ne_eqb n k apart)) ∙ none k)

    by_entry : (o : Option FrameAsk) → asked_in e ≡ o → asks_in (second made) ≡ [] → cons_option (asked_in e) (asks_in (second made)) ≡ []
    by_entry None is rest = ap (λ o. cons_option o (asks_in (second made))) is ∙ rest
    by_entry (Some a) is rest = absurd (let long = ap length (ap (λ o. cons_option o (asks_in (dealt_to n made))) (sym is) ∙ mine) in omega (arith, long))

-- what was asked of the choreographer of looper q so far, as the controller's pass has heard it: in turn, by the threads for all their lines, and by the looper
-- for what this state asks
pub record HasAskedInTurn (s : Script) (q : ℕ) (pass : Pass) (a : LooperState) : Type 0 where
  pub made : List (ℕ × FrameEntry)
  pub heard : pass.view.heard ≡ made
  pub until : ℕ
  pub asked : HaveAsked until made (asked_so_far s.threads q s.blocks made)
  pub threads : (k : ℕ) → k < s.threads → asks_in (dealt_to k made) ≡ lines_ask q (lines_of k s.blocks)
  pub looper : asks_in (dealt_to s.threads made) ≡ a.asked
  pub idle : (k : ℕ) → s.threads + 1 ≤ k → dealt_to k made ≡ []

-- what one asks for, and nobody behind it
by_one : (x : List FrameAsk) (P : ℕ → List FrameAsk) → P 0 ≡ x → ((k : ℕ) → 1 ≤ k → P k ≡ []) → (k : ℕ) → P k ≡ slice_index_or (x ∷ []) k []
by_one x P first none zero = first
by_one x P first none (suc k) = none (suc k) (omega arith)

-- what each asked for
each_asks : (s : Script) (q : ℕ) (pass : Pass) (a : LooperState) (t : HasAskedInTurn s q pass a) → (k : ℕ) → asks_in (dealt_to k t.made) ≡ slice_index_or (asked_of s q a) k []
each_asks s q pass a t k =
    let of_line : ℕ → List FrameAsk = λ n. lines_ask q (lines_of n s.blocks) in
    let lines : List (List FrameAsk) = map of_line (range_with_len 0 s.threads) in
    let long : length lines ≡ s.threads = length-map-range_with_len of_line 0 s.threads in
    dite (dec_lt k s.threads)
    (λ lt. t.threads k lt ∙ sym (get_or-append lines (a.asked ∷ []) [] k (omega (arith, lt, long)) ∙ get_or-map-range_with_len of_line 0 s.threads k k [] lt (omega arith)))
    (λ above.
    let j : ℕ = k - s.threads in
    let at : k ≡ s.threads + j = omega (arith, above) in
    ap (λ (n : ℕ). asks_in (dealt_to n t.made)) at
    ∙ (by_one a.asked (λ n. asks_in (dealt_to (s.threads + n) t.made)) (ap (λ (n : ℕ). asks_in (dealt_to n t.made)) (omega arith) ∙ t.looper)
    (λ n le. ap asks_in (t.idle (s.threads + n) (omega (arith, le)))) j
    ∙ sym (get_or-append_right lines (a.asked ∷ []) s.threads k [] long (omega (arith, above)))))

-- lists of the same over a range
range_same : {X : Type 0} (f g : ℕ → X) (a n : ℕ) → ((i : ℕ) → i < a + n → f i ≡ g i) → map f (range_with_len a n) ≡ map g (range_with_len a n)
range_same f g a zero same = refl
range_same f g a (suc n) same = λ i. same a (omega arith) i ∷ range_same f g (a + 1) n (λ j lt. same j (omega (arith, lt))) i

map_both : {X Y Z : Type 0} (f : X → Y) (g : Y → Z) (xs : List X) → map g (map f xs) ≡ map (λ x. g (f x)) xs
map_both f g [] = refl
map_both f g (x ∷ xs) = ap (λ l. g (f x) ∷ l) (map_both f g xs)

module _ (lockstep : Bool) (s : Script) (q : ℕ) (kits : List Kit) (d : Kit) (p : Pass) (a : LooperState) where
  -- what is told of asks, and of what a pass recorded
  abbrev pub told : List FrameAsk → List FrameAsk
  told asks = map (as_told lockstep) asks

  abbrev told_by : Pass → List FrameAsk
  told_by x = told (pass_asks x)

  told_of_all : (xs : List Pass) → map (map (as_told lockstep)) (map (filter_map asked_in) (map own_of xs)) ≡ map told_by xs
  told_of_all [] = refl
  told_of_all (x ∷ xs) = ap (λ l. told_by x ∷ l) (told_of_all xs)

  -- each thread's pass, the looper's and the controller's
  abbrev pub first : ℕ → Pass
  first k = slice_index_or (slice_index_or kits k d).frames.items q p

  abbrev pub mine : Pass
  mine = slice_index_or (slice_index_or kits (s.threads + q) d).frames.items 0 p

  abbrev pub last : Pass
  last = slice_index_or (slice_index_or kits (s.threads + s.loopers) d).frames.items q p

  -- where the passes asked for what the threads' lines ask for and for what the looper asks, they asked for what the run asks for
  asked_by_each : ((k : ℕ) → k < s.threads → told (pass_asks (first k)) ≡ told (lines_ask q (lines_of k s.blocks)))
      → told (pass_asks mine) ≡ told a.asked → last.view.own ≡ []
      → map told_by (passes_at s q q kits d p) ≡ map (map (as_told lockstep)) (asked_of s q a) ++ [] ∷ []
  asked_by_each threads looper idle =
      let of_line : ℕ → List FrameAsk = λ k. lines_ask q (lines_of k s.blocks) in
      let numbers : List ℕ = range_with_len 0 s.threads in
      let firsts : map told_by (map first numbers) ≡ map (map (as_told lockstep)) (map of_line numbers) =
      map_both first told_by numbers ∙ (range_same (λ k. told_by (first k)) (λ k. told (of_line k)) 0 s.threads (λ k lt. threads k (omega (arith, lt))) ∙ sym (map_both of_line (map (as_told lockstep)) numbers)) in
      let idle_told : told_by last ≡ [] = ap (λ (l : List FrameEntry). told (filter_map asked_in l)) idle in
      map-append told_by (map first numbers) (mine ∷ last ∷ [])
      ∙ ((λ i. firsts i ++ looper i ∷ idle_told i ∷ [])
      ∙ (sym (append_assoc (map (map (as_told lockstep)) (map of_line numbers)) (told a.asked ∷ []) ([] ∷ []))
      ∙ ap (λ l. l ++ [] ∷ []) (sym (map-append (map (as_told lockstep)) (map of_line numbers) (a.asked ∷ [])))))

  -- and the frame record, whose entries are parted among the passes, was asked for that
  asked_by : (entries : List FrameEntry) → AreHeard entries (passes_at s q q kits d p) → ((k : ℕ) → k < s.threads → told (pass_asks (first k)) ≡ told (lines_ask q (lines_of k s.blocks)))
      → told (pass_asks mine) ≡ told a.asked → last.view.own ≡ [] → AreAskedBy lockstep (asks_in entries) (asked_of s q a)
  asked_by entries heard threads looper idle =
      let passes : List Pass = passes_at s q q kits d p in
      let asks = parted_given asked_in entries (map own_of passes) (heard.made, heard.made_are, heard.theirs) in
      let tells = parted_given (λ (x : FrameAsk). Some (as_told lockstep x)) (asks_in entries) (map (filter_map asked_in) (map own_of passes)) asks in
      let parts : map (filter_map (λ (x : FrameAsk). Some (as_told lockstep x))) (map (filter_map asked_in) (map own_of passes)) ≡ map (map (as_told lockstep)) (asked_of s q a) ++ [] ∷ [] =
      some_are_maps (as_told lockstep) (map (filter_map asked_in) (map own_of passes)) ∙ (told_of_all passes ∙ asked_by_each threads looper idle) in (
        tells.0,
        tells.1 ∙ some_is_map (as_told lockstep) (asks_in entries),
        λ k. tells.2 k ∙ (ap (λ (l : List (List FrameAsk)). slice_index_or l k []) parts ∙ empty_last (map (map (as_told lockstep)) (asked_of s q a)) k),
      )

  -- what the passes recorded beside each number, as told
  each_asked : ((k : ℕ) → k < s.threads → told (pass_asks (first k)) ≡ told (lines_ask q (lines_of k s.blocks)))
      → told (pass_asks mine) ≡ told a.asked → last.view.own ≡ []
      → (k : ℕ) → told (asks_in (slice_index_or (map own_of (passes_at s q q kits d p)) k [])) ≡ slice_index_or (map (map (as_told lockstep)) (asked_of s q a)) k []
  each_asked threads looper idle k =
      let passes : List Pass = passes_at s q q kits d p in
      part_mapped (λ (es : List FrameEntry). told (asks_in es)) (map own_of passes) k refl
      ∙ (ap (λ (l : List (List FrameAsk)). slice_index_or l k []) (map_both own_of (λ (es : List FrameEntry). told (asks_in es)) passes ∙ asked_by_each threads looper idle)
      ∙ empty_last (map (map (as_told lockstep)) (asked_of s q a)) k)

  -- the controller's pass is the last one
  last_heard : (made : List (ℕ × FrameEntry)) → ((k : ℕ) (e : Pass) → k < length (passes_at s q q kits d p) → IsPrefix (slice_index_or (passes_at s q q kits d p) k e).view.heard made) → IsPrefix last.view.heard made
  last_heard made begins =
      let these : List Pass = map first (range_with_len 0 s.threads) in
      let rest : List Pass = mine ∷ last ∷ [] in
      let long : length these ≡ s.threads = length-map-range_with_len first 0 s.threads in
      let all : length (these ++ rest) ≡ length these + 2 = length-append these rest in
      let place : s.threads + 1 - s.threads ≡ 1 = omega arith in
      let is : slice_index_or (these ++ rest) (s.threads + 1) p ≡ last = get_or-append_right these rest s.threads (s.threads + 1) p long (omega arith) ∙ ap (λ (n : ℕ). slice_index_or rest n p) place in
      subst (λ (x : Pass). IsPrefix x.view.heard made) is (begins (s.threads + 1) p (omega (arith, all, long)))

-- in lockstep a frame record was asked for in turn, where its entries are parted among the passes, which asked for what the run asks for, and what was asked so far
-- was asked in turn by those who ask, for that
asked_in_step : (s : Script) (q : ℕ) (kits : List Kit) (d : Kit) (p : Pass) (a : LooperState) (entries : List FrameEntry) → AreHeard entries (passes_at s q q kits d p)
    → ((k : ℕ) → asks_in (slice_index_or (map own_of (passes_at s q q kits d p)) k []) ≡ slice_index_or (asked_of s q a) k []) → HasAskedInTurn s q (last true s q kits d p a) a
    → AreAskedInTurn true (asks_in entries) (asked_then s q a)
asked_in_step s q kits d p a entries h theirs t =
    let front : IsPrefix t.made h.made = subst (λ (l : List (ℕ × FrameEntry)). IsPrefix l h.made) t.heard (last_heard true s q kits d p a h.made h.begins) in
    let more = front.0 in
    let none : asks_in (second more) ≡ [] = no_asks more (λ k. append_cancel_left (asks_in (dealt_to k t.made)) (asks_in (dealt_to k more)) []
    (sym (filter_map-append asked_in (dealt_to k t.made) (dealt_to k more))
    ∙ (ap asks_in (sym (filter_map-append (λ (x : ℕ × FrameEntry). if x.0 == k then Some x.1 else None) t.made more))
    ∙ (ap (λ (l : List (ℕ × FrameEntry)). asks_in (dealt_to k l)) front.1
    ∙ (ap asks_in (h.theirs k) ∙ (theirs k ∙ (sym (each_asks s q (last true s q kits d p a) a t k) ∙ sym (append-nil (asks_in (dealt_to k t.made)))))))))) in
    let whole : asks_in (second t.made) ≡ asks_in entries =
    sym (append-nil (asks_in (second t.made)))
    ∙ (ap (λ l. asks_in (second t.made) ++ l) (sym none)
    ∙ (sym (filter_map-append asked_in (second t.made) (second more))
    ∙ (ap asks_in (sym (map-append (λ (x : ℕ × FrameEntry). x.1) t.made more)) ∙ (ap (λ (l : List (ℕ × FrameEntry)). asks_in (second l)) front.1 ∙ ap asks_in h.made_are)))) in
    subst (λ (asks : List FrameAsk). AreAskedInTurn true asks (asked_then s q a)) whole (all_asked s q t.until t.made a t.asked t.looper t.idle)

-- a frame record, whose entries are parted among the passes, was asked for in turn by those who ask
pub asked_by_all : (lockstep : Bool) (s : Script) (q : ℕ) (kits : List Kit) (d : Kit) (p : Pass) (a : LooperState) (entries : List FrameEntry) → AreHeard entries (passes_at s q q kits d p)
    → ((k : ℕ) → k < s.threads → told lockstep s q kits d p a (pass_asks (first lockstep s q kits d p a k)) ≡ told lockstep s q kits d p a (lines_ask q (lines_of k s.blocks)))
    → told lockstep s q kits d p a (pass_asks (mine lockstep s q kits d p a)) ≡ told lockstep s q kits d p a a.asked
    → (last lockstep s q kits d p a).view.own ≡ [] → MatchBool lockstep (HasAskedInTurn s q (last lockstep s q kits d p a) a) (Unit {0}) → AreAskedInTurn lockstep (asks_in entries) (asked_then s q a)
asked_by_all false s q kits d p a entries h threads looper idle t =
    parted_in_turn (asks_in entries) (asked_then s q a) (subst (AreAskedBy false (asks_in entries)) (sym (then_asks s q a)) (asked_by false s q kits d p a entries h threads looper idle))
asked_by_all true s q kits d p a entries h threads looper idle t =
    asked_in_step s q kits d p a entries h (λ k.
    sym (told_whole (asks_in (slice_index_or (map own_of (passes_at s q q kits d p)) k [])))
    ∙ (each_asked true s q kits d p a threads looper idle k
    ∙ (sym (part_mapped (map (as_told true)) (asked_of s q a) k refl) ∙ told_whole (slice_index_or (asked_of s q a) k [])))) t
