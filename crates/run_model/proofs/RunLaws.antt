-- How a run grows, entry by entry, block by block and act by act.
use Rattle.std.proofs.Common.{◌≡◌, ℕ, Bool, true, false, List, [], ◌∷◌, ◌++◌, Option, None, refl, sym, ap, ◌∙◌, subst, arith, append_assoc}
use Rattle.std.specs.Prelude.{◌==◌, if◌then◌else◌}
use Rattle.std.specs.List.{AllByRecursion}
use Rattle.std.proofs.lemmas.List.{append-nil}
use Rattle.std.proofs.lemmas.List.Elements.{filter-append}
use Rattle.loop_model.specs.declared.entry.Entry.{Entry}
use Rattle.frame_phases.specs.declared.entry.FrameEntry.{FrameEntry}
use Rattle.dash_script.specs.declared.script.Script.{Script}
use Rattle.loop_model.specs.declared.journal.Act.{Act}
use Rattle.loop_model.specs.declared.journal.Act.TheVariants.{Dispatch, Idle, Event, Vsync, Paint}
use Rattle.run_model.specs.Planned.{token_in, entries_by, AreFor, TimedCommand, lines_on, IsPlanned}
use Rattle.run_model.specs.AskedSoFar.{tokens_in}
use Rattle.run_model.specs.Moments.{Mode}
use Rattle.run_model.specs.Parts.{MakeCalls, sent_on, befores_after}
use Rattle.run_model.specs.Loopers.{LooperState, SentCall, after_act, MayCome, ActsLead}
use Rattle.run_model.specs.Control.{Before, Timing, before, befores, befores_from, are_on_time}

-- a sender's entries in a longer history
pub entries_by-append : (k : ℕ) (xs ys : List Entry) → entries_by k (xs ++ ys) ≡ entries_by k xs ++ entries_by k ys
entries_by-append k xs ys = filter-append (λ e. e.sender == k) xs ys

-- no entry of the sender is among these
abbrev pub AreOfOthers : ℕ → List Entry → Type 0
AreOfOthers k es = AllByRecursion (λ e. (e.sender == k) ≡ false) es

pub entries_by-others : (k : ℕ) (es : List Entry) → AreOfOthers k es → entries_by k es ≡ []
entries_by-others k [] h = refl
entries_by-others k (e ∷ es) h = let rest = entries_by-others k es h.1 in let first = h.0 in rw (first, rest) refl

-- entries of others change nothing of a sender's entries
pub entries_by-unchanged : (k : ℕ) (xs ys : List Entry) → AreOfOthers k ys → entries_by k (xs ++ ys) ≡ entries_by k xs
entries_by-unchanged k xs ys h =
    entries_by-append k xs ys ∙ (ap (λ l. entries_by k xs ++ l) (entries_by-others k ys h) ∙ append-nil (entries_by k xs))

-- an entry of the sender is its last one
pub entries_by-own : (k : ℕ) (xs : List Entry) (e : Entry) → (e.sender == k) ≡ true → entries_by k (xs ++ e ∷ []) ≡ entries_by k xs ++ e ∷ []
entries_by-own k xs e h = entries_by-append k xs (e ∷ []) ∙ rw h refl

-- entries for more of what is asked
pub AreFor-append : {X : Type 0} (IsFor : List ℕ → X → Entry → Type 0) (tokens : List ℕ) (xs ys : List X) (es fs : List Entry)
    → AreFor IsFor tokens xs es → AreFor IsFor (tokens ++ tokens_in es) ys fs → AreFor IsFor tokens (xs ++ ys) (es ++ fs)
AreFor-append IsFor tokens [] ys [] fs h more = subst (λ ts. AreFor IsFor ts ys fs) (append-nil tokens) more
AreFor-append IsFor tokens [] ys (e ∷ es) fs h more = absurd h
AreFor-append IsFor tokens (x ∷ xs) ys [] fs h more = absurd h
AreFor-append IsFor tokens (x ∷ xs) ys (e ∷ es) fs h more =
    (h.0, AreFor-append IsFor (tokens ++ token_in e.reply) xs ys es fs h.1 (subst (λ ts. AreFor IsFor ts ys fs) (sym (append_assoc tokens (token_in e.reply) (tokens_in es))) more))

pub AreFor-snoc : {X : Type 0} (IsFor : List ℕ → X → Entry → Type 0) (xs : List X) (x : X) (es : List Entry) (e : Entry)
    → AreFor IsFor [] xs es → IsFor (tokens_in es) x e → AreFor IsFor [] (xs ++ x ∷ []) (es ++ e ∷ [])
AreFor-snoc IsFor xs x es e h one = AreFor-append IsFor [] xs (x ∷ []) es (e ∷ []) h (one, tt)

pub lines_on-append : (s : Script) (labels : List ℕ) (q : ℕ) (ls ms : List TimedCommand) → lines_on s labels q (ls ++ ms) ≡ lines_on s labels q ls ++ lines_on s labels q ms
lines_on-append s labels q ls ms = filter-append _ ls ms

-- the calls of the lines so far, and that of the next line
pub MakeCalls-line : (m : Mode) (s : Script) (labels : List ℕ) (q : ℕ) (ls : List TimedCommand) (l : TimedCommand) (es : List Entry) (e : Entry)
    → MakeCalls m s labels q ls es → lines_on s labels q (l ∷ []) ≡ l ∷ [] → IsPlanned m s labels q (tokens_in es) l e
    → MakeCalls m s labels q (ls ++ l ∷ []) (es ++ e ∷ [])
MakeCalls-line m s labels q ls l es e h on one =
    subst (λ xs. AreFor (IsPlanned m s labels q) [] xs (es ++ e ∷ [])) (sym (lines_on-append s labels q ls (l ∷ []) ∙ ap (λ xs. lines_on s labels q ls ++ xs) on)) (AreFor-snoc (IsPlanned m s labels q) (lines_on s labels q ls) l es e h one)

-- a line that makes no call there
pub MakeCalls-skip : (m : Mode) (s : Script) (labels : List ℕ) (q : ℕ) (ls : List TimedCommand) (l : TimedCommand) (es : List Entry)
    → MakeCalls m s labels q ls es → lines_on s labels q (l ∷ []) ≡ [] → MakeCalls m s labels q (ls ++ l ∷ []) es
MakeCalls-skip m s labels q ls l es h off =
    subst (λ xs. AreFor (IsPlanned m s labels q) [] xs es) (sym (lines_on-append s labels q ls (l ∷ []) ∙ (ap (λ xs. lines_on s labels q ls ++ xs) off ∙ append-nil (lines_on s labels q ls)))) h

-- one more act
pub ActsLead-snoc : (s : Script) (q : ℕ) (es : List Entry) (fs : List FrameEntry) (frame : Option ℕ) (a : LooperState) (xs : List Act) (b : LooperState) (x : Act)
    → ActsLead s q es fs a xs b → MayCome s q es fs frame b x → ActsLead s q es fs a (xs ++ x ∷ []) (after_act s q es fs frame b x)
ActsLead-snoc s q es fs frame a [] b x h may = (frame, (subst (λ c. MayCome s q es fs frame c x) (sym h) may, ap (λ c. after_act s q es fs frame c x) h))
ActsLead-snoc s q es fs frame a (y ∷ xs) b x h may = (h.0, (h.1.0, ActsLead-snoc s q es fs frame (after_act s q es fs h.0 a y) xs b x h.1.1 may))

-- the calls on one queue
pub sent_on-append : (q : ℕ) (xs ys : List SentCall) → sent_on q (xs ++ ys) ≡ sent_on q xs ++ sent_on q ys
sent_on-append q xs ys = filter-append (λ x. x.queue == q) xs ys

-- what stood before the entries that pass, in a longer history
pub befores_from-append : (test : Entry → Bool) (past xs ys : List Entry) → befores_from test past (xs ++ ys) ≡ befores_from test past xs ++ befores_from test (past ++ xs) ys
befores_from-append test past [] ys = ap (λ l. befores_from test l ys) (sym (append-nil past))
befores_from-append test past (x ∷ xs) ys =
    let rest = befores_from-append test (past ++ x ∷ []) xs ys in
    let first : List Before = if test x then before past ∷ [] else [] in
    ap (λ l. first ++ l) (rest ∙ ap (λ p. befores_from test (past ++ x ∷ []) xs ++ befores_from test p ys) (append_assoc past (x ∷ []) xs)) ∙ sym (append_assoc first (befores_from test (past ++ x ∷ []) xs) (befores_from test (past ++ x ∷ xs) ys))

-- what stood before a sender's entries in a longer history
pub befores_after-append : (k : ℕ) (past xs ys : List Entry) → befores_after k past (xs ++ ys) ≡ befores_after k past xs ++ befores_after k (past ++ xs) ys
befores_after-append k past xs ys = befores_from-append (λ e. e.sender == k) past xs ys

pub befores_after-others : (k : ℕ) (past es : List Entry) → AreOfOthers k es → befores_after k past es ≡ []
befores_after-others k past [] h = refl
befores_after-others k past (e ∷ es) h = let rest = befores_after-others k (past ++ e ∷ []) es h.1 in let first = h.0 in rw (first, rest) refl

pub befores-others : (k : ℕ) (xs ys : List Entry) → AreOfOthers k ys → befores k (xs ++ ys) ≡ befores k xs
unfolding befores
befores-others k xs ys h = befores_after-append k [] xs ys ∙ (ap (λ l. befores_after k [] xs ++ l) (befores_after-others k xs ys h) ∙ append-nil (befores_after k [] xs))

pub are_on_time-snoc : (ts : List Timing) (t : Timing) (bs : List Before) (b : Before) → are_on_time ts bs ≡ true → are_on_time (t ∷ []) (b ∷ []) ≡ true → are_on_time (ts ++ t ∷ []) (bs ++ b ∷ []) ≡ true
are_on_time-snoc [] t [] b h one = one
are_on_time-snoc [] t (c ∷ bs) b h one = cc
are_on_time-snoc (u ∷ ts) t [] b h one = cc
are_on_time-snoc (u ∷ ts) t (c ∷ bs) b h one = let rest = are_on_time-snoc ts t bs b in grind (arith, rest)

-- paints and no other acts
abbrev pub ArePaints : List Act → Type 0
ArePaints [] = Unit {0}
ArePaints (Paint g v ∷ xs) = ArePaints xs
ArePaints (x ∷ xs) = ⊥

pub ActsLead-paints : (s : Script) (q : ℕ) (es : List Entry) (fs : List FrameEntry) (a : LooperState) (xs : List Act) (b : LooperState) (ps : List Act)
    → ArePaints ps → ActsLead s q es fs a xs b → ActsLead s q es fs a (xs ++ ps) (record b { painted = b.painted ++ ps })
unfolding after_act
ActsLead-paints s q es fs a xs b [] h lead = subst (λ l. ActsLead s q es fs a l (record b { painted = b.painted ++ [] })) (sym (append-nil xs)) (subst (λ l. ActsLead s q es fs a xs (record b { painted = l })) (sym (append-nil b.painted)) lead)
ActsLead-paints s q es fs a xs b (Paint g v ∷ ps) h lead =
    subst (λ l. ActsLead s q es fs a l (record b { painted = b.painted ++ Paint g v ∷ ps })) (append_assoc xs (Paint g v ∷ []) ps) (subst (λ l. ActsLead s q es fs a ((xs ++ Paint g v ∷ []) ++ ps) (record b { painted = l })) (append_assoc b.painted (Paint g v ∷ []) ps) (ActsLead-paints s q es fs a (xs ++ Paint g v ∷ []) (record b { painted = b.painted ++ Paint g v ∷ [] }) ps h (ActsLead-snoc s q es fs None a xs b (Paint g v) lead refl)))
ActsLead-paints s q es fs a xs b (Dispatch n now route ∷ ps) h lead = absurd h
ActsLead-paints s q es fs a xs b (Idle i k ∷ ps) h lead = absurd h
ActsLead-paints s q es fs a xs b (Event f e m ∷ ps) h lead = absurd h
ActsLead-paints s q es fs a xs b (Vsync v ∷ ps) h lead = absurd h
