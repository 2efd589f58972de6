-- A script that has a text has one in edition 2 too.
use Rattle.std.proofs.Common.{◌≡◌, ◌+◌, ℕ, zero, suc, Bool, true, false, ◌&&◌, not, ltb, leb, eqb, cond, List, [], ◌∷◌, ◌++◌, map, length, inl, inr, refl, sym, ap, subst, ◌∙◌, arith, eq-eqb, ne_eqb}
use Rattle.std.proofs.Math.Decide.{ℕ_discrete}
use mathlib.Core.Logic.{dite}
use Rattle.std.specs.Prelude.{◌||◌, ◌==◌, if◌then◌else◌}
use Rattle.std.specs.List.{list_all, flat_map, enumerate_from, sum_by}
use Rattle.std.proofs.lemmas.Bool.{and_parts, and_from, ltb-true, lt-ltb}
use Rattle.std.proofs.lemmas.List.{length-append, length-map, map-append}
use Rattle.std.proofs.lemmas.List.Sums.{sum_by-cons}
use Rattle.std.proofs.lemmas.List.Folds.{list_all-append}
use Rattle.dash_script.specs.declared.form.LineKind.TheVariants as kind
use Rattle.dash_script.specs.declared.form.Role.{Role}
use Rattle.dash_script.specs.declared.form.Role.TheVariants.{Looper, Thread, Handler, Gauge, Phase, Within}
use Rattle.dash_script.specs.declared.script.Command.{Command}
use Rattle.dash_script.specs.declared.script.Command.TheVariants.{Post, PostAsync, Front, Callback, Set, Remove, RemoveCallback, RemoveAll, Barrier, Unbarrier, Quit, QuitSafely, Idle, Watch, Event, Frame, Unframe}
use Rattle.dash_script.specs.declared.script.GaugeLine.{GaugeLine}
use Rattle.dash_script.specs.declared.script.Line.{Line}
use Rattle.dash_script.specs.declared.script.Block.{Block}
use Rattle.dash_script.specs.declared.script.Script.{Script}
use Rattle.dash_script.specs.declared.statement.Statement.{Statement}
use Rattle.dash_script.specs.Form.{form}
use Rattle.dash_script.specs.Text.{say, line_statement, command_line, handler_statement, gauge_statement, rule_line, block_lines, opening_lines, lines_before_end, script_lines}
use Rattle.dash_script.specs.Causes.{commands, each_number, numbers_pass, is_within, is_declared, phase_count, is_label, has_barrier, steps_for}
use Rattle.dash_script.specs.Reading.{HasText, label_fits, labels_fit, times_rise}
use Rattle.dash_script.specs.Editions.{phase_up, command_up, block_up, up}
use Rattle.dash_script.specs.FromEdition.{command_from, line_from, block_from}
use Rattle.dash_script.proofs.Holding.{each_kept, all_kept}
use Rattle.dash_script.proofs.Going.{sections, list_parts}

-- the script in edition 2, where it is of edition 1
abbrev brought : Script → Script
brought s = record s { edition = 2; blocks = map block_up s.blocks }

abbrev line_up : Line → Line
line_up l = record l { command = command_up l.command }

abbrev lines_up : List Line → List Line
lines_up ls = map line_up ls

-- ---- numbers

module _ (t u : Role → ℕ → Bool) (kept : (r : Role) (n : ℕ) → t r n ≡ true → u r n ≡ true) (phases : (n : ℕ) → t Phase n ≡ true → u Phase (phase_up n) ≡ true) where
  command_passes : (p : ℕ) (c : Command) → numbers_pass t (command_line p c) ≡ true → numbers_pass u (command_line p (command_up c)) ≡ true
  unfolding each_number
  command_passes p (Post h w d) e = each_kept t u 0 (form kind.Post) (p ∷ h ∷ w ∷ d ∷ []) kept e
  command_passes p (PostAsync h w d) e = each_kept t u 0 (form kind.PostAsync) (p ∷ h ∷ w ∷ d ∷ []) kept e
  command_passes p (Front h w) e = each_kept t u 0 (form kind.Front) (p ∷ h ∷ w ∷ []) kept e
  command_passes p (Callback h c d) e = each_kept t u 0 (form kind.Callback) (p ∷ h ∷ c ∷ d ∷ []) kept e
  command_passes p (Set g v) e = each_kept t u 0 (form kind.Set) (p ∷ g ∷ v ∷ []) kept e
  command_passes p (Remove h w) e = each_kept t u 0 (form kind.Remove) (p ∷ h ∷ w ∷ []) kept e
  command_passes p (RemoveCallback h c) e = each_kept t u 0 (form kind.RemoveCallback) (p ∷ h ∷ c ∷ []) kept e
  command_passes p (RemoveAll h) e = each_kept t u 0 (form kind.RemoveAll) (p ∷ h ∷ []) kept e
  command_passes p (Barrier l b) e = each_kept t u 0 (form kind.Barrier) (p ∷ l ∷ b ∷ []) kept e
  command_passes p (Unbarrier b) e = each_kept t u 0 (form kind.Unbarrier) (p ∷ b ∷ []) kept e
  command_passes p (Quit l) e = each_kept t u 0 (form kind.Quit) (p ∷ l ∷ []) kept e
  command_passes p (QuitSafely l) e = each_kept t u 0 (form kind.QuitSafely) (p ∷ l ∷ []) kept e
  command_passes p (Idle l i true) e = each_kept t u 0 (form kind.IdleKeep) (p ∷ l ∷ i ∷ []) kept e
  command_passes p (Idle l i false) e = each_kept t u 0 (form kind.IdleOnce) (p ∷ l ∷ i ∷ []) kept e
  command_passes p (Watch l f m a) e = each_kept t u 0 (form kind.Watch) (p ∷ l ∷ f ∷ m ∷ a ∷ []) kept e
  command_passes p (Event l f m) e = each_kept t u 0 (form kind.Event) (p ∷ l ∷ f ∷ m ∷ []) kept e
  command_passes p (Frame l q i d) e =
      let a = and_parts (t Thread p) _ e in
      let b = and_parts (t Looper l) _ a.1 in
      let c = and_parts (t Phase q) _ b.1 in
      let f = and_parts (t (Within 0 999999) i) _ c.1 in
      let g = and_parts (t (Within 0 86400000) d) _ f.1 in
      and_from _ _ (kept Thread p a.0) (and_from _ _ (kept Looper l b.0) (and_from _ _ (phases q c.0) (and_from _ _ (kept (Within 0 999999) i f.0) (and_from _ _ (kept (Within 0 86400000) d g.0) refl))))
  command_passes p (Unframe l q i) e =
      let a = and_parts (t Thread p) _ e in
      let b = and_parts (t Looper l) _ a.1 in
      let c = and_parts (t Phase q) _ b.1 in
      let f = and_parts (t (Within 0 999999) i) _ c.1 in
      and_from _ _ (kept Thread p a.0) (and_from _ _ (kept Looper l b.0) (and_from _ _ (phases q c.0) (and_from _ _ (kept (Within 0 999999) i f.0) refl)))

  lines_pass : (ls : List Line) → list_all (numbers_pass t) (map line_statement ls) ≡ true → list_all (numbers_pass u) (map line_statement (lines_up ls)) ≡ true
  lines_pass [] h = refl
  lines_pass (l ∷ ls) h =
      let p = and_parts (numbers_pass t (line_statement l)) (list_all (numbers_pass t) (map line_statement ls)) h in
      and_from _ _ (command_passes l.thread l.command p.0) (lines_pass ls p.1)

  both : (xs ys : List Statement) → list_all (numbers_pass u) xs ≡ true → list_all (numbers_pass u) ys ≡ true → list_all (numbers_pass u) (xs ++ ys) ≡ true
  both xs ys x y = list_all-append (numbers_pass u) xs ys ∙ and_from _ _ x y

  blocks_pass : (bs : List Block) → list_all (numbers_pass t) (flat_map block_lines bs) ≡ true → list_all (numbers_pass u) (flat_map block_lines (map block_up bs)) ≡ true
  blocks_pass [] h = refl
  blocks_pass (b ∷ bs) h =
      let p = list_parts (numbers_pass t) (block_lines b) (flat_map block_lines bs) h in
      let a = and_parts (numbers_pass t (say kind.At (b.time ∷ []))) (list_all (numbers_pass t) (map line_statement b.lines)) p.0 in
      both (block_lines (block_up b)) (flat_map block_lines (map block_up bs))
      (and_from _ _ (each_kept t u 0 (form kind.At) (b.time ∷ []) kept a.0) (lines_pass b.lines a.1)) (blocks_pass bs p.1)

  first_pass : (s : Script) → list_all (numbers_pass t) (opening_lines s) ≡ true → list_all (numbers_pass u) (opening_lines (brought s)) ≡ true
  unfolding each_number
  first_pass s h =
      let p = and_parts (numbers_pass t (say (cond (eqb s.edition 2) kind.Edition2 kind.Edition1) [])) _ h in
      all_kept t u (say kind.Loopers (s.loopers ∷ []) ∷ say kind.Threads (s.threads ∷ []) ∷ []) kept p.1

  all_pass : (s : Script) → list_all (numbers_pass t) (script_lines s) ≡ true → list_all (numbers_pass u) (script_lines (brought s)) ≡ true
  unfolding lines_before_end
  all_pass s h =
      let hs = map handler_statement (enumerate_from 0 s.handlers) in
      let gs = map gauge_statement (enumerate_from 0 s.gauges) in
      let v = say kind.Vsync (s.period ∷ []) ∷ [] in
      let rs = map rule_line s.rules in
      let bs = flat_map block_lines (map block_up s.blocks) in
      let e = say kind.End (s.end ∷ []) ∷ [] in
      let f = opening_lines (brought s) in
      let ok = sections (λ sts. list_all (numbers_pass t) sts ≡ true) s (list_parts (numbers_pass t)) h in
      both (f ++ hs ++ gs ++ v ++ rs ++ bs) e (both (f ++ hs ++ gs ++ v ++ rs) bs (both (f ++ hs ++ gs ++ v) rs (both (f ++ hs ++ gs) v (both (f ++ hs) gs (both f hs
      (first_pass s ok.first) (all_kept t u hs kept ok.handlers)) (all_kept t u gs kept ok.gauges)) (all_kept t u v kept ok.vsync)) (all_kept t u rs kept ok.rules))
      (blocks_pass s.blocks ok.blocks)) (all_kept t u e kept ok.end)

-- a phase of edition 1 is one of edition 2
phase_within : (n : ℕ) → ltb n 4 ≡ true → ltb (phase_up n) 5 ≡ true
phase_within zero h = refl
phase_within (suc zero) h = refl
phase_within (suc (suc zero)) h = refl
phase_within (suc (suc (suc zero))) h = refl
phase_within (suc (suc (suc (suc n)))) h = let lt = ltb-true (suc (suc (suc (suc n)))) 4 h in absurd (omega (arith, lt))

within_up : (s : Script) → s.edition ≡ 1 → (r : Role) (n : ℕ) → is_within s r n ≡ true → is_within (brought s) r n ≡ true
within_up s e (Within low high) n h = h
within_up s e Phase n h = let lt = ltb-true n 4 (subst (λ (x : ℕ). ltb n (phase_count x) ≡ true) e h) in lt-ltb n 5 (omega (arith, lt))
within_up s e Looper n h = refl
within_up s e Thread n h = refl
within_up s e Handler n h = refl
within_up s e Gauge n h = refl

declared_up : (s : Script) (r : Role) (n : ℕ) → is_declared s r n ≡ true → is_declared (brought s) r n ≡ true
declared_up s (Within low high) n h = refl
declared_up s Phase n h = refl
declared_up s Looper n h = h
declared_up s Thread n h = h
declared_up s Handler n h = h
declared_up s Gauge n h = h

-- ---- labels

label_up : (label : ℕ) (c : Command) → is_label label (command_up c) ≡ is_label label c
label_up label (Post h w d) = refl
label_up label (PostAsync h w d) = refl
label_up label (Front h w) = refl
label_up label (Callback h c d) = refl
label_up label (Set g v) = refl
label_up label (Remove h w) = refl
label_up label (RemoveCallback h c) = refl
label_up label (RemoveAll h) = refl
label_up label (Barrier l b) = refl
label_up label (Unbarrier b) = refl
label_up label (Quit l) = refl
label_up label (QuitSafely l) = refl
label_up label (Idle l i k) = refl
label_up label (Watch l f m a) = refl
label_up label (Event l f m) = refl
label_up label (Frame l q i d) = refl
label_up label (Unframe l q i) = refl

barrier_up : (ls : List Line) (thread label : ℕ) → has_barrier (lines_up ls) thread label ≡ has_barrier ls thread label
barrier_up [] thread label = refl
barrier_up (l ∷ ls) thread label = (λ i. ((l.thread == thread && label_up label l.command i) || barrier_up ls thread label i))

fits_up : (before : List Line) (thread : ℕ) (c : Command) → label_fits (lines_up before) thread (command_up c) ≡ label_fits before thread c
fits_up before thread (Post h w d) = refl
fits_up before thread (PostAsync h w d) = refl
fits_up before thread (Front h w) = refl
fits_up before thread (Callback h c d) = refl
fits_up before thread (Set g v) = refl
fits_up before thread (Remove h w) = refl
fits_up before thread (RemoveCallback h c) = refl
fits_up before thread (RemoveAll h) = refl
fits_up before thread (Barrier l b) = ap not (barrier_up before thread b)
fits_up before thread (Unbarrier b) = barrier_up before thread b
fits_up before thread (Quit l) = refl
fits_up before thread (QuitSafely l) = refl
fits_up before thread (Idle l i k) = refl
fits_up before thread (Watch l f m a) = refl
fits_up before thread (Event l f m) = refl
fits_up before thread (Frame l q i d) = refl
fits_up before thread (Unframe l q i) = refl

labels_up : (before ls : List Line) → labels_fit (lines_up before) (lines_up ls) ≡ labels_fit before ls
labels_up before [] = refl
labels_up before (l ∷ ls) =
    let more : lines_up before ++ line_up l ∷ [] ≡ lines_up (before ++ l ∷ []) = sym (map-append line_up before (l ∷ [])) in
    (λ i. (fits_up before l.thread l.command i && labels_fit (more i) (lines_up ls))) ∙ ap (λ (b : Bool). label_fits before l.thread l.command && b) (labels_up (before ++ l ∷ []) ls)

commands_up : (bs : List Block) → flat_map (λ b. b.lines) (map block_up bs) ≡ lines_up (flat_map (λ b. b.lines) bs)
commands_up [] = refl
commands_up (b ∷ bs) = ap (λ (ls : List Line). lines_up b.lines ++ ls) (commands_up bs) ∙ sym (map-append line_up b.lines (flat_map (λ x. x.lines) bs))

-- ---- times and counts

all_times : (p : ℕ → Bool) (bs : List Block) → list_all (λ b. p b.time) (map block_up bs) ≡ list_all (λ b. p b.time) bs
all_times p [] = refl
all_times p (b ∷ bs) = ap (λ (t : Bool). p b.time && t) (all_times p bs)

rise_up : (bs : List Block) → times_rise (map block_up bs) ≡ times_rise bs
rise_up [] = refl
rise_up (b ∷ bs) = (λ i. (all_times (λ n. ltb b.time n) bs i && rise_up bs i))

steps_up : (gauges : List GaugeLine) (c : Command) → steps_for gauges (command_up c) ≡ steps_for gauges c
steps_up gauges (Post h w d) = refl
steps_up gauges (PostAsync h w d) = refl
steps_up gauges (Front h w) = refl
steps_up gauges (Callback h c d) = refl
steps_up gauges (Set g v) = refl
steps_up gauges (Remove h w) = refl
steps_up gauges (RemoveCallback h c) = refl
steps_up gauges (RemoveAll h) = refl
steps_up gauges (Barrier l b) = refl
steps_up gauges (Unbarrier b) = refl
steps_up gauges (Quit l) = refl
steps_up gauges (QuitSafely l) = refl
steps_up gauges (Idle l i k) = refl
steps_up gauges (Watch l f m a) = refl
steps_up gauges (Event l f m) = refl
steps_up gauges (Frame l q i d) = refl
steps_up gauges (Unframe l q i) = refl

all_steps_up : (gauges : List GaugeLine) (ls : List Line) → sum_by (λ l. steps_for gauges l.command) (lines_up ls) ≡ sum_by (λ l. steps_for gauges l.command) ls
all_steps_up gauges [] = refl
all_steps_up gauges (l ∷ ls) =
    sum_by-cons (λ x. steps_for gauges x.command) (line_up l) (lines_up ls)
    ∙ ((λ i. steps_up gauges l.command i + all_steps_up gauges ls i) ∙ sym (sum_by-cons (λ x. steps_for gauges x.command) l ls))

blocks_length : (bs : List Block) → length (flat_map block_lines (map block_up bs)) ≡ length (flat_map block_lines bs)
blocks_length [] = refl
blocks_length (b ∷ bs) =
    let rest = blocks_length bs in
    let one = length-map (lines_up b.lines) line_statement in
    let two = length-map b.lines line_up in
    let three = length-map b.lines line_statement in
    let all = length-append (map line_statement (lines_up b.lines)) (flat_map block_lines (map block_up bs)) in
    let before = length-append (map line_statement b.lines) (flat_map block_lines bs) in
    omega (arith, rest, one, two, three, all, before)

lines_length : (s : Script) → length (script_lines (brought s)) ≡ length (script_lines s)
unfolding lines_before_end
lines_length s =
    let e = say kind.End (s.end ∷ []) ∷ [] in
    let rest = map handler_statement (enumerate_from 0 s.handlers) in
    let bs = flat_map block_lines s.blocks in
    let bs' = flat_map block_lines (map block_up s.blocks) in
    let before = opening_lines s ++ rest ++ map gauge_statement (enumerate_from 0 s.gauges) ++ say kind.Vsync (s.period ∷ []) ∷ [] ++ map rule_line s.rules in
    let before' = opening_lines (brought s) ++ rest ++ map gauge_statement (enumerate_from 0 s.gauges) ++ say kind.Vsync (s.period ∷ []) ∷ [] ++ map rule_line s.rules in
    let same : length before' ≡ length before = refl in
    let a = length-append (before ++ bs) e in
    let b = length-append (before' ++ bs') e in
    let c = length-append before bs in
    let d = length-append before' bs' in
    let f = blocks_length s.blocks in
    omega (arith, same, a, b, c, d, f)

-- ---- the whole

brought_has : (s : Script) → s.edition ≡ 1 → HasText s → HasText (brought s)
brought_has s e t =
    record {
      edition = inr refl;
      limits = all_pass (is_within s) (is_within (brought s)) (within_up s e) (λ n h. phase_within n (subst (λ (x : ℕ). ltb n (phase_count x) ≡ true) e h)) s t.limits;
      names = all_pass (is_declared s) (is_declared (brought s)) (declared_up s) (λ n h. refl) s t.names;
      labels = ap (labels_fit []) (commands_up s.blocks) ∙ (labels_up [] (commands s) ∙ t.labels);
      times = rise_up s.blocks ∙ t.times;
      end = all_times (λ n. leb n s.end) s.blocks ∙ t.end;
      handlers = t.handlers;
      gauges = t.gauges;
      reactions = t.reactions;
      steps = let same = ap (λ (ls : List Line). sum_by (λ l. steps_for s.gauges l.command) ls) (commands_up s.blocks) ∙ all_steps_up s.gauges (commands s) in omega (arith, same, t.steps);
      lines = let same = lines_length s in omega (arith, same, t.lines);
    }

pub up_has_text : (s : Script) → HasText s → HasText (up s)
up_has_text s t =
    elim t.edition [
      | inl e ↦ subst (λ (b : Bool). HasText (if b then s else brought s)) (sym (ne_eqb s.edition 2 (λ x. (let wrong : 1 ≡ 2 = sym e ∙ x in omega (arith, wrong))))) (brought_has s e t)
      | inr e ↦ subst (λ (b : Bool). HasText (if b then s else brought s)) (sym (eq-eqb s.edition 2 e)) t
    ]

-- ---- what the loops make

command_kept : (edition : ℕ) (c : Command) → edition ≡ 2 → command_from edition c ≡ c
command_kept edition c e = ap (λ (b : Bool). if b then c else command_up c) (eq-eqb edition 2 e)

lines_kept : (edition : ℕ) (ls : List Line) → edition ≡ 2 → map (line_from edition) ls ≡ ls
lines_kept edition [] e = refl
lines_kept edition (l ∷ ls) e = (λ i. (record l { command = command_kept edition l.command e i }) ∷ lines_kept edition ls e i)

blocks_kept : (edition : ℕ) (bs : List Block) → edition ≡ 2 → map (block_from edition) bs ≡ bs
blocks_kept edition [] e = refl
blocks_kept edition (b ∷ bs) e = (λ i. (record b { lines = lines_kept edition b.lines e i }) ∷ blocks_kept edition bs e i)

lines_raised : (edition : ℕ) (ls : List Line) → (eqb edition 2) ≡ false → map (line_from edition) ls ≡ lines_up ls
lines_raised edition [] e = refl
lines_raised edition (l ∷ ls) e = (λ i. (record l { command = if e i then l.command else command_up l.command }) ∷ lines_raised edition ls e i)

blocks_raised : (edition : ℕ) (bs : List Block) → (eqb edition 2) ≡ false → map (block_from edition) bs ≡ map block_up bs
blocks_raised edition [] e = refl
blocks_raised edition (b ∷ bs) e = (λ i. (record b { lines = lines_raised edition b.lines e i }) ∷ blocks_raised edition bs e i)

-- the script whose blocks are brought up by its edition is the script brought up
pub migrated : (s t : Script) → t ≡ record s { edition = 2; blocks = map (block_from s.edition) s.blocks } → t ≡ up s
migrated s t is =
    dite (ℕ_discrete s.edition 2)
    (λ e. is ∙ ((λ i. record s { edition = sym e i; blocks = blocks_kept s.edition s.blocks e i }) ∙ ap (λ (b : Bool). if b then s else brought s) (sym (eq-eqb s.edition 2 e))))
    (λ n. let off = ne_eqb s.edition 2 n in is ∙ ((λ i. record s { edition = 2; blocks = blocks_raised s.edition s.blocks off i }) ∙ ap (λ (b : Bool). if b then s else brought s) (sym off)))
