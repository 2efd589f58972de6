-- How the controller's part of a run, and its end, are put together.
use Rattle.std.proofs.Common.{◌≡◌, ℕ, Bool, true, false, List, [], ◌∷◌, ◌++◌, refl, sym, ap, ◌∙◌, subst, append_assoc}
use Rattle.std.specs.Prelude.{◌&&◌, nat_le, if◌then◌else◌}
use Rattle.std.proofs.lemmas.List.{append-nil}
use Rattle.std.proofs.Math.Bool.{and_assoc}
use Rattle.std.proofs.lemmas.Bool.{and_parts, and_from}
use Rattle.loop_model.specs.declared.call.Call.{Call}
use Rattle.loop_model.specs.declared.call.Call.TheVariants.{Post, Barrier, Unbarrier, Remove, Quit, Next, Advance, Halt}
use Rattle.loop_model.specs.declared.entry.Entry.{Entry}
use Rattle.loop_model.specs.Entries.{moment_of, is_next}
use Rattle.run_model.specs.Control.{is_advance, is_halt, is_quit, is_closing, are_controls, each_behind}

-- Advances in lockstep, up to the end
abbrev pub are_advances : Bool → ℕ → List Entry → Bool
are_advances lockstep end [] = true
are_advances lockstep end (e ∷ es) = is_advance e.call && ((lockstep && nat_le (moment_of e.call) end) && are_advances lockstep end es)

one_advance : (a : Bool) (b c d : Bool) → a ≡ true → (b && c) ≡ true → (if a then b && c else d) ≡ true
one_advance a b c d h g = rw h g

-- Advances and then the last call
pub are_controls-last : (main lockstep : Bool) (end : ℕ) (quit : Bool) (es : List Entry) (e : Entry) → are_advances lockstep end es ≡ true → is_advance e.call ≡ false
    → is_closing main lockstep end e ≡ true → are_controls main lockstep end quit (es ++ e ∷ []) ≡ true
are_controls-last main lockstep end quit [] e h other last = rw (other, last) refl
are_controls-last main lockstep end quit (f ∷ es) e h other last =
    let parts = and_parts (is_advance f.call) _ h in
    let rest = and_parts (lockstep && nat_le (moment_of f.call) end) (are_advances lockstep end es) parts.1 in
    one_advance (is_advance f.call) (lockstep && nat_le (moment_of f.call) end) (are_controls main lockstep end quit (es ++ e ∷ [])) _ parts.0 (and_from _ _ rest.0 (are_controls-last main lockstep end quit es e rest.1 other last))

-- Advances alone, on a queue that another sender quit
pub are_controls-quit : (lockstep : Bool) (end : ℕ) (es : List Entry) → are_advances lockstep end es ≡ true → are_controls false lockstep end true es ≡ true
are_controls-quit lockstep end [] h = refl
are_controls-quit lockstep end (f ∷ es) h =
    let parts = and_parts (is_advance f.call) _ h in
    let rest = and_parts (lockstep && nat_le (moment_of f.call) end) (are_advances lockstep end es) parts.1 in
    one_advance (is_advance f.call) (lockstep && nat_le (moment_of f.call) end) (are_controls false lockstep end true es) _ parts.0 (and_from _ _ rest.0 (are_controls-quit lockstep end es rest.1))

-- one more entry of which it is so
pub each_behind-snoc : (test : List Entry → Entry → Bool) (past es : List Entry) (e : Entry) → each_behind test past es ≡ true → test (past ++ es) e ≡ true → each_behind test past (es ++ e ∷ []) ≡ true
each_behind-snoc test past [] e h one = and_from _ true (subst (λ l. test l e ≡ true) (append-nil past) one) refl
each_behind-snoc test past (f ∷ es) e h one =
    let parts = and_parts (test past f) (each_behind test (past ++ f ∷ []) es) h in
    and_from _ _ parts.0 (each_behind-snoc test (past ++ f ∷ []) es e parts.1 (subst (λ l. test l e ≡ true) (sym (append_assoc past (f ∷ []) es)) one))

-- and more entries
pub each_behind-append : (test : List Entry → Entry → Bool) (past xs ys : List Entry) → each_behind test past (xs ++ ys) ≡ (each_behind test past xs && each_behind test (past ++ xs) ys)
each_behind-append test past [] ys = ap (λ l. each_behind test l ys) (sym (append-nil past))
each_behind-append test past (x ∷ xs) ys =
    ap (λ t. test past x && t) (each_behind-append test (past ++ x ∷ []) xs ys ∙ ap (λ l. each_behind test (past ++ x ∷ []) xs && each_behind test l ys) (append_assoc past (x ∷ []) xs))
    ∙ sym (and_assoc (test past x) (each_behind test (past ++ x ∷ []) xs) (each_behind test (past ++ x ∷ xs) ys))

-- an Advance neither halts nor quits, and it is no look
pub advance_alone : (call : Call) → is_advance call ≡ true → (is_halt call ≡ false) × (is_quit call ≡ false) × (is_next call ≡ false)
advance_alone (Advance now) h = (refl, refl, refl)
advance_alone (Post p) h = absurd cc
advance_alone (Barrier now) h = absurd cc
advance_alone (Unbarrier t) h = absurd cc
advance_alone (Remove f) h = absurd cc
advance_alone (Quit safe now) h = absurd cc
advance_alone (Next now) h = absurd cc
advance_alone (Halt now) h = absurd cc
