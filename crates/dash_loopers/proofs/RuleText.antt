-- A rule of a text sends to a declared handler, whose looper is one of the script.
use Rattle.std.proofs.Common.{◌≡◌, ℕ, ◌<◌, ◌+◌, ◌&&◌, Bool, true, false, List, [], ◌∷◌, map, length, Some, refl, sym, ◌∙◌, subst}
use Rattle.std.specs.Prelude.{nat_lt, slice_get}
use Rattle.std.specs.List.{list_all, enumerate_from}
use Rattle.std.proofs.lemmas.Bool.{and_parts, and_from, ltb-true}
use Rattle.std.proofs.lemmas.List.Folds.{list_all-map}
use Rattle.std.proofs.lemmas.List.Sums.{AllPass-from_list_all}
use Rattle.std.proofs.lemmas.Option.{slice_get_within, get_or_from_slice_get}
use Rattle.dash_script.specs.declared.script.HandlerLine.{HandlerLine}
use Rattle.dash_script.specs.declared.script.Rule.{Rule}
use Rattle.dash_script.specs.declared.script.Script.{Script}
use Rattle.dash_script.specs.Text.{handler_statement, rule_line}
use Rattle.dash_script.specs.Causes.{each_number, numbers_pass, is_declared}
use Rattle.dash_script.specs.Reading.{HasText}
use Rattle.dash_script.proofs.Sections.{sections_pass}
use Rattle.run_model.specs.Planned.{looper_of}

looper_within : (s : Script) (h looper : ℕ) (asynchronous : Bool) → numbers_pass (is_declared s) (handler_statement (h, record { looper = looper; asynchronous = asynchronous })) ≡ true → nat_lt looper s.loopers ≡ true
unfolding each_number
looper_within s h looper true passes = (and_parts (nat_lt looper s.loopers) true passes).0
looper_within s h looper false passes = (and_parts (nat_lt looper s.loopers) true passes).0

loopers_within : (s : Script) (h : ℕ) (ls : List HandlerLine) → list_all (numbers_pass (is_declared s)) (map handler_statement (enumerate_from h ls)) ≡ true → list_all (λ (l : HandlerLine). nat_lt l.looper s.loopers) ls ≡ true
loopers_within s h [] all = refl
loopers_within s h (l ∷ ls) all =
    let parts = and_parts _ _ all in
    and_from _ _ (looper_within s h l.looper l.asynchronous parts.0) (loopers_within s (h + 1) ls parts.1)

-- the rule's handler is declared
handler_within : (s : Script) (r : Rule) → numbers_pass (is_declared s) (rule_line r) ≡ true → nat_lt r.to_handler (length s.handlers) ≡ true
unfolding each_number
handler_within s r passes = (and_parts (nat_lt r.to_handler (length s.handlers)) true (and_parts (nat_lt r.handler (length s.handlers)) (nat_lt r.to_handler (length s.handlers) && true) passes).1).0

-- the looper to which the rule at this place sends is one of the script
pub sends_within : (s : Script) (place : ℕ) (r : Rule) → HasText s → slice_get s.rules place ≡ Some r → looper_of s r.to_handler < s.loopers
sends_within s place r text at =
    let p = numbers_pass (is_declared s) in
    let sections = sections_pass p s text.names in
    let near : place < length s.rules = slice_get_within s.rules place r at in
    let all : list_all (λ (x : Rule). p (rule_line x)) s.rules ≡ true = sym (list_all-map p rule_line s.rules) ∙ sections.rules in
    let passes : p (rule_line r) ≡ true = subst (λ (x : Rule). p (rule_line x) ≡ true) (get_or_from_slice_get s.rules place r r at) (AllPass-from_list_all (λ (x : Rule). p (rule_line x)) s.rules all place r near) in
    let declared : r.to_handler < length s.handlers = ltb-true _ _ (handler_within s r passes) in
    ltb-true _ _ (AllPass-from_list_all (λ (l : HandlerLine). nat_lt l.looper s.loopers) s.handlers (loopers_within s 0 s.handlers sections.handlers) r.to_handler (record { looper = 0; asynchronous = false }) declared)
