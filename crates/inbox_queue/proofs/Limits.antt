-- A script has some threads, and few.
use Rattle.std.specs.Prelude.{ℕ, ◌<◌, ◌≤◌, ◌&&◌, nat_le, Bool, true, List, ◌∷◌, [], IsTrue, drop, ◌==◌, if◌then◌else◌}
use Rattle.std.specs.List.{list_all}
use Rattle.std.proofs.Common.{arith}
use Rattle.std.proofs.lemmas.Bool.{and_parts}
use Rattle.std.proofs.lemmas.Bool.Decides.{nat_tests}
use Rattle.dash_script.specs.declared.script.Script.{Script}
use Rattle.dash_script.specs.declared.statement.Statement.{Statement}
use Rattle.dash_script.specs.declared.form.LineKind.TheVariants as kind
use Rattle.dash_script.specs.Text.{script_lines, lines_before_end, say}
use Rattle.dash_script.specs.Causes.{numbers_pass, is_within, each_number}
use Rattle.dash_script.specs.Reading.{HasText}

between : (low high n : ℕ) → IsTrue ((nat_le low n && nat_le n high) && true) → n ≤ high
between low high n h = grind (arith, nat_tests)

at_least : (low high n : ℕ) → IsTrue ((nat_le low n && nat_le n high) && true) → low ≤ n
at_least low high n h = grind (arith, nat_tests)

-- of a list whose members all pass, the third passes
third : (p : Statement → Bool) (a b c : Statement) (rest : List Statement) → IsTrue (list_all p (a ∷ b ∷ c ∷ rest)) → IsTrue (p c)
third p a b c rest h = (and_parts _ _ (and_parts _ _ (and_parts _ _ h).1).1).0

pub threads : (s : Script) → HasText s → (0 < s.threads) × (s.threads ≤ 16)
unfolding lines_before_end each_number
threads s h =
    let t = third (numbers_pass (is_within s)) (say (if s.edition == 2 then kind.Edition2 else kind.Edition1) []) (say kind.Loopers (s.loopers ∷ [])) (say kind.Threads (s.threads ∷ [])) (drop 3 (script_lines s)) h.limits in
    let low : 1 ≤ s.threads = at_least 1 16 s.threads t in
    ((let r : 0 < s.threads = omega (arith, low) in r), between 1 16 s.threads t)
