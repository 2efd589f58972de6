-- What all lines of a script pass, the lines of each section pass.
use Rattle.std.proofs.Common.{◌≡◌, Bool, true, List, [], ◌∷◌, ◌++◌, map, sym, ◌∙◌}
use Rattle.std.specs.List.{list_all, flat_map, enumerate_from}
use Rattle.std.proofs.lemmas.Bool.{and_parts}
use Rattle.std.proofs.lemmas.List.Folds.{list_all-append}
use Rattle.dash_script.specs.declared.form.LineKind.TheVariants as kind
use Rattle.dash_script.specs.declared.script.Script.{Script}
use Rattle.dash_script.specs.declared.statement.Statement.{Statement}
use Rattle.dash_script.specs.Text.{say, handler_statement, gauge_statement, rule_line, block_lines, opening_lines, lines_before_end, script_lines}

-- of two lists that pass together each passes
pub both : (p : Statement → Bool) (xs ys : List Statement) → list_all p (xs ++ ys) ≡ true → (list_all p xs ≡ true) × (list_all p ys ≡ true)
both p xs ys all = and_parts (list_all p xs) (list_all p ys) (sym (list_all-append p xs ys) ∙ all)

-- the lines of each section pass
pub record SectionsPass (p : Statement → Bool) (s : Script) : Type 0 where
  pub first : list_all p (opening_lines s) ≡ true
  pub handlers : list_all p (map handler_statement (enumerate_from 0 s.handlers)) ≡ true
  pub gauges : list_all p (map gauge_statement (enumerate_from 0 s.gauges)) ≡ true
  pub vsync : p (say kind.Vsync (s.period ∷ [])) ≡ true
  pub rules : list_all p (map rule_line s.rules) ≡ true
  pub blocks : list_all p (flat_map block_lines s.blocks) ≡ true
  pub last : p (say kind.End (s.end ∷ [])) ≡ true

pub sections_pass : (p : Statement → Bool) (s : Script) → list_all p (script_lines s) ≡ true → SectionsPass p s
unfolding lines_before_end
sections_pass p s all =
    let handlers = map handler_statement (enumerate_from 0 s.handlers) in
    let gauges = map gauge_statement (enumerate_from 0 s.gauges) in
    let vsync : List Statement = say kind.Vsync (s.period ∷ []) ∷ [] in
    let rules = map rule_line s.rules in
    let blocks = flat_map block_lines s.blocks in
    let front = both p (opening_lines s ++ handlers ++ gauges ++ vsync ++ rules ++ blocks) (say kind.End (s.end ∷ []) ∷ []) all in
    let a = both p (opening_lines s ++ handlers ++ gauges ++ vsync ++ rules) blocks front.0 in
    let b = both p (opening_lines s ++ handlers ++ gauges ++ vsync) rules a.0 in
    let c = both p (opening_lines s ++ handlers ++ gauges) vsync b.0 in
    let d = both p (opening_lines s ++ handlers) gauges c.0 in
    let e = both p (opening_lines s) handlers d.0 in record {
      first = e.0;
      handlers = e.1;
      gauges = d.1;
      vsync = (and_parts (p (say kind.Vsync (s.period ∷ []))) true c.1).0;
      rules = b.1;
      blocks = a.1;
      last = (and_parts (p (say kind.End (s.end ∷ []))) true front.1).0;
    }
