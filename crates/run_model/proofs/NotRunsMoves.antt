-- Reports that are no runs of their script: times that are moved wrong.
use Rattle.std.proofs.Common.{◌≡◌, ◌<◌, refl, true, false, List, [], ◌∷◌, ◌⊎◌, inl, inr, ap, arith}
use Rattle.std.specs.Prelude.{◌+◌, ◌-◌, ◌/◌, ◌%◌, ◌^◌, ◌==◌, nat_lt, slice_index}
use Rattle.std.proofs.lemmas.Bool.{and_parts, or_cases}
use Rattle.std.proofs.lemmas.Bool.Decides.{nat_tests}
use Rattle.loop_model.specs.declared.reply.Reply.TheVariants as reply
use Rattle.dash_script.specs.declared.script.Script.{Script}
use Rattle.run_model.specs.Moments.{in_lockstep}
use Rattle.run_model.specs.Control.{IsPulseTime}
use Rattle.run_model.specs.Run.{IsRun}
use Rattle.run_model.proofs.Examples.{handler_on, plain_script}
use Rattle.run_model.proofs.RunBut as but
use Rattle.run_model.proofs.Table.{Row, quiet, report_of, computing}
use Rattle.run_model.proofs.OneFault.{FailsBy, fails_by}
use Rattle.run_model.proofs.NotRuns.{script, dispatch, advance, look, first_post, second_post, halt}
use Rattle.run_model.proofs.NotRunsQuits.{side_rows, side_advance, side_quit, disposal}
use Rattle.run_model.proofs.NotRunsTimes.{main_rows}

abbrev needless_rows : List Row
needless_rows =
    main_rows (advance 0 10 ∷ first_post 0 0 ∷ second_post 1 1 ∷ look 0 10 1 ∷ advance 1 12 ∷ advance 2 15 ∷ look 1 15 0 ∷ advance 3 20 ∷ halt 4 ∷ [])
    (dispatch 1 10 ∷ dispatch 0 15 ∷ [])

-- no multiple of the period rounds to 12 milliseconds, and neither does the greatest number
no_pulse : IsPulseTime 16666667 12 → ⊥
no_pulse p = by_test (and_parts (nat_lt 0 p.stamp) _ p.pulse).0 (or_cases (p.stamp % 16666667 == 0) _ (and_parts (nat_lt 0 p.stamp) _ p.pulse).1)
  where
    by_test : nat_lt 0 p.stamp ≡ true → ((p.stamp % 16666667 == 0) ≡ true) ⊎ ((p.stamp == 2 ^ 64 - 1) ≡ true) → ⊥
    by_test some (inl multiple) =
        let positive : 0 < p.stamp = grind (arith, nat_tests) in
        let rest : p.stamp % 16666667 ≡ 0 = grind (arith, nat_tests) in
        let rounded : (p.stamp + 999999) / 1000000 ≡ 12 = p.rounded in
        omega (arith, positive, rest, rounded)
    by_test some (inr greatest) =
        let same : p.stamp ≡ 2 ^ 64 - 1 = grind (arith, nat_tests) in
        let rounded : (p.stamp + 999999) / 1000000 ≡ 12 = p.rounded in
        omega (arith, same, rounded)

-- time is moved to 12, when nothing comes
pub moves_where_nothing_comes : FailsBy but.Due script needless_rows
unfolding computing
moves_where_nothing_comes = fails_by but.Due script needless_rows (λ r. of_move r.timely.moves.due.1.0) refl
  where
    of_move : (false ≡ true) ⊎ IsPulseTime 16666667 12 → ⊥
    of_move (inl planned) = cc
    of_move (inr pulse) = no_pulse pulse

-- a script in which nothing happens, with a side looper
abbrev quiet_script : Script
quiet_script = plain_script 2 1 (handler_on 0 ∷ handler_on 1 ∷ []) [] 10

abbrev alone_rows : List Row
alone_rows = side_rows (quiet (side_advance 0 5 ∷ side_advance 1 10 ∷ side_quit 2 reply.QuitDone ∷ disposal 0 10 ∷ []) 10)

-- the side looper's queue is moved to 5, and main isn't
pub moves_one_queue_alone : FailsBy but.Together quiet_script alone_rows
unfolding computing
moves_one_queue_alone = fails_by but.Together quiet_script alone_rows no_run refl
  where
    no_run : IsRun in_lockstep quiet_script (report_of quiet_script alone_rows) → ⊥
    no_run r = let times : 5 ≡ 10 = ap (λ ts. slice_index ts 0) r.timely.moves.together.1.0.1 in omega (arith, times)
