-- Animators end once.
use Rattle.std.proofs.Common.{◌≡◌, ℕ, List, [], ◌∷◌, ◌++◌, refl, true, false, Bool, cond}
use Rattle.countdown.specs.Moments.{elapsed, has_ended}
use Rattle.countdown.proofs.Ends.{ends_at, ended_among}
use Rattle.animator.specs.declared.values.Valued.{Valued}
use Rattle.animator.specs.declared.values.Valued.TheVariants.{Value, End, Over}
use Rattle.animator.specs.declared.plan.Plan.{Plan}
use Rattle.animator.specs.Valuing.{animator_answer, end_of, end_value, value_at, position}
use Rattle.animator.specs.Laws.{EndsAreToldOnce, HasToldEnd}

-- the three answers, by the two tests
abbrev told_by : Bool → Bool → ℕ → ℕ → Valued
told_by before now stays value = cond before Over (cond now (End stays) (Value value))

over_by : (before now : Bool) (stays value : ℕ) → told_by before now stays value ≡ Over → before ≡ true
over_by true now stays value e = refl
over_by false true stays value e = cc
over_by false false stays value e = cc

end_by : (before now : Bool) (stays value : ℕ) → told_by before now stays value ≡ End stays → now ≡ true
end_by true now stays value e = cc
end_by false true stays value e = refl
end_by false false stays value e = cc

-- the value where it goes on
going : Plan → List ℕ → ℕ → ℕ
going plan before time = value_at plan (position plan (elapsed (before ++ time ∷ [])))

-- where it has ended it has told its end
has_told : (plan : Plan) (times : List ℕ) → has_ended (end_of plan) times ≡ true → HasToldEnd plan times
has_told plan times h =
    let e = ends_at (end_of plan) times h in
    let told : animator_answer plan e.before e.time ≡ End (end_value plan) = rw (e.not_before, e.ended) refl in
    record { before = e.before; time = e.time; after = e.after; are = e.are; told = told }

over_has_ended : (plan : Plan) (times : List ℕ) (time : ℕ) → animator_answer plan times time ≡ Over → has_ended (end_of plan) times ≡ true
unfolding going
over_has_ended plan times time e = over_by (has_ended (end_of plan) times) (has_ended (end_of plan) (times ++ time ∷ [])) (end_value plan) (going plan times time) e

told_has_ended : (plan : Plan) (times : List ℕ) → HasToldEnd plan times → has_ended (end_of plan) times ≡ true
unfolding going
told_has_ended plan times h =
    let now : has_ended (end_of plan) (h.before ++ h.time ∷ []) ≡ true =
    end_by (has_ended (end_of plan) h.before) (has_ended (end_of plan) (h.before ++ h.time ∷ [])) (end_value plan) (going plan h.before h.time) h.told in
    ended_among (end_of plan) times h.before h.time h.after h.are now

is_over : (plan : Plan) (times : List ℕ) (time : ℕ) → has_ended (end_of plan) times ≡ true → animator_answer plan times time ≡ Over
is_over plan times time h = rw h refl

pub ends_are_told_once : EndsAreToldOnce
ends_are_told_once plan times time = (
  (λ over. has_told plan times (over_has_ended plan times time over)),
  (λ h. is_over plan times time (told_has_ended plan times h)),
)
