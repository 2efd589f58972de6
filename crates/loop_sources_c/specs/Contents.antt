-- What stands behind a handle.
use Rattle.std.specs.Prelude.{ℕ, Bool, List, [], refl}
use Rattle.std.specs.Coded.{Coded, code_by, coded×, coded_ℕ, coded_bool, coded_list}
use Rattle.loop_sources.specs.Idle.{Idles, no_handlers}
use Rattle.loop_sources.specs.Descriptors.{Descriptors, descriptors_code, no_watches}
use Rattle.loop_sources.specs.declared.idle.IdleTurn.{IdleTurn}

-- the idle handlers, those of the turn in progress that were not handed out yet, and the watched descriptors with the events that wait
pub record Contents : Type 0 where
  pub idles : Idles
  pub turns : List IdleTurn
  pub fds : Descriptors

-- the parts as pairs, by which a proof tells such values apart
abbrev pub turn_code : Coded IdleTurn
turn_code =
    code_by (ℕ × (ℕ × Bool)) (coded× coded_ℕ (coded× coded_ℕ coded_bool)) (λ t. (t.serial, (t.id, t.keep)))
    (λ p. record { serial = p.0; id = p.1.0; keep = p.1.1 }) (λ _. refl)

abbrev pub idles_code : Coded Idles
idles_code =
    code_by (List IdleTurn × ℕ) (coded× (coded_list turn_code) coded_ℕ) (λ s. (s.handlers, s.added))
    (λ p. record { handlers = p.0; added = p.1 }) (λ _. refl)

abbrev pub contents_code : Coded Contents
contents_code =
    code_by (Idles × (List IdleTurn × Descriptors)) (coded× idles_code (coded× (coded_list turn_code) descriptors_code))
    (λ c. (c.idles, (c.turns, c.fds))) (λ p. record { idles = p.0; turns = p.1.0; fds = p.1.1 }) (λ _. refl)

-- before anything happened
abbrev pub just_opened : Contents
just_opened = record { idles = no_handlers; turns = []; fds = no_watches }

-- what nobody sees behind a handle that is not live
abbrev pub nothing_in : Contents
nothing_in = just_opened
