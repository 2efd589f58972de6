-- A command whose input is told and good stops for a fault or when out of memory alone.
use Rattle.std.proofs.Common.{◌≡◌, ◌⊎◌, ◌+◌, ◌≤◌, ℕ, List, [], ◌++◌, Option, Some, None, refl, length, arith, sym, subst, inl, inr, ap, ◌∙◌, unwrap_or}
use Rattle.std.proofs.lemmas.List.{append-nil, length-append}
use Rattle.std.proofs.Math.Nat.{le_refl}
use Rattle.std.specs.Io.KnownBytes.{Consumes, IsAtEnd}
use Rattle.loop_io.specs.Causes.{one_more, Rose}
use Rattle.dashboard_cli.specs.Answers.{AllOf, CountsReads, HasGoodInput, HasInput, IsCommandWith, IsRefused, TellsInput, IsTooLong, ReadsAtMost}
use Rattle.dashboard_cli.specs.Steps.{StopsBeforeText}
use Rattle.dashboard_cli.specs.Works.{ToldBytes, Input}
use Rattle.dashboard_cli.specs.Words.{IsAsked, work}
use Rattle.dashboard_cli.specs.declared.status.Status.{Status}
use Rattle.dashboard_cli.specs.declared.status.Status.TheVariants.{Ok, Usage, Script, ReadFault, WriteFault, NoMemory, TooLong, Trace}
use Rattle.dashboard_cli.specs.declared.words.Subcommand.{Subcommand}
use Rattle.dashboard_cli.proofs.OneCommand.{one_command}

-- no more is read than was there
read_fits : (before after : ToldBytes) (told input : List ℕ) → before ≡ Some told → Consumes before after input → length input ≤ length told
read_fits None after told input is read = let bad : None ≡ Some told = is in absurd (cc)
read_fits (Some xs) None told input is read = absurd read
read_fits (Some xs) (Some ys) told input is read =
    let same : xs ≡ told = ap (λ (o : ToldBytes). unwrap_or o []) is in
    let long : length xs ≡ length input + length ys = ap length read ∙ length-append input ys in
    omega (arith, long, ap length same)

-- what is read to the end is what was told
read_is_told : (before after : ToldBytes) (told input : List ℕ) → before ≡ Some told → Consumes before after input → IsAtEnd after → input ≡ told
read_is_told None after told input is read ended = let bad : None ≡ Some told = is in absurd (cc)
read_is_told (Some xs) None told input is read ended = absurd read
read_is_told (Some xs) (Some ys) told input is read ended =
    let same : xs ≡ told = ap (λ (o : ToldBytes). unwrap_or o []) is in
    sym (append-nil input) ∙ ap (λ (t : List ℕ). input ++ t) (sym ended) ∙ sym read ∙ same

-- the whole input is the one that was told
input_is_told : (most : Option ℕ) (before after : ToldBytes) (input told : List ℕ) → HasInput most before after input → TellsInput most before told → input ≡ told
input_is_told (Some most) before after input told read tells = read_is_told before after told input tells.0 read.consumed read.ended
input_is_told None before after input told read tells = read.1 ∙ sym tells

not_long : (most : Option ℕ) (before after : ToldBytes) (input : List ℕ) → IsTooLong most before after → TellsInput most before input → ⊥
not_long None before after input long told = long
not_long (Some most) before after input long told =
    let fits = read_fits before after input long.0 told.0 long.1 in
    omega (arith, fits, told.1, long.2)

not_refused : (wanted : Input) (before after : ToldBytes) (status : Status) → IsRefused wanted before after status → HasGoodInput wanted before → ⊥
not_refused wanted before after status refused good =
    refused.not_taken (subst wanted.Takes (sym (input_is_told wanted.most before after refused.input good.input refused.read good.told)) good.good)

stops_for_memory : (wanted : Input) (before after : ToldBytes) (status : Status) → StopsBeforeText wanted before after status → HasGoodInput wanted before
    → (status ≡ ReadFault → ⊥) → (status ≡ Ok) ⊎ (status ≡ NoMemory)
stops_for_memory wanted before after Ok stops good sound = inl refl
stops_for_memory wanted before after Usage stops good sound = absurd stops
stops_for_memory wanted before after (Script line cause) stops good sound = absurd (not_refused wanted before after (Script line cause) stops good)
stops_for_memory wanted before after (Trace line) stops good sound = absurd (not_refused wanted before after (Trace line) stops good)
stops_for_memory wanted before after ReadFault stops good sound = absurd (sound refl)
stops_for_memory wanted before after WriteFault stops good sound = absurd stops
stops_for_memory wanted before after NoMemory stops good sound = inr refl
stops_for_memory wanted before after TooLong stops good sound = absurd (not_long wanted.most before after good.input stops good.told)

-- the words are of the command that stopped
pub gives_up : (words : List (List ℕ)) (command : Subcommand) (before after : ToldBytes) (status : Status) → IsAsked words command
    → StopsBeforeText (work command).reads before after status → IsCommandWith words (λ c. HasGoodInput (work c).reads before) → (status ≡ ReadFault → ⊥)
    → (status ≡ Ok) ⊎ (status ≡ NoMemory)
gives_up words command before after status asked stops of sound =
    let same : of.command ≡ command = one_command of.command command words of.asked asked in
    stops_for_memory (work command).reads before after status stops (subst (λ (c : Subcommand). HasGoodInput (work c).reads before) same of.holds) sound

-- a read fault that is told was counted
pub told_rose : (status : Status) (before now : ℕ) → CountsReads status before now → status ≡ ReadFault → Rose before now
told_rose status before now counts is =
    let one : now ≡ one_more before = subst (λ (s : Status). CountsReads s before now) is counts in
    subst (λ (n : ℕ). one_more before ≤ n) (sym one) (le_refl (one_more before))

-- ---- how much was read

-- a whole input is within its limit
input_within : (most : Option ℕ) (before after : ToldBytes) (input : List ℕ) → HasInput most before after input → ReadsAtMost most before after
input_within (Some most) before after input read = (input, read.consumed, read.fits)
input_within None before after input read = read.0

stops_within : (wanted : Input) (before after : ToldBytes) (status : Status) → StopsBeforeText wanted before after status → (status ≡ TooLong → ⊥)
    → ReadsAtMost wanted.most before after
stops_within wanted before after Ok stops short = absurd stops
stops_within wanted before after Usage stops short = absurd stops
stops_within wanted before after (Script line cause) stops short = input_within wanted.most before after stops.input stops.read
stops_within wanted before after (Trace line) stops short = input_within wanted.most before after stops.input stops.read
stops_within wanted before after ReadFault stops short = stops
stops_within wanted before after WriteFault stops short = absurd stops
stops_within wanted before after NoMemory stops short = stops
stops_within wanted before after TooLong stops short = absurd (short refl)

-- what holds of the command that was read holds of the one that the words are
of_command : (words : List (List ℕ)) (command : Subcommand) (P : Subcommand → Type 0) → IsAsked words command → P command → AllOf words P
of_command words command P asked holds = λ c also. subst P (one_command command c words asked also) holds

pub all_stops : (words : List (List ℕ)) (command : Subcommand) (before after : ToldBytes) (status : Status) → IsAsked words command
    → StopsBeforeText (work command).reads before after status → (status ≡ TooLong → ⊥) → AllOf words (λ c. ReadsAtMost (work c).reads.most before after)
all_stops words command before after status asked stops short =
    of_command words command (λ c. ReadsAtMost (work c).reads.most before after) asked (stops_within (work command).reads before after status stops short)

pub all_read : (words : List (List ℕ)) (command : Subcommand) (before after : ToldBytes) (input : List ℕ) → IsAsked words command
    → HasInput (work command).reads.most before after input → AllOf words (λ c. ReadsAtMost (work c).reads.most before after)
all_read words command before after input asked read =
    of_command words command (λ c. ReadsAtMost (work c).reads.most before after) asked (input_within (work command).reads.most before after input read)
