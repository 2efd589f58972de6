-- What the words of a line say, by its first word.
use Rattle.std.specs.Prelude.{ℕ, ◌+◌, ◌==◌, Bool, List, [], ◌∷◌, codes, Option, Some, None, if◌then◌else◌}
use Rattle.line_words.specs.Words.{spelled_number}
use Rattle.line_words.specs.Taking.{Rest, and_then, by_word, word, whole, long, short, counted}
use Rattle.run_picture.specs.declared.report.Past.TheVariants as past_of
use Rattle.run_picture.specs.declared.report.Fates.{Fates as FatesData}
use Rattle.run_picture.specs.declared.report.Act.TheVariants as act_of
use Rattle.run_picture.specs.declared.line.ReportLine.{ReportLine}
use Rattle.run_picture.specs.declared.line.ReportLine.TheVariants.{Title, Looper, Past, Fates, Act, Frame, Run, End}
use Rattle.run_picture.specs.Reading.{subject}

-- a dispatch at this time
unfoldable pub dispatch : ℕ → Rest → Option ReportLine
dispatch now rest0 =
    and_then (counted (codes "dispatch") rest0) (λ number rest1.
    and_then (short rest1) (λ handler rest2.
    and_then (subject rest2) (λ subject rest3.
    whole (Past (past_of.Dispatch now number handler subject)) rest3)))

unfoldable pub refused_line : Rest → Option ReportLine
refused_line rest0 =
    and_then (short rest0) (λ handler rest1.
    and_then (subject rest1) (λ subject rest2.
    and_then (counted (codes "quit") rest2) (λ place rest3.
    whole (Past (past_of.Refused handler subject place)) rest3)))

-- the counts of the fates, whether or not they add up
unfoldable pub fates_of : Rest → Option (FatesData × Rest)
fates_of rest0 =
    and_then (counted (codes "accepted") rest0) (λ accepted rest1.
    and_then (counted (codes "dispatched") rest1) (λ dispatched rest2.
    and_then (counted (codes "removed") rest2) (λ removed rest3.
    and_then (counted (codes "dropped") rest3) (λ dropped rest4.
    and_then (counted (codes "stranded") rest4) (λ stranded rest5.
    and_then (counted (codes "queued") rest5) (λ queued rest6.
    Some (record { accepted = accepted; dispatched = dispatched; removed = removed; dropped = dropped; stranded = stranded; queued = queued }, rest6)))))))

-- the accepted posts are the sum of the others
abbrev pub adds_up : FatesData → Bool
adds_up f = f.accepted == f.dispatched + f.removed + f.dropped + f.stranded + f.queued

unfoldable pub fates_said : Rest → Option ReportLine
fates_said rest = and_then (fates_of rest) (λ f more. if adds_up f then whole (Fates f) more else None)

unfoldable pub title : Rest → Option ReportLine
title rest =
    and_then (short rest) (λ edition more.
    if edition == 1 then whole (Title edition) more else if edition == 2 then whole (Title edition) more else None)

-- a line of one number
abbrev pub one_long : (ℕ → ReportLine) → Rest → Option ReportLine
one_long make rest = and_then (long rest) (λ n more. whole (make n) more)

-- a line of two numbers of 32 bits
abbrev pub two_short : (ℕ → ℕ → ReportLine) → Rest → Option ReportLine
two_short make rest = and_then (short rest) (λ a more. and_then (short more) (λ b most. whole (make a b) most))

-- what stands behind the first word of a line
abbrev pub rows : List (List ℕ × (Rest → Option ReportLine))
rows =
    (codes "refused", refused_line)
    ∷ (codes "not-posted", one_long (λ token. Past (past_of.NotPosted token)))
    ∷ (codes "not-allowed", whole (Past past_of.NotAllowed))
    ∷ (codes "already-quit", one_long (λ place. Past (past_of.AlreadyQuit place)))
    ∷ (codes "fates", fates_said)
    ∷ (codes "idle", λ rest. and_then (short rest) (λ id more. whole (Act (act_of.Idle id)) more))
    ∷ (codes "event", two_short (λ fd events. Act (act_of.Event fd events)))
    ∷ (codes "paint", two_short (λ gauge value. Act (act_of.Paint gauge value)))
    ∷ (codes "frame", one_long Frame)
    ∷ (codes "run", λ rest. and_then (short rest) (λ phase more. and_then (long more) (λ id most. whole (Run (record { phase = phase; id = id })) most)))
    ∷ (codes "looper", one_long Looper)
    ∷ (codes "report", title)
    ∷ (codes "end", whole End)
    ∷ []

-- a number begins the line of a dispatch, and other words name the line
abbrev pub line_by : List ℕ → Option ℕ → Rest → Option ReportLine
line_by w (Some now) rest = dispatch now rest
line_by w None rest = by_word rows w rest

-- what the words of a line say
unfoldable pub line_of : Rest → Option ReportLine
line_of ws = and_then (word ws) (λ w rest. line_by w (spelled_number w) rest)
