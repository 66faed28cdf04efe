-- How the ending of an exchange is reported.
use Rattle.rules.specs.declared.records.Ending.{Ending}
use Rattle.rules.specs.declared.records.Ending.TheVariants as ending
use Rattle.rules.specs.declared.records.Outcome.{Outcome}
use Rattle.rules.specs.declared.records.Outcome.TheVariants as outcome

-- an ending without the message that it brought
abbrev pub outcome_of : Ending → Outcome
outcome_of ending.Done = outcome.Done
outcome_of ending.Confirmed = outcome.Confirmed
outcome_of ending.Busy = outcome.Busy
outcome_of (ending.Brought m) = outcome.Data
outcome_of ending.Empty = outcome.NoData
outcome_of ending.Unserved = outcome.NotServed
outcome_of ending.Doubted = outcome.Doubtful
