-- Why a call of a site was refused or not made.
use Rattle.std.specs.Prelude.{Bool, true, false, Ok, Err, Result}
use Rattle.damage.specs.declared.DamageError.{DamageError}
use Rattle.damage.specs.declared.DamageError.TheVariants as damage
use Rattle.fault.specs.declared.Fault.{Fault}
use Rattle.site.specs.declared.trouble.Trouble.{Trouble}
use Rattle.site.specs.declared.trouble.Trouble.TheVariants.{Refused, NotOnWay, NotSilent, Damaged, NoReader, Joined, Closed, OutOfMemory}
use Rattle.station.specs.declared.Refusal.{Refusal}
use Rattle.station.specs.declared.Refusal.TheVariants as refusal

-- why a reader's call was declined
abbrev pub declined_as : Refusal → Trouble
declined_as (refusal.Fault f) = Refused f
declined_as refusal.Memory = OutOfMemory

-- why damage was not done
abbrev pub undone_as : DamageError → Trouble
undone_as damage.NothingCut = Damaged damage.NothingCut
undone_as damage.FlipOutside = Damaged damage.FlipOutside
undone_as damage.FlipTwice = Damaged damage.FlipTwice
undone_as damage.BeyondGuard = Damaged damage.BeyondGuard
undone_as damage.OutOfMemory = OutOfMemory

-- a call of the library was made: a refused one was
abbrev pub is_made : {A : Type 0} → Result A Trouble → Bool
is_made (Ok x) = true
is_made (Err (Refused f)) = true
is_made (Err NotOnWay) = false
is_made (Err NotSilent) = false
is_made (Err (Damaged e)) = false
is_made (Err NoReader) = false
is_made (Err Joined) = false
is_made (Err Closed) = false
is_made (Err OutOfMemory) = false

-- there was no memory for it
abbrev pub no_memory : {A : Type 0} → Result A Trouble → Bool
no_memory (Ok x) = false
no_memory (Err (Refused f)) = false
no_memory (Err NotOnWay) = false
no_memory (Err NotSilent) = false
no_memory (Err (Damaged e)) = false
no_memory (Err NoReader) = false
no_memory (Err Joined) = false
no_memory (Err Closed) = false
no_memory (Err OutOfMemory) = true

-- the line is not silent
abbrev pub not_silent : {A : Type 0} → Result A Trouble → Bool
not_silent (Ok x) = false
not_silent (Err (Refused f)) = false
not_silent (Err NotOnWay) = false
not_silent (Err NotSilent) = true
not_silent (Err (Damaged e)) = false
not_silent (Err NoReader) = false
not_silent (Err Joined) = false
not_silent (Err Closed) = false
not_silent (Err OutOfMemory) = false

-- what the library answers
abbrev pub told : {A : Type 0} → Result A Fault → Result A Trouble
told (Ok x) = Ok x
told (Err f) = Err (Refused f)

-- an answer without what it gives
abbrev pub made_of : {A E : Type 0} → Result A E → Result (Unit {0}) E
made_of (Ok x) = Ok tt
made_of (Err e) = Err e
