-- The answers of a call that is refused by the reader, or for want of memory.
use Rattle.std.specs.Prelude.{Bool, true, false, Ok, Err, Result}
use Rattle.fault.specs.declared.Fault.{Fault}
use Rattle.station.specs.declared.Refusal.{Refusal}
use Rattle.station.specs.declared.Refusal.TheVariants as refusal

-- refused for want of memory
abbrev pub no_memory : {A : Type 0} → Result A Refusal → Bool
no_memory (Ok x) = false
no_memory (Err (refusal.Fault f)) = false
no_memory (Err refusal.Memory) = true

-- what the reader answers
abbrev pub told : {A : Type 0} → Result A Fault → Result A Refusal
told (Ok x) = Ok x
told (Err f) = Err (refusal.Fault f)
