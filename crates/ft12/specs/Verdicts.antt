-- The verdict of FT1.2 on every burst: its content, or its one fault, in the order of the checks.
use Rattle.std.specs.Prelude.{ℕ, ◌+◌, ◌-◌, cond, ◌&&◌, List, map, length, take, drop, Ok, Err, Result, ◌==◌, nat_le, slice_index, slice_range}
use Rattle.fault.specs.Causes.{fault}
use Rattle.fault.specs.declared.Cause.TheVariants.{WrongStart, WrongLength, WrongCheck, WrongEnd}
use Rattle.fault.specs.declared.Fault.{Fault}
use Rattle.frame.specs.Contents.{Meaning, single, fixed, variable}
use Rattle.frame.specs.Verdicts.{after, line_checked, must}
use Rattle.ft12.specs.Frames.{check_of}
use Rattle.ft12.specs.Symbols.{is_sound, octet_of}

-- 6 if the octet at a place is not the check octet of those before it from the first on; then 7 if no end follows it
abbrev pub close_checked : List ℕ → ℕ → ℕ → Result (Unit {0}) Fault
close_checked os first place =
    must (slice_index os place == check_of (slice_range os first place)) (fault WrongCheck place) (
    must (slice_index os (place + 1) == 0x16) (fault WrongEnd (place + 1)) (
    Ok tt))

-- octets that start as a single frame
abbrev pub single_verdict : List ℕ → Result Meaning Fault
single_verdict os = must (length os == 1) (fault WrongLength (length os)) (Ok single)

-- octets that start as a fixed frame
abbrev pub fixed_verdict : List ℕ → Result Meaning Fault
fixed_verdict os =
    must (length os == 5) (fault WrongLength (length os)) (
    after (close_checked os 1 3) (
    Ok (fixed (slice_index os 1) (slice_index os 2))))

-- octets that start as a variable frame and whose first length octet is l
abbrev pub counted_verdict : List ℕ → ℕ → Result Meaning Fault
counted_verdict os l =
    must (nat_le 3 l && nat_le l 66) (fault WrongLength 1) (
    must (slice_index os 2 == l) (fault WrongLength 2) (
    must (slice_index os 3 == 0x68) (fault WrongLength 3) (
    must (length os == l + 6) (fault WrongLength (length os)) (
    after (close_checked os 4 (l + 4)) (
    Ok (variable (slice_index os 4) (slice_index os 5) (take (l - 2) (drop 6 os))))))))

-- octets that start as a variable frame
abbrev pub variable_verdict : List ℕ → Result Meaning Fault
variable_verdict os =
    must (nat_le 4 (length os)) (fault WrongLength (length os)) (
    counted_verdict os (slice_index os 1))

-- octets by the first of them, which says the kind of frame
abbrev pub start_verdict : List ℕ → ℕ → Result Meaning Fault
start_verdict os start =
    cond (start == 0xE5) (single_verdict os) (
    cond (start == 0x10) (fixed_verdict os) (
    cond (start == 0x68) (variable_verdict os) (
    Err (fault WrongStart 0))))

-- octets whose symbols are sound
abbrev pub octets_verdict : List ℕ → Result Meaning Fault
octets_verdict os = start_verdict os (slice_index os 0)

-- a burst: the checks of every burst, then those of its octets, whose places are those of the symbols
abbrev pub verdict_of : List ℕ → Result Meaning Fault
verdict_of b = after (line_checked is_sound 72 b) (octets_verdict (map octet_of b))
