-- The verdict of FT3 on every burst, with the one fault of each that is no frame, in the order of the checks.
use Rattle.std.specs.Prelude.{ℕ, zero, suc, ◌+◌, ◌-◌, ◌*◌, Bool, cond, ◌&&◌, List, [], ◌++◌, length, take, drop, Ok, Err, Result, ◌==◌, nat_le, nat_lt, slice_index}
use Rattle.crc.specs.Check.{check}
use Rattle.fault.specs.Causes.{fault}
use Rattle.fault.specs.declared.Cause.TheVariants.{WrongStart, WrongLength, WrongCheck}
use Rattle.fault.specs.declared.Fault.{Fault}
use Rattle.frame.specs.Contents.{Meaning, single, fixed, variable}
use Rattle.frame.specs.Verdicts.{after, line_checked, must}
use Rattle.ft3.specs.Frames.{block_count}

-- a symbol of 8 bits; any other is broken
abbrev pub is_sound : ℕ → Bool
is_sound symbol = nat_lt symbol 256

-- ---- blocks

-- a block without its two check octets
abbrev pub opened : List ℕ → List ℕ
opened block = take (length block - 2) block

-- the last two octets, the higher first, are the check of those before them
abbrev pub is_sealed : List ℕ → Bool
is_sealed block =
    (slice_index block (length block - 2) * 256 + slice_index block (length block - 1) == check (opened block))

-- 6 at the first check octet, unless the block that begins at this place is sealed
abbrev pub block_checked : ℕ → List ℕ → Result (Unit {0}) Fault
block_checked place block = must (is_sealed block) (fault WrongCheck (place + (length block - 2))) (Ok tt)

-- k blocks, of which each has 18 octets with its check and the last what is left: 6 at the first bad one
abbrev pub blocks_checked : ℕ → ℕ → List ℕ → Result (Unit {0}) Fault
blocks_checked zero place os = Ok tt
blocks_checked (suc k) place os = after (block_checked place (take 18 os)) (blocks_checked k (place + 18) (drop 18 os))

-- what k such blocks carry
abbrev pub opened_blocks : ℕ → List ℕ → List ℕ
opened_blocks zero os = []
opened_blocks (suc k) os = opened (take 18 os) ++ opened_blocks k (drop 18 os)

-- ---- frames

-- 4 at place 1, unless this octet follows the first
abbrev pub partner_checked : ℕ → List ℕ → Result (Unit {0}) Fault
partner_checked partner os = must (nat_le 2 (length os) && slice_index os 1 == partner) (fault WrongStart 1) (Ok tt)

-- octets that start as a single frame
abbrev pub single_verdict : List ℕ → Result Meaning Fault
single_verdict os =
    after (partner_checked 0x3D os) (
    must (length os == 2) (fault WrongLength (length os)) (
    Ok single))

-- octets with a header whose length octet is 0
abbrev pub fixed_verdict : List ℕ → Result Meaning Fault
fixed_verdict os = must (length os == 7) (fault WrongLength (length os)) (Ok (fixed (slice_index os 3) (slice_index os 4)))

-- octets with a header that says n user octets
abbrev pub variable_verdict : List ℕ → ℕ → Result Meaning Fault
variable_verdict os n =
    must (length os == 7 + n + 2 * block_count n) (fault WrongLength (length os)) (
    after (blocks_checked (block_count n) 7 (drop 7 os)) (
    Ok (variable (slice_index os 3) (slice_index os 4) (opened_blocks (block_count n) (drop 7 os)))))

-- octets with a header, by the length octet
abbrev pub length_verdict : List ℕ → ℕ → Result Meaning Fault
length_verdict os l =
    cond (l == 0) (fixed_verdict os) (
    cond (nat_le 3 l && nat_le l 66) (variable_verdict os (l - 2)) (
    Err (fault WrongLength 2)))

-- octets that start as a frame with a header
abbrev pub headed_verdict : List ℕ → Result Meaning Fault
headed_verdict os =
    after (partner_checked 0x64 os) (
    must (nat_le 7 (length os)) (fault WrongLength (length os)) (
    after (block_checked 2 (take 5 (drop 2 os))) (
    length_verdict os (slice_index os 2))))

-- octets by the first of them, which says the kind of frame
abbrev pub start_verdict : List ℕ → ℕ → Result Meaning Fault
start_verdict os start =
    cond (start == 0x12) (single_verdict os) (
    cond (start == 0x05) (headed_verdict os) (
    Err (fault WrongStart 0)))

-- octets whose symbols are sound
abbrev pub octets_verdict : List ℕ → Result Meaning Fault
octets_verdict os = start_verdict os (slice_index os 0)

-- a burst: the checks of every burst, then those of its symbols, which are octets
abbrev pub verdict_of : List ℕ → Result Meaning Fault
verdict_of b = after (line_checked is_sound 79 b) (octets_verdict b)
