-- What a writer answers, and what it leaves in the buffer.
use Rattle.std.specs.Prelude.{ℕ, ◌+◌, ◌-◌, Bool, true, cond, ◌&&◌, List, ◌++◌, map, length, take, drop, Ok, Err, Result, nat_le, nat_lt}
use Rattle.fault.specs.Causes.{fault}
use Rattle.fault.specs.declared.Cause.TheVariants.{BadLength, ShortBuffer}
use Rattle.fault.specs.declared.Fault.{Fault}
use Rattle.frame.specs.declared.Content.{Content}
use Rattle.frame.specs.declared.Content.TheVariants.{Single, Fixed, Variable}

-- a variable content has 1 to 64 user octets
abbrev pub proper : Content → Bool
proper Single = true
proper (Fixed c a) = true
proper (Variable c a n) = nat_le 1 n && nat_le n 64

-- 20 if the buffer is under the longest frame, then 15, else the count of the frame's symbols
abbrev pub write_answer : ℕ → List ℕ → Content → List ℕ → Result ℕ Fault
write_answer longest frame c buffer =
    cond (nat_lt (length buffer) longest) (Err (fault ShortBuffer 0)) (
    cond (proper c) (Ok (length frame)) (Err (fault BadLength 0)))

-- the frame at the front and the rest untouched; all of it untouched at a refusal
abbrev pub buffer_written : ℕ → List ℕ → Content → List ℕ → List ℕ
buffer_written longest frame c buffer =
    cond (nat_lt (length buffer) longest) buffer (cond (proper c) (frame ++ drop (length frame) buffer) buffer)

-- as many of the octets as a buffer has room for from a place on
abbrev pub fitting : ℕ → List ℕ → List ℕ → List ℕ
fitting place os buffer = take (length buffer - place) os

-- a buffer after the symbols of some octets were put into it from a place on
abbrev pub encoded_at : (ℕ → ℕ) → ℕ → List ℕ → List ℕ → List ℕ
encoded_at symbol_for place os buffer = take place buffer ++ (map symbol_for os ++ drop (place + length os) buffer)
