-- The bits of the control octet.
use Rattle.std.specs.Prelude.{ℕ, ◌+◌, ◌*◌, ◌/◌, ◌%◌, Bool, true, false, ◌==◌}

-- whether the bit of this weight is 1: 128 reserved; 64 PRM; 32 FCB or ACD; 16 FCV or DFC
abbrev pub bit : ℕ → ℕ → Bool
bit weight octet = octet / weight % 2 == 1

-- the function code, bits 0 to 3
abbrev pub code_of : ℕ → ℕ
code_of octet = octet % 16

-- a truth value as a bit
abbrev pub digit : Bool → ℕ
digit true = 1
digit false = 0

-- from the concentrator: bit 7 is 0, PRM is 1
abbrev pub primary_octet : Bool → Bool → ℕ → ℕ
primary_octet fcb fcv code = 64 + 32 * digit fcb + 16 * digit fcv + code % 16

-- from a reader: bit 7 and PRM are 0
abbrev pub secondary_octet : Bool → Bool → ℕ → ℕ
secondary_octet acd dfc code = 32 * digit acd + 16 * digit dfc + code % 16
