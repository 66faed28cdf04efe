-- The symbols of FT1.2: bit 0 is the start bit, 0; bits 1 to 8 are the octet, lowest first; bit 9 makes the count of ones in bits 1 to 9 even; bit 10 is the stop bit, 1.
use Rattle.std.specs.Prelude.{ℕ, ◌+◌, ◌*◌, ◌/◌, ◌%◌, Bool, ◌&&◌, ◌==◌, count_ones, nat_lt}

-- the symbol of an octet
abbrev pub symbol_of : ℕ → ℕ
symbol_of octet = 2 * octet + 512 * (count_ones octet % 2) + 1024

-- the octet in a symbol
abbrev pub octet_of : ℕ → ℕ
octet_of symbol = symbol / 2 % 256

-- 11 bits, of which start, parity and stop are right; any other symbol is broken
abbrev pub is_sound : ℕ → Bool
is_sound symbol =
    nat_lt symbol 2048 && (symbol % 2 == 0 && (count_ones (symbol / 2 % 512) % 2 == 0 && symbol / 1024 == 1))
