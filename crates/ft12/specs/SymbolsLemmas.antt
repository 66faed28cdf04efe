-- Octets and their symbols, and the bit operations that the code has for them.
use Rattle.std.specs.Prelude.{◌≡◌, ℕ, zero, suc, ◌+◌, ◌*◌, ◌/◌, ◌%◌, ◌^◌, ◌<◌, true, bit_or, refl}
use Rattle.std.proofs.Common.{ap, ◌∙◌, arith}
use Rattle.std.specs.Int.Count.{ones, ones_in, ones_step}
use Rattle.ft12.specs.Symbols.{is_sound, octet_of, symbol_of}
use Rattle.std.proofs.lemmas.Nat.{or_shifted, ones_cat}
use Rattle.std.proofs.lemmas.Bool.Decides.{nat_tests}

-- the stop bit, the parity bit and the octet, put together
pub joined : (o p : ℕ) → o < 256 → p < 2 → bit_or (bit_or 1024 (p * 512)) (o * 2) ≡ 2 * o + 512 * p + 1024
joined o p ho hp =
    let high : bit_or 1024 (p * 512) ≡ (2 + p) * 2 ^ 9 = or_shifted 1 10 (p * 512) (omega arith) ∙ omega arith in
    ap (λ n. bit_or n (o * 2)) high ∙ or_shifted (2 + p) 9 (o * 2) (omega arith) ∙ omega arith

bit : (p : ℕ) → p < 2 → ones p ≡ p
unfolding ones ones_in
bit zero h = refl
bit (suc zero) h = refl
bit (suc (suc p)) h = absurd (omega arith)

-- a bit, and the stop bit above it
lead : (p : ℕ) → p < 2 → ones (2 + p) ≡ 1 + p
unfolding ones ones_in
lead zero h = refl
lead (suc zero) h = refl
lead (suc (suc p)) h = absurd (omega arith)

-- with its parity and its stop bit, a symbol has an odd count of ones
pub symbol_odd : (o : ℕ) → o < 256 → ones (symbol_of o) % 2 ≡ 1
symbol_odd o h =
    let p = ones o % 2 in
    let cut : symbol_of o ≡ (2 + p) * 2 ^ 9 + 2 * o = omega arith in
    let parts = ones_cat 9 (2 + p) (2 * o) (omega arith) in
    let step = ones_step (2 * o) in
    let low : 2 * o % 2 ≡ 0 = omega arith in
    let high : ones (2 * o / 2) ≡ ones o = let half : 2 * o / 2 ≡ o = omega arith in ap ones half in
    let top = lead p (omega arith) in
    let whole = ap ones cut in
    omega (arith, parts, step, low, high, top, whole)

pub symbol_fits : (o : ℕ) → o < 256 → symbol_of o < 2048
symbol_fits o h = omega arith

pub octet_symbol : (o : ℕ) → o < 256 → octet_of (symbol_of o) ≡ o
octet_symbol o h = omega arith

-- the ones of the octet and the parity bit
parity_of : (q o : ℕ) → q < 2 → o < 256 → ones (q * 2 ^ 8 + o) ≡ q + ones o
parity_of q o h k = ones_cat 8 q o k ∙ ap (λ n. n + ones o) (bit q h)

pub symbol_sound : (o : ℕ) → o < 256 → is_sound (symbol_of o) ≡ true
symbol_sound o h =
    let p = ones o % 2 in
    let s = symbol_of o in
    let mid : s / 2 % 512 ≡ p * 2 ^ 8 + o = omega arith in
    let count : ones (s / 2 % 512) ≡ p + ones o = ap ones mid ∙ parity_of p o (omega arith) h in
    let even : ones (s / 2 % 512) % 2 ≡ 0 = omega (arith, count) in
    let fits : s < 2048 = omega arith in
    let start : s % 2 ≡ 0 = omega arith in
    let stop : s / 1024 ≡ 1 = omega arith in
    passes s fits start even stop
  where
    passes : (s : ℕ) → s < 2048 → s % 2 ≡ 0 → ones (s / 2 % 512) % 2 ≡ 0 → s / 1024 ≡ 1 → is_sound s ≡ true
    passes s fits start even stop = grind (arith, nat_tests)

pub symbol_octet : (s : ℕ) → is_sound s ≡ true → symbol_of (octet_of s) ≡ s
symbol_octet s h =
    let o = octet_of s in
    let q = s / 512 % 2 in
    let fits : s < 2048 = grind (arith, nat_tests) in
    let start : s % 2 ≡ 0 = grind (arith, nat_tests) in
    let even : ones (s / 2 % 512) % 2 ≡ 0 = grind (arith, nat_tests) in
    let stop : s / 1024 ≡ 1 = grind (arith, nat_tests) in
    let mid : s / 2 % 512 ≡ q * 2 ^ 8 + o = omega (arith, fits) in
    let count : ones (s / 2 % 512) ≡ q + ones o = ap ones mid ∙ parity_of q o (omega arith) (omega arith) in
    let p : ones o % 2 ≡ q = omega (arith, count, even) in
    omega (arith, p, fits, start, stop)
