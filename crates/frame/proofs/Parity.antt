-- The parity of the bits in which two symbols differ.
use Rattle.std.proofs.Common.{◌≡◌, ℕ, zero, suc, ◌+◌, ◌/◌, ◌%◌, ◌<◌, ◌≤◌, refl, ap, arith}
use lib.Arith.{half_le}
use lib.Bits.{bit_xor, xor_shr, xor_mod}
use lib.Count.{ones, ones_step, ones-le}

low : (p q : ℕ) → p < 2 → q < 2 → bit_xor p q % 2 ≡ (p + q) % 2
low zero zero hp hq = refl
low zero (suc zero) hp hq = refl
low (suc zero) zero hp hq = refl
low (suc zero) (suc zero) hp hq = refl
low zero (suc (suc q)) hp hq = absurd (omega arith)
low (suc zero) (suc (suc q)) hp hq = absurd (omega arith)
low (suc (suc p)) q hp hq = absurd (omega arith)

no_ones : ones 0 ≡ 0
no_ones = let h : ones 0 ≤ 0 = ones-le 0 0 (omega arith) in omega arith

parity : (d a b : ℕ) → a ≤ d → b ≤ d → ones (bit_xor a b) % 2 ≡ (ones a + ones b) % 2
parity zero zero zero ha hb = omega (arith, no_ones)
parity zero zero (suc b) ha hb = absurd (omega arith)
parity zero (suc a) b ha hb = absurd (omega arith)
parity (suc d) a b ha hb =
    let x = bit_xor a b in
    let sx = ones_step x in
    let sa = ones_step a in
    let sb = ones_step b in
    let half : ones (x / 2) ≡ ones (bit_xor (a / 2) (b / 2)) = ap ones (xor_shr a b 1) in
    let bit : x % 2 ≡ bit_xor (a % 2) (b % 2) = xor_mod a b 1 in
    let l : bit_xor (a % 2) (b % 2) % 2 ≡ (a % 2 + b % 2) % 2 = low (a % 2) (b % 2) (omega arith) (omega arith) in
    let ih : ones (bit_xor (a / 2) (b / 2)) % 2 ≡ (ones (a / 2) + ones (b / 2)) % 2 = parity d (a / 2) (b / 2) (half_le ha) (half_le hb) in
    omega (arith, sx, sa, sb, half, bit, l, ih)

pub xor_parity : (a b : ℕ) → ones (bit_xor a b) % 2 ≡ (ones a + ones b) % 2
xor_parity a b = parity (a + b) a b (omega arith) (omega arith)
