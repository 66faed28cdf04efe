-- The long division respects exclusive or: the remainder of a sum is the sum of the remainders.
use Rattle.std.proofs.Common.{◌≡◌, ℕ, zero, suc, ◌+◌, ◌*◌, ◌/◌, ◌^◌, ◌<◌, Bool, true, false, not, eqb, List, [], ◌∷◌, ◌++◌, length, replicate, sym, refl, ap, ◌∙◌, arith, lit<}
use lib.Bits.{bit_xor, xor_assoc, xor_comm, xor_self, xor_zero_r, xor_shr, xor_block}
use Rattle.crc.specs.Check.{generator, digit, bring_down, remainder, octet_bits}
use Rattle.crc.proofs.Below.{below, agree}

pub xor_swap : (a b c d : ℕ) → bit_xor (bit_xor a b) (bit_xor c d) ≡ bit_xor (bit_xor a c) (bit_xor b d)
xor_swap a b c d =
    xor_assoc a b (bit_xor c d)
    ∙ ap (bit_xor a) (sym (xor_assoc b c d) ∙ ap (λ (x : ℕ). bit_xor x d) (xor_comm b c) ∙ xor_assoc c b d)
    ∙ sym (xor_assoc a c (bit_xor b d))

pub xor_cancel : (a b : ℕ) → bit_xor a b ≡ 0 → a ≡ b
xor_cancel a b e =
    sym (xor_zero_r a) ∙ ap (bit_xor a) (sym (xor_self b)) ∙ sym (xor_assoc a b b) ∙ ap (λ (x : ℕ). bit_xor x b) e

-- ---- the sum of two coefficients, and of two polynomials

abbrev pub xorb : Bool → Bool → Bool
xorb false b = b
xorb true b = not b

unfoldable pub sums : List Bool → List Bool → List Bool
sums [] cs = []
sums (b ∷ bs) [] = []
sums (b ∷ bs) (c ∷ cs) = xorb b c ∷ sums bs cs

pub length_sums : (bs cs : List Bool) → length bs ≡ length cs → length (sums bs cs) ≡ length bs
unfolding sums
length_sums [] cs e = refl
length_sums (b ∷ bs) [] e = absurd (omega arith)
length_sums (b ∷ bs) (c ∷ cs) e = ap suc (length_sums bs cs (omega arith))

pub digit_lt : (b : Bool) → digit b < 2 ^ 1
digit_lt true = lit< tt
digit_lt false = lit< tt

pub digit_xor : (b c : Bool) → digit (xorb b c) ≡ bit_xor (digit b) (digit c)
digit_xor true true = refl
digit_xor true false = refl
digit_xor false true = refl
digit_xor false false = refl

-- a coefficient more on the right of two sums
pub push_xor : (m n : ℕ) (b c : Bool) → bit_xor m n * 2 + digit (xorb b c) ≡ bit_xor (m * 2 + digit b) (n * 2 + digit c)
push_xor m n b c =
    ap (λ (d : ℕ). bit_xor m n * 2 + d) (digit_xor b c) ∙ sym (xor_block 1 m n (digit b) (digit c) (digit_lt b) (digit_lt c))

pub times_bit : (t u : ℕ) → t < 2 → u < 2 → bit_xor t u * generator ≡ bit_xor (t * generator) (u * generator)
times_bit zero u ht hu = refl
times_bit (suc zero) zero ht hu = refl
times_bit (suc zero) (suc zero) ht hu = refl
times_bit (suc zero) (suc (suc u)) ht hu = absurd (omega arith)
times_bit (suc (suc t)) u ht hu = absurd (omega arith)

-- ---- a step of the division

abbrev reduce : ℕ → ℕ
reduce s = bit_xor s (s / 2 ^ 16 * generator)

reduce_xor : (s u : ℕ) → s < 2 ^ 17 → u < 2 ^ 17 → reduce (bit_xor s u) ≡ bit_xor (reduce s) (reduce u)
reduce_xor s u hs hu =
    ap (λ (q : ℕ). bit_xor (bit_xor s u) (q * generator)) (xor_shr s u 16)
    ∙ ap (bit_xor (bit_xor s u)) (times_bit (s / 2 ^ 16) (u / 2 ^ 16) (omega arith) (omega arith))
    ∙ xor_swap s u (s / 2 ^ 16 * generator) (u / 2 ^ 16 * generator)

reduce_lt : (s : ℕ) → s < 2 ^ 17 → reduce s < 2 ^ 16
reduce_lt s h =
    let t : ℕ = s / 2 ^ 16 in
    let top : t * generator / 2 ^ 16 ≡ t = omega arith in
    let e : reduce s / 2 ^ 16 ≡ 0 = xor_shr s (t * generator) 16 ∙ ap (bit_xor t) top ∙ xor_self t in
    omega (arith, e)

pub brought_lt : (r : ℕ) (b : Bool) → r < 2 ^ 16 → r * 2 + digit b < 2 ^ 17
brought_lt r b h = omega (arith, digit_lt b)

pub bring_lt : (r : ℕ) (b : Bool) → r < 2 ^ 16 → bring_down r b < 2 ^ 16
unfolding bring_down
bring_lt r b h = reduce_lt (r * 2 + digit b) (brought_lt r b h)

pub bring_xor : (r q : ℕ) (b c : Bool) → r < 2 ^ 16 → q < 2 ^ 16
    → bring_down (bit_xor r q) (xorb b c) ≡ bit_xor (bring_down r b) (bring_down q c)
unfolding bring_down
bring_xor r q b c hr hq =
    ap reduce (push_xor r q b c) ∙ reduce_xor (r * 2 + digit b) (q * 2 + digit c) (brought_lt r b hr) (brought_lt q c hq)

-- ---- the whole division

pub remainder_lt : (r : ℕ) (bs : List Bool) → r < 2 ^ 16 → remainder r bs < 2 ^ 16
unfolding remainder
remainder_lt r [] h = h
remainder_lt r (b ∷ bs) h = remainder_lt (bring_down r b) bs (bring_lt r b h)

pub remainder-++ : (r : ℕ) (bs cs : List Bool) → remainder r (bs ++ cs) ≡ remainder (remainder r bs) cs
unfolding remainder
remainder-++ r [] cs = refl
remainder-++ r (b ∷ bs) cs = remainder-++ (bring_down r b) bs cs

pub remainder_xor : (r q : ℕ) (bs cs : List Bool) → r < 2 ^ 16 → q < 2 ^ 16 → length bs ≡ length cs
    → remainder (bit_xor r q) (sums bs cs) ≡ bit_xor (remainder r bs) (remainder q cs)
unfolding remainder sums
remainder_xor r q [] [] hr hq e = refl
remainder_xor r q [] (c ∷ cs) hr hq e = absurd (omega arith)
remainder_xor r q (b ∷ bs) [] hr hq e = absurd (omega arith)
remainder_xor r q (b ∷ bs) (c ∷ cs) hr hq e =
    ap (λ (x : ℕ). remainder x (sums bs cs)) (bring_xor r q b c hr hq)
    ∙ remainder_xor (bring_down r b) (bring_down q c) bs cs (bring_lt r b hr) (bring_lt q c hq) (omega arith)

-- ---- a remainder shifted up

abbrev pub zeros : ℕ → List Bool
zeros n = replicate n false

-- what is left of r shifted up n places
abbrev pub shift : ℕ → ℕ → ℕ
shift n r = remainder r (zeros n)

pub shift_xor : (n r q : ℕ) → r < 2 ^ 16 → q < 2 ^ 16 → shift n (bit_xor r q) ≡ bit_xor (shift n r) (shift n q)
unfolding remainder
shift_xor zero r q hr hq = refl
shift_xor (suc n) r q hr hq =
    ap (shift n) (bring_xor r q false false hr hq)
    ∙ shift_xor n (bring_down r false) (bring_down q false) (bring_lt r false hr) (bring_lt q false hq)

-- ---- octets

octet_test : below (λ x. eqb (remainder 0 (octet_bits x)) x) 256 ≡ true
unfolding below remainder bring_down
octet_test = refl

shift_test : below (λ x. eqb (shift 8 x) (x * 2 ^ 8)) 256 ≡ true
unfolding below remainder bring_down
shift_test = refl

pub shift_octet : (x : ℕ) → x < 2 ^ 8 → shift 8 x ≡ x * 2 ^ 8
shift_octet = agree (shift 8) (λ x. x * 2 ^ 8) 256 shift_test

pub octet : (r x : ℕ) → r < 2 ^ 16 → x < 2 ^ 8 → remainder r (octet_bits x) ≡ bit_xor (shift 8 r) x
unfolding sums
octet r x hr hx =
    ap (λ (q : ℕ). remainder q (octet_bits x)) (sym (xor_zero_r r))
    ∙ remainder_xor r 0 (zeros 8) (octet_bits x) hr (lit< tt) refl
    ∙ ap (bit_xor (shift 8 r)) (agree (λ k. remainder 0 (octet_bits k)) (λ k. k) 256 octet_test x hx)
