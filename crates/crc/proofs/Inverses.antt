-- The powers of 1/x modulo the generator, and tests that compute on them: 1 is no sum of one or of three of 1/x, .., 1/x^143.
use Rattle.std.proofs.Common.{◌≡◌, ℕ, zero, suc, ◌*◌, ◌/◌, ◌%◌, Bool, true, false, not, ◌&&◌, eqb, refl}
use lib.Bits.{bit_xor}

-- p divided by x: where p is odd, the generator (81253) is added first, so that x divides it
unfoldable pub back : ℕ → ℕ
back p = bit_xor p (p % 2 * 81253) / 2

-- a set of numbers, by their bits, the lowest first
pub data Trie : Type 0 where
  none : Trie
  leaf : Trie
  node : Trie → Trie → Trie

unfoldable pub has : Trie → ℕ → Bool
has none v = false
has leaf v = true
has (node l r) v = elim (v % 2) [ zero ↦ has l (v / 2) | suc k ↦ has r (v / 2) ]

unfoldable insert : ℕ → Trie → ℕ → Trie
insert zero t v = leaf
insert (suc k) none v = elim (v % 2) [ zero ↦ node (insert k none (v / 2)) none | suc d ↦ node none (insert k none (v / 2)) ]
insert (suc k) leaf v = leaf
insert (suc k) (node l r) v = elim (v % 2) [ zero ↦ node (insert k l (v / 2)) r | suc d ↦ node l (insert k r (v / 2)) ]

-- the n numbers p, back p, back (back p), ..
unfoldable orbit : ℕ → ℕ → Trie
unfolding back insert
orbit zero p = none
orbit (suc n) p = insert 16 (orbit n (back p)) p

-- the set m has those n numbers
unfoldable pub holds : Trie → ℕ → ℕ → Bool
unfolding back has
holds m zero p = true
holds m (suc n) p = has m p && holds m n (back p)

-- s is no sum of w of those n numbers, at different places; m has them all
unfoldable pub no_sum : Trie → ℕ → ℕ → ℕ → ℕ → Bool
unfolding back has
no_sum m n zero p s = not (eqb s 0)
no_sum m n (suc zero) p s = not (has m s)
no_sum m zero (suc (suc w)) p s = true
no_sum m (suc n) (suc (suc w)) p s = no_sum m n (suc (suc w)) (back p) s && no_sum m n (suc w) (back p) (bit_xor s p)

-- 1/x, .., 1/x^143
unfoldable pub inverses : Trie
unfolding orbit
inverses = orbit 143 (back 1)

pub holds_all : holds inverses 143 (back 1) ≡ true
unfolding inverses holds
holds_all = refl

pub not_one : no_sum inverses 143 1 (back 1) 1 ≡ true
unfolding inverses no_sum
not_one = refl

-- 10153 sums of two are looked up
pub not_three : no_sum inverses 143 3 (back 1) 1 ≡ true
unfolding inverses no_sum
not_three = refl
