use Rattle.std.proofs.Common.{◌≡◌, ℕ, ◌*◌, ◌^◌, ◌<◌, List, rules, sym, ap, ◌∙◌, subst, arith}
use lib.Bits.{bit_xor}
use Rattle.std.specs.Int.Digits.{AllBelowBase, number_from_digits}
use Rattle.std.proofs.ByRecursion.{All-from_get_or}
use Rattle.std.proofs.iter.runs.Made.{chains}
use Rattle.crc.specs.Check.{check}
use Rattle.crc.specs.Division.{Remainder}
use Rattle.crc.proofs.Division.{check_divides}
use Rattle.crc.proofs.Register.{feed, fed_check}
use Rattle.crc.proofs.block_check.Goals as goal

pub returns : goal.returns
returns c = record { checked = is_check; divided = subst (λ (r : ℕ). Remainder (number_from_digits 256 xs * 2 ^ 16) (bit_xor r 0xFFFF)) (sym is_check) (check_divides xs under) }
  where
    xs : List ℕ
    xs = c.args.block.now

    under : AllBelowBase 256 xs
    under = All-from_get_or (λ x. x < 256) xs 0 (λ i h. omega (arith, c.type_inv.block i))

    folded : c.fold-register.result ≡ feed 0 xs
    folded = search (rules, chains)

    is_check : bit_xor c.fold-register.result 0xFFFF ≡ check xs
    is_check = ap (λ (r : ℕ). bit_xor r 0xFFFF) folded ∙ fed_check xs under
