use Rattle.std.proofs.Common.{◌≡◌, ◌*◌, ◌%◌, ◌∙◌, ap₂, arith}
use lib.Bits.{bit_or}
use lib.Count.{ones}
use Rattle.ft12.specs.SymbolsLemmas.{joined}
use Rattle.ft12.proofs.symbol.Ft12SymbolCode.encode.Goals as goal

pub returns : goal.returns
returns c =
    let o = c.args.octet in
    let p = ones o % 2 in
    let high : p * 512 % 65536 ≡ p * 512 = omega arith in
    let low : o * 2 % 65536 ≡ o * 2 = omega arith in
    ap₂ (λ x y. bit_or (bit_or 1024 x) y) high low ∙ joined o p (omega arith) (omega arith)
