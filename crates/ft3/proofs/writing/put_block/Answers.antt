use Rattle.std.proofs.Common.{◌≡◌, ◌%◌, [], ◌∷◌, ◌++◌, length, ap, ◌∙◌, ap₂, arith}
use Rattle.crc.specs.Check.{sealed}
use Rattle.frame.proofs.Symbols.{encoded_next, put_whole}
use Rattle.frame.specs.Writing.{encoded_at}
use Rattle.ft3.proofs.writing.put_block.Goals as goal

pub returns : goal.returns
unfolding sealed
returns c =
    let block = c.args.block.now in
    let place = c.args.place in
    let bytes = c.to_be_bytes.result in
    let check = c.encode_at-check in
    let end = c.encode_at in
    let two : length bytes ≡ 2 = ap length c.to_be_bytes.ensures in
    let one = put_whole (λ o. o) place check.result block c.args.buffer.now check.new.buffer (omega arith) check.ensures.end check.ensures.encoded in
    let last = put_whole (λ o. o) check.result end.result bytes check.new.buffer end.new.buffer (omega arith) end.ensures.end end.ensures.encoded in
    record {
      end = omega (arith, one.0, last.0, two);
      written =
          last.1 ∙
          ap (encoded_at (λ o. o) check.result bytes) one.1 ∙
          encoded_next (λ o. o) block bytes c.args.buffer.now place check.result (omega arith) one.0 ∙
          ap (λ z. encoded_at (λ o. o) place (block ++ z) c.args.buffer.now) (c.to_be_bytes.ensures ∙ ap₂ (λ x y. x ∷ y ∷ []) (omega arith) (ap (λ r. r % 256) c.block_check.ensures.checked));
    }
