use Rattle.std.proofs.Common.{◌≡◌, ◌+◌, ◌++◌, length, length-append, drop, sym, ap, ◌∙◌, ap₂, arith}
use Rattle.frame.specs.Writing.{encoded_at}
use Rattle.ft3.specs.Blocks.{length_all_blocks}
use Rattle.ft3.specs.Buffers.{length_headed, put_next}
use Rattle.ft3.specs.Frames.{all_blocks, headed}
use Rattle.ft3.proofs.writing.write_variable.Goals as goal

pub write_blocks-requires : goal.write_blocks-requires
write_blocks-requires c =
    omega (arith, length_all_blocks c.args.user.now, length_headed (length c.args.user.now + 2) c.args.control.octet c.args.address, c.write_header-header.ensures.end)

pub returns : goal.returns
returns c =
    let b = c.args.buffer.now in
    let head = headed (length c.args.user.now + 2) c.args.control.octet c.args.address in
    let blocks = all_blocks c.args.user.now in
    let header = c.write_header-header.ensures in
    let count : c.write_blocks.result ≡ length (head ++ blocks) = c.write_blocks.ensures.end ∙ ap (λ n. n + length blocks) header.end ∙ sym (length-append head blocks) in
    record {
      count = count;
      written =
          c.write_blocks.ensures.written ∙
          ap₂ (λ n z. encoded_at (λ o. o) n blocks z) header.end (header.written ∙ ap (λ n. head ++ drop n b) header.end) ∙
          put_next head blocks b ∙
          ap (λ n. (head ++ blocks) ++ drop n b) (sym count);
    }
