use Rattle.std.proofs.Common.{◌≡◌, [], ◌∷◌, ◌++◌, length, drop, sym, ap, ◌∙◌, arith}
use Rattle.crc.specs.Check.{sealed}
use Rattle.crc.proofs.Sealed.{length_sealed}
use Rattle.frame.proofs.Symbols.{encoded_next, put_whole}
use Rattle.frame.specs.Writing.{encoded_at}
use Rattle.ft3.specs.Buffers.{put_first}
use Rattle.ft3.specs.Frames.{headed}
use Rattle.ft3.proofs.writing.write_header.Goals as goal

pub returns : goal.returns
returns c =
    let b = c.args.buffer.now in
    let block = c.args.l ∷ c.args.control.octet ∷ c.args.address ∷ [] in
    let head = headed c.args.l c.args.control.octet c.args.address in
    let start = c.encode_at-start in
    let put = put_whole (λ o. o) 0 start.result (0x05 ∷ 0x64 ∷ []) b start.new.buffer (omega arith) start.ensures.end start.ensures.encoded in
    let end : c.put_block.result ≡ length head = omega (arith, length_sealed block, c.put_block.ensures.end, put.0) in
    record {
      end = end;
      written =
          c.put_block.ensures.written ∙
          ap (encoded_at (λ o. o) start.result (sealed block)) put.1 ∙
          encoded_next (λ o. o) (0x05 ∷ 0x64 ∷ []) (sealed block) b 0 start.result (omega arith) put.0 ∙
          put_first head b ∙
          ap (λ n. head ++ drop n b) (sym end);
    }
