use Rattle.std.proofs.Common.{refl, arith}
use Rattle.frame.proofs.Symbols.{put_whole}
use Rattle.ft12.proofs.Buffers.{variable_encoded}
use Rattle.ft12.specs.Symbols.{symbol_of}
use Rattle.ft12.proofs.writing.write_variable.Goals as goal

pub returns : goal.returns
returns c =
    let head = c.encode_at-head in
    let covered = c.encode_at-covered in
    let end = c.encode_at in
    let b = c.args.buffer.now in
    let one = put_whole symbol_of 0 head.result _ b head.new.buffer (omega arith) head.ensures.end head.ensures.encoded in
    let two = put_whole symbol_of head.result covered.result c.args.user.now head.new.buffer covered.new.buffer (omega arith) covered.ensures.end covered.ensures.encoded in
    let three = put_whole symbol_of covered.result end.result _ covered.new.buffer end.new.buffer (omega arith) end.ensures.end end.ensures.encoded in
    record {
      count = omega (arith, one.0, two.0, three.0);
      encoded =
          variable_encoded c.args.control.octet c.args.address _ _ c.check_octet.result c.check_octet-2.result head.result covered.result c.args.user.now b head.new.buffer covered.new.buffer end.new.buffer
          refl c.check_octet.ensures c.check_octet-2.ensures refl one.1 one.0 two.1 two.0 three.1;
    }
