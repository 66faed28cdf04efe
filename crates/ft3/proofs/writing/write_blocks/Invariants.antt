use Rattle.std.proofs.Common.{◌≡◌, ◌+◌, length}
use Rattle.frame.specs.Writing.{encoded_at}
use Rattle.ft3.specs.Frames.{all_blocks}
use Rattle.ft3.proofs.writing.write_blocks.Given as goal

abbrev pub invariant-loop-block : goal.invariant-loop-block
invariant-loop-block l =
    let rest = l.block-iterator.rest.now in
    record {
      size : l.block-iterator.size ≡ 16;
      counts : l.end + length (all_blocks rest) ≡ l.place + length (all_blocks l.user);
      written : encoded_at (λ o. o) l.end (all_blocks rest) l.buffer ≡ encoded_at (λ o. o) l.place (all_blocks l.user) l.initial.buffer;
    }
