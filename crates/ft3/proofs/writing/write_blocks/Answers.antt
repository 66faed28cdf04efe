use Rattle.std.proofs.Common.{◌≡◌, ◌+◌, ◌++◌, length, sym, ap, ◌∙◌, arith}
use Rattle.crc.specs.Check.{sealed}
use Rattle.crc.proofs.Sealed.{length_sealed}
use Rattle.frame.proofs.Symbols.{encoded_next}
use Rattle.frame.specs.Writing.{encoded_at}
use Rattle.ft3.specs.Buffers.{block_next}
use Rattle.ft3.specs.Frames.{all_blocks}
use Rattle.ft3.proofs.writing.write_blocks.Goals as goal
use Rattle.ft3.proofs.writing.write_blocks.Goals.{In-Some}

next : (c : In-Some) →
    let rest = c.loop-block.block-iterator.rest.now in
    let left = c.next.new.self.rest.now in
    (all_blocks rest ≡ sealed c.in-Some.block.now ++ all_blocks left) × (length (all_blocks rest) ≡ length c.in-Some.block.now + 2 + length (all_blocks left))
next c =
    let steps = c.in-Some.ensures.steps in
    block_next c.loop-block.block-iterator.rest.now c.in-Some.block.now c.next.new.self.rest.now c.loop-block.block-iterator.size
    c.loop-block.invariant.size steps.1.0 steps.1.1 steps.1.2

pub put_block-end-requires : goal.put_block-end-requires
put_block-end-requires c = omega (arith, (next (goal.at.put_block-end-requires c).In-Some).1)

pub loop-block-preserved : goal.loop-block-preserved
loop-block-preserved c =
    let n = next (goal.at.loop-block-preserved c).In-Some in
    let block = c.in-Some.block.now in
    let left = c.next.new.self.rest.now in
    let end = c.put_block-end.result in
    record {
      size = c.in-Some.ensures.steps.0 ∙ c.loop-block.invariant.size;
      counts = omega (arith, n.1);
      written =
          ap (encoded_at (λ o. o) end (all_blocks left)) c.put_block-end.ensures.written ∙
          encoded_next (λ o. o) (sealed block) (all_blocks left) c.loop-block.buffer c.loop-block.end end (omega (arith, n.1)) (omega (arith, length_sealed block)) ∙
          ap (λ z. encoded_at (λ o. o) c.loop-block.end z c.loop-block.buffer) (sym n.0) ∙
          c.loop-block.invariant.written;
    }
