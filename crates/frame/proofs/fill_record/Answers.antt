use Rattle.frame.proofs.Records.{front_padded}
use Rattle.frame.proofs.fill_record.Goals as goal

pub returns : goal.returns
returns c = front_padded 64 c.min-count.result c.args.octets.now c.copy_from_slice.new.self c.min-count.ensures c.copy_from_slice.ensures.after
