-- A line in memory as plain data.
use Rattle.std.specs.Prelude.{Bool, vec_items, vec_len, vec_capacity, nat_lt}
use Rattle.line.specs.Bursts.{flights}
use Rattle.line.specs.Ways.{View}
use Rattle.line.specs.declared.Line.{Line}

-- its bursts, ends, and how far it is quiet
abbrev pub view : Line → View
view l = record { bursts = flights l.ends (vec_items l.bursts); quiet = l.quiet; ends = l.ends }

-- whether there is memory for one burst more
abbrev pub room : Line → Bool
room l = nat_lt (vec_len l.bursts) (vec_capacity l.bursts)
