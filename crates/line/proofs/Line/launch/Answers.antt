use Rattle.std.proofs.Common.{◌≡◌, ◌+◌, ◌^◌, ◌<◌, ◌≤◌, true, length, replicate, Ok, Err, sym, refl, ap, ◌∙◌, subst, arith}
use Rattle.line.proofs.Line.launch.Goals as goal
use Rattle.line.proofs.Lines.{count_fits, counted_more, one_more}
use Rattle.line.proofs.Ways.{spread}
use Rattle.line.specs.Bursts.{flight, flights}
use Rattle.line.specs.Lines.{room, view}
use Rattle.line.specs.Ways.{Flight, Sent, Spread, as_sent, launched}
use Rattle.line.specs.declared.burst.Burst.{Burst}
use Rattle.std.proofs.lemmas.List.{length-map}
use Rattle.std.proofs.lemmas.Bool.{cond-true, lt-ltb}

pub overflow_add-self : goal.overflow_add-self
overflow_add-self c =
    let l = c.args.self.now in
    let small : length l.bursts.items < 2 ^ 63 = omega (arith, l.bursts.small, l.bursts.ok.0, l.bursts.ok.1) in
    let fits : l.pending + l.ends < 2 ^ 128 = count_fits l.ends l.quiet l.pending l.bursts.items l.most small l.counted in
    omega arith

pub invariant_of-self : goal.invariant_of-self
invariant_of-self c =
    let l = c.args.self.now in
    let n = l.ends in
    let bs = l.bursts.items in
    let b : Burst = record { symbols = c.args.symbols; number = c.args.number; ways = replicate 33 true } in
    let new : Flight = record { sent = as_sent c.args.symbols.items c.args.number; ways = replicate n true } in
    let more = one_more n bs c.push_reserved.new.self.items b l.most refl c.push_reserved.ensures.items in
    let past = l.past in
    let long = length-map bs (flight n) in
    let late : l.quiet ≤ length (flights n bs) = omega (arith, l.bursts.ok.0) in
    record { most = l.most; past = omega (arith, c.push_reserved.ensures.len); counted = counted_more n l.quiet l.pending (flights n bs) new (flights n c.push_reserved.new.self.items) late refl more l.counted }

pub returns : goal.returns
returns c =
    let l = c.args.self.now in
    let n = l.ends in
    let bs = l.bursts.items in
    let b : Burst = record { symbols = c.args.symbols; number = c.args.number; ways = replicate 33 true } in
    let s : Sent = as_sent c.args.symbols.items c.args.number in
    let more = one_more n bs c.push_reserved.new.self.items b l.most refl c.push_reserved.ensures.items in
    let past = l.past in
    let long = length-map bs (flight n) in
    let late : l.quiet ≤ length (flights n bs) = omega (arith, l.bursts.ok.0) in
    let yes : room l ≡ true = lt-ltb l.bursts.len l.bursts.cap (omega (arith, c.len.ensures, c.capacity.ensures, c.if-len-capacity.false)) in
    let k : c.len-2.result ≡ length (flights n bs) + 1 = omega (arith, c.len-2.ensures, c.push_reserved.ensures.len, l.bursts.ok.0) in
    let after = ap (λ fs. record { bursts = fs; quiet = l.quiet; ends = n }) more in
    record {
      answer = ap Ok k ∙ sym (cond-true (room l) (Ok (length (flights n bs) + 1)) (Err c.args.symbols) yes);
      after = after ∙ sym (cond-true (room l) (launched s (view l)) (view l) yes);
      ways = subst (Spread s (view l)) (sym after) (spread s (view l) late);
      refused = tt;
    }
