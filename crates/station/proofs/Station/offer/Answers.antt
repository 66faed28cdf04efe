use Rattle.std.proofs.Common.{◌≡◌, false, Err, ap, ◌∙◌}
use Rattle.books.specs.Calls.{class_seen}
use Rattle.rules.specs.Functions.{class_of}
use Rattle.rules.specs.Messages.{message_answer}
use Rattle.rules.specs.Reader.{offer}
use Rattle.station.proofs.Refused.{accepted_seen, declined_seen, unless_lacking}
use Rattle.station.proofs.Station.offer.Goals as goal
use Rattle.station.proofs.Steps.{offered-step}
use Rattle.station.specs.Refusals.{no_memory, told}
use Rattle.station.specs.Shown.{books_of, reader_of}
use Rattle.station.specs.declared.Refusal.TheVariants as refusal
use Rattle.std.proofs.lemmas.Result.{err_from_is_err_and}

pub returns-in_err-offer : goal.returns-in_err-offer
returns-in_err-offer g c =
    let x = c.args.self.now in
    let e = c.in_err-offer.ensures in
    let r = c.from_residual-in_err-offer.result in
    let p = err_from_is_err_and r c.from_residual-in_err-offer.ensures.1 in
    let is : r ≡ Err (refusal.Fault c.in_err-offer.field-0.0) = p.1 ∙ ap Err p.2 in
    let had : no_memory r ≡ false = ap no_memory is in
    let moved = unless_lacking (no_memory r) (reader_of x) had e.moved in
    let noted = unless_lacking (no_memory r) (books_of x) had (c.reserve.ensures.kept ∙ declined_seen (offer c.args.class c.args.octets.now (reader_of x)) _ (books_of x) e.answer) in
    record {
      answer = unless_lacking (no_memory r) (Err refusal.Memory) had (is ∙ ap told e.answer);
      moved = moved;
      noted = noted;
      shown = offered-step x (record { reader = c.offer.new.self; books = c.reserve.new.self }) (no_memory r) c.args.class c.args.octets.now moved noted;
    }

pub returns : goal.returns
returns g c =
    let x = c.args.self.now in
    let v = books_of x in
    let e = c.in_ok-offer.ensures in
    let noted =
    c.in_ok-offered.ensures.noted ∙
    ap (λ k. class_seen c.ok.result k) c.reserve.ensures.kept ∙
    ap (λ k. class_seen k v) (c.ok.ensures.value ∙ c.try_from.ensures.0) ∙
    accepted_seen (message_answer c.args.octets.now) (class_of c.args.class) (reader_of x) v e.answer in
    record {
      answer = ap told e.answer;
      moved = e.moved;
      noted = noted;
      shown = offered-step x (record { reader = c.offer.new.self; books = c.offered.new.self }) false c.args.class c.args.octets.now e.moved noted;
    }
