use Rattle.std.proofs.Common.{◌≡◌, false, ltb, length, Err, ap, ◌∙◌}
use Rattle.books.specs.Calls.{noted_seen}
use Rattle.reader.specs.Hearing.{hearing}
use Rattle.rules.specs.Telegrams.{telegram_read}
use Rattle.rules.specs.declared.records.Class.TheVariants.{First, Second}
use Rattle.station.proofs.Deeds.{noted, turned}
use Rattle.station.proofs.Refused.{refused_seen, unless_lacking}
use Rattle.station.proofs.Station.hear.Goals as goal
use Rattle.station.proofs.Steps.{heard-step}
use Rattle.station.specs.Noted.{shorter, waits}
use Rattle.station.specs.Refusals.{no_memory, told}
use Rattle.station.specs.Shown.{books_of, reader_of}
use Rattle.station.specs.declared.Refusal.TheVariants as refusal
use Rattle.std.proofs.lemmas.Result.{err_from_is_err_and}

pub returns-in_err-heard : goal.returns-in_err-heard
returns-in_err-heard g c =
    let F = g.F.Format in
    let x = c.args.self.now in
    let e = c.in_err-heard.ensures in
    let r = c.from_residual-in_err-heard.result in
    let p = err_from_is_err_and r c.from_residual-in_err-heard.ensures.1 in
    let is : r ≡ Err (refusal.Fault c.in_err-heard.field-0.0) = p.1 ∙ ap Err p.2 in
    let had : no_memory r ≡ false = ap no_memory is in
    let turn = hearing F c.args.burst.now c.args.buffer.now (reader_of x) in
    let moved = unless_lacking (no_memory r) (reader_of x) had e.moved in
    let noted = unless_lacking (no_memory r) (books_of x) had (c.reserve.ensures.kept ∙ refused_seen F c.args.number turn c.in_err-heard.field-0.0 (books_of x) e.answer) in
    record {
      answer = unless_lacking (no_memory r) (Err refusal.Memory) had (is ∙ ap told e.answer);
      moved = moved;
      kept = unless_lacking (no_memory r) c.args.marked.now had e.kept;
      written = unless_lacking (no_memory r) c.args.buffer.now had e.written;
      noted = noted;
      shown = heard-step x (record { reader = c.hear.new.self; books = c.reserve.new.self }) (no_memory r) c.args.number (λ m. hearing F c.args.burst.now c.args.buffer.now m) moved noted;
    }

pub returns : goal.returns
returns g c =
    let F = g.F.Format in
    let x = c.args.self.now in
    let m = reader_of x in
    let n = c.args.number in
    let e = c.in_ok-heard.ensures in
    let h = c.in_ok-heard.heard in
    let class = c.handed_out-class.result in
    let turn = hearing F c.args.burst.now c.args.buffer.now m in
    let short = ltb (length c.args.buffer.now) F.LONGEST in
    let told_class =
    c.handed_out-class.ensures ∙
    ap (λ k. shorter k c.waiting-second.result (reader_of (record { reader = c.hear.new.self; books = c.reserve.new.self }))) c.waiting-first.ensures ∙
    ap (λ k. shorter (waits First m) k (reader_of (record { reader = c.hear.new.self; books = c.reserve.new.self }))) c.waiting-second.ensures ∙
    ap (λ k. shorter (waits First m) (waits Second m) k) e.moved in
    let in_books =
    c.in_ok-heard-2.ensures.noted ∙
    ap (λ k. noted_seen n h.taken h.mark class k) c.reserve.ensures.kept ∙
    noted F n m turn h class (books_of x) e.answer (turned short (telegram_read (F.verdict c.args.burst.now)) m) told_class in
    record {
      answer = ap told e.answer;
      moved = e.moved;
      kept = e.kept;
      written = e.written;
      noted = in_books;
      shown = heard-step x (record { reader = c.hear.new.self; books = c.heard.new.self }) false n (λ k. hearing F c.args.burst.now c.args.buffer.now k) e.moved in_books;
    }
