use Rattle.std.proofs.Common.{◌≡◌, suc, ◌-◌, true, cond, ltb, length, Some, Err, vec_items, sym, ap, ◌∙◌, subst, MatchOption}
use Rattle.account.specs.Books.{Station}
use Rattle.account.specs.Line.{reader_hears}
use Rattle.damage.specs.Damages.{hearing}
use Rattle.line.specs.Ways.{on_way, sent_at}
use Rattle.reader.specs.Hearing.{heard_answer, heard_buffer}
use Rattle.readers.proofs.Lent.{lent_changed, lent_unmade}
use Rattle.readers.specs.Readers.{at, kept, place_of, readers}
use Rattle.rules.specs.Reader.{hear, mark_heard, record_after}
use Rattle.rules.specs.Telegrams.{telegram_read}
use Rattle.site.proofs.Placed.{end_placed, placed, placed_as}
use Rattle.site.proofs.Site.hear_at_reader.Goals as goal
use Rattle.site.proofs.Steps.{heard_is}
use Rattle.site.proofs.Turns.{after, answered_filled, at_reader, turn_of, turns_come}
use Rattle.site.specs.Shown.{burst_of}
use Rattle.site.specs.Sites.{Leads, answered_as, number_of, seen, symbols_of, with_readers}
use Rattle.site.specs.Troubles.{is_made}
use Rattle.station.specs.Refusals.{no_memory as lacks, told}
use Rattle.station.specs.declared.Refusal.TheVariants.{Memory}
use Rattle.std.specs.Option.{option_map}

pub returns : goal.returns
returns g c =
    let F = g.F.Format in
    let k = c.args.k in
    let a = c.args.address in
    let m = seen c.args.self.now in
    let m₁ = seen c.prepare.new.self in
    let m' = seen c.answer.new.self in
    let r = c.answer.result in
    let end = c.in_ok-end.end in
    let there = end_placed _ end (placed c.end_of.result end c.in_ok-end.ensures.value ∙ c.end_of.ensures) in
    let place = there.0 in
    let heard = c.in_ok-heard.heard.items in
    let old = c.args.marked.now in
    let new = c.hear-answer.new.marked in
    let next : end ≡ suc place = there.2 in
    let at_place = there.1 in
    let on : on_way (suc place) k m.line ≡ true = ap (λ n. on_way n k m.line) (sym next) ∙ sym c.if-not-is_on_way.ensures in
    let p = c.in_ok-heard.ensures in
    let q = c.in_ok-buffer.ensures in
    let s = c.hear-answer.ensures in
    let st = c.in_ok-station.station in
    let held = c.in_ok-station.ensures.value in
    let value = placed_as c.get_mut.result st held (λ y. y.now) _ c.get_mut.ensures.value in
    let reader = placed_as c.get_mut.result st held (λ y. kept y.now) _ c.get_mut.ensures.reader in
    let l = c.prepare.new.self.readers.all.items in
    let x = c.in_ok-station.station.now in
    let w = c.hear-answer.new.self in
    let ho = c.hear-answer.result in
    let z = lacks ho in
    let burst = c.deref.result.now in
    let b₀ = c.deref_mut.result.now in
    let b₁ = c.hear-answer.new.buffer in
    let number = c.number_of-number.result in
    let brief = ltb (length b₀) F.LONGEST in
    let became = c.get_mut.follows.holds w in
    let xs = readers (c.get_mut.follows.lender w) in
    let g' = λ (y : Station). cond z y (after F brief burst number y) in
    let symbols = symbols_of (sent_at k m.line) in
    let damage = c.args.damage.now in
    let came = turns_come F g.met.F.Format.size m m₁ m' c.args.places burst heard b₀ b₁ number
    xs a place k ho old new r q.same (ap length c.deref_mut.ensures.value ∙ q.buffer) c.deref.ensures.value
    (c.number_of-number.ensures ∙ ap (λ z. number_of (sent_at k z.line)) q.same) at_place on p.damaged
    (record {
      told_so = ap Some s.answer ∙ ap (option_map (λ y. cond z (Err Memory) (told (heard_answer F (turn_of F brief burst y.reader))))) reader;
      kept_so = subst (λ o. MatchOption o (new ≡ old) (λ y. new ≡ cond z old (record_after (mark_heard (turn_of F brief burst y.reader)) y.reader.out old))) reader s.kept;
      written_so = subst (λ o. MatchOption o (b₁ ≡ b₀) (λ y. b₁ ≡ cond z b₀ (heard_buffer F (turn_of F brief burst y.reader) b₀))) reader s.written;
      shown_so = lent_changed a l _ x w g' value became s.shown;
      unmade_so = λ unmade. lent_unmade a l _ x w value became z _ _ s.moved s.noted unmade;
      answered_so = answered_filled a end (suc place) k ho c.in_ok-buffer.buffer.len b₁ _ (with_readers xs m₁) m' r
          next (c.hear-answer.auto.buffer ∙ c.deref_mut.ensures.len) c.answer.ensures;
    }) in
    record {
      answer = at_reader r (place_of a m.readers) place (λ end. on_way end k m.line) (hearing F.WIDTH F.GUARD damage.cut (vec_items damage.flips) symbols) heard
          (λ l. answered_as m (option_map (λ x. hear (ltb c.args.places F.LONGEST) (telegram_read (F.verdict l)) x.reader) (at a m.readers))) came.0 at_place on p.answer;
      kept = came.1;
      steps = subst (λ l. Leads F (is_made r) m m' (λ w. reader_hears (ltb c.args.places F.LONGEST) a (k - 1) (burst_of k w) l))
          (heard_is F.WIDTH F.GUARD damage.cut (vec_items damage.flips) symbols heard p.answer) came.2;
    }
