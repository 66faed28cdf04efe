-- From the exact promises of a call to the station of the account that is shown after it.
use Rattle.std.proofs.Common.{◌≡◌, ℕ, Bool, true, false, cond, List, Ok, Err, Result, sym, refl, ap, ◌∙◌, subst}
use Rattle.account.specs.Books as account
use Rattle.account.specs.Line.{new_station}
use Rattle.books.proofs.Shown.{shows_asked, shows_collected, shows_ended, shows_new, shows_offered, shows_restarted, shows_turned}
use Rattle.books.specs.Calls.{asked_seen, ended_seen, heard_seen, marked_seen, offered_seen}
use Rattle.books.specs.Seen.{Seen, nothing_seen}
use Rattle.books.specs.Shows.{Shows}
use Rattle.fault.specs.declared.Fault.{Fault}
use Rattle.rules.specs.Reader as rules
use Rattle.rules.specs.Reader.{Turn}
use Rattle.rules.specs.Records.{outcome_of}
use Rattle.rules.specs.declared.records.Ending.{Ending}
use Rattle.rules.specs.declared.records.Mark.TheVariants.{Doubtful}
use Rattle.rules.specs.declared.records.Outcome.{Outcome}
use Rattle.rules.specs.declared.records.ReaderPlan.{ReaderPlan}
use Rattle.rules.specs.declared.records.Request.{Request}
use Rattle.station.specs.Shown.{Shown, ShownChange, books_of, heard, reader_of}
use Rattle.station.specs.declared.Station.{Station}

module _ {F : Type 0} (x y : Station F) where
  -- a change of the reader, and of the books by the reader as it was
  step :
      (of_reader : rules.Reader → rules.Reader) (of_books : rules.Reader → Seen → Seen) (f : account.Station → account.Station) →
      ((s : account.Station) → of_reader s.reader ≡ (f s).reader) →
      ((v : Seen) (s : account.Station) → Shows v s → Shows (of_books s.reader v) (f s)) →
      reader_of y ≡ of_reader (reader_of x) →
      books_of y ≡ of_books (reader_of x) (books_of x) →
      ShownChange x y f
  step of_reader of_books f readers shows moved noted s h =
      let P : Seen → Type 0 = λ v. Shows v (f s) in
      (moved ∙ ap of_reader h.0 ∙ readers s, subst P (sym (noted ∙ ap (λ r. of_books r (books_of x)) h.0)) (shows (books_of x) s h.1))

  pub unchanged : reader_of y ≡ reader_of x → books_of y ≡ books_of x → ShownChange x y (λ s. s)
  unchanged = step (λ r. r) (λ r v. v) (λ s. s) (λ s. refl) (λ v s h. h)

  pub asked-step :
      (done : Bool) (q : Request) →
      reader_of y ≡ reader_of x →
      books_of y ≡ cond done (asked_seen q (books_of x)) (books_of x) →
      ShownChange x y (λ s. cond done (account.asked q s) s)
  asked-step true q = step (λ r. r) (λ r v. asked_seen q v) (account.asked q) (λ s. refl) (shows_asked q)
  asked-step false q = unchanged

  pub ended-step :
      (done : Bool) (n : ℕ) (q : Request) (o : Outcome) →
      reader_of y ≡ reader_of x →
      books_of y ≡ cond done (ended_seen n q o (books_of x)) (books_of x) →
      (e : Ending) → outcome_of e ≡ o →
      ShownChange x y (λ s. cond done (account.ended n q e s) s)
  ended-step true n q o moved noted e is =
      step (λ r. r) (λ r v. ended_seen n q (outcome_of e) v) (account.ended n q e) (λ s. refl) (shows_ended n q e) moved (noted ∙ ap (λ k. ended_seen n q k (books_of x)) (sym is))
  ended-step false n q o moved noted e is = unchanged moved noted

  offered_reader : (o : rules.Offered) (s : account.Station) → rules.offer_after o s.reader ≡ (account.offered o s).reader
  offered_reader (rules.declined f) s = refl
  offered_reader (rules.accepted c m r) s = refl

  pub offered-step :
      (lacking : Bool) (class : ℕ) (octets : List ℕ) →
      reader_of y ≡ cond lacking (reader_of x) (rules.offer_after (rules.offer class octets (reader_of x)) (reader_of x)) →
      books_of y ≡ cond lacking (books_of x) (offered_seen (rules.offer class octets (reader_of x)) (books_of x)) →
      ShownChange x y (λ s. cond lacking s (account.offered (rules.offer class octets s.reader) s))
  offered-step true class octets = unchanged
  offered-step false class octets =
      step (λ r. rules.offer_after (rules.offer class octets r) r) (λ r v. offered_seen (rules.offer class octets r) v) (λ s. account.offered (rules.offer class octets s.reader) s)
      (λ s. offered_reader (rules.offer class octets s.reader) s)
      (λ v s h. shows_offered (rules.offer class octets s.reader) v s h)

  pub collected-step :
      reader_of y ≡ rules.collected (reader_of x) →
      books_of y ≡ books_of x →
      ShownChange x y account.collected
  collected-step = step rules.collected (λ r v. v) account.collected (λ s. refl) shows_collected

  pub restarted-step :
      reader_of y ≡ rules.restarted (reader_of x) →
      books_of y ≡ marked_seen (rules.marked Doubtful (reader_of x).out) (books_of x) →
      ShownChange x y account.restarted
  restarted-step = step rules.restarted (λ r v. marked_seen (rules.marked Doubtful r.out) v) account.restarted (λ s. refl) shows_restarted

  heard_reader : (n : ℕ) (t : Result Turn Fault) (s : account.Station) → rules.hear_after t s.reader ≡ (heard n t s).reader
  heard_reader n (Err f) s = refl
  heard_reader n (Ok t) s = refl

  heard_books : (n : ℕ) (t : Result Turn Fault) (v : Seen) (s : account.Station) → Shows v s → Shows (heard_seen n t v) (heard n t s)
  heard_books n (Err f) v s h = h
  heard_books n (Ok t) v s h = shows_turned n t v s h

  pub heard-step :
      (lacking : Bool) (n : ℕ) (hearing : rules.Reader → Result Turn Fault) →
      reader_of y ≡ cond lacking (reader_of x) (rules.hear_after (hearing (reader_of x)) (reader_of x)) →
      books_of y ≡ cond lacking (books_of x) (heard_seen n (hearing (reader_of x)) (books_of x)) →
      ShownChange x y (λ s. cond lacking s (heard n (hearing s.reader) s))
  heard-step true n hearing = unchanged
  heard-step false n hearing =
      step (λ r. rules.hear_after (hearing r) r) (λ r v. heard_seen n (hearing r) v) (λ s. heard n (hearing s.reader) s)
      (λ s. heard_reader n (hearing s.reader) s)
      (λ v s h. heard_books n (hearing s.reader) v s h)

pub begun_step :
    {F : Type 0} (x : Station F) (f : ReaderPlan) →
    reader_of x ≡ rules.new_reader f.address f.class1 f.class2 f.inbox →
    books_of x ≡ nothing_seen →
    Shown x (new_station f)
begun_step x f moved noted = let P : Seen → Type 0 = λ v. Shows v (new_station f) in (moved, subst P (sym noted) (shows_new f))
