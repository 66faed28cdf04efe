-- What a writer owes of a frame that it has put at the front of the buffer.
use Rattle.std.proofs.Common.{◌≡◌, ℕ, ◌≤◌, true, false, ◌&&◌, ltb, leb, List, ◌++◌, length, drop, Ok, ap, ◌∙◌, arith}
use Rattle.frame.specs.Writing.{buffer_written, proper, write_answer}
use Rattle.frame.specs.declared.Content.{Content}
use Rattle.frame.specs.declared.Content.TheVariants.{Variable}
use Rattle.frame.specs.declared.control.Control.{Control}
use Rattle.std.proofs.lemmas.Bool.Decides.{nat_tests}

pub answered :
    (longest : ℕ) (k : Content) (frame b after : List ℕ) (r : ℕ) →
    longest ≤ length b →
    proper k ≡ true →
    r ≡ length frame →
    after ≡ frame ++ drop r b →
    (Ok r ≡ write_answer longest frame k b) × (after ≡ buffer_written longest frame k b)
answered longest k frame b after r long fine is e =
    let big : ltb (length b) longest ≡ false = grind (arith, nat_tests) in
    (rw (big, fine) (ap Ok is), e ∙ rw (big, fine) (ap (λ n. frame ++ drop n b) is))

pub proper_variable : (k : Content) (c : Control) (a n : ℕ) → k ≡ Variable c a n → 1 ≤ n → n ≤ 64 → proper k ≡ true
proper_variable k c a n is some few = ap proper is ∙ within n some few
  where
    within : (m : ℕ) → 1 ≤ m → m ≤ 64 → (leb 1 m && leb m 64) ≡ true
    within m h l = grind (arith, nat_tests)
