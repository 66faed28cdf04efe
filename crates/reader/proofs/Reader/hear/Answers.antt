use Rattle.std.proofs.Common.{◌≡◌, ℕ, ◌≤◌, not, List, length, Ok, Err, nat_lt, arith}
use Rattle.fault.specs.declared.Fault.{Fault}
use Rattle.frame.specs.Contents.{Meaning}
use Rattle.frame.specs.Verdicts.{must}
use Rattle.reader.proofs.Reader.hear.Goals as goal
use Rattle.rules.specs.Telegrams.{say_answer}
use Rattle.rules.specs.declared.telegram.Telegram.{Telegram}
use Rattle.std.proofs.lemmas.Bool.Decides.{nat_tests}

-- a buffer that is long enough is written
written :
    (longest : ℕ) (frame : Meaning → List ℕ) (t : Telegram) (buffer : List ℕ) (f : Fault) →
    longest ≤ length buffer →
    Err f ≡ say_answer longest frame t buffer →
    ⊥
written longest frame t buffer f room e = grind (arith, nat_tests)

-- a buffer that passed the check is long enough
long_enough :
    (longest : ℕ) (buffer : List ℕ) (f : Fault) (u : Unit {0}) →
    Ok u ≡ must (not (nat_lt (length buffer) longest)) f (Ok tt) →
    longest ≤ length buffer
long_enough longest buffer f u e = grind (arith, nat_tests)

pub returns-in_err-count : goal.returns-in_err-count
returns-in_err-count g c =
    let F = g.F.Format in
    let passed = long_enough _ _ _ _ c.in_ok-check_buffer.ensures in
    let room : F.LONGEST ≤ length c.args.buffer.now = omega (arith, passed) in
    absurd (written F.LONGEST F.frame c.in_ok-answer.field-0.answer c.args.buffer.now _ room c.in_err-count.ensures.answer)
