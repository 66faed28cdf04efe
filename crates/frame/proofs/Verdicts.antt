-- What an accepting verdict says of each of its checks.
use Rattle.std.proofs.Common.{◌≡◌, ℕ, ◌≤◌, Bool, true, false, leb, List, length, Ok, Err, Result, refl}
use Rattle.fault.specs.Causes.{fault}
use Rattle.fault.specs.declared.Cause.TheVariants.{EmptyBurst, LongBurst}
use Rattle.fault.specs.declared.Fault.{Fault}
use Rattle.frame.specs.Contents.{Meaning}
use Rattle.frame.specs.Verdicts.{after, line_checked, must, symbols_checked}
use Rattle.std.proofs.lemmas.Bool.{leb-true}

-- the test held, and what follows accepts
pub must_ok :
    {A : Type 0} (test : Bool) (f : Fault) (rest : Result A Fault) (m : A) → must test f rest ≡ Ok m → (test ≡ true) × (rest ≡ Ok m)
must_ok true f rest m e = (refl, e)
must_ok false f rest m e = (cc, cc)

-- there was no fault before, and what follows accepts
pub after_ok :
    {A : Type 0} (before : Result (Unit {0}) Fault) (rest : Result A Fault) (m : A) → after before rest ≡ Ok m → (before ≡ Ok tt) × (rest ≡ Ok m)
after_ok (Ok tt) rest m e = (refl, e)
after_ok (Err f) rest m e = (cc, cc)

-- the burst is not empty, not over the longest, and no symbol is broken
pub line_ok :
    (sound : ℕ → Bool) (longest : ℕ) (b : List ℕ) →
    line_checked sound longest b ≡ Ok tt →
    (1 ≤ length b) × (length b ≤ longest) × (symbols_checked sound 0 b ≡ Ok tt)
line_ok sound longest b e =
    let s = symbols_checked sound 0 b in
    let some = must_ok (leb 1 (length b)) (fault EmptyBurst 0) (must (leb (length b) longest) (fault LongBurst 0) s) tt e in
    let few = must_ok (leb (length b) longest) (fault LongBurst 0) s tt some.1 in
    (leb-true 1 (length b) some.0, leb-true (length b) longest few.0, few.1)

-- one content is accepted at a time
pub same_accepted : {m o : Meaning} → ◌≡◌ {A = Result Meaning Fault} (Ok m) (Ok o) → m ≡ o
same_accepted e = cc
