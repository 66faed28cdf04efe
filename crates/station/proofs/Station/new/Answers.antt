use Rattle.std.proofs.Common.{◌≡◌, ℕ, ap, ◌∙◌}
use Rattle.rules.specs.Reader.{new_reader}
use Rattle.station.proofs.Station.new.Goals as goal
use Rattle.station.proofs.Steps.{begun_step}

-- as many slots as were asked for
same_slots : (a : ℕ) {k1 k2 k n1 n2 n : ℕ} → k1 ≡ n1 → k2 ≡ n2 → k ≡ n → new_reader a k1 k2 k ≡ new_reader a n1 n2 n
same_slots a {k1} {k2} {k} {n1} {n2} {n} p q r =
    ap (λ i. new_reader a i k2 k) p ∙ ap (λ i. new_reader a n1 i k) q ∙ ap (λ i. new_reader a n1 n2 i) r

pub returns : goal.returns
returns g c =
    let begun = c.over.ensures ∙ same_slots c.args.plan.address c.in_ok-class1.ensures c.in_ok-class2.ensures c.in_ok-inbox.ensures in
    record {
      begun = (begun, c.new.ensures);
      shown = begun_step (record { reader = c.over.result; books = c.new.result }) c.args.plan begun c.new.ensures;
    }
