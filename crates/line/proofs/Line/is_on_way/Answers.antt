use Rattle.std.proofs.Common.{◌≡◌, ℕ, ◌<◌, Bool, false, ltb, get_or, Some, None, Option, sym, ◌∙◌, rules, tests, MatchOption}
use Rattle.line.proofs.Line.is_on_way.Goals as goal
use Rattle.line.proofs.Line.is_on_way.Goals.{then-end-self-via-else-end-self+then-k-self, then-end-self-via-then-end-self}
use Rattle.line.proofs.Lines.{as_marked, not_bound}
use Rattle.line.specs.Bursts.{flight}
use Rattle.line.specs.Lines.{view}
use Rattle.line.specs.Ways.{View, burst_at, marked, on_way}
use Rattle.line.specs.declared.burst.Burst.{Burst}
use Rattle.std.proofs.lemmas.List.{get_or-take}
use Rattle.std.specs.Option.{option_map}
use Rattle.std.proofs.lemmas.Bool.{and_left, le-ltb}

pub returns-then-end-self : goal.returns-then-end-self
returns-then-end-self c =
    let l = c.args.self.now in
    let e = c.args.end in
    let k = c.args.k in
    elim c.then-end-self.branch [
      | then-end-self-via-then-end-self w ↦ sym (not_bound l e k w.if-end-self.true)
      | then-end-self-via-else-end-self+then-k-self w ↦ sym (and_left (ltb l.quiet k) (marked e (burst_at k (view l))) (le-ltb l.quiet k w.if-k-self.true))
    ]

-- what is read of the burst, if there is one
marked_so :
    {X : Type 0} (now : X → Burst) (Q : X → Type 0) (o : Option X) (r : Bool) (n e k : ℕ) (v : View) →
    e < n → v.quiet < k → option_map (λ x. flight n (now x)) o ≡ burst_at k v →
    MatchOption o (r ≡ false) Q → ((x : X) → Q x → r ≡ get_or (now x).ways e false) →
    r ≡ on_way e k v
marked_so now Q None r n e k v h late is told reads = told ∙ as_marked e k v None late is
marked_so now Q (Some x) r n e k v h late is told reads =
    reads x told ∙ sym (get_or-take n (now x).ways e false h) ∙ as_marked e k v (Some (flight n (now x))) late is

pub returns : goal.returns
returns c =
    let l = c.args.self.now in
    marked_so (λ b. b.now) _ c.find.result c.is_some_and.result l.ends c.args.end c.args.k (view l) c.if-end-self.false c.if-k-self.false c.find.ensures c.is_some_and.ensures
    (λ x q. search (rules, tests))
