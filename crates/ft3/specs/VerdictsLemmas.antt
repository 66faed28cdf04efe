-- The checks of every burst, on octets.
use Rattle.std.specs.Prelude.{◌≡◌, ℕ, ◌+◌, ◌%◌, ◌≤◌, true, List, [], ◌∷◌, map, length, Ok, refl}
use Rattle.std.proofs.Common.{sym, ap, ap₂, ◌∙◌, arith}
use Rattle.fault.specs.Causes.{fault}
use Rattle.fault.specs.declared.Cause.TheVariants.{BrokenSymbol}
use Rattle.frame.proofs.Bursts.{line_is}
use Rattle.frame.proofs.Verdicts.{line_ok, must_ok}
use Rattle.frame.specs.Verdicts.{after, line_checked, symbols_checked}
use Rattle.ft3.specs.Verdicts.{is_sound, octets_verdict, verdict_of}
use Rattle.std.proofs.lemmas.Bool.{lt-ltb, ltb-true}
use Rattle.std.specs.Int.Digits.{AllBelowBase}

symbols_pass : (b : List ℕ) (i : ℕ) → AllBelowBase 256 b → symbols_checked is_sound i b ≡ Ok tt
symbols_pass [] i h = refl
symbols_pass (s ∷ b) i h = rw (lt-ltb s 256 h.0) (symbols_pass b (i + 1) h.1)

symbols_under : (b : List ℕ) (i : ℕ) → symbols_checked is_sound i b ≡ Ok tt → AllBelowBase 256 b
symbols_under [] i e = tt
symbols_under (s ∷ b) i e =
    let p : (is_sound s ≡ true) × (symbols_checked is_sound (i + 1) b ≡ Ok tt) = must_ok (is_sound s) (fault BrokenSymbol i) (symbols_checked is_sound (i + 1) b) tt e in
    (ltb-true s 256 p.0, symbols_under b (i + 1) p.1)

pub line_passes : (b : List ℕ) → 1 ≤ length b → length b ≤ 79 → AllBelowBase 256 b → line_checked is_sound 79 b ≡ Ok tt
line_passes b some few h = line_is is_sound 79 b some few ∙ symbols_pass b 0 h

pub line_under : (b : List ℕ) → line_checked is_sound 79 b ≡ Ok tt → AllBelowBase 256 b
line_under b e = symbols_under b 0 (line_ok is_sound 79 b e).2

-- ---- what the code decodes of a burst is the burst

decoded : (b : List ℕ) → AllBelowBase 256 b → map (λ s. s % 256) b ≡ b
decoded [] h = refl
decoded (s ∷ b) h = ap₂ ◌∷◌ (omega (arith, h.0)) (decoded b h.1)

pub burst_verdict :
    (b os : List ℕ) →
    line_checked is_sound 79 b ≡ Ok tt →
    os ≡ map (λ s. s % 256) b →
    octets_verdict os ≡ verdict_of b
burst_verdict b os e is =
    ap octets_verdict (is ∙ decoded b (line_under b e)) ∙ ap (λ z. after z (octets_verdict b)) (sym e)
