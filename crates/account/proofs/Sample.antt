-- A run without mishaps, computed, over every format that keeps its laws.
use Rattle.std.proofs.Common.{◌≡◌, ℕ, zero, suc, ◌<◌, Bool, true, false, ◌&&◌, ltb, List, [], ◌∷◌, length, get_or, take, Some, None, Ok, Option, refl, ap, ◌∙◌, subst, arith}
use lib.Seq.{take-length}
use Rattle.account.proofs.Valid.{Sayable, ValidWorld, burst_valid, new_valid, valid_run}
use Rattle.account.specs.Books.{Station, found}
use Rattle.account.specs.Line as line
use Rattle.account.specs.Line.{Burst, HeardAs, OnWay, Run, World, begin, leaves, new_world, on_way, then}
use Rattle.account.specs.Sample.{Comes, ComesThrough, one_reader}
use Rattle.frame.proofs.Distance.{none_inverted}
use Rattle.frame.specs.Damage.{distance}
use Rattle.frame.specs.Laws.{SizeLaw, VerdictLaw}
use Rattle.frame.specs.declared.Format.{Ghosts}
use Rattle.rules.specs.Concentrator as co
use Rattle.rules.specs.Concentrator.{for_poll, for_reset, for_send}
use Rattle.rules.specs.Reader as rd
use Rattle.rules.specs.Telegrams.{carried, telegram_read}
use Rattle.rules.specs.declared.telegram.Telegram.{Telegram}
use Rattle.rules.specs.declared.telegram.Telegram.TheVariants.{Single}
use Rattle.std.proofs.lemmas.Bool.Decides.{nat_tests}

-- a call for which no octets are handed over but small ones, and a burst heard as it was sent, by its place
data Move : Type 0 where
  asks_reset : ℕ → Move
  asks_send : ℕ → ℕ → Move
  asks_poll : ℕ → ℕ → Move
  offers_one : ℕ → ℕ → ℕ → Move
  reader_takes : ℕ → ℕ → Move
  concentrator_takes : ℕ → Move

abbrev no_burst : Burst
no_burst = record { telegram = Single; number = 0; ways = [] }

abbrev burst_at : ℕ → World → Burst
burst_at k w = get_or w.bursts k no_burst

abbrev hears_so : Option Station → ℕ → Telegram → World → World
hears_so None n t w = w
hears_so (Some s) n t w = line.answered n (rd.hear false (Ok t) s.reader) s w

abbrev move : Move → World → World
move (asks_reset a) w = line.requested (co.request false a for_reset w.concentrator) w
move (asks_send a o) w = line.requested (co.request false a (for_send (o ∷ [])) w.concentrator) w
move (asks_poll a c) w = line.requested (co.request false a (for_poll c) w.concentrator) w
move (offers_one a c o) w = line.changed a (λ s. Rattle.account.specs.Books.offered (rd.offer c (o ∷ []) s.reader) s) w
move (reader_takes a k) w = hears_so (found a w.stations) (burst_at k w).number (burst_at k w).telegram (leaves a k (burst_at k w) w)
move (concentrator_takes k) w = line.concluded (burst_at k w).number (co.hear (Ok (burst_at k w).telegram) w.concentrator) (leaves 0 k (burst_at k w) w)

-- whether a move is within the limits
abbrev on_its_way : ℕ → ℕ → World → Bool
on_its_way e k w = ltb k (length w.bursts) && on_way e (burst_at k w)

abbrev allowed : Move → World → Bool
allowed (asks_reset a) w = true
allowed (asks_send a o) w = ltb o 256
allowed (asks_poll a c) w = true
allowed (offers_one a c o) w = ltb o 256
allowed (reader_takes a k) w = on_its_way a k w
allowed (concentrator_takes k) w = on_its_way 0 k w

get_d_any : (l : List Burst) (k : ℕ) (c d : Burst) → k < length l → get_or l k c ≡ get_or l k d
get_d_any [] k c d h = let w : ⊥ = omega arith in absurd w
get_d_any (b ∷ l) zero c d h = refl
get_d_any (b ∷ l) (suc k) c d h = get_d_any l k c d (omega arith)

its_way : (e k : ℕ) (w : World) → on_its_way e k w ≡ true → OnWay e k (burst_at k w) w
its_way e k w h =
    let n : k < length w.bursts = grind (arith, nat_tests) in
    let o : on_way e (burst_at k w) ≡ true = grind (arith, nat_tests) in
    (n, get_d_any w.bursts k (burst_at k w) no_burst n, o)

module _ {X : Type 0} (F : Ghosts X) (size : SizeLaw F.WIDTH F.LONGEST F.frame) (exact : VerdictLaw F.frame F.verdict) where
  -- a burst as it was sent is heard, and read as what it says
  as_sent : (b : Burst) → Sayable b.telegram → HeardAs F b (F.frame (carried b.telegram))
  as_sent b s =
      let f = F.frame (carried b.telegram) in
      let d : distance (take (length f) f) f ≡ 0 = ap (λ l. distance l f) (take-length f) ∙ none_inverted f in
      (length f, omega arith, refl, (size (carried b.telegram) s.valid).2, omega (arith, d))

  read_so : (t : Telegram) → Sayable t → telegram_read (F.verdict (F.frame (carried t))) ≡ Ok t
  read_so t s = ap telegram_read (exact.0 (carried t) s.valid) ∙ ap Ok s.back

  module _ (v w : World) (ok : ValidWorld w) (run : Run F v w) where
    moved : (m : Move) → allowed m w ≡ true → Run F v (move m w)
    moved (asks_reset a) h = then run (line.requests false a for_reset) tt
    moved (asks_send a o) h = let small : o < 256 = grind (arith, nat_tests) in then run (line.requests false a (for_send (o ∷ []))) (small, tt)
    moved (asks_poll a c) h = then run (line.requests false a (for_poll c)) tt
    moved (offers_one a c o) h = let small : o < 256 = grind (arith, nat_tests) in then run (line.offers a c (o ∷ [])) (small, tt)
    moved (reader_takes a k) h =
        let on = its_way a k w h in
        let s = burst_valid w.bursts k (burst_at k w) on.0 on.1 ok.bursts in
        let heard = F.frame (carried (burst_at k w).telegram) in
        subst (Run F v) (go (found a w.stations) s) (then run (line.reader_hears false a k (burst_at k w) heard) (on, as_sent (burst_at k w) s))
      where
        go : (o : Option Station) → Sayable (burst_at k w).telegram
            → line.hears_at F o false (burst_at k w).number (F.frame (carried (burst_at k w).telegram)) (leaves a k (burst_at k w) w)
            ≡ hears_so o (burst_at k w).number (burst_at k w).telegram (leaves a k (burst_at k w) w)
        go None s = refl
        go (Some x) s = ap (λ r. line.answered (burst_at k w).number (rd.hear false r x.reader) x (leaves a k (burst_at k w) w)) (read_so (burst_at k w).telegram s)
    moved (concentrator_takes k) h =
        let on = its_way 0 k w h in
        let s = burst_valid w.bursts k (burst_at k w) on.0 on.1 ok.bursts in
        subst (Run F v) (ap (λ r. line.concluded (burst_at k w).number (co.hear r w.concentrator) (leaves 0 k (burst_at k w) w)) (read_so (burst_at k w).telegram s))
        (then run (line.concentrator_hears k (burst_at k w) (F.frame (carried (burst_at k w).telegram))) (on, as_sent (burst_at k w) s))

-- ## the run

abbrev moves : List Move → World → World
moves [] w = w
moves (m ∷ ms) w = moves ms (move m w)

abbrev all_allowed : List Move → World → Bool
all_allowed [] w = true
all_allowed (m ∷ ms) w = allowed m w && all_allowed ms (move m w)

module _ {X : Type 0} (F : Ghosts X) (size : SizeLaw F.WIDTH F.LONGEST F.frame) (exact : VerdictLaw F.frame F.verdict) (v : World) (ok : ValidWorld v) where
  moves_run : (ms : List Move) (w : World) → all_allowed ms w ≡ true → Run F v w → Run F v (moves ms w)
  moves_run [] w h run = run
  moves_run (m ∷ ms) w h run =
      let now : allowed m w ≡ true = grind (arith, nat_tests) in
      let later : all_allowed ms (move m w) ≡ true = grind (arith, nat_tests) in
      moves_run ms (move m w) later (moved F size exact v w (valid_run F run ok) run m now)

abbrev sample : List Move
sample =
    asks_reset 5 ∷ (reader_takes 5 0 ∷ (concentrator_takes 1 ∷
    (asks_send 5 65 ∷ (reader_takes 5 2 ∷ (concentrator_takes 3 ∷
    (offers_one 5 1 66 ∷ (asks_poll 5 1 ∷ (reader_takes 5 4 ∷ (concentrator_takes 5 ∷
    (asks_poll 5 1 ∷ (reader_takes 5 6 ∷ (concentrator_takes 7 ∷ []))))))))))))

abbrev start : World
start = new_world 3 4 4 one_reader

abbrev finish : World
finish = moves sample start

it_runs : all_allowed sample start ≡ true
unfolding co.verdict co.link_after rd.hear_telegram rd.take_in rd.give_out rd.repeat
it_runs = refl

it_came : Comes (found 5 finish.stations)
unfolding co.verdict co.link_after rd.hear_telegram rd.take_in rd.give_out rd.repeat
it_came = record { sends = refl; entered = refl; handed = refl; arrived = refl }

pub comes_through : {X : Type 0} (F : Ghosts X) → SizeLaw F.WIDTH F.LONGEST F.frame → VerdictLaw F.frame F.verdict → ComesThrough F
comes_through F size exact = record {
  world = finish;
  run = moves_run F size exact start (new_valid 3 4 4 one_reader (refl, tt, tt)) sample start it_runs begin;
  came = it_came;
}
