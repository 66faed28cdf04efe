-- What a site has in memory, and which line of the account it stands for.
use Rattle.std.specs.Prelude.{◌≡◌, ℕ, suc, ◌-◌, ◌<◌, ◌≤◌, Bool, true, false, List, [], ◌∷◌, ◌++◌, map, length, Some, None, Option, slice_index, slice_index_or}
use Rattle.account.specs.Account.{Account, Apart}
use Rattle.account.specs.Books.{Station, found}
use Rattle.account.specs.Line.{Burst, Run, World, new_station, new_world}
use Rattle.frame.specs.declared.Format.{Ghosts}
use Rattle.line.specs.Ways.{Sent, View, as_sent, on_way}
use Rattle.readers.specs.Pairs.{Paired, addresses}
use Rattle.readers.specs.Readers.{Kept, ShowsReader}
use Rattle.rules.specs.Concentrator.{Concentrator}
use Rattle.rules.specs.Telegrams.{carried}
use Rattle.rules.specs.declared.records.ReaderPlan.{ReaderPlan}
use Rattle.rules.specs.declared.telegram.Telegram.TheVariants.{Single}
use Rattle.std.specs.List.{slice_get}

-- A site: its concentrator as the rules speak of it, its readers with their books, its line, and whether a call was made.
pub record Memory : Type 0 where
  pub concentrator : Concentrator
  pub readers : List Kept
  pub line : View
  pub started : Bool

-- the ends of a line, the concentrator's first: end i of the memory has the i-th of these addresses
abbrev pub ends_of : List Station → List ℕ
ends_of l = 0 ∷ addresses l

-- whether a burst, if there is one, is on the way to an end
abbrev pub flies_to : ℕ → Option Burst → Bool
flies_to a None = false
flies_to a (Some b) = slice_index_or b.ways a false

-- whether burst k, counted from 0, is on the way to an end
abbrev pub flies : ℕ → ℕ → List Burst → Bool
flies a k bs = flies_to a (slice_get bs k)

module _ {X : Type 0} (F : Ghosts X) where
  -- what is sent of a burst: the frame of what it says, and its number
  abbrev pub sent_of : Burst → Sent
  sent_of b = as_sent (F.frame (carried b.telegram)) b.number

  -- The line in memory has these ends, and the bursts of the line: sent so, and on the way to the same ends.
  pub record Carries (v : View) (ends : List ℕ) (bs : List Burst) : Type 0 where
    pub sent : map (λ f. f.sent) v.bursts ≡ map sent_of bs
    pub count : v.ends ≡ length ends
    pub past : v.quiet ≤ length v.bursts
    pub ways : (i k : ℕ) → i < length ends → on_way i (suc k) v ≡ flies (slice_index ends i) k bs

  -- The memory shows the concentrator, each reader with its books, and every burst of a line.
  pub record Shown (m : Memory) (w : World) : Type 0 where
    pub concentrator : m.concentrator ≡ w.concentrator
    pub readers : Paired ShowsReader m.readers w.stations
    pub line : Carries m.line (ends_of w.stations) w.bursts

  -- a run, or none of it where no call was made yet
  abbrev pub Since : Bool → World → World → Type 0
  Since true v w = Run F v w
  Since false v w = v ≡ w

  -- some run of a new line, with readers at distinct addresses, has come to this
  abbrev pub Lawful : Bool → World → Type 0
  Lawful started w =
      (repetitions : ℕ) × (arrivals : ℕ) × (reports : ℕ) × (readers : List ReaderPlan) ×
      Apart readers × Since started (new_world repetitions arrivals reports readers) w

  -- the site stands at this point of a lawful run
  pub record Stands (m : Memory) (w : World) : Type 0 where
    pub shown : Shown m w
    pub lawful : Lawful m.started w

-- the reader of this address on the line is the one in memory, and its account holds; or there is none at either
abbrev pub Accounted : ℕ → Option Kept → World → Type 0
Accounted a None w = found a w.stations ≡ None
Accounted a (Some x) w = (s : Station) × (found a w.stations ≡ Some s) × ShowsReader x s × Account w.concentrator s

-- burst k of a line, counted from 1; one that is nowhere if there is none
abbrev pub no_burst : Burst
no_burst = record { telegram = Single; number = 0; ways = [] }

abbrev pub burst_of : ℕ → World → Burst
burst_of k w = slice_index_or w.bursts (k - 1) no_burst

-- the line with one reader more
abbrev pub with_reader : ReaderPlan → World → World
with_reader f w = record { concentrator = w.concentrator; stations = w.stations ++ new_station f ∷ []; bursts = w.bursts }
