-- What a frame carries, whatever holds it, and how code holds it.
use Rattle.std.specs.Prelude.{ℕ, ◌-◌, ◌<◌, ◌≤◌, List, [], ◌++◌, length, take, replicate, Ok, Err, Result}
use Rattle.fault.specs.declared.Fault.{Fault}
use Rattle.frame.specs.declared.Content.{Content}
use Rattle.frame.specs.declared.Content.TheVariants.{Single, Fixed, Variable}
use Rattle.std.specs.List.{AllByRecursion}

-- single; fixed with control and address octet; variable with control, address and user octets
pub data Meaning : Type 0 where
  single : Meaning
  fixed : ℕ → ℕ → Meaning
  variable : ℕ → ℕ → List ℕ → Meaning

-- what a frame can carry: octets, and 1 to 64 of the user
abbrev pub Valid : Meaning → Type 0
Valid single = Unit {0}
Valid (fixed c a) = (c < 256) × (a < 256)
Valid (variable c a us) = (c < 256) × (a < 256) × (1 ≤ length us) × (length us ≤ 64) × AllByRecursion (λ u. u < 256) us

-- what a content means, with its record of user octets
abbrev pub meaning : Content → List ℕ → Meaning
meaning Single user = single
meaning (Fixed c a) user = fixed c.octet a
meaning (Variable c a n) user = variable c.octet a (take n user)

-- the user octets of a content
abbrev pub user_octets : Meaning → List ℕ
user_octets single = []
user_octets (fixed c a) = []
user_octets (variable c a us) = us

-- the first 64 octets, with zeros up to 64
abbrev pub padded : List ℕ → List ℕ
padded os = take 64 os ++ replicate (64 - length os) 0

-- how code holds a content, beside its record
abbrev pub content_of : Meaning → Content
content_of single = Single
content_of (fixed c a) = Fixed (record { octet = c }) a
content_of (variable c a us) = Variable (record { octet = c }) a (length us)

-- what a reading answers for a verdict
abbrev pub content_read : Result Meaning Fault → Result Content Fault
content_read (Ok m) = Ok (content_of m)
content_read (Err f) = Err f

-- the record after a reading: the user octets and zeros, or untouched at a fault
abbrev pub filled_record : Result Meaning Fault → List ℕ → List ℕ
filled_record (Ok m) old = padded (user_octets m)
filled_record (Err f) old = old
