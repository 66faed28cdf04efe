-- The number and the layer of every cause of a refusal.
use Rattle.std.specs.Prelude.{ℕ}
use Rattle.fault.specs.declared.Cause.{Cause}
use Rattle.fault.specs.declared.Cause.TheVariants.{EmptyBurst, LongBurst, BrokenSymbol, WrongStart, WrongLength, WrongCheck, WrongEnd, WrongSender, OtherAddress, WrongControl, ReaderUnset, NothingStored, NoExchange, BadStation, BadLength, BadClass, ExchangeOpen, LinkUnset, NoFreeSlot, ShortBuffer, QueueFull, QueueEmpty, BadRepetitions, BadSlots}
use Rattle.fault.specs.declared.Fault.{Fault}
use Rattle.fault.specs.declared.Layer.{Layer}
use Rattle.fault.specs.declared.Layer.TheVariants.{Line, Frame, Link, User}

-- the number under which a cause is known
abbrev pub number_of : Cause → ℕ
number_of EmptyBurst = 1
number_of LongBurst = 2
number_of BrokenSymbol = 3
number_of WrongStart = 4
number_of WrongLength = 5
number_of WrongCheck = 6
number_of WrongEnd = 7
number_of WrongSender = 8
number_of OtherAddress = 9
number_of WrongControl = 10
number_of ReaderUnset = 11
number_of NothingStored = 12
number_of NoExchange = 13
number_of BadStation = 14
number_of BadLength = 15
number_of BadClass = 16
number_of ExchangeOpen = 17
number_of LinkUnset = 18
number_of NoFreeSlot = 19
number_of ShortBuffer = 20
number_of QueueFull = 21
number_of QueueEmpty = 22
number_of BadRepetitions = 23
number_of BadSlots = 24

-- the part of the link that refuses for a cause
abbrev pub layer_of : Cause → Layer
layer_of EmptyBurst = Line
layer_of LongBurst = Line
layer_of BrokenSymbol = Line
layer_of WrongStart = Frame
layer_of WrongLength = Frame
layer_of WrongCheck = Frame
layer_of WrongEnd = Frame
layer_of WrongSender = Link
layer_of OtherAddress = Link
layer_of WrongControl = Link
layer_of ReaderUnset = Link
layer_of NothingStored = Link
layer_of NoExchange = Link
layer_of BadStation = User
layer_of BadLength = User
layer_of BadClass = User
layer_of ExchangeOpen = User
layer_of LinkUnset = User
layer_of NoFreeSlot = User
layer_of ShortBuffer = User
layer_of QueueFull = User
layer_of QueueEmpty = User
layer_of BadRepetitions = User
layer_of BadSlots = User

-- the fault of a cause at a place
abbrev pub fault : Cause → ℕ → Fault
fault c p = record { cause = c; place = p }
