-- What one end says to the other, and how a format carries it.
use Rattle.std.specs.Prelude.{ℕ, cond, List, ◌++◌, length, drop, Ok, Err, Result, nat_lt}
use Rattle.fault.specs.Causes.{fault}
use Rattle.fault.specs.declared.Cause.TheVariants.{ShortBuffer}
use Rattle.fault.specs.declared.Fault.{Fault}
use Rattle.frame.specs.Contents.{Meaning, single, fixed, variable}
use Rattle.rules.specs.Messages.{message_of, text}
use Rattle.rules.specs.declared.telegram.Telegram.{Telegram}
use Rattle.rules.specs.declared.telegram.Telegram.TheVariants.{Single, Fixed, Variable}

-- the content of a telegram
abbrev pub carried : Telegram → Meaning
carried Single = single
carried (Fixed c a) = fixed c.octet a
carried (Variable c a m) = variable c.octet a (text m)

-- the telegram of a content
abbrev pub telegram_of : Meaning → Telegram
telegram_of single = Single
telegram_of (fixed c a) = Fixed (record { octet = c }) a
telegram_of (variable c a us) = Variable (record { octet = c }) a (message_of us)

-- what is read of a burst, by the verdict on it
abbrev pub telegram_read : Result Meaning Fault → Result Telegram Fault
telegram_read (Ok m) = Ok (telegram_of m)
telegram_read (Err f) = Err f

-- 20 if the buffer is under the longest frame, else the count of the telegram's symbols
abbrev pub say_answer : ℕ → (Meaning → List ℕ) → Telegram → List ℕ → Result ℕ Fault
say_answer longest frame t buffer =
    cond (nat_lt (length buffer) longest) (Err (fault ShortBuffer 0)) (Ok (length (frame (carried t))))

-- the telegram's frame at the front and the rest untouched; all of it untouched at a refusal
abbrev pub buffer_said : ℕ → (Meaning → List ℕ) → Telegram → List ℕ → List ℕ
buffer_said longest frame t buffer =
    cond (nat_lt (length buffer) longest) buffer (frame (carried t) ++ drop (length (frame (carried t))) buffer)
