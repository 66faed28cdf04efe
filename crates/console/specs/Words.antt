-- The words of a line.
use Rattle.std.specs.Prelude.{ℕ, Bool, cond, not, ◌||◌, List, [], ◌∷◌, drop, ◌==◌}
use Rattle.std.specs.List.{before_first, position_or_len}

-- a space or a tab
abbrev pub blank : ℕ → Bool
blank byte = byte == 32 || byte == 9

-- a line without its comment, which its sign begins
abbrev pub spoken : List ℕ → List ℕ
spoken line = before_first (λ byte. byte == 35) line

-- a byte before the first of some parts
abbrev pub onto : ℕ → List (List ℕ) → List (List ℕ)
onto byte [] = (byte ∷ []) ∷ []
onto byte (part ∷ parts) = (byte ∷ part) ∷ parts

-- a text cut at each blank
abbrev pub parts_of : List ℕ → List (List ℕ)
parts_of [] = [] ∷ []
parts_of (byte ∷ bytes) = cond (blank byte) ([] ∷ parts_of bytes) (onto byte (parts_of bytes))

-- the parts that are not empty
abbrev pub not_empty : List (List ℕ) → List (List ℕ)
not_empty [] = []
not_empty ([] ∷ parts) = not_empty parts
not_empty ((byte ∷ bytes) ∷ parts) = (byte ∷ bytes) ∷ not_empty parts

-- the words of a text
abbrev pub words_of : List ℕ → List (List ℕ)
words_of text = not_empty (parts_of text)

-- a text without the blanks at its front
abbrev pub unblanked : List ℕ → List ℕ
unblanked text = drop (position_or_len (λ byte. not (blank byte)) text) text

-- the first word of a text, empty if there is none
abbrev pub first_word : List ℕ → List ℕ
first_word text = before_first blank (unblanked text)

-- what follows the first word
abbrev pub after_word : List ℕ → List ℕ
after_word text = drop (position_or_len blank (unblanked text)) (unblanked text)
