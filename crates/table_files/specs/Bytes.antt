-- Marks, and numbers in bytes. Assumes nothing.
use Rattle.std.specs.Prelude.{ℕ, ◌+◌, ◌*◌, ◌-◌, ◌/◌, ◌%◌, ◌<◌, cond, List, [], ◌∷◌, ◌++◌, ltb}
use Rattle.automata.specs.Clocks.{at}

-- files are lists of numbers below 256
abbrev pub AreBytes : List ℕ → Type 0
AreBytes [] = Unit {0}
AreBytes (x ∷ xs) = (x < 256) × AreBytes xs

-- "Each record begins with a two-byte mark in ASCII": the seven marks
abbrev pub TA : List ℕ
TA = 0x54 ∷ 0x41 ∷ []

abbrev pub LO : List ℕ
LO = 0x4C ∷ 0x4F ∷ []

abbrev pub ED : List ℕ
ED = 0x45 ∷ 0x44 ∷ []

abbrev pub RN : List ℕ
RN = 0x52 ∷ 0x4E ∷ []

abbrev pub ST : List ℕ
ST = 0x53 ∷ 0x54 ∷ []

abbrev pub RL : List ℕ
RL = 0x52 ∷ 0x4C ∷ []

abbrev pub RW : List ℕ
RW = 0x52 ∷ 0x57 ∷ []

-- "wider ones have the high byte first": the two bytes from byte p on
abbrev pub two : List ℕ → ℕ → ℕ
two b p = at b p * 256 + at b (p + 1)

-- the four bytes from byte p on
abbrev pub four : List ℕ → ℕ → ℕ
four b p = two b p * 65536 + two b (p + 2)

-- and back: the two bytes of a number
abbrev pub two_bytes : ℕ → List ℕ
two_bytes x = x / 256 ∷ x % 256 ∷ []

-- its four bytes
abbrev pub four_bytes : ℕ → List ℕ
four_bytes x = two_bytes (x / 65536) ++ two_bytes (x % 65536)

-- "offset in two bytes, signed": what it adds, 0 if it is negative
abbrev pub up : ℕ → ℕ
up w = cond (ltb w 32768) w 0

-- and what it takes away, 0 if it is not
abbrev pub down : ℕ → ℕ
down w = cond (ltb w 32768) 0 (65536 - w)
