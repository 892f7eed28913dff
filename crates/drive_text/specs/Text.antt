-- The parts of a line: words, and numbers in decimal, each after a space.
use Rattle.std.specs.Prelude.{List, [], ◌∷◌, ◌++◌, ℕ, zero, suc, ◌+◌, ◌/◌, ◌%◌, ltb}
use Prim.Native.Char.{code}
use Prim.Native.String.{String}
use Prim.Native.String as text
use Rattle.asyncio.specs.States.{pick}

-- the codes of a text's characters: ASCII texts alone are written here, a byte for each
abbrev pub bytes_of : String → List ℕ
bytes_of text.[] = []
bytes_of (text.◌∷◌ c s) = code c ∷ bytes_of s

-- a word after a space
abbrev pub word : String → List ℕ
word w = 32 ∷ bytes_of w

-- the end of a line
abbrev pub newline : List ℕ
newline = 10 ∷ []

-- the digits of a number, k at most: below 10 it is its digit; else the digits of its tenth, and its last digit
unfoldable pub digits : ℕ → ℕ → List ℕ
digits zero n = []
digits (suc k) n = pick (ltb n 10) ((48 + n) ∷ []) (digits k (n / 10) ++ ((48 + n % 10) ∷ []))

-- a number in decimal: 20 digits hold every number of 64 bits
unfoldable pub decimal : ℕ → List ℕ
decimal n = digits 20 n

-- a number after a space
unfoldable pub field : ℕ → List ℕ
field n = 32 ∷ decimal n

-- numbers, each after a space
unfoldable pub fields : List ℕ → List ℕ
fields [] = []
fields (n ∷ ns) = field n ++ fields ns
