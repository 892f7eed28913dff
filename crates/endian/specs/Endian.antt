-- Numbers of 1, 2, 4 and 8 bytes in a list of bytes, low byte first.
use Rattle.std.specs.Prelude.{ℕ, ◌+◌, ◌*◌, List, get_or}

-- the byte at a place
abbrev pub le1 : List ℕ → ℕ → ℕ
le1 s at = get_or s at 0

-- two bytes
abbrev pub le2 : List ℕ → ℕ → ℕ
le2 s at = le1 s at + le1 s (at + 1) * 256

-- four bytes
abbrev pub le4 : List ℕ → ℕ → ℕ
le4 s at = le2 s at + le2 s (at + 2) * 65536

-- eight bytes
abbrev pub le8 : List ℕ → ℕ → ℕ
le8 s at = le4 s at + le4 s (at + 4) * 4294967296
