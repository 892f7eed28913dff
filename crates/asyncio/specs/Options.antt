-- Rust's Option of a value, by a name of its own: the machine's searches answer with mathlib's Option.
use Rattle.std.specs.Prelude.{Option}
use Rattle.asyncio.specs.declared.Value.{Value}

-- a value or none: an external's stored result, a place's result
abbrev pub OptionValue : Type 0
OptionValue = Option Value
