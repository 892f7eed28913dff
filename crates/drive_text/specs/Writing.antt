-- What the functions of a writer say of it.
use Rattle.std.specs.Prelude.{◌≡◌, List, ℕ}
use denote.Triple.Both.{Both}
use denote.MutBor.{MutBor}
use Rattle.drive_text.specs.declared.Writer.{Writer}
use Rattle.drive_text.specs.Out.{Out, out_of, Wrote}

-- the buffer as it is now, and the place of the next byte
abbrev pub written : Writer → Out
written w = out_of w.out.now w.at

-- The writer still writes into the same buffer, and from one state to the other these bytes were written, at most k.
pub record PutsBetween (k : ℕ) (x y : Writer) (bs : List ℕ) : Type 0 where
  pub same_buffer : y.out.ghost_name ≡ x.out.ghost_name
  pub wrote : Wrote k (written x) (written y) bs

-- The call writes these bytes, at most k.
abbrev pub Puts : ℕ → Both (MutBor Writer) (MutBor Writer) → List ℕ → Type 0
Puts k w bs = PutsBetween k w.entry.now w.exit.now bs
