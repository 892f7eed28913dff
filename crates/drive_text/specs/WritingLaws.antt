-- What a law of written bytes says of a writer: the same, and that the writer still writes into the same buffer.
use Rattle.std.specs.Prelude.{List, ◌++◌, ℕ, ◌+◌, ◌≤◌}
use Rattle.std.proofs.Common.{refl, ◌∙◌}
use Rattle.drive_text.specs.declared.Writer.{Writer}
use Rattle.drive_text.specs.Out.{Wrote}
use Rattle.drive_text.specs.Writing.{written, PutsBetween}
use Rattle.drive_text.specs.OutLaws.{then, at_most}

module _ {m : ℕ} {d : List ℕ} where
  -- nothing was done
  pub puts : {x : Writer} → Wrote m (written x) (written x) d → PutsBetween m x x d
  puts w = record { same_buffer = refl; wrote = w }

  -- by one call
  pub puts_by : {k : ℕ} {a : List ℕ} {x y : Writer} → (Wrote k (written x) (written y) a → Wrote m (written x) (written y) d) → PutsBetween k x y a → PutsBetween m x y d
  puts_by f v = record { same_buffer = v.same_buffer; wrote = f v.wrote }

  -- by two calls
  pub puts_by_two : {j k : ℕ} {a b : List ℕ} {x y z : Writer} → (Wrote j (written x) (written y) a → Wrote k (written y) (written z) b → Wrote m (written x) (written z) d)
      → PutsBetween j x y a → PutsBetween k y z b → PutsBetween m x z d
  puts_by_two f v w = record { same_buffer = w.same_buffer ∙ v.same_buffer; wrote = f v.wrote w.wrote }

  -- by three calls
  pub puts_by_three : {i j k : ℕ} {a b c : List ℕ} {x y z u : Writer}
      → (Wrote i (written x) (written y) a → Wrote j (written y) (written z) b → Wrote k (written z) (written u) c → Wrote m (written x) (written u) d)
      → PutsBetween i x y a → PutsBetween j y z b → PutsBetween k z u c → PutsBetween m x u d
  puts_by_three f v w t = record { same_buffer = t.same_buffer ∙ w.same_buffer ∙ v.same_buffer; wrote = f v.wrote w.wrote t.wrote }

-- one text after the other
pub then_puts : {j k : ℕ} {x y z : Writer} {a b : List ℕ} → PutsBetween j x y a → PutsBetween k y z b → PutsBetween (j + k) x z (a ++ b)
then_puts v w = puts_by_two then v w

pub puts_at_most : {j k : ℕ} {x y : Writer} {a : List ℕ} → j ≤ k → PutsBetween j x y a → PutsBetween k x y a
puts_at_most h w = puts_by (at_most h) w
