-- The memory of a session, of which its view says nothing: lengths, and canonical rows.
use Rattle.std.specs.Prelude.{◌≡◌, ℕ, ◌<◌, length}
use Rattle.std.proofs.Common.{sym, arith}
use Rattle.std.proofs.Math.Path.{subst}
use Rattle.asyncio.specs.declared.Object.{Object}
use Rattle.asyncio.specs.declared.Place.{Place}
use Rattle.asyncio.specs.declared.Header.{Header}
use Rattle.asyncio.specs.Limits.{task_limit}
use Rattle.asyncio.specs.Ranges.{ObjectFits, PlaceFits}
use Rattle.machine.specs.Store.{Store, header, put_object, put_place}
use Rattle.machine_laws.specs.Views.{Sized}
use Rattle.machine_laws.specs.Facts.{WordsInRange}
use Rattle.machine_laws.specs.StoreLaws.{sized-put_object, sized-put_place, header_put-object, header-fits}
use Rattle.machine_laws.specs.WordLaws.{words_put_object, words_put_place}

-- the memory is of its lengths, and the rows in use are canonical
pub record Memory (s : Store) : Type 0 where
  pub sized : Sized s
  pub ids : length s.queue.ids ≡ task_limit
  pub words_right : WordsInRange (header s).next (header s).made (header s).used s

pub memory_object : (s : Store) (o : ℕ) (x : Object) → o < (header s).made → ObjectFits x → Memory s → Memory (put_object s o x)
memory_object s o x l f h =
    record {
      sized = sized-put_object s o x h.sized;
      ids = unfold put_object in h.ids;
      words_right = subst (λ (y : Header). WordsInRange y.next y.made y.used (put_object s o x)) (sym (header_put-object s o x))
          (words_put_object _ _ _ s h.sized h.words_right (header s).made o x (omega (arith, (header-fits s).made_fits)) f (λ p m ne. m));
    }

pub memory_place : (s : Store) (p : ℕ) (x : Place) → p < (header s).used → PlaceFits x → Memory s → Memory (put_place s p x)
unfolding header put_place
memory_place s p x l f h =
    record {
      sized = sized-put_place s p x h.sized;
      ids = h.ids;
      words_right = words_put_place (header s).next (header s).made (header s).used s h.sized h.words_right (header s).used p x (omega (arith, l, (header-fits s).used_fits)) f (λ q m ne. m);
    }
