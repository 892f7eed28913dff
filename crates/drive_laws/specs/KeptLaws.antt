-- A session's store is sound: from its beginning, and after every record. So the program need not check it.
use Rattle.std.specs.Prelude.{None, Some, Ok, Err}
use Rattle.std.specs.Prelude.{◌≡◌, Bool, true, List, [], ℕ, ◌≤◌, length}
use Rattle.std.proofs.Math.Path.{refl, subst}
use Rattle.std.proofs.Common.{sym, ap, ◌∙◌}
use borrow.Author.Tests.{eq-eqb, le-leb}
use Rattle.asyncio.specs.Limits.{object_limit, tasks_length, objects_length, places_length}
use Rattle.queue.specs.declared.ReadyQueue.{ReadyQueue}
use Rattle.machine.specs.Store.{Store, store_of, forget, fresh}
use Rattle.machine.specs.Sound.{sound}
use Rattle.machine.specs.Machine.{Step}
use Rattle.machine.specs.Lent.{slices_right, lengths_right, lent_begin}
use Rattle.machine_laws.specs.Views.{Sized}
use Rattle.machine_laws.specs.TestLaws.{is_true}
use Rattle.machine_theorems.specs.Soundness.Stores.{SoundStore, sound_store_sound}
use Rattle.machine.specs.Sessions.{InRange}
use Rattle.machine_theorems.specs.Soundness.Sessions.{forget_sound_store, fresh_sound_store, lent_sound_store}
use Rattle.exec_switch.specs.Answer.{stepped_of}
use Rattle.exec_switch.specs.declared.answer.Answer.{Answer}
use Rattle.drive_text.specs.Out.{Out}
use Rattle.drive_reader.specs.declared.Record.{Record}
use Rattle.drive_reader.specs.Parsed.{Parsed}
use Rattle.drive_reader.specs.Format.{parse}
use Rattle.drive_answer.specs.Driver.{Asked, asked, refused_11, answered, drive_by, drive_one}
use Rattle.drive_answer.specs.Drove.{Drove, RecordFits, ParsedFits}

-- ---- one record

-- what is asked is in range
abbrev AskedFits : Asked → Type 0
AskedFits (Asked.event e) = InRange e
AskedFits (Asked.read e) = Unit {0}

asked-fits : (src : List ℕ) (r : Record) → RecordFits r → AskedFits (asked src r)
unfolding asked InRange
asked-fits src (Record.Coroutine f) i = i
asked-fits src Record.Call i = tt
asked-fits src (Record.Pending c x) i = tt
asked-fits src (Record.Settled v) i = tt
asked-fits src (Record.Gather first count) i = tt
asked-fits src (Record.Await o) i = tt
asked-fits src (Record.Complete v) i = tt
asked-fits src (Record.Fail n) i = i
asked-fits src (Record.Results first count) i = tt
asked-fits src Record.Resume i = tt
asked-fits src (Record.Cancel t) i = tt
asked-fits src (Record.Show o) i = tt
asked-fits src Record.Eager i = tt

answered_sound_store : (s : Store) (l : List ℕ) (next number : ℕ) (a : Asked) → SoundStore s → AskedFits a → SoundStore (answered s l next number a).store
unfolding answered
answered_sound_store s l next number (Asked.event e) h i = lent_sound_store s l e h i
answered_sound_store s l next number (Asked.read e) h i = h

-- A record leaves a sound store sound.
pub drives_sound_store : (s : Store) (l src : List ℕ) (from number : ℕ) → SoundStore s → ParsedFits (parse src from) → SoundStore (drive_one s l src from number).store
unfolding drive_one drive_by refused_11
drives_sound_store s l src from number h i = by (parse src from) i
  where
    by : (p : Parsed) → ParsedFits p → SoundStore (drive_by s l src from number p).store
    by (Ok None) j = h
    by (Err n) j = h
    by (Ok (Some f)) j = answered_sound_store s l f.next number (asked src f.what) h (asked-fits src f.what j)

-- ---- what the code has, which has no log

-- the test of the lengths
sized-right : (s : Store) → Sized s → slices_right s ≡ true
unfolding slices_right
sized-right s h = rw (
  eq-eqb (length s.tasks) tasks_length h.tasks_sized,
  eq-eqb (length s.objects) objects_length h.objects_sized,
  eq-eqb (length s.places) places_length h.places_sized,
)

begins-fresh : (s : Store) → slices_right s ≡ true → (lent_begin s).store ≡ fresh
unfolding lent_begin
begins-fresh s i = rw i

module _ {ts os ps : List ℕ} {q : ReadyQueue} where
  -- with another log
  unlogged : (s : Store) → SoundStore s → store_of ts os ps q s.log ≡ s → SoundStore (store_of ts os ps q [])
  unlogged s h e =
      let f : forget (store_of ts os ps q s.log) ≡ store_of ts os ps q [] = unfold forget in refl in
      subst SoundStore (ap forget (sym e) ∙ f) (forget_sound_store s h)

  -- after a record
  pub record_sound_store : (s : Store) (l src : List ℕ) (from number : ℕ) {cs : List ℕ} {next : ℕ} {going : Bool} {x y : Out} → SoundStore s → ParsedFits (parse src from)
      → Drove ts os ps q cs next going x y (drive_one s l src from number) → SoundStore (store_of ts os ps q [])
  record_sound_store s l src from number h i d = unlogged (drive_one s l src from number).store (drives_sound_store s l src from number h i) d.store_is

  -- at the beginning
  module _ (s : Store) (a : Answer) (t : length s.tasks ≡ tasks_length) (o : length s.objects ≡ objects_length) (p : length s.places ≡ places_length)
      (e : stepped_of (store_of ts os ps q (lent_begin s).store.log) a ≡ lent_begin s) where
    begun : (lent_begin s).store ≡ fresh
    begun = begins-fresh s (sized-right s (record { tasks_sized = t; objects_sized = o; places_sized = p }))

    pub begun_fresh : store_of ts os ps q (lent_begin s).store.log ≡ fresh
    begun_fresh = ap (λ (x : Step). x.store) e ∙ begun

    pub begun_sound_store : SoundStore (store_of ts os ps q [])
    begun_sound_store = unlogged (lent_begin s).store (subst SoundStore (sym begun) fresh_sound_store) (ap (λ (x : Step). x.store) e)

  -- The lengths, and soundness, as the code asks them.
  module _ (h : SoundStore (store_of ts os ps q [])) where
    pub sound_store_right : (cs : List ℕ) → object_limit ≤ length cs → lengths_right (store_of ts os ps q []) cs ≡ true
    unfolding lengths_right
    sound_store_right cs i = rw (sized-right (store_of ts os ps q []) h.memory.sized, le-leb object_limit (length cs) i)

    pub sound-store_is-sound : sound (store_of ts os ps q []) ≡ true
    sound-store_is-sound = is_true _ (sound_store_sound (store_of ts os ps q []) h)
