-- What spawn does to the lent slices and the lent queue.
use Rattle.std.specs.Prelude.{◌≡◌, Bool, true, false, List, ◌∷◌, ℕ}
use Rattle.std.proofs.Math.Option.{none, some}
use Rattle.asyncio.specs.declared.Header.{Header}
use Rattle.rows.specs.Tables.{header_at}
use Rattle.queue.specs.declared.ReadyQueue.{ReadyQueue}
use Rattle.machine.specs.Store.{LogEntry, spawned, store_of}
use Rattle.machine.specs.Scheduler.{spawn, spawn_as}
use Rattle.contract.specs.Contract.{Slice, LentQueue}

-- from ts, os and q to ts', os' and q', where the header of os is h: the machine's spawn_as
pub record SpawnsAs (ts os : List ℕ) (q : ReadyQueue) (h : Header) (c g : ℕ) (ts' os' : List ℕ) (q' : ReadyQueue) : Type 0 where
  pub spawns : header_at os ≡ h → (ps : List ℕ) (l : List LogEntry)
      → store_of ts' os' ps q' (spawned h.next c ∷ l) ≡ spawn_as (store_of ts os ps q l) h.next c g

-- done: the machine's spawn gives that store; not done: it gives none, and all is as it was
pub data Spawns (ts os : List ℕ) (q : ReadyQueue) (c g : ℕ) : List ℕ → List ℕ → ReadyQueue → Bool → Type 0 where
  done : {ts' os' : List ℕ} {q' : ReadyQueue}
      → ((ps : List ℕ) (l : List LogEntry) → spawn (store_of ts os ps q l) c g ≡ some (store_of ts' os' ps q' (spawned (header_at os).next c ∷ l)))
      → Spawns ts os q c g ts' os' q' true
  not_done : ((ps : List ℕ) (l : List LogEntry) → spawn (store_of ts os ps q l) c g ≡ none) → Spawns ts os q c g ts os q false

-- both, of a call
abbrev pub SpawnsTaskAs : Slice → Slice → LentQueue → Header → ℕ → ℕ → Type 0
SpawnsTaskAs tasks objects queue h c g =
    SpawnsAs tasks.entry.now objects.entry.now queue.entry.now h c g tasks.exit.now objects.exit.now queue.exit.now

abbrev pub SpawnsTask : Slice → Slice → LentQueue → ℕ → ℕ → Bool → Type 0
SpawnsTask tasks objects queue c g b =
    Spawns tasks.entry.now objects.entry.now queue.entry.now c g tasks.exit.now objects.exit.now queue.exit.now b
