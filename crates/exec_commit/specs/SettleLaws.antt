-- The ways through opening, settling, resuming and unwinding, in the shape of what the code knows there.
use Rattle.std.specs.Prelude.{◌≡◌, List, [], ◌∷◌, ℕ, None, Some}
use borrow.Author.Tests.{eq-eqb, ne_eqb}
use Rattle.asyncio.specs.Numbers.{heap_id}
use Rattle.asyncio.specs.declared.Value.{Value}
use Rattle.asyncio.specs.declared.Error.{Error}
use Rattle.asyncio.specs.declared.GatherState.{GatherState}
use Rattle.asyncio.specs.declared.Object.{Object}
use Rattle.rows.specs.Tables.{object_at, object_put}
use Rattle.queue.specs.declared.ReadyQueue.{ReadyQueue}
use Rattle.machine.specs.Store.{LogEntry, store_of, object, put_object}
use Rattle.machine.specs.Scheduler.{as_awaited}
use Rattle.machine.specs.Commit.{ready, pending, gives, open_place, fill_place, with_state, set_gather, settle_as, settle_gather_commit, resume_in, resume_as, resume_after_child, unwind, Frame}
use Rattle.scheduler_states.specs.Awaited.{awaited_gather_of, option_awaited}
use Rattle.exec_poll.specs.Polls.{poll_of}
use Rattle.exec_commit.specs.Steps.{frame}
use Rattle.scheduler_states.specs.declared.awaited.AwaitedGather.{AwaitedGather}
use Rattle.scheduler_states.specs.Awaited.{OptionAwaited}
use Rattle.exec_poll.specs.declared.item.Poll.{Poll}

pub gather-set : (ts os ps : List ℕ) (q : ReadyQueue) (l : List LogEntry) (g : ℕ) (y : GatherState) {o x : Object} {us : List ℕ}
    → o ≡ object_at os g → x ≡ with_state o y → us ≡ object_put os g x → store_of ts us ps q l ≡ set_gather (store_of ts os ps q l) g y
unfolding set_gather put_object object
gather-set ts os ps q l g y e f p = rw (p, f, e)

module _ (ts os ps : List ℕ) (q : ReadyQueue) (l : List LogEntry) (g : ℕ) (a : OptionAwaited) (e : option_awaited a ≡ as_awaited (object_at os g)) where
  -- ---- settling

  pub settle_none : a ≡ None → gives (store_of ts os ps q l) pending ≡ settle_gather_commit (store_of ts os ps q l) g
  unfolding settle_gather_commit settle_as object
  settle_none f = rw (← e, f)

  module _ (w : AwaitedGather) (f : a ≡ Some w) where
    -- no place is open
    pub settle_done : w.open_places ≡ 0 → {us : List ℕ} → store_of ts us ps q l ≡ set_gather (store_of ts os ps q l) g GatherState.Completed
        → gives (store_of ts us ps q l) (ready (Value.List (heap_id g))) ≡ settle_gather_commit (store_of ts os ps q l) g
    unfolding settle_gather_commit settle_as object
    settle_done z p = rw (← e, f, eq-eqb w.open_places 0 z, p)

    pub settle_waits : (w.open_places ≡ 0 → ⊥) → gives (store_of ts os ps q l) pending ≡ settle_gather_commit (store_of ts os ps q l) g
    unfolding settle_gather_commit settle_as object
    settle_waits z = rw (← e, f, ne_eqb w.open_places 0 z)

  -- ---- resuming

  module _ (i : ℕ) (p : Poll) where
    pub resume-none : a ≡ None → store_of ts os ps q l ≡ resume_after_child (frame g i) (gives (store_of ts os ps q l) (poll_of p))
    unfolding resume_after_child resume_as object
    resume-none f = rw (← e, f)

    module _ (w : AwaitedGather) (f : a ≡ Some w) where
      pub resume-ready : (v : Value) → p ≡ Poll.Ready v → {rs : List ℕ} → store_of ts os rs q l ≡ fill_place (store_of ts os ps q l) (awaited_gather_of w) i v
          → store_of ts os rs q l ≡ resume_after_child (frame g i) (gives (store_of ts os ps q l) (poll_of p))
      unfolding resume_after_child resume_as resume_in object
      resume-ready v k b = rw (← e, f, k, b)

      pub resume-raised : (x : Error) → p ≡ Poll.Raised x → store_of ts os ps q l ≡ resume_after_child (frame g i) (gives (store_of ts os ps q l) (poll_of p))
      unfolding resume_after_child resume_as resume_in object
      resume-raised x k = rw (← e, f, k)

      pub resume-pending : p ≡ Poll.Pending → {us : List ℕ} → store_of ts us ps q l ≡ open_place (store_of ts os ps q l) g (awaited_gather_of w) i
          → store_of ts us ps q l ≡ resume_after_child (frame g i) (gives (store_of ts os ps q l) (poll_of p))
      unfolding resume_after_child resume_as resume_in object
      resume-pending k b = rw (← e, f, k, b)

-- ---- unwinding

module _ (ts os ps : List ℕ) (q : ReadyQueue) (l : List LogEntry) (x : Error) where
  -- a gather, then those below it
  pub unwind-turns : (f : Frame) (fs : List Frame) {gs : List Frame} → gs ≡ f ∷ fs → {us : List ℕ} → store_of ts us ps q l ≡ set_gather (store_of ts os ps q l) f.gather (GatherState.Failed x)
      → unwind (store_of ts us ps q l) fs x ≡ unwind (store_of ts os ps q l) gs x
  unfolding unwind
  unwind-turns f fs z e = rw (z, e)

  pub unwind-ends : {gs : List Frame} → gs ≡ [] → store_of ts os ps q l ≡ unwind (store_of ts os ps q l) gs x
  unfolding unwind
  unwind-ends z = rw z
