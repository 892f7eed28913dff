-- What the code answers, as the machine's data.
use Rattle.std.specs.Prelude.{ℕ, None, Some}
use Rattle.std.specs.Prelude as rust
use Rattle.std.proofs.Math.Option.{Option, none, some}
use Rattle.machine.specs.Store.{Store, object}
use Rattle.machine.specs.Scheduler as scheduler
use Rattle.machine.specs.Commit.{ready, raised, pending, gives, polled, nested, item_object, item}
use Rattle.machine.specs.Commit as machine
use Rattle.contract.specs.Contract.{Words, kept, Slice, Does, DoesOfTasksAndObjects, DoesOfObjects, LentQueue}
use Rattle.exec_poll.specs.declared.item.Poll.{Poll}

-- what an awaitable gives at once
abbrev pub poll_of : Poll → machine.Poll
poll_of (Poll.Ready v) = ready v
poll_of (Poll.Raised e) = raised e
poll_of Poll.Pending = pending

-- The store after an item, and what the item gave: nothing where it is a nested gather, which leaves the store as it is.
pub record Itemed : Type 0 where
  pub store : Store
  pub poll : Option machine.Poll

-- what the code says of an item: polled, or none where it is a nested gather that must be committed first
abbrev pub ItemPoll : Type 0
ItemPoll = rust.Option Poll

-- as the machine says it
abbrev pub item_of : ItemPoll → Option machine.Poll
item_of (Some p) = some (poll_of p)
item_of None = none

-- with the store that it leaves
abbrev pub with_item : Store → ItemPoll → Itemed
with_item s x = record { store = s; poll = item_of x }

-- what the machine says of an item of a store
abbrev pub itemed : Store → machine.Item → Itemed
itemed s (polled r) = record { store = r.store; poll = some r.poll }
itemed s nested = record { store = s; poll = none }

-- object o as an item of gather g, where no open place names it
abbrev pub item_here : Store → ℕ → ℕ → Itemed
item_here s g o = itemed s (item_object s g o (object s o))

-- object o as an item of gather g, which is w
abbrev pub item_at : Store → ℕ → scheduler.AwaitedGather → ℕ → Itemed
item_at s g w o = itemed s (item s g w o)

-- ---- what a call does

-- The call polls an awaitable, as f does, with a lent queue.
abbrev pub Polls : Slice → Slice → LentQueue → (Store → machine.Polled) → Poll → Type 0
Polls tasks objects queue f r =
    DoesOfTasksAndObjects (λ x. x.store.log) tasks objects queue.entry.now queue.exit.now (λ s. gives s (poll_of r)) f

-- The same of a call that takes the objects alone.
abbrev pub PollsOfObjects : Slice → (Store → machine.Polled) → Poll → Type 0
PollsOfObjects objects f r = DoesOfObjects objects (λ s. gives s (poll_of r)) f

-- The call polls an item, as f does, with a lent queue.
abbrev pub PollsItem : Slice → Slice → LentQueue → (Store → Itemed) → ItemPoll → Type 0
PollsItem tasks objects queue f r =
    DoesOfTasksAndObjects (λ x. x.store.log) tasks objects queue.entry.now queue.exit.now (λ s. with_item s r) f

-- The same of a call that takes the places, too.
abbrev pub PollsItemOfPlaces : Slice → Slice → Words → LentQueue → (Store → Itemed) → ItemPoll → Type 0
PollsItemOfPlaces tasks objects places queue f r =
    Does (λ x. x.store.log) tasks objects (kept places) queue.entry.now queue.exit.now (λ s. with_item s r) f
