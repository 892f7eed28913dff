-- gather as Python's documentation has it (library/asyncio-task, asyncio.gather, Python 3.11). Written from that text; it knows nothing
-- of the machine. Awaitables are told apart by numbers. A are the values that they return, X the exceptions that they raise.
use Rattle.std.specs.Prelude.{ℕ, Bool, true, false, not, ◌&&◌, List, [], ◌∷◌, ◌≡◌, refl, eqb}
use Rattle.std.proofs.Math.Option.{Option, none, some}
use Rattle.machine.specs.Tests.{is_in}

-- what an awaitable comes to
pub data Outcome (A X : Type 0) : Type 0 where
  returned : A → Outcome A X
  raised : X → Outcome A X

-- an awaitable is done, with its outcome
pub record Arrival (A X : Type 0) : Type 0 where
  pub awaitable : ℕ
  pub outcome : Outcome A X

-- what the task that awaits gather() sees: nothing yet, the list, or an exception
pub data Gathered (A X : Type 0) : Type 0 where
  waiting : Gathered A X
  listed : List A → Gathered A X
  propagated : X → Gathered A X

module _ {A X : Type 0} where
  -- what an awaitable came to, by the arrivals so far, the earliest first. It is done once: a later arrival for it is not looked at.
  unfoldable pub outcome_of : List (Arrival A X) → ℕ → Option (Outcome A X)
  outcome_of [] a = none
  outcome_of (x ∷ xs) a = elim (eqb x.awaitable a) [ true ↦ some x.outcome | false ↦ outcome_of xs a ]

  -- "the first raised exception", among the awaitables aws; `seen` are done before
  unfoldable pub first_raised : List ℕ → List ℕ → List (Arrival A X) → Option X
  first_raised aws seen [] = none
  first_raised aws seen (x ∷ xs) =
      elim (is_in x.awaitable aws && not (is_in x.awaitable seen)) [
        | true ↦ elim x.outcome [ returned v ↦ first_raised aws (x.awaitable ∷ seen) xs | raised e ↦ some e ]
        | false ↦ first_raised aws seen xs
      ]

  -- an awaitable's outcome in front of what the awaitables behind it come to
  unfoldable pub put_first : Option (Outcome A X) → Gathered A X → Gathered A X
  put_first none r = waiting
  put_first (some (raised e)) r = waiting
  put_first (some (returned v)) waiting = waiting
  put_first (some (returned v)) (listed vs) = listed (v ∷ vs)
  put_first (some (returned v)) (propagated e) = propagated e

  -- "If all awaitables are completed successfully, the result is an aggregate list of returned values. The order of result values
  -- corresponds to the order of awaitables in aws."
  unfoldable pub in_order : List (Arrival A X) → List ℕ → Gathered A X
  in_order xs [] = listed []
  in_order xs (a ∷ aws) = put_first (outcome_of xs a) (in_order xs aws)

  -- gather(*aws): "the first raised exception is immediately propagated to the task that awaits on gather()". (That the "other
  -- awaitables in the aws sequence won't be cancelled and will continue to run" is a law of the machine: DeliveryLaws.)
  unfoldable pub gather : List ℕ → List (Arrival A X) → Gathered A X
  gather aws xs = elim (first_raised aws [] xs) [ none ↦ in_order xs aws | some e ↦ propagated e ]

-- awaitable a returns n
abbrev arrives : ℕ → ℕ → Arrival ℕ ℕ
arrives a n = record { awaitable = a; outcome = returned n }

-- awaitable a raises e
abbrev fails : ℕ → ℕ → Arrival ℕ ℕ
fails a e = record { awaitable = a; outcome = raised e }

-- The documentation's example, factorials of 2, 3 and 4, whatever the order in which they are done; and an awaitable named twice.
pub documented : gather (0 ∷ 1 ∷ 2 ∷ []) (arrives 0 2 ∷ arrives 1 6 ∷ arrives 2 24 ∷ []) ≡ listed (2 ∷ 6 ∷ 24 ∷ [])
unfolding gather first_raised in_order put_first outcome_of is_in
documented = refl

pub out_of_order : gather (0 ∷ 1 ∷ 0 ∷ []) (arrives 1 6 ∷ arrives 0 2 ∷ []) ≡ listed (2 ∷ 6 ∷ 2 ∷ [])
unfolding gather first_raised in_order put_first outcome_of is_in
out_of_order = refl

-- The first exception is propagated while others still run, and a later one is not.
pub first_only : gather (0 ∷ 1 ∷ 2 ∷ []) (arrives 2 24 ∷ fails 1 7 ∷ fails 0 8 ∷ []) ≡ propagated 7
unfolding gather first_raised in_order put_first outcome_of is_in
first_only = refl

pub still_waiting : gather (0 ∷ 1 ∷ []) (arrives 1 6 ∷ fails 9 5 ∷ []) ≡ waiting
unfolding gather first_raised in_order put_first outcome_of is_in
still_waiting = refl
