-- Values that are known stay known where completed gathers stay completed, though more objects may be made.
use Rattle.std.specs.Prelude.{ℕ, ◌≤◌, ◌<◌, ltb}
use Rattle.std.proofs.Math.Dec.{T}
use Rattle.std.proofs.Common.{ltb→lt}
use Rattle.asyncio.specs.declared.Value.{Value}
use Rattle.asyncio.specs.Options.{OptionValue}
use Rattle.std.specs.Prelude.{None, Some}
use Rattle.asyncio.specs.declared.TaskState.{TaskState}
use Rattle.asyncio.specs.declared.ExternalFutureState.{ExternalFutureState}
use Rattle.asyncio.specs.declared.Object.{Object}
use Rattle.asyncio.specs.Kinds.{kind, is_completed}
use Rattle.machine.specs.Sound.{value_known, option_known, object_values, state_values}
use Rattle.machine_laws.specs.TestLaws.{both, both_left, both_right, ltb_more}

module _ (m n : ℕ) (l : m ≤ n) (os ps : ℕ → Object) (same : (o : ℕ) → o < m → T (is_completed (kind (os o))) → T (is_completed (kind (ps o)))) where
  pub value_stays : (v : Value) → T (value_known m os v) → T (value_known n ps v)
  unfolding value_known
  value_stays (Value.Plain k) t = t
  value_stays (Value.List g) t =
      let low : T (ltb g.0 m) = both_left _ _ t in
      both _ _ (ltb_more g.0 m n l low) (same g.0 (ltb→lt g.0 m low) (both_right (ltb g.0 m) _ t))

  pub option_stays : (r : OptionValue) → T (option_known m os r) → T (option_known n ps r)
  unfolding option_known
  option_stays None t = t
  option_stays (Some v) t = value_stays v t

  pub object-stays : (x : Object) → T (object_values m os x) → T (object_values n ps x)
  unfolding object_values
  object-stays Object.Unmade t = t
  object-stays (Object.Coroutine f y) t = t
  object-stays (Object.ExternalFuture c (ExternalFutureState.Pending a r)) t = option_stays r t
  object-stays (Object.ExternalFuture c (ExternalFutureState.Resolved v)) t = value_stays v t
  object-stays (Object.ExternalFuture c (ExternalFutureState.Failed e)) t = t
  object-stays (Object.GatherFuture f k y) t = t

  pub state_stays : (x : TaskState) → T (state_values m os x) → T (state_values n ps x)
  unfolding state_values
  state_stays TaskState.Absent t = t
  state_stays TaskState.Unstarted t = t
  state_stays TaskState.Running t = t
  state_stays (TaskState.Woken v) t = value_stays v t
  state_stays (TaskState.Raised e) t = t
  state_stays (TaskState.Blocked o) t = t
