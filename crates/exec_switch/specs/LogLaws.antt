-- What is answered with its own log equals y; so it equals x, where x is y: of a switch, of an await and of an event.
use Rattle.std.specs.Prelude.{◌≡◌, List, ℕ}
use Rattle.queue.specs.declared.ReadyQueue.{ReadyQueue}
use Rattle.machine.specs.Store.{store_of}
use Rattle.machine.specs.Events.{Switched, Awaited}
use Rattle.machine.specs.Machine.{Step}
use Rattle.contract.specs.Contract.{same_log}
use Rattle.exec_switch.specs.Control.{switched_of, awaited_of}
use Rattle.exec_switch.specs.Answer.{stepped_of}
use Rattle.exec_switch.specs.declared.control.Control.{Control}
use Rattle.exec_switch.specs.declared.answer.Answer.{Answer}

pub same_switch : {x y : Switched} → x ≡ y → {ts os ps : List ℕ} {q : ReadyQueue} (c : Control) → switched_of (store_of ts os ps q y.store.log) c ≡ y
    → switched_of (store_of ts os ps q x.store.log) c ≡ x
same_switch e {ts} {os} {ps} {q} c r = same_log (λ x. x.store.log) (λ l. switched_of (store_of ts os ps q l) c) e r

pub same-await : {x y : Awaited} → x ≡ y → {ts os ps : List ℕ} {q : ReadyQueue} (c : Control) (n : ℕ) → awaited_of (store_of ts os ps q y.store.log) c n ≡ y
    → awaited_of (store_of ts os ps q x.store.log) c n ≡ x
same-await e {ts} {os} {ps} {q} c n r = same_log (λ x. x.store.log) (λ l. awaited_of (store_of ts os ps q l) c n) e r

pub same_step : {x y : Step} → x ≡ y → {ts os ps : List ℕ} {q : ReadyQueue} (a : Answer) → stepped_of (store_of ts os ps q y.store.log) a ≡ y
    → stepped_of (store_of ts os ps q x.store.log) a ≡ x
same_step e {ts} {os} {ps} {q} a r = same_log (λ x. x.store.log) (λ l. stepped_of (store_of ts os ps q l) a) e r
