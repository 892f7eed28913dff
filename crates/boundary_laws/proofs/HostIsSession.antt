-- A host's session through the exported functions is the machine's: the store is that session's but for the log, and the numbers that the host was told are
-- those of its answers. So what is proved of every session (soundness, demands 2 and 3) is proved of what a host in another language gets.
use Rattle.std.specs.Prelude.{◌≡◌, Bool, List, [], ◌∷◌, map}
use Rattle.std.proofs.Math.Path.{refl, sym, ap}
use Rattle.std.proofs.Common.{subst, ◌∙◌}
use Rattle.std.proofs.Math.Bool.{true, false}
use Rattle.asyncio.specs.States.{pick}
use Rattle.asyncio.specs.RangeLaws.{pick_has}
use Rattle.machine.specs.Store.{Store, store_of, forget, fresh, empty, put_task, put_header}
use Rattle.machine.specs.Machine.{Event, Answer, Step}
use Rattle.machine.specs.Lent.{Lent, slices_right, lent_step, lent_read}
use Rattle.machine.specs.History.{Entry}
use Rattle.machine.specs.Sessions.{Sent, is_read, lent_any, entry_of, Session, begun, send, send_all, session}
use Rattle.machine_sessions.specs.Queue.Following.{any_event, any_read, read_leaves}
use Rattle.machine_sessions.specs.Gather.LogApart.{left-alike, entry-alike}
use Rattle.boundary_numbers.specs.declared.Numbers.{Numbers}
use Rattle.boundary_numbers.specs.Numbers.{numbers_as}
use Rattle.boundary_lent.specs.Boundary.{Memory, memory_of, memory_step}
use Rattle.boundary_laws.specs.HostSessions.{store_held, after_event, after_read, after_any, HostSession, host_send, host_send_all, host_session, sent_by}
use Rattle.boundary_laws.specs.HostIsSession.{IsSession}

forget_twice : (s : Store) → forget (forget s) ≡ forget s
unfolding forget
forget_twice s = refl

held_forgets : (m : Memory) → forget (store_held m) ≡ store_held m
unfolding forget
held_forgets m = refl

-- a read on lent memory leaves the store but for its log
read_forgets : (s : Store) (e : Event) → is_read e ≡ true → forget (lent_read s e).store ≡ forget s
unfolding lent_read
read_forgets s e r = pick_has (λ (x : Step). forget x.store ≡ forget s) (slices_right s) (ap forget (read_leaves s e r) ∙ forget_twice s) refl

-- ---- one event

module _ (m : Memory) (s : Store) (e : Event) (k : store_held m ≡ forget s) where
  abbrev sent : Sent
  sent = record { event = e; list = m.calls }

  abbrev held : Store
  held = store_held m

  alike : forget held ≡ forget s
  alike = held_forgets m ∙ k

  -- on the host's memory
  left : store_held (after_any m e) ≡ forget (lent_any held sent).store
  unfolding after_any
  left = by (is_read e) refl
    where
      by : (b : Bool) → is_read e ≡ b → store_held (pick b (after_read m e) (after_event m e)) ≡ forget (lent_any held sent).store
      by true r = sym (ap (λ (x : Lent). forget x.store) (any_read held sent r) ∙ read_forgets held e r ∙ held_forgets m)
      by false r = unfold memory_step forget in (ap (λ (x : Lent). store_of x.store.tasks x.store.objects x.store.places x.store.queue []) (sym (any_event held sent r)))

  tells : (after_any m e).numbers ≡ numbers_as (lent_any held sent).answer
  unfolding after_any
  tells = by (is_read e) refl
    where
      by : (b : Bool) → is_read e ≡ b → (pick b (after_read m e) (after_event m e)).numbers ≡ numbers_as (lent_any held sent).answer
      by true r = ap (λ (x : Lent). numbers_as x.answer) (sym (any_read held sent r))
      by false r = unfold memory_step in (ap (λ (x : Lent). numbers_as x.answer) (sym (any_event held sent r)))

  answers-alike : (lent_any held sent).answer ≡ (lent_any s sent).answer
  unfolding entry_of
  answers-alike = ap (λ (y : Entry). y.answer) (entry-alike held s sent alike)

  -- and on the machine's
  event-left : store_held (after_any m e) ≡ forget (lent_any s sent).store
  event-left = left ∙ left-alike held s sent alike

  event-told : (after_any m e).numbers ≡ numbers_as (lent_any s sent).answer
  event-told = tells ∙ ap numbers_as answers-alike

-- ---- every list of events

all_same : (es : List Event) (x : HostSession) (y : Session) → IsSession x y → IsSession (host_send_all x es) (send_all y (sent_by x.memory es))
unfolding host_send_all host_send sent_by send_all
all_same [] x y k = k
all_same (e ∷ es) x y k =
    all_same es (host_send x e) (send y (record { event = e; list = x.memory.calls }))
    (unfold host_send send entry_of in (record {
      store_same = event-left x.memory y.store e k.store_same;
      told_same = rw (event-told x.memory y.store e k.store_same, k.told_same) refl;
    }))

fresh_forgets : forget fresh ≡ fresh
unfolding forget fresh empty put_task put_header
fresh_forgets = refl

-- A host's session is the machine's.
pub host_is_session : (m : Memory) → store_held m ≡ fresh → (es : List Event) → IsSession (host_session m es) (session (sent_by m es))
unfolding host_session session begun
host_is_session m b es = all_same es _ _ (record { store_same = b ∙ sym fresh_forgets; told_same = refl })
