-- The frames of a commit that wait, as the machine's list, the top first.
use Rattle.std.specs.Prelude.{◌≡◌, List, [], ◌∷◌, ℕ, zero, suc, get_or, None, Some}
use Rattle.std.specs.Prelude as rust
use Rattle.asyncio.specs.Numbers.{heap_id}
use Rattle.machine.specs.Commit as machine
use Rattle.exec_commit.specs.Steps.{frame}
use Rattle.exec_commit.specs.declared.frames.Frame.{Frame}
use Rattle.exec_commit.specs.declared.frames.Frames.{Frames}

-- no gather's frame
abbrev pub no_frame : Frame
no_frame = record { gather = heap_id 0; next = 0 }

-- as the machine has it
abbrev pub frame_of : Frame → machine.Frame
frame_of f = frame f.gather.0 f.next

-- the first d frames of the array, the last of them first
unfoldable pub below : List Frame → ℕ → List machine.Frame
below fs zero = []
below fs (suc d) = frame_of (get_or fs d no_frame) ∷ below fs d

-- the frames of a stack
abbrev pub stack_of : Frames → List machine.Frame
stack_of s = below s.frames s.depth

-- a frame was taken off the old list, which left the new one; none, where there was none
unfoldable pub Pops : rust.Option Frame → List machine.Frame → List machine.Frame → Type 0
Pops None old new = (old ≡ []) × (new ≡ [])
Pops (Some f) old new = old ≡ frame_of f ∷ new
