-- Buffers: what is held back until a batch is full.
use Rattle.std.specs.Prelude.{ℕ, ◌<◌, List, length, Option, Some, None}
use Rattle.std.specs.Option.{IfSome}
use Rattle.plinq_merge.specs.declared.buffer.Buffer.{Buffer}
use Rattle.plinq_merge.specs.declared.buffer.Buffer.TheVariants.{Ring, All}

-- the items that are held back
abbrev pub held_of : {T : Type 0} → Buffer T → List T
held_of (Ring ring) = ring.items
held_of (All items) = items.items

-- after how many items a batch is full
abbrev pub size_of : {T : Type 0} → Buffer T → Option ℕ
size_of (Ring ring) = Some ring.capacity
size_of (All items) = None

-- fewer items are held back than a batch has
abbrev pub HasRoom : {T : Type 0} → Buffer T → Type 0
HasRoom buffer = IfSome (size_of buffer) (λ size. length (held_of buffer) < size)
