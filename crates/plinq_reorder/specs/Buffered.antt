-- What a contract sees of a reorder buffer.
use Rattle.std.specs.Prelude.{◌≡◌, ◌≢◌, ℕ, ◌<◌, List, [], ◌∷◌, Bool, true, false, ◌||◌, nat_lt, Option, Some, None}
use Rattle.plinq_reorder.specs.Intervals.{Interval, is_within, has_key, insert, unbroken_row, first_gap}

-- the next key, and the intervals that are held; all keys before the next one have gone
pub record Buffered (P : Type 0) : Type 0 where
  pub next : ℕ
  pub held : List (Interval P)

-- whether this key has gone or is held
abbrev pub is_taken : {P : Type 0} → Buffered P → ℕ → Bool
is_taken b key = nat_lt key b.next || has_key b.held key

-- none of these keys has gone or is held
abbrev pub IsFresh : {P : Type 0} → Buffered P → ℕ → ℕ → Type 0
IsFresh b first end = (key : ℕ) → is_within first end key ≡ true → is_taken b key ≡ false

-- one of them has gone or is held
abbrev pub Overlaps : {P : Type 0} → Buffered P → ℕ → ℕ → Type 0
Overlaps b first end = (key : ℕ) × (is_within first end key ≡ true) × (is_taken b key ≡ true)

-- one interval more is held
abbrev pub with_interval : {P : Type 0} → Buffered P → ℕ → ℕ → P → Buffered P
with_interval b first end payload = record b { held = insert b.held first end payload }

-- the interval under the next key has gone, and no other
pub record TakesNext {P : Type 0} (b : Buffered P) (payload : P) (b' : Buffered P) : Type 0 where
  pub held : b.held ≡ (b.next, record { end = b'.next; payload = payload }) ∷ b'.held
  pub some : b.next < b'.next
  pub keys : (key : ℕ) → is_taken b' key ≡ is_taken b key

-- the next key is missing
pub record IsAtGap {P : Type 0} (b : Buffered P) : Type 0 where
  pub missing : is_taken b b.next ≡ false
  pub nothing : unbroken_row b.next b.held ≡ []
  pub gap : first_gap b.next b.held ≡ b.next

-- an interval comes in: it is held if it doesn't begin with the next key, or its turn has come and its payload is handed back
abbrev pub Inserts : {P : Type 0} → Buffered P → ℕ → ℕ → P → Option P → Buffered P → Type 0
Inserts b first end payload None b' = (first ≢ b.next) × (b' ≡ with_interval b first end payload)
Inserts b first end payload (Some same) b' = (same ≡ payload) × TakesNext (with_interval b first end payload) payload b'

-- the interval under the next key is taken, or there is none
abbrev pub Takes : {P : Type 0} → Buffered P → Option P → Buffered P → Type 0
Takes b None b' = (b' ≡ b) × IsAtGap b
Takes b (Some payload) b' = TakesNext b payload b'
