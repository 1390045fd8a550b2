-- What a reading leaves in a buffer, where the reader's bytes are known.
use Rattle.std.specs.Prelude.{ℕ, ◌≡◌, List, length, take, Option, IfSome}

-- the first `size` bytes of the buffer are what the reader had, as far as the buffer goes
abbrev pub Fills : Option (List ℕ) → List ℕ → ℕ → Type 0
Fills known buffer size = IfSome known (λ bs. take size buffer ≡ take (length buffer) bs)
