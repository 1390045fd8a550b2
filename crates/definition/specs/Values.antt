-- What the arguments of a call are in a machine: bytes, words of 64 bits, floats of binary64.
use Rattle.std.specs.Prelude.{ℕ, ◌<◌, List, [], ◌∷◌, T, Float}
use Rattle.std.specs.Prelude.{Option, None, Some}
use Rattle.std.specs.Float.{binary64}
use Rattle.std.specs.Float.Ieee.{fits}
use Rattle.definition.specs.Problem.{Setup, Bounds}
use Rattle.definition.specs.Machine.{Reply}
use Rattle.definition.specs.Log.{entry_words}
use Rattle.definition.specs.Record.{word_size}
use Rattle.definition.specs.History.{Call}

-- P of each of a list, and of an option's value where there is one
abbrev pub Each : {A : Type 0} → (A → Type 0) → List A → Type 0
Each P [] = Unit {0}
Each P (a ∷ l) = P a × Each P l

abbrev pub Given : {A : Type 0} → (A → Type 0) → Option A → Type 0
Given P None = Unit {0}
Given P (Some a) = P a

abbrev pub Bytes : List ℕ → Type 0
Bytes bs = Each (λ b. b < 256) bs

abbrev pub Words : List ℕ → Type 0
Words ws = Each (λ w. w < word_size) ws

abbrev pub Binary64 : Float → Type 0
Binary64 x = T (fits binary64 x)

abbrev pub BoxFloats : Bounds → Type 0
BoxFloats b = Each Binary64 b.lower × Each Binary64 b.upper

-- every float of the setup is one of binary64
pub record SetupFloats (s : Setup) : Type 0 where
  pub x0 : Each Binary64 s.x0
  pub bounds : Given BoxFloats s.bounds
  pub tol : Given Binary64 s.tol
  pub ftol : Given Binary64 s.ftol
  pub gtol : Given Binary64 s.gtol
  pub eps : Given Binary64 s.eps

-- every word of each reply's entry is below 2 ^ 64
abbrev pub ReplyWords : List Reply → Type 0
ReplyWords rs = Each (λ r. Words (entry_words r)) rs

-- what a call brings
abbrev pub Brings : Call → Type 0
Brings (Call.start s) = SetupFloats s
Brings (Call.restore bs) = Bytes bs
Brings (Call.reply r) = Words (entry_words r)
Brings (Call.take_back j) = Unit {0}
Brings (Call.question room) = Unit {0}
Brings (Call.report room) = Unit {0}
Brings Call.replies = Unit {0}
Brings (Call.entry k room) = Unit {0}
Brings (Call.save room) = Unit {0}
