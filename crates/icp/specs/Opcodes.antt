-- The kinds of messages by their numbers.
use Rattle.std.specs.Prelude.{◌≡◌, ℕ, Result, MatchResult}
use Rattle.icp.specs.declared.opcode.Opcode.{Opcode}
use Rattle.icp.specs.declared.opcode.Opcode.TheVariants.{Query, Hit, Miss, Changes, Whole, Acknowledgement, CallForWhole}
use Rattle.icp.specs.declared.opcode.UnknownOpcode.{UnknownOpcode}

-- the number of an opcode
abbrev pub opcode_number : Opcode → ℕ
opcode_number Query = 1
opcode_number Hit = 2
opcode_number Miss = 3
opcode_number Changes = 20
opcode_number Whole = 30
opcode_number Acknowledgement = 31
opcode_number CallForWhole = 32

-- the opcode of a number, or an error with a number that no opcode has
abbrev pub Decodes : ℕ → Result Opcode UnknownOpcode → Type 0
Decodes n r = MatchResult r (λ o. opcode_number o ≡ n) (λ e. (e.0 ≡ n) × ((o : Opcode) → opcode_number o ≡ n → ⊥))
