-- What slots in memory stand for.
use Rattle.std.specs.Prelude.{◌≡◌, ℕ, List, map, length, take, replicate, vec_items, vec_len}
use Rattle.channel.specs.Letters.{Letter, letter, room}
use Rattle.channel.specs.declared.slot.Slot.{Slot}

-- the number of octets of a slot
abbrev pub space : Slot → ℕ
space slot = vec_len slot.octets

-- the letter in a slot
abbrev pub letter_in : Slot → Letter
letter_in slot = letter slot.to (take slot.len (vec_items slot.octets))

-- the letters in so many slots from the front
abbrev pub letters : ℕ → List Slot → List Letter
letters count slots = map letter_in (take count slots)

-- 32 slots, each as large as the largest message
abbrev pub Measured : ℕ → List Slot → Type 0
Measured m slots = (length slots ≡ 32) × (map space slots ≡ replicate (length slots) (room m))
