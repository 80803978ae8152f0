-- The numbers of the layers, and a fault as a line of text.
use Rattle.std.specs.Prelude.{ℕ, List, ◌∷◌, ◌++◌, decimal}
use Rattle.fault.specs.declared.Fault.{Fault}
use Rattle.fault.specs.declared.Layer.{Layer}
use Rattle.fault.specs.declared.Layer.TheVariants.{House, Store, Message, Update, Channel, Replay}

-- layers are numbered from 1
abbrev pub layer_number : Layer → ℕ
layer_number House = 1
layer_number Store = 2
layer_number Message = 3
layer_number Update = 4
layer_number Channel = 5
layer_number Replay = 6

-- two numbers' texts with a space between
infixr 60 ◌then◌
abbrev pub ◌then◌ : List ℕ → List ℕ → List ℕ
a then b = a ++ (32 ∷ b)

-- layer, number, house and version in decimal, one space between
abbrev pub line : Fault → List ℕ
line f = decimal (layer_number f.layer) then decimal f.number then decimal f.house then decimal f.version
