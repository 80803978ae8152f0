-- The numbers of a store's refusals.
use Rattle.std.specs.Prelude.{ℕ}
use Rattle.fault.specs.declared.Fault.{Fault}
use Rattle.fault.specs.declared.Layer.TheVariants.{Store}
use Rattle.store.specs.declared.refusals.StoreFault.{StoreFault}
use Rattle.store.specs.declared.refusals.StoreFault.TheVariants.{Places, Length, NoRow, NotAdded}

abbrev number : StoreFault → ℕ
number Places = 1
number Length = 3
number NoRow = 7
number NotAdded = 11

-- what each refusal carries: no house and no version is concerned
abbrev pub store_fault : StoreFault → Fault
store_fault f = record { number = number f; layer = Store; house = 0; version = 0 }
