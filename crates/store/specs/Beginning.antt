-- When a store may begin.
use Rattle.std.specs.Prelude.{◌≡◌, ℕ, ◌≤◌, ◌≢◌}
use Rattle.store.specs.declared.refusals.StoreFault.{StoreFault}
use Rattle.store.specs.declared.refusals.StoreFault.TheVariants.{Places, Length, NoRow, NotAdded}

-- a store may have so many places: 1 to 1,024
abbrev pub Allowed : ℕ → Type 0
Allowed places = (1 ≤ places) × (places ≤ 1024)

-- why a beginning is refused, over lent rows of a length
abbrev pub Unbegun : StoreFault → ℕ → ℕ → Type 0
Unbegun Places places long = Allowed places → ⊥
Unbegun Length places long = Allowed places × (long ≢ places)
Unbegun NoRow places long = ⊥
Unbegun NotAdded places long = ⊥

-- the same for an index, over lent rows and cells
abbrev pub Unindexed : StoreFault → ℕ → ℕ → ℕ → Type 0
Unindexed Places places long cells = Allowed places → ⊥
Unindexed Length places long cells = Allowed places × ((long ≡ places) × (cells ≡ 2048) → ⊥)
Unindexed NoRow places long cells = ⊥
Unindexed NotAdded places long cells = ⊥
