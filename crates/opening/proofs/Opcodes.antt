-- Numbers that no opcode has.
use Rattle.std.proofs.Common.{◌≡◌, ℕ, Bool, true, false, ◌||◌, ◌&&◌, eqb, leb, refl, sym, arith}
use Rattle.std.proofs.lemmas.Bool.{ne_eqb, leb-true}
use Rattle.icp.specs.declared.opcode.Opcode.{Opcode}
use Rattle.icp.specs.declared.opcode.Opcode.TheVariants as opcode
use Rattle.icp.specs.Opcodes.{opcode_number}
use Rattle.opening.specs.declared.opener.Call.{Call}
use Rattle.opening.specs.declared.opener.Call.TheVariants.{Update, Answer, Query, Reply}
use Rattle.opening.specs.Reading.{opens}

module _ (n : ℕ) (unknown : (o : Opcode) → opcode_number o ≡ n → ⊥) where
  not_of : (o : Opcode) → eqb n (opcode_number o) ≡ false
  not_of o = ne_eqb n (opcode_number o) (λ e. unknown o (sym e))

  -- no call opens them
  pub opens_none : (k : Call) → opens k n ≡ false
  opens_none Update = λ j. not_of opcode.Changes j || not_of opcode.Whole j
  opens_none Answer = λ j. not_of opcode.Acknowledgement j || not_of opcode.CallForWhole j
  opens_none Query = not_of opcode.Query
  opens_none Reply = λ j. not_of opcode.Hit j || not_of opcode.Miss j

  -- they are not those of a query or a reply
  pub within_none : false ≡ (leb 1 n && leb n 3)
  within_none = by (leb 1 n) (leb n 3) refl refl
    where
      by : (x y : Bool) → leb 1 n ≡ x → leb n 3 ≡ y → false ≡ (x && y)
      by false y e f = refl
      by true false e f = refl
      by true true e f =
          let query : n ≡ 1 → ⊥ = λ z. unknown opcode.Query (sym z) in
          let hit : n ≡ 2 → ⊥ = λ z. unknown opcode.Hit (sym z) in
          let miss : n ≡ 3 → ⊥ = λ z. unknown opcode.Miss (sym z) in
          absurd (omega (arith, leb-true 1 n e, leb-true n 3 f))
