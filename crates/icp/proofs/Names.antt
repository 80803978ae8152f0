-- Good names, tested.
use Rattle.std.proofs.Common.{◌≡◌, ℕ, zero, suc, ◌<◌, ◌≤◌, true, ◌&&◌, leb, List, [], ◌∷◌, length, get_or, Decides, refl, arith}
use Rattle.std.proofs.lemmas.Bool.{and_parts, and_from, leb-true, le-leb}
use Rattle.store.specs.Contents.{GoodName}
use Rattle.icp.specs.Names.{nonzero, nameable}

nonzero_at : (xs : List ℕ) → nonzero xs ≡ true → (i : ℕ) → i < length xs → 1 ≤ get_or xs i 0
nonzero_at [] e i h = absurd (omega arith)
nonzero_at (x ∷ xs) e zero h = leb-true 1 x (and_parts (leb 1 x) (nonzero xs) e).0
nonzero_at (x ∷ xs) e (suc i) h = nonzero_at xs (and_parts (leb 1 x) (nonzero xs) e).1 i (omega arith)

nonzero_from : (xs : List ℕ) → ((i : ℕ) → i < length xs → 1 ≤ get_or xs i 0) → nonzero xs ≡ true
nonzero_from [] h = refl
nonzero_from (x ∷ xs) h = and_from (leb 1 x) (nonzero xs) (le-leb 1 x (h 0 (omega arith))) (nonzero_from xs (λ i l. h (suc i) (omega arith)))

-- the test of a name says whether it is good
pub nameable_decides : (name : List ℕ) → Decides (nameable name) (GoodName name)
nameable_decides name =
    let n = length name in
    let sized = leb 1 n && leb n 128 in (
      (λ e.
          let p = and_parts sized (nonzero name) e in
          let q = and_parts (leb 1 n) (leb n 128) p.0 in
          record { some = leb-true 1 n q.0; short = leb-true n 128 q.1; nonzero = nonzero_at name p.1 }),
      (λ g. and_from sized (nonzero name) (and_from (leb 1 n) (leb n 128) (le-leb 1 n g.some) (le-leb n 128 g.short)) (nonzero_from name g.nonzero)),
    )
