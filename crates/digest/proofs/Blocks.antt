-- The blocks of a message, cut in two, and of a message that goes on.
use Rattle.std.proofs.Common.{◌≡◌, ℕ, zero, suc, ◌+◌, ◌*◌, ◌/◌, ◌≤◌, List, ◌++◌, length, take, drop, sym, refl, ap, ◌∙◌, add-zero, add-suc, mul-add, arith, length-append, length-drop}
use Rattle.std.proofs.lemmas.List.{drop-drop, drop-append-le, take-append-le}
use Rattle.std.specs.List.{fold}
use Rattle.std.specs.Simd.{first_chunks}
use Rattle.digest.specs.declared.rfc1321.rounds.Registers.{Registers}
use Rattle.digest.specs.Md5.{block, blocks}

-- block j of what is left after i blocks
at_drop : (p : List ℕ) (i j : ℕ) → take 64 (drop (64 * (i + j)) p) ≡ take 64 (drop (64 * j) (drop (64 * i) p))
at_drop p i j = rw (drop-drop, mul-add)

blocks_add : (p : List ℕ) (i j : ℕ) (r : Registers) → blocks p (i + j) r ≡ blocks (drop (64 * i) p) j (blocks p i r)
blocks_add p i zero r = ap (λ n. blocks p n r) (add-zero i)
blocks_add p i (suc j) r =
    ap (λ n. blocks p n r) (add-suc i j)
    ∙ ap (λ b. block b (blocks p (i + j) r)) (at_drop p i j)
    ∙ ap (block (take 64 (drop (64 * j) (drop (64 * i) p)))) (blocks_add p i j r)

-- a whole block of the front
front : (m t : List ℕ) (i : ℕ) → 64 * suc i ≤ length m → take 64 (drop (64 * i) (m ++ t)) ≡ take 64 (drop (64 * i) m)
front m t i h =
    let k : 64 * i ≤ length m = omega arith in
    let l : 64 ≤ length (drop (64 * i) m) = simp length-drop (omega arith) in
    rw (drop-append-le, take-append-le)

blocks_front : (m t : List ℕ) (i : ℕ) (r : Registers) → 64 * i ≤ length m → blocks (m ++ t) i r ≡ blocks m i r
blocks_front m t zero r h = refl
blocks_front m t (suc i) r h =
    ap (λ b. block b (blocks (m ++ t) i r)) (front m t i h)
    ∙ ap (block (take 64 (drop (64 * i) m))) (blocks_front m t i r (omega arith))

-- the blocks of m and then t, by way of the first n blocks of m
pub blocks_rest : (m t : List ℕ) (n : ℕ) (r : Registers) → 64 * n ≤ length m
    → blocks (m ++ t) (length (m ++ t) / 64) r ≡ blocks (drop (64 * n) m ++ t) (length (drop (64 * n) m ++ t) / 64) (blocks m n r)
blocks_rest m t n r h =
    let a = length-append m t in
    let b = length-append (drop (64 * n) m) t in
    let d = length-drop (64 * n) m in
    let j = length (drop (64 * n) m ++ t) / 64 in
    let k : length (m ++ t) / 64 ≡ n + j = omega arith in
    ap (λ i. blocks (m ++ t) i r) k
    ∙ blocks_add (m ++ t) n j r
    ∙ ap (blocks (drop (64 * n) (m ++ t)) j) (blocks_front m t n r h)
    ∙ ap (λ p. blocks p j (blocks m n r)) (drop-append-le (64 * n) m t h)

-- the first n blocks of p, one after another
pub fold_blocks : (n : ℕ) (p : List ℕ) (r : Registers) → fold (λ r x. block x r) r (first_chunks 64 n p) ≡ blocks p n r
fold_blocks zero p r = refl
fold_blocks (suc n) p r =
    let e : 1 + n ≡ suc n = omega arith in
    fold_blocks n (drop 64 p) (block (take 64 p) r) ∙ sym (blocks_add p 1 n r) ∙ ap (λ k. blocks p k r) e
