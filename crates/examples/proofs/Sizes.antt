-- The lengths of small updates.
use Rattle.std.proofs.Common.{◌≡◌, ℕ, ◌+◌, ◌*◌, cond, ltb, List, length, ap, ◌∙◌, arith}
use Rattle.filter.specs.Summaries.{differs, tally}
use Rattle.icp.specs.Contents.{changes, whole, written}
use Rattle.icp.specs.Writing.{changed, declaration}
use Rattle.icp.proofs.Changes.{length_joined, length_changed}

-- a declaration, by the number of changes
module _ (s e : ℕ) (a b : List ℕ) where
  chosen : (n : ℕ) → tally (differs a b) 64 ≡ n → declaration s e 64 64 a b ≡ cond (ltb (4 * n) 8) (changes s (e + 1) (changed a b 64)) (whole s (e + 1) b)
  chosen n t = ap (λ k. cond (ltb (4 * k) 8) (changes s (e + 1) (changed a b 64)) (whole s (e + 1) b)) t

  pub one_change : tally (differs a b) 64 ≡ 1 → length (written 64 (declaration s e 64 64 a b)) ≡ 36
  one_change t =
      let j = length_joined (changed a b 64) in
      let l : length (changed a b 64) ≡ 1 = length_changed a b 64 ∙ t in
      ap (λ c. length (written 64 c)) (chosen 1 t) ∙ omega arith

  pub two_changes : length b ≡ 8 → tally (differs a b) 64 ≡ 2 → length (written 64 (declaration s e 64 64 a b)) ≡ 40
  two_changes l t = ap (λ c. length (written 64 c)) (chosen 2 t) ∙ omega arith
