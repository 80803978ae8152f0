-- The array that holds the end of a padded message.
use Rattle.std.proofs.Common.{◌≡◌, ℕ, suc, ◌+◌, ◌-◌, ◌/◌, ◌%◌, ◌≤◌, List, [], ◌∷◌, ◌++◌, length, take, drop, set, replicate, sym, refl, ap, ◌∙◌, append_assoc, arith, length-append}
use native.Mathlib.Nat.{div-div-eq-div-mul}
use lib.ListN.{length-replicate}
use lib.Seq.{take-append-add}
use Rattle.std.proofs.lemmas.List.{drop-replicate, take-replicate, set_at, take_at}
use Rattle.digest.specs.Md5.{octets}

-- the octets of a number of 64 bits, as the code has them
pub octets_8 : (x : ℕ)
    → (x % 256) ∷ (x / 256 % 256) ∷ (x / 65536 % 256) ∷ (x / 16777216 % 256) ∷ (x / 4294967296 % 256) ∷ (x / 1099511627776 % 256) ∷ (x / 281474976710656 % 256) ∷ (x / 72057594037927936 % 256) ∷ [] ≡ octets 8 x
octets_8 x = sym (simp div-div-eq-div-mul)

-- the array after its three writes: the octets r, 128, and o in the last eight places below e
module _ (r o : List ℕ) (z e : ℕ) (long : length o ≡ 8) (is : e ≡ length r + 9 + z) (fits : e ≤ 128) where
  marked : set (r ++ drop (length r) (replicate 128 0)) (length r) 128 ≡ r ++ 128 ∷ replicate (127 - length r) 0
  marked =
      let k : 128 - length r ≡ suc (127 - length r) = omega arith in
      ap (λ ys. set (r ++ ys) (length r) 128) (drop-replicate (length r) 128 0 ∙ ap (λ n. replicate n 0) k)
      ∙ set_at r 0 (replicate (127 - length r) 0) 128 (length r) refl

  front : take (e - 8) (r ++ 128 ∷ replicate (127 - length r) 0) ≡ r ++ 128 ∷ replicate z 0
  front =
      let k : e - 8 ≡ length r + suc z = omega arith in
      ap (λ n. take n (r ++ 128 ∷ replicate (127 - length r) 0)) k
      ∙ take-append-add r (128 ∷ replicate (127 - length r) 0) (suc z)
      ∙ ap (λ ys. r ++ 128 ∷ ys) (take-replicate z (127 - length r) 0 (omega arith))

  pub written : (w : List ℕ) → take e (take (e - 8) (set (r ++ drop (length r) (replicate 128 0)) (length r) 128) ++ (o ++ w)) ≡ r ++ (128 ∷ (replicate z 0 ++ o))
  written w =
      let k : length ((r ++ 128 ∷ replicate z 0) ++ o) ≡ e = simp (length-append, length-replicate) (omega arith) in
      ap (λ f. take e (f ++ (o ++ w))) (ap (take (e - 8)) marked ∙ front)
      ∙ ap (take e) (sym (append_assoc (r ++ 128 ∷ replicate z 0) o w))
      ∙ take_at ((r ++ 128 ∷ replicate z 0) ++ o) w e k
      ∙ append_assoc r (128 ∷ replicate z 0) o
