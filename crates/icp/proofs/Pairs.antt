-- The pairs of two lists with their numbers, as a loop goes over them.
use Rattle.std.proofs.Common.{◌≡◌, ℕ, ◌<◌, Option, Some, Bor, Iter, List, length, get_or, ap, ◌∙◌, zero-add, arith}
use Rattle.std.proofs.iter.Yields.{fronts}
use Rattle.std.proofs.lemmas.Iterator.{YieldsList-from_slice, YieldsList-from_zip, zips}
use Rattle.std.proofs.lemmas.Iterator.Consumers.{YieldsList-from_enumerate, YieldsList-turn}
use Rattle.std.proofs.lemmas.List.{get_or_default}
use Rattle.std.proofs.lemmas.List.FromFn.{length-enumerate_from, get_or-enumerate_from}
use Rattle.std.proofs.lemmas.Slice.Zip.{length-zip, get_or-zip}
use Rattle.std.specs.Iterator.{Yields}
use Rattle.std.specs.Iterator.Adapters.{zip_first, zip_second, enumerate_source, enumerate_count, enumerate_steps}
use Rattle.std.specs.List.{zip}
use Rattle.std.specs.Slice.Iter.{iter_rest}
use Rattle.std.specs.declared.iter.Enumerate.{Enumerate}
use Rattle.std.specs.declared.iter.Zip.{Zip}

-- the next pair is that of the number of pairs before it
pub record Turn (a b : List ℕ) (n i x y : ℕ) : Type 0 where
  pub number : i ≡ n
  pub within : n < length a
  pub first : x ≡ get_or a n 0
  pub second : y ≡ get_or b n 0

pub numbered_turn : (a b : List ℕ) (xs : List (ℕ × (Bor ℕ × Bor ℕ))) (s t u : Enumerate (Zip (Iter ℕ) (Iter ℕ))) (r : Option (ℕ × (Bor ℕ × Bor ℕ))) (p : ℕ × (Bor ℕ × Bor ℕ))
    → length a ≡ length b → iter_rest (zip_first (enumerate_source s)) ≡ a → iter_rest (zip_second (enumerate_source s)) ≡ b → enumerate_count s ≡ 0
    → Yields (enumerate_steps (zips fronts fronts)) s xs t → r ≡ Some p → enumerate_steps (zips fronts fronts) t r u
    → Turn a b (length xs) p.0 p.1.0.now p.1.1.now
numbered_turn a b xs s t u r p same first second none yielded is step =
    let road = YieldsList-from_enumerate (YieldsList-from_zip (YieldsList-from_slice a first) (YieldsList-from_slice b second)) none in
    let next = YieldsList-turn road xs t yielded r u p is step in
    let n = length xs in
    let d : ℕ × (ℕ × ℕ) = (p.0, (p.1.0.now, p.1.1.now)) in
    let within : n < length a = let l = length-enumerate_from 0 (zip a b) in let z = length-zip a b in omega (arith, next.0) in
    let value = next.1 ∙ get_or-enumerate_from 0 (zip a b) n d (let l = length-enumerate_from 0 (zip a b) in omega (arith, next.0)) in
    let pair = get_or-zip a b n d.1 within (omega arith) in
    record {
      number = ap (λ q. q.0) value ∙ zero-add n;
      within = within;
      first = ap (λ q. q.1.0) value ∙ ap (λ q. q.0) pair ∙ get_or_default a n d.1.0 0 within;
      second = ap (λ q. q.1.1) value ∙ ap (λ q. q.1) pair ∙ get_or_default b n d.1.1 0 (omega arith);
    }
