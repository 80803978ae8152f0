-- An order that is that of a test, as a policy has it: what holds of heaps by the one holds by the other.
use Rattle.std.proofs.Common.{◌≡◌, Bool, List, get_or, Ordering, sym, ◌∙◌}
use Rattle.std.specs.Ordering.{is_lt}
use Rattle.eviction.specs.declared.heap.Entry.{Entry}
use Rattle.eviction.specs.Heaps.{below, Heaped, Least, Keeps, Leads}

module _ {K : Type 0} (R : K → K → Ordering) (before : K → K → Bool) (law : (x y : K) → is_lt (R x y) ≡ before x y) where
  into : (xs : List (Entry K)) → Heaped before xs → Heaped (below R) xs
  into xs h = λ p k d lo a b f. law (get_or xs k d).rank (get_or xs p d).rank ∙ h p k d lo a b f

  pub kept : (xs ys : List (Entry K)) → Keeps R xs ys → Heaped before xs → Heaped before ys
  kept xs ys keeps h = λ p k d lo a b f. sym (law (get_or ys k d).rank (get_or ys p d).rank) ∙ keeps (into xs h) p k d lo a b f

  pub least : (x : Entry K) (xs : List (Entry K)) → Leads R x xs → Heaped before xs → Least before x xs
  least x xs leads h = λ i d lt. sym (law (get_or xs i d).rank x.rank) ∙ leads (into xs h) i d lt
