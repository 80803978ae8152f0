-- The laws of the two policies' ranks.
use Rattle.std.specs.Prelude.{◌≡◌, ◌≢◌, ℕ, Bool, true, false, cond, ◌&&◌, ◌||◌, ◌==◌, nat_lt, refl}
use Rattle.std.proofs.Common.{sym, ap, ◌∙◌, true≢false}
use Rattle.std.specs.declared.cmp.Ordering.{Ordering}
use Rattle.std.specs.declared.cmp.Ordering.TheVariants.{Less, Equal, Greater}
use Rattle.std.specs.Ordering.{is_lt, is_gt, ordering_reverse, ordering_then, nat_cmp, on, then_cmp}
use Rattle.std.specs.Cmp.{IsTotalOrder, nat_cmp_total, on_total, then_total, ranked}
use Rattle.eviction.specs.declared.lru.Stamp.{Stamp}
use Rattle.eviction.specs.declared.greedy_dual_size.Worth.{Worth}
use Rattle.eviction.specs.Policies.{earlier, cheaper}

-- the order of stamps, and that of worths: by H, and then by the stamp
abbrev pub stamp_cmp : Stamp → Stamp → Ordering
stamp_cmp = on (λ (x : Stamp). x.0) nat_cmp

abbrev pub worth_cmp : Worth → Worth → Ordering
worth_cmp = then_cmp (on (λ (x : Worth). x.h) nat_cmp) (on (λ (x : Worth). x.stamp) nat_cmp)

-- s says whether the first number is less, and t whether the two are equal
less : (s t : Bool) → is_lt (cond s Less (cond t Equal Greater)) ≡ s
less true t = refl
less false true = refl
less false false = refl

-- the same of two pairs
less_in_turn : (s t u v : Bool) → is_lt (ordering_then (cond s Less (cond t Equal Greater)) (cond u Less (cond v Equal Greater))) ≡ (s || (t && u))
less_in_turn true t u v = refl
less_in_turn false true u v = less u v
less_in_turn false false u v = refl

pub stamp_order : IsTotalOrder stamp_cmp × ((x y : Stamp) → is_lt (stamp_cmp x y) ≡ earlier x y)
stamp_order = (on_total (λ (x : Stamp). x.0) nat_cmp_total, λ x y. less (nat_lt x.0 y.0) (x.0 == y.0))

pub worth_order : IsTotalOrder worth_cmp × ((x y : Worth) → is_lt (worth_cmp x y) ≡ cheaper x y)
worth_order = (
  then_total (on_total (λ (x : Worth). x.h) nat_cmp_total) (on_total (λ (x : Worth). x.stamp) nat_cmp_total),
  λ x y. less_in_turn (nat_lt x.h y.h) (x.h == y.h) (nat_lt x.stamp y.stamp) (x.stamp == y.stamp),
)

-- r and s are what an order says of two values, each way round
one_way : (r s : Ordering) → r ≡ ordering_reverse s → is_lt s ≡ false → s ≢ Equal → is_lt r ≡ true
one_way r Less e h k = absurd (true≢false h)
one_way r Equal e h k = absurd (k refl)
one_way r Greater e h k = ap is_lt e

tied : (x y : ℕ) → nat_cmp y x ≡ Equal → x ≡ y
tied x y e = sym (ranked y x Equal (sym e))

second_tied : (r s : Ordering) → ordering_then r s ≡ Equal → s ≡ Equal
second_tied Less s e = absurd (true≢false (ap is_lt e))
second_tied Equal s e = e
second_tied Greater s e = absurd (true≢false (ap is_gt e))

pub stamp_apart : (x y : Stamp) → earlier y x ≡ false → x.0 ≢ y.0 → earlier x y ≡ true
stamp_apart x y h k =
    sym (stamp_order.1 x y)
    ∙ one_way (stamp_cmp x y) (stamp_cmp y x) (stamp_order.0.antisymm x y) (stamp_order.1 y x ∙ h) (λ e. k (tied x.0 y.0 e))

pub worth_apart : (x y : Worth) → cheaper y x ≡ false → x.stamp ≢ y.stamp → cheaper x y ≡ true
worth_apart x y h k =
    sym (worth_order.1 x y)
    ∙ one_way (worth_cmp x y) (worth_cmp y x) (worth_order.0.antisymm x y) (worth_order.1 y x ∙ h) (λ e. k (tied x.stamp y.stamp (second_tied (nat_cmp y.h x.h) (nat_cmp y.stamp x.stamp) e)))
