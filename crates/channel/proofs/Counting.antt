-- Every n-th call is due.
use Rattle.std.proofs.Common.{◌≡◌, ℕ, zero, suc, ◌+◌, ◌%◌, ◌<◌, ◌≤◌, false, cond, eqb, ltb, ◌⊎◌, Decides, sym, refl, ap, ◌∙◌, ⊎_elim, true≢false, mod-lt, mod-eq_of_lt, add-one, arith, rules}
use native.Mathlib.Nat.{mod_self, suc-mod, zero-mod}
use Rattle.std.proofs.lemmas.Bool.Decides.{nat_tests}
use Rattle.std.proofs.lemmas.Bool.{cases_eq}
use Rattle.channel.specs.Cycles.{counted, due, EveryNthIsDue}

period_is : (n k : ℕ) → (counted n k).period ≡ n
period_is n zero = refl
period_is n (suc k) = period_is n k

split : (n p : ℕ) → p < n → (suc p < n) ⊎ (suc p ≡ n)
split n p h = search (rules, cases_eq (suc p) n)

-- one more call, at the phase p of a period n
turned : (n p : ℕ) → p < n → cond (ltb (p + 1) n) (p + 1) 0 ≡ suc p % n
turned n p h =
    ⊎_elim
    (λ lt. let m = mod-eq_of_lt lt in grind (arith, nat_tests))
    (λ e. let m : suc p % n ≡ 0 = ap (λ x. suc p % x) (sym e) ∙ mod_self (suc p) in grind (arith, nat_tests))
    (split n p h)

phase_is : (n k : ℕ) → 1 ≤ n → (counted n k).phase ≡ k % n
phase_is n zero h = sym (zero-mod n)
phase_is n (suc k) h =
    let e = phase_is n k h in
    ap (λ p. cond (ltb (p + 1) (counted n k).period) (p + 1) 0) e ∙ ap (λ q. cond (ltb (k % n + 1) q) (k % n + 1) 0) (period_is n k)
    ∙ turned n (k % n) (mod-lt k h) ∙ sym (suc-mod k n)

-- the phase p comes to an end where the next number of calls is a multiple of n
ends : (n p : ℕ) → p < n → Decides (eqb (p + 1) n) (suc p % n ≡ 0)
ends n p h =
    ⊎_elim
    (λ lt. let m = mod-eq_of_lt lt in (λ t. grind (arith, nat_tests), λ z. absurd (omega arith)))
    (λ e. let m : suc p % n ≡ 0 = ap (λ x. suc p % x) (sym e) ∙ mod_self (suc p) in (λ t. m, λ z. grind (arith, nat_tests)))
    (split n p h)

due_is : (n k : ℕ) → 1 ≤ n → due (counted n k) ≡ eqb (k % n + 1) n
due_is n k h = ap (λ p. eqb (p + 1) (counted n k).period) (phase_is n k h) ∙ ap (eqb (k % n + 1)) (period_is n k)

never : (k : ℕ) → due (counted 0 k) ≡ false
never k = ap (eqb ((counted 0 k).phase + 1)) (period_is 0 k) ∙ grind (arith, nat_tests)

due_decides : (n k : ℕ) → 1 ≤ n → Decides (due (counted n k)) ((1 ≤ n) × ((k + 1) % n ≡ 0))
due_decides n k h =
    let same : (k + 1) % n ≡ suc (k % n) % n = ap (λ x. x % n) (add-one k) ∙ suc-mod k n in
    let by = ends n (k % n) (mod-lt k h) in
    (λ t. (h, same ∙ by.0 (sym (due_is n k h) ∙ t)), λ z. due_is n k h ∙ by.1 (sym same ∙ z.1))

decides : (n k : ℕ) → Decides (due (counted n k)) ((1 ≤ n) × ((k + 1) % n ≡ 0))
decides zero k = (λ t. absurd (true≢false (sym t ∙ never k)), λ z. absurd (let h = z.0 in omega arith))
decides (suc n) k = due_decides (suc n) k (omega arith)

pub every_nth : EveryNthIsDue
every_nth n k = (phase_is n k, decides n k)
