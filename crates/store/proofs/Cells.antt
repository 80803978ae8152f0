-- Cells, one written at a time.
use Rattle.std.proofs.Common.{◌≡◌, ℕ, ◌<◌, true, ◌⊎◌, List, length, get_or, set, sym, ap, ◌∙◌, inl, inr, arith}
use Rattle.std.proofs.lemmas.List.{get_or-set_same, get_or-set_other}
use Rattle.std.proofs.lemmas.Bool.{cases_eq, false≢true}
use Rattle.store.specs.declared.cell.Cell.{Cell}
use Rattle.store.specs.declared.cell.Cell.TheVariants.{Never, Freed, Taken}
use Rattle.store.specs.Indexed.{taken}

pub never_taken : {i : ℕ} → Never ≡ Taken i → ⊥
never_taken e = let z : ◌≡◌ {A = ℕ} 0 1 = cc in absurd (omega arith)

pub freed_taken : {i : ℕ} → Freed ≡ Taken i → ⊥
freed_taken e = let z : ◌≡◌ {A = ℕ} 0 1 = cc in absurd (omega arith)

pub freed_never : Freed ≡ Never → ⊥
freed_never e = let z : ◌≡◌ {A = ℕ} 0 1 = cc in absurd (omega arith)

pub same_place : {i j : ℕ} → Taken i ≡ Taken j → i ≡ j
same_place e = cc

-- a cell with a place in it
pub is_taken : (c : Cell) (i : ℕ) → c ≡ Taken i → taken c ≡ true
is_taken c i e = ap taken e

pub not_never : (c : Cell) → taken c ≡ true → c ≡ Never → ⊥
not_never c t e = false≢true (sym (ap taken e) ∙ t)

-- a cell after another was written
module _ (cells : List Cell) (at : ℕ) (new : Cell) (within : at < length cells) where
  pub written_here : get_or (set cells at new) at Never ≡ new
  written_here = get_or-set_same cells at new Never within

  pub written_there : (p : ℕ) → (p ≡ at → ⊥) → get_or (set cells at new) p Never ≡ get_or cells p Never
  written_there p ne = get_or-set_other cells at p new Never ne

  pub written_cases : (p : ℕ) → ((p ≡ at) × (get_or (set cells at new) p Never ≡ new)) ⊎ ((p ≡ at → ⊥) × (get_or (set cells at new) p Never ≡ get_or cells p Never))
  written_cases p =
      elim (cases_eq p at) [
        | inl same ↦ inl (same, ap (λ n. get_or (set cells at new) n Never) same ∙ written_here)
        | inr ne ↦ inr (ne, written_there p ne)
      ]
