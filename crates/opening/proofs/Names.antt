-- Texts in messages.
use Rattle.std.proofs.Common.{◌≡◌, ℕ, ◌-◌, not, ◌||◌, eqb, List, [], ◌∷◌, ◌++◌, length, get_or, take, sym, refl, ap, ◌∙◌, arith}
use Rattle.std.proofs.lemmas.Bool.{ne_eqb}
use Rattle.std.proofs.lemmas.List.{length_push, get_or_push, take_at}
use Rattle.icp.specs.Names.{nameable}
use Rattle.opening.specs.Reading.{wrong_text, all_but_last}

module _ (text name : List ℕ) (end : ℕ) (parts : text ≡ name ++ end ∷ []) where
  last : length name ≡ length text - 1
  last = let l = length_push name end in omega (arith, ap length parts)

  pub name_of : all_but_last text ≡ name
  name_of = (λ j. take (sym last j) (parts j)) ∙ take_at name (end ∷ []) (length name) refl

  -- a text is wrong where its end is no zero octet, or its name is bad
  pub wrong_by : wrong_text text ≡ (not (eqb end 0) || not (nameable name))
  wrong_by =
      let some = ne_eqb (length text) 0 (λ e. let l = length_push name end in omega (arith, ap length parts)) in
      let ends : get_or text (length text - 1) 0 ≡ end = ap (λ t. get_or t (length text - 1) 0) parts ∙ get_or_push name end 0 (length text - 1) last in
      λ j. (some j || not (eqb (ends j) 0)) || not (nameable (name_of j))
