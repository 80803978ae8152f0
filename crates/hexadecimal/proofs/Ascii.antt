-- Digits are ASCII, and text that grows by two of them.
use Rattle.std.proofs.Common.{◌≡◌, ℕ, ◌<◌, List, [], ◌∷◌, ◌++◌, ◌∙◌, append_assoc, arith}
use Rattle.std.proofs.lemmas.Bool.Decides.{nat_tests}
use Rattle.hexadecimal.specs.Digits.{digit}

pub digit_ascii : (n : ℕ) → n < 16 → digit n < 128
digit_ascii n h = grind (arith, nat_tests)

pub two_more : (text more : List ℕ) (d e : ℕ) → ((text ++ d ∷ []) ++ e ∷ []) ++ more ≡ text ++ (d ∷ e ∷ more)
two_more text more d e = append_assoc (text ++ d ∷ []) (e ∷ []) more ∙ append_assoc text (d ∷ []) (e ∷ more)
