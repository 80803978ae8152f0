use Rattle.std.proofs.Common.{◌≡◌, ◌+◌, ◌/◌, ◌%◌, ◌<◌, ◌≤◌, [], ◌∷◌, ◌++◌, length, get_or, drop, string_bytes, sym, ap, ◌∙◌, subst, arith}
use Rattle.std.proofs.lemmas.List.{at_drop_more, drop_all, append-nil}
use Rattle.hexadecimal.specs.Digits.{digit, hexadecimal}
use Rattle.hexadecimal.proofs.Ascii.{digit_ascii, two_more}
use Rattle.hexadecimal.proofs.hex.Goals as goal

pub loop-octet-preserved : goal.loop-octet-preserved
loop-octet-preserved c =
    let octets = c.args.octets.now in
    let i = c.loop-octet.octet-index in
    let x = get_or octets i 0 in
    let narrow : x < 256 = omega (arith, c.type_inv.octets i) in
    let text = string_bytes c.loop-octet.text in
    let rest = hexadecimal (drop (i + 1) octets) in
    let high = c.digit_of.result in
    let low = c.digit_of-in-loop-octet.result in
    let high_is : high ≡ digit (x / 16) = c.digit_of.ensures in
    let low-is : low ≡ digit (x % 16) = c.digit_of-in-loop-octet.ensures in
    let high-ascii : high < 128 = subst (λ n. n < 128) (sym high_is) (digit_ascii (x / 16) (omega arith)) in
    let low-ascii : low < 128 = subst (λ n. n < 128) (sym low-is) (digit_ascii (x % 16) (omega arith)) in
    let one = c.in_ok-push.ensures in
    let two = c.in_ok-push-2.ensures in
    let first : string_bytes c.push.new.self ≡ text ++ high ∷ [] = one.bytes ∙ ap (λ e. text ++ e) (one.ascii high-ascii) in
    let second : string_bytes c.push-in-loop-octet.new.self ≡ (text ++ high ∷ []) ++ low ∷ [] =
    two.bytes ∙ ap (λ e. string_bytes c.push.new.self ++ e) (two.ascii low-ascii) ∙ ap (λ t. t ++ low ∷ []) first in
    ap (λ t. t ++ rest) second
    ∙ two_more text rest high low
    ∙ (λ j. text ++ (high_is j ∷ low-is j ∷ rest))
    ∙ ap (λ t. text ++ t) (sym (at_drop_more hexadecimal octets i 0 c.loop-octet-test.true))
    ∙ c.loop-octet.invariant

pub returns : goal.returns
returns c =
    let octets = c.args.octets.now in
    let text = string_bytes c.loop-octet.text in
    let over : length octets ≤ c.loop-octet.octet-index = c.loop-octet-test.false in
    sym (append-nil text) ∙ ap (λ l. text ++ hexadecimal l) (sym (drop_all c.loop-octet.octet-index octets over)) ∙ c.loop-octet.invariant
