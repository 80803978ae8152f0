use Rattle.std.proofs.Common.{◌≡◌, ◌++◌, drop, string_bytes}
use Rattle.hexadecimal.specs.Digits.{hexadecimal}
use Rattle.hexadecimal.proofs.hex.Given as goal

abbrev pub invariant-loop-octet : goal.invariant-loop-octet
invariant-loop-octet l = string_bytes l.text ++ hexadecimal (drop l.octet-index l.octets) ≡ hexadecimal l.octets
