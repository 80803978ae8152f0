use Rattle.std.proofs.Common.{◌≡◌, ◌-◌, ◌*◌, ◌%◌, ◌^◌, ◌∷◌, ◌++◌, length, take, drop, set, replicate, ap, ◌∙◌, mul_comm, arith}
use borrow.Rule.Slice.PartMut.{post_of}
use Rattle.digest.specs.Md5.{zeros, octets}
use Rattle.digest.proofs.Padding.{octets_8, written}
use Rattle.digest.proofs.rfc1321.pad.Goals as goal

pub returns : goal.returns
returns c =
    let r = c.args.rest.now in
    let n = c.args.len in
    let e = c.padded_len-end.result in
    let o = c.to_le_bytes.result in
    let u = set (c.copy_from_slice.new.self ++ post_of 0 (length r) c.args.buffer.now) (length r) 128 in
    let w = post_of (e - 8) (e - (e - 8)) u in
    let eight : length o ≡ 8 = ap length c.to_le_bytes.ensures in
    let bits : o ≡ octets 8 (8 * n % 2 ^ 64) =
    c.to_le_bytes.ensures ∙ octets_8 (n * 8 % 2 ^ 64) ∙ ap (λ b. octets 8 (b % 2 ^ 64)) (mul_comm n 8) in
    (λ j. take e (take (e - 8) (set (c.copy_from_slice.ensures.after j ++ drop (length r) (c.requires.blank j)) (length r) 128) ++ (c.copy_from_slice-2.ensures.after j ++ w)))
    ∙ written r o (zeros n) e eight (omega arith) (omega arith) w
    ∙ ap (λ b. r ++ (128 ∷ (replicate (zeros n) 0 ++ b))) bits
