use Rattle.std.proofs.Common.{◌≡◌, ◌*◌, ◌/◌, ◌++◌, length, drop, sym, ap, ◌∙◌, mul_comm, arith}
use Rattle.std.specs.List.{fold}
use Rattle.digest.specs.Md5.{initial, block, blocks, padded, appended, output, big_words}
use Rattle.digest.proofs.Blocks.{fold_blocks, blocks_rest}
use Rattle.digest.proofs.rfc1321.Md5Digest.words.Goals as goal

pub returns : goal.returns
returns c =
    let m = c.args.name.now in
    let n = length m / 64 in
    let s = c.pad.result.now in
    let t : s ≡ drop (64 * n) m ++ appended (length m) =
    c.pad.ensures ∙ (λ j. (c.as_chunks.ensures.back ∙ ap (λ k. drop k m) (mul_comm n 64)) j ++ appended (length m)) in
    let r : c.process-r.result ≡ blocks m n initial =
    c.process-r.ensures ∙ ap (fold (λ r x. block x r) initial) c.as_chunks.ensures.front ∙ fold_blocks n m initial in
    let q : c.process-r-2.result ≡ blocks (padded m) (length (padded m) / 64) initial =
    c.process-r-2.ensures
    ∙ ap (fold (λ r x. block x r) c.process-r.result) c.as_chunks-2.ensures.front
    ∙ fold_blocks (length s / 64) s c.process-r.result
    ∙ (λ j. blocks (t j) (length (t j) / 64) (r j))
    ∙ sym (blocks_rest m (appended (length m)) n initial (omega arith)) in
    c.words.ensures ∙ ap (λ r. big_words (output r)) q
