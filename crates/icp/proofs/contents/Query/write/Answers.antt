use Rattle.std.proofs.Common.{◌≡◌, ◌+◌, [], length, ap, ◌∙◌, arith}
use Rattle.std.proofs.lemmas.Result.{MatchResult-weaker}
use Rattle.icp.specs.Writing.{text_refusal}
use Rattle.icp.proofs.Messages.{query_written}
use Rattle.icp.proofs.contents.Query.write.Goals as goal

pub returns : goal.returns
returns c =
    let q = c.args.self.now in
    let xs = c.args.out.now in
    let four : length c.to_be_bytes.result ≡ 4 = ap length c.to_be_bytes.ensures in
    let at : 24 ≡ 20 + length c.to_be_bytes.result = omega arith in
    let same = ap (λ k. text_refusal q.sender k q.name.now (length xs)) at in
    MatchResult-weaker c.write_named.result c.write_named.ensures
    (λ n w. (same ∙ w.0, (λ m. query_written m n q.sender q.request 1 [] xs c.write_named.new.out q.name.now c.to_be_bytes.result c.to_be_bytes.ensures w.1 w.2)))
    (λ f w. (same ∙ w.0, w.1))
