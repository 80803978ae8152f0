use Rattle.std.proofs.Common.{get_or, ap, ◌∙◌}
use Rattle.digest.specs.Md5.{word, sines, turned, step}
use Rattle.digest.proofs.rfc1321.rounds.Registers.step.Goals as goal

pub returns : goal.returns
unfolding step
returns c =
    let x = c.word.ensures ∙ ap (word c.args.x.now) c.requires.listed.0 in
    c.turn.ensures ∙ (λ j. turned c.args.self (c.requires.auxiliary j) (x j) (get_or sines c.args.i 0) (c.requires.listed.2 j))
