use Rattle.std.proofs.Common.{◌≡◌, true, false, drop, None, rules}
use Rattle.std.proofs.lemmas.Result.{err_from_is_err_and}
use Rattle.icp.specs.declared.refusals.MessageFault.TheVariants.{Reply}
use Rattle.icp.specs.Faults.{refuse}
use Rattle.icp.specs.Types.{reply_as}
use Rattle.opening.specs.Reading.{all_but_last, other_query, request_in, reply_in}
use Rattle.opening.proofs.opener.Opener.open_reply.Goals as goal

pub returns-in_err-header : goal.returns-in_err-header
returns-in_err-header c =
    let p = err_from_is_err_and c.from_residual.result c.from_residual.ensures.1 in
    let xs = c.args.message.now in
    rw (p.1, p.2) (c.in_err-header.ensures (refuse (other_query (request_in xs) (all_but_last (drop 20 xs)) c.args.request c.args.name.now) (Reply c.args.self.now.number) None))

pub returns-then-header-request : goal.returns-then-header-request
returns-then-header-request c =
    let xs = c.args.message.now in
    let other : other_query c.in_ok-header.header.request c.in_ok-header.named.now c.args.request c.args.name.now ≡ true = search rules in
    let read : other_query (request_in xs) (all_but_last (drop 20 xs)) c.args.request c.args.name.now ≡ true = search rules in
    search rules

pub returns : goal.returns
returns c =
    let xs = c.args.message.now in
    let same : other_query c.in_ok-header.header.request c.in_ok-header.named.now c.args.request c.args.name.now ≡ false = search rules in
    let read : other_query (request_in xs) (all_but_last (drop 20 xs)) c.args.request c.args.name.now ≡ false = search rules in
    let says : reply_as c.if-eq.kind c.in_ok-header.header.sender c.in_ok-header.header.request c.in_ok-header.named.now ≡ reply_in xs = search rules in
    (search rules, says)
