use Rattle.std.proofs.Common.{◌+◌}
use Rattle.al_cli_scripts.proofs.Answering.{rest_is}
use Rattle.al_cli_scripts.proofs.Prefixes.{put_pending, put_wrong, put_whole}
use Rattle.al_cli_scripts.proofs.commands.next_put.Goals as goal

pub returns-then-body-length : goal.returns-then-body-length
returns-then-body-length c =
    let l = c.requires.line in
    put_pending c.args.bytes.now c.args.end c.args.path.now c.args.length l.0 l.1 l.2 l.3 _ (rest_is c.args.bytes.now (c.args.end + 1)) c.if-body-length.true

pub returns-then-body-length-ne10 : goal.returns-then-body-length-ne10
returns-then-body-length-ne10 c =
    let l = c.requires.line in
    put_wrong c.args.bytes.now c.args.end c.args.path.now c.args.length l.0 l.1 l.2 l.3 _ (rest_is c.args.bytes.now (c.args.end + 1)) c.if-body-length.false c.if-body-length-ne10.true

pub returns-else-body-length-ne10 : goal.returns-else-body-length-ne10
returns-else-body-length-ne10 c =
    let l = c.requires.line in
    put_whole c.args.bytes.now c.args.end c.args.path.now c.args.length l.0 l.1 l.2 l.3 _ (rest_is c.args.bytes.now (c.args.end + 1)) c.if-body-length.false c.if-body-length-ne10.false
