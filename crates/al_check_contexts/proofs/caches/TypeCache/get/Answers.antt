use Rattle.std.proofs.Common.{◌<◌, ◌∙◌, None, arith, length, sym}
use Rattle.std.proofs.lemmas.List.{get_or_default}
use Rattle.al_check_contexts.proofs.Kept.{kept_means}
use Rattle.al_check_contexts.proofs.caches.TypeCache.get.Goals as goal

pub returns : goal.returns
returns c =
    let made = c.args.self.now.made.items in
    let i = c.args.i in
    let lt : i < length made = omega (arith, c.if-i-len.false, c.len.ensures) in
    kept_means c.args.self.now i c.index.result.now (c.index.ensures ∙ sym (get_or_default made i None c.index.result.now lt))
