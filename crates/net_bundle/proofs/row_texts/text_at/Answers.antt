use Rattle.std.proofs.Common.{sym, subst}
use Rattle.net_bundle.specs.SharedRows.{TextOf, TextOfAll}
use Rattle.net_bundle.proofs.row_texts.text_at.Goals as goal

pub returns-in-Some : goal.returns-in-Some
returns-in-Some g c = subst (λ o. TextOfAll o (g.N.WritableNet.net c.args.net.now).switches) c.in-Some.is c.requires.shared c.args.index

pub returns : goal.returns
returns g c s e = subst (TextOf c.in_ok-text.text) (sym (c.rows-rows.ensures s e)) c.in_ok-text.ensures
