use Rattle.std.proofs.Common.{sym, subst}
use Rattle.net_bundle.specs.SharedRows.{TextOf}
use Rattle.net_bundle.proofs.row_texts.shared_text.Goals as goal

pub returns : goal.returns
returns g c i s e = subst (TextOf c.in_ok-text.text) (sym (c.in-Some.ensures i s e)) c.in_ok-text.ensures
