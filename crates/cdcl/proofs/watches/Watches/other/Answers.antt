use Rattle.std.proofs.Common.{◌∙◌, sym}
use Rattle.std.proofs.lemmas.Option.{none-some}
use Rattle.cdcl.proofs.Watched.{other-of}
use Rattle.cdcl.proofs.watches.Watches.other.Goals as goal

pub returns-in-Some : goal.returns-in-Some
returns-in-Some c = other-of c.args.self.now c.args.number c.args.lit.number c.in-Some.pair c.other.result (sym c.pair.ensures ∙ c.in-Some.is) c.other.ensures

pub returns-in-None : goal.returns-in-None
returns-in-None c = λ pair other e h. absurd (none-some pair (sym c.in-None.is ∙ c.pair.ensures ∙ e))
