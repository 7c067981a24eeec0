use Rattle.std.proofs.Common.{subst}
use Rattle.lexing.specs.Prefixes.{Fits}
use Rattle.lexing.proofs.PrefixFits.{prefix_fits}
use Rattle.lexing.proofs.prefixes.read_prefix.Goals as goal

pub returns-clause-fits : goal.returns-clause-fits
returns-clause-fits g c =
    let text = c.args.text.now in
    subst (Fits text) c.any_prefix.ensures (prefix_fits g.L.Lexicon.lexicon text g.met.L.Lexicon.marks_have_bytes c.requires)
