use Rattle.lexing.proofs.PrefixFits.{letter_is}
use Rattle.lexing.proofs.prefixes.letter_prefix.Goals as goal

pub returns : goal.returns
returns g c = letter_is g.L.Lexicon.lexicon c.args.text.now c.run_len-len.result _ c.run_len-len.ensures.is (rw c.split_at.ensures.front at c.run.ensures)
