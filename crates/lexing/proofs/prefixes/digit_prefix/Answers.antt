use Rattle.std.proofs.Common.{None, Some, sym, ap, ◌∙◌, take}
use Rattle.cocoon_num.specs.Tokens as tokens
use Rattle.lexing.specs.Numbers.{kind_of_number}
use Rattle.lexing.proofs.PrefixFits.{digit_is}
use Rattle.lexing.proofs.prefixes.digit_prefix.Goals as goal

pub returns-in-Some : goal.returns-in-Some
returns-in-Some g c =
    digit_is g.L.Lexicon.lexicon c.args.text.now c.split_at.result.0.now c.run_len-len.result c.widest.result (Some (kind_of_number c.in-Some.number))
    c.split_at.ensures.front c.run_len-len.ensures.is c.widest.ensures.is c.in-Some.ensures
    ∙ ap (λ kind. tokens.piece kind c.run_len-len.result) (sym (c.number.ensures (take c.run_len-len.result c.args.text.now)))

pub returns-in-None : goal.returns-in-None
returns-in-None g c =
    digit_is g.L.Lexicon.lexicon c.args.text.now c.split_at.result.0.now c.run_len-len.result c.widest.result None
    c.split_at.ensures.front c.run_len-len.ensures.is c.widest.ensures.is c.in-None.ensures
