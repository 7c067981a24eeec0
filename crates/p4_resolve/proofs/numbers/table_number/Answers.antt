use Rattle.std.proofs.Common.{◌≡◌, Some, subst, sym}
use Rattle.cocoon_num.specs.Tokens.{dec_digit, digits_after}
use Rattle.p4_texts.specs.Meant.{number_in}
use Rattle.p4_resolve.proofs.NumberFacts.{digits_of}
use Rattle.p4_resolve.proofs.numbers.table_number.Goals as goal

pub returns : goal.returns
returns c = λ letter h.
    c.number.ensures (number_in c.args.name.now) (subst (λ ds. digits_after 10 dec_digit 0 ds ≡ Some (number_in c.args.name.now)) (sym c.tail.ensures) (digits_of letter c.args.name.now h))
