use Rattle.std.proofs.Common.{rules, ◌≡◌, Some, None, ◌∙◌}
use Rattle.lexing.specs.Numbers.{value_of}
use Rattle.lexing.specs.declared.numbers.Radix.TheVariants.{Decimal}
use Rattle.lexing.proofs.SmallValues.{no_plain, plain_is}
use Rattle.lexing.proofs.numbers.read_number.Goals as goal

pub returns-in-Some : goal.returns-in-Some
returns-in-Some c =
    let value : value_of Decimal c.args.run.now ≡ Some c.in-Some.value = search rules in
    c.plain.ensures ∙ plain_is c.args.widest c.requires c.args.run.now c.in-Some.value value

pub returns-in_ok-literal-in-None : goal.returns-in_ok-literal-in-None
returns-in_ok-literal-in-None c =
    let none : value_of Decimal c.args.run.now ≡ None = search rules in
    c.in_ok-literal-in-None.ensures ∙ no_plain c.args.widest c.requires c.args.run.now none
