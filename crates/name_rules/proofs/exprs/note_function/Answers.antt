use Rattle.std.proofs.Common.{◌≡◌, is_some, rules, ap, ◌∙◌}
use Rattle.cocoon_syntax.specs.TreeOf.{design_of, name_of}
use Rattle.declarations.specs.Declares.{function_number}
use Rattle.name_rules.specs.Tests.{is_from}
use Rattle.name_rules.proofs.NameTests.{call_at}
use Rattle.name_rules.proofs.exprs.note_function.Goals as goal

pub returns : goal.returns
returns c = λ vars packet at es.
    let d = design_of c.args.design.now in
    let number : c.function_of-number.result ≡ function_number (design_of c.args.design.now) c.args.function.now.text = c.function_of-number.ensures ∙ ap (function_number (design_of c.args.design.now)) c.bytes.ensures in
    let found : c.is_some.result ≡ is_some c.function_of-number.result = search rules in
    call_at c.noting_laws.ensures d c.args.point vars packet at (name_of c.args.function.now) es (found ∙ ap is_some number) (c.is_from-late.ensures ∙ ap (is_from c.args.point.functions) number)
    c.note_unless.ensures c.note_unless-2.ensures
