use Rattle.std.proofs.Common.{◌≡◌, Some, Bor, is_some, option_map, rules, sym, ap, ◌∙◌}
use Rattle.cocoon_num.specs.Names.{named}
use Rattle.cocoon_num.specs.Tree.{HeaderDecl}
use Rattle.cocoon_syntax.specs.TreeOf.{header_of, name_of}
use Rattle.cocoon_syntax.specs.declared.decl.HeaderDecl.{HeaderDecl as Header}
use Rattle.cocoon_types.specs.Design.{field_width}
use Rattle.name_rules.proofs.NameTests.{field_of, no_header}
use Rattle.name_rules.proofs.exprs.note_field.Goals as goal

pub returns-in-Some : goal.returns-in-Some
returns-in-Some c = λ s same.
    let there : named (λ (d : HeaderDecl). d.name) c.args.header.now.text s.design.headers ≡ Some (header_of c.in-Some.field-0.now) =
    (λ i. named (λ (d : HeaderDecl). d.name) (sym c.bytes.ensures i) (same i).headers) ∙ sym c.header.ensures ∙ ap (option_map (λ (h : Bor Header). header_of h.now)) c.in-Some.is in
    let found : c.is_some.result ≡ is_some c.field_width-width.result = search rules in
    field_of s (name_of c.args.header.now) (name_of c.args.field.now) (header_of c.in-Some.field-0.now) there
    (found ∙ ap is_some (c.field_width-width.ensures ∙ (λ i. field_width (sym same i).headers (c.bytes-in-Some.ensures i) (c.bytes-in-Some-2.ensures i)))) c.note_unless.ensures

pub returns-in-None : goal.returns-in-None
returns-in-None c = λ s same.
    no_header s (name_of c.args.header.now) (name_of c.args.field.now)
    ((λ i. named (λ (d : HeaderDecl). d.name) (sym c.bytes.ensures i) (same i).headers) ∙ sym c.header.ensures ∙ ap (option_map (λ (h : Bor Header). header_of h.now)) c.in-None.is)
    c.note_unless-in-None.ensures
