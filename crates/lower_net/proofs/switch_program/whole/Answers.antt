use Rattle.std.proofs.Common.{List, ◌∷◌, ◌++◌, codes, map, sym, ap, subst, ◌∙◌}
use Rattle.cocoon_resolve.specs.Kept.{AreDeclared}
use Rattle.cocoon_resolve.specs.Readers.{all_widths}
use Rattle.cocoon_syntax.specs.TreeOf as design
use Rattle.cocoon_syntax.specs.TreeOf.{design_of}
use Rattle.cocoon_syntax.specs.declared.decl.HeaderDecl.{HeaderDecl}
use Rattle.lowering.specs.Log.{tables_in}
use Rattle.lower_code.specs.Growth.{made_in}
use Rattle.lowering.specs.SwitchProgram.{fields_in, p4_header}
use Rattle.p4_ir.specs.Program.{block_of, field_of, header_of, stmt_of}
use Rattle.lower_net.proofs.Few.{fields-declared}
use Rattle.lower_net.proofs.switch_program.whole.Goals as goal

pub headers-requires : goal.headers-requires
headers-requires c =
    subst (λ (hs : List HeaderDecl). AreDeclared (all_widths (map design.header_of hs))) (sym (c.deref.ensures.value ∙ ap (λ x. x.headers.items) c.design.ensures.is))
    (fields-declared (design_of c.args.checked.now) c.design.ensures.resolves.rules)

pub returns-clause-program : goal.returns-clause-program
returns-clause-program c =
    let d = design_of c.args.checked.now in
    λ i. record {
      headers = (ap (map header_of) c.from-headers.ensures ∙ c.in_ok-headers.ensures
          ∙ ap (λ (hs : List HeaderDecl). map p4_header (map design.header_of hs)) (c.deref.ensures.value ∙ ap (λ x. x.headers.items) c.design.ensures.is)) i;
      meta = (ap (map field_of) c.from-meta.ensures ∙ c.in_ok-meta.ensures d
          ∙ (λ j. record { name = codes "site"; width = 8 } ∷ fields_in (made_in d (c.deref-2.ensures.value j) ++ made_in d (c.deref-3.ensures.value j)))) i;
      ingress = (c.in_ok-into.ensures d ∙ (λ j. record { tables = tables_in (made_in d (c.deref-4.ensures.value j)); body = block_of (map stmt_of c.args.ingress.code.items) })) i;
      egress = (c.in_ok-out.ensures d ∙ (λ j. record { tables = tables_in (made_in d (c.deref-5.ensures.value j)); body = block_of (map stmt_of c.args.egress.code.items) })) i;
    }
