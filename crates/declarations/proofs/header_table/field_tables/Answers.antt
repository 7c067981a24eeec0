use Rattle.std.proofs.Common.{◌++◌, ◌∷◌, [], map, take, sym, subst}
use Rattle.cocoon_syntax.specs.TreeOf.{header_of, param_of}
use Rattle.numbering.specs.NameNumbers.{Numbers}
use Rattle.declarations.specs.Declares.{HoldsFields, field_texts}
use Rattle.declarations.proofs.TableFacts.{taken, HoldsFields-push}
use Rattle.declarations.proofs.header_table.field_tables.Goals as goal

pub loop-header-preserved : goal.loop-header-preserved
loop-header-preserved c =
    let before = map header_of (take c.loop-header.header-index c.args.headers.now) in
    subst (HoldsFields c.push.new.self.items) (sym (taken header_of c.args.headers.now c.loop-header.header-index c.header-item.result c.loop-header-test.true c.header-item.is))
    (subst (λ tables. HoldsFields tables (before ++ header_of c.header-item.result ∷ [])) (sym c.in_ok-push.ensures.items)
    (HoldsFields-push c.loop-header.tables.items before c.in_ok-field_table.field-0 (header_of c.header-item.result) c.loop-header.invariant
    (subst (λ fields. Numbers c.in_ok-field_table.field-0 (field_texts (map param_of fields))) c.deref.ensures.value c.in_ok-field_table.ensures)))
