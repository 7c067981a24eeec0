use Rattle.std.proofs.Common.{◌≡◌, ◌++◌, map, sym, ap, subst, ◌∙◌}
use Rattle.std.specs.Prelude.{option_to_list}
use Rattle.std.specs.List.{AllZip}
use Rattle.cocoon_num.specs.Tree.{Entry, a_row}
use Rattle.cocoon_num.specs.Names.{same_name}
use Rattle.cocoon_syntax.specs.TreeOf.{const_of, entry_of, name_of, pattern_of}
use Rattle.cocoon_types.specs.Tables.{row_of}
use Rattle.runtime_defs.specs.Bound.{IsRow}
use Rattle.runtime_defs.specs.Steps.{RowIsNarrow}
use Rattle.runtime_defs.proofs.Defined.{row-narrow}
use Rattle.runtime_defs.proofs.Tabled.{row-pushed}
use Rattle.runtime_defs.proofs.tables.push_row.Goals as goal

pub fun_row-requires : goal.fun_row-requires
fun_row-requires c =
    let is : entry_of c.args.entry.now ≡ a_row (name_of c.in-Define.name) (map pattern_of c.deref.result.now) (const_of c.in-Define.value) =
    ap entry_of c.in-Define.is ∙ ap (λ ps. a_row (name_of c.in-Define.name) (map pattern_of ps) (const_of c.in-Define.value)) (sym c.deref.ensures.value) in
    row-narrow c.args.function.now (name_of c.in-Define.name) (map pattern_of c.deref.result.now) (const_of c.in-Define.value)
    (ap (same_name c.args.function.now) (sym c.bytes.ensures) ∙ sym c.is_same.ensures ∙ c.if-is_same.true)
    (subst (RowIsNarrow c.args.function.now) is c.requires)

pub returns-in_ok-push : goal.returns-in_ok-push
returns-in_ok-push c = λ before h.
    let is : entry_of c.args.entry.now ≡ a_row (name_of c.in-Define.name) (map pattern_of c.deref.result.now) (const_of c.in-Define.value) =
    ap entry_of c.in-Define.is ∙ ap (λ ps. a_row (name_of c.in-Define.name) (map pattern_of ps) (const_of c.in-Define.value)) (sym c.deref.ensures.value) in
    subst (λ (e : Entry). AllZip IsRow (before ++ option_to_list (row_of c.args.function.now e)) c.push.new.self.items) (sym is)
    (row-pushed c.args.function.now (name_of c.in-Define.name) (map pattern_of c.deref.result.now) (const_of c.in-Define.value) before c.args.rows.now.items c.push.new.self.items c.in_ok-fun_row.field-0
    (ap (same_name c.args.function.now) (sym c.bytes.ensures) ∙ sym c.is_same.ensures ∙ c.if-is_same.true)
    c.in_ok-fun_row.ensures h c.in_ok-push.ensures.items)
