use Rattle.std.proofs.Common.{◌≡◌, ◌∷◌, ◌++◌, [], map, ap, ◌∙◌, Some, None, List, false}
use Rattle.std.proofs.lemmas.List.{map-append}
use Rattle.cocoon_syntax.specs.TreeOf.{function_of, param_of}
use Rattle.p4_ir.specs.P4Tree.{P4Table}
use Rattle.p4_ir.specs.Program.{expr_of, table_of}
use Rattle.lowering.specs.Lower.{a_table, kind_width, read_back}
use Rattle.lower_code.specs.Growth.{applied_code, applied_counts, applied_fields, counts_of, grown, made_in, made_of, so_far, table_for}
use Rattle.lower_code.specs.declared.made.Made.TheVariants as parts
use Rattle.lower_code.proofs.Steps.{table_put}
use Rattle.lower_code.proofs.calls.by_table.Goals as goal

pub returns : goal.returns
returns c = λ d h.
    let g = function_of c.args.function.now in
    let n = counts_of c.args.to.now.counts in
    let s = so_far d c.args.to.now c.args.code.now.items in
    let es = map expr_of c.args.args.items in
    let z = so_far d c.apply_table.new.to c.apply_table.new.code.items in
    let made : made_in d c.push.new.self.items ≡ made_in d c.apply_table.new.to.made.items ++ made_of d (parts.Table c.in_ok-table.table c.args.number) ∷ [] =
    ap (made_in d) c.in_ok-push.ensures.items ∙ map-append (made_of d) c.apply_table.new.to.made.items (_ ∷ []) in
    let state : z ≡ grown s (applied_code es n) (applied_fields g.params (kind_width g.result) n) (applied_counts g.params n) =
    c.in_ok-table.ensures.state d ∙ (λ i. grown s (applied_code es n) (applied_fields (map param_of (c.deref.ensures.value i)) (c.kind_width-width.ensures i) n) (applied_counts (map param_of (c.deref.ensures.value i)) n)) in
    let table : table_of c.in_ok-table.table ≡ table_for false g.params n = c.in_ok-table.ensures.table ∙ ap (λ (ps : List _). table_for false (map param_of ps) n) c.deref.ensures.value in
    let part : made_of d (parts.Table c.in_ok-table.table c.args.number) ≡ a_table (table_for false g.params n) g.name.text g.params =
    (λ i. a_table (table i) (elim (h i) [ Some x ↦ x.name.text | None ↦ [] ]) (elim (h i) [ Some x ↦ x.params | None ↦ [] ])) in
    let put = table_put s z es g.params (kind_width g.result) (made_of d (parts.Table c.in_ok-table.table c.args.number)) (a_table (table_for false g.params n) g.name.text g.params) state part in
    (λ i. (((λ k. record { code = z.code; made = made k; next = z.next }) ∙ put) i, (c.in_ok-value.ensures ∙ ap (λ (t : P4Table). read_back g.result t.result) table) i))
