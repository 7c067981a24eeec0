use Rattle.std.proofs.Common.{◌≡◌, ◌∷◌, ◌++◌, [], map, ap, ◌∙◌, Some, None, List, true}
use Rattle.std.proofs.lemmas.List.{map-append}
use Rattle.cocoon_num.specs.Tree.{Param}
use Rattle.cocoon_syntax.specs.TreeOf.{function_of, param_of}
use Rattle.p4_ir.specs.P4Tree as tree
use Rattle.p4_ir.specs.P4Tree.{P4Table}
use Rattle.p4_ir.specs.Program.{expr_of, table_of}
use Rattle.lowering.specs.Lower.{a_group, params_before_last}
use Rattle.lower_code.specs.Growth.{applied_code, applied_counts, applied_fields, counts_of, grown, made_in, made_of, so_far, table_for}
use Rattle.lower_code.specs.declared.made.Made.TheVariants as parts
use Rattle.lower_code.proofs.Forms.{meta_form}
use Rattle.lower_code.proofs.Steps.{table_put}
use Rattle.lower_code.proofs.calls.by_group.Goals as goal

pub returns : goal.returns
returns c = λ d h.
    let g = function_of c.args.function.now in
    let n = counts_of c.args.to.now.counts in
    let s = so_far d c.args.to.now c.args.code.now.items in
    let es = map expr_of c.args.args.items in
    let z = so_far d c.apply_table.new.to c.apply_table.new.code.items in
    let ps : map param_of c.params_before_last.result.now ≡ params_before_last g.params = c.params_before_last.ensures ∙ ap (λ (xs : List _). params_before_last (map param_of xs)) c.deref.ensures.value in
    let made : made_in d c.push.new.self.items ≡ made_in d c.apply_table.new.to.made.items ++ made_of d (parts.Group c.in_ok-table.table c.args.number) ∷ [] =
    ap (made_in d) c.in_ok-push.ensures.items ∙ map-append (made_of d) c.apply_table.new.to.made.items (_ ∷ []) in
    let state : z ≡ grown s (applied_code es n) (applied_fields (params_before_last g.params) 16 n) (applied_counts (params_before_last g.params) n) =
    c.in_ok-table.ensures.state d ∙ (λ i. grown s (applied_code es n) (applied_fields (ps i) 16 n) (applied_counts (ps i) n)) in
    let table : table_of c.in_ok-table.table ≡ table_for true (params_before_last g.params) n = c.in_ok-table.ensures.table ∙ ap (λ (xs : List Param). table_for true xs n) ps in
    let part : made_of d (parts.Group c.in_ok-table.table c.args.number) ≡ a_group (table_for true (params_before_last g.params) n) g.name.text (params_before_last g.params) =
    (λ i. a_group (table i) (elim (h i) [ Some x ↦ x.name.text | None ↦ [] ]) (params_before_last (elim (h i) [ Some x ↦ x.params | None ↦ [] ]))) in
    let put = table_put s z es (params_before_last g.params) 16 (made_of d (parts.Group c.in_ok-table.table c.args.number)) (a_group (table_for true (params_before_last g.params) n) g.name.text (params_before_last g.params)) state part in
    (λ i. (((λ k. record { code = z.code; made = made k; next = z.next }) ∙ put) i, (meta_form c.in_ok-table.table.result ∙ ap (λ (t : P4Table). tree.p_meta t.result) table) i))
