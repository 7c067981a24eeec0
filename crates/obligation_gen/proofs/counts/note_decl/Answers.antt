use Rattle.std.proofs.Common.{rules, ◌≡◌, ◌+◌, ◌++◌, ◌∷◌, [], suc, map, true, sym, ap, ◌∙◌, arith}
use Rattle.std.specs.Prelude.{filter}
use Rattle.cocoon_syntax.specs.TreeOf.{decl_of, design_of, role_of}
use Rattle.cocoon_types.specs.Design.{role_at}
use Rattle.cocoon_types.specs.Limits.{reported}
use Rattle.refinement.specs.Segments.{is_new}
use Rattle.obligation_laws.specs.Counts.{sends_of, sum_of}
use Rattle.obligation_gen.specs.Tabled.{entries, role_texts, value_of, valued}
use Rattle.obligation_gen.specs.Weighed.{leaves_in}
use Rattle.obligation_gen.proofs.Tables.{noted}
use Rattle.obligation_gen.proofs.counts.note_decl.Goals as goal

pub returns-in_ok-push : goal.returns-in_ok-push
returns-in_ok-push c =
    let name : c.bytes-name.result.now ≡ (role_of c.in-Role.role).name.text = search rules in
    let up : c.args.above + 1 ≡ suc c.args.above = omega arith in
    let leaves : c.role_leaves-leaves.result ≡ value_of (design_of c.args.checked.now) c.args.above c.args.table.now (role_of c.in-Role.role).name.text =
    c.role_leaves-leaves.ensures ∙ (λ i. reported (sum_of (map (leaves_in c.args.table.now) (sends_of (role_at (up i) (design_of c.args.checked.now)) (name i))))) in
    let new : is_new c.args.above (design_of c.args.checked.now) (role_of c.in-Role.role).name.text ≡ true =
    sym (c.is_new_role.ensures ∙ ap (is_new c.args.above (design_of c.args.checked.now)) name) ∙ c.if-is_new_role.true in
    noted (design_of c.args.checked.now) c.args.above c.args.table.now c.args.next.now.items c.push.new.self.items (record { name = c.bytes-name.result; leaves = c.role_leaves-leaves.result }) (role_of c.in-Role.role)
    c.in_ok-push.ensures.items name leaves new
    ∙ ap (λ x. entries c.args.next.now.items ++ valued (design_of c.args.checked.now) c.args.above c.args.table.now (filter (is_new c.args.above (design_of c.args.checked.now)) (role_texts (decl_of x ∷ [])))) (sym c.in-Role.is)
