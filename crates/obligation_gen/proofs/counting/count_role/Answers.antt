use Rattle.std.proofs.Common.{◌≡◌, ◌-◌, ℕ, suc, [], ◌∷◌, false, sym, ◌∙◌}
use Rattle.std.proofs.lemmas.Result.{IfErr-weaker, on_ok_weaker}
use Rattle.cocoon_syntax.specs.TreeOf.{design_of}
use Rattle.cocoon_types.specs.Design.{role_at}
use Rattle.refinement.specs.Segments.{is_new}
use Rattle.obligation_laws.specs.Counts.{leaf_count}
use Rattle.obligation_gen.proofs.LargeCounts.{below, first_told, passed, told_same}
use Rattle.obligation_gen.proofs.counting.count_role.Goals as goal

pub returns-in_err-allow-clause-told : goal.returns-in_err-allow-clause-told
returns-in_err-allow-clause-told c =
    let d = design_of c.args.checked.now in
    let own = leaf_count (role_at (suc (c.args.level - 1)) d) (is_new (c.args.level - 1) d) c.args.block.now.within c.args.name.now in
    let body = leaf_count (role_at (c.args.level - 1) d) (λ x. false) 1 c.args.name.now in
    passed c.from_residual-in_err-allow.result c.in_err-allow.field-0.0 _ c.from_residual-in_err-allow.ensures.1 (first_told own (body ∷ []) c.in_err-allow.field-0.0 (c.in_err-allow.ensures.told own c.in_ok-own.ensures))

pub returns-clause-few : goal.returns-clause-few
returns-clause-few c =
    let d = design_of c.args.checked.now in
    let own = leaf_count (role_at (suc (c.args.level - 1)) d) (is_new (c.args.level - 1) d) c.args.block.now.within c.args.name.now in
    let body = leaf_count (role_at (c.args.level - 1) d) (λ x. false) 1 c.args.name.now in
    on_ok_weaker c.allow-2.result (λ l. below own (body ∷ []) (c.in_ok-allow.ensures.few own c.in_ok-own.ensures) ∙ below body [] l) (c.allow-2.ensures.few body c.body_leaf_count-body.ensures)

pub returns-clause-told : goal.returns-clause-told
returns-clause-told c =
    let d = design_of c.args.checked.now in
    let own = leaf_count (role_at (suc (c.args.level - 1)) d) (is_new (c.args.level - 1) d) c.args.block.now.within c.args.name.now in
    let body = leaf_count (role_at (c.args.level - 1) d) (λ x. false) 1 c.args.name.now in
    IfErr-weaker c.allow-2.result _ _
    (λ f t. told_same (body ∷ []) (own ∷ body ∷ []) f (sym (below own (body ∷ []) (c.in_ok-allow.ensures.few own c.in_ok-own.ensures))) (first_told body [] f t))
    (c.allow-2.ensures.told body c.body_leaf_count-body.ensures)
