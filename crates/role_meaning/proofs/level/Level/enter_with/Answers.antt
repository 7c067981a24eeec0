use Rattle.std.proofs.Common.{◌≡◌, true, false, [], Some, None, if◌then◌else◌, sym, ap, ◌∙◌}
use Rattle.cocoon_syntax.specs.TreeOf.{expr_of}
use Rattle.cocoon_types.specs.Val.{value}
use Rattle.role_meaning.specs.Levels.{is_true, world_at}
use Rattle.role_values.specs.Bound.{env_of}
use Rattle.role_meaning.proofs.Guards.{bare}
use Rattle.role_meaning.proofs.level.Level.enter_with.Goals as goal

pub returns-then-branch : goal.returns-then-branch
returns-then-branch c =
    let w = world_at c.args.self.now in
    let env = env_of c.args.variables.items in
    let e = expr_of c.args.guard.now in
    let is : is_true (value w.context env [] e) ≡ true = ap is_true (sym (bare w.context.headers w.context.apply env e)) ∙ sym c.in_ok-is_true.ensures ∙ c.if-branch.true in
    ap (λ b. if b then Some env else None) (sym is)

pub returns-else-branch : goal.returns-else-branch
returns-else-branch c =
    let w = world_at c.args.self.now in
    let env = env_of c.args.variables.items in
    let e = expr_of c.args.guard.now in
    let is : is_true (value w.context env [] e) ≡ false = ap is_true (sym (bare w.context.headers w.context.apply env e)) ∙ sym c.in_ok-is_true.ensures ∙ c.if-branch.false in
    ap (λ b. if b then Some env else None) (sym is)
