use Rattle.std.proofs.Common.{List, ℕ, ◌-◌, subst}
use Rattle.std.proofs.lemmas.Result.{IfOk-weaker}
use Rattle.cocoon_syntax.specs.TreeOf.{design_of}
use Rattle.role_meaning.specs.Follows.{Follows}
use Rattle.failures.specs.Found.{defined}
use Rattle.failures.proofs.testing.ended.Goals as goal

pub returns-clause-ends : goal.returns-clause-ends
returns-clause-ends c =
    let d = design_of c.args.checked.now in
    let tables = c.args.defs.now in
    let stands = c.tables_are_definitions.ensures.stands d tables c.design.ensures.resolves.rules c.requires.defs.fit c.requires.defs.masked in
    IfOk-weaker c.follow.result _ _ (λ end h block at.
    subst (λ (cs : List ℕ). Follows (c.args.level - 1) d block (defined d tables) c.args.begin.now.at c.args.begin.now.packet cs end) c.items.ensures (h block at (defined d tables) stands))
    c.follow.ensures.follows
