use Rattle.std.proofs.Common.{◌∷◌, ◌++◌, [], map, take, subst, sym}
use Rattle.cocoon_num.specs.Tree.{Name}
use Rattle.cocoon_syntax.specs.TreeOf.{name_of}
use Rattle.declarations.specs.NameNumbers.{Numbers}
use Rattle.name_rules.specs.Among.{Seen}
use Rattle.name_rules.proofs.AmongFacts.{taken}
use Rattle.name_rules.proofs.ListedFacts.{put-name}
use Rattle.name_rules.proofs.redeclared.listed_names.Goals as goal

pub loop-role-preserved : goal.loop-role-preserved
loop-role-preserved c =
    let names = map name_of (take c.loop-role.role-index c.args.roles.now) in
    subst (Seen c.append.new.self) (sym (taken name_of c.args.roles.now c.loop-role.role-index c.role-item.result c.loop-role-test.true c.role-item.is))
    (put-name c.append.new.self names (name_of c.role-item.result) (subst (λ x. Numbers c.append.new.self (map (λ (n : Name). n.text) names ++ x ∷ [])) c.bytes.ensures (c.in_ok-append.ensures (map (λ (n : Name). n.text) names) c.loop-role.invariant)))
