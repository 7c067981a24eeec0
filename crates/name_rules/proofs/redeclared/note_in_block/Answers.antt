use Rattle.std.proofs.Common.{[], map, subst}
use Rattle.cocoon_syntax.specs.TreeOf.{decl_of, design_of, name_of}
use Rattle.cocoon_types.specs.Noting.{Notes}
use Rattle.cocoon_types.specs.RuleParts.{role_names}
use Rattle.cocoon_types.specs.Rules.{twice}
use Rattle.cocoon_types.specs.Among.{among}
use Rattle.name_rules.specs.Among.{Seen, declared_again, may_stand}
use Rattle.name_rules.proofs.redeclared.note_in_block.Goals as goal

pub returns : goal.returns
returns c =
    let list = map name_of c.args.block.now.roles.items in
    let seen = subst (λ l. Seen c.in_ok-listed.listed (map name_of l)) c.deref.ensures.value c.in_ok-listed.ensures in
    subst (λ l. Notes (among twice (declared_again (may_stand (design_of c.args.design.now) c.args.above list) [] (role_names (map decl_of l)))) c.args.noted.now c.note_declared.new.noted) c.deref-2.ensures.value (c.in_ok-note_declared.ensures list seen)
