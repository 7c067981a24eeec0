use Rattle.std.proofs.Common.{[], ◌++◌, subst, sym, append-nil}
use Rattle.cocoon_syntax.specs.TreeOf.{design_of, name_of}
use Rattle.cocoon_types.specs.Noting.{Notes}
use Rattle.cocoon_types.specs.Rules.{unknown_role}
use Rattle.cocoon_types.specs.Among.{among}
use Rattle.name_rules.specs.Among.{unknown_at}
use Rattle.name_rules.proofs.unknown.note_pair.Goals as goal

pub returns : goal.returns
returns c =
    let first = unknown_at (design_of c.args.design.now) c.args.level (name_of c.args.first.now) in
    let second = unknown_at (design_of c.args.design.now) c.args.level (name_of c.args.second.now) in
    c.among_laws.ensures.append unknown_role first (second ++ []) c.args.noted.now c.note_role.new.noted c.note_role-2.new.noted c.note_role.ensures
    (subst (λ l. Notes (among unknown_role l) c.note_role.new.noted c.note_role-2.new.noted) (sym (append-nil second)) c.note_role-2.ensures)
