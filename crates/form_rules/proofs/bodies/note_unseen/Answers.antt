use Rattle.std.proofs.Common.{◌≡◌, false, is_none, rules}
use Rattle.cocoon_syntax.specs.TreeOf.{design_of}
use Rattle.declarations.specs.NameNumbers.{number_of}
use Rattle.form_rules.proofs.WalkFacts.{new-role, old-role}
use Rattle.form_rules.proofs.bodies.note_unseen.Goals as goal

pub returns-in-Some : goal.returns-in-Some
returns-in-Some c = λ xs start h.
    let there : is_none (number_of c.args.seen.now c.args.name.now.text) ≡ false = search rules in
    old-role c.noting_laws.ensures (design_of c.args.design.now) c.args.seen.now xs c.args.name.now.text h there

pub returns-in_ok-note_role-in-None : goal.returns-in_ok-note_role-in-None
returns-in_ok-note_role-in-None c = λ xs start h. new-role c.noting_laws.ensures (design_of c.args.design.now) c.args.seen.now xs c.args.name.now.text h c.in_ok-note_role-in-None.ensures
