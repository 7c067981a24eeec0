use Rattle.std.proofs.Common.{map, subst, sym, ap}
use Rattle.cocoon_syntax.specs.TreeOf.{block_of, design_of, header_of, stmt_of}
use Rattle.cocoon_types.specs.Noting.{Notes}
use Rattle.cocoon_types.specs.ReadBack.{hidden_in}
use Rattle.cocoon_types.specs.Rules.{hidden_choice}
use Rattle.cocoon_types.specs.Among.{among}
use Rattle.form_rules.specs.Least.{IsLeast}
use Rattle.form_rules.proofs.Least.{least_noted}
use Rattle.form_rules.proofs.hidden.note_body.Goals as goal

pub returns-in-Some : goal.returns-in-Some
returns-in-Some c =
    least_noted (hidden_in (design_of c.args.design.now) (block_of (map stmt_of c.args.body.now))) c.in-Some.at c.args.noted.now c.note.new.self
    (subst (λ o. IsLeast o (hidden_in (design_of c.args.design.now) (block_of (map stmt_of c.args.body.now)))) c.in-Some.is (c.in_ok-at.ensures (design_of c.args.design.now) (ap (map header_of) (sym c.deref.ensures.value))))
    c.note.ensures

pub returns-in-None : goal.returns-in-None
returns-in-None c =
    subst (λ l. Notes (among hidden_choice l) c.args.noted.now c.args.noted.now)
    (sym (subst (λ o. IsLeast o (hidden_in (design_of c.args.design.now) (block_of (map stmt_of c.args.body.now)))) c.in-None.is (c.in_ok-at.ensures (design_of c.args.design.now) (ap (map header_of) (sym c.deref.ensures.value)))))
    (c.among_laws.ensures.none hidden_choice c.args.noted.now)
