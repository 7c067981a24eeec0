use Rattle.std.proofs.Common.{[], ◌∷◌, ◌++◌, subst}
use Rattle.declarations.specs.NameNumbers.{Numbers}
use Rattle.form_rules.proofs.bodies.note_new.Goals as goal

pub returns : goal.returns
returns c = λ xs start h. record {
  names = subst (λ x. Numbers c.append.new.self (xs ++ x ∷ [])) c.bytes.ensures (c.in_ok-append.ensures xs h.names);
  noted = c.in_ok-note_unseen.ensures xs start h;
}
