use Rattle.std.proofs.Common.{rules, ◌∙◌, ap, sym}
use Rattle.form_rules.specs.Following.{at_choice, latest, names_of}
use Rattle.form_rules.proofs.Resolving.{name_unbound}
use Rattle.form_rules.proofs.value_places.name_place.Goals as goal

pub returns-in-None : goal.returns-in-None
returns-in-None c k s =
    c.unbound.ensures k s (names_of c.args.scope.now)
    ∙ sym (name_unbound (at_choice k (names_of c.args.scope.now)) s c.args.at c.args.name.now (search (rules, c.latest.ensures, c.in-None.is, c.deref.ensures.value, c.bytes.ensures)))
