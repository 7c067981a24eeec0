use Rattle.lower_p4.proofs.Grounded.{has_definitions, has_tables}
use Rattle.lower_p4.proofs.laws.networks_deliver.Goals as goal

pub returns : goal.returns
returns c = λ d es places net g n.
    c.networks_are_exact.ensures d es places net (has_tables d es places g) (has_definitions d es places g) g.of_text.stand n
