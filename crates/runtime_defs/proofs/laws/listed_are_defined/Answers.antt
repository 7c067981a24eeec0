use Rattle.std.proofs.Common.{ap, subst}
use Rattle.std.specs.Prelude.{option_and_then}
use Rattle.runtime_defs.specs.Guards.{ListsTrue, table_named}
use Rattle.runtime_defs.proofs.Guarding.{host-literal, known-of, listed-defined, switch-literal}
use Rattle.runtime_defs.proofs.laws.listed_are_defined.Goals as goal

pub returns : goal.returns
returns c = record {
  hosts = λ d es places ns f r b z s l h.
      listed-defined d es places (known-of d es places r b z s) 64 ns f (host-literal d f h) (subst (λ t. ListsTrue 64 t ns) (ap (option_and_then (table_named d places)) h) l);
  switches = λ d es places ns f r b z s l h.
      listed-defined d es places (known-of d es places r b z s) 16 ns f (switch-literal d f h) (subst (λ t. ListsTrue 16 t ns) (ap (option_and_then (table_named d places)) h) l);
}
