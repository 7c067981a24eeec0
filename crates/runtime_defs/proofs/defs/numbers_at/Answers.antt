use Rattle.std.proofs.Common.{sym, subst}
use Rattle.std.specs.Prelude.{option_map}
use Rattle.runtime_defs.specs.TrueRows.{MayBeListed}
use Rattle.runtime_defs.proofs.Shapes.{kept-at, read-at}
use Rattle.runtime_defs.proofs.defs.numbers_at.Goals as goal

pub returns : goal.returns
returns c = λ tables z.
    subst (λ n. MayBeListed tables n (option_map (λ kept. kept.now) c.get.result)) (sym c.in_ok-function.was)
    (kept-at tables c.args.numbers.now c.in_ok-function.field-0 (option_map (λ kept. kept.now) c.get.result) z
    (read-at (λ kept. kept.now) c.get.result c.args.numbers.now c.in_ok-function.field-0 c.get.ensures.lookup.0 c.get.ensures.lookup.1))
