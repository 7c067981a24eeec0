use Rattle.query_laws.proofs.FormulasOver.{obligation_stands}
use Rattle.query_laws.proofs.formula_laws.formulas_apply_declared_functions.Goals as goal

pub returns : goal.returns
returns c = λ d w l n o is.
    obligation_stands d w (record { inlined_ = c.leaves_apply_declared_functions.ensures.inlined d w l; one_body = c.leaves_apply_declared_functions.ensures.one_body d w l }) n o is
