use Rattle.query_laws.proofs.laws.certified_obligations_never_fail.Goals as goal

pub returns : goal.returns
returns c = λ d w l n o is cert term h.
    c.untrue_formulas_never_fail.ensures.all d w l n o is
    (c.refuted_formulas_are_never_true.ensures.certified d w l o.level o.formula (c.formulas_apply_declared_functions.ensures d w l n o is) cert term h)
