use Rattle.std.proofs.Common.{[], ◌∷◌, subst}
use Rattle.net_bundle.specs.NetFileOf.{file_made}
use Rattle.net_bundle.specs.Writing.{AllFit, NotMade}
use Rattle.net_bundle.proofs.InTurn.{passed}
use Rattle.net_bundle.proofs.make.push_file.Goals as goal

pub returns-clause-fit : goal.returns-clause-fit
returns-clause-fit c = subst (λ b. AllFit (file_made c.args.made.file b ∷ [])) c.deref.ensures.value c.in_ok-check_length.ensures.fit

pub returns-in_err-check_length-clause-refused : goal.returns-in_err-check_length-clause-refused
returns-in_err-check_length-clause-refused c =
    passed (file_made c.args.made.file c.args.made.bytes.items ∷ []) _ c.in_err-check_length.field-0.0 c.from_residual.ensures.1
    (subst (λ b. NotMade (file_made c.args.made.file b ∷ []) c.in_err-check_length.field-0.0) c.deref.ensures.value c.in_err-check_length.ensures.refused)
