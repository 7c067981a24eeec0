use Rattle.std.proofs.Common.{◌≡◌, ◌∙◌, None, Some, subst, sym}
use Rattle.cocoon_syntax.specs.TreeOf.{design_of}
use Rattle.lower_p4.specs.Lowers.{RunsProgram}
use Rattle.lower_p4.proofs.networks.judge.Goals as goal

pub returns-in_default-clause-fits : goal.returns-in_default-clause-fits
returns-in_default-clause-fits c =
    let first = c.in_ok-switch.ensures.first in
    record {
      within = first.within;
      fits = λ s at p runs. let none : None ≡ Some s = sym c.in_default.is ∙ first.first ∙ at in absurd cc;
    }

pub returns-clause-fits : goal.returns-clause-fits
returns-clause-fits c =
    let first = c.in_ok-switch.ensures.first in
    record {
      within = first.within;
      fits = λ s at p runs.
          let both : Some c.in-Some.switch ≡ Some s = sym c.in-Some.is ∙ first.first ∙ at in
          let same : c.in-Some.switch ≡ s = cc in
          sym (c.in_ok-has_long_text.ensures p (subst (λ n. RunsProgram (design_of c.args.checked.now) n p) (sym same) runs)) ∙ c.if-branch.false;
    }
