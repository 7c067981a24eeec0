use Rattle.std.proofs.Common.{◌≡◌, true, false, Option, Some, None, sym, subst, ◌∙◌}
use Rattle.cocoon_syntax.specs.TreeOf.{design_of}
use Rattle.role_meaning.specs.declared.following.Followed.{Followed}
use Rattle.failures.specs.Ending.{Ends}
use Rattle.failures.specs.Failures.{IsOver, IsRefuted, OfLevel}
use Rattle.failures.specs.Found.{failure_of}
use Rattle.failures.specs.declared.failure.Failure.{Failure}
use Rattle.failures.proofs.Failing.{Known, is_none, is_over, not_untrue, untrue, made, none_over, none_over_old}
use Rattle.failures.proofs.testing.over.Goals as goal

pub returns-in_default-clause-none : goal.returns-in_default-clause-none
returns-in_default-clause-none c =
    let d = design_of c.args.checked.now in
    let known : Known c.args.level d c.args.defs = record {
      rules = c.design.ensures.resolves.rules;
      literals = c.code_literals_fit.ensures.designs c.args.checked.now;
      are = c.tables_are_definitions.ensures.definitions d c.args.defs c.design.ensures.resolves.rules c.requires.defs.fit;
      stands = c.tables_are_definitions.ensures.stands d c.args.defs c.design.ensures.resolves.rules c.requires.defs.fit c.requires.defs.masked;
      computed = c.segments_are_hops.ensures.computed;
      one = c.requires.level.0;
      last = c.requires.level.1;
    } in
    let ends : (o : Option Followed) → c.in_ok-end.field-0 ≡ o → Ends c.args.level d c.args.defs c.args.begin o = λ o e. subst (Ends c.args.level d c.args.defs c.args.begin) e c.in_ok-end.ensures.ends in
    λ no. none_over c.args.level d c.args.defs known c.args.begin (ends None (is_none c.in_ok-end.field-0 c.in_default.not-Some))

pub returns-then-not-end-clause-none : goal.returns-then-not-end-clause-none
returns-then-not-end-clause-none c =
    let d = design_of c.args.checked.now in
    let known : Known c.args.level d c.args.defs = record {
      rules = c.design.ensures.resolves.rules;
      literals = c.code_literals_fit.ensures.designs c.args.checked.now;
      are = c.tables_are_definitions.ensures.definitions d c.args.defs c.design.ensures.resolves.rules c.requires.defs.fit;
      stands = c.tables_are_definitions.ensures.stands d c.args.defs c.design.ensures.resolves.rules c.requires.defs.fit c.requires.defs.masked;
      computed = c.segments_are_hops.ensures.computed;
      one = c.requires.level.0;
      last = c.requires.level.1;
    } in
    let ends : (o : Option Followed) → c.in_ok-end.field-0 ≡ o → Ends c.args.level d c.args.defs c.args.begin o = λ o e. subst (Ends c.args.level d c.args.defs c.args.begin) e c.in_ok-end.ensures.ends in
    λ no. none_over_old c.args.level d c.args.defs known c.args.begin c.in-Some.end (ends (Some c.in-Some.end) c.in-Some.is) (untrue c.in-Some.end.is_new c.if-not-end.true)

pub returns-clause-fails : goal.returns-clause-fails
returns-clause-fails c =
    let d = design_of c.args.checked.now in
    let known : Known c.args.level d c.args.defs = record {
      rules = c.design.ensures.resolves.rules;
      literals = c.code_literals_fit.ensures.designs c.args.checked.now;
      are = c.tables_are_definitions.ensures.definitions d c.args.defs c.design.ensures.resolves.rules c.requires.defs.fit;
      stands = c.tables_are_definitions.ensures.stands d c.args.defs c.design.ensures.resolves.rules c.requires.defs.fit c.requires.defs.masked;
      computed = c.segments_are_hops.ensures.computed;
      one = c.requires.level.0;
      last = c.requires.level.1;
    } in
    let ends : (o : Option Followed) → c.in_ok-end.field-0 ≡ o → Ends c.args.level d c.args.defs c.args.begin o = λ o e. subst (Ends c.args.level d c.args.defs c.args.begin) e c.in_ok-end.ensures.ends in
    subst (λ (f : Failure). OfLevel IsOver c.args.level d (failure_of d f)) (sym c.joined.ensures)
    (is_over c.args.level d c.args.defs known c.args.begin c.requires.defs c.requires.begin c.in-Some.end (ends (Some c.in-Some.end) c.in-Some.is) (not_untrue c.in-Some.end.is_new c.if-not-end.false))
