use Rattle.std.proofs.Common.{◌≡◌, true, false, Option, Some, None, sym, subst, ◌∙◌}
use Rattle.cocoon_syntax.specs.TreeOf.{design_of}
use Rattle.role_meaning.specs.declared.following.Followed.{Followed}
use Rattle.failures.specs.Ending.{Ends}
use Rattle.failures.specs.Failures.{IsOver, IsRefuted, OfLevel}
use Rattle.failures.specs.Found.{failure_of}
use Rattle.failures.specs.declared.failure.Failure.{Failure}
use Rattle.failures.proofs.Failing.{Known, apart, is_none, is_refuted, made, none_refuted, none_refuted_new, none_refuted_sent, old_end}
use Rattle.cocoon_resolve.specs.Readers.{HasRole}
use Rattle.std.proofs.Common.{IfSome}
use Rattle.failures.proofs.testing.refuted.Goals as goal

pub returns-in_default-clause-none : goal.returns-in_default-clause-none
returns-in_default-clause-none c =
    let d = design_of c.args.checked.now in
    let known : Known c.args.level d c.args.defs = record {
      rules = c.design.ensures.resolves.rules;
      literals = c.code_literals_fit.ensures.designs c.args.checked.now;
      are = c.tables_are_definitions.ensures.definitions d c.args.defs c.design.ensures.resolves.rules c.requires.defs.fit;
      stands = c.tables_are_definitions.ensures.stands d c.args.defs c.design.ensures.resolves.rules c.requires.defs.fit c.requires.defs.masked;
      computed = c.segments_are_hops.ensures.computed;
      one = c.requires.level.0;
      last = c.requires.level.1;
    } in
    let ends : (o : Option Followed) → c.in_ok-end.field-0 ≡ o → Ends c.args.level d c.args.defs c.args.begin o = λ o e. subst (Ends c.args.level d c.args.defs c.args.begin) e c.in_ok-end.ensures.ends in
    λ no. none_refuted c.args.level d c.args.defs known c.args.begin (ends None (is_none c.in_ok-end.field-0 c.in_default.not-Some))

pub returns-then-end-clause-none : goal.returns-then-end-clause-none
returns-then-end-clause-none c =
    let d = design_of c.args.checked.now in
    let known : Known c.args.level d c.args.defs = record {
      rules = c.design.ensures.resolves.rules;
      literals = c.code_literals_fit.ensures.designs c.args.checked.now;
      are = c.tables_are_definitions.ensures.definitions d c.args.defs c.design.ensures.resolves.rules c.requires.defs.fit;
      stands = c.tables_are_definitions.ensures.stands d c.args.defs c.design.ensures.resolves.rules c.requires.defs.fit c.requires.defs.masked;
      computed = c.segments_are_hops.ensures.computed;
      one = c.requires.level.0;
      last = c.requires.level.1;
    } in
    let ends : (o : Option Followed) → c.in_ok-end.field-0 ≡ o → Ends c.args.level d c.args.defs c.args.begin o = λ o e. subst (Ends c.args.level d c.args.defs c.args.begin) e c.in_ok-end.ensures.ends in
    λ no. none_refuted_new c.args.level d c.args.defs known c.args.begin c.in-Some.end (ends (Some c.in-Some.end) c.in-Some.is) c.if-end.true

pub is_sent_above-requires-clause-old : goal.is_sent_above-requires-clause-old
is_sent_above-requires-clause-old c =
    let d = design_of c.args.checked.now in
    let known : Known c.args.level d c.args.defs = record {
      rules = c.design.ensures.resolves.rules;
      literals = c.code_literals_fit.ensures.designs c.args.checked.now;
      are = c.tables_are_definitions.ensures.definitions d c.args.defs c.design.ensures.resolves.rules c.requires.defs.fit;
      stands = c.tables_are_definitions.ensures.stands d c.args.defs c.design.ensures.resolves.rules c.requires.defs.fit c.requires.defs.masked;
      computed = c.segments_are_hops.ensures.computed;
      one = c.requires.level.0;
      last = c.requires.level.1;
    } in
    let ends : (o : Option Followed) → c.in_ok-end.field-0 ≡ o → Ends c.args.level d c.args.defs c.args.begin o = λ o e. subst (Ends c.args.level d c.args.defs c.args.begin) e c.in_ok-end.ensures.ends in
    let has : HasRole d c.in-Some.end.to.role c.args.level = subst (λ (o : Option Followed). IfSome o (λ e. HasRole d e.to.role c.args.level)) c.in-Some.is c.in_ok-end.ensures.at in
    old_end c.args.level d c.args.defs known c.args.begin c.in-Some.end (ends (Some c.in-Some.end) c.in-Some.is) has c.if-end.false

pub returns-then-is_sent-clause-none : goal.returns-then-is_sent-clause-none
returns-then-is_sent-clause-none c =
    let d = design_of c.args.checked.now in
    let known : Known c.args.level d c.args.defs = record {
      rules = c.design.ensures.resolves.rules;
      literals = c.code_literals_fit.ensures.designs c.args.checked.now;
      are = c.tables_are_definitions.ensures.definitions d c.args.defs c.design.ensures.resolves.rules c.requires.defs.fit;
      stands = c.tables_are_definitions.ensures.stands d c.args.defs c.design.ensures.resolves.rules c.requires.defs.fit c.requires.defs.masked;
      computed = c.segments_are_hops.ensures.computed;
      one = c.requires.level.0;
      last = c.requires.level.1;
    } in
    let ends : (o : Option Followed) → c.in_ok-end.field-0 ≡ o → Ends c.args.level d c.args.defs c.args.begin o = λ o e. subst (Ends c.args.level d c.args.defs c.args.begin) e c.in_ok-end.ensures.ends in
    λ no. none_refuted_sent c.args.level d c.args.defs known c.args.begin c.in-Some.end (ends (Some c.in-Some.end) c.in-Some.is) (c.in_ok-is_sent.ensures.0 c.if-is_sent.true)

pub returns-clause-fails : goal.returns-clause-fails
returns-clause-fails c =
    let d = design_of c.args.checked.now in
    let known : Known c.args.level d c.args.defs = record {
      rules = c.design.ensures.resolves.rules;
      literals = c.code_literals_fit.ensures.designs c.args.checked.now;
      are = c.tables_are_definitions.ensures.definitions d c.args.defs c.design.ensures.resolves.rules c.requires.defs.fit;
      stands = c.tables_are_definitions.ensures.stands d c.args.defs c.design.ensures.resolves.rules c.requires.defs.fit c.requires.defs.masked;
      computed = c.segments_are_hops.ensures.computed;
      one = c.requires.level.0;
      last = c.requires.level.1;
    } in
    let ends : (o : Option Followed) → c.in_ok-end.field-0 ≡ o → Ends c.args.level d c.args.defs c.args.begin o = λ o e. subst (Ends c.args.level d c.args.defs c.args.begin) e c.in_ok-end.ensures.ends in
    let has : HasRole d c.in-Some.end.to.role c.args.level = subst (λ (o : Option Followed). IfSome o (λ e. HasRole d e.to.role c.args.level)) c.in-Some.is c.in_ok-end.ensures.at in
    subst (λ (f : Failure). OfLevel IsRefuted c.args.level d (failure_of d f)) (sym c.joined.ensures)
    (is_refuted c.args.level d c.args.defs known c.args.begin c.requires.defs c.requires.begin c.in-Some.end (ends (Some c.in-Some.end) c.in-Some.is) has c.if-end.false
    (λ can. apart _ (c.in_ok-is_sent.ensures.1 can) c.if-is_sent.false))
