use Rattle.std.proofs.Common.{◌≤◌, Some, None, refl, length, sym, ap, subst, ◌∙◌}
use Rattle.std.specs.Prelude.{flat_map, option_map}
use Rattle.std.proofs.lemmas.List.{drop_all}
use Rattle.cocoon_num.specs.Lists.{first_of}
use Rattle.cocoon_syntax.specs.TreeOf.{design_of, function_of}
use Rattle.cocoon_types.specs.Design.{functions}
use Rattle.runtime_defs.specs.declared.fault.DefsFault.TheVariants.{NoDefault}
use Rattle.runtime_defs.specs.Sets.{missing_of}
use Rattle.runtime_defs.proofs.Numbers.{function-numbered}
use Rattle.runtime_defs.proofs.Reading.{missing-first, missing-further}
use Rattle.runtime_defs.proofs.finding.first_missing.Goals as goal

pub returns-then-is_missing : goal.returns-then-is_missing
returns-then-is_missing c = λ fs h.
    let d = design_of c.args.checked.now in
    let f = function_of c.function.result.now in
    c.loop-number.invariant fs h (Some (NoDefault c.loop-number.number))
    (missing-first d fs c.loop-number.number f (functions d) refl c.function.ensures
    (c.is_missing.ensures fs h (function-numbered d c.loop-number.number f c.function.ensures) ∙ c.if-is_missing.true))

pub loop-number-preserved : goal.loop-number-preserved
loop-number-preserved c = λ fs h r l.
    let d = design_of c.args.checked.now in
    let f = function_of c.function.result.now in
    c.loop-number.invariant fs h r
    (missing-further d fs c.loop-number.number f (functions d) r c.function.ensures
    (c.is_missing.ensures fs h (function-numbered d c.loop-number.number f c.function.ensures) ∙ c.if-is_missing.false) l)

pub returns : goal.returns
returns c = λ fs h.
    let d = design_of c.args.checked.now in
    let end : length (functions d) ≤ c.loop-number.number = subst (λ n. n ≤ c.loop-number.number) c.function_count-number-end.ensures.count c.loop-number-test.false in
    c.loop-number.invariant fs h None (ap (λ xs. option_map Some (first_of (flat_map (missing_of fs) xs))) (sym (drop_all c.loop-number.number (functions d) end)))
