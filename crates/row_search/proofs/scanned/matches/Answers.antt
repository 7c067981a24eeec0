use Rattle.std.proofs.Common.{◌<◌, bit_and, get_or, sym, ap, ◌∙◌, subst}
use Rattle.row_search.specs.Keyed.{keyed}
use Rattle.row_search.specs.declared.scanned.KeyTest.{KeyTest}
use Rattle.row_search.proofs.ScanFacts.{first_fails, keyed_counted}
use Rattle.row_search.proofs.scanned.matches.Goals as goal

pub returns-then-first-test : goal.returns-then-first-test
returns-then-first-test c =
    let none : KeyTest = record { mask = 0; value = 0 } in
    let test = get_or c.args.tests.now 0 none in
    let xs = keyed c.args.meta.now c.args.keys.now in
    sym (first_fails c.args.tests.now none xs (subst (λ n. 0 < n) (sym (keyed_counted c.args.meta.now c.args.keys.now)) c.requires.some)
    (λ e. c.if-first-test.true (ap (λ n. bit_and n test.mask) c.requires.first ∙ e)))
