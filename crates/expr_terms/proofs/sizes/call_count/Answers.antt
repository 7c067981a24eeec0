use Rattle.std.proofs.Common.{None, get_or, length, subst, sym, arith}
use Rattle.std.proofs.lemmas.Option.{slice_get-get_or}
use Rattle.cocoon_syntax.specs.TreeOf.{design_of}
use Rattle.expr_terms.specs.Sizes.{IsCount, functions_before}
use Rattle.expr_terms.proofs.Found.{calls_at, none_called}
use Rattle.expr_terms.proofs.sizes.call_count.Goals as goal

pub bounds-counting-number : goal.bounds-counting-number
bounds-counting-number c =
    (calls_at (design_of c.args.counting.now.checked.now) (length c.args.counting.now.sizes.now) c.args.name.now c.in-Some.number c.requires.before (sym c.in-Some.ensures)).within

pub returns-in-Some : goal.returns-in-Some
returns-in-Some c =
    let sizes = c.args.counting.now.sizes.now in
    let f = calls_at (design_of c.args.counting.now.checked.now) (length sizes) c.args.name.now c.in-Some.number c.requires.before (sym c.in-Some.ensures) in
    let size = get_or sizes c.in-Some.number None in
    subst (λ n. IsCount n size) (sym f.nodes) (c.requires.each_ c.in-Some.number f.function size f.is (slice_get-get_or sizes c.in-Some.number None f.within))

pub returns-in-None : goal.returns-in-None
returns-in-None c =
    let sizes = c.args.counting.now.sizes.now in
    let e = (none_called (functions_before (design_of c.args.counting.now.checked.now) (length sizes)) c.args.name.now (sym c.in-None.ensures)).1 in
    (sym e, omega (arith, e))
