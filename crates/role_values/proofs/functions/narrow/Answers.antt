use Rattle.std.proofs.Common.{◌≡◌, ◌<◌, ◌≤◌, ◌^◌, get_or, sym, ap, subst, rules, arith, true, Some, None, if◌then◌else◌}
use Rattle.cocoon_num.specs.Values.{fits_width}
use Rattle.role_values.proofs.FunctionSteps.{declared_width, uneven_widths, word_of}
use Rattle.role_values.proofs.functions.narrow.Goals as goal

pub returns-then-widths-args : goal.returns-then-widths-args
returns-then-widths-args c =
    let no = uneven_widths c.args.widths.now c.args.args.now (λ e. omega arith) in
    sym (ap (λ b. if b then Some c.args.args.now else None) no)

pub fits-requires : goal.fits-requires
fits-requires c =
    let e : c.from.result ≡ get_or c.args.widths.now c.loop-index.index 0 = search rules in
    subst (λ w. w ≤ 64) (sym e) (declared_width c.args.widths.now c.loop-index.index c.requires (omega arith))

pub overflow_cast-number : goal.overflow_cast-number
overflow_cast-number c =
    let e : c.from.result ≡ get_or c.args.widths.now c.loop-index.index 0 = search rules in
    let fits : fits_width c.from.result (get_or c.args.args.now c.loop-index.index 0) ≡ true = search rules in
    let small : get_or c.args.args.now c.loop-index.index 0 < 2 ^ 64 = word_of c.from.result (get_or c.args.args.now c.loop-index.index 0)
    (subst (λ w. w ≤ 64) (sym e) (declared_width c.args.widths.now c.loop-index.index c.requires (omega arith))) fits in
    search rules
