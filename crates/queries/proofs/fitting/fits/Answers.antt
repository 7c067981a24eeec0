use Rattle.std.proofs.Common.{◌≡◌, ◌<◌, length, map, ◌∙◌, arith}
use Rattle.cocoon_resolve.specs.Readers.{assumptions_to}
use Rattle.cocoon_syntax.specs.TreeOf.{assume_of, design_of, param_of}
use Rattle.cocoon_types.specs.Design.{widths_of}
use Rattle.runtime_defs.specs.Printable.{all_fit_widths}
use Rattle.queries.proofs.Instances.{fewer, is_fit}
use Rattle.queries.proofs.fitting.fits.Goals as goal

pub assumption-assumed-requires : goal.assumption-assumed-requires
assumption-assumed-requires c =
    let f = fewer (design_of c.args.checked.now) c.args.level in
    let e = c.assume_count.ensures in
    let l = c.if-instance-assume_count.false in
    omega (arith, e, f, l)

pub returns : goal.returns
returns c =
    let d = design_of c.args.checked.now in
    let i = c.args.instance.now in
    let a = assume_of c.assumption-assumed.result.now in
    let among : i.number < length (assumptions_to c.args.level d) = (let e = c.assume_count.ensures in let l = c.if-instance-assume_count.false in omega (arith, e, l)) in
    let same : c.numbers_fit.result ≡ all_fit_widths (widths_of a.params) i.values = c.numbers_fit.ensures ∙ (λ k. all_fit_widths (widths_of (map param_of (c.deref.ensures.value k))) (c.items.ensures k)) in
    is_fit d c.args.level i a c.assumption-assumed.ensures among c.numbers_fit.result same
