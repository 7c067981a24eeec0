use Rattle.std.proofs.Common.{◌≡◌, ◌∙◌, rules, sym}
use Rattle.bv_terms.specs.Arenas.{width_at}
use Rattle.solver_tests.proofs.Replacing.{has-width}
use Rattle.solver_tests.proofs.building.replaced.Goals as goal

pub substitute-requires-clause-widths : goal.substitute-requires-clause-widths
substitute-requires-clause-widths c =
    let nodes = c.args.terms.now in
    let equal : c.width.result ≡ c.width-2.result = search rules in
    let same : width_at nodes c.input_term.result ≡ width_at nodes c.args.by = sym c.width.ensures ∙ equal ∙ c.width-2.ensures in
    (has-width nodes c.args.input c.args.by c.input_term.result c.count.ensures.arena c.input_term.ensures same, tt)
