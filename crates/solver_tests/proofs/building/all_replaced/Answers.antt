use Rattle.std.proofs.Common.{◌≡◌, ◌≤◌, ◌∷◌, [], ◌∙◌, rules, sym}
use Rattle.std.proofs.lemmas.List.Elements.{All-from_recursion}
use Rattle.bv_terms.specs.Arenas.{width_at}
use Rattle.bv_terms.specs.Rebuilt.{StandsFrom}
use Rattle.solver_tests.proofs.Replacing.{has-width, stands-from}
use Rattle.solver_tests.proofs.building.all_replaced.Goals as goal

pub substitute_from-requires-clause-inputs : goal.substitute_from-requires-clause-inputs
substitute_from-requires-clause-inputs c =
    let after : c.args.first ≤ c.input_term-own.result = search rules in
    All-from_recursion (StandsFrom c.args.terms.now c.args.first) (c.args.input ∷ [])
    (stands-from c.args.terms.now c.args.input c.args.first c.input_term-own.result c.count.ensures.arena c.input_term-own.ensures after, tt)

pub substitute_from-requires-clause-widths : goal.substitute_from-requires-clause-widths
substitute_from-requires-clause-widths c =
    let nodes = c.args.terms.now in
    let equal : c.width.result ≡ c.width-2.result = search rules in
    let same : width_at nodes c.input_term-own.result ≡ width_at nodes c.args.by = sym c.width.ensures ∙ equal ∙ c.width-2.ensures in
    (has-width nodes c.args.input c.args.by c.input_term-own.result c.count.ensures.arena c.input_term-own.ensures same, tt)
