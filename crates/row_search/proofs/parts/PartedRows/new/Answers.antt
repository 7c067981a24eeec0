use Rattle.std.proofs.Common.{◌≡◌, ap, get_or, length, map, sym, ◌∙◌}
use Rattle.std.proofs.lemmas.List.{length-map}
use Rattle.p4_ir.specs.NetOf.{key_row_of}
use Rattle.p4_ir.specs.P4Tree.{KeyRow}
use Rattle.row_search.specs.Least.{least_place}
use Rattle.row_search.specs.Placed.{results_of}
use Rattle.row_search.proofs.PartFacts.{result_there}
use Rattle.row_search.proofs.parts.PartedRows.new.Goals as goal

pub returns-clause-answers : goal.returns-clause-answers
returns-clause-answers c = λ xs l.
    let rows = map key_row_of c.args.rows.now in
    let parts = c.in_ok-parts.parts.items in
    let otherwise = c.args.default in
    let many : length (results_of rows) ≡ length rows = length-map rows (λ (r : KeyRow). r.result) in
    (λ k. get_or (c.in_ok-results.ensures k) (least_place (length (c.in_ok-results.ensures k)) parts xs) otherwise)
    ∙ (λ k. get_or (results_of rows) (least_place (many k) parts xs) otherwise)
    ∙ ap (λ p. get_or (results_of rows) p otherwise) (c.in_ok-parts.ensures.places xs l)
    ∙ result_there xs otherwise c.args.numbers.now rows (c.requires.numbers ∙ sym (length-map c.args.rows.now key_row_of))
