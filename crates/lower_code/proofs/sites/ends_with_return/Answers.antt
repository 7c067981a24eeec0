use Rattle.std.proofs.Common.{◌≡◌, [], ◌∷◌, ◌++◌, if◌then◌else◌, map, sym, ap, ◌∙◌}
use Rattle.std.proofs.lemmas.List.{map-append}
use Rattle.p4_ir.specs.P4Tree as tree
use Rattle.p4_ir.specs.Program.{stmt_of}
use Rattle.lowering.specs.LowerSites.{with_return}
use Rattle.lower_code.proofs.SiteSteps.{return_last}
use Rattle.lower_code.proofs.sites.ends_with_return.Goals as goal

pub returns-in-Some : goal.returns-in-Some
returns-in-Some c =
    let whole = map stmt_of c.args.code.now in
    let before = map stmt_of c.in-Some.field-0-1.now in
    let last = stmt_of c.in-Some.last.now in
    let is : whole ≡ before ++ last ∷ [] = ap (map stmt_of) c.in-Some.ensures.cases.0 ∙ map-append stmt_of c.in-Some.field-0-1.now (c.in-Some.last.now ∷ []) in
    ap with_return is ∙ return_last before last
    ∙ (λ i. if sym c.is_return.ensures i then sym is i else (sym is i ++ (tree.p_return ∷ [])))
