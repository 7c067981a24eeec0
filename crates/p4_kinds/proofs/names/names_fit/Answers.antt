use Rattle.std.proofs.Common.{◌≡◌, ◌&&◌, ◌∙◌, Bool, true, map, sym}
use Rattle.std.proofs.lemmas.Result.{IfOk-weaker}
use Rattle.cocoon_num.specs.Lists.{all_distinct, each}
use Rattle.p4_ir.specs.P4Kinds.{is_meta_name}
use Rattle.p4_ir.specs.P4Tree.{P4Field}
use Rattle.p4_ir.specs.Program.{program_of}
use Rattle.p4_kinds.specs.Parts.{field_name, header_name, header_names_fit}
use Rattle.p4_kinds.proofs.TestFacts.{both_true}
use Rattle.p4_kinds.proofs.names.names_fit.Goals as goal

pub returns : goal.returns
returns c =
    let p = program_of c.args.program.now in
    let headers : Bool = each header_names_fit p.headers && all_distinct (map header_name p.headers) in
    let meta : Bool = each (λ (f : P4Field). is_meta_name f.name) p.meta in
    let headers_fit : headers ≡ true = rw c.items.ensures at (sym c.in_ok-headers_fit.ensures ∙ c.if-not-branch.false) in
    let meta_fits : meta ≡ true = rw c.items-2.ensures at (sym c.are_meta_names.ensures ∙ c.if-not-are_meta_names.false) in
    IfOk-weaker c.are_distinct_fields.result _ _ (λ v h. (rw c.items-3.ensures at h) ∙ both_true headers meta (all_distinct (map field_name p.meta)) headers_fit meta_fits) c.are_distinct_fields.ensures
