use Rattle.std.proofs.Common.{◌≡◌, ◌∙◌, subst, sym}
use Rattle.bundle_reader.specs.Parts.{HoldsRows}
use Rattle.bundle_reader.proofs.Steps.{same_bytes}
use Rattle.bundle_reader.proofs.last_rows.LastRows.has.Goals as goal

pub returns : goal.returns
returns c is =
    let same_digest : c.args.self.now.digest ≡ c.args.kept.now =
    sym c.bytes.ensures ∙ same_bytes c.bytes.result.now c.as_bytes.result.now (sym c.if-ne.false ∙ c.ne.ensures) ∙ c.as_bytes.ensures.value in
    let same : c.args.self.now.bytes.items ≡ c.args.bytes.now =
    sym c.as_slice.ensures.value ∙ same_bytes c.as_slice.result.now c.args.bytes.now (sym c.if-ne-2.false ∙ c.ne-2.ensures) in
    subst (λ b. HoldsRows b c.args.kept.now c.args.self.now) same (subst (λ k. HoldsRows c.args.self.now.bytes.items k c.args.self.now) same_digest c.requires)
