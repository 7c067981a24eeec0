use Rattle.std.proofs.Common.{◌∙◌, refl, sym}
use Rattle.cocoon_resolve.specs.Readers.{field_widths}
use Rattle.cocoon_syntax.specs.TreeOf.{design_of, role_of}
use Rattle.step_cases.proofs.Flattened.{flat_again}
use Rattle.step_cases.proofs.Told.{as_many, told_name}
use Rattle.step_cases.proofs.running.told.Goals as goal

pub returns : goal.returns
returns c =
    let d = design_of c.args.checked.now in
    let fields = c.args.packet.fields in
    record {
      role = c.in_ok-from.ensures ∙ c.bytes.ensures ∙ told_name d c.args.to.role c.args.level c.requires.role (role_of c.role-role.result.now) c.role-role.ensures;
      values = refl;
      fields = sym (flat_again d.headers fields (as_many (field_widths d) fields c.requires.fits));
    }
