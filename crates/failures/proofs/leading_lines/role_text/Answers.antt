use Rattle.std.proofs.Common.{◌∙◌}
use Rattle.cocoon_syntax.specs.TreeOf.{design_of, role_of}
use Rattle.failures.proofs.Named.{told_name}
use Rattle.failures.proofs.leading_lines.role_text.Goals as goal

pub returns : goal.returns
returns c = c.bytes.ensures ∙ told_name (design_of c.args.checked.now) c.args.role c.args.level c.requires (role_of c.role-declared.result.now) c.role-declared.ensures
