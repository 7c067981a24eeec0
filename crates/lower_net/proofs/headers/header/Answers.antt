use Rattle.std.proofs.Common.{map, sym, subst}
use Rattle.cocoon_syntax.specs.TreeOf.{param_of}
use Rattle.cocoon_types.specs.Design.{widths_of}
use Rattle.cocoon_resolve.specs.Kept.{AreDeclared}
use Rattle.lower_net.proofs.headers.header.Goals as goal

pub fields-requires : goal.fields-requires
fields-requires c = subst (λ ps. AreDeclared (widths_of (map param_of ps))) (sym c.deref.ensures.value) c.requires
