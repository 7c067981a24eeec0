use Rattle.std.proofs.Common.{◌∙◌, IsUtf8, List, ℕ, subst, sym}
use Rattle.cocoon_syntax.specs.TreeOf.{design_of}
use Rattle.cert_text.proofs.DefsUtf8.{defs_utf8}
use Rattle.cert_text.proofs.members.defs_value.Goals as goal

pub utf8-requires : goal.utf8-requires
utf8-requires c =
    subst (λ (bytes : List ℕ). IsUtf8 bytes) (sym (c.bytes.ensures ∙ c.in_ok-printed.ensures.text))
    (defs_utf8 (design_of c.args.checked.now) c.args.defs.now c.know_reading.ensures.named)
