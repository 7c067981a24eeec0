-- Cited by private clauses: whether a line names its header, if there is one.
use Rattle.std.specs.Prelude.{ℕ, ◌++◌, Bool, false, List, Option, Some, None, codes}
use Rattle.cocoon_num.specs.Names.{same_name}
use Rattle.p4_ir.specs.P4Tree.{P4Header}
use Rattle.p4_texts.specs.KindFaults.{member_keeps}
use Rattle.p4_texts.specs.Written.{MemberText}

abbrev pub member_fits : Option P4Header → MemberText → Bool
member_fits None m = false
member_fits (Some h) m = member_keeps h m

abbrev pub line_fits : Option P4Header → List ℕ → Bool
line_fits None x = false
line_fits (Some h) x = same_name x (codes "h_" ++ h.name)
