-- How the names of a tree that was read are spelled. `headers_are_spelled` (cocoon_types) and what a `Checked` keeps (cocoon_resolve) cite it.
use Rattle.std.specs.Prelude.{◌&&◌, Bool}
use Rattle.cocoon_num.specs.Lists.{each}
use Rattle.cocoon_num.specs.Tokens.{is_run}
use Rattle.cocoon_num.specs.Tree.{Design, HeaderDecl, Param}

-- the names of a header and of its fields are one or more letters, digits and `_`
abbrev pub header_is_spelled : HeaderDecl → Bool
header_is_spelled h = is_run h.name.text && each (λ (p : Param). is_run p.name.text) h.fields

-- those of each header
abbrev pub is_spelled : Design → Bool
is_spelled d = each header_is_spelled d.headers
