-- Cited by the clauses of all that sets fields: a packet with a field set, where there is this field and the number fits it.
use Rattle.std.specs.Prelude.{ℕ, List, if◌then◌else◌, Option, Some, None, option_and_then}
use Rattle.cocoon_num.specs.Packets.{Packet}
use Rattle.cocoon_num.specs.Tree.{HeaderDecl}
use Rattle.cocoon_num.specs.Values.{fits_width}
use Rattle.cocoon_types.specs.Design.{field_width, write_field}

-- the packet with the field f of the header h set to n
abbrev pub written : List HeaderDecl → Packet → List ℕ → List ℕ → ℕ → Option Packet
written headers packet h f n =
    option_and_then (λ width. if fits_width width n then Some (write_field headers packet h f n) else None) (field_width headers h f)
