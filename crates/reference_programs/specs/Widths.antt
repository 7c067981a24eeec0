-- Widths and bits. A bit is a number of the width 1. The clauses of `enter`, `leave` and `is_layout` cite it, and the private
-- ones of `bits` and `layouts`.
use Rattle.std.specs.Prelude.{ℕ, ◌==◌, ◌%◌, ◌&&◌, Bool, List, replicate}
use Rattle.cocoon_num.specs.Lists.{each}
use Rattle.cocoon_num.specs.Sorts.{is_declared_width}
use Rattle.cocoon_num.specs.Packets.{Layout, total, packed, cut}

-- so many fields of one bit
abbrev pub ones : ℕ → List ℕ
ones count = replicate count 1

-- the bits of the fields, the most significant first
abbrev pub bits_of : List ℕ → List ℕ → List ℕ
bits_of ws ns = cut (ones (total ws)) (packed ws ns)

-- each field has 1 to 64 bits, and they fill bytes
abbrev pub is_header : List ℕ → Bool
is_header ws = each is_declared_width ws && (total ws % 8 == 0)

-- such are all the headers
abbrev pub is_layout : Layout → Bool
is_layout layout = each is_header layout
