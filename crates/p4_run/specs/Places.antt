-- Cited by the clauses of resolving, and by what p4_run keeps: where the fields of each header begin among those of all
-- headers.
use Rattle.std.specs.Prelude.{ℕ, ◌+◌, List, [], ◌∷◌, map, length}
use Rattle.cocoon_num.specs.Packets.{Layout}
use Rattle.p4_ir.specs.P4Tree.{P4Header, field_widths}

-- the widths of the fields of some headers
abbrev pub layout_of : List P4Header → Layout
layout_of hs = map (λ (h : P4Header). field_widths h.fields) hs

-- the first field of each header, where that of the first header is given
abbrev pub starts_from : ℕ → Layout → List ℕ
starts_from start [] = []
starts_from start (ws ∷ layout) = start ∷ starts_from (start + length ws) layout
