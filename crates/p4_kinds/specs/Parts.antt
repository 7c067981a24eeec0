-- Cited by private clauses: parts of the kind rules, each as P4Kinds of p4_ir has it.
use Rattle.std.specs.Prelude.{ℕ, suc, ◌%◌, ◌==◌, ◌&&◌, Bool, true, false, not, nat_le, List, [], ◌∷◌, map, if◌then◌else◌, Option, Some, None, option_and_then, is_some}
use Rattle.cocoon_num.specs.Lists.{each, all_distinct}
use Rattle.cocoon_num.specs.Packets.{total}
use Rattle.cocoon_num.specs.Sorts.{is_declared_width}
use Rattle.cocoon_num.specs.Tokens.{is_letter, is_run, is_run_byte}
use Rattle.p4_ir.specs.P4Tree.{P4Field, P4Header, Program, field_widths}
use Rattle.p4_ir.specs.P4Kinds.{block_fits, last_is_digit, numbers_of}
use Rattle.p4_kinds.specs.Depths.{is_shallow_body}
use Rattle.p4_kinds.specs.Typed.{within}

-- ---- names

abbrev pub field_name : P4Field → List ℕ
field_name f = f.name

abbrev pub header_name : P4Header → List ℕ
header_name h = h.name

-- a letter, then letters, digits and `_`, and a digit at the end
abbrev pub is_numbered : List ℕ → Bool
is_numbered [] = false
is_numbered (b ∷ bs) = is_letter b && not (b == 95) && each is_run_byte bs && last_is_digit (b ∷ bs)

abbrev pub header_names_fit : P4Header → Bool
header_names_fit h =
    is_run h.name && each (λ (f : P4Field). is_run f.name) h.fields
    && all_distinct (map (λ (f : P4Field). f.name) h.fields)

-- ---- widths

abbrev pub header_widths_fit : P4Header → Bool
header_widths_fit h = each is_declared_width (field_widths h.fields) && (total (field_widths h.fields) % 8 == 0)

-- ---- numbers of tables

-- the least number that may follow these, where each is at least the one that may come next; else none
abbrev pub number_after : ℕ → List ℕ → Option ℕ
number_after least [] = Some least
number_after least (n ∷ ns) = if nat_le least n then number_after (suc n) ns else None

-- the numbers of both controls, one after the other
abbrev pub ascending : Program → Bool
ascending p =
    is_some (option_and_then (λ least. number_after least (numbers_of p.egress.tables))
    (number_after 0 (numbers_of p.ingress.tables)))

-- ---- statements

abbrev pub bodies_fit : Program → Bool
bodies_fit p =
    block_fits (within p true (numbers_of p.ingress.tables)) p.ingress.body
    && block_fits (within p false (numbers_of p.egress.tables)) p.egress.body

abbrev pub are_shallow : Program → Bool
are_shallow p = is_shallow_body p.ingress.body && is_shallow_body p.egress.body
