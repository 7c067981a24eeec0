-- Cited by the clauses of all laws here: values of a type, and variables and packets that are as a scope has them.
use Rattle.std.specs.Prelude.{◌≡◌, ◌<◌, ◌^◌, true, List, [], ◌∷◌, Option, Some, None}
use Rattle.cocoon_num.specs.PacketForms.{PacketFits}
use Rattle.cocoon_num.specs.Packets.{Packet}
use Rattle.cocoon_num.specs.Sorts.{Sort, bits_sort, truth_sort}
use Rattle.cocoon_num.specs.Tree.{Param}
use Rattle.cocoon_num.specs.Values.{Value, number, truth}
use Rattle.cocoon_types.specs.Design.{layout}
use Rattle.cocoon_types.specs.Typing.{Scope}
use Rattle.cocoon_types.specs.Val.{Env}

-- the value is of the type; a number fits its width
abbrev pub IsOfSort : Sort → Value → Type 0
IsOfSort (bits_sort w) (number v n) = (v ≡ w) × (n < 2 ^ w)
IsOfSort truth_sort (truth b) = Unit {0}
IsOfSort _ _ = ⊥

-- there is a value, and it is of the type
abbrev pub HasValue : Sort → Option Value → Type 0
HasValue t None = ⊥
HasValue t (Some v) = IsOfSort t v

-- the variables are these, each with a number of its width
abbrev pub Binds : List Param → Env → Type 0
Binds [] [] = Unit {0}
Binds (p ∷ ps) (b ∷ env) = (b.name ≡ p.name.text) × IsOfSort (bits_sort p.width) b.value × Binds ps env
Binds _ _ = ⊥

-- the variables are those in scope, and where there is a packet, it is one of the design's layout
pub record Matches (s : Scope) (env : Env) (packet : Packet) : Type 0 where
  pub variables : Binds s.vars env
  pub packet_fits : s.packet ≡ true → PacketFits (layout s.design) packet
