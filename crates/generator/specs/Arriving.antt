-- Cited by the clauses of `count_delivered`: which of the packets that are sent through a generated network it delivers.
use Rattle.std.specs.Prelude.{ℕ, List}
use Rattle.cocoon_num.specs.Tree.{Design}
use Rattle.cocoon_types.specs.Runs.{LastGo}
use Rattle.cocoon_types.specs.Tables.{Defs}
use Rattle.generator.specs.Packets.{bytes, source}
use Rattle.p4_ir.specs.NetRuns.{NetGo}
use Rattle.p4_ir.specs.NetTree.{NetData}

-- the most visits of a packet
abbrev pub most_visits : ℕ
most_visits = 16

-- the network delivers the packet of this number at some host, by some choices
pub record Arrives (net : NetData) (hosts number : ℕ) : Type 0 where
  pub choices : List ℕ
  pub host : ℕ
  pub sent : List ℕ
  pub goes : NetGo net (source hosts number) (bytes hosts number) choices most_visits host sent

-- the last level of a design delivers it so
pub record IsReached (design : Design) (defs : Defs) (hosts number : ℕ) : Type 0 where
  pub choices : List ℕ
  pub host : ℕ
  pub sent : List ℕ
  pub goes : LastGo design defs (source hosts number) (bytes hosts number) choices most_visits host sent
