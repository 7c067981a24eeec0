-- What a network delivers, against the design that it was made from: copy for copy what the last level delivers, and
-- nothing that the topmost specification may not make. It follows "The network" in docs/FORMATS.md and "Hosts" in
-- docs/LANGUAGE.md.
use Rattle.std.specs.Prelude.{◌↔◌, ℕ, List}
use Rattle.cocoon_num.specs.Tree.{Design}
use Rattle.cocoon_types.specs.Tables.{Defs}
use Rattle.cocoon_types.specs.Runs.{LastGo, MayMake}
use Rattle.p4_ir.specs.NetTree.{NetData}
use Rattle.p4_ir.specs.NetRuns.{NetGo}

-- for every host, bytes, choices and number of visits the network delivers what the last level delivers, and nothing
-- where that delivers nothing
abbrev pub DeliversExactly : NetData → Design → Defs → Type 0
DeliversExactly net design defs = (a : ℕ) (bytes choices : List ℕ) (visits b : ℕ) (sent : List ℕ) →
    NetGo net a bytes choices visits b sent ↔ LastGo design defs a bytes choices visits b sent

-- each delivery of the network is one that the topmost specification may make
abbrev pub DeliversWithin : NetData → Design → Defs → Type 0
DeliversWithin net design defs = (a : ℕ) (bytes choices : List ℕ) (visits b : ℕ) (sent : List ℕ) →
    NetGo net a bytes choices visits b sent → MayMake design defs a bytes b sent
