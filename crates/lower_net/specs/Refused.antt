-- Cited by the clauses of `lower` and of the laws on lengths in lower_p4: why no network is made.
use Rattle.std.specs.Prelude.{◌≡◌, ℕ, slice_get, Option, Some, None, Result, Ok, Err}
use Rattle.cocoon_num.specs.Tree.{Design}
use Rattle.lowering_correct.specs.Counts.{FirstOver}
use Rattle.lowering_correct.specs.Network.{IsNetwork}
use Rattle.runtime_defs.specs.Places.{Places}
use Rattle.shared_net.specs.Shared.{shared_of}
use Rattle.shared_net.specs.declared.network.SharedNet.{SharedNet}
use Rattle.lower_net.specs.declared.networks.LowerFault.{LowerFault}
use Rattle.lower_net.specs.declared.networks.LowerFault.TheVariants.{Limit, LongProgram, ManyRows, NoMemory}
use Rattle.lower_net.specs.Limits.{long_program, many_rows}

-- No limit is exceeded, and this is the first switch, if there is one.
pub record FirstSwitch (d : Design) (places : Places) (switch : Option ℕ) : Type 0 where
  pub within : FirstOver d places None
  pub first : switch ≡ slice_get within.switches 0

-- No limit is exceeded. The code of the programs is so large that their texts are over the limit of a file, and this is the first
-- switch; or it is not, and there is none.
pub record FirstLongProgram (d : Design) (places : Places) (switch : Option ℕ) : Type 0 where
  pub within : FirstOver d places None
  pub first : switch ≡ long_program within.parts.role within.switches

-- The same of the rows: each switch has more of them than a file can hold.
pub record FirstManyRows (d : Design) (places : Places) (switch : Option ℕ) : Type 0 where
  pub within : FirstOver d places None
  pub first : switch ≡ many_rows d places within.parts.role within.switches

-- the limit is the first that is exceeded; or the texts of programs are over the limit of a file, or else there are too many rows
abbrev pub IsRefused : Design → Places → LowerFault → Type 0
IsRefused d places (Limit limit count) = FirstOver d places (Some (limit, count))
IsRefused d places (LongProgram switch) = FirstLongProgram d places (Some switch)
IsRefused d places (ManyRows switch) = FirstLongProgram d places None × FirstManyRows d places (Some switch)
IsRefused d places NoMemory = Unit {0}

-- why there is none, as far as that is known before anything is made
abbrev pub IsRefusedFirst : Design → Places → LowerFault → Type 0
IsRefusedFirst d places (ManyRows switch) = ⊥
IsRefusedFirst d places fault = IsRefused d places fault

-- the first switch, within all limits and with programs that are not known to be too long; or why there is no network
abbrev pub IsJudged : Design → Places → Result (Option ℕ) LowerFault → Type 0
IsJudged d places (Ok switch) = FirstSwitch d places switch × FirstLongProgram d places None
IsJudged d places (Err fault) = IsRefusedFirst d places fault

-- the network of the design, within all limits and with programs that are not too long and rows that are not too many; or why there is none
abbrev pub Lowers : Design → Places → Result SharedNet LowerFault → Type 0
Lowers d places (Ok net) = IsNetwork d places (shared_of net) × FirstLongProgram d places None × FirstManyRows d places None
Lowers d places (Err fault) = IsRefused d places fault
