-- The clauses of `lower` cite it.
-- What it is to be a lowering of a design under definitions, and why there is none. It follows "Lowering and the P4 text" in
-- docs/FORMATS.md.
use Rattle.std.specs.Prelude.{◌≡◌, ◌<◌, ◌≤◌, ℕ, List, [], ◌∷◌, IsTrue, length, Some, None}
use Rattle.cocoon_num.specs.Tree.{Design, DefsText}
use Rattle.cocoon_types.specs.Tables.{defs_of}
use Rattle.lowering.specs.Delivers.{DeliversExactly}
use Rattle.p4_ir.specs.FileSizes.{most_file_bytes}
use Rattle.p4_ir.specs.P4Tree.{Program}
use Rattle.p4_ir.specs.NetTree.{SwitchFiles, NetData}
use Rattle.p4_ir.specs.NetFits.{net_fits}
use Rattle.p4_emit.specs.Printed.{printed}
use Rattle.runtime_defs.specs.Places.{Places}
use Rattle.lowering_correct.specs.Counts.{FirstOver}
use Rattle.lowering_correct.specs.Network.{IsNetwork}
use Rattle.lower_rows.specs.AllRows.{all_rows}
use Rattle.lower_net.specs.Limits.{most_file_rows}
use Rattle.lower_p4.specs.Lowers.{Lowers, RunsProgram}
use Rattle.lower_p4.specs.LowerLimits.{IsOver, IsWithin}
pub use Rattle.lower_p4.specs.OfText.{AreOfText}
use Rattle.lower_net.specs.declared.networks.LowerFault.{LowerFault}
use Rattle.lower_net.specs.declared.networks.LowerFault.TheVariants.{Limit, LongProgram, ManyRows, NoMemory}

-- each switch runs the program of its number
abbrev pub RunPrograms : (ℕ → Program → Type 0) → List SwitchFiles → Type 0
RunPrograms of_number [] = Unit {0}
RunPrograms of_number (s ∷ ss) = of_number s.number s.program × RunPrograms of_number ss

-- A network is a lowering of a design under definitions: it delivers exactly what the last level delivers, each switch's
-- program depends on the design and its number alone, and it can be written as a bundle.
pub record IsLowering (design : Design) (defs : DefsText) (net : NetData) : Type 0 where
  pub exact : DeliversExactly net design (defs_of design defs)
  -- there is one program for each number, by the law `one_lowering`
  pub programs : RunPrograms (RunsProgram design) net.switches
  pub writable : IsTrue (net_fits net)

-- ---- why there is none

-- the first switch has this number, and the text of its program has more bytes than its file may have
abbrev pub StartsLong : (switch : ℕ) → List SwitchFiles → Type 0
StartsLong switch [] = ⊥
StartsLong switch (s ∷ ss) = (s.number ≡ switch) × (most_file_bytes < length (printed s.program))

-- the text of the program of the first switch, if there is one, fits its file
abbrev pub StartsShort : List SwitchFiles → Type 0
StartsShort [] = Unit {0}
StartsShort (s ∷ ss) = length (printed s.program) ≤ most_file_bytes

-- the first switch has this number, the text of its program fits its file, and it has more rows than a file can hold
abbrev pub StartsFull : (switch : ℕ) → List SwitchFiles → Type 0
StartsFull switch [] = ⊥
StartsFull switch (s ∷ ss) = (s.number ≡ switch) × (length (printed s.program) ≤ most_file_bytes) × (most_file_rows < length (all_rows s.rows))

-- why there is no network of a design under tables
abbrev pub HasNoNetwork : Design → Places → LowerFault → Type 0
HasNoNetwork d places (Limit limit count) = FirstOver d places (Some (limit, count))
HasNoNetwork d places (LongProgram switch) = (net : NetData) × IsNetwork d places net × FirstOver d places None × StartsLong switch net.switches
HasNoNetwork d places (ManyRows switch) = (net : NetData) × IsNetwork d places net × FirstOver d places None × StartsFull switch net.switches
HasNoNetwork d places NoMemory = Unit {0}

-- there is a network within all limits, but it starts with a file that is too long
pub record IsTooLong (design : Design) (defs : DefsText) (Starts : List SwitchFiles → Type 0) : Type 0 where
  pub net : NetData
  pub lowers : Lowers design defs net
  pub within : IsWithin design defs
  pub starts : Starts net.switches

-- why there is no lowering
abbrev pub NotLowered : Design → DefsText → LowerFault → Type 0
NotLowered design defs (Limit limit count) = IsOver design defs limit count
NotLowered design defs (LongProgram switch) = IsTooLong design defs (StartsLong switch)
NotLowered design defs (ManyRows switch) = IsTooLong design defs (StartsFull switch)
NotLowered design defs NoMemory = Unit {0}
