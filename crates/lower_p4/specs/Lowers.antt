-- The clauses of `lower` and `one_lowering` cite it.
-- The network that the compiler makes of a design. The command knows it by this name alone. It follows "Lowering and the P4 text"
-- in docs/FORMATS.md.
use Rattle.std.specs.Prelude.{◌≡◌, ℕ, Some}
use Rattle.cocoon_num.specs.Tree.{Design, DefsText}
use Rattle.p4_ir.specs.P4Tree.{Program}
use Rattle.p4_ir.specs.NetTree.{NetData}
use Rattle.runtime_defs.specs.Places.{Places}
use Rattle.lowering_correct.specs.Network.{IsNetwork}
use Rattle.lowering.specs.Roles.{NetParts, net_parts}
use Rattle.lowering.specs.SwitchProgram.{switch_program}
use Rattle.lower_p4.specs.OfText.{AreOfText}

-- the program that the switch of this number runs, whatever the definitions are
unfoldable pub RunsProgram : Design → (switch : ℕ) → Program → Type 0
RunsProgram design switch program =
    (parts : NetParts) × (net_parts design ≡ Some parts) × (program ≡ switch_program parts.role switch)

-- the network that the compiler makes of the design under the definitions
unfoldable pub Lowers : Design → DefsText → NetData → Type 0
Lowers design defs net = (places : Places) × AreOfText design defs places × IsNetwork design places net
