-- Switches that have one program are those of a design.
use Rattle.std.proofs.Common.{◌≡◌, ℕ, List, [], ◌∷◌, map, refl, sym, ap, ap₂, ◌∙◌}
use Rattle.cocoon_num.specs.Tree.{Design}
use Rattle.p4_ir.specs.P4Tree.{Program, RowsFile}
use Rattle.p4_ir.specs.NetTree.{SwitchFiles}
use Rattle.runtime_defs.specs.Places.{Places}
use Rattle.lowering.specs.Roles.{NetParts}
use Rattle.lowering.specs.SwitchProgram.{switch_made, switch_program}
use Rattle.lowering_fits.specs.Sharing.{HasOneProgram}
use Rattle.lowering_correct.specs.Network.{switch_files}
use Rattle.lowering_correct.specs.SwitchRows.{switch_rows}
use Rattle.shared_net.specs.Merging.{merged}

abbrev made_switch : Program → Program → RowsFile → ℕ → SwitchFiles
made_switch p q rows s = record { number = s; program = merged s p q; rows = rows }

one_switch : (d : Design) (places : Places) (parts : NetParts) → HasOneProgram parts.role → (p q : Program) (rows : RowsFile)
    → p ≡ switch_program parts.role 0 → q ≡ switch_program parts.role 1 → rows ≡ switch_rows d places (switch_made parts.role 0) → (s : ℕ) → made_switch p q rows s ≡ switch_files d places parts s
one_switch d places parts one p q rows hp hq hr s = λ i. record {
  number = s;
  program = (ap₂ (merged s) hp hq ∙ one.program s) i;
  rows = (hr ∙ ap (switch_rows d places) (sym (one.made s))) i;
}

pub all_switches : (d : Design) (places : Places) (parts : NetParts) → HasOneProgram parts.role → (p q : Program) (rows : RowsFile)
    → p ≡ switch_program parts.role 0 → q ≡ switch_program parts.role 1 → rows ≡ switch_rows d places (switch_made parts.role 0)
    → (ns : List ℕ) → map (made_switch p q rows) ns ≡ map (switch_files d places parts) ns
all_switches d places parts one p q rows hp hq hr [] = refl
all_switches d places parts one p q rows hp hq hr (n ∷ ns) =
    ap₂ (λ x xs. x ∷ xs) (one_switch d places parts one p q rows hp hq hr n) (all_switches d places parts one p q rows hp hq hr ns)
