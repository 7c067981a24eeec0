-- The network of a design fits, where its programs do.
use Rattle.std.proofs.Common.{◌≡◌, ℕ, ◌<◌, ◌^◌, ◌==◌, ◌||◌, Bool, true, false, List, [], ◌∷◌, length, map, Some, refl, ap, ◌∙◌}
use Rattle.std.proofs.lemmas.Bool.{and_from, eq-eqb}
use Rattle.cocoon_num.specs.Lists.{each, has_number}
use Rattle.cocoon_num.specs.Tree.{Design}
use Rattle.cocoon_types.specs.Rules.{WellFormed}
use Rattle.lowering.specs.Log.{tables_in}
use Rattle.lowering.specs.Lower.{Made}
use Rattle.lowering.specs.Whole.{SwitchRole}
use Rattle.lowering_correct.specs.Groups.{fork_groups}
use Rattle.lowering_correct.specs.Network.{IsNetwork, switch_files}
use Rattle.lowering.specs.Roles.{NetParts, net_parts}
use Rattle.lowering.specs.SwitchProgram.{switch_made, switch_program}
use Rattle.lowering_correct.specs.SwitchRows.{switch_rows}
use Rattle.lowering_correct.specs.Logs.{IsLogOf}
use Rattle.lowering_correct.specs.Writable.{IsWritable}
use Rattle.p4_ir.specs.Loading.{rows_file_fits, rows_load}
use Rattle.p4_ir.specs.NetFits.{net_fits, switch_fits, wiring_of}
use Rattle.p4_ir.specs.NetTree.{NetData}
use Rattle.p4_ir.specs.Wiring.{wiring_fits}
use Rattle.runtime_defs.specs.Fitting.{FitsDesign}
use Rattle.runtime_defs.specs.Places.{Places}
use Rattle.sound_types.specs.Defined.{HasTables}

first_number : (s : ℕ) (ss : List ℕ) → has_number s (s ∷ ss) ≡ true
first_number s ss = ap (λ b. b || has_number s ss) (eq-eqb s s refl)

later_number : (x s : ℕ) (ss : List ℕ) → has_number x ss ≡ true → has_number x (s ∷ ss) ≡ true
later_number x s ss h = either (x == s) h
  where
    either : (b : Bool) → has_number x ss ≡ true → (b || has_number x ss) ≡ true
    either true k = refl
    either false k = k

module _ (logs : (d : Design) (parts : NetParts) (s : ℕ) → WellFormed d → net_parts d ≡ Some parts → IsLogOf d (switch_made parts.role s))
    (loads : (d : Design) (places : Places) (r : SwitchRole) (s : ℕ) → WellFormed d → FitsDesign d places → IsLogOf d (switch_made r s) → length (fork_groups d places) < 2 ^ 16
    → rows_load (switch_program r s) (switch_rows d places (switch_made r s)) ≡ true)
    (fit : (d : Design) (places : Places) (made : List Made) → WellFormed d → FitsDesign d places → IsLogOf d made → length (fork_groups d places) < 2 ^ 16 → length (tables_in made) < 2 ^ 32
    → rows_file_fits (switch_rows d places made) ≡ true)
    (d : Design) (places : Places) (tables : HasTables d places) (parts : NetParts) (are : net_parts d ≡ Some parts) (few : length (fork_groups d places) < 2 ^ 16) where
  one_fits : (s : ℕ) → IsWritable (switch_program parts.role s) (switch_made parts.role s) → switch_fits (switch_files d places parts s) ≡ true
  one_fits s w =
      let log = logs d parts s tables.rules are in
      and_from _ _ (and_from _ _ w.kinds (fit d places (switch_made parts.role s) tables.rules tables.fits log few w.tables))
      (loads d places parts.role s tables.rules tables.fits log few)

  switches_fit : (switches : List ℕ) → ((s : ℕ) → has_number s switches ≡ true → IsWritable (switch_program parts.role s) (switch_made parts.role s)) → each switch_fits (map (switch_files d places parts) switches) ≡ true
  switches_fit [] h = refl
  switches_fit (s ∷ switches) h = and_from _ _ (one_fits s (h s (first_number s switches))) (switches_fit switches (λ x k. h x (later_number x s switches k)))

pub network_fits : ((d : Design) (places : Places) (net : NetData) → HasTables d places → IsNetwork d places net → net.ports < 2 ^ 16 → wiring_fits (wiring_of net) ≡ true)
    → ((d : Design) (parts : NetParts) (s : ℕ) → WellFormed d → net_parts d ≡ Some parts → IsLogOf d (switch_made parts.role s))
    → ((d : Design) (places : Places) (r : SwitchRole) (s : ℕ) → WellFormed d → FitsDesign d places → IsLogOf d (switch_made r s) → length (fork_groups d places) < 2 ^ 16
    → rows_load (switch_program r s) (switch_rows d places (switch_made r s)) ≡ true)
    → ((d : Design) (places : Places) (made : List Made) → WellFormed d → FitsDesign d places → IsLogOf d made → length (fork_groups d places) < 2 ^ 16 → length (tables_in made) < 2 ^ 32
    → rows_file_fits (switch_rows d places made) ≡ true)
    → (d : Design) (places : Places) (net : NetData) → HasTables d places → (n : IsNetwork d places net) → net.ports < 2 ^ 16 → length (fork_groups d places) < 2 ^ 16
    → ((s : ℕ) → has_number s n.switches ≡ true → IsWritable (switch_program n.parts.role s) (switch_made n.parts.role s)) → net_fits net ≡ true
network_fits wired logs loads fit d places net tables n ports few writable =
    and_from (wiring_fits (wiring_of net)) (each switch_fits net.switches) (wired d places net tables n ports)
    (ap (λ (x : NetData). each switch_fits x.switches) n.net_is ∙ switches_fit logs loads fit d places tables n.parts n.parts_are few n.switches writable)
