-- Switches that fit and are readable, from an index on.
use Rattle.std.proofs.Common.{◌≡◌, ℕ, zero, suc, Bool, true, false, ◌&&◌, IsTrue, List, [], ◌∷◌, ◌++◌, Some, map, slice_get, refl, sym, ap, ◌∙◌, subst}
use Rattle.std.proofs.lemmas.List.{append_assoc}
use Rattle.cocoon_num.specs.Lists.{each}
use Rattle.p4_emit.specs.Printed.{printed}
use Rattle.p4_ir.specs.Loading.{rows_file_fits, rows_load}
use Rattle.p4_ir.specs.NetFits.{net_fits, switch_fits, wiring_of}
use Rattle.p4_ir.specs.NetTree as net
use Rattle.p4_ir.specs.P4Reads.{P4Reads}
use Rattle.p4_ir.specs.P4Tree as tree
use Rattle.p4_ir.specs.Wiring.{wiring_fits}
use Rattle.p4_ir.specs.WellKinded.{is_well_kinded, WellKinded}
use Rattle.net_bundle.specs.Bundle.{kept_digest, rows_text, switch_files, all_switch_files}
use Rattle.json_forms.specs.Values.{IsJson}
use Rattle.net_bundle.specs.Readable.{AllReadable}
use Rattle.net_bundle.specs.NetJson.{KeptDigest, rows_data}
use Rattle.net_bundle.specs.declared.fault.BundleFault.{BundleFault}
use Rattle.net_bundle.specs.Writing.{AllFit, NotMade}
use Rattle.net_bundle.proofs.InTurn.{both_fit, stops_before, stops_after}

left_of : (a b : Bool) → IsTrue (a && b) → IsTrue a
left_of true b h = refl
left_of false b h = h

right_of : (a b : Bool) → IsTrue (a && b) → IsTrue b
right_of true b h = h
right_of false b h = cc

pub fits_at : (ss : List net.SwitchFiles) (i : ℕ) (s : net.SwitchFiles) → slice_get ss i ≡ Some s → IsTrue (each switch_fits ss) → IsTrue (switch_fits s)
fits_at [] i s e h = cc
fits_at (t ∷ ss) zero s e h = let same : t ≡ s = cc in subst (λ x. IsTrue (switch_fits x)) same (left_of (switch_fits t) (each switch_fits ss) h)
fits_at (t ∷ ss) (suc i) s e h = fits_at ss i s e (right_of (switch_fits t) (each switch_fits ss) h)

pub readable_on : (s : net.SwitchFiles) (all rest : List net.SwitchFiles) → all ≡ s ∷ rest → P4Reads (printed s.program) s.program → IsJson (rows_text s.rows) (rows_data s.rows)
    → AllReadable rest → AllReadable all
readable_on s all rest e p r a = subst AllReadable (sym e) (p, r, a)

pub limits_on : (s : net.SwitchFiles) (all rest : List net.SwitchFiles) → all ≡ s ∷ rest → AllFit (switch_files s) → AllFit (all_switch_files rest) → AllFit (all_switch_files all)
limits_on s all rest e a b = subst (λ xs. AllFit (all_switch_files xs)) (sym e) (both_fit (switch_files s) (all_switch_files rest) a b)

pub stops_later : (s : net.SwitchFiles) (all rest : List net.SwitchFiles) (fault : BundleFault) → all ≡ s ∷ rest → AllFit (switch_files s) → NotMade (all_switch_files rest) fault
    → NotMade (all_switch_files all) fault
stops_later s all rest fault e a h = subst (λ xs. NotMade (all_switch_files xs) fault) (sym e) (stops_after (switch_files s) (all_switch_files rest) fault a h)

pub stops_here : (s : net.SwitchFiles) (all rest : List net.SwitchFiles) (fault : BundleFault) → all ≡ s ∷ rest → NotMade (switch_files s) fault → NotMade (all_switch_files all) fault
stops_here s all rest fault e h = subst (λ xs. NotMade (all_switch_files xs) fault) (sym e) (stops_before (switch_files s) (all_switch_files rest) fault h)

pub kept_on : (s : net.SwitchFiles) (all rest whole : List net.SwitchFiles) (before after : List KeptDigest) → all ≡ s ∷ rest → after ≡ before ++ map kept_digest (switch_files s)
    → before ++ map kept_digest (all_switch_files all) ≡ map kept_digest (all_switch_files whole) → after ++ map kept_digest (all_switch_files rest) ≡ map kept_digest (all_switch_files whole)
kept_on s all rest whole before after e p h =
    ap (λ xs. xs ++ map kept_digest (all_switch_files rest)) p ∙ append_assoc before (map kept_digest (switch_files s)) (map kept_digest (all_switch_files rest))
    ∙ ap (λ xs. before ++ map kept_digest (all_switch_files xs)) (sym e) ∙ h

parts_fit : (p : tree.Program) (rows : tree.RowsFile) → IsTrue (is_well_kinded p && rows_file_fits rows && rows_load p rows) → WellKinded p
parts_fit p rows h = left_of (is_well_kinded p) (rows_file_fits rows) (left_of (is_well_kinded p && rows_file_fits rows) (rows_load p rows) h)

pub program_fits : (s : net.SwitchFiles) → IsTrue (switch_fits s) → WellKinded s.program
program_fits s h = parts_fit s.program s.rows h

pub switches_fit : (n : net.NetData) → IsTrue (net_fits n) → IsTrue (each switch_fits n.switches)
switches_fit n h = right_of (wiring_fits (wiring_of n)) (each switch_fits n.switches) h
