use Rattle.std.proofs.Common.{◌≤◌, ◌*◌, ℕ, List, [], ◌∷◌, length, flat_map, inl, inr, ap, arith, refl, subst, sym}
use Rattle.cocoon_syntax.specs.TreeOf.{design_of}
use Rattle.cocoon_types.specs.Design.{last_level}
use Rattle.cocoon_types.specs.Tables.{defs_of}
use Rattle.shared_net.specs.Shared.{shared_of}
use Rattle.lower_p4.specs.Lowering.{NotLowered, StartsFull, StartsLong}
use Rattle.lower_net.specs.declared.networks.LowerFault.TheVariants.{Limit, LongProgram, ManyRows}
use Rattle.cocoon_num.specs.Tree.{Design}
use Rattle.lower_p4.specs.LowerLimits.{IsWithin}
use Rattle.lower_p4.specs.Lowers.{Lowers}
use Rattle.refinement.specs.Assumptions.{Meets}
use Rattle.runtime_defs.specs.Places.{Places}
use Rattle.net_bundle.specs.declared.file.BundleFile.{BundleFile}
use Rattle.p4_ir.specs.NetTree.{NetData, SwitchFiles}
use Rattle.command_reports.specs.DesignTexts.{BindsTables}
use Rattle.p4_ir.specs.P4Tree.{RowsFile, TableRows}
use Rattle.net_bundle.specs.Bundle.{all_switch_files, rows_text}
use Rattle.net_bundle.specs.Writing.{FirstOver, most_of}
use Rattle.net_bundle.specs.declared.file.BundleFile.TheVariants.{Program, Rows}
use Rattle.command_answers.specs.Compiling as lowered
use Rattle.command_answers.specs.Compiling.{LongFile, LowersTexts}
use Rattle.command_reports.specs.declared.files.CommandFile.TheVariants.{Bundle}
use Rattle.command_answers.proofs.Assuming.{of_text}
use Rattle.command_answers.proofs.compile.lower_bound.Goals as goal

pub returns-in-Ok-clause-lowers : goal.returns-in-Ok-clause-lowers
returns-in-Ok-clause-lowers c = λ design defs binds.
    let checked = c.args.bound.now.checked in
    let d = design_of checked in
    let lowering = c.in-Ok.ensures.lowering binds.entries binds.are in
    let met : Meets (last_level d) d (defs_of d binds.entries) = of_text (Meets (last_level d) d) (c.code_literals_fit.ensures.designs checked) binds c.requires.met in
    let made : LowersTexts design defs (shared_of c.in-Ok.net) = record {
      tree = _;
      tables = _;
      binds = binds;
      few = c.requires.few;
      refines = c.requires.refines;
      met = met;
      within = c.in-Ok.ensures.within binds.entries binds.are;
      lowers = c.in-Ok.ensures.lowers binds.entries binds.are;
      lowering = lowering;
      stays = c.deliveries_stay_within.ensures d binds.entries (shared_of c.in-Ok.net) binds.binds.checked.resolves.rules (c.code_literals_fit.ensures.designs checked) binds.binds.fits binds.are.fit
          c.requires.refines met lowering.exact;
    } in
    (made, refl)

pub returns-in-Ok-clause-network : goal.returns-in-Ok-clause-network
returns-in-Ok-clause-network c = c.in-Ok.ensures.lowers

pub returns-in-Err-Limit-clause-refused : goal.returns-in-Err-Limit-clause-refused
returns-in-Err-Limit-clause-refused c = λ design defs binds.
    let told : NotLowered (design_of c.args.bound.now.checked) binds.entries (Limit c.in-Err-Limit.limit c.in-Err-Limit.count) =
    subst (NotLowered (design_of c.args.bound.now.checked) binds.entries) c.in-Err-Limit.field-0-is (c.in-Err-Limit.ensures.refused binds.entries binds.are) in
    (binds, told)

-- of the two files of the first switch

program_over : (switch : ℕ) (ss : List SwitchFiles) → StartsLong switch ss → FirstOver (all_switch_files ss) (Program switch)
program_over switch [] h = absurd h
program_over switch (s ∷ ss) h = inl (ap Program h.0, h.1)

-- what the law on the texts of rows says
abbrev RowsLong : Type 0
RowsLong = (r : RowsFile) → 20 * length (flat_map (λ (t : TableRows). t.rows) r.tables) ≤ length (rows_text r)

rows_over : RowsLong → (switch : ℕ) (ss : List SwitchFiles) → StartsFull switch ss → FirstOver (all_switch_files ss) (Rows switch)
rows_over law switch [] h = absurd h
rows_over law switch (s ∷ ss) h =
    let long = law s.rows in
    let many = h.2 in
    inr (h.1, inl (ap Rows h.0, omega (arith, long, many)))

-- that file is the first that is too long
long_file : {design defs : List ℕ} {d : Design} {tables : Places} (binds : BindsTables design defs d tables) (first : BundleFile) (net : NetData) → Lowers d binds.entries net → IsWithin d binds.entries
    → FirstOver (all_switch_files net.switches) first → LongFile design defs d tables (Bundle first) (most_of first)
long_file binds first net lowers within long = record {
  binds = binds;
  first = first;
  names = refl;
  limit = refl;
  net = net;
  lowers = lowers;
  within = within;
  long = long;
}

pub returns-in-Err-LongProgram-clause-refused : goal.returns-in-Err-LongProgram-clause-refused
returns-in-Err-LongProgram-clause-refused c = λ design defs binds.
    let switch = c.in-Err-LongProgram.switch in
    let d = design_of c.args.bound.now.checked in
    let told : NotLowered d binds.entries (LongProgram switch) = subst (NotLowered d binds.entries) c.in-Err-LongProgram.field-0-is (c.in-Err-LongProgram.ensures.refused binds.entries binds.are) in
    subst (lowered.NotLowered design defs d c.args.bound.now.defs) (sym c.from.ensures) (long_file binds (Program switch) told.net told.lowers told.within (program_over switch told.net.switches told.starts))

pub returns-in-Err-ManyRows-clause-refused : goal.returns-in-Err-ManyRows-clause-refused
returns-in-Err-ManyRows-clause-refused c = λ design defs binds.
    let switch = c.in-Err-ManyRows.switch in
    let d = design_of c.args.bound.now.checked in
    let told : NotLowered d binds.entries (ManyRows switch) = subst (NotLowered d binds.entries) c.in-Err-ManyRows.field-0-is (c.in-Err-ManyRows.ensures.refused binds.entries binds.are) in
    subst (lowered.NotLowered design defs d c.args.bound.now.defs) (sym c.from-in-Err-ManyRows.ensures) (long_file binds (Rows switch) told.net told.lowers told.within (rows_over c.rows_are_long.ensures switch told.net.switches told.starts))
