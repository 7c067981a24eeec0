-- Tables that fit, and the definitions of their entries.
use Rattle.std.proofs.Common.{◌≡◌, List, All, Option, refl, sym, subst}
use Rattle.std.specs.List.{AllZip}
use Rattle.cocoon_num.specs.Tree.{Design}
use Rattle.cocoon_num.specs.declared.fun_table.FunTable.{FunTable}
use Rattle.cocoon_types.specs.DefsRules.{DefsFit}
use Rattle.cocoon_types.specs.Design.{functions}
use Rattle.cocoon_types.specs.Rules.{WellFormed}
use Rattle.cocoon_types.specs.Tables.{defs_of}
use Rattle.runtime_defs.specs.Printable.{FitsDesign, FitsPlace, IsMasked}
use Rattle.runtime_defs.specs.EntryPlaces.{entries_of_places}
use Rattle.runtime_defs.specs.Tabled.{IsPlace}
use Rattle.refinement.specs.Assumptions.{AreDefinitions}
use Rattle.runtime_defs.specs.Stands.{Stands}
use Rattle.runtime_defs.proofs.Fitted.{right-of, right-stands}
use Rattle.refinement.proofs.Entries.{entries_own, entries_within}
use Rattle.refinement.proofs.SamePlaces.{same_places}

-- their entries have no fault
abbrev pub EntriesFaultless : Type 0
EntriesFaultless = (d : Design) (places : List (Option FunTable)) → WellFormed d → FitsDesign d places → DefsFit d (entries_of_places d places)

-- their entries have these tables
abbrev pub TablesComeBack : Type 0
TablesComeBack = (d : Design) (places : List (Option FunTable)) → WellFormed d → AllZip FitsPlace (functions d) places → All IsMasked places → AllZip (IsPlace (entries_of_places d places)) (functions d) places

pub are_definitions : EntriesFaultless → (d : Design) (places : List (Option FunTable)) → WellFormed d → FitsDesign d places → AreDefinitions d (defs_of d (entries_of_places d places))
are_definitions faultless d places w f = record { entries = entries_of_places d places; fit = faultless d places w f; values_fit = entries_within (functions d) places; are = refl }

pub they_stand : EntriesFaultless → TablesComeBack → (d : Design) (places : List (Option FunTable)) → WellFormed d → FitsDesign d places → All IsMasked places → Stands d places (defs_of d (entries_of_places d places))
they_stand faultless back d places w f m =
    let es = entries_of_places d places in
    right-stands d es places (right-of d es places w (faultless d places w f) (entries_own (functions d) places f.places) (back d places w f.places m))

pub they_are_one : TablesComeBack → (d : Design) (places others : List (Option FunTable)) → WellFormed d → FitsDesign d places → FitsDesign d others → All IsMasked places → All IsMasked others
    → entries_of_places d places ≡ entries_of_places d others → places ≡ others
they_are_one back d places others w f g m n e =
    same_places (entries_of_places d places) (functions d) places others (back d places w f.places m)
    (subst (λ es. AllZip (IsPlace es) (functions d) others) (sym e) (back d others w g.places n))
