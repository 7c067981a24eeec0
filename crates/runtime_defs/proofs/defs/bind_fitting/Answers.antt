use Rattle.std.proofs.Common.{◌≤◌, All, map, ap, subst, sym, ◌∙◌}
use Rattle.std.specs.List.{AllZip}
use Rattle.cocoon_syntax.specs.TreeOf.{design_of, entry_of}
use Rattle.cocoon_types.specs.Design.{functions}
use Rattle.cocoon_types.specs.Tables.{defs_of}
use Rattle.runtime_defs.specs.Bound.{IsPlace, most_rows, row_count}
use Rattle.runtime_defs.specs.Fitting.{FitsDesign, IsMasked}
use Rattle.runtime_defs.specs.Stands.{Stands}
use Rattle.runtime_defs.proofs.Chosen.{own-entries}
use Rattle.runtime_defs.proofs.Masked.{places-masked}
use Rattle.runtime_defs.proofs.Fitted.{right-entries, right-fits, right-stands}
use Rattle.runtime_defs.proofs.Shapes.{shapes-fit}
use Rattle.runtime_defs.proofs.defs.bind_fitting.Goals as goal

pub returns-then-count-gt-MOST_ROWS-clause-refused : goal.returns-then-count-gt-MOST_ROWS-clause-refused
returns-then-count-gt-MOST_ROWS-clause-refused c = (
  c.requires,
  c.count_rows-count.ensures ∙ ap (λ es. row_count (map entry_of es)) c.deref.ensures.value,
  c.if-count-gt-MOST_ROWS.true,
)

pub new-requires : goal.new-requires
new-requires c =
    let d = design_of c.args.checked.now in
    let es = c.args.defs.now.entries.items in
    let ts = c.in_ok-tables.tables.items in
    let zip = subst (λ es. AllZip (IsPlace (map entry_of es)) (functions d) ts) c.deref-2.ensures.value c.in_ok-tables.ensures in
    shapes-fit d ts c.keeps_rules.ensures (right-fits d (map entry_of es) ts (right-entries d es ts c.keeps_rules.ensures.rules c.requires zip))

pub returns-clause-bound : goal.returns-clause-bound
returns-clause-bound c = record {
  fits = c.requires;
  few = subst (λ n. n ≤ most_rows) (c.count_rows-count.ensures ∙ ap (λ es. row_count (map entry_of es)) c.deref.ensures.value) c.if-count-gt-MOST_ROWS.false;
  tables =
      let zip = subst (λ es. AllZip (IsPlace (map entry_of es)) (functions (design_of c.args.checked.now)) c.in_ok-tables.tables.items) c.deref-2.ensures.value c.in_ok-tables.ensures in
      subst (AllZip (IsPlace (map entry_of c.args.defs.now.entries.items)) (functions (design_of c.args.checked.now))) (sym c.in_ok-new.ensures) zip;
}

pub returns-clause-fits : goal.returns-clause-fits
returns-clause-fits c =
    let d = design_of c.args.checked.now in
    let es = c.args.defs.now.entries.items in
    let ts = c.in_ok-tables.tables.items in
    let zip = subst (λ es. AllZip (IsPlace (map entry_of es)) (functions d) ts) c.deref-2.ensures.value c.in_ok-tables.ensures in
    subst (FitsDesign d) (sym c.in_ok-new.ensures) (right-fits d (map entry_of es) ts (right-entries d es ts c.keeps_rules.ensures.rules c.requires zip))

pub returns-clause-stands : goal.returns-clause-stands
returns-clause-stands c =
    let d = design_of c.args.checked.now in
    let es = c.args.defs.now.entries.items in
    let ts = c.in_ok-tables.tables.items in
    let zip = subst (λ es. AllZip (IsPlace (map entry_of es)) (functions d) ts) c.deref-2.ensures.value c.in_ok-tables.ensures in
    subst (λ places. Stands d places (defs_of d (map entry_of es))) (sym c.in_ok-new.ensures) (right-stands d (map entry_of es) ts (right-entries d es ts c.keeps_rules.ensures.rules c.requires zip))

pub returns-clause-masked : goal.returns-clause-masked
returns-clause-masked c =
    let d = design_of c.args.checked.now in
    let es = c.args.defs.now.entries.items in
    let ts = c.in_ok-tables.tables.items in
    let zip = subst (λ es. AllZip (IsPlace (map entry_of es)) (functions d) ts) c.deref-2.ensures.value c.in_ok-tables.ensures in
    subst (All IsMasked) (sym c.in_ok-new.ensures) (places-masked (map entry_of es) (functions d) ts (own-entries es) zip)
