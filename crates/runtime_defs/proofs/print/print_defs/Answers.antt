use Rattle.std.proofs.Common.{List, ℕ, sym, subst}
use Rattle.std.proofs.lemmas.Result.{IfOk-weaker}
use Rattle.std.proofs.lemmas.Slice.Zip.{AllZip-long}
use Rattle.cocoon_num.specs.Reads.{ReadsDefs}
use Rattle.cocoon_syntax.specs.TreeOf.{design_of}
use Rattle.cocoon_types.specs.Design.{functions}
use Rattle.runtime_defs.specs.Printable.{FitsPlace}
use Rattle.runtime_defs.specs.EntryPlaces.{all_entries, entries_of_places}
use Rattle.runtime_defs.proofs.Derived.{entries_text_reads}
use Rattle.runtime_defs.proofs.Fits.{entries_fit, all_keys}
use Rattle.runtime_defs.proofs.DeclaredWidths.{functions_declared}
use Rattle.runtime_defs.proofs.print.print_defs.Goals as goal

pub text_of-requires-clause-keys : goal.text_of-requires-clause-keys
text_of-requires-clause-keys c = all_keys (functions (design_of c.args.checked.now)) c.args.places.now c.requires

pub text_of-requires-clause-count : goal.text_of-requires-clause-count
text_of-requires-clause-count c = AllZip-long FitsPlace (functions (design_of c.args.checked.now)) c.args.places.now c.requires

pub returns-clause-reads : goal.returns-clause-reads
returns-clause-reads c =
    let d = design_of c.args.checked.now in
    let ps = c.args.places.now in
    IfOk-weaker c.text_of.result _ _ (λ v h. subst (λ (t : List ℕ). ReadsDefs t (entries_of_places d ps)) (sym h)
    (entries_text_reads (all_entries (functions d) ps) (entries_fit (functions d) ps (functions_declared d c.keeps_rules.ensures.named c.keeps_rules.ensures.resolves.rules) c.requires))) c.text_of.ensures
