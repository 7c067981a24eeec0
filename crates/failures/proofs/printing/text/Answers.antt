use Rattle.std.proofs.Common.{List, ℕ, refl, ap, ◌∙◌}
use Rattle.std.proofs.lemmas.Result.{IfOk-weaker}
use Rattle.cocoon_syntax.specs.TreeOf.{design_of}
use Rattle.runtime_defs.specs.EntryPlaces.{entries_of_places}
use Rattle.failures.specs.Found.{failure_of}
use Rattle.failures.specs.FailureTexts.{failure_text}
use Rattle.failures.proofs.Whole.{whole_is}
use Rattle.failures.proofs.printing.text.Goals as goal

pub returns-clause-text : goal.returns-clause-text
returns-clause-text c =
    let d = design_of c.args.checked.now in
    IfOk-weaker c.finish.result _ _ (λ v h.
    whole_is _ _ _ v.items c.new-out.ensures c.push_all.ensures h
    ∙ ap (λ (t : List ℕ). failure_text c.args.word.now c.args.level c.args.leaf (failure_of d c.args.failure.now) t) c.in_ok-defs.ensures.text) c.finish.ensures

pub returns-clause-tells : goal.returns-clause-tells
returns-clause-tells c =
    let d = design_of c.args.checked.now in
    let tables = c.args.failure.now.defs in
    IfOk-weaker c.finish.result _ _ (λ v h. record {
      defs = c.in_ok-defs.defs;
      is = whole_is _ _ _ v.items c.new-out.ensures c.push_all.ensures h;
      entries = entries_of_places d tables;
      reads = c.in_ok-defs.ensures.reads;
      fits = c.text.ensures.fits;
      are = refl;
    }) c.finish.ensures
