use Rattle.std.proofs.Common.{◌&&◌, ◌∙◌, ap, sym}
use Rattle.cocoon_num.specs.Sorts.{is_declared_width}
use Rattle.p4_ir.specs.Program as ir
use Rattle.p4_resolve.proofs.NameFacts.{seen_more, was_new}
use Rattle.p4_resolve.proofs.fields.declared.Goals as goal

pub returns-clause-passes : goal.returns-clause-passes
returns-clause-passes c = λ names seen.
    let name = c.args.name.now in
    let joins = c.in_ok-is_new.ensures in
    let old = c.args.before.now.keys in
    let new = was_new name old c.is_new.new.names.keys c.in_ok-is_new.is_new names seen joins in
    record {
      fits = ap (λ b. c.args.is_named && b && is_declared_width c.args.width) (sym new) ∙ sym c.fits.ensures ∙ c.in_ok-end.ensures.passed.0;
      seen = seen_more name old c.is_new.new.names.keys c.in_ok-is_new.is_new names seen joins;
      is = ap (λ n. ir.field_of (record { name = n; width = c.args.width })) c.in_ok-name.ensures;
      ends = c.in_ok-end.ensures.passed.1;
    }
