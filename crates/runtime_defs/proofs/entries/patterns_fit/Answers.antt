use Rattle.std.proofs.Common.{◌∙◌, sym, map}
use Rattle.std.proofs.lemmas.List.{length-map}
use Rattle.cocoon_syntax.specs.TreeOf.{param_of, pattern_of}
use Rattle.cocoon_num.specs.Tree.{Param}
use Rattle.cocoon_types.specs.Design.{widths_of}
use Rattle.runtime_defs.proofs.Reading.{counts-differ}
use Rattle.runtime_defs.proofs.entries.patterns_fit.Goals as goal

pub returns-then-patterns-params : goal.returns-then-patterns-params
returns-then-patterns-params c = counts-differ (map pattern_of c.args.patterns.now) (widths_of (map param_of c.args.params.now))
    (λ e. c.if-patterns-params.true (sym (length-map c.args.patterns.now pattern_of) ∙ e ∙ length-map (map param_of c.args.params.now) (λ (p : Param). p.width) ∙ length-map c.args.params.now param_of))
