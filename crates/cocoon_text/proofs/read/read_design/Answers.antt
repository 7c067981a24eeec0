use Rattle.std.proofs.Common.{◌∙◌, ap, map, refl, sym}
use Rattle.cocoon_num.specs.FirstFaults.{BeginsDesign}
use Rattle.cocoon_num.specs.Tokens.{kinds}
use Rattle.cocoon_text.specs.Kinds.{token_of}
use Rattle.cocoon_text.proofs.FirstFaults.{parse_fault}
use Rattle.cocoon_text.proofs.read.read_design.Goals as goal

pub returns-in-Ok-clause-fault : goal.returns-in-Ok-clause-fault
returns-in-Ok-clause-fault c =
    let same = c.as_slice.ensures.value ∙ sym c.as_slice-in-Err-parse_design.ensures.value in
    let e = c.in-Err-parse_design.ensures in
    c.unparsed.ensures.design (parse_fault BeginsDesign _ _ _ _ refl (ap (λ ts. kinds (map (token_of c.args.text.now) ts)) same) e.unexpected e.too_deep)
