use Rattle.std.proofs.Common.{◌≤◌, ℕ, List, length, subst, sym}
use Rattle.std.proofs.lemmas.Result.{IfOk-weaker}
use Rattle.text_lines.proofs.Printing.{followed}
use Rattle.generator.proofs.Lengths.{definitions_short}
use Rattle.generator.proofs.Whole.{is_all}
use Rattle.generator.proofs.definitions.definitions_text.Goals as goal

pub returns : goal.returns
returns c =
    let text = IfOk-weaker c.finish.result _ _ (λ v h.
    is_all _ _ _ v.items c.new-out.ensures
    (followed c.push.ensures (followed c.push-2.ensures (followed c.push_switch.ensures (followed c.push-3.ensures
    (followed c.push-4.ensures c.push-5.ensures))))) h) c.finish.ensures in
    record {
      text = text;
      short = IfOk-weaker c.finish.result _ _ (λ v e. subst (λ (xs : List ℕ). length xs ≤ 125100) (sym e) (definitions_short c.args.hosts c.requires.hosts)) text;
    }
