use Rattle.std.proofs.Common.{rules, ◌≡◌, false, replicate}
use Rattle.cdcl.proofs.Counting.{count-none}
use Rattle.cdcl.proofs.analysis.Analysis.new.Goals as goal

pub invariant_of-result : goal.invariant_of-result
invariant_of-result c =
    let all_false : c.in_ok-marks.marks.items ≡ replicate c.args.len false = search rules in
    record { counted = count-none c.args.floor c.args.len c.in_ok-marks.marks.items all_false }
