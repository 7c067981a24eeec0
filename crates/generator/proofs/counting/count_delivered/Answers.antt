use Rattle.std.proofs.Common.{◌≡◌, ◌≤◌, ◌<◌, ◌+◌, ◌↔◌, Bool, true, false, ℕ, suc, subst, sym, arith}
use Rattle.std.specs.Prelude.{IsTrue}
use Rattle.net_run.specs.Nets.{net_in}
use Rattle.net_run.specs.RunCounts.{most_runs}
use Rattle.generator.specs.Arriving.{Arrives}
use Rattle.generator.specs.Counting.{IsCount}
use Rattle.generator.specs.Stopping.{AllWithin, runs_of}
use Rattle.generator.proofs.Counts.{more, no_more, one_further}
use Rattle.generator.proofs.counting.count_delivered.Goals as goal
use Rattle.generator.proofs.counting.count_delivered.Goals.{then-branch, else-branch}

not_both : (b : Bool) → b ≡ true → b ≡ false → ⊥
not_both b t f = cc

pub loop-number-preserved : goal.loop-number-preserved
loop-number-preserved c =
    let net = net_in c.args.net.now in
    let hosts = c.args.hosts in
    let n = c.loop-number.number in
    record {
      counted = elim c.if-branch.branch [
        | then-branch w ↦ subst (λ (k : ℕ). IsCount (Arrives net hosts) (n + 1) k) (sym w.count-is) (more (Arrives net hosts) n c.loop-number.count (c.in_ok-arrives.ensures.arrives.0 w.if-branch.true) c.loop-number.invariant.counted)
        | else-branch w ↦ subst (λ (k : ℕ). IsCount (Arrives net hosts) (n + 1) k) (sym w.count-is) (no_more (Arrives net hosts) n c.loop-number.count (λ a. absurd (not_both _ (c.in_ok-arrives.ensures.arrives.1 a) w.if-branch.false)) c.loop-number.invariant.counted)
      ];
      bounded = elim c.if-branch.branch [
        | then-branch w ↦ let is = w.count-is in let before = c.loop-number.invariant.bounded in omega (arith, is, before)
        | else-branch w ↦ let is = w.count-is in let before = c.loop-number.invariant.bounded in omega (arith, is, before)
      ];
      within = one_further (runs_of net hosts) most_runs n c.loop-number.invariant.within c.in_ok-arrives.ensures.within;
    }
