use Rattle.std.proofs.Common.{◌+◌, drop, IsTrue, map, subst}
use Rattle.std.proofs.lemmas.Bool.{and_parts}
use Rattle.cocoon_num.specs.Lists.{each}
use Rattle.p4_ir.specs.NetOf.{switch_of}
use Rattle.net_run.proofs.LoadingSteps.{kinded, passed, run_pushed, split}
use Rattle.net_run.proofs.loading.load_all.Goals as goal

pub load-requires : goal.load-requires
load-requires c =
    let on = split c.args.switches.now c.loop-files.files-index c.files-item.result c.loop-files-test.true c.files-item.is in
    (and_parts _ _ (subst (λ fs. IsTrue (each kinded fs)) on c.loop-files.invariant.kinds)).0

pub loop-files-preserved : goal.loop-files-preserved
loop-files-preserved c =
    let on = split c.args.switches.now c.loop-files.files-index c.files-item.result c.loop-files-test.true c.files-item.is in
    let fs = c.args.switches.now in
    let i = c.loop-files.files-index in
    let here = map switch_of (drop i fs) in
    let rest = map switch_of (drop (i + 1) fs) in
    record {
      runs = run_pushed _ _ _ (switch_of c.files-item.result) rest here (map switch_of fs) c.in_ok-push.ensures.items c.in_ok-load.ensures.runs on c.loop-files.invariant.runs;
      kinds = (and_parts _ _ (subst (λ fs. IsTrue (each kinded fs)) on c.loop-files.invariant.kinds)).1;
      first = passed (switch_of c.files-item.result) rest (map switch_of fs) here on c.in_ok-load.ensures.loads c.loop-files.invariant.first;
    }
