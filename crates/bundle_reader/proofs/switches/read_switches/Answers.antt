use Rattle.std.proofs.Common.{◌∙◌, sym}
use Rattle.net_run.specs.Switches.{switch_in}
use Rattle.net_bundle.specs.NetFileOf.{net_file_of}
use Rattle.bundle_reader.proofs.Prefix.{all_read, enough, named_end, named_from, numbers_end, numbers_from, numbers_more, one_more, others_named, two_kept, up_given, up_to, well_given, well_pushed}
use Rattle.bundle_reader.proofs.Steps.{passed}
use Rattle.bundle_reader.proofs.switches.read_switches.Goals as goal

pub next_two-requires : goal.next_two-requires
next_two-requires g c = enough _ _ _ c.loop-switch.kept.now (named_from c.deref-switch-items.result.now c.loop-switch.switch-index _ c.loop-switch-test.true c.loop-switch.invariant.named)

pub returns-in_err-read-clause-refused : goal.returns-in_err-read-clause-refused
returns-in_err-read-clause-refused g c =
    let ns = c.deref-switch-items.result.now in
    let i = c.loop-switch.switch-index in
    let h = c.loop-switch.invariant in
    let named = named_from ns i _ c.loop-switch-test.true h.named in
    let numbers = sym c.deref-switch-items.ensures.value ∙ numbers_from ns i _ c.loop-switch-test.true h.numbers in
    let two = two_kept _ _ _ _ c.next_two.ensures in
    passed _ c.in_err-read.field-0.0 _ c.from_residual.ensures.1
    (λ files e reads. c.in_err-read.ensures.refused files (h.content ∙ e)
    (up_given files c.args.out.now _ _ _ _ _ c.deref.ensures c.deref-in-loop-switch.ensures
    (up_to files c.args.out.now (net_file_of c.args.file.now) _ _ _ _ _ _ _ _ two named numbers reads (h.well files e))))

pub returns-in_err-push-clause-refused : goal.returns-in_err-push-clause-refused
returns-in_err-push-clause-refused g c = passed _ _ _ c.from_residual-in_err-push.ensures.1 (λ files e reads. tt)

pub returns-in_err-push-clause-failed : goal.returns-in_err-push-clause-failed
returns-in_err-push-clause-failed g c = passed _ _ _ c.from_residual-in_err-push.ensures.1 (c.in_ok-read.ensures.counted ∙ c.loop-switch.invariant.reads)

pub loop-switch-preserved : goal.loop-switch-preserved
loop-switch-preserved g c =
    let ns = c.deref-switch-items.result.now in
    let i = c.loop-switch.switch-index in
    let h = c.loop-switch.invariant in
    let named = named_from ns i _ c.loop-switch-test.true h.named in
    let two = two_kept _ _ _ _ c.next_two.ensures in
    record {
      content = c.read_switch.ensures.same ∙ h.content;
      reads = c.in_ok-read.ensures.counted ∙ h.reads;
      writes = c.read_switch.ensures.writes ∙ h.writes;
      named = others_named _ _ _ _ _ _ two named;
      numbers = numbers_more ns i _ _ c.in_ok-read.read.switch c.loop-switch-test.true c.in_ok-push.ensures.items c.in_ok-read.ensures.number h.numbers;
      last = c.in_ok-read.ensures.last;
      well = λ files e. well_pushed files c.args.out.now _ _ _ _ c.in_ok-read.read.switch c.in_ok-push.ensures.items
          (one_more c.rows_form_is_exact.ensures c.rows_without_fault_load.ensures files c.args.out.now _ _ _ _ (switch_in c.in_ok-read.read.switch) _ _ _ _ two named c.in_ok-read.ensures.number (h.well files e)
          (well_given files c.args.out.now _ _ _ _ _ (switch_in c.in_ok-read.read.switch) c.deref.ensures c.deref-in-loop-switch.ensures (c.in_ok-read.ensures.well files (h.content ∙ e))));
    }

pub returns-clause-well : goal.returns-clause-well
returns-clause-well g c files e =
    let h = c.loop-switch.invariant in
    all_read files c.args.out.now (net_file_of c.args.file.now) _ _ (named_end c.deref-switch-items.result.now c.loop-switch.switch-index _ c.loop-switch-test.false h.named)
    (numbers_end c.deref-switch-items.result.now c.loop-switch.switch-index _ c.loop-switch-test.false h.numbers ∙ c.deref-switch-items.ensures.value) (h.well files e)
