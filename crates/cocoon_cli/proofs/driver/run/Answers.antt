use Rattle.std.proofs.Common.{◌∙◌, refl, ap, sym, subst, inl, option_map, map, Option, Some}
use Rattle.std.specs.Prelude.{string_bytes}
use Rattle.command_line.specs.Command.{Command}
use Rattle.command_line.specs.Command.{stands_for}
use Rattle.command_reports.specs.Report.{IsEnding}
use Rattle.command_answers.specs.FolderCalls.{count}
use Rattle.cocoon_cli.specs.Certified.{CertifiedOf}
use Rattle.cocoon_cli.specs.Headline.{CompiledOf}
use Rattle.cocoon_cli.specs.Run.{Call, Cause}
use Rattle.cocoon_cli.proofs.Performing.{ended}
use Rattle.obligation_laws.specs.Obligations.{bounded, contained}
use Rattle.cocoon_cli.proofs.Failed.{failed_words}
use Rattle.cocoon_cli.proofs.Generated.{generated_words}
use Rattle.cocoon_cli.proofs.Refined.{refined_words}
use Rattle.cocoon_cli.proofs.Running.{keeps_of, keeps_memory, said_of}
use Rattle.cocoon_cli.proofs.driver.run.Goals as goal

pub returns-in-Ok-Some-clause-keeps : goal.returns-in-Ok-Some-clause-keeps
returns-in-Ok-Some-clause-keeps g c =
    let asked = stands_for c.in-Ok-Some.command in
    let outcome = c.perform-outcome.result in
    let acts = c.perform-outcome.ensures.acts in
    let end = ended asked acts.performs.inputs outcome acts.performs.answers in
    keeps_of c.one_outcome.ensures _ _ _ (ap (option_map stands_for) (sym c.in-Ok-Some.field-0-is) ∙ c.in-Ok-Some.ensures) (record {
      outcome = outcome;
      performs = acts.performs;
      counts = acts.called.counts;
      ending = end.0;
      is_ending = end.1;
      prints = c.print.ensures end.0 (subst (λ names. IsEnding names outcome end.0) (sym c.names_of.ensures) end.1);
    }) acts.called.named

pub returns-in-Ok-Some-clause-headline : goal.returns-in-Ok-Some-clause-headline
returns-in-Ok-Some-clause-headline g c done =
    let asked = stands_for c.in-Ok-Some.command in
    let outcome = c.perform-outcome.result in
    let acts = c.perform-outcome.ensures.acts in
    let end = ended asked acts.performs.inputs outcome acts.performs.answers in
    let call : Call = record {
      words = map string_bytes c.args.words.now;
      content_before = g.F.Folder.content c.args.folder.now;
      content_after = g.F.Folder.content c.perform-outcome.new.folder;
      output_before = g.S.Sink.output c.args.out.now;
      output_after = g.S.Sink.output c.print.new.out;
      reads = count g.F.Folder.last_read_fault (g.F.Folder.read_faults c.args.folder.now) (g.F.Folder.read_faults c.perform-outcome.new.folder);
      writes = count g.F.Folder.last_write_fault (g.F.Folder.write_faults c.args.folder.now) (g.F.Folder.write_faults c.perform-outcome.new.folder);
      puts = count g.S.Sink.last_fault (g.S.Sink.faults c.args.out.now) (g.S.Sink.faults c.print.new.out);
      status = c.print.result;
    } in
    let cause : Cause asked call = record {
      outcome = outcome;
      performs = acts.performs;
      counts = acts.called.counts;
      ending = end.0;
      is_ending = end.1;
      prints = c.print.ensures end.0 (subst (λ names. IsEnding names outcome end.0) (sym c.names_of.ensures) end.1);
    } in
    said_of (λ (o : Option Command). CompiledOf o call.content_before call.content_after) asked _ call cause (ap (option_map stands_for) (sym c.in-Ok-Some.field-0-is) ∙ c.in-Ok-Some.ensures) c.perform-outcome.ensures.headline done

pub returns-in-Ok-Some-clause-certified : goal.returns-in-Ok-Some-clause-certified
returns-in-Ok-Some-clause-certified g c done =
    let asked = stands_for c.in-Ok-Some.command in
    let outcome = c.perform-outcome.result in
    let acts = c.perform-outcome.ensures.acts in
    let end = ended asked acts.performs.inputs outcome acts.performs.answers in
    let call : Call = record {
      words = map string_bytes c.args.words.now;
      content_before = g.F.Folder.content c.args.folder.now;
      content_after = g.F.Folder.content c.perform-outcome.new.folder;
      output_before = g.S.Sink.output c.args.out.now;
      output_after = g.S.Sink.output c.print.new.out;
      reads = count g.F.Folder.last_read_fault (g.F.Folder.read_faults c.args.folder.now) (g.F.Folder.read_faults c.perform-outcome.new.folder);
      writes = count g.F.Folder.last_write_fault (g.F.Folder.write_faults c.args.folder.now) (g.F.Folder.write_faults c.perform-outcome.new.folder);
      puts = count g.S.Sink.last_fault (g.S.Sink.faults c.args.out.now) (g.S.Sink.faults c.print.new.out);
      status = c.print.result;
    } in
    let cause : Cause asked call = record {
      outcome = outcome;
      performs = acts.performs;
      counts = acts.called.counts;
      ending = end.0;
      is_ending = end.1;
      prints = c.print.ensures end.0 (subst (λ names. IsEnding names outcome end.0) (sym c.names_of.ensures) end.1);
    } in
    said_of (λ (o : Option Command). CertifiedOf o call.content_before call.content_after) asked _ call cause (ap (option_map stands_for) (sym c.in-Ok-Some.field-0-is) ∙ c.in-Ok-Some.ensures) c.perform-outcome.ensures.certified done

pub returns-in-Ok-Some-clause-refined : goal.returns-in-Ok-Some-clause-refined
returns-in-Ok-Some-clause-refined g c done =
    let asked = stands_for c.in-Ok-Some.command in
    let outcome = c.perform-outcome.result in
    let acts = c.perform-outcome.ensures.acts in
    let end = ended asked acts.performs.inputs outcome acts.performs.answers in
    let call : Call = record {
      words = map string_bytes c.args.words.now;
      content_before = g.F.Folder.content c.args.folder.now;
      content_after = g.F.Folder.content c.perform-outcome.new.folder;
      output_before = g.S.Sink.output c.args.out.now;
      output_after = g.S.Sink.output c.print.new.out;
      reads = count g.F.Folder.last_read_fault (g.F.Folder.read_faults c.args.folder.now) (g.F.Folder.read_faults c.perform-outcome.new.folder);
      writes = count g.F.Folder.last_write_fault (g.F.Folder.write_faults c.args.folder.now) (g.F.Folder.write_faults c.perform-outcome.new.folder);
      puts = count g.S.Sink.last_fault (g.S.Sink.faults c.args.out.now) (g.S.Sink.faults c.print.new.out);
      status = c.print.result;
    } in
    let cause : Cause asked call = record {
      outcome = outcome;
      performs = acts.performs;
      counts = acts.called.counts;
      ending = end.0;
      is_ending = end.1;
      prints = c.print.ensures end.0 (subst (λ names. IsEnding names outcome end.0) (sym c.names_of.ensures) end.1);
    } in
    refined_words asked _ _ (ap (option_map stands_for) (sym c.in-Ok-Some.field-0-is) ∙ c.in-Ok-Some.ensures) (c.checked_designs_are_refined.ensures (Some asked) call cause done)

pub returns-in-Ok-Some-clause-refuted : goal.returns-in-Ok-Some-clause-refuted
returns-in-Ok-Some-clause-refuted g c done =
    let asked = stands_for c.in-Ok-Some.command in
    let outcome = c.perform-outcome.result in
    let acts = c.perform-outcome.ensures.acts in
    let end = ended asked acts.performs.inputs outcome acts.performs.answers in
    let call : Call = record {
      words = map string_bytes c.args.words.now;
      content_before = g.F.Folder.content c.args.folder.now;
      content_after = g.F.Folder.content c.perform-outcome.new.folder;
      output_before = g.S.Sink.output c.args.out.now;
      output_after = g.S.Sink.output c.print.new.out;
      reads = count g.F.Folder.last_read_fault (g.F.Folder.read_faults c.args.folder.now) (g.F.Folder.read_faults c.perform-outcome.new.folder);
      writes = count g.F.Folder.last_write_fault (g.F.Folder.write_faults c.args.folder.now) (g.F.Folder.write_faults c.perform-outcome.new.folder);
      puts = count g.S.Sink.last_fault (g.S.Sink.faults c.args.out.now) (g.S.Sink.faults c.print.new.out);
      status = c.print.result;
    } in
    let cause : Cause asked call = record {
      outcome = outcome;
      performs = acts.performs;
      counts = acts.called.counts;
      ending = end.0;
      is_ending = end.1;
      prints = c.print.ensures end.0 (subst (λ names. IsEnding names outcome end.0) (sym c.names_of.ensures) end.1);
    } in
    failed_words asked _ _ contained _ _ (ap (option_map stands_for) (sym c.in-Ok-Some.field-0-is) ∙ c.in-Ok-Some.ensures) (c.reported_failures_are_real.ensures.refuted (Some asked) call cause done)

pub returns-in-Ok-Some-clause-hop_bound : goal.returns-in-Ok-Some-clause-hop_bound
returns-in-Ok-Some-clause-hop_bound g c done =
    let asked = stands_for c.in-Ok-Some.command in
    let outcome = c.perform-outcome.result in
    let acts = c.perform-outcome.ensures.acts in
    let end = ended asked acts.performs.inputs outcome acts.performs.answers in
    let call : Call = record {
      words = map string_bytes c.args.words.now;
      content_before = g.F.Folder.content c.args.folder.now;
      content_after = g.F.Folder.content c.perform-outcome.new.folder;
      output_before = g.S.Sink.output c.args.out.now;
      output_after = g.S.Sink.output c.print.new.out;
      reads = count g.F.Folder.last_read_fault (g.F.Folder.read_faults c.args.folder.now) (g.F.Folder.read_faults c.perform-outcome.new.folder);
      writes = count g.F.Folder.last_write_fault (g.F.Folder.write_faults c.args.folder.now) (g.F.Folder.write_faults c.perform-outcome.new.folder);
      puts = count g.S.Sink.last_fault (g.S.Sink.faults c.args.out.now) (g.S.Sink.faults c.print.new.out);
      status = c.print.result;
    } in
    let cause : Cause asked call = record {
      outcome = outcome;
      performs = acts.performs;
      counts = acts.called.counts;
      ending = end.0;
      is_ending = end.1;
      prints = c.print.ensures end.0 (subst (λ names. IsEnding names outcome end.0) (sym c.names_of.ensures) end.1);
    } in
    failed_words asked _ _ bounded _ _ (ap (option_map stands_for) (sym c.in-Ok-Some.field-0-is) ∙ c.in-Ok-Some.ensures) (c.reported_failures_are_real.ensures.hop_bound (Some asked) call cause done)

pub returns-in-Ok-Some-clause-generated : goal.returns-in-Ok-Some-clause-generated
returns-in-Ok-Some-clause-generated g c done =
    let asked = stands_for c.in-Ok-Some.command in
    let outcome = c.perform-outcome.result in
    let acts = c.perform-outcome.ensures.acts in
    let end = ended asked acts.performs.inputs outcome acts.performs.answers in
    let call : Call = record {
      words = map string_bytes c.args.words.now;
      content_before = g.F.Folder.content c.args.folder.now;
      content_after = g.F.Folder.content c.perform-outcome.new.folder;
      output_before = g.S.Sink.output c.args.out.now;
      output_after = g.S.Sink.output c.print.new.out;
      reads = count g.F.Folder.last_read_fault (g.F.Folder.read_faults c.args.folder.now) (g.F.Folder.read_faults c.perform-outcome.new.folder);
      writes = count g.F.Folder.last_write_fault (g.F.Folder.write_faults c.args.folder.now) (g.F.Folder.write_faults c.perform-outcome.new.folder);
      puts = count g.S.Sink.last_fault (g.S.Sink.faults c.args.out.now) (g.S.Sink.faults c.print.new.out);
      status = c.print.result;
    } in
    let cause : Cause asked call = record {
      outcome = outcome;
      performs = acts.performs;
      counts = acts.called.counts;
      ending = end.0;
      is_ending = end.1;
      prints = c.print.ensures end.0 (subst (λ names. IsEnding names outcome end.0) (sym c.names_of.ensures) end.1);
    } in
    generated_words asked _ _ _ _ _ (ap (option_map stands_for) (sym c.in-Ok-Some.field-0-is) ∙ c.in-Ok-Some.ensures) (c.generated_packets_are_counted.ensures (Some asked) call cause done)

pub returns-in-Ok-None-clause-keeps : goal.returns-in-Ok-None-clause-keeps
returns-in-Ok-None-clause-keeps g c =
    keeps_of c.one_outcome.ensures _ _ _ (ap (option_map stands_for) (sym c.in-Ok-None.field-0-is) ∙ c.in-Ok-None.ensures) ((refl, refl, refl), inl c.tell_usage.ensures) tt

pub returns-in-Err-clause-keeps : goal.returns-in-Err-clause-keeps
returns-in-Err-clause-keeps g c = keeps_memory c.one_outcome.ensures _ _ refl refl refl c.tell_no_memory.ensures
