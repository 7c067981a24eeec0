use Rattle.std.proofs.Common.{rules, ◌≡◌, map, Err}
use Rattle.cocoon_syntax.specs.TreeOf.{entry_of}
use Rattle.parsing.specs.PlainParser.{many_from, defs_from, entry_from, finishes}
use Rattle.cocoon_text.proofs.Eventually.{fails_as, eventual_read, agrees_read, none_yet_of, many_more, many_broken, many_stop, all_read}
use Rattle.cocoon_text.proofs.defs.entries.Goals as goal

pub entries-init : goal.entries-init
entries-init c = record { within = search rules; so_far = none_yet_of entry_of (λ n. many_from (entry_from c.args.source.now) (finishes c.args.source.now) n 0) (search rules) }

pub entries-preserved : goal.entries-preserved
entries-preserved c = record {
  within = search rules;
  so_far = many_more (entry_from c.args.source.now) (finishes c.args.source.now) entry_of c.entries.next c.entries.entries.items c.entries.invariant.so_far (search rules) (eventual_read entry_of c.in_ok-entry.ensures.agrees) (search rules);
}

pub returns-in_err-entry : goal.returns-in_err-entry
unfolding defs_from
returns-in_err-entry c =
    let e : c.from_residual.result ≡ Err c.in_err-entry.field-0.0 = search rules in
    fails_as entry_of (λ v. map entry_of v.items) c.in_err-entry.field-0.0 e
    (many_broken (entry_from c.args.source.now) (finishes c.args.source.now) c.entries.next c.entries.invariant.so_far (search rules))
    c.in_err-entry.ensures.agrees

pub returns : goal.returns
unfolding defs_from
returns c = agrees_read (λ v. map entry_of v.items) (all_read c.entries.invariant.so_far (many_stop (entry_from c.args.source.now) (finishes c.args.source.now) c.entries.next (search rules)))
