use Rattle.std.proofs.Common.{rules, ◌≡◌, map, Err}
use Rattle.cocoon_syntax.specs.TreeOf.{header_of}
use Rattle.parsing.specs.PlainParser.{closes, header_from}
use Rattle.cocoon_text.proofs.Eventually.{fails_as, eventual_read, agrees_read, some_begin, some_fail, many_more, many_broken, many_stop, all_read}
use Rattle.cocoon_text.proofs.decls.headers.Goals as goal

pub returns-in_err-first-clause-agrees : goal.returns-in_err-first-clause-agrees
returns-in_err-first-clause-agrees c =
    let e : c.from_residual.result ≡ Err c.in_err-first.field-0.0 = search rules in
    fails_as header_of (λ v. map header_of v.items) c.in_err-first.field-0.0 e (λ i g. some_fail (header_from c.args.source.now) (closes c.args.source.now) c.args.pos g) (c.in_err-first.ensures.agrees)

pub headers-init : goal.headers-init
headers-init c = record {
  forward = search rules;
  within = search rules;
  so_far = some_begin (header_from c.args.source.now) (closes c.args.source.now) header_of c.args.pos {x = c.in_ok-first.first} (eventual_read header_of c.in_ok-first.ensures.agrees) (search rules);
}

pub headers-preserved : goal.headers-preserved
headers-preserved c = record {
  forward = search rules;
  within = search rules;
  so_far = many_more (header_from c.args.source.now) (closes c.args.source.now) header_of c.headers.next c.headers.headers.items {x = c.in_ok-header.header} c.headers.invariant.so_far (search rules) (eventual_read header_of c.in_ok-header.ensures.agrees) (search rules);
}

pub returns-in_err-header-clause-agrees : goal.returns-in_err-header-clause-agrees
returns-in_err-header-clause-agrees c =
    let e : c.from_residual-in_err-header.result ≡ Err c.in_err-header.field-0.0 = search rules in
    fails_as header_of (λ v. map header_of v.items) c.in_err-header.field-0.0 e
    (many_broken (header_from c.args.source.now) (closes c.args.source.now) c.headers.next c.headers.invariant.so_far (search rules))
    (c.in_err-header.ensures.agrees)

pub returns-clause-agrees : goal.returns-clause-agrees
returns-clause-agrees c = agrees_read (λ v. map header_of v.items) (all_read c.headers.invariant.so_far (many_stop (header_from c.args.source.now) (closes c.args.source.now) c.headers.next (search rules)))
