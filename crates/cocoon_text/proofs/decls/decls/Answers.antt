use Rattle.std.proofs.Common.{rules, arith, ◌≡◌, map, Err}
use Rattle.cocoon_syntax.specs.TreeOf.{decl_of}
use Rattle.cocoon_text.specs.Phrases.{stops_of}
use Rattle.parsing.specs.PlainParser.{decl_from, many_from}
use Rattle.cocoon_text.proofs.Eventually.{fails_as, eventual_read, agrees_read, none_yet_of, many_more, many_broken, many_stop, all_read}
use Rattle.cocoon_text.proofs.decls.decls.Goals as goal

pub decls-init : goal.decls-init
decls-init c = record {
  forward = omega arith;
  within = search rules;
  so_far = none_yet_of decl_of (λ n. many_from (decl_from c.args.source.now) (stops_of c.args.until c.args.source.now) n c.args.pos) (search rules);
}

pub decls-preserved : goal.decls-preserved
decls-preserved c = record {
  forward = search rules;
  within = search rules;
  so_far = many_more (decl_from c.args.source.now) (stops_of c.args.until c.args.source.now) decl_of c.decls.next c.decls.decls.items c.decls.invariant.so_far (search rules) (eventual_read decl_of c.in_ok-decl.ensures.agrees) (search rules);
}

pub returns-in_err-decl-clause-agrees : goal.returns-in_err-decl-clause-agrees
returns-in_err-decl-clause-agrees c =
    let e : c.from_residual.result ≡ Err c.in_err-decl.field-0.0 = search rules in
    fails_as decl_of (λ v. map decl_of v.items) c.in_err-decl.field-0.0 e
    (many_broken (decl_from c.args.source.now) (stops_of c.args.until c.args.source.now) c.decls.next c.decls.invariant.so_far (search rules))
    (c.in_err-decl.ensures.agrees)

pub returns-clause-agrees : goal.returns-clause-agrees
returns-clause-agrees c = agrees_read (λ v. map decl_of v.items) (all_read c.decls.invariant.so_far (many_stop (decl_from c.args.source.now) (stops_of c.args.until c.args.source.now) c.decls.next (search rules)))
