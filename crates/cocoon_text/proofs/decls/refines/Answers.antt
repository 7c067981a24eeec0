use Rattle.std.proofs.Common.{rules, arith, ◌≡◌, map, Err}
use Rattle.cocoon_syntax.specs.TreeOf.{refine_of}
use Rattle.parsing.specs.PlainParser.{finishes, many_from, refine_from}
use Rattle.cocoon_text.proofs.Eventually.{fails_as, eventual_read, agrees_read, none_yet_of, many_more, many_broken, many_stop, all_read}
use Rattle.cocoon_text.proofs.decls.refines.Goals as goal

pub refines-init : goal.refines-init
refines-init c = record {
  forward = omega arith;
  within = search rules;
  so_far = none_yet_of refine_of (λ n. many_from (refine_from c.args.source.now) (finishes c.args.source.now) n c.args.pos) (search rules);
}

pub refines-preserved : goal.refines-preserved
refines-preserved c = record {
  forward = search rules;
  within = search rules;
  so_far = many_more (refine_from c.args.source.now) (finishes c.args.source.now) refine_of c.refines.next c.refines.refines.items {x = c.in_ok-refine.refine} c.refines.invariant.so_far (search rules) (eventual_read refine_of c.in_ok-refine.ensures.agrees) (search rules);
}

pub returns-in_err-refine-clause-agrees : goal.returns-in_err-refine-clause-agrees
returns-in_err-refine-clause-agrees c =
    let e : c.from_residual.result ≡ Err c.in_err-refine.field-0.0 = search rules in
    fails_as refine_of (λ v. map refine_of v.items) c.in_err-refine.field-0.0 e
    (many_broken (refine_from c.args.source.now) (finishes c.args.source.now) c.refines.next c.refines.invariant.so_far (search rules))
    (c.in_err-refine.ensures.agrees)

pub returns-clause-agrees : goal.returns-clause-agrees
returns-clause-agrees c = agrees_read (λ v. map refine_of v.items) (all_read c.refines.invariant.so_far (many_stop (refine_from c.args.source.now) (finishes c.args.source.now) c.refines.next (search rules)))
