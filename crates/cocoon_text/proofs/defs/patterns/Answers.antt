use Rattle.std.proofs.Common.{rules, arith, ◌≡◌, ◌+◌, map, Err}
use Rattle.cocoon_syntax.specs.TreeOf.{pattern_of}
use Rattle.parsing.specs.PlainParser.{pattern_from, after}
use Rattle.cocoon_text.proofs.Eventually.{flat, at_once, fails_as, agrees_deeper, commas_begin, commas_more, commas_broken, commas_stop, all_read}
use Rattle.cocoon_text.proofs.defs.patterns.Goals as goal

pub returns-in_err-first-clause-agrees : goal.returns-in_err-first-clause-agrees
unfolding after
returns-in_err-first-clause-agrees c = agrees_deeper (record { depth = 0; agrees = λ n h. search rules })

pub loop-patterns-init : goal.loop-patterns-init
loop-patterns-init c = record {
  forward = search rules;
  within = search rules;
  so_far = commas_begin c.args.source.now (λ m. pattern_from c.args.source.now) pattern_of c.args.pos (flat (λ n. c.in_ok-first.ensures.agrees)) (search rules);
}

pub loop-patterns-preserved : goal.loop-patterns-preserved
loop-patterns-preserved c = record {
  forward = search rules;
  within = search rules;
  so_far = commas_more c.args.source.now (λ m. pattern_from c.args.source.now) pattern_of c.loop-patterns.next (c.loop-patterns.next + 1) c.loop-patterns.patterns.items c.loop-patterns.invariant.so_far (search rules) (omega arith) (flat (λ n. c.in_ok-pattern.ensures.agrees)) (search rules);
}

pub returns-in_err-pattern-clause-agrees : goal.returns-in_err-pattern-clause-agrees
returns-in_err-pattern-clause-agrees c =
    let e : c.from_residual-in_err-pattern.result ≡ Err c.in_err-pattern.field-0.0 = search rules in
    fails_as pattern_of (λ v. map pattern_of v.items) c.in_err-pattern.field-0.0 e
    (commas_broken c.args.source.now (λ m. pattern_from c.args.source.now) c.loop-patterns.next (c.loop-patterns.next + 1) c.loop-patterns.invariant.so_far (search rules) (omega arith))
    (at_once c.in_err-pattern.ensures.agrees)

pub returns-clause-agrees : goal.returns-clause-agrees
returns-clause-agrees c = let g = all_read c.loop-patterns.invariant.so_far (commas_stop c.args.source.now (λ m. pattern_from c.args.source.now) c.loop-patterns.next (search rules)) in record { depth = g.depth; agrees = g.equal }
