use Rattle.std.proofs.Common.{rules, arith, ◌≡◌, ◌+◌, map, Err}
use Rattle.cocoon_syntax.specs.TreeOf.{param_of}
use Rattle.parsing.specs.PlainParser.{param_from, after}
use Rattle.cocoon_text.proofs.Eventually.{flat, at_once, fails_as, agrees_deeper, commas_begin, commas_more, commas_broken, commas_stop, all_read}
use Rattle.cocoon_text.proofs.names.params.Goals as goal

pub returns-in_err-first-clause-agrees : goal.returns-in_err-first-clause-agrees
unfolding after
returns-in_err-first-clause-agrees c = agrees_deeper (record { depth = 0; agrees = λ n h. search rules })

pub params-init : goal.params-init
params-init c = record {
  forward = search rules;
  within = search rules;
  so_far = commas_begin c.args.source.now (λ m. param_from c.args.source.now) param_of c.args.pos (flat (λ n. c.in_ok-first.ensures.agrees)) (search rules);
}

pub params-preserved : goal.params-preserved
params-preserved c = record {
  forward = search rules;
  within = search rules;
  so_far = commas_more c.args.source.now (λ m. param_from c.args.source.now) param_of c.params.next (c.params.next + 1) c.params.params.items c.params.invariant.so_far (search rules) (omega arith) (flat (λ n. c.in_ok-param.ensures.agrees)) (search rules);
}

pub returns-in_err-param-clause-agrees : goal.returns-in_err-param-clause-agrees
returns-in_err-param-clause-agrees c =
    let e : c.from_residual-in_err-param.result ≡ Err c.in_err-param.field-0.0 = search rules in
    fails_as param_of (λ v. map param_of v.items) c.in_err-param.field-0.0 e
    (commas_broken c.args.source.now (λ m. param_from c.args.source.now) c.params.next (c.params.next + 1) c.params.invariant.so_far (search rules) (omega arith))
    (at_once c.in_err-param.ensures.agrees)

pub returns-clause-agrees : goal.returns-clause-agrees
returns-clause-agrees c = let g = all_read c.params.invariant.so_far (commas_stop c.args.source.now (λ m. param_from c.args.source.now) c.params.next (search rules)) in record { depth = g.depth; agrees = g.equal }
