use Rattle.std.proofs.Common.{rules, arith, ◌≡◌, ◌+◌, map, Err}
use Rattle.cocoon_syntax.specs.TreeOf.{name_of}
use Rattle.parsing.specs.PlainParser.{name_from, after}
use Rattle.cocoon_text.proofs.Eventually.{flat, at_once, fails_as, agrees_deeper, commas_begin, commas_more, commas_broken, commas_stop, all_read}
use Rattle.cocoon_text.proofs.names.names.Goals as goal

pub returns-in_err-first-clause-agrees : goal.returns-in_err-first-clause-agrees
unfolding after
returns-in_err-first-clause-agrees c = agrees_deeper (record { depth = 0; agrees = λ n h. search rules })

pub names-init : goal.names-init
names-init c = record {
  forward = search rules;
  within = search rules;
  so_far = commas_begin c.args.source.now (λ m. name_from c.args.source.now) name_of c.args.pos (flat (λ n. c.in_ok-first.ensures.agrees)) (search rules);
}

pub names-preserved : goal.names-preserved
names-preserved c = record {
  forward = search rules;
  within = search rules;
  so_far = commas_more c.args.source.now (λ m. name_from c.args.source.now) name_of c.names.next (c.names.next + 1) c.names.names.items c.names.invariant.so_far (search rules) (omega arith) (flat (λ n. c.in_ok-name.ensures.agrees)) (search rules);
}

pub returns-in_err-name-clause-agrees : goal.returns-in_err-name-clause-agrees
returns-in_err-name-clause-agrees c =
    let e : c.from_residual-in_err-name.result ≡ Err c.in_err-name.field-0.0 = search rules in
    fails_as name_of (λ v. map name_of v.items) c.in_err-name.field-0.0 e
    (commas_broken c.args.source.now (λ m. name_from c.args.source.now) c.names.next (c.names.next + 1) c.names.invariant.so_far (search rules) (omega arith))
    (at_once c.in_err-name.ensures.agrees)

pub returns-clause-agrees : goal.returns-clause-agrees
returns-clause-agrees c = let g = all_read c.names.invariant.so_far (commas_stop c.args.source.now (λ m. name_from c.args.source.now) c.names.next (search rules)) in record { depth = g.depth; agrees = g.equal }
