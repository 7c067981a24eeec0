use Rattle.std.proofs.Common.{rules, ◌≡◌, suc, true, false, slice_get, codes, subst, add-one}
use Rattle.parsing.specs.PlainParser.{is_keyword, havoc_from}
use Rattle.cocoon_text.proofs.stmts.havoc.Goals as goal

pub returns-then-is_keyword-clause-agrees : goal.returns-then-is_keyword-clause-agrees
unfolding havoc_from
returns-then-is_keyword-clause-agrees c = let t : is_keyword (codes "pkt") (slice_get c.args.source.now (suc c.args.pos)) ≡ true = subst (λ z. is_keyword (codes "pkt") (slice_get c.args.source.now z) ≡ true) (add-one c.args.pos) (search rules) in rw t c.havoc_field.ensures.agrees

pub returns-clause-agrees : goal.returns-clause-agrees
unfolding havoc_from
returns-clause-agrees c = let t : is_keyword (codes "pkt") (slice_get c.args.source.now (suc c.args.pos)) ≡ false = subst (λ z. is_keyword (codes "pkt") (slice_get c.args.source.now z) ≡ false) (add-one c.args.pos) (search rules) in rw t c.havoc_variable.ensures.agrees
