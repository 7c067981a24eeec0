use Rattle.std.proofs.Common.{rules, List, ℕ, ◌≡◌, Err}
use Rattle.p4_parse.specs.Tails.{after_dot}
use Rattle.p4_parse.proofs.StmtPhrases as phrases
use Rattle.p4_parse.proofs.stmts.after_dot.Goals as goal

pub returns-in_err-second : goal.returns-in_err-second
returns-in_err-second c =
    let e : c.from_residual.result ≡ Err c.in_err-second.field-0.0 = search rules in
    phrases.dotted_fails (List ℕ) c.args.source.now c.args.pos c.args.name (after_dot c.args.name) _ c.in_err-second.field-0.0 e c.requires c.in_err-second.ensures.no_name
