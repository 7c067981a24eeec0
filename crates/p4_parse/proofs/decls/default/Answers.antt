use Rattle.std.proofs.Common.{rules, ◌≡◌, ◌∷◌, [], ◌++◌, codes, drop, Err}
use Rattle.cocoon_num.specs.Tokens.{a_name}
use Rattle.p4_texts.specs.Machine.{the_word}
use Rattle.p4_parse.specs.Fields.{default_goals, default_tokens}
use Rattle.p4_parse.proofs.Compose.{fixed_fails}
use Rattle.p4_parse.proofs.decls.default.Goals as goal

pub returns-in_err-assign : goal.returns-in_err-assign
returns-in_err-assign c =
    let e : c.from_residual.result ≡ Err c.in_err-assign.field-0.0 = search rules in
    fixed_fails (a_name (codes "default_action") ∷ []) (the_word (codes "default_action") ∷ []) default_goals default_tokens c.args.source.now c.args.pos c.args.pos _ c.in_err-assign.field-0.0 e
    (λ i r. record { within = r.within; there = λ hs. r.there (drop 1 default_goals ++ hs) }) c.in_err-assign.ensures
