use Rattle.std.proofs.Common.{rules, ◌≡◌, ◌∷◌, [], ◌++◌, ◌∙◌, codes, drop, Err}
use Rattle.cocoon_num.specs.Tokens.{a_name, mark}
use Rattle.p4_texts.specs.Machine.{the_mark, the_word}
use Rattle.p4_parse.specs.Fields.{action_goals, action_tokens}
use Rattle.p4_parse.proofs.Compose.{fixed_fails}
use Rattle.p4_parse.proofs.decls.action.Goals as goal

pub returns-in_err-close : goal.returns-in_err-close
returns-in_err-close c =
    let e : c.from_residual-in_err-close.result ≡ Err c.in_err-close.field-0.0 = search rules in
    fixed_fails (a_name (codes "v") ∷ []) (the_word (codes "v") ∷ []) action_goals action_tokens c.args.source.now c.args.pos c.in_ok-width.parameter _ c.in_err-close.field-0.0 e
    (λ i r. record {
      within = r.within;
      there = λ hs. c.in_ok-start.ensures.goes (drop 1 action_goals ++ hs) ∙ c.in_ok-name.ensures.phrase.goes (drop 2 action_goals ++ hs) ∙ c.in_ok-open.ensures.goes (drop 3 action_goals ++ hs)
          ∙ c.in_ok-width.ensures.goes (drop 7 action_goals ++ hs) ∙ r.there (drop 8 action_goals ++ hs);
    }) c.in_err-close.ensures

pub returns-in_err-end : goal.returns-in_err-end
returns-in_err-end c =
    let e : c.from_residual-in_err-end.result ≡ Err c.in_err-end.field-0.0 = search rules in
    fixed_fails (mark (codes ")") ∷ []) (the_mark (codes ")") ∷ []) action_goals action_tokens c.args.source.now c.args.pos c.in_ok-close.close _ c.in_err-end.field-0.0 e
    (λ i r. record {
      within = r.within;
      there = λ hs. c.in_ok-start.ensures.goes (drop 1 action_goals ++ hs) ∙ c.in_ok-name.ensures.phrase.goes (drop 2 action_goals ++ hs) ∙ c.in_ok-open.ensures.goes (drop 3 action_goals ++ hs)
          ∙ c.in_ok-width.ensures.goes (drop 7 action_goals ++ hs) ∙ c.in_ok-close.ensures.goes (drop 8 action_goals ++ hs) ∙ r.there hs;
    }) c.in_err-end.ensures
