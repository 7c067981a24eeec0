use Rattle.std.proofs.Common.{rules, List, ℕ, ◌≡◌, ap, Err}
use Rattle.p4_texts.specs.declared.written.WrittenTable.{WrittenTable}
use Rattle.p4_parse.specs.Fields.{actions_goals, actions_tokens, result_goals, result_tokens}
use Rattle.p4_parse.specs.Tables.{declaration_goals, declaration_tokens}
use Rattle.p4_parse.proofs.Compose.{phrase_fails}
use Rattle.p4_parse.proofs.TablePhrases.{declared, to_actions, to_result}
use Rattle.p4_parse.proofs.tables.declaration.Goals as goal

pub returns-in_err-result : goal.returns-in_err-result
returns-in_err-result c =
    let e : c.from_residual-in_err-result.result ≡ Err c.in_err-result.field-0.0 = search rules in
    phrase_fails result_goals declaration_goals result_tokens declaration_tokens c.args.source.now c.args.pos c.in_ok-action.brace _ c.in_err-result.field-0.0 e (λ i r. to_result c.in_ok-action.ensures r) c.in_err-result.ensures

pub returns-in_err-actions : goal.returns-in_err-actions
returns-in_err-actions c =
    let e : c.from_residual-in_err-actions.result ≡ Err c.in_err-actions.field-0.0 = search rules in
    phrase_fails actions_goals declaration_goals actions_tokens declaration_tokens c.args.source.now c.args.pos c.in_ok-exact.after_keys _ c.in_err-actions.field-0.0 e
    (λ i r. to_actions c.in_ok-action.ensures c.in_ok-result.ensures c.in_ok-table.ensures c.in_ok-exact.ensures r) c.in_err-actions.ensures

pub returns : goal.returns
returns c =
    let made : List (List ℕ) → WrittenTable = λ xs. record {
      action = c.in_ok-action.action;
      width = c.in_ok-action.width;
      result = c.in_ok-result.result;
      table = c.in_ok-table.table;
      exact = c.in_ok-exact.exact;
      keys = xs;
      actions = c.in_ok-actions.actions;
      default_action = c.in_ok-default_action.default_action;
      default = c.in_ok-default_action.default;
    } in
    declared (made c.from.result) c.in_ok-action.ensures c.in_ok-result.ensures c.in_ok-table.ensures c.in_ok-exact.ensures c.in_ok-actions.ensures c.in_ok-default_action.ensures (λ ks. ap (λ xs. declaration_tokens (made xs) ks) c.from.ensures)
