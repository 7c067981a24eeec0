use Rattle.std.proofs.Common.{◌≡◌, ◌∙◌, ◌++◌, ℕ, List, None, vec_len, map, ap, subst, sym}
use Rattle.std.proofs.lemmas.Result.{IfOk-weaker}
use Rattle.cocoon_num.specs.Tree.{Block, HeaderDecl}
use Rattle.cocoon_syntax.specs.TreeOf.{block_of, header_of, stmt_of}
use Rattle.form_rules.specs.Following.{IsLeastHidden, body_names, choices_in, is_hidden}
use Rattle.form_rules.proofs.LeastHidden.{of_body, none_tried, none_noted}
use Rattle.form_rules.proofs.hidden_choice.first_hidden.Goals as goal

pub returns-then-is_empty : goal.returns-then-is_empty
returns-then-is_empty c d same =
    let b : Block = block_of (map stmt_of c.args.body.now) in
    of_body d b None (none_tried (λ k. is_hidden (body_names k d.headers) b) (choices_in b)
    (none_noted c.note_block.new.choices.items (choices_in b) (vec_len c.note_block.new.choices) (sym c.is_empty.ensures ∙ c.if-is_empty.true) c.note_block.new.choices.ok.0
    (c.in_ok-note_block.ensures ∙ ap (λ (ns : List ℕ). ns ++ choices_in b) c.new-choices.ensures.items)))

pub returns : goal.returns
returns c =
    let b : Block = block_of (map stmt_of c.args.body.now) in
    let noted : c.deref.result.now ≡ choices_in b = c.deref.ensures.value ∙ c.in_ok-note_block.ensures ∙ ap (λ (ns : List ℕ). ns ++ choices_in b) c.new-choices.ensures.items in
    IfOk-weaker c.hidden_among.result _ _ (λ found least d same.
    of_body d b found
    (subst (λ (hs : List HeaderDecl). IsLeastHidden hs b (choices_in b) found) (sym same)
    (subst (λ (ns : List ℕ). IsLeastHidden (map header_of c.args.headers.now) b ns found) noted least))) c.hidden_among.ensures
