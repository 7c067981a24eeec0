use Rattle.std.proofs.Common.{rules, arith, ◌≡◌, ◌≤◌, List, length, Err, IfErr, IsTrue, subst, sym}
use Rattle.cocoon_num.specs.Tokens.{is_shallow}
use Rattle.p4_ir.specs.P4Text.{p4_bounds}
use Rattle.p4_parse.specs.declared.token.Token.{Token}
use Rattle.p4_parse.specs.Faults as parsing
use Rattle.p4_parse.specs.Phrases.{kinds_at}
use Rattle.p4_texts.specs.Reading.{Ended}
use Rattle.p4_texts.specs.Written.{P4TextAt}
use Rattle.p4_texts.specs.TreeOf.{text_of}
use Rattle.p4_read.specs.FirstFault.{IsFirstFault, of_kind, of_lex, of_parse}
use Rattle.p4_read.proofs.Steps.{kind_fault, lex_fault, parse_fault, stands_for, text_few, tokens_ended, tokens_few}
use Rattle.p4_read.proofs.whole_text.read.Goals as goal

pub returns-in_err-tokens-clause-fault : goal.returns-in_err-tokens-clause-fault
returns-in_err-tokens-clause-fault c =
    let e : c.from_residual.result ≡ Err (of_lex c.in_err-tokens.field-0.0) = search rules in
    subst (λ z. IfErr z (IsFirstFault c.args.text.now)) (sym e) (lex_fault c.args.text.now c.in_err-tokens.field-0.0 c.in_err-tokens.ensures.fault)

pub parse-requires-clause-few : goal.parse-requires-clause-few
parse-requires-clause-few c =
    let text = c.args.text.now in
    let f = tokens_few text c.in_ok-tokens.tokens.items (c.tokens_end.ensures _ _ c.in_ok-tokens.ensures.ok) in
    let s = c.requires.small in
    let few : length c.in_ok-tokens.tokens.items ≤ 4294967296 = omega (arith, f, s) in
    subst (λ ts. length ts ≤ 4294967296) (sym c.deref.ensures.value) few

pub parse-requires-clause-ended : goal.parse-requires-clause-ended
parse-requires-clause-ended c =
    let text = c.args.text.now in
    subst (λ (ts : List Token). Ended (kinds_at text ts)) (sym c.deref.ensures.value) (tokens_ended text c.in_ok-tokens.tokens.items (c.tokens_end.ensures _ _ c.in_ok-tokens.ensures.ok))

pub returns-in_err-tree-clause-fault : goal.returns-in_err-tree-clause-fault
returns-in_err-tree-clause-fault c =
    let text = c.args.text.now in
    let e : c.from_residual-in_err-tree.result ≡ Err (of_parse c.in_err-tree.field-0.0) = search rules in
    subst (λ z. IfErr z (IsFirstFault text)) (sym e)
    (parse_fault text c.in_ok-tokens.tokens.items c.in_err-tree.field-0.0 c.in_ok-tokens.ensures.ok
    (subst (λ (ts : List Token). parsing.IsFirstFault (kinds_at text ts) c.in_err-tree.field-0.0) c.deref.ensures.value c.in_err-tree.ensures.fault))

pub resolve-requires : goal.resolve-requires
resolve-requires c =
    let text = c.args.text.now in
    let tokens = c.in_ok-tokens.tokens.items in
    let t : P4TextAt (kinds_at text tokens) (text_of c.in_ok-tree.tree) = subst (λ (ts : List Token). P4TextAt (kinds_at text ts) (text_of c.in_ok-tree.tree)) c.deref.ensures.value c.in_ok-tree.ensures.reads in
    record { few = text_few text tokens (text_of c.in_ok-tree.tree) c.requires.small (c.tokens_end.ensures _ _ c.in_ok-tokens.ensures.ok) t }

pub returns-in_err-program-clause-fault : goal.returns-in_err-program-clause-fault
returns-in_err-program-clause-fault c =
    let text = c.args.text.now in
    let tokens = c.in_ok-tokens.tokens.items in
    let t : P4TextAt (kinds_at text tokens) (text_of c.in_ok-tree.tree) = subst (λ (ts : List Token). P4TextAt (kinds_at text ts) (text_of c.in_ok-tree.tree)) c.deref.ensures.value c.in_ok-tree.ensures.reads in
    let s : IsTrue (is_shallow p4_bounds (kinds_at text tokens)) = subst (λ (ts : List Token). IsTrue (is_shallow p4_bounds (kinds_at text ts))) c.deref.ensures.value c.in_ok-tree.ensures.shallow in
    let e : c.from_residual-in_err-program.result ≡ Err (of_kind c.in_err-program.field-0.0) = search rules in
    subst (λ z. IfErr z (IsFirstFault text)) (sym e) (kind_fault text tokens (text_of c.in_ok-tree.tree) c.in_err-program.field-0.0 c.in_ok-tokens.ensures.ok t s c.in_err-program.ensures.fault)

pub returns-clause-reads : goal.returns-clause-reads
returns-clause-reads c =
    let text = c.args.text.now in
    let tokens = c.in_ok-tokens.tokens.items in
    let t : P4TextAt (kinds_at text tokens) (text_of c.in_ok-tree.tree) = subst (λ (ts : List Token). P4TextAt (kinds_at text ts) (text_of c.in_ok-tree.tree)) c.deref.ensures.value c.in_ok-tree.ensures.reads in
    let s : IsTrue (is_shallow p4_bounds (kinds_at text tokens)) = subst (λ (ts : List Token). IsTrue (is_shallow p4_bounds (kinds_at text ts))) c.deref.ensures.value c.in_ok-tree.ensures.shallow in
    c.reads_where_it_stands.ensures text (text_of c.in_ok-tree.tree) _ (stands_for text tokens (text_of c.in_ok-tree.tree) _ c.in_ok-tokens.ensures.ok t s c.in_ok-program.ensures.keeps c.in_ok-program.ensures.stands)
