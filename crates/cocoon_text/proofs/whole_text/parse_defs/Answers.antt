use Rattle.std.proofs.Common.{arith, ◌≡◌, ◌≤◌, ◌^◌, length, map, sym, ◌∙◌, ap, subst}
use Rattle.std.proofs.lemmas.List.{length-map}
use Rattle.cocoon_num.specs.FirstFaults.{BeginsDefs}
use Rattle.cocoon_num.specs.Tokens.{kinds, language_bounds}
use Rattle.cocoon_text.specs.Kinds.{token_of}
use Rattle.cocoon_syntax.specs.TreeOf.{entry_of}
use Rattle.parsing.specs.PlainParser.{defs_from}
use Rattle.cocoon_text.specs.Agrees.{kind_at, kinds_at}
use Rattle.parsing.specs.declared.fault.ParseFault.TheVariants.{Unexpected, TooDeep}
use Rattle.parsing.proofs.Reaches.{fault_fits, reach_few}
use Rattle.cocoon_text.proofs.WholeTexts.{Read, kinds_are, few_tokens, definitions_read, whole_fault, is_unexpected, is_too_deep}
use Rattle.cocoon_text.proofs.whole_text.parse_defs.Goals as goal

pub up_to-requires-clause-small : goal.up_to-requires-clause-small
up_to-requires-clause-small c = let h = few_tokens c.args.text.now c.args.tokens.now (c.tokens_end.ensures _ _ c.requires.tokens) in omega arith

pub new-source-requires : goal.new-source-requires
new-source-requires c =
    let h = few_tokens c.args.text.now c.args.tokens.now (c.tokens_end.ensures _ _ c.requires.tokens) in
    let f : length c.up_to.result.now ≤ length c.args.tokens.now = subst (λ ts. length ts ≤ length c.args.tokens.now) (sym c.up_to.ensures) (reach_few c.args.tokens.now c.first_deep-deep.result) in omega arith

pub fault_of-requires : goal.fault_of-requires
fault_of-requires c =
    let text = c.args.text.now in
    let tokens = c.args.tokens.now in
    let end = c.tokens_end.ensures _ _ c.requires.tokens in
    let h = few_tokens text tokens end in
    let few : length (kinds (map (token_of text) tokens)) ≤ 2 ^ 32 = omega (arith, h, ap length (kinds_are text tokens), length-map tokens (kind_at text)) in
    let r : Read text tokens c.first_deep-deep.result c.new-source.result = record { tokens_of = end; first_deep = c.first_deep-deep.ensures.deep; source_is = c.new-source.ensures ∙ ap (kinds_at text) c.up_to.ensures } in
    fault_fits language_bounds BeginsDefs (kinds (map (token_of text) tokens)) _ few (whole_fault defs_from c.definitions.ensures text tokens c.first_deep-deep.result c.new-source.result r (λ v. map entry_of v.items) c.in-Err.stop c.in-Err.ensures)

pub returns-in-Err-clause-unexpected : goal.returns-in-Err-clause-unexpected
returns-in-Err-clause-unexpected c i e =
    let text = c.args.text.now in
    let tokens = c.args.tokens.now in
    let r : Read text tokens c.first_deep-deep.result c.new-source.result = record { tokens_of = c.tokens_end.ensures _ _ c.requires.tokens; first_deep = c.first_deep-deep.ensures.deep; source_is = c.new-source.ensures ∙ ap (kinds_at text) c.up_to.ensures } in
    let same : c.fault_of.result ≡ Unexpected i = cc in
    is_unexpected BeginsDefs (kinds (map (token_of text) tokens)) _ i (whole_fault defs_from c.definitions.ensures text tokens c.first_deep-deep.result c.new-source.result r (λ v. map entry_of v.items) c.in-Err.stop c.in-Err.ensures) (sym c.fault_of.ensures ∙ same)

pub returns-in-Err-clause-too_deep : goal.returns-in-Err-clause-too_deep
returns-in-Err-clause-too_deep c i e =
    let text = c.args.text.now in
    let tokens = c.args.tokens.now in
    let r : Read text tokens c.first_deep-deep.result c.new-source.result = record { tokens_of = c.tokens_end.ensures _ _ c.requires.tokens; first_deep = c.first_deep-deep.ensures.deep; source_is = c.new-source.ensures ∙ ap (kinds_at text) c.up_to.ensures } in
    let same : c.fault_of.result ≡ TooDeep i = cc in
    is_too_deep BeginsDefs (kinds (map (token_of text) tokens)) _ i (whole_fault defs_from c.definitions.ensures text tokens c.first_deep-deep.result c.new-source.result r (λ v. map entry_of v.items) c.in-Err.stop c.in-Err.ensures) (sym c.fault_of.ensures ∙ same)

pub returns-in-Ok-clause-reads : goal.returns-in-Ok-clause-reads
returns-in-Ok-clause-reads c =
    let text = c.args.text.now in
    let tokens = c.args.tokens.now in
    let r : Read text tokens c.first_deep-deep.result c.new-source.result = record { tokens_of = c.tokens_end.ensures _ _ c.requires.tokens; first_deep = c.first_deep-deep.ensures.deep; source_is = c.new-source.ensures ∙ ap (kinds_at text) c.up_to.ensures } in
    let a = c.in-Ok.ensures in
    definitions_read c.definitions.ensures text tokens c.first_deep-deep.result c.new-source.result c.requires.tokens r a.depth _ _ (a.agrees a.depth (omega arith))
