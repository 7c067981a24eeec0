use Rattle.std.proofs.Common.{map, subst}
use Rattle.cocoon_num.specs.FirstFaults.{BeginsDefs, BeginsDesign}
use Rattle.cocoon_num.specs.Tokens.{kinds}
use Rattle.cocoon_text.specs.Kinds.{token_of}
use Rattle.cocoon_text.specs.ParseFaults.{IsFirstFault}
use Rattle.cocoon_text.proofs.FirstFaults.{is_too_deep, is_unexpected}
use Rattle.cocoon_text.proofs.read.unparsed.Goals as goal

pub returns-in-Unexpected-clause-design : goal.returns-in-Unexpected-clause-design
returns-in-Unexpected-clause-design c h = is_unexpected BeginsDesign c.args.text.now c.args.tokens.now c.in-Unexpected.index _ c.requires.tokens c.fault_at_token.ensures.kind c.fault_at_token.ensures.line c.fault_at_token.ensures.column (subst (IsFirstFault BeginsDesign (kinds (map (token_of c.args.text.now) c.args.tokens.now))) c.in-Unexpected.is h)

pub returns-in-Unexpected-clause-definitions : goal.returns-in-Unexpected-clause-definitions
returns-in-Unexpected-clause-definitions c h = is_unexpected BeginsDefs c.args.text.now c.args.tokens.now c.in-Unexpected.index _ c.requires.tokens c.fault_at_token.ensures.kind c.fault_at_token.ensures.line c.fault_at_token.ensures.column (subst (IsFirstFault BeginsDefs (kinds (map (token_of c.args.text.now) c.args.tokens.now))) c.in-Unexpected.is h)

pub returns-in-TooDeep-clause-design : goal.returns-in-TooDeep-clause-design
returns-in-TooDeep-clause-design c h = is_too_deep BeginsDesign c.args.text.now c.args.tokens.now c.in-TooDeep.index _ c.requires.tokens c.fault_at_token-in-TooDeep.ensures.kind c.fault_at_token-in-TooDeep.ensures.line c.fault_at_token-in-TooDeep.ensures.column (subst (IsFirstFault BeginsDesign (kinds (map (token_of c.args.text.now) c.args.tokens.now))) c.in-TooDeep.is h)

pub returns-in-TooDeep-clause-definitions : goal.returns-in-TooDeep-clause-definitions
returns-in-TooDeep-clause-definitions c h = is_too_deep BeginsDefs c.args.text.now c.args.tokens.now c.in-TooDeep.index _ c.requires.tokens c.fault_at_token-in-TooDeep.ensures.kind c.fault_at_token-in-TooDeep.ensures.line c.fault_at_token-in-TooDeep.ensures.column (subst (IsFirstFault BeginsDefs (kinds (map (token_of c.args.text.now) c.args.tokens.now))) c.in-TooDeep.is h)
