use Rattle.std.proofs.Common.{◌≡◌, Err, subst}
use Rattle.cocoon_num.specs.Tokens.{bad_byte, bad_number, open_comment, language, lex}
use Rattle.cocoon_num.specs.FirstFaults.{BeginsDefs, BeginsDesign}
use Rattle.cocoon_text.specs.Kinds.{HasFault}
use Rattle.cocoon_text.specs.TextFaults as faults
use Rattle.cocoon_text.specs.declared.fault.FaultKind.TheVariants.{BadByte, BadNumber, OpenComment}
use Rattle.cocoon_text.proofs.FirstFaults.{first_fault}
use Rattle.cocoon_text.proofs.Within.{fault_within}
use Rattle.cocoon_text.proofs.read.unlexed.Goals as goal

pub fault_at-requires-clause-within : goal.fault_at-requires-clause-within
fault_at-requires-clause-within c = let h : lex language c.args.text.now ≡ Err (bad_byte c.in-BadByte.at) = subst (HasFault c.args.text.now) c.in-BadByte.is c.requires.fault in fault_within c.args.text.now _ h

pub fault_at-requires-in-BadNumber-clause-within : goal.fault_at-requires-in-BadNumber-clause-within
fault_at-requires-in-BadNumber-clause-within c = let h : lex language c.args.text.now ≡ Err (bad_number c.in-BadNumber.at) = subst (HasFault c.args.text.now) c.in-BadNumber.is c.requires.fault in fault_within c.args.text.now _ h

pub fault_at-requires-in-OpenComment-clause-within : goal.fault_at-requires-in-OpenComment-clause-within
fault_at-requires-in-OpenComment-clause-within c = let h : lex language c.args.text.now ≡ Err (open_comment c.in-OpenComment.at) = subst (HasFault c.args.text.now) c.in-OpenComment.is c.requires.fault in fault_within c.args.text.now _ h

pub returns-in-BadByte-clause-design : goal.returns-in-BadByte-clause-design
returns-in-BadByte-clause-design c = first_fault BeginsDesign c.args.text.now _ BadByte c.in-BadByte.at c.fault_at.ensures.kind c.fault_at.ensures.line c.fault_at.ensures.column (faults.bad_byte (subst (HasFault c.args.text.now) c.in-BadByte.is c.requires.fault))

pub returns-in-BadByte-clause-definitions : goal.returns-in-BadByte-clause-definitions
returns-in-BadByte-clause-definitions c = first_fault BeginsDefs c.args.text.now _ BadByte c.in-BadByte.at c.fault_at.ensures.kind c.fault_at.ensures.line c.fault_at.ensures.column (faults.bad_byte (subst (HasFault c.args.text.now) c.in-BadByte.is c.requires.fault))

pub returns-in-BadNumber-clause-design : goal.returns-in-BadNumber-clause-design
returns-in-BadNumber-clause-design c = first_fault BeginsDesign c.args.text.now _ BadNumber c.in-BadNumber.at c.fault_at-in-BadNumber.ensures.kind c.fault_at-in-BadNumber.ensures.line c.fault_at-in-BadNumber.ensures.column (faults.bad_number (subst (HasFault c.args.text.now) c.in-BadNumber.is c.requires.fault))

pub returns-in-BadNumber-clause-definitions : goal.returns-in-BadNumber-clause-definitions
returns-in-BadNumber-clause-definitions c = first_fault BeginsDefs c.args.text.now _ BadNumber c.in-BadNumber.at c.fault_at-in-BadNumber.ensures.kind c.fault_at-in-BadNumber.ensures.line c.fault_at-in-BadNumber.ensures.column (faults.bad_number (subst (HasFault c.args.text.now) c.in-BadNumber.is c.requires.fault))

pub returns-in-OpenComment-clause-design : goal.returns-in-OpenComment-clause-design
returns-in-OpenComment-clause-design c = first_fault BeginsDesign c.args.text.now _ OpenComment c.in-OpenComment.at c.fault_at-in-OpenComment.ensures.kind c.fault_at-in-OpenComment.ensures.line c.fault_at-in-OpenComment.ensures.column (faults.open_comment (subst (HasFault c.args.text.now) c.in-OpenComment.is c.requires.fault))

pub returns-in-OpenComment-clause-definitions : goal.returns-in-OpenComment-clause-definitions
returns-in-OpenComment-clause-definitions c = first_fault BeginsDefs c.args.text.now _ OpenComment c.in-OpenComment.at c.fault_at-in-OpenComment.ensures.kind c.fault_at-in-OpenComment.ensures.line c.fault_at-in-OpenComment.ensures.column (faults.open_comment (subst (HasFault c.args.text.now) c.in-OpenComment.is c.requires.fault))
