use Rattle.std.proofs.Common.{rules, ◌≡◌, ◌∷◌, [], Err}
use Rattle.p4_texts.specs.Machine.{a_member, fields, fixed, lines}
use Rattle.p4_parse.specs.Fields.{fields_tokens}
use Rattle.p4_parse.specs.Lines.{declarations_goals, declarations_tokens, members_tokens}
use Rattle.p4_parse.specs.Pieces.{piece_tokens}
use Rattle.p4_parse.specs.declared.pieces.Piece.TheVariants.{Headers, Meta}
use Rattle.p4_parse.proofs.ProgramPhrases.{declarations_read, no_fields, no_head, no_members, no_meta}
use Rattle.p4_parse.proofs.Stopping.{of_fixed, of_onwards, of_phrase, to_onwards}
use Rattle.p4_parse.proofs.program.declarations.Goals as goal

pub returns-in_err-first-clause-is : goal.returns-in_err-first-clause-is
returns-in_err-first-clause-is c =
    let ts = c.args.source.now in
    let stop = c.in_err-first.field-0.0 in
    let e : c.from_residual.result ≡ Err stop = search rules in
    to_onwards (fixed (piece_tokens Headers)) (declarations_goals c.args.count) (λ r. []) declarations_tokens ts c.args.pos c.args.pos _ stop e (λ i r. no_head c.args.count ts c.args.pos i r)
    (of_fixed (fixed (piece_tokens Headers)) (piece_tokens Headers) ts c.args.pos stop c.in_err-first.ensures)

pub returns-in_err-members-clause-is : goal.returns-in_err-members-clause-is
returns-in_err-members-clause-is c =
    let ts = c.args.source.now in
    let n = c.args.count in
    let stop = c.in_err-members.field-0.0 in
    let e : c.from_residual-in_err-members.result ≡ Err stop = search rules in
    to_onwards (lines n a_member) (declarations_goals n) (λ r. []) declarations_tokens ts c.args.pos c.in_ok-first.first _ stop e (λ i r. no_members n ts c.args.pos c.in_ok-first.first i c.in_ok-first.ensures r)
    (of_onwards (lines n a_member) (λ v. []) members_tokens ts c.in_ok-first.first stop c.in_err-members.ensures.is)

pub returns-in_err-meta-clause-is : goal.returns-in_err-meta-clause-is
returns-in_err-meta-clause-is c =
    let ts = c.args.source.now in
    let n = c.args.count in
    let stop = c.in_err-meta.field-0.0 in
    let e : c.from_residual-in_err-meta.result ≡ Err stop = search rules in
    to_onwards (fixed (piece_tokens Meta)) (declarations_goals n) (λ r. []) declarations_tokens ts c.args.pos c.in_ok-members.last _ stop e
    (λ i r. no_meta n ts c.args.pos c.in_ok-first.first c.in_ok-members.last i c.in_ok-members.members c.in_ok-first.ensures c.in_ok-members.ensures.is r)
    (of_fixed (fixed (piece_tokens Meta)) (piece_tokens Meta) ts c.in_ok-members.last stop c.in_err-meta.ensures)

pub returns-in_err-fields-clause-is : goal.returns-in_err-fields-clause-is
returns-in_err-fields-clause-is c =
    let ts = c.args.source.now in
    let n = c.args.count in
    let stop = c.in_err-fields.field-0.0 in
    let e : c.from_residual-in_err-fields.result ≡ Err stop = search rules in
    to_onwards (fields ∷ []) (declarations_goals n) (λ r. []) declarations_tokens ts c.args.pos c.in_ok-meta.meta _ stop e
    (λ i r. no_fields n ts c.args.pos c.in_ok-first.first c.in_ok-members.last c.in_ok-meta.meta i c.in_ok-members.members c.in_ok-first.ensures c.in_ok-members.ensures.is c.in_ok-meta.ensures r)
    (of_phrase (fields ∷ []) fields_tokens ts c.in_ok-meta.meta stop c.in_err-fields.ensures)

pub returns-clause-is : goal.returns-clause-is
returns-clause-is c =
    declarations_read c.args.count c.args.source.now c.args.pos c.in_ok-first.first c.in_ok-members.last c.in_ok-meta.meta c.in_ok-fields.end c.in_ok-members.members c.in_ok-fields.fields c.in_ok-first.ensures c.in_ok-members.ensures.is c.in_ok-meta.ensures c.in_ok-fields.ensures
