-- Cited by private clauses: the pieces of a text from each of its parts on.
use Rattle.std.specs.Prelude.{◌≡◌, ℕ, true, false, List, [], ◌∷◌, ◌++◌, codes}
use Rattle.cocoon_num.specs.Tokens.{finish, mark}
use Rattle.p4_ir.specs.P4Text.{said}
use Rattle.p4_ir.specs.P4Tree.{Control}
use Rattle.p4_texts.specs.KindFaults.{Piece, control_pieces, fixed, line_pieces, member_pieces, meta_pieces, pieces}
use Rattle.p4_texts.specs.Meant.{control_meant, program_of_text}
use Rattle.p4_texts.specs.Written.{ProgramText, deparser_head, egress_begins, egress_head, emit_then, extract_then, ingress_begins, ingress_head, parser_head, text_end}
use Rattle.p4_resolve.specs.Controls.{KnowsText}
use Rattle.p4_resolve.specs.Judged.{Rest}
use Rattle.p4_resolve.specs.declared.scope.Scope.{Scope}

abbrev pub from_emits : ProgramText → List Piece
from_emits t = line_pieces emit_then (program_of_text t).headers t.rest.emits ++ (fixed (said text_end ++ (finish ∷ [])) ∷ [])

abbrev pub from_egress : ProgramText → List Piece
from_egress t = control_pieces t t.rest.ingress.tables false egress_begins t.rest.egress ++ (fixed (said deparser_head) ∷ from_emits t)

abbrev pub from_ingress : ProgramText → List Piece
from_ingress t = control_pieces t [] true ingress_begins t.rest.ingress ++ (fixed (said egress_head) ∷ from_egress t)

abbrev pub from_extracts : ProgramText → List Piece
from_extracts t = line_pieces extract_then (program_of_text t).headers t.rest.extracts ++ (fixed (said ingress_head) ∷ from_ingress t)

abbrev pub from_meta : ProgramText → List Piece
from_meta t = meta_pieces [] t.rest.meta ++ (fixed (mark (codes "}") ∷ said parser_head) ∷ from_extracts t)

abbrev pub from_members : ProgramText → List Piece
from_members t = member_pieces (program_of_text t).headers t.rest.members ++ (fixed (said (codes "} struct Meta {")) ∷ from_meta t)

-- the declarations before the ingress keep their rules, and the scope has them
pub record Declared (t : ProgramText) (s : Scope) (at : ℕ) : Type 0 where
  pub known : KnowsText s t
  pub in_ingress : s.in_ingress ≡ true
  pub rest : Rest 0 (pieces t) at (from_ingress t)

-- both controls keep their rules
pub record ControlsKeep (t : ProgramText) (ingress egress : Control) (at : ℕ) : Type 0 where
  pub ingress_is : ingress ≡ control_meant t t.rest.ingress
  pub egress_is : egress ≡ control_meant t t.rest.egress
  pub rest : Rest 0 (pieces t) at (fixed (said deparser_head) ∷ from_emits t)
