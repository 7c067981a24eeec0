-- A program is the one that the text of its tokens stands for, and some tokens have one text.
use Rattle.std.specs.Prelude.{◌≡◌, ℕ, true, List, [], length}
use Rattle.std.proofs.Common.{sym, ◌∙◌, ap, subst}
use Rattle.std.proofs.lemmas.Bool.{and_parts}
use Rattle.std.proofs.lemmas.List.{length-map}
use Rattle.cocoon_num.specs.Tokens.{Kind, is_shallow}
use Rattle.p4_ir.specs.P4Kinds.{kinds_fit}
use Rattle.p4_ir.specs.P4Reads.{P4Reads}
use Rattle.p4_ir.specs.P4Text.{p4_bounds, program_tokens}
use Rattle.p4_ir.specs.P4Tree.{Program}
use Rattle.p4_ir.specs.WellKinded.{WellKinded}
use Rattle.p4_texts.specs.KindFaults.{kind_faults}
use Rattle.p4_texts.specs.Meant.{program_of_text}
use Rattle.p4_texts.specs.TextOf.{header_written, line_written, member_written, text_of_program}
use Rattle.p4_read.specs.Answers.{Answer, Answers, a_program}
use Rattle.p4_texts.specs.Written.{Lines, P4TextAt, ProgramText, text_tokens}

-- laws of the crates below
pub record Laws : Type 0 where
  pub one_text : (ks : List Kind) (t u : ProgramText) → P4TextAt ks t → P4TextAt ks u → t ≡ u
  pub no_fault : (p : Program) → kinds_fit p ≡ true → kind_faults (text_of_program p) ≡ []
  pub stands : (p : Program) → kinds_fit p ≡ true → program_of_text (text_of_program p) ≡ p
  pub tokens : (t : ProgramText) → Lines (length t.headers) t.rest → kind_faults t ≡ [] → text_tokens t ≡ program_tokens (program_of_text t)

-- a text has one answer
abbrev pub OneAnswer : Type 0
OneAnswer = (text : List ℕ) (a b : Answer) → Answers text a → Answers text b → a ≡ b

kinds_kept : (p : Program) → WellKinded p → kinds_fit p ≡ true
kinds_kept p w = (and_parts (kinds_fit p) (is_shallow p4_bounds (program_tokens p)) w).0

lines_of : (p : Program) → Lines (length (text_of_program p).headers) (text_of_program p).rest
lines_of p = record {
  members = length-map p.headers member_written ∙ sym (length-map p.headers header_written);
  extracts = length-map p.headers line_written ∙ sym (length-map p.headers header_written);
  emits = length-map p.headers line_written ∙ sym (length-map p.headers header_written);
}

text_at : Laws → (p : Program) → kinds_fit p ≡ true → P4TextAt (program_tokens p) (text_of_program p)
text_at laws p h =
    let said = laws.tokens (text_of_program p) (lines_of p) (laws.no_fault p h) ∙ ap program_tokens (laws.stands p h) in
    record { tokens = sym said; lines = lines_of p }

pub one_program_of_tokens : Laws → (p q : Program) → WellKinded p → WellKinded q → program_tokens p ≡ program_tokens q → p ≡ q
one_program_of_tokens laws p q v w e =
    let j = kinds_kept p v in
    let k = kinds_kept q w in
    let first = subst (λ ks. P4TextAt ks (text_of_program p)) e (text_at laws p j) in
    let same = laws.one_text (program_tokens q) (text_of_program p) (text_of_program q) first (text_at laws q k) in
    sym (laws.stands p j) ∙ ap program_of_text same ∙ laws.stands q k

same_program : (p q : Program) → a_program p ≡ a_program q → p ≡ q
same_program p q e = cc

pub one_program : OneAnswer → (text : List ℕ) (p q : Program) → P4Reads text p → P4Reads text q → p ≡ q
one_program one text p q x y = same_program p q (one text (a_program p) (a_program q) x y)
