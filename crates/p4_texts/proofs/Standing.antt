-- Texts that read as programs.
use Rattle.std.specs.Prelude.{◌≡◌, ℕ, true, List}
use Rattle.std.proofs.Common.{sym, ap, ◌∙◌}
use Rattle.std.proofs.lemmas.Bool.{and_parts, and_from}
use Rattle.cocoon_num.specs.Tokens.{is_shallow, kinds}
use Rattle.p4_ir.specs.P4Kinds.{kinds_fit}
use Rattle.p4_ir.specs.P4Reads.{P4Reads}
use Rattle.p4_ir.specs.P4Text.{p4_bounds, program_tokens}
use Rattle.p4_ir.specs.P4Tree.{Program}
use Rattle.p4_texts.specs.Meant.{program_of_text}
use Rattle.p4_texts.specs.ReadText.{StandsFor}
use Rattle.p4_texts.specs.TextOf.{text_of_program}
use Rattle.p4_texts.specs.Written.{ProgramText, text_tokens}
use Rattle.p4_texts.proofs.BackWhole.{kinds_of, lines_of, no_fault_back, program_back}
use Rattle.p4_texts.proofs.Fits.{rules_kept, text_kept}
use Rattle.p4_texts.proofs.SaidWhole.{text_said}

pub read_as : (text : List ℕ) (t : ProgramText) (p : Program) → StandsFor text t p → P4Reads text p
read_as text t p s =
    let ks = kinds s.tokens in
    let said : ks ≡ program_tokens (program_of_text t) = s.text_at.tokens ∙ text_said t s.text_at.lines s.no_fault in
    let reads : ks ≡ program_tokens p = said ∙ ap program_tokens s.stands in
    let fits : kinds_fit p ≡ true = ap kinds_fit (sym s.stands) ∙ rules_kept t (text_kept t s.no_fault) in
    record {
      tokens = s.tokens;
      tokens_are = s.tokens_are;
      reads = reads;
      well_kinded = and_from (kinds_fit p) (is_shallow p4_bounds (program_tokens p)) fits (ap (is_shallow p4_bounds) (sym reads) ∙ s.shallow);
    }

pub stands_as : (text : List ℕ) (p : Program) → P4Reads text p → (t : ProgramText) × StandsFor text t p
stands_as text p r =
    let w = and_parts (kinds_fit p) (is_shallow p4_bounds (program_tokens p)) r.well_kinded in
    let t = text_of_program p in
    let none = no_fault_back p w.0 in
    let back = program_back p (kinds_of p w.0) in
    let said : text_tokens t ≡ program_tokens p = text_said t (lines_of p) none ∙ ap program_tokens back in (
      t,
      record {
        tokens = r.tokens;
        tokens_are = r.tokens_are;
        text_at = record { tokens = r.reads ∙ sym said; lines = lines_of p };
        shallow = ap (is_shallow p4_bounds) r.reads ∙ w.1;
        no_fault = none;
        stands = back;
      },
    )
