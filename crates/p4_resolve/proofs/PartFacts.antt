-- A whole text, part by part.
use Rattle.std.proofs.Common.{◌≡◌, ℕ, ◌+◌, ◌^◌, ◌<◌, true, false, List, [], ◌∷◌, ◌++◌, length, map, Some, codes, refl, sym, ap, subst, ◌∙◌, arith}
use Rattle.std.specs.Prelude.{nat_lt}
use Rattle.std.proofs.Math.Nat.{mod-eq_of_lt}
use Rattle.std.proofs.lemmas.Bool.{and_parts, ltb-true}
use Rattle.std.proofs.lemmas.List.{append-nil}
use Rattle.cocoon_num.specs.Lists.{each}
use Rattle.cocoon_num.specs.Tokens.{finish, mark}
use Rattle.p4_ir.specs.P4Text.{architecture, said}
use Rattle.p4_texts.specs.KindFaults.{control_pieces, fixed, header_pieces, kind_faults, line_pieces, member_pieces, meta_pieces, pieces}
use Rattle.p4_texts.specs.Meant.{program_of_text}
use Rattle.p4_texts.specs.Written.{ProgramText, deparser_head, egress_begins, egress_head, emit_then, extract_then, ingress_begins, ingress_head, parser_head, text_end, text_tokens}
use Rattle.p4_resolve.specs.FirstKind.{IsFirstKind, first_of}
use Rattle.p4_resolve.specs.Judged.{Passes, Rest, StopsBy, index, indices}
use Rattle.p4_resolve.specs.Parts.{from_egress, from_emits, from_extracts, from_ingress, from_members, from_meta}
use Rattle.p4_resolve.specs.declared.fault.KindFault.{KindFault}
use Rattle.p4_resolve.specs.declared.fault.KindFault.TheVariants.{Kind, NoMemory}
use Rattle.p4_resolve.proofs.PieceFacts.{all_passed, passed, started}

pub at_headers : (t : ProgramText) → Rest 0 (pieces t) 157 (header_pieces [] t.headers ++ (fixed (said (codes "struct Headers {")) ∷ from_members t))
at_headers t = passed 0 (pieces t) 0 157 (fixed architecture) (header_pieces [] t.headers ++ (fixed (said (codes "struct Headers {")) ∷ from_members t)) (started 0 (pieces t)) refl refl

pub at_members : (t : ProgramText) (n a : ℕ) → Passes 157 (header_pieces [] t.headers) n → a ≡ index (n + 3) → Rest 0 (pieces t) a (from_members t)
at_members t n a p e =
    passed 0 (pieces t) n a (fixed (said (codes "struct Headers {"))) (from_members t)
    (all_passed 0 (pieces t) 157 n (header_pieces [] t.headers) (fixed (said (codes "struct Headers {")) ∷ from_members t) (at_headers t) p) refl e

pub at_meta : (t : ProgramText) (m n a : ℕ) → Rest 0 (pieces t) m (from_members t) → Passes m (member_pieces (program_of_text t).headers t.rest.members) n → a ≡ index (n + 4) → Rest 0 (pieces t) a (from_meta t)
at_meta t m n a r p e =
    passed 0 (pieces t) n a (fixed (said (codes "} struct Meta {"))) (from_meta t)
    (all_passed 0 (pieces t) m n (member_pieces (program_of_text t).headers t.rest.members) (fixed (said (codes "} struct Meta {")) ∷ from_meta t) r p) refl e

pub at_extracts : (t : ProgramText) (m n a : ℕ) → Rest 0 (pieces t) m (from_meta t) → Passes m (meta_pieces [] t.rest.meta) n → a ≡ index (n + 19) → Rest 0 (pieces t) a (from_extracts t)
at_extracts t m n a r p e =
    passed 0 (pieces t) n a (fixed (mark (codes "}") ∷ said parser_head)) (from_extracts t)
    (all_passed 0 (pieces t) m n (meta_pieces [] t.rest.meta) (fixed (mark (codes "}") ∷ said parser_head) ∷ from_extracts t) r p) refl e

pub at_ingress : (t : ProgramText) (m n a : ℕ) → Rest 0 (pieces t) m (from_extracts t) → Passes m (line_pieces extract_then (program_of_text t).headers t.rest.extracts) n → a ≡ index (n + 45) → Rest 0 (pieces t) a (from_ingress t)
at_ingress t m n a r p e =
    passed 0 (pieces t) n a (fixed (said ingress_head)) (from_ingress t)
    (all_passed 0 (pieces t) m n (line_pieces extract_then (program_of_text t).headers t.rest.extracts) (fixed (said ingress_head) ∷ from_ingress t) r p) refl e

pub at_egress : (t : ProgramText) (m n a : ℕ) → Rest 0 (pieces t) m (from_ingress t) → Passes m (control_pieces t [] true ingress_begins t.rest.ingress) n → a ≡ index (n + 33) → Rest 0 (pieces t) a (from_egress t)
at_egress t m n a r p e =
    passed 0 (pieces t) n a (fixed (said egress_head)) (from_egress t)
    (all_passed 0 (pieces t) m n (control_pieces t [] true ingress_begins t.rest.ingress) (fixed (said egress_head) ∷ from_egress t) r p) refl e

pub at_deparser : (t : ProgramText) (m n : ℕ) → Rest 0 (pieces t) m (from_egress t) → Passes m (control_pieces t t.rest.ingress.tables false egress_begins t.rest.egress) n → Rest 0 (pieces t) n (fixed (said deparser_head) ∷ from_emits t)
at_deparser t m n r p = all_passed 0 (pieces t) m n (control_pieces t t.rest.ingress.tables false egress_begins t.rest.egress) (fixed (said deparser_head) ∷ from_emits t) r p

pub at_emits : (t : ProgramText) (m a : ℕ) → Rest 0 (pieces t) m (fixed (said deparser_head) ∷ from_emits t) → a ≡ index (m + 13) → Rest 0 (pieces t) a (from_emits t)
at_emits t m a r e = passed 0 (pieces t) m a (fixed (said deparser_head)) (from_emits t) r refl e

no_index : (is : List ℕ) → map index is ≡ [] → is ≡ []
no_index [] e = refl
no_index (i ∷ is) e = absurd cc

-- no piece of the text breaks its rule
pub all_keep : (t : ProgramText) (m n : ℕ) → Rest 0 (pieces t) m (from_emits t) → Passes m (line_pieces emit_then (program_of_text t).headers t.rest.emits) n → kind_faults t ≡ []
all_keep t m n r p =
    let last = all_passed 0 (pieces t) m n (line_pieces emit_then (program_of_text t).headers t.rest.emits) (fixed (said text_end ++ (finish ∷ [])) ∷ []) r p in
    no_index (kind_faults t) (sym (last.faults [] ∙ ap (indices 0) (append-nil (pieces t))))

first_index : (n : ℕ) (is : List ℕ) (i : ℕ) → n < 2 ^ 32 → each (λ j. nat_lt j n) is ≡ true → first_of (map index is) ≡ Some i → first_of is ≡ Some i
first_index n [] i few h e = e
first_index n (j ∷ js) i few h e =
    let below : j < n = ltb-true j n (and_parts (nat_lt j n) (each (λ j. nat_lt j n) js) h).0 in
    let same : index j ≡ j = mod-eq_of_lt (omega (arith, below, few)) in
    ap (λ k. Some k) (sym same) ∙ e

-- the first piece that breaks its rule is the first fault: the text has fewer than 2^32 tokens
pub first_kind : (t : ProgramText) (fault : KindFault) → length (text_tokens t) < 2 ^ 32 → each (λ i. nat_lt i (length (text_tokens t))) (kind_faults t) ≡ true → StopsBy 0 (pieces t) fault → IsFirstKind t fault
first_kind t (Kind i) few h s = first_index (length (text_tokens t)) (kind_faults t) i few h (subst (λ ps. first_of (indices 0 ps) ≡ Some i) (append-nil (pieces t)) (s.first []))
first_kind t NoMemory few h s = tt

pub extract_count : (x : List ℕ) → length (extract_then x []) ≡ 9
extract_count x = refl

pub emit_count : (x : List ℕ) → length (emit_then x []) ≡ 9
emit_count x = refl
