-- The printed text of a program has its tokens.
use Rattle.std.proofs.Common.{◌≡◌, ℕ, ◌^◌, ◌≤◌, ◌<◌, List, [], ◌∷◌, ◌++◌, Bool, true, false, Ok, refl, pow_pos, ap, sym, ◌∙◌, arith, append_assoc}
use Rattle.std.specs.Prelude.{codes, flat_map}
use Rattle.cocoon_num.specs.Tokens.{Kind, a_name, plain, literal, mark, finish, Token, lex, kinds}
use Rattle.p4_ir.specs.P4Tree.{P4Field, P4Header, P4Table, Control, Program, meta_width}
use Rattle.p4_ir.specs.P4Text.{said, p4_lexicon, meta_tokens, action_name, table_name, architecture, header_tokens, member_tokens, meta_member_tokens, match_kind, table_tokens, program_tokens, declared, header_name, block_tokens}
use Rattle.text_lines.specs.Printing.{each_text}
use Rattle.p4_emit.specs.Printed.{fixed as fixed_text, architecture_piece, header_field_text, header_text, member_text, meta_member_text, extract_text, deparse_text, kind_text, key_text, keys_text, action_text, default_text, table_text, heads_text, ingress_text, egress_text, printed}
use Rattle.text_lines.proofs.Seams.{spells_lexes}
use Rattle.p4_emit.proofs.Prints.{Part, Lines, opens, follows, after, line, leads, ends, lines_as, no_lines, between, Each, FieldFits, HeaderFits, MetaFits, NamesFit, word_part, plain_part, literal_part, meta_part, table_part, action_part, semicolon, whole, BlockFits, block_lines}

each_lines : {A : Type 0} (P : A → Type 0) (f : A → List ℕ) (g : A → List Kind) → ((x : A) → P x → Lines (f x) (g x)) → (xs : List A) → Each P xs → Lines (each_text f xs) (flat_map g xs)
each_lines P f g h [] e = no_lines
each_lines P f g h (x ∷ xs) e = after (h x e.0) (each_lines P f g h xs e.1)

field_lines : (f : P4Field) → FieldFits f → Lines (header_field_text f) (declared f.width (a_name (codes "f_" ++ f.name)) ++ mark (codes ";") ∷ [])
unfolding header_field_text
field_lines f h =
    line 2 (opens (codes "bit<") refl (follows (plain_part f.width h.width)
    (leads (codes "> ") refl (follows (word_part (codes "f_" ++ f.name) h.name) semicolon))))

meta_member_lines : (f : P4Field) → MetaFits f → Lines (meta_member_text f) (meta_member_tokens f)
unfolding meta_member_text
meta_member_lines f h =
    line 2 (opens (codes "bit<") refl (follows (plain_part f.width h.width)
    (leads (codes "> ") refl (follows (word_part f.name h.name) semicolon))))

header_lines : (h : P4Header) → HeaderFits h → Lines (header_text h) (header_tokens h)
unfolding header_text
header_lines h f =
    leads (codes "\nheader ") refl (follows (word_part (codes "ht_" ++ h.name) f.name)
    (between (codes " {") refl (after (each_lines FieldFits header_field_text _ field_lines h.fields f.fields) (ends (codes "\n}") refl))))

member_lines : (h : P4Header) → HeaderFits h → Lines (member_text h) (member_tokens h)
unfolding member_text
member_lines h f =
    line 2 (follows (word_part (codes "ht_" ++ h.name) f.name) (leads (codes " ") refl (follows (word_part (codes "h_" ++ h.name) f.name) semicolon)))

extract_lines : (h : P4Header) → HeaderFits h → Lines (extract_text h) (said (codes "b.extract(h.") ++ header_name h.name ∷ said (codes ");"))
unfolding extract_text
extract_lines h f = line 4 (opens (codes "b.extract(h.") refl (follows (word_part (codes "h_" ++ h.name) f.name) (ends (codes ");") refl)))

deparse_lines : (h : P4Header) → HeaderFits h → Lines (deparse_text h) (said (codes "b.emit(h.") ++ header_name h.name ∷ said (codes ");"))
unfolding deparse_text
deparse_lines h f = line 4 (opens (codes "b.emit(h.") refl (follows (word_part (codes "h_" ++ h.name) f.name) (ends (codes ");") refl)))

-- ---- tables

pub record TableFits (p : Program) (t : P4Table) : Type 0 where
  pub number : t.number < 2 ^ 32
  pub some : 1 ≤ meta_width p t.result
  pub narrow : meta_width p t.result ≤ 128

kind_lines : (exact : Bool) → Lines (kind_text exact) (mark (codes ":") ∷ match_kind exact ∷ mark (codes ";") ∷ [])
kind_lines true = ends (codes " : exact;") refl
kind_lines false = ends (codes " : ternary;") refl

key_lines : (p : Program) → NamesFit p → (exact : Bool) (i : ℕ) → Unit {0} → Lines (key_text p exact i) (meta_tokens p i ++ mark (codes ":") ∷ match_kind exact ∷ mark (codes ";") ∷ [])
unfolding key_text
key_lines p n exact i u = leads (codes " ") refl (follows (meta_part p i n) (kind_lines exact))

each_unit : {A : Type 0} → (xs : List A) → Each (λ x. Unit {0}) xs
each_unit [] = tt
each_unit (x ∷ xs) = (tt, each_unit xs)

keys_lines : (p : Program) → NamesFit p → (t : P4Table) → TableFits p t → Lines (keys_text p t) (a_name (codes "table") ∷ table_name t.number ∷ mark (codes "{") ∷ a_name (codes "key") ∷ mark (codes "=") ∷ mark (codes "{") ∷ (flat_map (λ i. meta_tokens p i ++ mark (codes ":") ∷ match_kind t.exact ∷ mark (codes ";") ∷ []) t.keys ++ mark (codes "}") ∷ []))
unfolding keys_text
keys_lines p n t f =
    leads (codes "\n  table ") refl (follows (table_part t.number f.number)
    (between (codes " {\n    key = {") refl (after (each_lines (λ i. Unit {0}) (key_text p t.exact) _ (key_lines p n t.exact) t.keys (each_unit t.keys)) (ends (codes " }") refl))))

action_lines : (p : Program) → NamesFit p → (t : P4Table) → TableFits p t →
    Lines (action_text p t) (a_name (codes "action") ∷ action_name t.number ∷ mark (codes "(") ∷ a_name (codes "bit") ∷ mark (codes "<") ∷ plain (meta_width p t.result) ∷ mark (codes ">") ∷ a_name (codes "v") ∷ mark (codes ")") ∷ mark (codes "{") ∷ (meta_tokens p t.result ++ mark (codes "=") ∷ a_name (codes "v") ∷ mark (codes ";") ∷ mark (codes "}") ∷ []))
unfolding action_text
action_lines p n t f =
    line 2 (opens (codes "action ") refl (follows (action_part t.number f.number) (leads (codes "(bit<") refl
    (follows (plain_part (meta_width p t.result) (omega (arith, f.narrow))) (leads (codes "> v) { ") refl (follows (meta_part p t.result n) (ends (codes " = v; }") refl)))))))

default_lines : (p : Program) (t : P4Table) → TableFits p t → Lines (default_text p t) (a_name (codes "actions") ∷ mark (codes "=") ∷ mark (codes "{") ∷ action_name t.number ∷ mark (codes ";") ∷ mark (codes "}") ∷ a_name (codes "default_action") ∷ mark (codes "=") ∷ action_name t.number ∷ mark (codes "(") ∷ literal (meta_width p t.result) 0 ∷ mark (codes ")") ∷ mark (codes ";") ∷ mark (codes "}") ∷ [])
unfolding default_text
default_lines p t f =
    leads (codes "\n    actions = { ") refl (follows (action_part t.number f.number)
    (leads (codes "; }\n    default_action = ") refl (follows (action_part t.number f.number) (leads (codes "(") refl
    (follows (literal_part (meta_width p t.result) 0 f.some f.narrow (pow_pos (meta_width p t.result))) (ends (codes ");\n  }") refl))))))

out_of_three : (a b c d : List Kind) → ((a ++ b) ++ c) ++ d ≡ a ++ (b ++ (c ++ d))
out_of_three a b c d = append_assoc (a ++ b) c d ∙ append_assoc a b (c ++ d)

out_of_four : (a b c d e : List Kind) → (((a ++ b) ++ c) ++ d) ++ e ≡ a ++ (b ++ (c ++ (d ++ e)))
out_of_four a b c d e = append_assoc ((a ++ b) ++ c) d e ∙ out_of_three a b c (d ++ e)

table_lines : (p : Program) → NamesFit p → (t : P4Table) → TableFits p t → Lines (table_text p t) (table_tokens p t)
table_lines p n t f =
    let k = flat_map (λ i. meta_tokens p i ++ mark (codes ":") ∷ match_kind t.exact ∷ mark (codes ";") ∷ []) t.keys in
    let a = action_name t.number in
    let actions : List Kind = a_name (codes "actions") ∷ mark (codes "=") ∷ mark (codes "{") ∷ a ∷ mark (codes ";") ∷ mark (codes "}") ∷ [] in
    let otherwise : List Kind = a_name (codes "default_action") ∷ mark (codes "=") ∷ a ∷ mark (codes "(") ∷ literal (meta_width p t.result) 0 ∷ mark (codes ")") ∷ mark (codes ";") ∷ [] in
    let set : List Kind = mark (codes "=") ∷ a_name (codes "v") ∷ [] in
    let b : List Kind = mark (codes "}") ∷ [] in
    lines_as (after (action_lines p n t f) (after (keys_lines p n t f) (default_lines p t f)))
    (ap (λ z. a_name (codes "action") ∷ a ∷ mark (codes "(") ∷ a_name (codes "bit") ∷ mark (codes "<") ∷ plain (meta_width p t.result) ∷ mark (codes ">") ∷ a_name (codes "v") ∷ mark (codes ")") ∷ mark (codes "{") ∷ z)
    (append_assoc (meta_tokens p t.result) (mark (codes "=") ∷ a_name (codes "v") ∷ mark (codes ";") ∷ mark (codes "}") ∷ []) _
    ∙ ap (λ y. meta_tokens p t.result ++ (mark (codes "=") ∷ a_name (codes "v") ∷ mark (codes ";") ∷ mark (codes "}") ∷ a_name (codes "table") ∷ table_name t.number ∷ mark (codes "{") ∷ a_name (codes "key") ∷ mark (codes "=") ∷ mark (codes "{") ∷ y))
    (append_assoc k b _ ∙ sym (out_of_four k b actions otherwise b))
    ∙ sym (out_of_four (meta_tokens p t.result) set (mark (codes ";") ∷ []) b (a_name (codes "table") ∷ table_name t.number ∷ mark (codes "{") ∷ a_name (codes "key") ∷ mark (codes "=") ∷ mark (codes "{") ∷ ((((k ++ b) ++ actions) ++ otherwise) ++ b)))))

pub record ControlFits (p : Program) (c : Control) : Type 0 where
  pub tables : Each (TableFits p) c.tables
  pub body : BlockFits c.body

pub record ProgramFits (p : Program) : Type 0 where
  pub names : NamesFit p
  pub ingress : ControlFits p p.ingress
  pub egress : ControlFits p p.egress

abbrev extracts : Program → List Kind
extracts p = flat_map (λ (d : P4Header). said (codes "b.extract(h.") ++ header_name d.name ∷ said (codes ");")) p.headers

abbrev deparses : Program → List Kind
deparses p = flat_map (λ (d : P4Header). said (codes "b.emit(h.") ++ header_name d.name ∷ said (codes ");")) p.headers

heads_part : (p : Program) → ProgramFits p → Part (heads_text p)
    (architecture ++ (flat_map header_tokens p.headers ++ (said (codes "struct Headers {") ++ (flat_map member_tokens p.headers ++ (said (codes "} struct Meta {") ++ (flat_map meta_member_tokens p.meta
    ++ (said (codes "} parser Prs(packet_in b, out Headers h, inout Meta m) { state start {") ++ extracts p)))))))
unfolding heads_text fixed_text
heads_part p f =
    follows (whole (fixed_text architecture_piece) refl) (after (each_lines HeaderFits header_text header_tokens header_lines p.headers f.names.headers)
    (between (codes "\nstruct Headers {") refl (after (each_lines HeaderFits member_text member_tokens member_lines p.headers f.names.headers)
    (between (codes "\n}\nstruct Meta {") refl (after (each_lines MetaFits meta_member_text meta_member_tokens meta_member_lines p.meta f.names.meta)
    (between (codes "\n}\nparser Prs(packet_in b, out Headers h, inout Meta m) {\n  state start {") refl (each_lines HeaderFits extract_text _ extract_lines p.headers f.names.headers)))))))

ingress_lines : (p : Program) → ProgramFits p → Lines (ingress_text p)
    (said (codes "transition accept; } } control Ing(inout Headers h, inout Meta m, in bit<16> port, out bit<8> verdict, out bit<16> egress_port, out bit<16> group) {")
    ++ (flat_map (table_tokens p) p.ingress.tables ++ (said (codes "apply { verdict = 8w0; egress_port = 16w0; group = 16w0;") ++ block_tokens p p.ingress.body)))
unfolding ingress_text fixed_text
ingress_lines p f =
    between (codes "\n    transition accept;\n  }\n}\ncontrol Ing(inout Headers h, inout Meta m, in bit<16> port, out bit<8> verdict, out bit<16> egress_port, out bit<16> group) {") refl
    (after (each_lines (TableFits p) (table_text p) (table_tokens p) (table_lines p f.names) p.ingress.tables f.ingress.tables)
    (between (codes "\n  apply {\n    verdict = 8w0;\n    egress_port = 16w0;\n    group = 16w0;") refl (block_lines p f.names 4 p.ingress.body f.ingress.body)))

egress_lines : (p : Program) → ProgramFits p → Lines (egress_text p)
    (said (codes "} } control Egr(inout Headers h, inout Meta m, in bit<64> rid, out bit<8> verdict, out bit<16> egress_port) {")
    ++ (flat_map (table_tokens p) p.egress.tables ++ (said (codes "apply { verdict = 8w0; egress_port = 16w0;") ++ (block_tokens p p.egress.body
    ++ (said (codes "} } control Dep(packet_out b, in Headers h) { apply {") ++ (deparses p ++ said (codes "} } CocoonSwitch(Prs(), Ing(), Egr(), Dep()) main;")))))))
unfolding egress_text fixed_text
egress_lines p f =
    between (codes "\n  }\n}\ncontrol Egr(inout Headers h, inout Meta m, in bit<64> rid, out bit<8> verdict, out bit<16> egress_port) {") refl
    (after (each_lines (TableFits p) (table_text p) (table_tokens p) (table_lines p f.names) p.egress.tables f.egress.tables)
    (between (codes "\n  apply {\n    verdict = 8w0;\n    egress_port = 16w0;") refl (after (block_lines p f.names 4 p.egress.body f.egress.body)
    (between (codes "\n  }\n}\ncontrol Dep(packet_out b, in Headers h) {\n  apply {") refl (after (each_lines HeaderFits deparse_text _ deparse_lines p.headers f.names.headers)
    (ends (codes "\n  }\n}\nCocoonSwitch(Prs(), Ing(), Egr(), Dep()) main;\n") refl))))))

same_order : (a h m mm ex t1 b1 k1 t2 b2 k2 dep s1 s2 s3 s4 s5 s6 s7 s8 fin o c w : List Kind) →
    ((a ++ (h ++ ((s1 ++ o) ++ (m ++ ((c ++ (s2 ++ o)) ++ (mm ++ ((c ++ s3) ++ ex))))))) ++ (((s4 ++ (s5 ++ o)) ++ (t1 ++ ((w ++ b1) ++ k1))) ++ ((c ++ (c ++ (s6 ++ o))) ++ (t2 ++ ((w ++ b2) ++ (k2 ++ ((c ++ (c ++ s7)) ++ (dep ++ (c ++ (c ++ s8)))))))))) ++ fin
    ≡ a ++ h ++ s1 ++ (o ++ (m ++ c)) ++ s2 ++ (o ++ (mm ++ c)) ++ s3 ++ ex ++ s4 ++ s5 ++ (o ++ ((t1 ++ (w ++ ((b1 ++ k1) ++ c))) ++ c)) ++ s6 ++ (o ++ ((t2 ++ (w ++ ((b2 ++ k2) ++ c))) ++ c)) ++ s7 ++ dep ++ (c ++ (c ++ s8)) ++ fin
same_order a h m mm ex t1 b1 k1 t2 b2 k2 dep s1 s2 s3 s4 s5 s6 s7 s8 fin o c w = simp append_assoc

-- some tokens of the printed text, at their offsets, which are the program's
pub printed_tokens : (p : Program) → ProgramFits p → (ts : List Token) × (lex p4_lexicon (printed p) ≡ Ok ts) × (kinds ts ≡ program_tokens p)
printed_tokens p f =
    let l = spells_lexes (follows (heads_part p f) (after (ingress_lines p f) (egress_lines p f))).spells in (
      l.tokens,
      l.are,
      l.of_kinds ∙ same_order architecture (flat_map header_tokens p.headers) (flat_map member_tokens p.headers) (flat_map meta_member_tokens p.meta) (extracts p)
          (flat_map (table_tokens p) p.ingress.tables) (said (codes "verdict = 8w0; egress_port = 16w0; group = 16w0;")) (block_tokens p p.ingress.body)
          (flat_map (table_tokens p) p.egress.tables) (said (codes "verdict = 8w0; egress_port = 16w0;")) (block_tokens p p.egress.body) (deparses p)
          (said (codes "struct Headers")) (said (codes "struct Meta")) (said (codes "parser Prs(packet_in b, out Headers h, inout Meta m) { state start {")) (said (codes "transition accept; } }"))
          (said (codes "control Ing(inout Headers h, inout Meta m, in bit<16> port, out bit<8> verdict, out bit<16> egress_port, out bit<16> group)"))
          (said (codes "control Egr(inout Headers h, inout Meta m, in bit<64> rid, out bit<8> verdict, out bit<16> egress_port)")) (said (codes "control Dep(packet_out b, in Headers h) { apply {"))
          (said (codes "CocoonSwitch(Prs(), Ing(), Egr(), Dep()) main;")) (finish ∷ []) (mark (codes "{") ∷ []) (mark (codes "}") ∷ []) (a_name (codes "apply") ∷ mark (codes "{") ∷ []),
    )
