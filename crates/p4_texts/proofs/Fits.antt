-- What a whole text without a fault keeps, part by part.
use Rattle.std.specs.Prelude.{◌≡◌, ℕ, ◌&&◌, Bool, true, false, List, [], ◌∷◌, ◌++◌, map, refl}
use Rattle.std.proofs.lemmas.Bool.{and_from}
use Rattle.cocoon_num.specs.Lists.{all_distinct, ascend, each}
use Rattle.p4_ir.specs.P4Kinds.{block_fits, is_meta_name, kinds_fit, names_fit, numbers_of, table_fits, tables_fit, widths_fit}
use Rattle.cocoon_num.specs.Sorts.{is_declared_width}
use Rattle.p4_ir.specs.P4Tree.{P4Field, P4Header, field_widths}
use Rattle.p4_texts.specs.KindFaults.{Piece, block_pieces, control_pieces, header_pieces, kind_faults, line_pieces, member_pieces, meta_pieces, pieces, stands_in, table_pieces}
use Rattle.p4_texts.specs.Meant.{program_of_text, table_meant}
use Rattle.p4_texts.specs.Written.{ControlText, ProgramText, TableText, egress_begins, emit_then, extract_then, ingress_begins}
use Rattle.p4_texts.proofs.Kept.{block_kept, header_named, header_wide, headers_kept, kept, kept_both, kept_parts, meta_kept, no_faults, none_broken, tables_kept}
use Rattle.p4_texts.proofs.Words.{deparser_pieces, egress_pieces, end_pieces, ingress_pieces, parser_pieces, rest_pieces, struct_pieces}

-- the pieces of each part keep the rules
pub record TextKept (t : ProgramText) : Type 0 where
  pub headers : kept (header_pieces [] t.headers) ≡ true
  pub members : kept (member_pieces (program_of_text t).headers t.rest.members) ≡ true
  pub meta : kept (meta_pieces [] t.rest.meta) ≡ true
  pub extracts : kept (line_pieces extract_then (program_of_text t).headers t.rest.extracts) ≡ true
  pub ingress_tables : kept (table_pieces t [] [] t.rest.ingress.tables) ≡ true
  pub ingress_body : kept (block_pieces t (stands_in t true t.rest.ingress) t.rest.ingress.body) ≡ true
  pub egress_tables : kept (table_pieces t (map (λ (k : TableText). k.action) t.rest.ingress.tables) (numbers_of (map (table_meant t) t.rest.ingress.tables)) t.rest.egress.tables) ≡ true
  pub egress_body : kept (block_pieces t (stands_in t false t.rest.egress) t.rest.egress.body) ≡ true
  pub emits : kept (line_pieces emit_then (program_of_text t).headers t.rest.emits) ≡ true

abbrev tables_in : ProgramText → List TableText → ControlText → List Piece
tables_in t before c = table_pieces t (map (λ (k : TableText). k.action) before) (numbers_of (map (table_meant t) before)) c.tables

abbrev body_in : ProgramText → (in_ingress : Bool) → ControlText → List Piece
body_in t in_ingress c = block_pieces t (stands_in t in_ingress c) c.body

control_parts : (t : ProgramText) (before : List TableText) (in_ingress : Bool) (begin : List ℕ) (c : ControlText) → kept (control_pieces t before in_ingress begin c) ≡ true
    → (kept (tables_in t before c) ≡ true) × (kept (body_in t in_ingress c) ≡ true)
control_parts t before in_ingress begin c h =
    let p = kept_parts (tables_in t before c) (_ ∷ (body_in t in_ingress c ++ (_ ∷ []))) h in
    (p.0, (kept_parts (body_in t in_ingress c) (_ ∷ []) p.1).0)

control_all : (t : ProgramText) (before : List TableText) (in_ingress : Bool) (begin : List ℕ) (c : ControlText) → kept (tables_in t before c) ≡ true → kept (body_in t in_ingress c) ≡ true
    → kept (control_pieces t before in_ingress begin c) ≡ true
control_all t before in_ingress begin c h k = kept_both (tables_in t before c) (_ ∷ (body_in t in_ingress c ++ (_ ∷ []))) h (kept_both (body_in t in_ingress c) (_ ∷ []) k refl)

text_parts : (t : ProgramText) → kept (pieces t) ≡ true → TextKept t
text_parts t h =
    let a = kept_parts (header_pieces [] t.headers) (_ ∷ rest_pieces t) h in
    let b = kept_parts (member_pieces (program_of_text t).headers t.rest.members) (_ ∷ struct_pieces t) a.1 in
    let c = kept_parts (meta_pieces [] t.rest.meta) (_ ∷ parser_pieces t) b.1 in
    let d = kept_parts (line_pieces extract_then (program_of_text t).headers t.rest.extracts) (_ ∷ ingress_pieces t) c.1 in
    let e = kept_parts (control_pieces t [] true ingress_begins t.rest.ingress) (_ ∷ egress_pieces t) d.1 in
    let f = kept_parts (control_pieces t t.rest.ingress.tables false egress_begins t.rest.egress) (_ ∷ deparser_pieces t) e.1 in
    let g = kept_parts (line_pieces emit_then (program_of_text t).headers t.rest.emits) end_pieces f.1 in
    let i = control_parts t [] true ingress_begins t.rest.ingress e.0 in
    let j = control_parts t t.rest.ingress.tables false egress_begins t.rest.egress f.0 in
    record { headers = a.0; members = b.0; meta = c.0; extracts = d.0; ingress_tables = i.0; ingress_body = i.1; egress_tables = j.0; egress_body = j.1; emits = g.0 }

pub text_kept : (t : ProgramText) → kind_faults t ≡ [] → TextKept t
text_kept t h = text_parts t (none_broken 0 (pieces t) h)

pub none_where_kept : (t : ProgramText) → TextKept t → kind_faults t ≡ []
none_where_kept t k =
    no_faults 0 (pieces t)
    (kept_both (header_pieces [] t.headers) (_ ∷ rest_pieces t) k.headers
    (kept_both (member_pieces (program_of_text t).headers t.rest.members) (_ ∷ struct_pieces t) k.members
    (kept_both (meta_pieces [] t.rest.meta) (_ ∷ parser_pieces t) k.meta
    (kept_both (line_pieces extract_then (program_of_text t).headers t.rest.extracts) (_ ∷ ingress_pieces t) k.extracts
    (kept_both (control_pieces t [] true ingress_begins t.rest.ingress) (_ ∷ egress_pieces t) (control_all t [] true ingress_begins t.rest.ingress k.ingress_tables k.ingress_body)
    (kept_both (control_pieces t t.rest.ingress.tables false egress_begins t.rest.egress) (_ ∷ deparser_pieces t) (control_all t t.rest.ingress.tables false egress_begins t.rest.egress k.egress_tables k.egress_body)
    (kept_both (line_pieces emit_then (program_of_text t).headers t.rest.emits) end_pieces k.emits refl)))))))

-- ---- the kind rules

pub rules_kept : (t : ProgramText) → TextKept t → kinds_fit (program_of_text t) ≡ true
rules_kept t k =
    let p = program_of_text t in
    let hs = headers_kept [] t.headers k.headers refl in
    let ms = meta_kept [] t.rest.meta k.meta refl in
    let ts = tables_kept t [] [] t.rest.ingress.tables k.ingress_tables refl in
    let us = tables_kept t (map (λ (x : TableText). x.action) t.rest.ingress.tables) (numbers_of (map (table_meant t) t.rest.ingress.tables)) t.rest.egress.tables k.egress_tables ts.rise in
    let headers_distinct : Bool = all_distinct (map (λ (h : P4Header). h.name) p.headers) in
    let meta_named : Bool = each (λ (f : P4Field). is_meta_name f.name) p.meta in
    let meta_distinct : Bool = all_distinct (map (λ (f : P4Field). f.name) p.meta) in
    let names : names_fit p ≡ true =
    and_from (each header_named p.headers && headers_distinct && meta_named) meta_distinct
    (and_from (each header_named p.headers && headers_distinct) meta_named (and_from (each header_named p.headers) headers_distinct hs.named hs.distinct) ms.named) ms.distinct in
    let widths : widths_fit p ≡ true = and_from (each header_wide p.headers) (each is_declared_width (field_widths p.meta)) hs.wide ms.wide in
    let tables : tables_fit p ≡ true =
    and_from (each (table_fits p) p.ingress.tables && each (table_fits p) p.egress.tables) (ascend (numbers_of p.ingress.tables ++ numbers_of p.egress.tables))
    (and_from (each (table_fits p) p.ingress.tables) (each (table_fits p) p.egress.tables) ts.fit us.fit) us.rise in
    let ingress : Bool = block_fits (stands_in t true t.rest.ingress) p.ingress.body in
    let egress : Bool = block_fits (stands_in t false t.rest.egress) p.egress.body in
    and_from (names_fit p && widths_fit p && tables_fit p && ingress) egress
    (and_from (names_fit p && widths_fit p && tables_fit p) ingress
    (and_from (names_fit p && widths_fit p) (tables_fit p) (and_from (names_fit p) (widths_fit p) names widths) tables)
    (block_kept t (stands_in t true t.rest.ingress) t.rest.ingress.body k.ingress_body))
    (block_kept t (stands_in t false t.rest.egress) t.rest.egress.body k.egress_body)
