-- The three lists of declarations.
use Rattle.std.proofs.Common.{◌≡◌, ℕ, List, [], ◌∷◌, ◌++◌, refl, sym, ap, ◌∙◌, append_assoc, codes, Bool, not, ◌&&◌, ◌%◌, ◌==◌, map}
use Rattle.cocoon_num.specs.Lists.{is_one_of}
use Rattle.cocoon_num.specs.Packets.{total}
use Rattle.cocoon_num.specs.Tokens.{a_name, is_run, mark}
use Rattle.p4_ir.specs.P4Tree.{P4Field, P4Header, field_widths}
use Rattle.p4_texts.specs.KindFaults.{Piece, field_pieces, fixed, header_keeps, header_pieces, meta_pieces}
use Rattle.p4_texts.specs.Meant.{field_meant, header_meant, meta_meant}
use Rattle.p4_texts.specs.Written.{FieldText, HeaderText}
use Rattle.p4_texts.specs.TreeOf.{field_of, header_of}
use Rattle.p4_texts.specs.declared.written.WrittenField.{WrittenField}
use Rattle.p4_texts.specs.declared.written.WrittenHeader.{WrittenHeader}
use Rattle.p4_resolve.specs.FieldForms.{field_piece, header_own, meta_piece}
use Rattle.p4_resolve.proofs.DeclarationFacts.{Forms}

abbrev pub of_headers : Forms WrittenField FieldText P4Field
of_headers = record { text = field_of; all = field_pieces; one = λ names f. field_piece names f ∷ []; meant = field_meant; name = λ (f : P4Field). f.name; none_left = λ names. refl; one_left = λ names f fs. refl }

abbrev pub of_meta : Forms WrittenField FieldText P4Field
of_meta = record { text = field_of; all = meta_pieces; one = λ names f. meta_piece names f ∷ []; meant = meta_meant; name = λ (f : P4Field). f.name; none_left = λ names. refl; one_left = λ names f fs. refl }

-- what begins a header
abbrev pub header_head : List (List ℕ) → HeaderText → Piece
header_head names h = record { tokens = a_name (codes "header") ∷ a_name h.name ∷ mark (codes "{") ∷ []; keeps = header_keeps names (header_meant h) }

pub header_left : (names : List (List ℕ)) (h : HeaderText) (hs : List HeaderText) → header_pieces names (h ∷ hs) ≡ header_own names h ++ header_pieces (names ++ ((header_meant h).name ∷ [])) hs
header_left names h hs = ap (λ ps. header_head names h ∷ ps) (sym (append_assoc (field_pieces [] h.fields) (fixed (mark (codes "}") ∷ []) ∷ []) (header_pieces (names ++ ((header_meant h).name ∷ [])) hs)))

abbrev pub of_texts : Forms WrittenHeader HeaderText P4Header
of_texts = record { text = header_of; all = header_pieces; one = header_own; meant = header_meant; name = λ (h : P4Header). h.name; none_left = λ names. refl; one_left = header_left }

pub head_keeps : (names : List (List ℕ)) (h : HeaderText) (name : List ℕ) (is_new b : Bool) (fs : List FieldText) → name ≡ (header_meant h).name → is_new ≡ not (is_one_of names name) → fs ≡ h.fields
    → b ≡ (is_run name && is_new && (total (field_widths (map field_meant fs)) % 8 == 0)) → (header_head names h).keeps ≡ b
head_keeps names h name is_new b fs n w f e = sym (e ∙ rw (w, n, f) refl)
