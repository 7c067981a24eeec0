-- Cited by private clauses: declarations of fields, after those with some names.
use Rattle.std.specs.Prelude.{◌≡◌, ℕ, ◌+◌, ◌&&◌, Bool, true, not, List, [], ◌∷◌, ◌++◌, Vec, codes}
use Rattle.std.specs.declared.alloc.Global.{Global}
use Rattle.cocoon_num.specs.Lists.{is_one_of}
use Rattle.cocoon_num.specs.Sorts.{is_declared_width}
use Rattle.cocoon_num.specs.Tokens.{a_name, mark}
use Rattle.p4_ir.specs.P4Tree.{P4Field}
use Rattle.p4_texts.specs.KindFaults.{Piece, field_keeps, field_pieces, fixed, header_keeps, meta_keeps}
use Rattle.p4_texts.specs.Meant.{field_meant, header_meant, meta_meant}
use Rattle.p4_resolve.specs.Judged.{Passes, Sees, index}
use Rattle.p4_texts.specs.Written.{FieldText, HeaderText, field_then}

abbrev pub field_fits : List (List ℕ) → (name : List ℕ) → (width : ℕ) → (is_named : Bool) → Bool
field_fits names name width is_named = is_named && not (is_one_of names name) && is_declared_width width

-- a declaration of six tokens fits, and is this field
pub record Declares (at : ℕ) (names : List (List ℕ)) (name : List ℕ) (width : ℕ) (is_named : Bool) (keys : List (Vec ℕ Global)) (field : P4Field) (end : ℕ) : Type 0 where
  pub fits : field_fits names name width is_named ≡ true
  pub seen : Sees keys (names ++ (name ∷ []))
  pub is : field ≡ record { name = name; width = width }
  pub ends : end ≡ index (at + 6)

-- the declarations at a token keep their rules, and this is what they declare
pub record Keeps {M : Type 0} (at : ℕ) (ps : List Piece) (names : List (List ℕ)) (name : List ℕ) (keys : List (Vec ℕ Global)) (meant made : M) (end : ℕ) : Type 0 where
  pub passes : Passes at ps end
  pub seen : Sees keys (names ++ (name ∷ []))
  pub is : made ≡ meant

-- the declaration of a field of a header, and of a meta field
abbrev pub field_piece : List (List ℕ) → FieldText → Piece
field_piece names f = record { tokens = field_then f []; keeps = field_keeps names (field_meant f) }

abbrev pub meta_piece : List (List ℕ) → FieldText → Piece
meta_piece names f = record { tokens = field_then f []; keeps = meta_keeps names (meta_meant f) }

-- a header, up to and with its last brace
abbrev pub header_own : List (List ℕ) → HeaderText → List Piece
header_own names h =
    record { tokens = a_name (codes "header") ∷ a_name h.name ∷ mark (codes "{") ∷ []; keeps = header_keeps names (header_meant h) }
    ∷ (field_pieces [] h.fields ++ (fixed (mark (codes "}") ∷ []) ∷ []))
