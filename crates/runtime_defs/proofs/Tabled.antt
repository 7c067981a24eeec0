-- Tables, row by row and function by function.
use Rattle.std.proofs.Common.{◌≡◌, ℕ, ◌+◌, ◌<◌, true, List, [], ◌∷◌, ◌++◌, map, take, length, get_or, Option, Some, None, if◌then◌else◌, refl, sym, ap, subst, ◌∙◌}
use Rattle.std.specs.Prelude.{filter_map, option_to_list}
use Rattle.std.specs.List.{AllZip}
use Rattle.std.proofs.lemmas.List.{map_more}
use Rattle.std.proofs.lemmas.List.Elements.{filter_map-append}
use Rattle.cocoon_num.specs.BitsOf.{value_of}
use Rattle.cocoon_num.specs.Lists.{first_of}
use Rattle.cocoon_num.specs.Names.{same_name}
use Rattle.cocoon_num.specs.Tree.{Name, FunctionDecl, Pattern, a_row, DefsText}
use Rattle.cocoon_num.specs.Values.{Value}
use Rattle.cocoon_num.specs.declared.fun_table.FunRow.{FunRow}
use Rattle.cocoon_num.specs.declared.fun_table.FunTable.{FunTable}
use Rattle.cocoon_types.specs.Design.{widths_of}
use Rattle.cocoon_types.specs.Tables.{default_of, Row, row_of, runtime_table}
use Rattle.runtime_defs.specs.Bound.{as_bits, IsPlace, IsRow}
use Rattle.runtime_defs.specs.Steps.{HasRow}
use Rattle.runtime_defs.proofs.Zips.{zip-more}

single : {B C : Type 0} (h : B → Option C) (y : B) → filter_map h (y ∷ []) ≡ option_to_list (h y)
single h y = by (h y) refl
  where
    by : (o : Option _) → h y ≡ o → filter_map h (y ∷ []) ≡ option_to_list (h y)
    by None e = rw e refl
    by (Some c) e = rw e refl

-- those that are chosen of one more
pub chosen-more : {A B C : Type 0} (h : B → Option C) (g : A → B) (xs : List A) (i : ℕ) (x : A) → i < length xs → x ≡ get_or xs i x
    → filter_map h (map g (take (i + 1) xs)) ≡ filter_map h (map g (take i xs)) ++ option_to_list (h (g x))
chosen-more h g xs i x l e =
    ap (filter_map h) (map_more g xs i x l ∙ ap (λ y. map g (take i xs) ++ g y ∷ []) (sym e))
    ∙ filter_map-append h (map g (take i xs)) (g x ∷ [])
    ∙ ap (λ ys. filter_map h (map g (take i xs)) ++ ys) (single h (g x))

-- a row of the function
pub row-pushed : (f : List ℕ) (g : Name) (ps : List Pattern) (v : Value) (before : List Row) (olds news : List FunRow) (row : FunRow) → same_name f g.text ≡ true
    → HasRow ps v row → AllZip IsRow before olds → news ≡ olds ++ row ∷ [] → AllZip IsRow (before ++ option_to_list (row_of f (a_row g ps v))) news
row-pushed f g ps v before olds news row s r h e =
    let r' : Row = record { patterns = ps; value = v } in
    let o : row_of f (a_row g ps v) ≡ Some r' = ap (λ b. if b then Some r' else None) s in
    subst (λ o. AllZip IsRow (before ++ option_to_list o) news) (sym o)
    (subst (AllZip IsRow (before ++ r' ∷ [])) (sym e) (zip-more IsRow before olds r' row h r))

table-there : (es : DefsText) (f : FunctionDecl) (v : Value) → f.body ≡ None → first_of (filter_map (default_of f.name.text) es) ≡ Some v
    → runtime_table es f ≡ Some (record { function = f.name; rows = filter_map (row_of f.name.text) es; otherwise = v })
table-there es f v b d = rw (b, d) refl

-- the table of a function, from its parts
pub place-there : (es : DefsText) (f : FunctionDecl) (x : List ℕ) (v : Value) (table : FunTable) → x ≡ f.name.text → f.body ≡ None
    → Some v ≡ first_of (filter_map (default_of x) es) → table.widths ≡ widths_of f.params → AllZip IsRow (filter_map (row_of x) es) table.rows
    → value_of table.default ≡ as_bits v → IsPlace es f (Some table)
place-there es f x v table p b d ws rs o = (
  record { function = f.name; rows = filter_map (row_of f.name.text) es; otherwise = v },
  table-there es f v b (ap (λ x. first_of (filter_map (default_of x) es)) (sym p) ∙ sym d),
  record { widths = ws; rows = subst (λ x. AllZip IsRow (filter_map (row_of x) es) table.rows) p rs; default = o },
)
