-- The values of tables that were bound are masked.
use Rattle.std.proofs.Common.{◌≡◌, ℕ, List, [], ◌∷◌, map, All, Option, Some, None, refl, sym, subst, ◌∙◌}
use Rattle.std.specs.Prelude.{bit_and, filter_map}
use Rattle.std.specs.List.{AllZip}
use Rattle.std.proofs.Math.Nat.{mod-eq_of_lt}
use Rattle.std.proofs.lemmas.List.Elements.{All-cons, All-head, All-nil, All-tail}
use Rattle.std.proofs.lemmas.Nat.{and_mask}
use Rattle.cocoon_num.specs.Names.{same_name}
use Rattle.cocoon_num.specs.Tree.{FunctionDecl, Pattern, literal, masked, any, Entry, a_default, a_row, DefsText}
use Rattle.cocoon_num.specs.declared.fun_table.FunRow.{FunRow}
use Rattle.cocoon_num.specs.declared.fun_table.FunTable.{FunTable}
use Rattle.cocoon_types.specs.Tables.{Row, row_of}
use Rattle.runtime_defs.specs.Printable.{AreMasked, IsMasked}
use Rattle.runtime_defs.specs.Tabled.{IsPlace, IsRow, pattern_mask, pattern_value}
use Rattle.runtime_defs.proofs.Chosen.{AllOwn, chosen-step, EntriesOwn, EntryOwn, if-row, OwnFits}
use Rattle.runtime_defs.proofs.Fitted.{parts-of}
use Rattle.runtime_defs.proofs.Looking.{masked-twice}

pattern-masked : (p : Pattern) → OwnFits p → bit_and (pattern_value p) (pattern_mask p) ≡ pattern_value p
pattern-masked (literal w n) h = and_mask n w ∙ mod-eq_of_lt h
pattern-masked (masked w n v m) h = masked-twice n m
pattern-masked any h = refl

patterns-masked : (ps : List Pattern) → AllOwn ps → AreMasked (map pattern_value ps) (map pattern_mask ps)
patterns-masked [] h = tt
patterns-masked (p ∷ ps) h = (pattern-masked p h.0, patterns-masked ps h.1)

abbrev RowOwn : Row → Type 0
RowOwn r = AllOwn r.patterns

row-own : (x : List ℕ) (e : Entry) (r : Row) → EntryOwn e → row_of x e ≡ Some r → RowOwn r
row-own x (a_default g v) r o h = absurd cc
row-own x (a_row g ps v) r o h = subst RowOwn (if-row (same_name x g.text) (record { patterns = ps; value = v }) r h).1 o

rows-own : (x : List ℕ) (es : DefsText) → EntriesOwn es → All RowOwn (filter_map (row_of x) es)
rows-own x [] o = All-nil RowOwn
rows-own x (e ∷ es) o = chosen-step (row_of x) RowOwn e es (rows-own x es o.1) (λ r h. row-own x e r o.0 h)

abbrev MaskedRow : FunRow → Type 0
MaskedRow row = AreMasked row.values row.masks

rows-masked : (rs : List Row) (rows : List FunRow) → AllZip IsRow rs rows → All RowOwn rs → All MaskedRow rows
rows-masked [] [] z o = All-nil MaskedRow
rows-masked [] (row ∷ rows) z o = absurd z
rows-masked (r ∷ rs) [] z o = absurd z
rows-masked (r ∷ rs) (row ∷ rows) z o =
    let masked = patterns-masked r.patterns (All-head RowOwn r rs o) in
    All-cons MaskedRow row rows (subst (λ ms. AreMasked row.values ms) (sym z.0.masks) (subst (λ vs. AreMasked vs (map pattern_mask r.patterns)) (sym z.0.values) masked))
    (rows-masked rs rows z.1 (All-tail RowOwn r rs o))

place-masked : (es : DefsText) (f : FunctionDecl) (place : Option FunTable) → EntriesOwn es → IsPlace es f place → IsMasked place
place-masked es f None o p = tt
place-masked es f (Some table) o p =
    let parts = parts-of es f p.0 p.1 in
    rows-masked p.0.rows table.rows p.2.rows (subst (All RowOwn) (sym parts.rows) (rows-own f.name.text es o))

pub places-masked : (es : DefsText) (fs : List FunctionDecl) (ps : List (Option FunTable)) → EntriesOwn es → AllZip (IsPlace es) fs ps → All IsMasked ps
places-masked es [] [] o z = All-nil IsMasked
places-masked es [] (p ∷ ps) o z = absurd z
places-masked es (f ∷ fs) [] o z = absurd z
places-masked es (f ∷ fs) (p ∷ ps) o z = All-cons IsMasked p ps (place-masked es f p o z.0) (places-masked es fs ps o z.1)
