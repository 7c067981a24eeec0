-- What was made, part by part.
use Rattle.std.proofs.Common.{◌≡◌, ℕ, ◌+◌, ◌<◌, List, [], ◌∷◌, ◌++◌, map, drop, length, get_or, refl, sym, ap, ◌∙◌}
use Rattle.std.proofs.lemmas.List.{append_assoc}
use Rattle.lowering.specs.Log.{tables_in}
use Rattle.lowering.specs.Lower.{Made, a_field, a_table, a_group}
use Rattle.lowering.specs.SwitchProgram.{field_text, fields_in}
use Rattle.p4_ir.specs.P4Tree.{P4Field}
use Rattle.lower_code.proofs.Steps.{mapped_from}

-- one part more
pub walk-step : {A M F : Type 0} (g : List M → List F) → ((m : M) (ms : List M) → g (m ∷ ms) ≡ g (m ∷ []) ++ g ms) → (f : A → M) (xs : List A) (i : ℕ) (x : A) → i < length xs → x ≡ get_or xs i x
    → (old new all : List F) → new ≡ old ++ g (f x ∷ []) → old ++ g (map f (drop i xs)) ≡ all → new ++ g (map f (drop (i + 1) xs)) ≡ all
walk-step g split f xs i x l e old new all h k =
    ap (λ ys. ys ++ g (map f (drop (i + 1) xs))) h
    ∙ append_assoc old (g (f x ∷ [])) (g (map f (drop (i + 1) xs)))
    ∙ ap (λ ys. old ++ ys) (sym (split (f x) (map f (drop (i + 1) xs))))
    ∙ ap (λ ys. old ++ g ys) (sym (mapped_from f xs i x l e))
    ∙ k

pub fields-split : (m : Made) (ms : List Made) → fields_in (m ∷ ms) ≡ fields_in (m ∷ []) ++ fields_in ms
fields-split (a_field x i w) ms = refl
fields-split (a_table t f ps) ms = refl
fields-split (a_group t f ps) ms = refl

pub tables-split : (m : Made) (ms : List Made) → tables_in (m ∷ ms) ≡ tables_in (m ∷ []) ++ tables_in ms
tables-split (a_field x i w) ms = refl
tables-split (a_table t f ps) ms = refl
tables-split (a_group t f ps) ms = refl

-- the fields of two halves
pub fields-both : (ms bs : List Made) → fields_in (ms ++ bs) ≡ fields_in ms ++ fields_in bs
fields-both [] bs = refl
fields-both (a_field x i w ∷ ms) bs = ap (λ (fs : List P4Field). record { name = field_text x; width = w } ∷ fs) (fields-both ms bs)
fields-both (a_table t f ps ∷ ms) bs = fields-both ms bs
fields-both (a_group t f ps ∷ ms) bs = fields-both ms bs
