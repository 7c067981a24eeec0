-- Two lists that are walked side by side.
use Rattle.std.proofs.Common.{◌≡◌, ℕ, ◌+◌, ◌<◌, List, [], ◌∷◌, ◌++◌, drop, length, get_or, bit_and, Vec, Global, refl, ap₂}
use Rattle.std.proofs.lemmas.List.{drop_more}
use Rattle.lowering_correct.specs.Groups.{where_members}
use Rattle.lowering_correct.specs.SwitchRows.{masked}
use Rattle.lower_code.proofs.Steps.{mapped_from}
use Rattle.lower_rows.specs.Grouping.{lists_of}
use Rattle.lower_rows.specs.Sets.{grouped_with}

pub masked-step : (vs ms : List ℕ) (i v m : ℕ) → i < length vs → i < length ms → masked (drop i vs) (drop i ms) ≡ bit_and (get_or vs i v) (get_or ms i m) ∷ masked (drop (i + 1) vs) (drop (i + 1) ms)
masked-step vs ms i v m h k = ap₂ masked (drop_more vs i v h) (drop_more ms i m k)

pub masked-end : (vs : List ℕ) → masked vs [] ≡ []
masked-end [] = refl
masked-end (v ∷ vs) = refl

pub grouped-step : (ls ms : List (Vec ℕ Global)) (i : ℕ) (l m : Vec ℕ Global) → i < length ls → i < length ms → l ≡ get_or ls i l → m ≡ get_or ms i m
    → grouped_with (lists_of (drop i ls)) (lists_of (drop i ms)) ≡ where_members l.items m.items ++ grouped_with (lists_of (drop (i + 1) ls)) (lists_of (drop (i + 1) ms))
grouped-step ls ms i l m h k el em =
    ap₂ grouped_with (mapped_from (λ (v : Vec ℕ Global). v.items) ls i l h el) (mapped_from (λ (v : Vec ℕ Global). v.items) ms i m k em)

pub grouped-end : (ns : List (List ℕ)) → grouped_with ns [] ≡ []
grouped-end [] = refl
grouped-end (n ∷ ns) = refl
