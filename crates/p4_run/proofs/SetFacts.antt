-- What statements set.
use Rattle.std.proofs.Common.{◌≡◌, ℕ, zero, suc, ◌≤◌, nat_le, Bool, true, if◌then◌else◌, List, [], ◌∷◌, length, slice_index, slice_set, refl, ap, ◌∙◌, arith}
use Rattle.std.proofs.lemmas.Bool.{le-leb}
use Rattle.std.proofs.lemmas.List.{length-map}
use Rattle.row_search.specs.GroupsLaid.{Holds, looked_up}
use Rattle.row_search.specs.Keyed.{keyed}
use Rattle.p4_ir.specs.P4Tree.{TableRows}
use Rattle.p4_ir.specs.Switch.{table_result}
use Rattle.p4_run.specs.Effects.{applied_to}
use Rattle.p4_run.specs.declared.stmt_codes.Application.{Application}

-- nothing is set behind the end
pub set_nothing : (ns : List ℕ) (i n : ℕ) → length ns ≤ i → slice_set ns i n ≡ ns
set_nothing [] i n l = refl
set_nothing (m ∷ ns) zero n l = absurd (omega arith)
set_nothing (m ∷ ns) (suc i) n l = ap (λ xs. m ∷ xs) (set_nothing ns i n (omega arith))

-- ---- tables

-- what a table that is applied sets
pub applied : (a : Application) (meta keys : List ℕ) (r : TableRows) → a.keys.items ≡ keys → length meta ≡ a.meta_count → Holds (length keys) a.rows r
    → applied_to a meta ≡ slice_set meta a.result (table_result r.rows r.otherwise (keyed meta keys))
applied a meta keys r e l h =
    let test : nat_le a.meta_count (length meta) ≡ true = le-leb a.meta_count (length meta) (omega (arith, l)) in
    let many : length (keyed meta keys) ≡ length keys = length-map keys (λ i. slice_index meta i) in
    ap (λ (t : Bool). if t then slice_set meta a.result (looked_up a.rows (keyed meta a.keys.items)) else meta) test
    ∙ ap (λ ks. slice_set meta a.result (looked_up a.rows (keyed meta ks))) e
    ∙ ap (slice_set meta a.result) (h.answers (keyed meta keys) many)
