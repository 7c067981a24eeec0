-- The groups of a table, from the sets of members.
use Rattle.std.proofs.Common.{◌≡◌, ℕ, ◌&&◌, Bool, List, [], ◌∷◌, ◌++◌, map, All, if◌then◌else◌, refl, ap, ap₂, ◌∙◌}
use Rattle.std.specs.Prelude.{flat_map}
use Rattle.std.proofs.lemmas.List.Elements.{All-head, All-tail}
use Rattle.cocoon_num.specs.Names.{same_name}
use Rattle.cocoon_num.specs.declared.fun_table.FunRow.{FunRow}
use Rattle.cocoon_num.specs.declared.fun_table.FunTable.{FunTable}
use Rattle.declarations.specs.NameNumbers.{firsts}
use Rattle.lowering_correct.specs.Groups.{ascending, before_last, Grouped, last_of, members_at, table_groups, true_choice, where_members}
use Rattle.lower_rows.specs.Sets.{choice_by, grouped_with, IsDecided, members_by, row_args, true_first}

choices-same : (t : FunTable) (test : List ℕ → Bool) → ((x : List ℕ) → test x ≡ true_first t.rows x) → (args : List ℕ) (rows : List FunRow) → All (IsDecided t) rows
    → flat_map (choice_by test args) rows ≡ flat_map (true_choice t args) rows
choices-same t test h args [] a = refl
choices-same t test h args (row ∷ rows) a =
    ap₂ (λ (b : Bool) (xs : List ℕ). (if same_name args (before_last row.values) && b then last_of row.values ∷ [] else []) ++ xs)
    (h row.values ∙ All-head (IsDecided t) row rows a) (choices-same t test h args rows (All-tail (IsDecided t) row rows a))

pub groups-are : (t : FunTable) (test : List ℕ → Bool) → ((x : List ℕ) → test x ≡ true_first t.rows x) → All (IsDecided t) t.rows → (ns : List (List ℕ))
    → grouped_with ns (map (members_by test t.rows) ns) ≡ flat_map (λ (args : List ℕ). where_members args (members_at t args)) ns
groups-are t test h a [] = refl
groups-are t test h a (n ∷ ns) =
    ap₂ (λ (ms : List ℕ) (gs : List Grouped). where_members n (ascending ms) ++ gs) (choices-same t test h n t.rows a) (groups-are t test h a ns)

pub table-gathered : (t : FunTable) (rows : List FunRow) → rows ≡ t.rows → (test : List ℕ → Bool) → ((x : List ℕ) → test x ≡ true_first rows x) → All (IsDecided t) t.rows
    → grouped_with (firsts (row_args rows)) (map (members_by test rows) (firsts (row_args rows))) ≡ table_groups t
table-gathered t rows e test h a =
    (λ i. grouped_with (firsts (row_args (e i))) (map (members_by test (e i)) (firsts (row_args (e i)))))
    ∙ groups-are t test (λ x. h x ∙ ap (λ rs. true_first rs x) e) a (firsts (row_args t.rows))
