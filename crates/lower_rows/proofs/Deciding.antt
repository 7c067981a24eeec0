-- Of rows that compare all bits, the first of its values decides.
use Rattle.std.proofs.Common.{◌≡◌, ℕ, ◌==◌, ◌&&◌, ◌||◌, Bool, true, false, List, [], ◌∷◌, ◌++◌, All, Option, Some, if◌then◌else◌, slice_get, refl, sym, ap, ap₂, subst, ◌∙◌}
use Rattle.std.specs.Prelude.{option_and_then}
use Rattle.std.proofs.lemmas.List.Elements.{All-cons, All-head, All-nil, All-tail}
use Rattle.std.proofs.lemmas.List.Folds.{list_any-append}
use Rattle.cocoon_num.specs.FunTables.{row_matches}
use Rattle.cocoon_num.specs.Lists.{is_one_of}
use Rattle.cocoon_num.specs.Names.{same_name}
use Rattle.cocoon_num.specs.Rows.{values_match, first_match}
use Rattle.cocoon_num.specs.Tree.{FunctionDecl, ResultKind, of_width, of_truth, Design}
use Rattle.cocoon_num.specs.Values.{fits_width, truth}
use Rattle.cocoon_num.specs.declared.bits.Bits.{Bits}
use Rattle.cocoon_num.specs.declared.fun_table.FunRow.{FunRow}
use Rattle.cocoon_num.specs.declared.fun_table.FunTable.{FunTable}
use Rattle.cocoon_types.specs.DefsRules.{fork_calls, guard_calls}
use Rattle.cocoon_types.specs.Design.{functions}
use Rattle.runtime_defs.specs.Printable.{all_fit_widths, all_ones, FitsDesign, FitsPlace, FitsRow, IsLiteral, result_width, table_at}
use Rattle.runtime_defs.specs.EntryPlaces.{result_value}
use Rattle.runtime_defs.proofs.Looking.{both-true, kept}
use Rattle.runtime_defs.proofs.Zips.{paired}
use Rattle.lower_rows.specs.AllGroups.{IsDecidedAt}
use Rattle.lower_rows.specs.FirstRows.{is_some_true, said_first}
use Rattle.lower_rows.specs.Sets.{IsDecided}

-- a row that compares all bits matches its values alone
fits-same : (ws vs xs : List ℕ) → all_fit_widths ws vs ≡ true → all_fit_widths ws xs ≡ true → values_match vs (all_ones ws) xs ≡ same_name xs vs
fits-same [] [] [] h k = refl
fits-same [] [] (x ∷ xs) h k = absurd cc
fits-same [] (v ∷ vs) xs h k = absurd cc
fits-same (w ∷ ws) [] xs h k = absurd cc
fits-same (w ∷ ws) (v ∷ vs) [] h k = absurd cc
fits-same (w ∷ ws) (v ∷ vs) (x ∷ xs) h k =
    let a = both-true (fits_width w v) (all_fit_widths ws vs) h in
    let b = both-true (fits_width w x) (all_fit_widths ws xs) k in
    ap₂ (◌&&◌) (ap₂ (◌==◌) (kept w x b.0) (kept w v a.0)) (fits-same ws vs xs a.1 b.1)

abbrev MasksOnes : List ℕ → FunRow → Type 0
MasksOnes ws row = row.masks ≡ all_ones ws

pick : (b c : Bool) (row : FunRow) (rest : Option Bool) (d : Bits) → b ≡ c → is_some_true rest ≡ (d.value == 1)
    → is_some_true (if b then Some (row.result.value == 1) else rest) ≡ ((if c then row.result else d).value == 1)
pick true true row rest d e h = refl
pick true false row rest d e h = absurd cc
pick false true row rest d e h = absurd cc
pick false false row rest d e h = h

first-says : (ws : List ℕ) (r : ℕ) (rows : List FunRow) (d : Bits) (xs : List ℕ) → All (FitsRow ws r) rows → All (MasksOnes ws) rows → all_fit_widths ws xs ≡ true → (d.value == 1) ≡ false
    → is_some_true (said_first rows xs) ≡ ((first_match (row_matches xs) (λ (row : FunRow). row.result) rows d).value == 1)
first-says ws r [] d xs f m h z = sym z
first-says ws r (row ∷ rows) d xs f m h z =
    pick (same_name xs row.values) (row_matches xs row) row (said_first rows xs) (first_match (row_matches xs) (λ (x : FunRow). x.result) rows d)
    (sym (ap (λ ms. values_match row.values ms xs) (All-head (MasksOnes ws) row rows m) ∙ fits-same ws row.values xs (All-head (FitsRow ws r) row rows f).values_fit h))
    (first-says ws r rows d xs (All-tail (FitsRow ws r) row rows f) (All-tail (MasksOnes ws) row rows m) h z)

each-decided : (t : FunTable) (r : ℕ) (rows : List FunRow) → All (FitsRow t.widths r) rows → All (FitsRow t.widths r) t.rows → All (MasksOnes t.widths) t.rows → (t.default.value == 1) ≡ false → All (IsDecided t) rows
each-decided t r [] g f m z = All-nil (IsDecided t)
each-decided t r (row ∷ rows) g f m z =
    All-cons (IsDecided t) row rows (first-says t.widths r t.rows t.default row.values f m (All-head (FitsRow t.widths r) row rows g).values_fit z) (each-decided t r rows (All-tail (FitsRow t.widths r) row rows g) f m z)

not-true-value : (kind : ResultKind) (b : Bits) → result_value kind b ≡ truth false → (b.value == 1) ≡ false
not-true-value (of_width w) b h = absurd cc
not-true-value of_truth b h = cc

among-both : (xs ys : List (List ℕ)) (x : List ℕ) → is_one_of ys x ≡ true → is_one_of (xs ++ ys) x ≡ true
among-both xs ys x h = list_any-append (λ y. same_name y x) xs ys ∙ behind (is_one_of xs x) (is_one_of ys x) h
  where
    behind : (a b : Bool) → b ≡ true → (a || b) ≡ true
    behind true b k = refl
    behind false b k = k

-- the tables of functions under forks are decided by first rows
pub decided-at : (d : Design) (places : List (Option FunTable)) → FitsDesign d places → (n : ℕ) (f : FunctionDecl) (t : FunTable)
    → slice_get (functions d) n ≡ Some f → slice_get places n ≡ Some (Some t) → IsDecidedAt d f t
decided-at d places h n f t at has = λ forked.
    let there : table_at places n ≡ Some t = ap (λ (o : Option (Option FunTable)). option_and_then (λ (x : Option FunTable). x) o) has in
    let literal : IsLiteral f t = h.literal n f t at there (among-both (guard_calls d) (fork_calls d) f.name.text forked) in
    let pair = paired FitsPlace (functions d) places n f h.places at in
    let same : pair.other ≡ Some t = cc (pair.there, has) in
    let fits : FitsPlace f (Some t) = subst (FitsPlace f) same pair.pair in
    each-decided t (result_width f.result) t.rows fits.1.rows_fit fits.1.rows_fit literal.masks_ones (not-true-value f.result t.default literal.default_false)
