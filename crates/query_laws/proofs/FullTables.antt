-- Tables with other rows.
use Rattle.std.proofs.Common.{◌≡◌, ℕ, zero, suc, ◌+◌, List, [], ◌∷◌, Some, None, ap, ◌∙◌, arith}
use Rattle.cocoon_num.specs.declared.fun_table.FunRow.{FunRow}
use Rattle.cocoon_num.specs.declared.fun_table.FunTable.{FunTable}
use Rattle.bv_terms.specs.WithRows.{Tables, table_of}

abbrev pub with-rows : (ℕ → List FunRow) → FunTable → ℕ → FunTable
with-rows rows t n = record t { rows = rows n }

-- the table of each number has the rows of this number, from one on
abbrev pub full-from : (ℕ → List FunRow) → ℕ → Tables → Tables
full-from rows n [] = []
full-from rows n (None ∷ ts) = None ∷ full-from rows (suc n) ts
full-from rows n (Some t ∷ ts) = Some (with-rows rows t n) ∷ full-from rows (suc n) ts

full-there : (rows : ℕ → List FunRow) (n : ℕ) (ts : Tables) (f : ℕ) (t : FunTable) → table_of ts f ≡ Some t → table_of (full-from rows n ts) f ≡ Some (with-rows rows t (n + f))
full-there rows n [] f t e = absurd cc
full-there rows n (None ∷ ts) zero t e = absurd cc
full-there rows n (Some u ∷ ts) zero t e =
    let same : u ≡ t = cc in
    ap (λ (x : FunTable). Some (with-rows rows x n)) same ∙ ap (λ m. Some (with-rows rows t m)) (let s : n ≡ n + 0 = omega arith in s)
full-there rows n (None ∷ ts) (suc f) t e = full-there rows (suc n) ts f t e ∙ ap (λ m. Some (with-rows rows t m)) (let s : suc n + f ≡ n + suc f = omega arith in s)
full-there rows n (Some u ∷ ts) (suc f) t e = full-there rows (suc n) ts f t e ∙ ap (λ m. Some (with-rows rows t m)) (let s : suc n + f ≡ n + suc f = omega arith in s)

abbrev pub full : (ℕ → List FunRow) → Tables → Tables
full rows ts = full-from rows 0 ts

pub full-at : (rows : ℕ → List FunRow) (ts : Tables) (f : ℕ) (t : FunTable) → table_of ts f ≡ Some t → table_of (full rows ts) f ≡ Some (with-rows rows t f)
full-at rows ts f t e = full-there rows 0 ts f t e ∙ ap (λ m. Some (with-rows rows t m)) (let s : 0 + f ≡ f = omega arith in s)
