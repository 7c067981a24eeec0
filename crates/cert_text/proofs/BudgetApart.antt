-- A file of a spent budget is of one thing that it was spent on.
use Rattle.std.proofs.Common.{◌≡◌, ℕ, List, sym, ◌∙◌}
use Rattle.json_forms.proofs.Exact.{some_same}
use Rattle.cert_text.proofs.LogsApart.{all_instances_apart, logs_apart}
use Rattle.cert_text.specs.BudgetJson.{budget_data, IsBudgetFile}
use Rattle.cert_text.specs.Spent.{Spent, given, asked, tried, rounds}

apart : (s t : Spent) → budget_data s ≡ budget_data t → s ≡ t
apart (given i x l) (given j y m) e = let same : l ≡ m = logs_apart l m cc in cc
apart (asked o is l) (asked p js m) e =
    let same : l ≡ m = logs_apart l m cc in
    let alike : is ≡ js = all_instances_apart is js cc in
    cc
apart (tried i x o is l) (tried j y p js m) e =
    let same : l ≡ m = logs_apart l m cc in
    let alike : is ≡ js = all_instances_apart is js cc in
    cc
apart (rounds o is) (rounds p js) e = let alike : is ≡ js = all_instances_apart is js cc in cc
apart (given i x l) t e = absurd cc
apart (asked o is l) t e = absurd cc
apart (tried i x o is l) t e = absurd cc
apart (rounds o is) t e = absurd cc

pub files_of_one : (bytes : List ℕ) (spent other : Spent) → IsBudgetFile spent bytes → IsBudgetFile other bytes → spent ≡ other
files_of_one bytes spent other a b = apart spent other (some_same _ _ (sym a.reads.1 ∙ b.reads.1))
