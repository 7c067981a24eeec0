-- The value of the file of a spent budget: that it has no fraction, and that it is shallow.
use Rattle.std.proofs.Common.{◌≡◌, ◌≤◌, false, refl, arith}
use Rattle.serde_json.specs.Data.{depth}
use Rattle.serde_json.specs.Read.{max_depth}
use Rattle.serde_json.specs.Written.{has_float}
use Rattle.cert_text.proofs.LogsValue.{instances_plain, instances_shallow, log_plain, log_shallow}
use Rattle.cert_text.specs.BudgetJson.{budget_data}
use Rattle.cert_text.specs.Spent.{Spent, given, asked, tried, rounds}

pub budget_plain : (s : Spent) → has_float (budget_data s) ≡ false
budget_plain (given i text log) = rw (log_plain log) refl
budget_plain (asked o is log) = rw (instances_plain is, log_plain log) refl
budget_plain (tried i text o is log) = rw (instances_plain is, log_plain log) refl
budget_plain (rounds o is) = rw (instances_plain is) refl

pub budget_shallow : (s : Spent) → depth (budget_data s) ≤ max_depth
budget_shallow (given i text log) = let a = log_shallow log in grind (arith, a)
budget_shallow (asked o is log) =
    let a = instances_shallow is in
    let b = log_shallow log in
    grind (arith, a, b)
budget_shallow (tried i text o is log) =
    let a = instances_shallow is in
    let b = log_shallow log in
    grind (arith, a, b)
budget_shallow (rounds o is) = let a = instances_shallow is in grind (arith, a)
