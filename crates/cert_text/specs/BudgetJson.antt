-- The file of a spent budget, as the crate serde_json has its value, by what the budget was spent on. Cited by the clauses of what
-- writes the file. It follows "Spent budgets" in docs/FORMATS.md.
use Rattle.std.specs.Prelude.{◌≡◌, ℕ, List, codes}
use Rattle.serde_json.specs.Data.{Data, object, string, Members, member, no_members}
use Rattle.serde_json.specs.Written.{compact_text}
use Rattle.json_forms.specs.Values.{IsJson, number_data}
use Rattle.cert_text.specs.LogsJson.{instances_data, log_data}
use Rattle.cert_text.specs.Spent.{Spent, given, asked, tried, rounds}

abbrev pub budget_members : Spent → Members
-- {"assumption":I,"defs":TEXT,"log":LOG}
budget_members (given i text log) =
    member (codes "assumption") (number_data i)
    (member (codes "defs") (string text)
    (member (codes "log") (log_data log) no_members))
-- {"instances":[INSTANCE],"log":LOG,"obligation":O}
budget_members (asked o is log) =
    member (codes "instances") (instances_data is)
    (member (codes "log") (log_data log)
    (member (codes "obligation") (number_data o) no_members))
-- {"assumption":I,"defs":TEXT,"instances":[INSTANCE],"log":LOG,"obligation":O}
budget_members (tried i text o is log) =
    member (codes "assumption") (number_data i)
    (member (codes "defs") (string text)
    (member (codes "instances") (instances_data is)
    (member (codes "log") (log_data log)
    (member (codes "obligation") (number_data o) no_members))))
-- {"instances":[INSTANCE],"obligation":O}
budget_members (rounds o is) =
    member (codes "instances") (instances_data is)
    (member (codes "obligation") (number_data o) no_members)

abbrev pub budget_data : Spent → Data
budget_data spent = object (budget_members spent)

-- the bytes are the compact text of the file's value, and JSON of it
pub record IsBudgetFile (spent : Spent) (bytes : List ℕ) : Type 0 where
  pub text : bytes ≡ compact_text (budget_data spent)
  pub reads : IsJson bytes (budget_data spent)
