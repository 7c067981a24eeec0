use Rattle.cert_text.proofs.BudgetApart.{files_of_one}
use Rattle.cert_text.proofs.budget_laws.files_are_of_one.Goals as goal

pub returns : goal.returns
returns c = files_of_one
