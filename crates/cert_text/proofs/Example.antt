-- A file of each kind, byte by byte.
use Rattle.std.proofs.Common.{◌≡◌, ℕ, List, [], ◌∷◌, pos, negsuc, refl, codes}
use Rattle.std.specs.Fmt.{digits}
use Rattle.serde_json.specs.Written.{compact_text}
use Rattle.serde_json.proofs.OnLiterals.{serde_json_on_literals}
use Rattle.cnf_core.specs.Certificates.{Instance, Step}
use Rattle.cert_text.specs.BudgetJson.{budget_data}
use Rattle.cert_text.specs.Spent.{Spent, given, asked, tried, rounds}

abbrev text : Spent → List ℕ
text s = compact_text (budget_data s)

abbrev log : List Step
log = record { clause = pos 2 ∷ negsuc 16 ∷ []; hints = 4 ∷ 0 ∷ [] } ∷ record { clause = []; hints = [] } ∷ []

abbrev instances : List Instance
instances = record { number = 1; values = 7 ∷ 10 ∷ [] } ∷ record { number = 0; values = [] } ∷ []

of_given : text (given 3 (codes "default f = 1w0;\n") log) ≡ codes "{\"assumption\":3,\"defs\":\"default f = 1w0;\\n\",\"log\":[[[2,-17],[4,0]],[[],[]]]}"
unfolding digits serde_json_on_literals
of_given = refl

of_asked : text (asked 5 instances log) ≡ codes "{\"instances\":[[1,[7,10]],[0,[]]],\"log\":[[[2,-17],[4,0]],[[],[]]],\"obligation\":5}"
unfolding digits serde_json_on_literals
of_asked = refl

of_tried : text (tried 3 (codes "default f = true;\n") 5 instances log) ≡ codes "{\"assumption\":3,\"defs\":\"default f = true;\\n\",\"instances\":[[1,[7,10]],[0,[]]],\"log\":[[[2,-17],[4,0]],[[],[]]],\"obligation\":5}"
unfolding digits serde_json_on_literals
of_tried = refl

of_rounds : text (rounds 5 instances) ≡ codes "{\"instances\":[[1,[7,10]],[0,[]]],\"obligation\":5}"
unfolding digits serde_json_on_literals
of_rounds = refl
