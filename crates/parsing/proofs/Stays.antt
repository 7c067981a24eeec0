-- What an exact reading of a phrase says with enough depth: where it ends, that it is derived, and that it is the same in a
-- text with the same tokens up to and with the one where it ends.
use Rattle.std.specs.Prelude.{◌≡◌, ℕ, suc, ◌≤◌, List, length}
use Rattle.std.proofs.Common.{subst}
use Rattle.cocoon_num.specs.Tokens.{Kind}
use Rattle.parsing.specs.PlainParser.{Outcome, good, bad}
use Rattle.parsing.specs.Reading.{Fails}
use Rattle.parsing.proofs.Exact.{Agree, GoodRead, BadRead, Justifies, Exact}

pub good_read : {A : Type 0} {P : List Kind → A → ℕ → Type 0} (F : List Kind → Outcome A) {p : ℕ} {w : List Kind} → Exact P F p w → (ts : List Kind) → p ≤ length ts → {x : A} {j : ℕ} → F ts ≡ good x j → GoodRead P F ts p x j
good_read {P = P} F {p} e ts h q = subst (λ r. Justifies P F ts p r) q (e.justified ts h)

pub bad_read : {A : Type 0} {P : List Kind → A → ℕ → Type 0} (F : List Kind → Outcome A) {p : ℕ} {w : List Kind} → Exact P F p w → (ts : List Kind) → p ≤ length ts → {r : ℕ} → F ts ≡ bad r → BadRead P F ts p r
bad_read {P = P} F {p} e ts h q = subst (λ r. Justifies P F ts p r) q (e.justified ts h)

pub fails_stays : {A : Type 0} {P : List Kind → A → ℕ → Type 0} (F : List Kind → ℕ → Outcome A) {p : ℕ} {w : List Kind} → ((n : ℕ) → Exact P (λ us. F us n) p w) → (ts us : List Kind) → p ≤ length ts → {r : ℕ} → Agree ts us (suc r) → Fails (F ts) r → Fails (F us) r
fails_stays F e ts us h a q = record { depth = q.depth; equal = λ n l. (bad_read (λ us. F us n) (e n) ts h (q.equal n l)).stays us a }
