-- A value of the code stands for one certificate, and for no other.
use mathlib.Core.HLevel.{¬_prop}
use Rattle.std.proofs.Common.{◌≡◌, ◌≢◌, ℕ, List, [], ◌∷◌, map, refl, ap, subst, ◌∙◌}
use Rattle.std.specs.Prelude.{ℤ, pos}
use Rattle.cnf_core.specs.Clauses.{literals}
use Rattle.cnf_core.specs.declared.clauses.Clause.{Clause}
use Rattle.cnf_core.specs.declared.lit.Lit.{Lit}
use Rattle.cnf_core.specs.declared.log.Log.{Log}
use Rattle.cnf_core.specs.declared.log.Step.{Step}
use Rattle.cnf_core.specs.Certificates as tree
use Rattle.cnf_core.specs.CertsOf.{cert_of, instance_of, log_of, step_of}
use Rattle.cnf_core.specs.declared.certificates.Cert.{Cert}
use Rattle.cnf_core.specs.declared.certificates.Instance.{Instance}

-- lists of which each item is one
same_list : {A B : Type 0} (f : A → B) → ((x y : A) → f x ≡ f y → x ≡ y) → (xs ys : List A) → map f xs ≡ map f ys → xs ≡ ys
same_list f one [] [] e = refl
same_list f one [] (y ∷ ys) e = absurd (cc)
same_list f one (x ∷ xs) [] e = absurd (cc)
same_list f one (x ∷ xs) (y ∷ ys) e =
    let head : f x ≡ f y = cc in
    let tail : map f xs ≡ map f ys = cc in
    ap (λ a. a ∷ xs) (one x y head) ∙ ap (λ rest. y ∷ rest) (same_list f one xs ys tail)

abbrev lit : (n : ℤ) → n ≢ pos 0 → Lit
lit n p = record { number = n; named = p }

same_lit : (l m : Lit) → l.number ≡ m.number → l ≡ m
same_lit l m e = subst (λ n. (p : n ≢ pos 0) → l ≡ lit n p) e (λ p. ap (lit l.number) (¬_prop l.named p)) m.named

abbrev clause : List Lit → Clause
clause ls = record { lits = ls }

same_clause : (a b : Clause) → literals a ≡ literals b → a ≡ b
same_clause a b e = ap clause (same_list (λ (l : Lit). l.number) same_lit a.lits b.lits e)

abbrev step : Clause → List ℕ → Step
step c hs = record { clause = c; hints = hs }

same_step : (s t : Step) → step_of s ≡ step_of t → s ≡ t
same_step s t e =
    ap (λ c. step c s.hints) (same_clause s.clause t.clause (ap (λ (x : tree.Step). x.clause) e))
    ∙ ap (step t.clause) (ap (λ (x : tree.Step). x.hints) e)

abbrev log : List Step → Log
log ss = record { steps = ss }

same_log : (l m : Log) → log_of l ≡ log_of m → l ≡ m
same_log l m e = ap log (same_list step_of same_step l.steps m.steps e)

abbrev instance : ℕ → List ℕ → Instance
instance n vs = record { number = n; values = vs }

same_instance : (i j : Instance) → instance_of i ≡ instance_of j → i ≡ j
same_instance i j e =
    ap (λ n. instance n i.values) (ap (λ (x : tree.Instance). x.number) e)
    ∙ ap (instance j.number) (ap (λ (x : tree.Instance). x.values) e)

abbrev cert : List Instance → Log → Cert
cert is l = record { instances = is; log = l }

same_cert : (a b : Cert) → cert_of a ≡ cert_of b → a ≡ b
same_cert a b e =
    ap (λ is. cert is a.log) (same_list instance_of same_instance a.instances b.instances (ap (λ (x : tree.Cert). x.instances) e))
    ∙ ap (cert b.instances) (same_log a.log b.log (ap (λ (x : tree.Cert). x.log) e))

pub same_certs : (cs ds : List Cert) → map cert_of cs ≡ map cert_of ds → cs ≡ ds
same_certs cs ds e = same_list cert_of same_cert cs ds e
