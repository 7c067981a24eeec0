-- One certificate, by what its check says.
use Rattle.std.proofs.Common.{◌≡◌, ℕ, suc, ◌+◌, ◌<◌, ◌≤◌, List, take, length, get_or, Some, refl, sym, subst, ◌∙◌, arith}
use Rattle.std.specs.Prelude.{slice_get}
use Rattle.std.specs.List.{All, AllZip}
use Rattle.std.proofs.lemmas.Option.{slice_get_read}
use Rattle.std.proofs.lemmas.Slice.Zip.{AllZip-long}
use Rattle.cocoon_num.specs.Tree.{Design}
use Rattle.bit_blast.specs.Blasting.{most_clauses}
use Rattle.bit_blast.specs.Clauses.{count_of}
use Rattle.bv_terms.specs.Arenas.{term_at}
use Rattle.bv_terms.specs.TermTrees.{Term}
use Rattle.bv_terms.specs.declared.node.Node.{Node}
use Rattle.cnf_core.specs.declared.certificates.Cert.{Cert}
use Rattle.obligation_gen.specs.Shown.{ShowsObligation, ShowsObligations}
use Rattle.obligation_gen.specs.declared.obligation.Obligation.{Obligation}
use Rattle.obligation_laws.specs.Failing.{NeverFails}
use Rattle.obligation_laws.specs.Obligations as laws
use Rattle.obligation_laws.specs.Obligations.{all_obligations}
use Rattle.query_laws.specs.Certified.{AllFit, IsCert}
use Rattle.query_laws.specs.Queries.{query}
use Rattle.queries.specs.Checked.{Tells}
use Rattle.queries.specs.declared.checking.RecheckFault.{RecheckFault}
use Rattle.queries.specs.declared.checking.RecheckFault.TheVariants.{Big, NoMemory}
use Rattle.cert_text.specs.Faults.{of_query}
use Rattle.cert_text.specs.Certifying.{CertsShow, Shows}
use Rattle.cert_text.specs.Rechecking.{AtNumber, Decides, FirstIs, IsAccepted, reported}
use Rattle.cert_text.specs.declared.fault.CertFault.{CertFault}
use Rattle.cert_text.specs.declared.fault.CertFault.TheVariants.{Refused}
use Rattle.cert_text.proofs.SideBySide.{all_of, beside, of_left, one_more, weaker}

-- the certificate is accepted, and its obligation never fails
abbrev pub Rechecked : Design → laws.Obligation → Cert → Type 0
Rechecked d o cert = IsAccepted d o cert × NeverFails d o

-- the obligation that this one of the code shows
pub record Here (d : Design) (nodes : List Node) (o : Obligation) (number : ℕ) : Type 0 where
  pub owed : laws.Obligation
  pub there : slice_get (all_obligations d) number ≡ Some owed
  pub shown : ShowsObligation d nodes o owed

pub here : (d : Design) (nodes : List Node) (os : List Obligation) → ShowsObligations d nodes os (all_obligations d)
    → (number : ℕ) (o : Obligation) → number < length os → o ≡ get_or os number o → Here d nodes o number
here d nodes os all number o l is =
    let found = beside (ShowsObligation d nodes) os (all_obligations d) all number o (slice_get_read os (length os) number o refl l is) in
    record { owed = found.0; there = found.1; shown = found.2 }

pub given_at : (certs : List Cert) (number : ℕ) (cert : Cert) → number < length certs → cert ≡ get_or certs number cert → slice_get certs number ≡ Some cert
given_at certs number cert l is = slice_get_read certs (length certs) number cert refl l is

module _ (d : Design) (nodes : List Node) (o : Obligation) (number : ℕ) (h : Here d nodes o number) (certs : List Cert) (cert : Cert) (given : slice_get certs number ≡ Some cert) where
  abbrev formula : Term
  formula = term_at nodes o.formula

  -- what holds of the code's level and formula holds of those that it shows
  of_owed : (P : ℕ → Term → Type 0) → P o.level formula → P h.owed.level h.owed.formula
  of_owed P x = subst (P h.owed.level) h.shown.formula_.term (subst (λ l. P l formula) h.shown.level_ x)

  abbrev Few : ℕ → Term → Type 0
  Few level t = AllFit d level cert.instances → count_of (query d level t cert.instances) ≤ most_clauses

  pub accepted : IsCert d o.level formula cert → Few o.level formula
      → ((n : ℕ) (p : laws.Obligation) → slice_get (all_obligations d) n ≡ Some p → ShowsObligation d nodes o p → NeverFails d p)
      → AtNumber d certs number (Rechecked d)
  accepted is few never = record {
    obligation = h.owed;
    cert = cert;
    owed = h.there;
    given = given;
    is = (record { shows = of_owed (λ l t. IsCert d l t cert) is; few = of_owed Few few }, never number h.owed h.there h.shown);
  }

  pub refused : (IsCert d o.level formula cert → ⊥) → Few o.level formula → (n : ℕ) → n ≡ reported number
      → AtNumber d certs number (λ p c. Decides d number p c (Refused n))
  refused not few n told = record {
    obligation = h.owed;
    cert = cert;
    owed = h.there;
    given = given;
    is = (record { shows_not = of_owed (λ l t. IsCert d l t cert → ⊥) not; few = of_owed Few few }, told);
  }

  decided : (fault : RecheckFault) → Tells d o.level formula cert fault → Decides d number h.owed cert (of_query fault)
  decided (Big count) t = of_owed (λ l u. Tells d l u cert (Big count)) t
  decided NoMemory t = tt

  pub told : (fault : RecheckFault) → Tells d o.level formula cert fault → AtNumber d certs number (λ p c. Decides d number p c (of_query fault))
  told fault t = record { obligation = h.owed; cert = cert; owed = h.there; given = given; is = decided fault t }

-- ---- all certificates

-- those before a number are accepted
abbrev pub UpTo : Design → List Cert → ℕ → Type 0
UpTo d certs n = AllZip (Rechecked d) (take n (all_obligations d)) (take n certs)

module _ (d : Design) (certs : List Cert) (n : ℕ) (before : UpTo d certs n) where
  pub next : AtNumber d certs n (Rechecked d) → UpTo d certs (n + 1)
  next at =
      let more : suc n ≡ n + 1 = omega arith in
      subst (UpTo d certs) more (one_more (Rechecked d) n (all_obligations d) certs at.obligation at.cert before at.owed at.given at.is)

  pub first : (fault : CertFault) → AtNumber d certs n (λ o c. Decides d n o c fault) → FirstIs d certs (λ m o c. Decides d m o c fault)
  first fault at = record {
    number = n;
    here = at;
    before = weaker (Rechecked d) (IsAccepted d) (λ o c r. r.0) (take n (all_obligations d)) (take n certs) before;
  }

module _ (d : Design) (nodes : List Node) (os : List Obligation) (owed : ShowsObligations d nodes os (all_obligations d))
    (certs : List Cert) (as_many : length certs ≡ length os) (n : ℕ) (done : length certs ≤ n) (before : UpTo d certs n) where
  whole : AllZip (Rechecked d) (all_obligations d) certs
  whole =
      let counted : length (all_obligations d) ≡ length os = AllZip-long (ShowsObligation d nodes) os (all_obligations d) owed in
      let enough : length (all_obligations d) ≤ n = subst (λ k. k ≤ n) (as_many ∙ sym counted) done in
      all_of (Rechecked d) n (all_obligations d) certs enough done before

  pub all_accepted : AllZip (IsAccepted d) (all_obligations d) certs
  all_accepted = weaker (Rechecked d) (IsAccepted d) (λ o c r. r.0) (all_obligations d) certs whole

  pub all_hold : All (NeverFails d) (all_obligations d)
  all_hold = of_left (Rechecked d) (NeverFails d) (λ o c r. r.1) (all_obligations d) certs whole

pub they_show : (d : Design) (certs : List Cert) → AllZip (IsAccepted d) (all_obligations d) certs → CertsShow d certs
they_show d certs h = weaker (IsAccepted d) (Shows d) (λ o c r. r.shows) (all_obligations d) certs h
