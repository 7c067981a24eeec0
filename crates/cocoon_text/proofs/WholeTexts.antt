-- From what is read of the tokens of the code to what the text is, or which its first fault is.
use Rattle.std.specs.Prelude.{◌≡◌, ℕ, suc, ◌≤◌, Bool, true, false, nat_lt, if◌then◌else◌, IsTrue, List, [], ◌∷◌, length, map, Option, Some, None, Ok, Err, refl}
use Rattle.std.proofs.Common.{sym, ◌∙◌, ap, subst, arith}
use Rattle.std.proofs.lemmas.Bool.{ltb-true}
use Rattle.std.proofs.lemmas.List.{length-map}
use Rattle.cocoon_num.specs.Tree.{DefsText, Design}
use Rattle.cocoon_num.specs.Tokens.{Kind, kinds, lex, language, is_shallow, language_bounds}
use Rattle.cocoon_num.specs.Reads.{DefsAt, DesignAt, Reads, ReadsDefs}
use Rattle.cocoon_num.specs.FirstFaults.{BeginsDefs, BeginsDesign, Unexpected, TooDeep}
use Rattle.cocoon_text.specs.Kinds.{token_of}
use Rattle.cocoon_text.specs.declared.token.Token.{Token}
use Rattle.parsing.specs.PlainParser.{Outcome, good, defs_from, design_from}
use Rattle.parsing.specs.Reading.{Fails, Ended, TokensOf, Reading}
use Rattle.parsing.specs.Depth.{FirstDeep, FirstDeepOf, reach}
use Rattle.parsing.specs.Faults.{fault_of}
use Rattle.parsing.proofs.Reaches.{reach_map}
use Rattle.cocoon_text.specs.ParseFaults.{IsFirstFault}
use Rattle.cocoon_text.specs.Agrees.{AgreesDeep, kind_at, kinds_at}
use Rattle.parsing.specs.declared.fault.ParseFault.{ParseFault}
use Rattle.parsing.specs.declared.fault.ParseFault.TheVariants as fault
use Rattle.parsing.specs.declared.stop.Stop.{Stop}
use Rattle.parsing.specs.declared.stop.Stop.TheVariants as stops

pub kinds_are : (text : List ℕ) (tokens : List Token) → kinds (map (token_of text) tokens) ≡ kinds_at text tokens
kinds_are text [] = refl
kinds_are text (t ∷ ts) = ap (λ ks. kind_at text t ∷ ks) (kinds_are text ts)

pub few_tokens : (text : List ℕ) (tokens : List Token) → TokensOf (length text) (map (token_of text) tokens) → length tokens ≤ suc (length text)
few_tokens text tokens e = let f = e.few in omega (arith, f, length-map tokens (token_of text))

-- what was read of a text: its tokens are those of the code, and the first deep one is known
pub record Read (text : List ℕ) (tokens : List Token) (deep : Option ℕ) (source : List Kind) : Type 0 where
  pub tokens_of : TokensOf (length text) (map (token_of text) tokens)
  pub first_deep : FirstDeepOf language_bounds kind_at tokens deep
  pub source_is : source ≡ kinds_at text (reach deep tokens)

ended : (text : List ℕ) (tokens : List Token) (deep : Option ℕ) (source : List Kind) → Read text tokens deep source → Ended (kinds_at text tokens)
ended text tokens deep source r = subst Ended (kinds_are text tokens) r.tokens_of.ended

whole : {A : Type 0} (R : List Kind → ℕ → Outcome A) {Holds : List Kind → A → Type 0} {Begins : List Kind → Type 0} → Reading R Holds Begins → (text : List ℕ) (tokens : List Token) (deep : Option ℕ) (source : List Kind) → Read text tokens deep source → (n : ℕ) (x : A) (j : ℕ) → R source n ≡ good x j →
    Holds (kinds (map (token_of text) tokens)) x × IsTrue (is_shallow language_bounds (kinds (map (token_of text) tokens)))
whole R {Holds = Holds} reading text tokens deep source r n x j g =
    let ts = kinds_at text tokens in
    let h = reading.reads ts deep (ended text tokens deep source r) (r.first_deep text) n x j (subst (λ us. R us n ≡ good x j) (r.source_is ∙ reach_map (kind_at text) deep tokens) g) in
    subst (λ us. Holds us x × IsTrue (is_shallow language_bounds us)) (sym (kinds_are text tokens)) h

pub definitions_read : Reading defs_from DefsAt BeginsDefs → (text : List ℕ) (tokens : List Token) (deep : Option ℕ) (source : List Kind) → lex language text ≡ Ok (map (token_of text) tokens) → Read text tokens deep source → (n : ℕ) (x : DefsText) (j : ℕ) → defs_from source n ≡ good x j → ReadsDefs text x
definitions_read law text tokens deep source e p n x j g =
    let r = whole defs_from law text tokens deep source p n x j g in record { tokens = map (token_of text) tokens; tokens_are = e; shallow = r.1; reads = r.0 }

pub design_read : Reading design_from DesignAt BeginsDesign → (text : List ℕ) (tokens : List Token) (deep : Option ℕ) (source : List Kind) → lex language text ≡ Ok (map (token_of text) tokens) → Read text tokens deep source → (n : ℕ) (x : Design) (j : ℕ) → design_from source n ≡ good x j → Reads text x
design_read law text tokens deep source e p n x j g =
    let r = whole design_from law text tokens deep source p n x j g in record { tokens = map (token_of text) tokens; tokens_are = e; shallow = r.1; reads = r.0 }

-- ---- first faults

first_fault : {A : Type 0} (R : List Kind → ℕ → Outcome A) {Holds : List Kind → A → Type 0} {Begins : List Kind → Type 0} → Reading R Holds Begins → (ts : List Kind) (deep : Option ℕ) → Ended ts → FirstDeep language_bounds ts deep → (i : ℕ) → Fails (R (reach deep ts)) i → IsFirstFault Begins ts (fault_of deep (stops.Unexpected i))
first_fault R r ts None e p i f = r.unexpected ts None e p i f refl
first_fault R {Begins = Begins} r ts (Some d) e p i f = by (nat_lt d i) refl
  where
    by : (b : Bool) → nat_lt d i ≡ b → IsFirstFault Begins ts (if b then fault.TooDeep d else fault.Unexpected i)
    by true h = r.too_deep ts d e p i f (ltb-true d i h)
    by false h = r.unexpected ts (Some d) e p i f h

pub whole_fault : {A B : Type 0} (R : List Kind → ℕ → Outcome B) {Holds : List Kind → B → Type 0} {Begins : List Kind → Type 0} → Reading R Holds Begins → (text : List ℕ) (tokens : List Token) (deep : Option ℕ) (source : List Kind) → Read text tokens deep source → (f : A → B) (s : Stop) → AgreesDeep (R source) f (Err s) →
    IsFirstFault Begins (kinds (map (token_of text) tokens)) (fault_of deep s)
whole_fault R {Begins = Begins} reading text tokens deep source r f (stops.Unexpected i) g =
    subst (λ us. IsFirstFault Begins us (fault_of deep (stops.Unexpected i))) (sym (kinds_are text tokens))
    (first_fault R reading (kinds_at text tokens) deep (ended text tokens deep source r) (r.first_deep text) i (subst (λ us. Fails (R us) i) (r.source_is ∙ reach_map (kind_at text) deep tokens) (record { depth = g.depth; equal = g.agrees })))
whole_fault R {Begins = Begins} reading text tokens deep source r f stops.NoMemory g = by deep
  where
    by : (d : Option ℕ) → IsFirstFault Begins (kinds (map (token_of text) tokens)) (fault_of d stops.NoMemory)
    by None = tt
    by (Some d) = tt

pub is_unexpected : (Begins : List Kind → Type 0) (ts : List Kind) (f : ParseFault) (i : ℕ) → IsFirstFault Begins ts f → f ≡ fault.Unexpected i → Unexpected language_bounds Begins ts i
is_unexpected Begins ts f i g e = subst (IsFirstFault Begins ts) e g

pub is_too_deep : (Begins : List Kind → Type 0) (ts : List Kind) (f : ParseFault) (i : ℕ) → IsFirstFault Begins ts f → f ≡ fault.TooDeep i → TooDeep language_bounds Begins ts i
is_too_deep Begins ts f i g e = subst (IsFirstFault Begins ts) e g
