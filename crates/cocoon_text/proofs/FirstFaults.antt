-- From the fault of the tokens or of their bytes to why the text has no tree.
use Rattle.std.specs.Prelude.{◌≡◌, ℕ, List, map, slice_get, Some, Result, Ok, Err, refl}
use Rattle.std.proofs.Common.{sym, ◌∙◌, ap, subst}
use Rattle.std.proofs.lemmas.Option.{slice_get-map}
use Rattle.cocoon_num.specs.Tokens.{Kind, kinds, language, language_bounds, lex}
use Rattle.cocoon_num.specs.FirstFaults as first_faults
use Rattle.cocoon_text.specs.declared.token.Token.{Token}
use Rattle.cocoon_text.specs.Kinds.{token_of}
use Rattle.cocoon_text.specs.Position.{column_of, line_of}
use Rattle.cocoon_text.specs.ParseFaults.{IsFirstFault}
use Rattle.parsing.specs.declared.fault.ParseFault.{ParseFault}
use Rattle.parsing.specs.declared.fault.ParseFault.TheVariants as parse
use Rattle.cocoon_text.specs.OfToken.{OfToken}
use Rattle.cocoon_text.specs.TextFaults.{FaultAt, FirstFault, unexpected, too_deep}
use Rattle.cocoon_text.specs.declared.fault.FaultKind.{FaultKind}
use Rattle.cocoon_text.specs.declared.fault.FaultKind.TheVariants as kind
use Rattle.cocoon_text.specs.declared.fault.TextFault.{TextFault}

-- a fault of this kind at this offset, at its line and column
pub first_fault : (Begins : List Kind → Type 0) (text : List ℕ) (f : TextFault) (k : FaultKind) (at : ℕ) → f.kind ≡ k → f.line ≡ line_of text at → f.column ≡ column_of text at → FaultAt Begins text k at → FirstFault Begins text f
first_fault Begins text f k at e line column h = record { offset = at; begins = subst (λ x. FaultAt Begins text x at) (sym e) h; line_is = line; column_is = column }

-- a token of the code is the one of the text with its index
token_at : (text : List ℕ) (tokens : List Token) (i : ℕ) (t : Token) → slice_get tokens i ≡ Some t → slice_get (map (token_of text) tokens) i ≡ Some (token_of text t)
token_at text tokens i t e = slice_get-map (token_of text) tokens i ∙ rw e refl

-- the same token of two
same_token : (tokens : List Token) (i : ℕ) (t u : Token) → slice_get tokens i ≡ Some t → slice_get tokens i ≡ Some u → t.start ≡ u.start
same_token tokens i t u p q = let same : t ≡ u = cc in ap (λ (x : Token). x.start) same

-- the line is that of the token, and the column is
abbrev AtLine : List ℕ → List Token → ℕ → TextFault → Type 0
AtLine text tokens i f = OfToken tokens i (λ t. f.line ≡ line_of text t.start)

abbrev AtColumn : List ℕ → List Token → ℕ → TextFault → Type 0
AtColumn text tokens i f = OfToken tokens i (λ t. f.column ≡ column_of text t.start)

-- a fault at a token of the code
at_token : (Begins : List Kind → Type 0) (text : List ℕ) (tokens : List Token) (i : ℕ) (f : TextFault) (k : FaultKind) → f.kind ≡ k → AtLine text tokens i f → AtColumn text tokens i f
    → ((t : Token) → slice_get (map (token_of text) tokens) i ≡ Some (token_of text t) → FaultAt Begins text k t.start) → FirstFault Begins text f
at_token Begins text tokens i f k e line column h =
    let same = same_token tokens i column.0 line.0 column.1 line.1 in
    first_fault Begins text f k line.0.start e line.2 (column.2 ∙ ap (column_of text) same) (h line.0 (token_at text tokens i line.0 line.1))

pub is_unexpected : (Begins : List Kind → Type 0) (text : List ℕ) (tokens : List Token) (i : ℕ) (f : TextFault) → lex language text ≡ Ok (map (token_of text) tokens) → f.kind ≡ kind.Unexpected → AtLine text tokens i f → AtColumn text tokens i f
    → first_faults.Unexpected language_bounds Begins (kinds (map (token_of text) tokens)) i → FirstFault Begins text f
is_unexpected Begins text tokens i f e k line column h = at_token Begins text tokens i f kind.Unexpected k line column (λ t s. unexpected e h s)

pub is_too_deep : (Begins : List Kind → Type 0) (text : List ℕ) (tokens : List Token) (i : ℕ) (f : TextFault) → lex language text ≡ Ok (map (token_of text) tokens) → f.kind ≡ kind.TooDeep → AtLine text tokens i f → AtColumn text tokens i f
    → first_faults.TooDeep language_bounds Begins (kinds (map (token_of text) tokens)) i → FirstFault Begins text f
is_too_deep Begins text tokens i f e k line column h = at_token Begins text tokens i f kind.TooDeep k line column (λ t s. too_deep e h s)

-- what the parser says of its fault
pub parse_fault : {A : Type 0} (Begins : List Kind → Type 0) (ts us : List Kind) (r : Result A ParseFault) (fault : ParseFault) → r ≡ Err fault → ts ≡ us → ((i : ℕ) → r ≡ Err (parse.Unexpected i) → first_faults.Unexpected language_bounds Begins ts i) → ((i : ℕ) → r ≡ Err (parse.TooDeep i) → first_faults.TooDeep language_bounds Begins ts i) → IsFirstFault Begins us fault
parse_fault Begins ts us r (parse.Unexpected i) e same f g = subst (λ ks. first_faults.Unexpected language_bounds Begins ks i) same (f i e)
parse_fault Begins ts us r (parse.TooDeep i) e same f g = subst (λ ks. first_faults.TooDeep language_bounds Begins ks i) same (g i e)
parse_fault Begins ts us r parse.NoMemory e same f g = tt
