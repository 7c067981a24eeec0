-- From what the steps of reading answer to what the text is, or which its first fault is.
use Rattle.std.specs.Prelude.{◌≡◌, ℕ, ◌+◌, ◌≤◌, ◌<◌, ◌^◌, IsTrue, List, [], ◌∷◌, length, map, Ok, refl}
use Rattle.std.proofs.Common.{sym, ap, subst, arith}
use Rattle.std.proofs.lemmas.List.{length-map}
use Rattle.cocoon_num.specs.Tokens.{is_shallow, kinds, lex}
use Rattle.p4_ir.specs.P4Text.{p4_bounds, p4_lexicon}
use Rattle.p4_ir.specs.P4Tree.{Program}
use Rattle.p4_parse.specs.Kinds.{HasFault, token_of}
use Rattle.p4_parse.specs.declared.lexer.LexFault.{LexFault}
use Rattle.p4_parse.specs.declared.lexer.LexFault.TheVariants as lexed
use Rattle.p4_parse.specs.declared.token.Token.{Token}
use Rattle.p4_texts.specs.KindFaults.{kind_faults}
use Rattle.p4_texts.specs.Meant.{program_of_text}
use Rattle.p4_texts.specs.ReadText.{StandsFor}
use Rattle.p4_parse.specs.Faults as parsing
use Rattle.p4_parse.specs.Phrases.{kind_at, kinds_at}
use Rattle.parsing.specs.declared.fault.ParseFault.{ParseFault}
use Rattle.parsing.specs.declared.fault.ParseFault.TheVariants as parsed
use Rattle.p4_resolve.specs.FirstKind.{IsFirstKind}
use Rattle.p4_resolve.specs.declared.fault.KindFault.{KindFault}
use Rattle.p4_resolve.specs.declared.fault.KindFault.TheVariants as resolved
use Rattle.p4_texts.specs.Reading.{Ended, TokensOf}
use Rattle.p4_texts.specs.Written.{P4TextAt, ProgramText, text_tokens}
use Rattle.p4_read.specs.FirstFault.{IsFirstFault, of_kind, of_lex, of_parse}

kinds_are : (text : List ℕ) (tokens : List Token) → kinds (map (token_of text) tokens) ≡ kinds_at text tokens
kinds_are text [] = refl
kinds_are text (t ∷ ts) = ap (λ ks. kind_at text t ∷ ks) (kinds_are text ts)

abbrev pub Lexed : List ℕ → List Token → Type 0
Lexed text tokens = lex p4_lexicon text ≡ Ok (map (token_of text) tokens)

pub tokens_ended : (text : List ℕ) (tokens : List Token) → TokensOf (length text) (map (token_of text) tokens) → Ended (kinds_at text tokens)
tokens_ended text tokens t = subst Ended (kinds_are text tokens) t.ended

pub tokens_few : (text : List ℕ) (tokens : List Token) → TokensOf (length text) (map (token_of text) tokens) → length tokens ≤ length text + 1
tokens_few text tokens t = let f = t.few in omega (arith, f, length-map tokens (token_of text))

pub text_few : (text : List ℕ) (tokens : List Token) (t : ProgramText) → length text < 2 ^ 31 → TokensOf (length text) (map (token_of text) tokens) → P4TextAt (kinds_at text tokens) t → length (text_tokens t) < 2 ^ 32
text_few text tokens t s f r = omega (arith, s, tokens_few text tokens f, length-map tokens (kind_at text), ap length r.tokens)

-- ---- first faults

pub lex_fault : (text : List ℕ) (f : LexFault) → HasFault text f → IsFirstFault text (of_lex f)
lex_fault text (lexed.NoToken n) h = h
lex_fault text lexed.NoMemory h = tt

pub parse_fault : (text : List ℕ) (tokens : List Token) (f : ParseFault) → Lexed text tokens → parsing.IsFirstFault (kinds_at text tokens) f → IsFirstFault text (of_parse f)
parse_fault text tokens (parsed.Unexpected i) l h = record { tokens = map (token_of text) tokens; tokens_are = l; holds = subst (λ ks. parsing.IsFirstFault ks (parsed.Unexpected i)) (sym (kinds_are text tokens)) h }
parse_fault text tokens (parsed.TooDeep i) l h = record { tokens = map (token_of text) tokens; tokens_are = l; holds = subst (λ ks. parsing.IsFirstFault ks (parsed.TooDeep i)) (sym (kinds_are text tokens)) h }
parse_fault text tokens parsed.NoMemory l h = tt

pub kind_fault : (text : List ℕ) (tokens : List Token) (t : ProgramText) (f : KindFault) → Lexed text tokens → P4TextAt (kinds_at text tokens) t → IsTrue (is_shallow p4_bounds (kinds_at text tokens)) → IsFirstKind t f → IsFirstFault text (of_kind f)
kind_fault text tokens t (resolved.Kind i) l r s h = record {
  tokens = map (token_of text) tokens;
  tokens_are = l;
  holds = record {
    tree = t;
    text_at = subst (λ ks. P4TextAt ks t) (sym (kinds_are text tokens)) r;
    shallow = subst (λ ks. IsTrue (is_shallow p4_bounds ks)) (sym (kinds_are text tokens)) s;
    first = h;
  };
}
kind_fault text tokens t resolved.NoMemory l r s h = tt

-- ---- programs

pub stands_for : (text : List ℕ) (tokens : List Token) (t : ProgramText) (p : Program) → Lexed text tokens → P4TextAt (kinds_at text tokens) t → IsTrue (is_shallow p4_bounds (kinds_at text tokens)) → kind_faults t ≡ [] → p ≡ program_of_text t → StandsFor text t p
stands_for text tokens t p l r s n e = record {
  tokens = map (token_of text) tokens;
  tokens_are = l;
  text_at = subst (λ ks. P4TextAt ks t) (sym (kinds_are text tokens)) r;
  shallow = subst (λ ks. IsTrue (is_shallow p4_bounds ks)) (sym (kinds_are text tokens)) s;
  no_fault = n;
  stands = sym e;
}
