-- A text has one answer.
use Rattle.std.specs.Prelude.{◌≡◌, ℕ, true, List, [], Some, None, Ok, Err, refl}
use Rattle.std.proofs.Common.{sym, ◌∙◌, ap, subst}
use Rattle.cocoon_num.specs.Tokens.{Kind as Token-kind, Token, Lexed, LexFault, is_shallow, kinds, lex}
use Rattle.cocoon_num.specs.FirstFaults as first
use Rattle.p4_ir.specs.P4Reads.{P4Reads}
use Rattle.p4_ir.specs.P4Text.{p4_bounds, p4_lexicon}
use Rattle.p4_ir.specs.P4Tree.{Program}
use Rattle.p4_parse.specs.Kinds.{FaultAt, fault_offset}
use Rattle.p4_texts.specs.KindFaults.{kind_faults}
use Rattle.p4_texts.specs.Meant.{program_of_text}
use Rattle.p4_texts.specs.ReadText.{StandsFor}
use Rattle.p4_read.specs.FirstFault.{FirstKind, OfTokens}
use Rattle.p4_read.specs.declared.fault.P4Fault.{P4Fault}
use Rattle.p4_read.specs.declared.fault.P4Fault.TheVariants.{Lex, Unexpected, TooDeep, Kind, NoMemory}
use Rattle.p4_resolve.specs.FirstKind.{first_of}
use Rattle.p4_texts.specs.Written.{BeginsP4, P4TextAt, ProgramText}
use Rattle.p4_read.specs.Answers.{Answer, a_program, a_fault, Answers}
use Rattle.p4_read.proofs.FirstFaults.{not_both, one_deep, one_unexpected, text_expected, text_not_deep}
use Rattle.p4_read.proofs.WholeTexts.{one_tree}

-- ---- what is said of tokens

-- they are those of a text that is not deep, breaks no rule and stands for the program
record ReadsAs (p : Program) (ks : List Token-kind) : Type 0 where
  tree : ProgramText
  text_at : P4TextAt ks tree
  shallow : is_shallow p4_bounds ks ≡ true
  none : kind_faults tree ≡ []
  stands : program_of_text tree ≡ p

-- what reads as a program stands for it
abbrev pub Stands : Type 0
Stands = (text : List ℕ) (p : Program) → P4Reads text p → (t : ProgramText) × StandsFor text t p

reads_tokens : Stands → (text : List ℕ) (p : Program) → P4Reads text p → OfTokens text (ReadsAs p)
reads_tokens law text p r =
    let s = law text p r in
    let t = s.1 in
    record { tokens = t.tokens; tokens_are = t.tokens_are; holds = record { tree = s.0; text_at = t.text_at; shallow = t.shallow; none = t.no_fault; stands = t.stands } }

-- an answer but for that of bytes
abbrev Says : Answer → List Token-kind → Type 0
Says (a_program p) ks = ReadsAs p ks
Says (a_fault (Unexpected i)) ks = first.Unexpected p4_bounds BeginsP4 ks i
Says (a_fault (TooDeep i)) ks = first.TooDeep p4_bounds BeginsP4 ks i
Says (a_fault (Kind i)) ks = FirstKind i ks
Says (a_fault f) ks = ⊥

-- ---- of some tokens

program_or_fault : (ks : List Token-kind) (p : Program) (f : P4Fault) → ReadsAs p ks → Says (a_fault f) ks → ⊥
program_or_fault ks p (Unexpected i) x y = text_expected ks x.tree i x.text_at y
program_or_fault ks p (TooDeep i) x y = text_not_deep ks i x.shallow y
program_or_fault ks p (Kind i) x y =
    let same = one_tree ks x.tree y.tree x.text_at y.text_at in
    let no : None ≡ Some i = ap first_of (sym x.none ∙ ap kind_faults same) ∙ y.first in
    cc
program_or_fault ks p (Lex i) x y = y
program_or_fault ks p NoMemory x y = y

some_number : (i j : ℕ) → Some i ≡ Some j → i ≡ j
some_number i j e = cc

one_kind : (ks : List Token-kind) (i j : ℕ) → FirstKind i ks → FirstKind j ks → i ≡ j
one_kind ks i j x y = some_number i j (sym x.first ∙ ap (λ t. first_of (kind_faults t)) (one_tree ks x.tree y.tree x.text_at y.text_at) ∙ y.first)

one_fault : (ks : List Token-kind) (f g : P4Fault) → Says (a_fault f) ks → Says (a_fault g) ks → f ≡ g
one_fault ks (Unexpected i) (Unexpected j) x y = ap Unexpected (one_unexpected ks i j x y)
one_fault ks (Unexpected i) (TooDeep j) x y = absurd (not_both ks i j x y)
one_fault ks (Unexpected i) (Kind j) x y = absurd (text_expected ks y.tree i y.text_at x)
one_fault ks (TooDeep i) (Unexpected j) x y = absurd (not_both ks j i y x)
one_fault ks (TooDeep i) (TooDeep j) x y = ap TooDeep (one_deep ks i j x y)
one_fault ks (TooDeep i) (Kind j) x y = absurd (text_not_deep ks i y.shallow x)
one_fault ks (Kind i) (Unexpected j) x y = absurd (text_expected ks x.tree j x.text_at y)
one_fault ks (Kind i) (TooDeep j) x y = absurd (text_not_deep ks j x.shallow y)
one_fault ks (Kind i) (Kind j) x y = ap Kind (one_kind ks i j x y)
one_fault ks (Lex i) g x y = absurd x
one_fault ks NoMemory g x y = absurd x
one_fault ks f (Lex i) x y = absurd y
one_fault ks f NoMemory x y = absurd y

one_said : (ks : List Token-kind) (a b : Answer) → Says a ks → Says b ks → a ≡ b
one_said ks (a_program p) (a_program q) x y = ap a_program (sym x.stands ∙ ap program_of_text (one_tree ks x.tree y.tree x.text_at y.text_at) ∙ y.stands)
one_said ks (a_program p) (a_fault g) x y = absurd (program_or_fault ks p g x y)
one_said ks (a_fault f) (a_program q) x y = absurd (program_or_fault ks q f y x)
one_said ks (a_fault f) (a_fault g) x y = ap a_fault (one_fault ks f g x y)

-- ---- of a text

ok_same : (r : Lexed) (ts us : List Token) → r ≡ Ok ts → r ≡ Ok us → ts ≡ us
ok_same r ts us x y = cc

err_same : (r : Lexed) (f g : LexFault) → r ≡ Err f → r ≡ Err g → f ≡ g
err_same r f g x y = cc

ok_or_err : (r : Lexed) (ts : List Token) (f : LexFault) → r ≡ Ok ts → r ≡ Err f → ⊥
ok_or_err r ts f x y = cc

one_of_tokens : (text : List ℕ) (a b : Answer) → OfTokens text (Says a) → OfTokens text (Says b) → a ≡ b
one_of_tokens text a b x y =
    let same = ok_same (lex p4_lexicon text) x.tokens y.tokens x.tokens_are y.tokens_are in
    one_said (kinds y.tokens) a b (subst (λ ts. Says a (kinds ts)) same x.holds) y.holds

-- an answer is of tokens, or there are none
data Said (text : List ℕ) (a : Answer) : Type 0 where
  of_tokens : OfTokens text (Says a) → Said text a
  of_bytes : (at : ℕ) → FaultAt text at → a ≡ a_fault (Lex at) → Said text a

said : Stands → (text : List ℕ) (a : Answer) → Answers text a → Said text a
said law text (a_program p) x = of_tokens (reads_tokens law text p x)
said law text (a_fault (Lex at)) x = of_bytes at x refl
said law text (a_fault (Unexpected i)) x = of_tokens x
said law text (a_fault (TooDeep i)) x = of_tokens x
said law text (a_fault (Kind i)) x = of_tokens x
said law text (a_fault NoMemory) x = absurd x

one_of : (text : List ℕ) (a b : Answer) → Said text a → Said text b → a ≡ b
one_of text a b (of_tokens x) (of_tokens y) = one_of_tokens text a b x y
one_of text a b (of_tokens x) (of_bytes j y e) = absurd (ok_or_err (lex p4_lexicon text) x.tokens y.0 x.tokens_are y.1)
one_of text a b (of_bytes i x d) (of_tokens y) = absurd (ok_or_err (lex p4_lexicon text) y.tokens x.0 y.tokens_are x.1)
one_of text a b (of_bytes i x d) (of_bytes j y e) =
    let same = err_same (lex p4_lexicon text) x.0 y.0 x.1 y.1 in
    let offset : i ≡ j = sym x.2 ∙ ap fault_offset same ∙ y.2 in
    d ∙ ap (λ n. a_fault (Lex n)) offset ∙ sym e

pub the_answer : Stands → (text : List ℕ) (a b : Answer) → Answers text a → Answers text b → a ≡ b
the_answer law text a b x y = one_of text a b (said law text a x) (said law text b y)
