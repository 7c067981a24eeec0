-- When the answer of a parsing function agrees with what the plain parser gives of the same tokens. Clauses of all modules
-- cite it. An answer that is out of memory agrees with all.
use Rattle.std.specs.Prelude.{◌≡◌, ◌+◌, ◌<◌, ◌≤◌, ℕ, List, map, slice_get, slice_range, Bool, true, false, if◌then◌else◌, ⊤, Option, Some, None, Result, Ok, Err}
use Rattle.cocoon_num.specs.Tokens.{Kind, a_name, keyword, mark}
use Rattle.cocoon_num.specs.declared.bits.Bits.{Bits}
use Rattle.cocoon_text.specs.Kinds.{keyword_text, kind_of, mark_text}
use Rattle.cocoon_text.specs.declared.token.Keyword.{Keyword}
use Rattle.cocoon_text.specs.declared.token.Mark.{Mark}
use Rattle.cocoon_text.specs.declared.token.Token.{Token}
use Rattle.cocoon_syntax.specs.declared.name.Name.{Name}
use Rattle.cocoon_syntax.specs.TreeOf.{name_of}
use Rattle.parsing.specs.declared.stop.Stop.{Stop}
use Rattle.parsing.specs.declared.stop.Stop.TheVariants.{Unexpected, NoMemory}
use Rattle.parsing.specs.PlainParser as parser
use Rattle.parsing.specs.PlainParser.{Outcome, good, bad, Path, is_mark, name_at, plain_of}

-- the kind of a mark
abbrev pub mark_kind : Mark → Kind
mark_kind m = mark (mark_text m)

-- the kind of a reserved word
abbrev pub keyword_kind : Keyword → Kind
keyword_kind w = keyword (keyword_text w)

-- the kind of a token of a text
abbrev pub kind_at : List ℕ → Token → Kind
kind_at text t = kind_of t.kind (slice_range text t.start t.end)

-- the kinds of tokens of a text
abbrev pub kinds_at : List ℕ → List Token → List Kind
kinds_at text tokens = map (kind_at text) tokens

-- the bytes of a name
abbrev pub name_bytes : Option Kind → Option (List ℕ)
name_bytes (Some (a_name bytes)) = Some bytes
name_bytes _ = None

-- whether a token is a name
abbrev pub is_name_token : Option Kind → Bool
is_name_token (Some (a_name bytes)) = true
is_name_token _ = false

-- the name at a token index, or a token that is none
abbrev pub NameAt : ℕ → Option Kind → Result Name Stop → Type 0
NameAt pos k (Ok name) = name_at pos k ≡ Some (name_of name)
NameAt pos k (Err (Unexpected i)) = (name_at pos k ≡ None) × (i ≡ pos)
NameAt pos k (Err NoMemory) = Unit {0}

-- the plain number at a token index, or a token that is none
abbrev pub NumberAt : ℕ → Option Kind → Result ℕ Stop → Type 0
NumberAt pos k (Ok number) = plain_of k ≡ Some number
NumberAt pos k (Err (Unexpected i)) = (plain_of k ≡ None) × (i ≡ pos)
NumberAt pos k (Err NoMemory) = Unit {0}

-- the literal of a width
abbrev pub literal_of : Bits → parser.Literal
literal_of b = record { width = b.width; n = b.value }

-- the literal at a token index, or a token that is none
abbrev pub LiteralAt : ℕ → Option Kind → Result Bits Stop → Type 0
LiteralAt pos k (Ok bits) = parser.literal_of k ≡ Some (literal_of bits)
LiteralAt pos k (Err (Unexpected i)) = (parser.literal_of k ≡ None) × (i ≡ pos)
LiteralAt pos k (Err NoMemory) = Unit {0}

-- the token that is demanded stands at a token index, or another
abbrev pub TokenAt : ℕ → Bool → Result ⊤ Stop → Type 0
TokenAt pos stands (Ok _) = stands ≡ true
TokenAt pos stands (Err (Unexpected i)) = (stands ≡ false) × (i ≡ pos)
TokenAt pos stands (Err NoMemory) = Unit {0}

-- the reading gives the tree of what was read, and the token index after it, or the index of the token that it cannot take
abbrev pub Agrees : {A B : Type 0} → Outcome B → (A → B) → Result (A × ℕ) Stop → Type 0
Agrees r f (Ok found) = r ≡ good (f found.0) found.1
Agrees r f (Err (Unexpected i)) = r ≡ bad i
Agrees r f (Err NoMemory) = Unit {0}

-- the header and its field
abbrev pub path_of : Name × Name → Path
path_of p = record { header = name_of p.0; field = name_of p.1 }

-- the same of a reading with enough depth: from some depth on
pub record AgreesDeep {A B : Type 0} (F : ℕ → Outcome B) (f : A → B) (result : Result (A × ℕ) Stop) : Type 0 where
  pub depth : ℕ
  pub agrees : (n : ℕ) → depth ≤ n → Agrees (F n) f result

-- what was read ends further on, and within the tokens
abbrev pub Moves : {A : Type 0} → ℕ → ℕ → Result (A × ℕ) Stop → Type 0
Moves pos end (Ok found) = (pos < found.1) × (found.1 ≤ end)
Moves pos end (Err stop) = Unit {0}

-- the same where nothing may be read
abbrev pub Advances : {A : Type 0} → ℕ → ℕ → Result (A × ℕ) Stop → Type 0
Advances pos end (Ok found) = (pos ≤ found.1) × (found.1 ≤ end)
Advances pos end (Err stop) = Unit {0}

-- what was read, and the mark after it
abbrev pub with_mark : {A : Type 0} → List Kind → List ℕ → Result (A × ℕ) Stop → Result (A × ℕ) Stop
with_mark ts m (Ok found) = if is_mark m (slice_get ts found.1) then Ok (found.0, found.1 + 1) else Err (Unexpected found.1)
with_mark ts m (Err stop) = Err stop
