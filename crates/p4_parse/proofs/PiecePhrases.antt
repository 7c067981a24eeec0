-- Fixed pieces, as the plain reader takes them.
use Rattle.std.specs.Prelude.{◌≡◌, ℕ, zero, suc, ◌+◌, ◌≤◌, ◌<◌, true, false, nat_le, List, [], ◌∷◌, ◌++◌, length, map, drop, slice_get, ⊤, ◌^◌, Option, Some, None, Ok, Err, refl}
use Rattle.std.proofs.Common.{sym, ◌∙◌, ap, subst, arith}
use Rattle.std.proofs.lemmas.Bool.{and_parts, eqb-true, leb-true}
use Rattle.std.proofs.lemmas.Option.{slice_get_within}
use Rattle.std.proofs.lemmas.List.{length-map}
use Rattle.cocoon_num.specs.Tokens.{Kind, a_name, keyword, plain, literal, mark, finish, kinds, lex, without_finish}
use Rattle.p4_ir.specs.P4Text.{p4_lexicon, said}
use Rattle.p4_parse.specs.Kinds.{token_of}
use Rattle.p4_parse.specs.declared.token.Token.{Token}
use Rattle.p4_texts.specs.Machine.{Goals, exactly, fixed, same_token, stuck}
use Rattle.p4_texts.specs.Reading.{is_end}
use Rattle.p4_texts.proofs.Complete.{same_kind}
use Rattle.p4_texts.proofs.Ends.{lexed_lasts}
use Rattle.p4_parse.specs.Phrases.{Read, Refused, kind_at, kinds_at}
use Rattle.p4_parse.specs.Pieces.{ends_at, has_end, piece_text, piece_tokens, same_at}
use Rattle.p4_parse.specs.declared.pieces.Piece.{Piece}
use Rattle.p4_parse.specs.declared.pieces.Piece.TheVariants as piece
use Rattle.p4_parse.proofs.Tokens.{drop_none, drop_some, left, refused_at, same_text, taken_at}

-- ---- the tokens of a piece

pub kinds_are : (text : List ℕ) (tokens : List Token) → kinds (map (token_of text) tokens) ≡ kinds_at text tokens
kinds_are text [] = refl
kinds_are text (t ∷ ts) = ap (λ ks. kind_at text t ∷ ks) (kinds_are text ts)

said_is : (text : List ℕ) (tokens : List Token) → lex p4_lexicon text ≡ Ok (map (token_of text) tokens) → without_finish (kinds_at text tokens) ≡ said text
said_is text tokens e = ap without_finish (sym (kinds_are text tokens)) ∙ sym (ap (λ r. elim r [ Ok ts ↦ without_finish (kinds ts) | Err e ↦ [] ]) e)

abbrev LexesAs : List Token → List ℕ → Type 0
LexesAs tokens text = lex p4_lexicon text ≡ Ok (map (token_of text) tokens)

pub said_in : (p : Piece) (text : List ℕ) (tokens : List Token) → text ≡ piece_text p → LexesAs tokens text → without_finish (kinds_at (piece_text p) tokens) ≡ piece_tokens p
said_in p text tokens h e = said_is (piece_text p) tokens (subst (LexesAs tokens) h e)

short : (p : Piece) → nat_le (length (piece_text p)) 1000 ≡ true
short piece.Architecture = refl
short piece.Headers = refl
short piece.Meta = refl
short piece.Parser = refl
short piece.Extract = refl
short piece.Ingress = refl
short piece.IngressBegins = refl
short piece.Egress = refl
short piece.EgressBegins = refl
short piece.Deparser = refl
short piece.Emit = refl
short piece.End = refl

pub few_in : (p : Piece) (text : List ℕ) (tokens : List Token) → text ≡ piece_text p → LexesAs tokens text → length tokens ≤ 2 ^ 32
few_in p text tokens h e =
    let f = (lexed_lasts text (map (token_of text) tokens) e).few in
    let s = leb-true (length (piece_text p)) 1000 (short p) in
    omega (arith, f, s, ap length h, length-map tokens (token_of text))

-- ---- the end

pub end_is : (o : Option Kind) → has_end o ≡ true → o ≡ Some finish
end_is (Some finish) e = refl
end_is o e = absurd cc

pub no_end : (o : Option Kind) → has_end o ≡ false → left (exactly finish) o ≡ None
no_end None e = refl
no_end (Some finish) e = absurd cc
no_end (Some k) e = refl

-- ---- one token after the other

same_tokens : (j k : Kind) → same_token j k ≡ true → j ≡ k
same_tokens (a_name x) (a_name y) h = ap (λ z. a_name z) (same_text x y h)
same_tokens (keyword x) (keyword y) h = ap (λ z. keyword z) (same_text x y h)
same_tokens (plain n) (plain m) h = ap (λ z. plain z) (eqb-true n m h)
same_tokens (literal w n) (literal v m) h =
    let b = and_parts _ _ h in
    ap (λ z. literal z n) (eqb-true w v b.0) ∙ ap (λ z. literal v z) (eqb-true n m b.1)
same_tokens (mark x) (mark y) h = ap (λ z. mark z) (same_text x y h)
same_tokens finish finish h = refl
same_tokens j k h = absurd cc

goes_on : (k : Kind) (ks : List Kind) → is_end k ≡ false → without_finish (k ∷ ks) ≡ k ∷ without_finish ks
goes_on finish ks e = absurd cc
goes_on k ks e = refl

-- so many tokens of the piece are taken
pub record Taken (ts piece : List Kind) (pos next index : ℕ) : Type 0 where
  pub within : next ≤ length ts
  pub at : next ≡ pos + index
  pub are : (rest : List Kind) → drop next ts ≡ without_finish (drop index piece) ++ rest → drop pos ts ≡ without_finish piece ++ rest
  pub goes : (hs : Goals) → stuck (fixed (without_finish piece) ++ hs) (drop pos ts) ≡ stuck (fixed (without_finish (drop index piece)) ++ hs) (drop next ts)

pub none_taken : (ts piece : List Kind) (pos : ℕ) → pos ≤ length ts → Taken ts piece pos pos 0
none_taken ts piece pos w = record { within = w; at = omega arith; are = λ rest e. e; goes = λ hs. refl }

-- the token that stands at an index of the piece
record Stands (piece : List Kind) (index : ℕ) : Type 0 where
  kind : Kind
  there : slice_get piece index ≡ Some kind
  from : without_finish (drop index piece) ≡ kind ∷ without_finish (drop (index + 1) piece)

stands : (o : Option Kind) (piece : List Kind) (index : ℕ) → slice_get piece index ≡ o → ends_at o ≡ false → Stands piece index
stands None piece index e h = absurd cc
stands (Some k) piece index e h = record { kind = k; there = e; from = ap without_finish (drop_some piece index k e) ∙ goes_on k (drop (index + 1) piece) h }

found : (k : Kind) (o : Option Kind) → same_at (Some k) o ≡ true → o ≡ Some k
found k None h = absurd cc
found k (Some j) h = ap (λ z. Some z) (sym (same_tokens k j h))

not_found : (k : Kind) (o : Option Kind) → same_at (Some k) o ≡ false → left (exactly k) o ≡ None
not_found k None h = refl
not_found k (Some j) h = rw h refl

pub one_taken : (ts piece : List Kind) (pos next index : ℕ) → Taken ts piece pos next index → ends_at (slice_get piece index) ≡ false → same_at (slice_get piece index) (slice_get ts next) ≡ true → Taken ts piece pos (next + 1) (index + 1)
one_taken ts piece pos next index t e s =
    let p = stands (slice_get piece index) piece index refl e in
    let f = found p.kind (slice_get ts next) (ap (λ o. same_at o (slice_get ts next)) (sym p.there) ∙ s) in
    let l = slice_get_within ts next p.kind f in
    let a = t.at in
    record {
      within = omega (arith, l);
      at = omega (arith, a);
      are = λ rest h. t.are rest (drop_some ts next p.kind f ∙ ap (λ z. p.kind ∷ z) h ∙ ap (λ z. z ++ rest) (sym p.from));
      goes = λ hs. t.goes hs ∙ ap (λ z. stuck (fixed z ++ hs) (drop next ts)) p.from ∙ taken_at (exactly p.kind) (fixed (without_finish (drop (index + 1) piece)) ++ hs) [] ts next p.kind f (rw (same_kind p.kind) refl);
    }

pub one_refused : (ts piece : List Kind) (pos next index : ℕ) → Taken ts piece pos next index → ends_at (slice_get piece index) ≡ false → same_at (slice_get piece index) (slice_get ts next) ≡ false → Refused (fixed (without_finish piece)) ts pos next
one_refused ts piece pos next index t e s =
    let p = stands (slice_get piece index) piece index refl e in
    let f = not_found p.kind (slice_get ts next) (ap (λ o. same_at o (slice_get ts next)) (sym p.there) ∙ s) in
    record {
      within = t.within;
      there = λ hs. t.goes hs ∙ ap (λ z. stuck (fixed z ++ hs) (drop next ts)) p.from ∙ refused_at (exactly p.kind) (fixed (without_finish (drop (index + 1) piece)) ++ hs) ts next (slice_get ts next) refl f;
    }

none_left : (o : Option Kind) (piece : List Kind) (index : ℕ) → slice_get piece index ≡ o → ends_at o ≡ true → without_finish (drop index piece) ≡ []
none_left None piece index e h = ap without_finish (drop_none piece index e)
none_left (Some finish) piece index e h = ap without_finish (drop_some piece index finish e)
none_left (Some k) piece index e h = absurd cc

pub all_taken : (ts piece : List Kind) (pos next index : ℕ) → Taken ts piece pos next index → ends_at (slice_get piece index) ≡ true → 0 < length (without_finish piece) → Read (fixed (without_finish piece)) (λ (x : ⊤) ks. without_finish piece ++ ks) ts pos tt next
all_taken ts piece pos next zero t e h = let n = none_left (slice_get piece 0) piece 0 refl e in absurd (omega (arith, h, ap length n))
all_taken ts piece pos next (suc i) t e h =
    let n = none_left (slice_get piece (suc i)) piece (suc i) refl e in
    let a = t.at in
    record {
      after = omega (arith, a);
      within = t.within;
      are = t.are (drop next ts) (ap (λ z. z ++ drop next ts) (sym n));
      goes = λ hs. t.goes hs ∙ ap (λ z. stuck (fixed z ++ hs) (drop next ts)) n;
    }
