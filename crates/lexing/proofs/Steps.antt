-- The tokens of a text, one prefix after the other.
use Rattle.std.specs.Prelude.{◌≡◌, ℕ, zero, suc, ◌+◌, ◌-◌, ◌<◌, ◌≤◌, List, [], ◌∷◌, ◌++◌, length, map, take, drop, slice_range, get_or, Ok, Err, refl}
use Rattle.std.proofs.Common.{ap, sym, ◌∙◌, arith, append_assoc, length-drop}
use Rattle.std.proofs.lemmas.List.{drop_more, drop-drop, map-append}
use Rattle.cocoon_num.specs.Tokens as tokens
use Rattle.lexing.specs.Prefixes.{Fits, first_prefix}

-- bytes that belong to a token are passed over
covered : (lexicon : tokens.Lexicon) (at k : ℕ) (xs : List ℕ) → k ≤ length xs → tokens.lex_from lexicon at k xs ≡ tokens.lex_from lexicon (at + k) 0 (drop k xs)
covered lexicon at zero xs h = let e : at ≡ at + 0 = omega arith in ap (λ n. tokens.lex_from lexicon n 0 xs) e
covered lexicon at (suc k) [] h = absurd (omega arith)
covered lexicon at (suc k) (x ∷ xs) h =
    let e : suc at + k ≡ at + suc k = omega arith in
    covered lexicon (suc at) k xs (omega arith) ∙ ap (λ n. tokens.lex_from lexicon n 0 (drop k xs)) e

-- the tokens from an offset on
abbrev pub from : tokens.Lexicon → List ℕ → ℕ → tokens.Lexed
from lexicon text at = tokens.lex_from lexicon at 0 (drop at text)

-- what comes after the prefix at an offset
abbrev onward : tokens.Lexicon → List ℕ → ℕ → ℕ → tokens.Lexed
onward lexicon text at k = tokens.lex_from lexicon (suc at) k (drop (at + 1) text)

-- these tokens, and then others
abbrev pub after : List tokens.Token → tokens.Lexed → tokens.Lexed
after ts (Ok us) = Ok (ts ++ us)
after ts (Err f) = Err f

-- one token more
after_one : (ts : List tokens.Token) (t : tokens.Token) (r : tokens.Lexed) → after ts (tokens.with_token t r) ≡ after (ts ++ t ∷ []) r
after_one ts t (Ok us) = ap (λ vs. Ok vs) (sym (append_assoc ts (t ∷ []) us))
after_one ts t (Err f) = refl

-- a token is that of its three parts
parts : (t : tokens.Token) (kind : tokens.Kind) (start stop : ℕ) → t.kind ≡ kind → t.start ≡ start → t.stop ≡ stop → t ≡ record { kind = kind; start = start; stop = stop }
parts t kind start stop k a b =
    ap (λ (q : tokens.Kind). let u : tokens.Token = record { kind = q; start = t.start; stop = t.stop } in u) k
    ∙ ap (λ (m : ℕ). let u : tokens.Token = record { kind = kind; start = m; stop = t.stop } in u) a
    ∙ ap (λ (m : ℕ). let u : tokens.Token = record { kind = kind; start = start; stop = m } in u) b

-- the token of these bytes
abbrev pub token_at : (List ℕ → tokens.Kind) → List ℕ → ℕ → ℕ → tokens.Token
token_at kind_in text at n = record { kind = kind_in (take n (drop at text)); start = at; stop = at + n }

-- a token of these offsets is that of its bytes
pub token_is : (kind_in : List ℕ → tokens.Kind) (text : List ℕ) (at n : ℕ) (t : tokens.Token) → t.kind ≡ kind_in (slice_range text at (at + n)) → t.start ≡ at → t.stop ≡ at + n → t ≡ token_at kind_in text at n
token_is kind_in text at n t k a b =
    let size : (at + n) - at ≡ n = omega arith in
    parts t (kind_in (take n (drop at text))) at (at + n) (k ∙ ap (λ m. kind_in (take m (drop at text))) size) a b

module _ (lexicon : tokens.Lexicon) (text : List ℕ) (at : ℕ) (inside : at < length text) where
  -- the tokens from an offset on go by the prefix there
  by_first : from lexicon text at ≡ tokens.by_prefix at (first_prefix lexicon (drop at text)) (onward lexicon text at)
  by_first =
      let d : drop at text ≡ get_or text at 0 ∷ drop (at + 1) text = drop_more text at 0 inside in
      ap (λ bs. tokens.lex_from lexicon at 0 bs) d ∙ ap (λ bs. tokens.by_prefix at (first_prefix lexicon bs) (onward lexicon text at)) (sym d)

  -- behind a prefix the tokens are those from its end on
  onward_is : (n : ℕ) → 1 ≤ n → n ≤ length (drop at text) → onward lexicon text at (n - 1) ≡ from lexicon text (at + n)
  onward_is n some within =
      let rest : n - 1 ≤ length (drop (at + 1) text) = omega (arith, length-drop at text, length-drop (at + 1) text) in
      let offset : suc at + (n - 1) ≡ at + n = omega arith in
      let same : (at + 1) + (n - 1) ≡ at + n = omega arith in
      covered lexicon (suc at) (n - 1) (drop (at + 1) text) rest
      ∙ ap (λ m. tokens.lex_from lexicon m 0 (drop (n - 1) (drop (at + 1) text))) offset
      ∙ ap (λ bs. tokens.lex_from lexicon (at + n) 0 bs) (drop-drop (n - 1) (at + 1) text ∙ ap (λ m. drop m text) same)

  -- the tokens from an offset on, by a prefix that is known
  by_known : (f : tokens.Prefix) → first_prefix lexicon (drop at text) ≡ f → from lexicon text at ≡ tokens.by_prefix at f (onward lexicon text at)
  by_known f e = by_first ∙ ap (λ g. tokens.by_prefix at g (onward lexicon text at)) e

  -- bytes of no token are passed over
  pub gap_step : (whole : tokens.Lexed) (ts : List tokens.Token) (n : ℕ) → Fits (drop at text) (tokens.gap n) → first_prefix lexicon (drop at text) ≡ tokens.gap n
      → whole ≡ after ts (from lexicon text at) → whole ≡ after ts (from lexicon text (at + n))
  gap_step whole ts n fits e so_far = so_far ∙ ap (after ts) (by_known (tokens.gap n) e ∙ onward_is n fits.0 fits.1)

  -- a token is found
  one_more : (ts : List tokens.Token) (n : ℕ) (kind : tokens.Kind) → Fits (drop at text) (tokens.piece kind n) → first_prefix lexicon (drop at text) ≡ tokens.piece kind n
      → after ts (from lexicon text at) ≡ after (ts ++ record { kind = kind; start = at; stop = at + n } ∷ []) (from lexicon text (at + n))
  one_more ts n kind fits e =
      let t : tokens.Token = record { kind = kind; start = at; stop = at + n } in
      ap (after ts) (by_known (tokens.piece kind n) e ∙ ap (tokens.with_token t) (onward_is n fits.0 fits.1))
      ∙ after_one ts t (from lexicon text (at + n))

  -- a token of the code is made that stands for it
  pub piece_step : {T : Type 0} (meaning : T → tokens.Token) (kind_in : List ℕ → tokens.Kind) (n : ℕ) (found items : List T) (token : T) (whole : tokens.Lexed)
      → Fits (drop at text) (tokens.piece (kind_in (take n (drop at text))) n) → first_prefix lexicon (drop at text) ≡ tokens.piece (kind_in (take n (drop at text))) n
      → meaning token ≡ token_at kind_in text at n → items ≡ found ++ token ∷ []
      → whole ≡ after (map meaning found) (from lexicon text at) → whole ≡ after (map meaning items) (from lexicon text (at + n))
  piece_step meaning kind_in n found items token whole fits e is pushed so_far =
      so_far ∙ one_more (map meaning found) n (kind_in (take n (drop at text))) fits e
      ∙ ap (λ t. after (map meaning found ++ t ∷ []) (from lexicon text (at + n))) (sym is)
      ∙ ap (λ ts. after ts (from lexicon text (at + n))) (sym (map-append meaning found (token ∷ [])))
      ∙ ap (λ ts. after (map meaning ts) (from lexicon text (at + n))) (sym pushed)
