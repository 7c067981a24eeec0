-- Prefixes of a text.
use Rattle.std.specs.Prelude.{◌≡◌, ℕ, suc, ◌+◌, ◌<◌, ◌≤◌, ◌==◌, ◌&&◌, nat_eq, Bool, true, false, List, [], ◌∷◌, length, take, drop, get_or, Option, Some, None, option_map, codes, if◌then◌else◌, refl}
use Rattle.std.proofs.Common.{ap, sym, ◌∙◌, arith}
use Rattle.std.proofs.lemmas.List.{drop_more}
use Rattle.std.specs.Cmp.Lexicographic.{pointwise}
use Rattle.std.specs.List.{starts_with}
use Rattle.cocoon_num.specs.Names.{same_name}
use Rattle.cocoon_num.specs.Tokens as tokens

-- `==` on bytes is that of names
pub same_is : (p s : List ℕ) → pointwise nat_eq p s ≡ same_name p s
same_is [] [] = refl
same_is [] (y ∷ s) = refl
same_is (x ∷ p) [] = refl
same_is (x ∷ p) (y ∷ s) = ap (λ r. (x == y) && r) (same_is p s)

-- `starts_with` on bytes says whether a text begins so
pub begins_is : (p s : List ℕ) → starts_with nat_eq s p ≡ tokens.begins p s
begins_is [] s = refl
begins_is (x ∷ p) [] = refl
begins_is (x ∷ p) (y ∷ s) = ap (λ r. (x == y) && r) (begins_is p s)

-- ---- runs

-- so many bytes are the run that the text begins with
abbrev TakesRun : (ℕ → Bool) → List ℕ → Type 0
TakesRun test xs = take (length (tokens.leading test xs)) xs ≡ tokens.leading test xs

-- one byte more of a run, or its end
one_taken : (test : ℕ → Bool) (x : ℕ) (xs : List ℕ) (b : Bool) → test x ≡ b → TakesRun test xs → TakesRun test (x ∷ xs)
one_taken test x xs true e h = rw e (ap (λ r. x ∷ r) h)
one_taken test x xs false e h = rw e refl

-- so many bytes as a run has are the run
pub take_run : (test : ℕ → Bool) (xs : List ℕ) → TakesRun test xs
take_run test [] = refl
take_run test (x ∷ xs) = one_taken test x xs (test x) refl (take_run test xs)

-- ---- the ends of comments

-- two bytes at an offset, and what comes after them
two_more : (xs : List ℕ) (i : ℕ) → i + 1 < length xs → drop i xs ≡ get_or xs i 0 ∷ get_or xs (i + 1) 0 ∷ drop (i + 1 + 1) xs
two_more xs i h = drop_more xs i 0 (omega arith) ∙ ap (λ r. get_or xs i 0 ∷ r) (drop_more xs (i + 1) 0 h)

-- whether `*/` stands at an offset
pub comment_ends : (xs : List ℕ) (i : ℕ) → i + 1 < length xs → tokens.begins (codes "*/") (drop i xs) ≡ ((42 == get_or xs i 0) && ((47 == get_or xs (i + 1) 0) && true))
comment_ends xs i h = ap (λ r. tokens.begins (codes "*/") r) (two_more xs i h)

-- two, where a test holds
abbrev two_if : Bool → Option ℕ
two_if b = if b then Some 2 else None

-- a test that fails in part fails
neither : (b : Bool) → two_if (b && false) ≡ None
neither true = refl
neither false = refl

-- one byte or none ends no comment
pub stays_open : (xs : List ℕ) → length xs ≤ 1 → tokens.comment_end xs ≡ None
stays_open [] h = refl
stays_open (x ∷ []) h = neither (42 == x)
stays_open (x ∷ y ∷ xs) h = absurd (omega arith)

-- a comment that does not end at this byte
goes_past : (b : ℕ) (rest : List ℕ) → tokens.begins (codes "*/") (b ∷ rest) ≡ false → tokens.comment_end (b ∷ rest) ≡ option_map suc (tokens.comment_end rest)
goes_past b rest e = rw e refl

-- a comment that does not end here ends a byte later
pub comment_goes_on : (xs : List ℕ) (i : ℕ) → i < length xs → tokens.begins (codes "*/") (drop i xs) ≡ false → tokens.comment_end (drop i xs) ≡ option_map suc (tokens.comment_end (drop (i + 1) xs))
comment_goes_on xs i h e =
    let d : drop i xs ≡ get_or xs i 0 ∷ drop (i + 1) xs = drop_more xs i 0 h in
    ap tokens.comment_end d ∙ goes_past (get_or xs i 0) (drop (i + 1) xs) (ap (λ r. tokens.begins (codes "*/") r) (sym d) ∙ e)

-- one byte more
pub counted : (k : ℕ) (end : Option ℕ) → option_map (λ n. k + n) (option_map suc end) ≡ option_map (λ n. (k + 1) + n) end
counted k None = refl
counted k (Some n) = let e : k + suc n ≡ (k + 1) + n = omega arith in ap (λ m. Some m) e
