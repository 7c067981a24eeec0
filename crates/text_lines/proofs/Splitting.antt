-- The first piece of some bytes, and those behind it.
use Rattle.std.specs.Prelude.{◌≡◌, ◌++◌, map, ℕ, suc, ◌+◌, ◌<◌, ◌==◌, Bool, true, false, not, List, [], ◌∷◌, length, take, drop, refl}
use Rattle.std.proofs.Common.{ap, sym, ◌∙◌, arith, take_all}
use Rattle.std.specs.Borrow.{Bor}
use Rattle.cocoon_num.specs.Tokens.{leading}
use Rattle.text_lines.specs.Lines.{line_bytes, parts_of, longer_first}

-- how many bytes come before the first one that is `stop`
abbrev pub before : ℕ → List ℕ → ℕ
before stop bs = length (leading (λ b. not (b == stop)) bs)

-- ---- lines

ended_line : (b : ℕ) (bs : List ℕ) (e : Bool) → (b == 10) ≡ e → (bs ≡ [] → ⊥) → line_bytes bs ≡ take (before 10 bs) bs ∷ line_bytes (drop (suc (before 10 bs)) bs)
    → line_bytes (b ∷ bs) ≡ take (before 10 (b ∷ bs)) (b ∷ bs) ∷ line_bytes (drop (suc (before 10 (b ∷ bs))) (b ∷ bs))
ended_line b bs true e some h = rw e refl
ended_line b bs false e some h = rw e (ap (longer_first b) h)

last_byte : (b : ℕ) (e : Bool) → (b == 10) ≡ e → line_bytes (b ∷ []) ≡ take (before 10 (b ∷ [])) (b ∷ []) ∷ line_bytes (drop (suc (before 10 (b ∷ []))) (b ∷ []))
last_byte b true e = rw e refl
last_byte b false e = rw e refl

first_line : (b : ℕ) (bs : List ℕ) → line_bytes (b ∷ bs) ≡ take (before 10 (b ∷ bs)) (b ∷ bs) ∷ line_bytes (drop (suc (before 10 (b ∷ bs))) (b ∷ bs))
first_line b [] = last_byte b (b == 10) refl
first_line b (x ∷ xs) = ended_line b (x ∷ xs) (b == 10) refl (λ e. cc) (first_line x xs)

pub line_splits : (bs : List ℕ) (n : ℕ) → 0 < length bs → n ≡ before 10 bs → line_bytes bs ≡ take n bs ∷ line_bytes (drop (n + 1) bs)
line_splits [] n h e = absurd (omega (arith, h))
line_splits (b ∷ bs) n h e =
    let more : suc (before 10 (b ∷ bs)) ≡ n + 1 = omega (arith, e) in
    first_line b bs
    ∙ ap (λ k. take k (b ∷ bs) ∷ line_bytes (drop (suc (before 10 (b ∷ bs))) (b ∷ bs))) (sym e)
    ∙ ap (λ k. take n (b ∷ bs) ∷ line_bytes (drop k (b ∷ bs))) more

-- ---- parts

-- a further byte before a space, or a space
more_parts : (b : ℕ) (bs : List ℕ) (e : Bool) → (b == 32) ≡ e → (before 32 bs < length bs → parts_of bs ≡ take (before 32 bs) bs ∷ parts_of (drop (suc (before 32 bs)) bs))
    → before 32 (b ∷ bs) < length (b ∷ bs) → parts_of (b ∷ bs) ≡ take (before 32 (b ∷ bs)) (b ∷ bs) ∷ parts_of (drop (suc (before 32 (b ∷ bs))) (b ∷ bs))
more_parts b bs true e h k = rw e refl
more_parts b bs false e h k =
    let size : before 32 (b ∷ bs) ≡ suc (before 32 bs) = rw e refl in
    rw e (ap (longer_first b) (h (omega (arith, size, k))))

first_part : (bs : List ℕ) → before 32 bs < length bs → parts_of bs ≡ take (before 32 bs) bs ∷ parts_of (drop (suc (before 32 bs)) bs)
first_part [] h = absurd (omega (arith, h))
first_part (b ∷ bs) h = more_parts b bs (b == 32) refl (first_part bs) h

pub part_splits : (bs : List ℕ) (n : ℕ) → n ≡ before 32 bs → n < length bs → parts_of bs ≡ take n bs ∷ parts_of (drop (n + 1) bs)
part_splits bs n e h =
    let more : suc (before 32 bs) ≡ n + 1 = omega (arith, e) in
    first_part bs (omega (arith, e, h))
    ∙ ap (λ k. take k bs ∷ parts_of (drop (suc (before 32 bs)) bs)) (sym e)
    ∙ ap (λ k. take n bs ∷ parts_of (drop k bs)) more

no_space : (b : ℕ) (bs : List ℕ) (e : Bool) → (b == 32) ≡ e → (before 32 bs ≡ length bs → parts_of bs ≡ bs ∷ []) → before 32 (b ∷ bs) ≡ length (b ∷ bs) → parts_of (b ∷ bs) ≡ (b ∷ bs) ∷ []
no_space b bs true e h k =
    let none : before 32 (b ∷ bs) ≡ 0 = rw e refl in
    absurd (omega (arith, none, k))
no_space b bs false e h k =
    let size : before 32 (b ∷ bs) ≡ suc (before 32 bs) = rw e refl in
    rw e (ap (longer_first b) (h (omega (arith, size, k))))

one_part : (bs : List ℕ) → before 32 bs ≡ length bs → parts_of bs ≡ bs ∷ []
one_part [] e = refl
one_part (b ∷ bs) e = no_space b bs (b == 32) refl (one_part bs) e

pub last_part : (bs : List ℕ) (n : ℕ) → n ≡ before 32 bs → n ≡ length bs → parts_of bs ≡ take n bs ∷ []
last_part bs n e h = one_part bs (sym e ∙ h) ∙ ap (λ p. p ∷ []) (sym (take_all n bs (omega (arith, h))))

-- one part more, and those behind it
pub one_more : (parts next : List (Bor (List ℕ))) (part : Bor (List ℕ)) (rest more whole : List (List ℕ)) → next ≡ parts ++ (part ∷ [])
    → map (λ p. p.now) parts ++ rest ≡ whole → rest ≡ part.now ∷ more → map (λ p. p.now) next ++ more ≡ whole
one_more parts next part rest more whole e h k =
    ap (λ ps. map (λ p. p.now) ps ++ more) e
    ∙ joined parts
    ∙ ap (λ ps. map (λ p. p.now) parts ++ ps) (sym k) ∙ h
  where
    joined : (ps : List (Bor (List ℕ))) → map (λ p. p.now) (ps ++ (part ∷ [])) ++ more ≡ map (λ p. p.now) ps ++ (part.now ∷ more)
    joined [] = refl
    joined (p ∷ ps) = ap (λ qs. p.now ∷ qs) (joined ps)
