-- Single tokens, as goals take them.
use Rattle.std.specs.Prelude.{◌≡◌, ℕ, zero, suc, ◌+◌, ◌≤◌, true, false, List, [], ◌∷◌, ◌++◌, length, drop, slice_get, Option, Some, None, refl}
use Rattle.std.proofs.Common.{sym, ◌∙◌, ap, arith, rules, add-one}
use Rattle.std.proofs.lemmas.Slice.Eq.{compares_Decides}
use Rattle.cocoon_num.specs.Names.{same_name}
use Rattle.cocoon_num.specs.Tokens.{Kind, a_name, plain, literal, mark}
use Rattle.p4_texts.specs.Machine.{Goal, Goals, any_name, any_plain, any_literal, the_mark, the_word, takes, stuck}
use Rattle.std.proofs.lemmas.Option.{slice_get_within}
use Rattle.p4_texts.proofs.Complete.{same}
use Rattle.p4_parse.specs.Phrases.{Literal, Read, Refused, is_mark, is_word, literal_in, name_in, plain_in}

pub same_text : (x y : List ℕ) → same_name x y ≡ true → x ≡ y
same_text x y = (compares_Decides same_name (search rules) x y).0

-- the tokens from an index on
pub drop_some : (ts : List Kind) (pos : ℕ) (k : Kind) → slice_get ts pos ≡ Some k → drop pos ts ≡ k ∷ drop (pos + 1) ts
drop_some ts pos k e = from ts pos e ∙ ap (λ n. k ∷ drop n ts) (sym (add-one pos))
  where
    from : (us : List Kind) (n : ℕ) → slice_get us n ≡ Some k → drop n us ≡ k ∷ drop (suc n) us
    from [] n e = absurd cc
    from (u ∷ us) zero e = let s : u ≡ k = cc in ap (λ z. z ∷ us) s
    from (u ∷ us) (suc n) e = from us n e

pub drop_none : (ts : List Kind) (pos : ℕ) → slice_get ts pos ≡ None → drop pos ts ≡ []
drop_none [] zero e = refl
drop_none [] (suc n) e = refl
drop_none (t ∷ ts) zero e = absurd cc
drop_none (t ∷ ts) (suc n) e = drop_none ts n e

-- what a token that may be there leaves
abbrev pub left : Goal → Option Kind → Option Goals
left g None = None
left g (Some k) = takes g k

-- a token that is refused
pub refused_at : (g : Goal) (hs : Goals) (ts : List Kind) (pos : ℕ) (o : Option Kind) → slice_get ts pos ≡ o → left g o ≡ None → stuck (g ∷ hs) (drop pos ts) ≡ Some (drop pos ts)
refused_at g hs ts pos None e h = let d = drop_none ts pos e in ap (stuck (g ∷ hs)) d ∙ ap (λ z. Some z) (sym d)
refused_at g hs ts pos (Some k) e h = let d = drop_some ts pos k e in ap (stuck (g ∷ hs)) d ∙ rw h refl ∙ ap (λ z. Some z) (sym d)

-- a token that is taken
pub taken_at : (g : Goal) (hs more : Goals) (ts : List Kind) (pos : ℕ) (k : Kind) → slice_get ts pos ≡ Some k → takes g k ≡ Some more → stuck (g ∷ hs) (drop pos ts) ≡ stuck (more ++ hs) (drop (pos + 1) ts)
taken_at g hs more ts pos k e h = ap (stuck (g ∷ hs)) (drop_some ts pos k e) ∙ rw h refl

-- ---- marks

pub mark_is : (m : List ℕ) (o : Option Kind) → is_mark m o ≡ true → o ≡ Some (mark m)
mark_is m (Some (mark x)) h = ap (λ z. Some (mark z)) (sym (same_text m x h))
mark_is m o h = absurd cc

pub mark_left : (m : List ℕ) (o : Option Kind) → is_mark m o ≡ false → left (the_mark m) o ≡ None
mark_left m None h = refl
mark_left m (Some (mark x)) h = rw h refl
mark_left m (Some k) h = refl

pub word_is : (w : List ℕ) (o : Option Kind) → is_word w o ≡ true → o ≡ Some (a_name w)
word_is w (Some (a_name x)) h = ap (λ z. Some (a_name z)) (sym (same_text w x h))
word_is w o h = absurd cc

-- ---- names and numbers

pub name_is : (o : Option Kind) (x : List ℕ) → name_in o ≡ Some x → o ≡ Some (a_name x)
name_is (Some (a_name y)) x h = let e : y ≡ x = cc in ap (λ z. Some (a_name z)) e
name_is o x h = absurd cc

pub name_left : (o : Option Kind) → name_in o ≡ None → left any_name o ≡ None
name_left (Some (a_name y)) h = absurd cc
name_left None h = refl
name_left (Some k) h = refl

pub plain_is : (o : Option Kind) (n : ℕ) → plain_in o ≡ Some n → o ≡ Some (plain n)
plain_is (Some (plain m)) n h = let e : m ≡ n = cc in ap (λ z. Some (plain z)) e
plain_is o n h = absurd cc

pub plain_left : (o : Option Kind) → plain_in o ≡ None → left any_plain o ≡ None
plain_left (Some (plain m)) h = absurd cc
plain_left None h = refl
plain_left (Some k) h = refl

pub literal_is : (o : Option Kind) (l : Literal) → literal_in o ≡ Some l → o ≡ Some (literal l.width l.n)
literal_is (Some (literal w n)) l h = (let r : Literal = record { width = w; n = n } in let e : r ≡ l = cc in ap (λ (z : Literal). Some (literal z.width z.n)) e)
literal_is o l h = absurd cc

pub literal_left : (o : Option Kind) → literal_in o ≡ None → left any_literal o ≡ None
literal_left (Some (literal w n)) h = absurd cc
literal_left None h = refl
literal_left (Some k) h = refl

-- ---- answers

pub one_read : {A : Type 0} (g : Goal) (f : A → List Kind → List Kind) (ts : List Kind) (pos : ℕ) (k : Kind) (x : A) → slice_get ts pos ≡ Some k → takes g k ≡ Some [] → ((ks : List Kind) → f x ks ≡ k ∷ ks)
    → Read (g ∷ []) f ts pos x (pos + 1)
one_read g f ts pos k x e t h =
    let l = slice_get_within ts pos k e in
    record {
      after = omega arith;
      within = omega (arith, l);
      are = drop_some ts pos k e ∙ sym (h (drop (pos + 1) ts));
      goes = λ hs. taken_at g hs [] ts pos k e t;
    }

pub one_refused : (g : Goal) (ts : List Kind) (pos : ℕ) → pos ≤ length ts → left g (slice_get ts pos) ≡ None → Refused (g ∷ []) ts pos pos
one_refused g ts pos l h = record { within = l; there = λ hs. refused_at g hs ts pos (slice_get ts pos) refl h }

pub mark_takes : (m : List ℕ) → takes (the_mark m) (mark m) ≡ Some []
mark_takes m = rw (same m) refl

pub word_takes : (w : List ℕ) → takes (the_word w) (a_name w) ≡ Some []
word_takes w = rw (same w) refl

pub word_left : (w : List ℕ) (o : Option Kind) → is_word w o ≡ false → left (the_word w) o ≡ None
word_left w None h = refl
word_left w (Some (a_name x)) h = rw h refl
word_left w (Some k) h = refl
