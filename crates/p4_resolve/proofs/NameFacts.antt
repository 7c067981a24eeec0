-- What a name begins with, and the names that a set has.
use Rattle.std.proofs.Common.{◌≡◌, ℕ, ◌==◌, ◌&&◌, ◌||◌, Bool, true, false, not, List, [], ◌∷◌, ◌++◌, length, drop, take, ◌-◌, length-drop, nat_eq, Vec, Global, if◌then◌else◌, refl, sym, ap, ◌∙◌, arith}
use Rattle.p4_texts.specs.Meant.{rest_after}
use Rattle.std.proofs.lemmas.List.{take_all}
use Rattle.std.specs.List.{starts_with}
use Rattle.cocoon_num.specs.Lists.{is_one_of}
use Rattle.cocoon_num.specs.Names.{same_name}
use Rattle.cocoon_num.specs.Tokens as tokens
use Rattle.p4_kinds.specs.Seen.{has_key, Joins}
use Rattle.p4_resolve.specs.Judged.{Sees}
use Rattle.numbering.proofs.NameFacts.{same-symm}

-- `starts_with` on bytes says whether a text begins so
pub begins_is : (p s : List ℕ) → starts_with nat_eq s p ≡ tokens.begins p s
begins_is [] s = refl
begins_is (x ∷ p) [] = refl
begins_is (x ∷ p) (y ∷ s) = ap (λ r. (x == y) && r) (begins_is p s)

pub none_seen : Sees [] []
none_seen = record { has = λ x. refl }

is_one_append : (names : List (List ℕ)) (y x : List ℕ) → is_one_of (names ++ y ∷ []) x ≡ (same_name y x || is_one_of names x)
is_one_append [] y x = refl
is_one_append (n ∷ names) y x = ap (λ b. same_name n x || b) (is_one_append names y x) ∙ crossed (same_name y x) (same_name n x) (is_one_of names x)
  where
    crossed : (a b r : Bool) → (b || (a || r)) ≡ (a || (b || r))
    crossed true true r = refl
    crossed true false r = refl
    crossed false true r = refl
    crossed false false r = refl

-- a set with one name more
pub seen_more : (name : List ℕ) (old new : List (Vec ℕ Global)) (b : Bool) (names : List (List ℕ)) → Sees old names → Joins name old new b → Sees new (names ++ name ∷ [])
seen_more name old new b names s j = record {
  has = λ x. j.keys x ∙ ap (λ a. a || has_key old x) (same-symm x name) ∙ ap (λ a. same_name name x || a) (s.has x) ∙ sym (is_one_append names name x);
}

-- whether it was new
pub was_new : (name : List ℕ) (old new : List (Vec ℕ Global)) (b : Bool) (names : List (List ℕ)) → Sees old names → Joins name old new b → b ≡ not (is_one_of names name)
was_new name old new b names s j = j.new_where ∙ ap not (s.has name)

-- what follows the first bytes
pub rest_is : (start name : List ℕ) (b : Bool) → b ≡ starts_with nat_eq name start → b ≡ true → take (length name - length start) (drop (length start) name) ≡ rest_after start name
rest_is start name b e h =
    take_all (length name - length start) (drop (length start) name) (omega (arith, length-drop {A = ℕ}))
    ∙ ap (λ t. if t then drop (length start) name else []) (sym (sym (begins_is start name) ∙ sym e ∙ h))
