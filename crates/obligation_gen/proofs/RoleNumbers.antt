-- Different roles have different numbers.
use Rattle.std.proofs.Common.{◌≡◌, inl, inr, ℕ, zero, suc, ◌==◌, ◌&&◌, List, [], ◌∷◌, Bool, true, false, Option, Some, None, option_map, if◌then◌else◌, refl, sym, ap, ◌∙◌}
use Rattle.std.specs.Prelude.{slice_get}
use Rattle.std.proofs.lemmas.Bool.{and_from, cases_Bool, eq-eqb}
use Rattle.cocoon_num.specs.Names.{same_name}
use Rattle.cocoon_num.specs.Tree.{Design}
use Rattle.cocoon_types.specs.RuleParts.{roles_of}
use Rattle.declarations.specs.Declares.{role_number, role_texts}
use Rattle.numbering.specs.NameNumbers.{firsts, index_of}
use Rattle.sound_types.proofs.Options.{same_text}

pub same_itself : (x : List ℕ) → same_name x x ≡ true
same_itself [] = refl
same_itself (a ∷ x) = and_from (a == a) (same_name x x) (eq-eqb a a refl) (same_itself x)

-- the name stands at its index
stands_at : (x : List ℕ) (ns : List (List ℕ)) (k : ℕ) → index_of x ns ≡ Some k → slice_get ns k ≡ Some x
stands_at x [] k e = absurd (cc)
stands_at x (n ∷ ns) k e = elim (cases_Bool (same_name x n)) [
  | inl s ↦
      let first : Some 0 ≡ Some k = ap (λ b. if b then Some 0 else option_map suc (index_of x ns)) (sym s) ∙ e in
      let at : 0 ≡ k = cc in
      ap (slice_get (n ∷ ns)) (sym at) ∙ ap Some (sym (same_text x n s))
  | inr s ↦ later (index_of x ns) refl (stands_at x ns) (ap (λ b. if b then Some 0 else option_map suc (index_of x ns)) (sym s) ∙ e)
]
  where
    later : (o : Option ℕ) → index_of x ns ≡ o → ((j : ℕ) → index_of x ns ≡ Some j → slice_get ns j ≡ Some x) → option_map suc o ≡ Some k → slice_get (n ∷ ns) k ≡ Some x
    later None h r i = absurd (cc)
    later (Some j) h r i = let at : suc j ≡ k = cc in ap (slice_get (n ∷ ns)) (sym at) ∙ r j h

pub one_name : (d : Design) (x y : List ℕ) (n : ℕ) → role_number d x ≡ Some n → role_number d y ≡ Some n → x ≡ y
one_name d x y n a b =
    let ns = firsts (role_texts (roles_of d)) in
    let same : Some x ≡ Some y = sym (stands_at x ns n a) ∙ stands_at y ns n b in
    cc
