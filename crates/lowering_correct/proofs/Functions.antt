-- What a name finds among the functions of a design that keeps the rules.
use Rattle.std.proofs.Common.{◌≡◌, ℕ, zero, suc, List, [], ◌∷◌, reverse, slice_get, Some, inl, inr, sym, ap, ◌∙◌}
use Rattle.cocoon_num.specs.Tree.{FunctionDecl, Design}
use Rattle.cocoon_num.specs.Names.{named}
use Rattle.cocoon_types.specs.Design.{functions}
use Rattle.cocoon_types.specs.Rules.{WellFormed}
use Rattle.runtime_defs.proofs.Distinct.{named-self}
use Rattle.sound_types.proofs.Members.{In, in_reverse, named_there}

place_of : {A : Type 0} (x : A) (xs : List A) → In x xs → (n : ℕ) × (slice_get xs n ≡ Some x)
place_of x [] h = absurd h
place_of x (y ∷ xs) h = elim h [ inl e ↦ (zero, ap Some (sym e)) | inr k ↦ let t = place_of x xs k in (suc t.0, t.1) ]

-- what a name finds from the last on, it finds from the first on
pub found_first : (d : Design) → WellFormed d → (f : List ℕ) (g : FunctionDecl) → named (λ (x : FunctionDecl). x.name) f (reverse (functions d)) ≡ Some g → named (λ (x : FunctionDecl). x.name) f (functions d) ≡ Some g
found_first d w f g h =
    let t = named_there (λ (x : FunctionDecl). x.name) f (reverse (functions d)) g h in
    let p = place_of g (functions d) (in_reverse g (functions d) t.0) in
    ap (λ y. named (λ (x : FunctionDecl). x.name) y (functions d)) t.1 ∙ named-self d w p.0 g p.1
