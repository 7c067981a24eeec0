-- Two networks have one first difference at most, and none where they are the same.
use Rattle.std.proofs.Common.{◌≡◌, ℕ, zero, suc, ◌<◌, ◌⊎◌, inl, inr, List, [], ◌∷◌, take, refl, sym, ap, ◌∙◌, arith}
use Rattle.std.specs.Prelude.{slice_get}
use Rattle.p4_ir.specs.NetFits.{switch_numbers}
use Rattle.p4_ir.specs.NetTree.{NetData}
use Rattle.net_wiring.specs.Differences.{DiffersAt, FirstDiffers, FirstDifference, SameWires, programs, reported}
use Rattle.net_wiring.specs.declared.wiring.Wiring.{Wiring}
use Rattle.net_wiring.specs.declared.wiring.Wiring.TheVariants.{Ports, Switches, Hosts, Links, Programs}

same-before : {A : Type 0} (j i : ℕ) (xs ys : List A) → i < j → take j xs ≡ take j ys → slice_get xs i ≡ slice_get ys i
same-before zero i xs ys h e = absurd (omega (arith, h))
same-before (suc j) i [] [] h e = refl
same-before (suc j) i [] (y ∷ ys) h e = absurd cc
same-before (suc j) i (x ∷ xs) [] h e = absurd cc
same-before (suc j) zero (x ∷ xs) (y ∷ ys) h e = cc
same-before (suc j) (suc i) (x ∷ xs) (y ∷ ys) h e = same-before j i xs ys (omega (arith, h)) cc

which : (i j : ℕ) → (i ≡ j) ⊎ ((i < j) ⊎ (j < i))
which zero zero = inl refl
which zero (suc j) = inr (inl (omega arith))
which (suc i) zero = inr (inr (omega arith))
which (suc i) (suc j) = elim (which i j) [
  | inl e ↦ inl (ap suc e)
  | inr (inl e) ↦ inr (inl (omega (arith, e)))
  | inr (inr e) ↦ inr (inr (omega (arith, e)))
]

one-index : {A : Type 0} (xs ys : List A) (i j : ℕ) → FirstDiffers xs ys i → FirstDiffers xs ys j → i ≡ j
one-index xs ys i j d e = elim (which i j) [
  | inl same ↦ same
  | inr (inl less) ↦ absurd (d.1 (same-before j i xs ys less e.0))
  | inr (inr less) ↦ absurd (e.1 (same-before i j xs ys less d.0))
]

pub lists_apart : {A : Type 0} (xs ys : List A) (i : ℕ) → FirstDiffers xs ys i → xs ≡ ys → ⊥
lists_apart xs ys i d e = d.1 (ap (λ zs. slice_get zs i) e)

one-number : {A : Type 0} (xs ys : List A) (n m : ℕ) → DiffersAt xs ys n → DiffersAt xs ys m → n ≡ m
one-number xs ys n m d e = d.2 ∙ ap reported (one-index xs ys d.0 e.0 d.1 e.1) ∙ sym e.2

told-apart : {A : Type 0} (xs ys : List A) (n : ℕ) → DiffersAt xs ys n → xs ≡ ys → ⊥
told-apart xs ys n d e = lists_apart xs ys d.0 d.1 e

pub one-difference : (old new : NetData) (v w : Wiring) → FirstDifference old new v → FirstDifference old new w → v ≡ w
one-difference old new Ports Ports d e = refl
one-difference old new Ports (Switches j) d e = absurd (d e.0)
one-difference old new Ports (Hosts j) d e = absurd (d e.0.0)
one-difference old new Ports (Links j) d e = absurd (d e.0.0.0)
one-difference old new Ports (Programs j) d e = absurd (d e.0.0.0.0)
one-difference old new (Switches i) Ports d e = absurd (e d.0)
one-difference old new (Switches i) (Switches j) d e = ap Switches (one-number (switch_numbers old.switches) (switch_numbers new.switches) i j d.1 e.1)
one-difference old new (Switches i) (Hosts j) d e = absurd (told-apart (switch_numbers old.switches) (switch_numbers new.switches) i d.1 e.0.1)
one-difference old new (Switches i) (Links j) d e = absurd (told-apart (switch_numbers old.switches) (switch_numbers new.switches) i d.1 e.0.0.1)
one-difference old new (Switches i) (Programs j) d e = absurd (told-apart (switch_numbers old.switches) (switch_numbers new.switches) i d.1 e.0.0.0.1)
one-difference old new (Hosts i) Ports d e = absurd (e d.0.0)
one-difference old new (Hosts i) (Switches j) d e = absurd (told-apart (switch_numbers old.switches) (switch_numbers new.switches) j e.1 d.0.1)
one-difference old new (Hosts i) (Hosts j) d e = ap Hosts (one-number old.hosts new.hosts i j d.1 e.1)
one-difference old new (Hosts i) (Links j) d e = absurd (told-apart old.hosts new.hosts i d.1 e.0.1)
one-difference old new (Hosts i) (Programs j) d e = absurd (told-apart old.hosts new.hosts i d.1 e.0.0.1)
one-difference old new (Links i) Ports d e = absurd (e d.0.0.0)
one-difference old new (Links i) (Switches j) d e = absurd (told-apart (switch_numbers old.switches) (switch_numbers new.switches) j e.1 d.0.0.1)
one-difference old new (Links i) (Hosts j) d e = absurd (told-apart old.hosts new.hosts j e.1 d.0.1)
one-difference old new (Links i) (Links j) d e = ap Links (one-number old.links new.links i j d.1 e.1)
one-difference old new (Links i) (Programs j) d e = absurd (told-apart old.links new.links i d.1 e.0.1)
one-difference old new (Programs i) Ports d e = absurd (e d.0.0.0.0)
one-difference old new (Programs i) (Switches j) d e = absurd (told-apart (switch_numbers old.switches) (switch_numbers new.switches) j e.1 d.0.0.0.1)
one-difference old new (Programs i) (Hosts j) d e = absurd (told-apart old.hosts new.hosts j e.1 d.0.0.1)
one-difference old new (Programs i) (Links j) d e = absurd (told-apart old.links new.links j e.1 d.0.1)
one-difference old new (Programs i) (Programs j) d e = ap Programs (one-number (programs old.switches) (programs new.switches) i j d.1 e.1)

pub no-difference : (old new : NetData) (w : Wiring) → SameWires old new → programs old.switches ≡ programs new.switches → FirstDifference old new w → ⊥
no-difference old new Ports s p d = d s.0.0.0
no-difference old new (Switches i) s p d = told-apart (switch_numbers old.switches) (switch_numbers new.switches) i d.1 s.0.0.1
no-difference old new (Hosts i) s p d = told-apart old.hosts new.hosts i d.1 s.0.1
no-difference old new (Links i) s p d = told-apart old.links new.links i d.1 s.1
no-difference old new (Programs i) s p d = told-apart (programs old.switches) (programs new.switches) i d.1 p
