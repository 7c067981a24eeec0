-- The test that numbers fit, and widths that are declared.
use Rattle.std.proofs.Common.{◌≡◌, ℕ, suc, ◌^◌, nat_lt, true, false, List, [], ◌∷◌, length, refl, ap}
use Rattle.std.proofs.lemmas.Bool.{and_from, and_parts, and_right, lt-ltb, ltb-true}
use Rattle.cocoon_num.specs.PacketForms.{FieldsFit}
use Rattle.p4_ir.specs.P4Kinds.{kinds_fit}
use Rattle.p4_ir.specs.P4Tree.{Program}
use Rattle.p4_run.proofs.WidthFacts.{Widths, widths_of}
use Rattle.p4_run.specs.States.{fields_fit}
use Rattle.p4_run.proofs.TableFacts.{kinds_of}

pub fit_false : (ws ns : List ℕ) → (length ws ≡ length ns → ⊥) → fields_fit ws ns ≡ false
fit_false [] [] h = absurd (h refl)
fit_false [] (n ∷ ns) h = refl
fit_false (w ∷ ws) [] h = refl
fit_false (w ∷ ws) (n ∷ ns) h = and_right (nat_lt n (2 ^ w)) (fields_fit ws ns) (fit_false ws ns (λ e. h (ap suc e)))

pub fit_true : (ws ns : List ℕ) → fields_fit ws ns ≡ true → FieldsFit ws ns
fit_true [] [] h = tt
fit_true [] (n ∷ ns) h = absurd (cc)
fit_true (w ∷ ws) [] h = absurd (cc)
fit_true (w ∷ ws) (n ∷ ns) h = let parts = and_parts (nat_lt n (2 ^ w)) (fields_fit ws ns) h in (ltb-true n (2 ^ w) parts.0, fit_true ws ns parts.1)

pub true_fit : (ws ns : List ℕ) → FieldsFit ws ns → fields_fit ws ns ≡ true
true_fit [] [] f = refl
true_fit [] (n ∷ ns) f = absurd f
true_fit (w ∷ ws) [] f = absurd f
true_fit (w ∷ ws) (n ∷ ns) f = and_from (nat_lt n (2 ^ w)) (fields_fit ws ns) (lt-ltb n (2 ^ w) f.0) (true_fit ws ns f.1)

pub declared_at : (p : Program) → kinds_fit p ≡ true → Widths p
declared_at p h = widths_of p (kinds_of p h).widths
