-- Values that are looked up twice are the same.
use Rattle.std.specs.Prelude.{◌≡◌, Option, Some}
use Rattle.std.proofs.Common.{◌∙◌, ap}

pub some_same : {A : Type 0} (o : Option A) (x y : A) → o ≡ Some x → o ≡ Some y → x ≡ y
some_same o x y a b = cc

-- values that are looked up by equal keys
pub found_same : {A B : Type 0} (f : A → Option B) (a b : A) (x y : B) → a ≡ b → f a ≡ Some x → f b ≡ Some y → x ≡ y
found_same f a b x y e p q = some_same (f a) x y p (ap f e ∙ q)
